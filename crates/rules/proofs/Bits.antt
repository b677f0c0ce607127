-- The contexts of a domain, bit by bit.
use Rattle.std.proofs.Common.{◌≡◌, ℕ, zero, suc, ◌+◌, ◌-◌, ◌/◌, ◌%◌, ◌^◌, ◌<◌, ◌≤◌, Bool, true, false, not, T, eqb, ◌⊎◌, List, [], ◌∷◌, get_or, sym, refl, ap, ◌∙◌, subst, ap₂, inl, inr, arith, eqb→eq}
use lib.Bits.{bit_and, bit_or, bit_xor, or_shr, and_shr, xor_shr, or_mod, and_mod, xor_mod}
use native.Mathlib.Nat.{div-eq_of_lt, zero-div, div-div-eq-div-mul}
use native.Mathlib.Decide.{dec_lt}
use Rattle.std.proofs.lemmas.Bool.{eqb-true}
use Rattle.std.proofs.lemmas.Nat.{pow-add, shl-shr, mod_below, pow_below}
use Rattle.vocabulary.specs.declared.access.Right.{Right}
use Rattle.rules.specs.Domains.{has, shares, with_context, without_context, Fields, permits, Within, Allow}
use Rattle.rules.specs.Lists.{All}
use Rattle.rules.proofs.Cases.{all_get_d, all_map, any_map}

bit : ℕ → ℕ → ℕ
bit d j = d / 2 ^ j % 2

bit_cases : (x : ℕ) → x < 2 → (x ≡ 0) ⊎ (x ≡ 1)
bit_cases zero h = inl refl
bit_cases (suc zero) h = inr refl
bit_cases (suc (suc x)) h = absurd (omega arith)

bit_01 : (d j : ℕ) → (bit d j ≡ 0) ⊎ (bit d j ≡ 1)
unfolding bit
bit_01 d j = bit_cases (d / 2 ^ j % 2) (mod_below (d / 2 ^ j) 2 (omega arith))

is_1 : (x : ℕ) → x ≡ 1 → T (eqb x 1)
is_1 x e = subst (λ y. T (eqb y 1)) (sym e) tt

or_bit : (d e j : ℕ) → bit (bit_or d e) j ≡ bit_or (bit d j) (bit e j)
unfolding bit
or_bit d e j = ap (λ x. x % 2) (or_shr d e j) ∙ or_mod (d / 2 ^ j) (e / 2 ^ j) 1

and_bit : (d e j : ℕ) → bit (bit_and d e) j ≡ bit_and (bit d j) (bit e j)
unfolding bit
and_bit d e j = ap (λ x. x % 2) (and_shr d e j) ∙ and_mod (d / 2 ^ j) (e / 2 ^ j) 1

xor_bit : (d e j : ℕ) → bit (bit_xor d e) j ≡ bit_xor (bit d j) (bit e j)
unfolding bit
xor_bit d e j = ap (λ x. x % 2) (xor_shr d e j) ∙ xor_mod (d / 2 ^ j) (e / 2 ^ j) 1

has_or : (d e j : ℕ) → T (has (bit_or d e) j) → T (has d j) ⊎ T (has e j)
unfolding bit
has_or d e j h = go (bit_01 d j) (bit_01 e j)
  where
    go : (bit d j ≡ 0) ⊎ (bit d j ≡ 1) → (bit e j ≡ 0) ⊎ (bit e j ≡ 1) → T (has d j) ⊎ T (has e j)
    go (inr x) b = inl (is_1 (bit d j) x)
    go (inl x) (inr y) = inr (is_1 (bit e j) y)
    go (inl x) (inl y) = absurd (subst (λ z. T (eqb z 1)) (or_bit d e j ∙ ap₂ bit_or x y) h)

has_and : (d e j : ℕ) → T (has (bit_and d e) j) → T (has d j) × T (has e j)
unfolding bit
has_and d e j h = go (bit_01 d j) (bit_01 e j)
  where
    go : (bit d j ≡ 0) ⊎ (bit d j ≡ 1) → (bit e j ≡ 0) ⊎ (bit e j ≡ 1) → T (has d j) × T (has e j)
    go (inr x) (inr y) = (is_1 (bit d j) x, is_1 (bit e j) y)
    go (inl x) (inl y) = absurd (subst (λ z. T (eqb z 1)) (and_bit d e j ∙ ap₂ bit_and x y) h)
    go (inl x) (inr y) = absurd (subst (λ z. T (eqb z 1)) (and_bit d e j ∙ ap₂ bit_and x y) h)
    go (inr x) (inl y) = absurd (subst (λ z. T (eqb z 1)) (and_bit d e j ∙ ap₂ bit_and x y) h)

and_has : (d e j : ℕ) → T (has d j) → T (has e j) → T (has (bit_and d e) j)
unfolding bit
and_has d e j g h = is_1 (bit (bit_and d e) j) (and_bit d e j ∙ ap₂ bit_and (eqb→eq (bit d j) 1 g) (eqb→eq (bit e j) 1 h))

has_without : (d c j : ℕ) → T (has (without_context d c) j) → T (has d j)
unfolding bit without_context
has_without d c j h = go (bit_01 d j) (bit_01 (2 ^ c) j)
  where
    off : (x y : ℕ) → bit d j ≡ x → bit (2 ^ c) j ≡ y → T (eqb (bit_xor x (bit_and x y)) 1)
    off x y p q = subst (λ z. T (eqb z 1)) (xor_bit d (bit_and d (2 ^ c)) j ∙ ap₂ bit_xor p (and_bit d (2 ^ c) j ∙ ap₂ bit_and p q)) h

    go : (bit d j ≡ 0) ⊎ (bit d j ≡ 1) → (bit (2 ^ c) j ≡ 0) ⊎ (bit (2 ^ c) j ≡ 1) → T (has d j)
    go (inr x) b = is_1 (bit d j) x
    go (inl x) (inl y) = absurd (off 0 0 x y)
    go (inl x) (inr y) = absurd (off 0 1 x y)

-- a power of two has one context
has_pow : (c j : ℕ) → T (has (2 ^ c) j) → c ≡ j
has_pow c j h = go (dec_lt c j) (dec_lt j c)
  where
    below : c < j → ⊥
    below l = subst (λ x. T (eqb (x % 2) 1)) (div-eq_of_lt (pow_below c j l)) h

    above : (k : ℕ) → suc k + j ≡ c → ⊥
    above k e =
        let p : 2 ^ c / 2 ^ j ≡ 2 ^ suc k = ap (λ x. 2 ^ x / 2 ^ j) (sym e) ∙ ap (λ x. x / 2 ^ j) (pow-add 2 (suc k) j) ∙ shl-shr (2 ^ suc k) j in
        let z : 2 ^ suc k % 2 ≡ 0 = omega arith in
        subst (λ x. T (eqb x 1)) (ap (λ x. x % 2) p ∙ z) h

    go : Dec (c < j) → Dec (j < c) → c ≡ j
    go (yes l) d = absurd (below l)
    go (no n) (yes l) = absurd (above (c - j - 1) (omega arith))
    go (no n) (no m) = omega arith

has_with : (d c j : ℕ) → T (has (with_context d c) j) → T (has d j) ⊎ (c ≡ j)
unfolding with_context
has_with d c j h = elim (has_or d (2 ^ c) j h) [ inl x ↦ inl x | inr y ↦ inr (has_pow c j y) ]

has_zero : (j : ℕ) → T (has 0 j) → ⊥
has_zero j h = subst (λ x. T (eqb (x % 2) 1)) (zero-div (2 ^ j)) h

-- a number other than 0 has a set bit
halve : (n j : ℕ) → T (has (n / 2) j) → T (has n (suc j))
halve n j h =
    let q : 1 + j ≡ suc j = omega arith in
    subst (λ x. T (eqb (x % 2) 1)) (div-div-eq-div-mul n 2 (2 ^ j) ∙ ap (λ p. n / p) (sym (pow-add 2 1 j)) ∙ ap (λ i. n / 2 ^ i) q) h

set_bit : (k n : ℕ) → n ≤ k → ¬ (n ≡ 0) → (j : ℕ) × T (has n j)
set_bit zero n l z = absurd (z (omega arith))
set_bit (suc k) n l z = go (λ y. set_bit k (n / 2) (omega arith) y) (bit_cases (n % 2) (omega arith))
  where
    go : (¬ (n / 2 ≡ 0) → (j : ℕ) × T (has (n / 2) j)) → (n % 2 ≡ 0) ⊎ (n % 2 ≡ 1) → (j : ℕ) × T (has n j)
    go ih (inr e) = (0, subst (λ x. T (eqb x 1)) (let q : 1 ≡ n / 2 ^ 0 % 2 = omega (arith, e) in q) tt)
    go ih (inl e) =
        let x = ih (λ q. z (omega (arith, e, q))) in
        (suc x.0, halve n x.0 x.1)

-- ---- sharing a bit is having a context in common
pub shared : (d f : ℕ) → T (shares d f) → (j : ℕ) × T (has d j) × T (has f j)
shared d f h =
    let x = set_bit (bit_and d f) (bit_and d f) (omega arith) (λ q. other (bit_and d f) q h) in
    let y = has_and d f x.0 x.1 in
    (x.0, y.0, y.1)
  where
    other : (n : ℕ) → n ≡ 0 → T (not (eqb n 0)) → ⊥
    other n q h = subst (λ m. T (not (eqb m 0))) q h

pub in_common : (d f j : ℕ) → T (has d j) → T (has f j) → T (shares d f)
in_common d f j g h = go (eqb (bit_and d f) 0) refl
  where
    go : (b : Bool) → eqb (bit_and d f) 0 ≡ b → T (not b)
    go true e = absurd (has_zero j (subst (λ n. T (has n j)) (eqb-true (bit_and d f) 0 e) (and_has d f j g h)))
    go false e = tt

-- ---- domains within others
pub within_zero : (ds : List ℕ) → Within 0 ds
unfolding Within
within_zero ds j h = absurd (has_zero j h)

pub within_with : (d c e : ℕ) (ds : List ℕ) → Within d ds → Within e ds → T (has e c) → Within (with_context d c) ds
unfolding Within
within_with d c e ds hd he m j h =
    elim (has_with d c j h) [ inl x ↦ hd j x | inr q ↦ he j (subst (λ i. T (has e i)) q m) ]

pub within_without : (d c : ℕ) (ds : List ℕ) → Within d ds → Within (without_context d c) ds
unfolding Within
within_without d c ds hd j h = hd j (has_without d c j h)

-- each of some domains lies within them
pub within_all : (ds : List ℕ) → All (λ e. Within e ds) ds
unfolding Within
within_all [] = tt
within_all (d ∷ ds) = (λ j h. inl h, all_map (λ e. Within e ds) (λ e. Within e (d ∷ ds)) (λ e w j h. inr (w j h)) ds (within_all ds))

pub within_first : (ds : List ℕ) → Within (get_or ds 0 0) ds
within_first ds = all_get_d (λ d. Within d ds) ds 0 (within_all ds) (within_zero ds)

-- what a domain permits is allowed by the domains within which it lies
pub allow_within : (field : Fields) (d : ℕ) (ds : List ℕ) (x : Right) (q : ℕ) → Within d ds → T (permits field d x q) → Allow field ds x q
unfolding Within
allow_within field d ds x q w h =
    let z = shared d (field x q) h in
    any_map (λ e. T (has e z.0)) (λ e. T (permits field e x q)) (λ e y. in_common e (field x q) z.0 y z.2) ds (w z.0 z.1)
