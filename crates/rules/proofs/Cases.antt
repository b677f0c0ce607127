-- Tests, lists, and how an outcome is taken apart.
use Rattle.std.proofs.Common.{◌≡◌, ℕ, zero, suc, Bool, true, false, T, eqb, List, [], ◌∷◌, get_or, drop, set, Some, None, Option, refl, ap, subst, inl, inr, eqb→eq}
use Rattle.std.proofs.lemmas.Bool.{eqb-true, eq-eqb}
use Rattle.vocabulary.specs.Refusals.{Reason}
use Rattle.rules.specs.Console.{Outcome, refuse, ask, need, unless, is_at}
use Rattle.rules.specs.Lists.{Any, All}

pub true_t : (b : Bool) → T b → b ≡ true
true_t true t = refl
true_t false t = absurd t

pub eqb_same : (s : ℕ) → eqb s s ≡ true
eqb_same s = eq-eqb s s refl

pub at_or_off : (s t : ℕ) (P : ℕ → Type 0) → P s → (eqb s t ≡ false → P t) → P t
at_or_off s t P y n = go (eqb s t) refl
  where
    go : (b : Bool) → eqb s t ≡ b → P t
    go true e = subst P (eqb-true s t e) y
    go false e = n e

pub is_at_some : (o : Option ℕ) (i : ℕ) → T (is_at o i) → o ≡ Some i
is_at_some None i h = absurd h
is_at_some (Some j) i h = ap Some (eqb→eq j i h)

-- ---- outcomes
pub ask_either : (P : Outcome → Type 0) (b : Bool) (f : Reason) (o : Outcome) → (b ≡ false → P (refuse f)) → (T b → P o) → P (ask b f o)
ask_either P true f o n y = y tt
ask_either P false f o n y = n refl

pub ask_case : (P : Outcome → Type 0) (b : Bool) (f : Reason) (o : Outcome) → P (refuse f) → (T b → P o) → P (ask b f o)
ask_case P b f o n y = ask_either P b f o (λ _. n) y

pub need_case : {A : Type 0} (P : Outcome → Type 0) (x : Option A) (f : Reason) (g : A → Outcome) → P (refuse f) → ((a : A) → x ≡ Some a → P (g a)) → P (need x f g)
need_case P None f g n y = n
need_case P (Some a) f g n y = y a refl

pub unless_case : (P : Outcome → Type 0) (x : Option ℕ) (f : ℕ → Reason) (o : Outcome) → ((i : ℕ) → x ≡ Some i → P (refuse (f i))) → (x ≡ None → P o) → P (unless x f o)
unless_case P None f o n y = y refl
unless_case P (Some i) f o n y = n i refl

-- ---- lists
pub all_get_d : (P : ℕ → Type 0) (xs : List ℕ) (i : ℕ) → All P xs → P 0 → P (get_or xs i 0)
all_get_d P [] i h z = z
all_get_d P (x ∷ xs) zero h z = h.0
all_get_d P (x ∷ xs) (suc i) h z = all_get_d P xs i h.1 z

pub all_set : (P : ℕ → Type 0) (xs : List ℕ) (i : ℕ) (y : ℕ) → All P xs → P y → All P (set xs i y)
all_set P [] i y h z = tt
all_set P (x ∷ xs) zero y h z = (z, h.1)
all_set P (x ∷ xs) (suc i) y h z = (h.0, all_set P xs i y h.1 z)

pub all_map {ℓ} : {A : Type ℓ} (P Q : A → Type 0) → ((a : A) → P a → Q a) → (xs : List A) → All P xs → All Q xs
all_map P Q f [] h = tt
all_map P Q f (x ∷ xs) h = (f x h.0, all_map P Q f xs h.1)

pub any_map {ℓ} : {A : Type ℓ} (P Q : A → Type 0) → ((a : A) → P a → Q a) → (xs : List A) → Any P xs → Any Q xs
any_map P Q f [] h = h
any_map P Q f (x ∷ xs) (inl h) = inl (f x h)
any_map P Q f (x ∷ xs) (inr h) = inr (any_map P Q f xs h)

pub heads : {A : Type 0} (d x y : A) (xs ys : List A) → x ∷ xs ≡ y ∷ ys → x ≡ y
heads d x y xs ys e = ap (λ l. get_or l 0 d) e

pub tails : {A : Type 0} (x y : A) (xs ys : List A) → x ∷ xs ≡ y ∷ ys → xs ≡ ys
tails x y xs ys e = ap (drop 1) e

is_nil : {A : Type 0} → List A → Bool
is_nil [] = true
is_nil (x ∷ xs) = false

pub nil_not_cons : {A : Type 0} (x : A) (xs : List A) → [] ≡ x ∷ xs → ⊥
unfolding is_nil
nil_not_cons x xs e = subst (λ l. T (is_nil l)) e tt
