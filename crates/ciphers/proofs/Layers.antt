-- The S-box layer and then the permutation of PRESENT, byte by byte: each byte gives a pattern of bits, 2 places on for each byte.
use Rattle.std.proofs.Common.{◌≡◌, ℕ, zero, suc, ◌+◌, ◌*◌, ◌/◌, ◌%◌, ◌^◌, ◌<◌, ◌≤◌, ltb, sym, refl, ap, ◌∙◌, ap₂, pow-suc, div-one, arith, ltb→lt, shr-shr}
use native.Mathlib.Nat.{div-div-eq-div-mul}
use lib.Pow.{mod-mod-pow, field}
use Rattle.ciphers.specs.Present.{sum, digit, s_box, s_box_layer, place, p_layer}
use Rattle.ciphers.specs.Parts.{spread, pattern, column}
use Rattle.ciphers.proofs.Digits.{around, sum_front, sum_ext, sum_scale, folded, sum_folded}
use Rattle.ciphers.proofs.Tables.{agree, at}

-- the place of bit i: its place in the nibble times 16, and the nibble's number
abbrev spot : ℕ → ℕ
spot i = 16 * (i % 4) + i / 4

place_spot : (i : ℕ) → i < 64 → place i ≡ spot i
place_spot = agree place spot 64 tt

s_box_small : (i : ℕ) → i < 16 → s_box i < 16
s_box_small i h = ltb→lt (s_box i) 16 (at (λ n. ltb (s_box n) 16) 16 tt i h)

abbrev quad : ℕ → ℕ
quad zero = zero
quad (suc n) = suc (suc (suc (suc (quad n))))

term : ℕ → ℕ → ℕ
term s i = digit 2 s i * 2 ^ spot i

sixteen : (i : ℕ) → 2 ^ suc (suc (suc (suc i))) ≡ 16 * 2 ^ i
sixteen i = simp pow-suc (omega arith)

onward : (i : ℕ) → spot (suc (suc (suc (suc i)))) ≡ suc (spot i)
onward i = omega arith

shift : (s i : ℕ) → term s (suc (suc (suc (suc i)))) ≡ 2 * term (s / 16) i
unfolding term
shift s i =
    ap₂ (λ (x y : ℕ). s / x % 2 * 2 ^ y) (sixteen i) (onward i)
    ∙ ap₂ (λ (x y : ℕ). x % 2 * y) (sym (div-div-eq-div-mul s 16 (2 ^ i))) (pow-suc 2 (spot i))
    ∙ around (digit 2 (s / 16) i) (2 ^ spot i) 2

front4 : (f : ℕ → ℕ) (n : ℕ) → sum f (suc (suc (suc (suc n)))) ≡ f 0 + (f 1 + (f 2 + (f 3 + sum (λ i. f (suc (suc (suc (suc i))))) n)))
front4 f n =
    sum_front f (suc (suc (suc n)))
    ∙ ap (λ (x : ℕ). f 0 + x) (sum_front (λ i. f (suc i)) (suc (suc n))
    ∙ ap (λ (x : ℕ). f 1 + x) (sum_front (λ i. f (suc (suc i))) (suc n)
    ∙ ap (λ (x : ℕ). f 2 + x) (sum_front (λ i. f (suc (suc (suc i)))) n)))

low : (r s : ℕ) → term s 0 + (term s 1 + (term s 2 + (term s 3 + 2 * r))) ≡ spread (s % 16) + 2 * r
unfolding term
low r s = omega arith

bits_folded : (n s : ℕ) → sum (term s) (quad n) ≡ folded spread 16 2 n s
unfolding sum folded
bits_folded zero s = refl
bits_folded (suc n) s =
    front4 (term s) (quad n)
    ∙ ap (λ (x : ℕ). term s 0 + (term s 1 + (term s 2 + (term s 3 + x))))
    (sum_ext (λ i. term s (suc (suc (suc (suc i))))) (λ i. 2 * term (s / 16) i) (quad n) (λ i h. shift s i)
    ∙ sum_scale 2 (term (s / 16)) (quad n) ∙ ap (λ (x : ℕ). 2 * x) (bits_folded n (s / 16)))
    ∙ low (folded spread 16 2 n (s / 16)) s

p_folded : (s : ℕ) → p_layer s ≡ folded spread 16 2 16 s
unfolding p_layer term
p_folded s = sum_ext (λ i. digit 2 s i * 2 ^ place i) (term s) 64 (λ i h. ap (λ (x : ℕ). digit 2 s i * 2 ^ x) (place_spot i h)) ∙ bits_folded 16 s

low16 : (a r : ℕ) → a < 16 → (a + 16 * r) % 16 ≡ a
low16 a r h = omega arith

high16 : (a r : ℕ) → a < 16 → (a + 16 * r) / 16 ≡ r
high16 a r h = omega arith

folded_twice : (n s : ℕ) → folded spread 16 2 n (folded s_box 16 16 n s) ≡ folded (λ x. spread (s_box x)) 16 2 n s
unfolding folded
folded_twice zero s = refl
folded_twice (suc n) s =
    let small : s_box (s % 16) < 16 = s_box_small (s % 16) (omega arith) in
    ap₂ (λ (x y : ℕ). spread x + 2 * folded spread 16 2 n y) (low16 (s_box (s % 16)) (folded s_box 16 16 n (s / 16)) small) (high16 (s_box (s % 16)) (folded s_box 16 16 n (s / 16)) small)
    ∙ ap (λ (x : ℕ). spread (s_box (s % 16)) + 2 * x) (folded_twice n (s / 16))

abbrev double : ℕ → ℕ
double zero = zero
double (suc n) = suc (suc (double n))

regroup : (a b r : ℕ) → a + 2 * (b + 2 * r) ≡ a + 2 * b + 4 * r
regroup a b r = omega arith

in_pairs : (F : ℕ → ℕ) (n s : ℕ) → folded F 16 2 (double n) s ≡ folded (λ v. F (v % 16) + 2 * F (v / 16)) 256 4 n s
unfolding folded
in_pairs F zero s = refl
in_pairs F (suc n) s =
    let a : s % 256 % 16 ≡ s % 16 = mod-mod-pow s 4 4 in
    let b : s % 256 / 16 ≡ s / 16 % 16 = field s 4 4 in
    let d : s / 256 ≡ s / 16 / 16 = sym (shr-shr s 4 4) in
    let ih : folded F 16 2 (double n) (s / 16 / 16) ≡ folded (λ v. F (v % 16) + 2 * F (v / 16)) 256 4 n (s / 16 / 16) = in_pairs F n (s / 16 / 16) in
    ap (λ (x : ℕ). F (s % 16) + 2 * (F (s / 16 % 16) + 2 * x)) ih
    ∙ regroup (F (s % 16)) (F (s / 16 % 16)) (folded (λ v. F (v % 16) + 2 * F (v / 16)) 256 4 n (s / 16 / 16))
    ∙ rw (a, b, d)

layer_sum : (s : ℕ) → p_layer (s_box_layer s) ≡ sum (λ i. pattern (digit 256 s i) * 4 ^ i) 8
unfolding s_box_layer
layer_sum s =
    p_folded (s_box_layer s) ∙ ap (folded spread 16 2 16) (sum_folded s_box 16 16 16 s) ∙ folded_twice 16 s
    ∙ in_pairs (λ x. spread (s_box x)) 8 s ∙ sym (sum_folded pattern 256 4 8 s)

bytes : (F : ℕ → ℕ) (s : ℕ)
    → F (s % 2 ^ 8) + F (s / 2 ^ 32 % 2 ^ 8) * 2 ^ 8
    + (F (s / 2 ^ 8 % 2 ^ 8) + F (s / 2 ^ 40 % 2 ^ 8) * 2 ^ 8) * 2 ^ 2
    + (F (s / 2 ^ 16 % 2 ^ 8) + F (s / 2 ^ 48 % 2 ^ 8) * 2 ^ 8) * 2 ^ 4
    + (F (s / 2 ^ 24 % 2 ^ 8) + F (s / 2 ^ 56 % 2 ^ 8) * 2 ^ 8) * 2 ^ 6
    ≡ sum (λ i. F (digit 256 s i) * 4 ^ i) 8
unfolding sum
bytes F s = rw (div-one s) (omega arith)

-- bytes 0 and 4, 1 and 5, 2 and 6, 3 and 7
pub by_columns : (s : ℕ) → column s + column (s / 2 ^ 8) * 2 ^ 2 + column (s / 2 ^ 16) * 2 ^ 4 + column (s / 2 ^ 24) * 2 ^ 6 ≡ p_layer (s_box_layer s)
by_columns s = rw (shr-shr s 8 32, shr-shr s 16 32, shr-shr s 24 32) (bytes pattern s ∙ sym (layer_sum s))

-- no bit of a column is shifted out
pub within : (a b c d : ℕ) → b ≤ 0x0303_0303_0303_0303 → c ≤ 0x0303_0303_0303_0303 → d ≤ 0x0303_0303_0303_0303
    → a + (b * 2 ^ 2) % 2 ^ 64 + (c * 2 ^ 4) % 2 ^ 64 + (d * 2 ^ 6) % 2 ^ 64 ≡ a + b * 2 ^ 2 + c * 2 ^ 4 + d * 2 ^ 6
within a b c d hb hc hd = omega arith
