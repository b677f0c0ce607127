-- Sums over the digits of a number, taken from the lowest digit on.
use Rattle.std.proofs.Common.{◌≡◌, ℕ, zero, suc, ◌+◌, ◌*◌, ◌/◌, ◌%◌, ◌^◌, ◌<◌, sym, refl, ap, ◌∙◌, ap₂, add-zero, add_assoc, mul_assoc, mul_comm, pow-suc, mul-zero, zero-add, mul-one, mul-add, div-one, arith}
use native.Mathlib.Nat.{pow-zero, div-div-eq-div-mul}
use Rattle.ciphers.specs.Present.{sum, digit}

pub sum_front : (f : ℕ → ℕ) (n : ℕ) → sum f (suc n) ≡ f 0 + sum (λ i. f (suc i)) n
unfolding sum
sum_front f zero = zero-add (f 0) ∙ sym (add-zero (f 0))
sum_front f (suc n) = ap (λ (x : ℕ). x + f (suc n)) (sum_front f n) ∙ add_assoc (f 0) (sum (λ i. f (suc i)) n) (f (suc n))

pub sum_ext : (f g : ℕ → ℕ) (n : ℕ) → ((i : ℕ) → i < n → f i ≡ g i) → sum f n ≡ sum g n
unfolding sum
sum_ext f g zero h = refl
sum_ext f g (suc n) h =
    ap₂ (λ (x y : ℕ). x + y) (sum_ext f g n (λ i p. h i (omega arith))) (h n (omega arith))

pub sum_scale : (c : ℕ) (f : ℕ → ℕ) (n : ℕ) → sum (λ i. c * f i) n ≡ c * sum f n
unfolding sum
sum_scale c f zero = sym (mul-zero c)
sum_scale c f (suc n) = ap (λ (x : ℕ). x + c * f n) (sum_scale c f n) ∙ sym (mul-add c (sum f n) (f n))

next : (b s i : ℕ) → s / b ^ suc i ≡ s / b / b ^ i
next b s i = ap (λ (x : ℕ). s / x) (pow-suc b i ∙ mul_comm (b ^ i) b) ∙ sym (div-div-eq-div-mul s b (b ^ i))

pub around : (f p c : ℕ) → f * (p * c) ≡ c * (f * p)
around f p c = sym (mul_assoc f p c) ∙ mul_comm (f * p) c

-- F of each of the n lowest digits in base b, with the weights 1, c, c * c ..
unfoldable pub folded : (ℕ → ℕ) → ℕ → ℕ → ℕ → ℕ → ℕ
folded F b c zero s = 0
folded F b c (suc n) s = F (s % b) + c * folded F b c n (s / b)

pub sum_folded : (F : ℕ → ℕ) (b c n s : ℕ) → sum (λ i. F (digit b s i) * c ^ i) n ≡ folded F b c n s
unfolding sum folded
sum_folded F b c zero s = refl
sum_folded F b c (suc n) s =
    sum_front (λ i. F (digit b s i) * c ^ i) n
    ∙ ap₂ (λ (x y : ℕ). x + y)
    (ap₂ (λ (x y : ℕ). F (s / x % b) * y) (pow-zero b) (pow-zero c) ∙ mul-one (F (s / 1 % b)) ∙ ap (λ (x : ℕ). F (x % b)) (div-one s))
    (sum_ext (λ i. F (digit b s (suc i)) * c ^ suc i) (λ i. c * (F (digit b (s / b) i) * c ^ i)) n
    (λ i p. ap₂ (λ (x y : ℕ). F (x % b) * y) (next b s i) (pow-suc c i) ∙ around (F (digit b (s / b) i)) (c ^ i) c)
    ∙ sum_scale c (λ i. F (digit b (s / b) i) * c ^ i) n
    ∙ ap (λ (x : ℕ). c * x) (sum_folded F b c n (s / b)))
