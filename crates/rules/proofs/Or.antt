-- Laws of bitwise or.
use Rattle.std.proofs.Common.{◌≡◌, ℕ, ◌/◌, ◌%◌, max, sym, refl, ap, ◌∙◌, arith}
use lib.Arith.{bin_ind}
use lib.Bits.{bit_or, or_step}

pub or_half : (a b : ℕ) → bit_or a b / 2 ≡ bit_or (a / 2) (b / 2)
or_half a b = omega (arith, or_step a b)

pub or_odd : (a b : ℕ) → bit_or a b % 2 ≡ max (a % 2) (b % 2)
or_odd a b = omega (arith, or_step a b)

pub same_digits : (a b : ℕ) → a / 2 ≡ b / 2 → a % 2 ≡ b % 2 → a ≡ b
same_digits a b p q = omega arith

pub or_assoc : (a b c : ℕ) → bit_or (bit_or a b) c ≡ bit_or a (bit_or b c)
or_assoc =
    bin_ind (λ (n : ℕ). (b c : ℕ) → bit_or (bit_or n b) c ≡ bit_or n (bit_or b c)) (λ b c. refl)
    (λ n ih b c. same_digits _ _
    (or_half (bit_or n b) c ∙ ap (λ x. bit_or x (c / 2)) (or_half n b) ∙ ih (b / 2) (c / 2) ∙ sym (or_half n (bit_or b c) ∙ ap (bit_or (n / 2)) (or_half b c)))
    (omega (arith, or_odd (bit_or n b) c, or_odd n b, or_odd n (bit_or b c), or_odd b c)))
