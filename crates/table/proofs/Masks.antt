-- Domains bit by bit: the mask of a context, and domains that lie within others.
use Rattle.std.proofs.Common.{◌≡◌, ℕ, ◌*◌, ◌/◌, ◌%◌, ◌^◌, ◌<◌, ◌≤◌, true, ap, ◌∙◌, inl, inr, arith}
use lib.Bits.{bit_and, bit_or, bit_xor}
use Rattle.std.specs.Int.{bit_at}
use Rattle.std.proofs.lemmas.Nat.{one_shl}
use Rattle.std.proofs.lemmas.Nat.Bits.{shr_and_one, bit_at_and, bit_at_or, bit_at_xor, bit_at-pow_other, bit_at-lt, same_from_bits}
use Rattle.std.proofs.lemmas.Bool.{cases_eq, eq-eqb, eqb-true}
use Rattle.rules.specs.Domains.{has, with_context, without_context}

pub with_mask : (d c : ℕ) → c < 16 → bit_or d ((1 * 2 ^ c) % 65536) ≡ with_context d c
unfolding with_context
with_mask d c l = ap (bit_or d) (one_shl c 16 l)

pub without_mask : (d c : ℕ) → c < 16 → bit_xor d (bit_and d ((1 * 2 ^ c) % 65536)) ≡ without_context d c
unfolding without_context
without_mask d c l = ap (λ m. bit_xor d (bit_and d m)) (one_shl c 16 l)

-- the bit of a context, as the code tests it
pub has_so : (d c : ℕ) → (bit_and (d / 2 ^ c) 1 ≡ 0 → ⊥) → has d c ≡ true
has_so d c z = eq-eqb (d / 2 ^ c % 2) 1 (omega (arith, shr_and_one d c, bit_at-lt d c, z))

-- domain d lies within r just where r has each of its bits
bits_of : (d r : ℕ) → bit_or d r ≡ r → (i : ℕ) → bit_at d i ≤ bit_at r i
bits_of d r h i = omega (arith, bit_at_or d r i, ap (λ n. bit_at n i) h)

from_bits : (d r : ℕ) → ((i : ℕ) → bit_at d i ≤ bit_at r i) → bit_or d r ≡ r
from_bits d r f = same_from_bits _ _ (λ i. omega (arith, bit_at_or d r i, f i))

-- the master's domain e has context c, which domain d gains
pub gains_within : (d e r c : ℕ) → bit_or d r ≡ r → bit_or e r ≡ r → has e c ≡ true → bit_or (with_context d c) r ≡ r
unfolding with_context
gains_within d e r c hd he h = from_bits _ r (λ i. elim (cases_eq i c) [
  | inl q ↦ omega (arith, bits_of e r he i, bit_at-lt (bit_or d (2 ^ c)) i, ap (bit_at e) q ∙ eqb-true (e / 2 ^ c % 2) 1 h)
  | inr n ↦ omega (arith, bits_of d r hd i, bit_at_or d (2 ^ c) i, bit_at-pow_other c i n)
])

pub loses_within : (d r c : ℕ) → bit_or d r ≡ r → bit_or (without_context d c) r ≡ r
unfolding without_context
loses_within d r c h = from_bits _ r (λ i. omega (arith, bits_of d r h i, bit_at-lt d i, bit_at_xor d (bit_and d (2 ^ c)) i, bit_at_and d (2 ^ c) i))

-- the union of domains: what lies within a part lies within it
pub or_left : (d r e : ℕ) → bit_or d r ≡ r → bit_or d (bit_or r e) ≡ bit_or r e
or_left d r e h = from_bits d _ (λ i. omega (arith, bits_of d r h i, bit_at_or r e i))

pub or_right : (r e : ℕ) → bit_or e (bit_or r e) ≡ bit_or r e
or_right r e = from_bits e _ (λ i. omega (arith, bit_at_or r e i))
