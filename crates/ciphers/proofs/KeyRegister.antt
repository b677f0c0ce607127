-- The key register of PRESENT in two numbers.
use Rattle.std.proofs.Common.{◌≡◌, ℕ, ◌+◌, ◌*◌, ◌/◌, ◌%◌, ◌^◌, ◌<◌, sym, ap, ◌∙◌, ap₂, add-zero, arith, pow_pos, shr-shr}
use lib.Bits.{bit_or, bit_xor, or_shifted, xor_block, xor_mod, xor_shr, xor_zero_r}
use lib.Pow.{field, mod-mod-pow, split}
use Rattle.ciphers.specs.Present.{s_box, turned, boxed, update}
use Rattle.ciphers.specs.Parts.{boxed_top, change}
use Rattle.ciphers.proofs.Tables.{agree}

-- the change of the highest nibble makes the S-box of it
pub changed_top : (u : ℕ) → u < 2 ^ 64 → bit_xor u (change (u / 2 ^ 60)) ≡ boxed_top u
changed_top u h =
    let n : ℕ = u / 2 ^ 60 in
    let r : ℕ = u % 2 ^ 60 in
    let few : n < 16 = omega arith in
    let less : r < 2 ^ 60 = omega arith in
    ap₂ bit_xor (sym (split u 60)) (sym (add-zero (change n)))
    ∙ xor_block 60 n (bit_xor (s_box n) n) r 0 less (pow_pos 60)
    ∙ ap₂ (λ (x y : ℕ). x * 2 ^ 60 + y) (agree (λ n. bit_xor n (bit_xor (s_box n) n)) s_box 16 tt n few) (xor_zero_r r)

-- the key register k in its two numbers
abbrev Held : ℕ → ℕ → ℕ → Type 0
Held k upper lower = (upper ≡ k / 2 ^ 16) × (lower % 2 ^ 19 ≡ k % 2 ^ 19)

-- two numbers that agree where both have bits are some register's
of_two : (u l : ℕ) → l / 2 ^ 16 % 2 ^ 3 ≡ u % 2 ^ 3 → Held (u * 2 ^ 16 + l % 2 ^ 16) u l
of_two u l e = (omega arith, omega arith)

in_two_numbers : (k u l : ℕ) → Held k u l → (u * 2 ^ 16 + l % 2 ^ 16 ≡ k) × (l / 2 ^ 16 % 2 ^ 3 ≡ u % 2 ^ 3)
in_two_numbers k u l h = (omega (arith, h.0, h.1), omega (arith, h.0, h.1))

-- a shift out of 64 or 80 bits leaves the 19 lowest
out_64 : (x : ℕ) → (x * 2 ^ 45) % 2 ^ 64 ≡ x % 2 ^ 19 * 2 ^ 45
out_64 x = omega (arith, split x 19)

out_80 : (x : ℕ) → (x * 2 ^ 61) % 2 ^ 80 ≡ x % 2 ^ 19 * 2 ^ 61
out_80 x = omega (arith, split x 19)

-- the register turned: bits 79 to 16, and the lowest 19
turned_upper : (k u l : ℕ) → u < 2 ^ 64 → Held k u l → bit_or ((l * 2 ^ 45) % 2 ^ 64) (u / 2 ^ 19) ≡ turned k / 2 ^ 16
turned_upper k u l h e =
    let small : u / 2 ^ 19 < 2 ^ 45 = omega arith in
    let far : u / 2 ^ 19 ≡ k / 2 ^ 19 / 2 ^ 16 = ap (λ (x : ℕ). x / 2 ^ 19) e.0 ∙ shr-shr k 16 19 ∙ sym (shr-shr k 19 16) in
    let whole : turned k ≡ k % 2 ^ 19 * 2 ^ 61 + k / 2 ^ 19 = ap (λ (x : ℕ). x + k / 2 ^ 19) (out_80 k) in
    let near : (l * 2 ^ 45) % 2 ^ 64 ≡ k % 2 ^ 19 * 2 ^ 45 = out_64 l ∙ ap (λ (x : ℕ). x * 2 ^ 45) e.1 in
    ap (λ (x : ℕ). bit_or x (u / 2 ^ 19)) near ∙ or_shifted (k % 2 ^ 19) 45 (u / 2 ^ 19) small ∙ omega arith

past : (a b : ℕ) → (a * 2 ^ 61 + b) % 2 ^ 19 ≡ b % 2 ^ 19
past a b = omega arith

turned_lower : (k u : ℕ) → u ≡ k / 2 ^ 16 → u / 2 ^ 3 % 2 ^ 19 ≡ turned k % 2 ^ 19
turned_lower k u e =
    ap (λ (x : ℕ). x / 2 ^ 3 % 2 ^ 19) e ∙ ap (λ (x : ℕ). x % 2 ^ 19) (shr-shr k 16 3)
    ∙ sym (ap (λ (x : ℕ). (x + k / 2 ^ 19) % 2 ^ 19) (out_80 k) ∙ past (k % 2 ^ 19) (k / 2 ^ 19))

boxed_upper : (k : ℕ) → boxed k / 2 ^ 16 ≡ boxed_top (k / 2 ^ 16)
boxed_upper k =
    let top : k / 2 ^ 16 / 2 ^ 60 ≡ k / 2 ^ 76 = shr-shr k 16 60 in
    let rest : k % 2 ^ 76 / 2 ^ 16 ≡ k / 2 ^ 16 % 2 ^ 60 = field k 60 16 in
    rw top (omega arith)

boxed_lower : (k : ℕ) → boxed k % 2 ^ 19 ≡ k % 2 ^ 19
boxed_lower k =
    let rest : k % 2 ^ 76 % 2 ^ 19 ≡ k % 2 ^ 19 = mod-mod-pow k 57 19 in
    omega arith

updated : (k u l t i : ℕ) → u < 2 ^ 64 → i < 32 → t ≡ boxed_top (bit_or ((l * 2 ^ 45) % 2 ^ 64) (u / 2 ^ 19)) → Held k u l
    → Held (update i k) (bit_xor t (i / 2)) (bit_xor (u / 2 ^ 3) ((i * 2 ^ 15) % 2 ^ 64))
unfolding update
updated k u l t i h few e held =
    let half : i * 2 ^ 15 / 2 ^ 16 ≡ i / 2 = omega arith in
    let kept : (i * 2 ^ 15) % 2 ^ 64 ≡ i * 2 ^ 15 = omega arith in (
      ap₂ bit_xor (e ∙ ap boxed_top (turned_upper k u l h held) ∙ sym (boxed_upper (turned k))) (sym half)
          ∙ sym (xor_shr (boxed (turned k)) (i * 2 ^ 15) 16),
      ap (λ (x : ℕ). bit_xor (u / 2 ^ 3) x % 2 ^ 19) kept ∙ xor_mod (u / 2 ^ 3) (i * 2 ^ 15) 19
          ∙ ap (λ (x : ℕ). bit_xor x (i * 2 ^ 15 % 2 ^ 19)) (turned_lower k u held.0 ∙ sym (boxed_lower (turned k)))
          ∙ sym (xor_mod (boxed (turned k)) (i * 2 ^ 15) 19),
    )

-- the register's two numbers after a round
pub advanced : (u l t i : ℕ) → l / 2 ^ 16 % 2 ^ 3 ≡ u % 2 ^ 3 → u < 2 ^ 64 → i < 32 → t ≡ boxed_top (bit_or ((l * 2 ^ 45) % 2 ^ 64) (u / 2 ^ 19))
    → (bit_xor t (i / 2) * 2 ^ 16 + bit_xor (u / 2 ^ 3) ((i * 2 ^ 15) % 2 ^ 64) % 2 ^ 16 ≡ update i (u * 2 ^ 16 + l % 2 ^ 16))
    × (bit_xor (u / 2 ^ 3) ((i * 2 ^ 15) % 2 ^ 64) / 2 ^ 16 % 2 ^ 3 ≡ bit_xor t (i / 2) % 2 ^ 3)
advanced u l t i agree h few e =
    in_two_numbers _ _ _ (updated (u * 2 ^ 16 + l % 2 ^ 16) u l t i h few e (of_two u l agree))
