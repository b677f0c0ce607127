-- PRESENT-80, as in ISO/IEC 29192-2: a block of 64 bits, a key of 80 bits, 31 rounds. Bit 0 is the lowest.
use Rattle.std.specs.Prelude.{ℕ, zero, suc, ◌+◌, ◌*◌, ◌/◌, ◌%◌, ◌^◌, cond, [], ◌∷◌, ◌==◌, bit_xor, slice_index}
use Rattle.vocabulary.specs.declared.parameter.Parameter.{Parameter}

-- the S-box
abbrev pub s_box : ℕ → ℕ
s_box n =
    slice_index (0xC ∷ 0x5 ∷ 0x6 ∷ 0xB ∷ 0x9 ∷ 0x0 ∷ 0xA ∷ 0xD ∷ 0x3 ∷ 0xE ∷ 0xF ∷ 0x8 ∷ 0x4 ∷ 0x7 ∷ 0x1 ∷ 0x2 ∷ []) n

-- f 0 + .. + f (n - 1)
unfoldable pub sum : (ℕ → ℕ) → ℕ → ℕ
sum f zero = 0
sum f (suc n) = sum f n + f n

-- digit i of s in base b
abbrev pub digit : ℕ → ℕ → ℕ → ℕ
digit b s i = s / b ^ i % b

-- the S-box at each of the 16 nibbles
unfoldable pub s_box_layer : ℕ → ℕ
s_box_layer s = sum (λ i. s_box (digit 16 s i) * 16 ^ i) 16

-- the permutation: bit i goes to place 16 i modulo 63, but bit 63 stays
abbrev pub place : ℕ → ℕ
place i = cond (i == 63) 63 ((16 * i) % 63)

unfoldable pub p_layer : ℕ → ℕ
p_layer s = sum (λ i. digit 2 s i * 2 ^ place i) 64

-- the key register in the next round: turned left by 61 places, the S-box at bits 79 to 76, and the number of
-- the round that ends put in at bits 19 to 15
abbrev pub turned : ℕ → ℕ
turned k = (k * 2 ^ 61) % 2 ^ 80 + k / 2 ^ 19

abbrev pub boxed : ℕ → ℕ
boxed k = s_box (k / 2 ^ 76) * 2 ^ 76 + k % 2 ^ 76

unfoldable pub update : ℕ → ℕ → ℕ
update i k = bit_xor (boxed (turned k)) (i * 2 ^ 15)

-- the key register in round i + 1
unfoldable pub register : ℕ → ℕ → ℕ
register key zero = key
register key (suc i) = update (suc i) (register key i)

-- the round key is bits 79 to 16 of the register
abbrev pub add_round_key : ℕ → ℕ → ℕ
add_round_key k s = bit_xor s (k / 2 ^ 16)

-- the block after i rounds
unfoldable pub rounds : ℕ → ℕ → ℕ → ℕ
rounds key b zero = b
rounds key b (suc i) = p_layer (s_box_layer (add_round_key (register key i) (rounds key b i)))

-- 31 rounds, and the round key of a 32nd
unfoldable pub encrypted : ℕ → ℕ → ℕ
encrypted key b = add_round_key (register key 31) (rounds key b 31)

-- the key of a parameter: bits 79 to 64 are the low 16 bits of the high half, bits 63 to 0 the low half
abbrev pub key_of : Parameter → ℕ
key_of p = p.high % 2 ^ 16 * 2 ^ 64 + p.low
