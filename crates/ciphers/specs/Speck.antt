-- Speck64/128, as in IACR ePrint 2013/404: words of 32 bits, a block of two words, a key of four words, 27 rounds.
use Rattle.std.specs.Prelude.{ℕ, zero, suc, ◌+◌, ◌-◌, ◌*◌, ◌/◌, ◌%◌, ◌^◌, bit_or, bit_xor}
use Rattle.vocabulary.specs.declared.parameter.Parameter.{Parameter}

-- a word turned by r places, to the left and to the right
abbrev pub left : ℕ → ℕ → ℕ
left r x = bit_or ((x * 2 ^ r) % 2 ^ 32) (x / 2 ^ (32 - r))

abbrev pub right : ℕ → ℕ → ℕ
right r x = bit_or (x / 2 ^ r) ((x * 2 ^ (32 - r)) % 2 ^ 32)

-- a block: the first word and the second
abbrev pub Words : Type 0
Words = ℕ × ℕ

-- the round function with the key k: (x, y) becomes (z, left 3 y xor z), where z = (right 8 x + y) xor k
abbrev pub first : ℕ → Words → ℕ
first k b = bit_xor ((right 8 b.0 + b.1) % 2 ^ 32) k

abbrev pub round : ℕ → Words → Words
round k b = (first k b, bit_xor (left 3 b.1) (first k b))

-- the key schedule at step i: l0, l1 and l2 are its words l i, l (i + 1) and l (i + 2), and k is the round key k i
pub record Keys : Type 0 where
  pub l2 : ℕ
  pub l1 : ℕ
  pub l0 : ℕ
  pub k : ℕ

-- step i: the round function with i for its key makes (l (i + 3), k (i + 1)) of (l i, k i)
unfoldable pub next : ℕ → Keys → Keys
next i s =
    record { l2 = (round i (s.l0, s.k)).0; l1 = s.l2; l0 = s.l1; k = (round i (s.l0, s.k)).1 }

unfoldable pub schedule : Keys → ℕ → Keys
schedule key zero = key
schedule key (suc i) = next i (schedule key i)

-- the block after i rounds
unfoldable pub rounds : Keys → Words → ℕ → Words
rounds key b zero = b
rounds key b (suc i) = round (schedule key i).k (rounds key b i)

-- a number of 64 bits as two words, the upper 32 bits first
abbrev pub words : ℕ → Words
words n = (n / 2 ^ 32, n % 2 ^ 32)

abbrev pub number : Words → ℕ
number b = b.0 * 2 ^ 32 + b.1

unfoldable pub encrypted : Keys → ℕ → ℕ
encrypted key block = number (rounds key (words block) 27)

-- the key of a parameter: its words from the top are l2, l1, l0 and k0
abbrev pub key_of : Parameter → Keys
key_of p =
    record { l2 = (words p.high).0; l1 = (words p.high).1; l0 = (words p.low).0; k = (words p.low).1 }
