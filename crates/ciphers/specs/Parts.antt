-- What the code of PRESENT has in its tables.
use Rattle.std.specs.Prelude.{ℕ, ◌+◌, ◌*◌, ◌/◌, ◌%◌, ◌^◌, bit_xor}
use Rattle.ciphers.specs.Present.{s_box}

-- the bits of a nibble, 16 places apart
abbrev pub spread : ℕ → ℕ
spread n = n % 2 + n / 2 % 2 * 2 ^ 16 + n / 4 % 2 * 2 ^ 32 + n / 8 % 2 * 2 ^ 48

-- what the S-box layer and the permutation make of byte 0, where it is v
abbrev pub pattern : ℕ → ℕ
pattern v = spread (s_box (v % 16)) + 2 * spread (s_box (v / 16))

-- what they make of bytes 0 and 4
abbrev pub column : ℕ → ℕ
column s = pattern (s % 2 ^ 8) + pattern (s / 2 ^ 32 % 2 ^ 8) * 2 ^ 8

-- the S-box at the highest nibble of a number of 64 bits
abbrev pub boxed_top : ℕ → ℕ
boxed_top u = s_box (u / 2 ^ 60) * 2 ^ 60 + u % 2 ^ 60

-- what that changes, where the nibble is n
abbrev pub change : ℕ → ℕ
change n = bit_xor (s_box n) n * 2 ^ 60
