-- One-way functions: what one of them means.
use Rattle.std.specs.Prelude.{ℕ, ◌+◌, ◌%◌, ◌^◌, bit_xor}
use Rattle.vocabulary.specs.declared.parameter.Parameter.{Parameter}

-- H, from a parameter and a password to a password, and the greatest high half of a parameter that is admitted
pub record Meaning : Type 0 where
  pub H : Parameter → ℕ → ℕ
  pub greatest : ℕ

-- drill: the password plus the low half, modulo 2^64
abbrev pub drill : Meaning
drill = record { H = λ p w. (w + p.low) % 2 ^ 64; greatest = 0 }

-- a block cipher with this encryption: the password encrypted, xor the password
abbrev pub feed_forward : (Parameter → ℕ → ℕ) → ℕ → Meaning
feed_forward encrypted greatest = record { H = λ p w. bit_xor (encrypted p w) w; greatest = greatest }
