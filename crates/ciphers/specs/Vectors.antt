-- The published test vectors.
use Rattle.std.specs.Prelude.{◌≡◌}
use Rattle.ciphers.specs.Speck as Speck
use Rattle.ciphers.specs.Speck.{number}
use Rattle.ciphers.specs.Present as Present

-- Speck64/128: key, plaintext and ciphertext by words
abbrev pub SpeckVector : Type 0
SpeckVector =
    Speck.encrypted (record { l2 = 0x1b1a1918; l1 = 0x13121110; l0 = 0x0b0a0908; k = 0x03020100 }) (number (0x3b726574, 0x7475432d))
    ≡ number (0x8c6fa548, 0x454e028b)

-- PRESENT-80: the key and the plaintext are all zeros or all ones
abbrev pub PresentVectors : Type 0
PresentVectors =
    (Present.encrypted 0 0 ≡ 0x5579C1387B228445)
    × (Present.encrypted 0xFFFFFFFFFFFFFFFFFFFF 0 ≡ 0xE72C46C0F5945049)
    × (Present.encrypted 0 0xFFFFFFFFFFFFFFFF ≡ 0xA112FFC72F68417B)
    × (Present.encrypted 0xFFFFFFFFFFFFFFFFFFFF 0xFFFFFFFFFFFFFFFF ≡ 0x3333DCD3213210D2)

abbrev pub PublishedVectors : Type 0
PublishedVectors = SpeckVector × PresentVectors
