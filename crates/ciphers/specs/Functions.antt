-- The one-way functions of the two ciphers.
use Rattle.std.specs.Prelude.{◌-◌, ◌^◌}
use Rattle.one_way.specs.OneWay.{Meaning, feed_forward}
use Rattle.ciphers.specs.Speck as Speck
use Rattle.ciphers.specs.Present as Present

abbrev pub speck : Meaning
speck = feed_forward (λ p. Speck.encrypted (Speck.key_of p)) (2 ^ 64 - 1)

-- a key of 80 bits: of the high half 16 bits are left
abbrev pub present : Meaning
present = feed_forward (λ p. Present.encrypted (Present.key_of p)) 65535
