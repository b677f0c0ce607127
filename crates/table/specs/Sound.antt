-- What makes a taken slot sound, over the numbers that it holds.
use Rattle.std.specs.Prelude.{ℕ, Bool, true, ◌&&◌, List, [], ◌∷◌, ◌==◌, bit_or}
use Rattle.rules.specs.Console.{is_none}
use Rattle.rules.specs.LookUp.{first_repeat}

-- each domain lies within the reach: it adds nothing to it
unfoldable pub all_within : ℕ → List ℕ → Bool
all_within r [] = true
all_within r (d ∷ ds) = bit_or d r == r && all_within r ds

-- no password stands at two places
unfoldable pub no_repeat : List ℕ → Bool
no_repeat ps = is_none (first_repeat ps)
