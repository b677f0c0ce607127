-- Chains of passwords.
use Rattle.std.specs.Prelude.{ℕ, zero, suc, ◌-◌, List, [], ◌∷◌, ◌++◌, length, replicate}
use Rattle.vocabulary.specs.declared.parameter.Parameter.{Parameter}

-- the password w and then, up to m passwords, H of the one before
abbrev pub chain : (Parameter → ℕ → ℕ) → Parameter → ℕ → ℕ → List ℕ
chain H p zero w = []
chain H p (suc m) w = w ∷ chain H p m (H p w)

-- eight places: the passwords of a chain, and 0 behind them
abbrev pub eight_places : List ℕ → List ℕ
eight_places ps = ps ++ replicate (8 - length ps) 0
