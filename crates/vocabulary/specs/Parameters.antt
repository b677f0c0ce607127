-- A parameter as text.
use Rattle.std.specs.Prelude.{ℕ, List, ◌++◌, codes, decimal}
use Rattle.vocabulary.specs.declared.parameter.Parameter.{Parameter}

-- both halves in decimal, in brackets
abbrev pub parameter_text : Parameter → List ℕ
parameter_text p = codes "(" ++ decimal p.high ++ codes ", " ++ decimal p.low ++ codes ")"
