-- Two options that are equal.
use Rattle.std.proofs.Common.{◌≡◌, not, T, Some, None, Option, ap, subst}
use Rattle.rules.specs.Console.{is_none}

or_that : {A : Type 0} → A → Option A → A
or_that a None = a
or_that a (Some b) = b

pub some_injective : {A : Type 0} (a b : A) → Some a ≡ Some b → a ≡ b
unfolding or_that
some_injective a b e = ap (or_that a) e

pub some_not_none : {A : Type 0} (a : A) → Some a ≡ None → ⊥
some_not_none a e = subst (λ o. T (not (is_none o))) e tt

pub none_not_some : {A : Type 0} (a : A) → None ≡ Some a → ⊥
none_not_some a e = subst (λ o. T (is_none o)) e tt
