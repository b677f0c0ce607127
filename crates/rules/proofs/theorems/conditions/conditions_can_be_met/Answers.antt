use Rattle.std.proofs.Common.{refl}
use Rattle.rules.proofs.Conditions.{conditions_can_be_met}
use Rattle.rules.proofs.theorems.conditions.conditions_can_be_met.Goals as goal

pub returns : goal.returns
returns c = (refl, conditions_can_be_met)
