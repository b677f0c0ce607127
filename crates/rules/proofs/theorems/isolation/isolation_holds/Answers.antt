use Rattle.std.proofs.Common.{refl}
use Rattle.rules.proofs.Isolation.{isolation}
use Rattle.rules.proofs.theorems.isolation.isolation_holds.Goals as goal

pub returns : goal.returns
returns c = (refl, isolation)
