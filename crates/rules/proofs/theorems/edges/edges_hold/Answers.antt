use Rattle.std.proofs.Common.{refl}
use Rattle.rules.proofs.Worked.{edges}
use Rattle.rules.proofs.theorems.edges.edges_hold.Goals as goal

pub returns : goal.returns
returns c = (refl, edges)
