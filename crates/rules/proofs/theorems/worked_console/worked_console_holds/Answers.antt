use Rattle.std.proofs.Common.{refl}
use Rattle.rules.proofs.Worked.{worked_console}
use Rattle.rules.proofs.theorems.worked_console.worked_console_holds.Goals as goal

pub returns : goal.returns
returns c = (refl, worked_console)
