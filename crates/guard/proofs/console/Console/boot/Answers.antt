use Rattle.std.proofs.Common.{rules}
use Rattle.rules.proofs.Isolation.{isolation}
use Rattle.guard.proofs.console.Console.boot.Goals as goal

pub returns-in-Ok : goal.returns-in-Ok
returns-in-Ok g c = record { answer = search rules; state = search rules; isolated = isolation _ }

pub returns-in-Err : goal.returns-in-Err
returns-in-Err g c = record { answer = search rules; state = search rules; isolated = isolation _ }
