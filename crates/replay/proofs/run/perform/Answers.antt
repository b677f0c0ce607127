use Rattle.replay.proofs.Steps.{at_stage}
use Rattle.replay.proofs.run.perform.Goals as goal

-- names no step, so that another call in this one's place leaves the fact open
pub returns-in-Between : goal.returns-in-Between
returns-in-Between g c = at_stage g.F.OneWay g.M.Memory _ _ c.in-Between.is (assumption c)

pub returns-in-During : goal.returns-in-During
returns-in-During g c = at_stage g.F.OneWay g.M.Memory _ _ c.in-During.is (assumption c)
