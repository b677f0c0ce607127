use Rattle.std.proofs.Common.{sym, ap, ◌∙◌}
use Rattle.replay.specs.Model.{view}
use Rattle.replay.proofs.stage.Stage.inspect.Goals as goal

pub returns-in-Between : goal.returns-in-Between
returns-in-Between g c = c.inspect.ensures ∙ sym (ap (view g.F.OneWay g.M.Memory) c.in-Between.is)

pub returns-in-During : goal.returns-in-During
returns-in-During g c = c.inspect-in-During.ensures ∙ sym (ap (view g.F.OneWay g.M.Memory) c.in-During.is)
