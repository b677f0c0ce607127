use Rattle.unit.proofs.Rows.{none_held}
use Rattle.unit.proofs.fields.PageFields.none.Goals as goal

pub returns : goal.returns
returns c = none_held
