use Rattle.std.proofs.Common.{rules}
use Rattle.table.proofs.Lent.{closes_lent}
use Rattle.table.proofs.slots.SlotTable.save.Goals as goal

pub returns : goal.returns
returns c = closes_lent c.args.register c.save.ensures.state c.new.ensures.slots (search rules) c.new.ensures.own
