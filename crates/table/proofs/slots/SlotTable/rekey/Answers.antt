use Rattle.std.proofs.Common.{rules}
use Rattle.rules.specs.Calls.{rekey_rule}
use Rattle.table.proofs.Lent.{follows_lent}
use Rattle.table.proofs.slots.SlotTable.rekey.Goals as goal

pub returns-clause-follows : goal.returns-clause-follows
returns-clause-follows g c = follows_lent (λ s k σ. rekey_rule g.F.OneWay.meaning k s σ c.args.w c.args.parameter) c.rekey.ensures.follows c.new.ensures.slots (search rules) c.new.ensures.own
