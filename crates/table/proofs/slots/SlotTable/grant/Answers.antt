use Rattle.std.proofs.Common.{rules}
use Rattle.rules.specs.Calls.{grant_rule}
use Rattle.table.proofs.Lent.{follows_lent}
use Rattle.table.proofs.slots.SlotTable.grant.Goals as goal

pub returns-clause-follows : goal.returns-clause-follows
returns-clause-follows c = follows_lent (λ s k σ. grant_rule k s σ c.args.w c.args.place c.args.context) c.grant.ensures.follows c.new.ensures.slots (search rules) c.new.ensures.own
