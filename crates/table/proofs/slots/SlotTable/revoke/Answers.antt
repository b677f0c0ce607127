use Rattle.std.proofs.Common.{rules}
use Rattle.rules.specs.Calls.{revoke_rule}
use Rattle.table.proofs.Lent.{follows_lent}
use Rattle.table.proofs.slots.SlotTable.revoke.Goals as goal

pub returns-clause-follows : goal.returns-clause-follows
returns-clause-follows c = follows_lent (λ s k σ. revoke_rule k s σ c.args.w c.args.place c.args.context) c.revoke.ensures.follows c.new.ensures.slots (search rules) c.new.ensures.own
