use Rattle.std.proofs.Common.{Some, refl, ap}
use Rattle.rules.specs.Calls.{grant_rule}
use Rattle.table.specs.Model.{in_turn}
use Rattle.guard.proofs.Calls.{by_table}
use Rattle.guard.proofs.turn.Turn.grant.Goals as goal

-- names no step, so that another call in this one's place leaves the fact open
pub returns : goal.returns
returns g c = by_table (in_turn c.args.self.now.app.own (λ k σ. grant_rule k c.args.self.now.app.own σ c.args.master c.args.place c.args.context)) refl (assumption c) (ap Some (assumption c))
