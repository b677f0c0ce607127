use Rattle.std.proofs.Common.{refl}
use Rattle.rules.specs.Calls.{derive_rule}
use Rattle.table.specs.Model.{in_turn}
use Rattle.guard.proofs.Calls.{by_table}
use Rattle.guard.proofs.turn.Turn.derive.Goals as goal

-- names no step, so that another call in this one's place leaves the fact open
pub returns : goal.returns
returns g c = by_table (in_turn c.args.self.now.app.own (λ k σ. derive_rule k σ c.args.password c.args.n)) refl (assumption c) refl
