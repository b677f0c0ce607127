use Rattle.std.proofs.Common.{◌≡◌, ℕ, ◌≤◌, min, subst, arith}
use Rattle.one_way.proofs.Places.{Filled, filled_next, filled_all}
use Rattle.one_way.proofs.chain.chain.Goals as goal

pub loop-i-preserved : goal.loop-i-preserved
loop-i-preserved g c =
    filled_next _ _ (min c.args.length 8) _ _ _ _ c.loop-i.auto.i (omega arith) (omega arith) c.step.ensures c.loop-i.invariant

pub returns : goal.returns
returns g c =
    let end : c.loop-i.i ≡ min c.args.length 8 = omega arith in
    let few : min c.args.length 8 ≤ 8 = omega arith in
    filled_all _ _ (min c.args.length 8) _ _ few
    (subst (λ (i : ℕ). Filled g.F.OneWay.meaning.H c.args.parameter (min c.args.length 8) c.args.master c.loop-i.passwords i) end c.loop-i.invariant)
