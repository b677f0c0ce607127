use Rattle.std.proofs.Common.{refl, ap, ◌∙◌, arith}
use Rattle.ciphers.specs.Speck.{number, schedule, rounds}
use Rattle.ciphers.proofs.SpeckRounds.{schedule_more, rounds_more, finished}
use Rattle.ciphers.proofs.speck.SpeckBlockCipher.encrypt.Goals as goal

pub loop-i-init : goal.loop-i-init
unfolding schedule rounds
loop-i-init c = (refl, refl)

pub loop-i-preserved : goal.loop-i-preserved
loop-i-preserved c = (
  schedule_more _ _ c.loop-i.i (c.l3.inside.0, c.l3.inside.1) c.loop-i.invariant.0 (c.l3.view_is ∙ c.round.ensures),
  rounds_more _ _ _ _ _ c.loop-i.i c.loop-i.invariant.0 c.loop-i.invariant.1 c.round-state.ensures,
)

pub returns : goal.returns
returns c =
    c.into.ensures ∙ ap number c.loop-i.invariant.1
    ∙ finished c.args.parameter.high c.args.parameter.low c.args.block c.loop-i.i
    (c.l2.inside.0, c.l2.inside.1) (c.l0.inside.0, c.l0.inside.1) c.from-state.result
    (c.l2.view_is ∙ c.from.ensures) (c.l0.view_is ∙ c.from-2.ensures) c.from-state.ensures (omega arith)
