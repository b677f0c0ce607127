use Rattle.std.proofs.Common.{sym, refl, ap, ◌∙◌}
use Rattle.rules.specs.Console.{exec, create}
use Rattle.replay.specs.Model.{call_of}
use Rattle.replay.proofs.Steps.{step, with_none}
use Rattle.replay.proofs.run.between.Goals as goal

pub returns-in-Create : goal.returns-in-Create
returns-in-Create g c =
    with_none c.args.call c.create.result _ c.and-answer.ensures refl
    (ap call_of c.in-Create.is
    ∙ ap (λ ds. exec (create c.in-Create.slot c.in-Create.parameter c.in-Create.master ds)) (sym c.deref.ensures.value))
    c.create.ensures

pub returns-in-End : goal.returns-in-End
returns-in-End g c = with_none c.args.call c.end.result _ c.and-answer-in-End.ensures refl (ap call_of c.in-End.is) c.end.ensures

pub returns-in-Ok : goal.returns-in-Ok
returns-in-Ok g c = step c.args.call (ap call_of c.in-Turn.is) c.in-Ok.ensures refl

pub returns-in-Err : goal.returns-in-Err
returns-in-Err g c = step c.args.call (ap call_of c.in-Turn.is) c.in-Err.ensures refl
