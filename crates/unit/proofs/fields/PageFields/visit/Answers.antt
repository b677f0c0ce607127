use Rattle.std.proofs.Common.{◌≡◌, length, refl, ◌∙◌, arith, rules}
use Rattle.unit.proofs.Visits.{visit_whole, visit_ended, visit_made, visit_faulted}
use Rattle.unit.proofs.fields.PageFields.visit.Goals as goal

pub loop-i-init : goal.loop-i-init
loop-i-init g c = record { leads = visit_whole _ _ _ _ _ _; same_effect = refl }

pub loop-i-preserved : goal.loop-i-preserved
loop-i-preserved g c =
    record {
      leads = visit_made _ _ _ _ _ _ _ _ c.loop-i-test.true _ c.replace-earlier.ensures.after _ c.loop-i.invariant.same_effect _ _ (search rules) c.in-Ok.ensures.visit ∙ c.loop-i.invariant.leads;
      same_effect = c.in-Ok.ensures.effect ∙ c.loop-i.invariant.same_effect;
    }

pub returns-in-Err : goal.returns-in-Err
returns-in-Err g c =
    let e = visit_faulted _ _ _ _ _ _ _ _ c.loop-i-test.true _ c.replace-earlier.ensures.after _ c.loop-i.invariant.same_effect _ _ _ c.in-Err.ensures.visit c.loop-i.invariant.leads in
    record {
      register = c.drop-guard.ensures ∙ c.replace-earlier.ensures.value;
      reply = e.0;
      pages = e.1;
      effect = c.in-Err.ensures.effect ∙ c.loop-i.invariant.same_effect;
    }

pub returns : goal.returns
returns g c =
    let q : c.loop-i.i ≡ length c.args.accesses.now = omega arith in
    let e = visit_ended _ _ _ _ _ _ _ _ q c.loop-i.invariant.leads in
    record {
      register = c.drop-guard-2.ensures ∙ c.replace-earlier.ensures.value;
      reply = e.0;
      pages = e.1;
      effect = c.loop-i.invariant.same_effect;
    }
