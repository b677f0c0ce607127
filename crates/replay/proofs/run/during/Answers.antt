use Rattle.std.proofs.Common.{◌≡◌, length, vec_items, vec_len, sym, refl, ap, ◌∙◌, rules}
use Rattle.std.specs.Vec.{with_items}
use Rattle.rules.specs.Console.{app, visit}
use Rattle.replay.specs.Model.{call_of}
use Rattle.replay.specs.declared.call.Reply.TheVariants.{Domain, Password, Byte}
use Rattle.replay.proofs.Steps.{step, with_value, with_none, refill, visit_heard}
use Rattle.replay.proofs.run.during.Goals as goal

pub returns-in-Close : goal.returns-in-Close
returns-in-Close g c = step c.args.call (ap call_of c.in-Close.is) c.close.ensures refl

pub returns-in-Visit : goal.returns-in-Visit
returns-in-Visit g c =
    let n : length c.visit-answer.new.buffer ≡ vec_len c.in-Visit.buffer = search rules in
    step c.args.call
    (ap call_of c.in-Visit.is
    ∙ ap (λ l. app (visit c.in-Visit.password l (vec_items c.in-Visit.buffer))) (sym c.deref.ensures.value)
    ∙ ap (λ b. app (visit c.in-Visit.password c.deref.result.now b)) (sym c.deref_mut.ensures.value))
    c.visit-answer.ensures.obeys
    (visit_heard c.visit-answer.result (with_items c.in-Visit.buffer c.visit-answer.new.buffer) _ c.deref_mut.result.now
    (refill c.in-Visit.buffer c.visit-answer.new.buffer n) c.visit-answer.ensures.buffer)

pub returns-in-Activate : goal.returns-in-Activate
returns-in-Activate g c = with_value c.args.call Domain (λ n. refl) c.activate.result _ c.map-answer.ensures.cases refl (ap call_of c.in-Activate.is) c.activate.ensures

pub returns-in-Grant : goal.returns-in-Grant
returns-in-Grant g c = with_value c.args.call Domain (λ n. refl) c.grant.result _ c.map-answer-in-Grant.ensures.cases refl (ap call_of c.in-Grant.is) c.grant.ensures

pub returns-in-Revoke : goal.returns-in-Revoke
returns-in-Revoke g c = with_value c.args.call Domain (λ n. refl) c.revoke.result _ c.map-answer-in-Revoke.ensures.cases refl (ap call_of c.in-Revoke.is) c.revoke.ensures

pub returns-in-Derive : goal.returns-in-Derive
returns-in-Derive g c = with_value c.args.call Password (λ n. refl) c.derive.result _ c.map-answer-in-Derive.ensures.cases refl (ap call_of c.in-Derive.is) c.derive.ensures

pub returns-in-Rekey : goal.returns-in-Rekey
returns-in-Rekey g c = with_none c.args.call c.rekey.result _ c.and-answer.ensures refl (ap call_of c.in-Rekey.is) c.rekey.ensures

pub returns-in-Read : goal.returns-in-Read
returns-in-Read g c = with_value c.args.call Byte (λ n. refl) c.read.result _ c.map-answer-in-Read.ensures.cases refl (ap call_of c.in-Read.is) c.read.ensures

pub returns-in-Write : goal.returns-in-Write
returns-in-Write g c = with_none c.args.call c.write.result _ c.and-answer-in-Write.ensures refl (ap call_of c.in-Write.is) c.write.ensures

pub returns-in-Fetch : goal.returns-in-Fetch
returns-in-Fetch g c = with_value c.args.call Byte (λ n. refl) c.fetch.result _ c.map-answer-in-Fetch.ensures.cases refl (ap call_of c.in-Fetch.is) c.fetch.ensures
