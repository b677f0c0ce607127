use Rattle.std.proofs.Common.{◌≡◌, eqb, ◌∙◌, rules, tests}
use Rattle.std.specs.List.{position}
use Rattle.std.proofs.lemmas.Iterator.{YieldsList-from_slice}
use Rattle.std.proofs.lemmas.Iterator.Search.{position_from_yields_List}
use Rattle.table.specs.Model.{slot_of}
use Rattle.table.proofs.Search.{place_is}
use Rattle.table.proofs.slot.Slot.place.Goals as goal

pub returns-clause-found : goal.returns-clause-found
returns-clause-found c =
    let ps = (slot_of c.args.self.now).passwords in
    let e : c.position.result ≡ position (λ p. eqb p c.args.w) ps =
    position_from_yields_List _ _ _ _ c.position.ensures.ran (YieldsList-from_slice ps cc) (λ x b q k. search (rules, tests)) in
    e ∙ place_is c.args.w ps
