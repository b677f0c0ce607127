use Rattle.std.proofs.Common.{◌≡◌, ◌+◌, ◌-◌, map, append-nil, arith, rules}
use borrow.Rule.Slice.PartMut.{mid_of}
use Rattle.std.proofs.lemmas.List.{take_all, drop_all}
use Rattle.rules.specs.Domains.{with_context}
use Rattle.unit.specs.Rows.{row_of}
use Rattle.unit.proofs.Rows.{context_added, row_added}
use Rattle.unit.proofs.row.Row.add_to.Goals as goal

pub loop-contexts-preserved : goal.loop-contexts-preserved
loop-contexts-preserved c =
    context_added _ _ _ _ c.args.self.now.context_exists (search rules) (search rules) c.loop-contexts.invariant

pub returns : goal.returns
returns c =
    let w = c.args.self.now in
    let n : w.first + w.count - w.first ≡ w.count = omega arith in
    let done : c.loop-contexts.contexts-items ≡ map (λ d. with_context d w.context) (mid_of w.first (w.first + w.count - w.first) c.args.fields.now) = search (rules, take_all, drop_all, append-nil) in
    rw (done, n) (row_added (row_of w) c.args.fields.now (search rules))
