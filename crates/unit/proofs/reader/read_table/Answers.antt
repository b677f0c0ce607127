use Rattle.std.proofs.Common.{◌≡◌, ◌∙◌, inl, inr, arith, rules}
use Rattle.std.proofs.lemmas.Result.{err_from_is_err_and}
use Rattle.vocabulary.specs.declared.refusal.Refusal.TheVariants.{BadRow}
use Rattle.unit.proofs.Tables.{table_start, table_end, row_accepted, row_misplaced, row_refused, no_table}
use Rattle.unit.proofs.reader.read_table.Goals as goal

pub returns-then-not-is_empty : goal.returns-then-not-is_empty
returns-then-not-is_empty c =
    no_table c.args.bytes.now (elim c.then-not-is_empty.either [ inl h ↦ inl (search rules) | inr h ↦ inr h.1 ])

pub loop-number-init : goal.loop-number-init
loop-number-init c = table_start c.args.bytes.now _ c.as_chunks.ensures.front _ c.none-fields.ensures (search rules) (search rules)

pub returns-in_err-row : goal.returns-in_err-row
returns-in_err-row c =
    let p = err_from_is_err_and c.from_residual.result c.from_residual.ensures.1 in
    let b : c.in_err-row.field-0.0 ≡ BadRow c.loop-number.number = search rules in
    rw (p.1, p.2, b) (row_refused _ _ c.as_chunks.ensures.front c.as_chunks.ensures.front_len _ _ _ (search rules) _ c.parse.ensures (search rules) ∙ c.loop-number.invariant)

pub returns-then-row-earlier : goal.returns-then-row-earlier
returns-then-row-earlier c =
    row_misplaced _ _ c.as_chunks.ensures.front c.as_chunks.ensures.front_len _ _ _ (search rules) _ c.parse.ensures c.in_ok-row.row (search rules) c.if-row-earlier.true ∙ c.loop-number.invariant

pub loop-number-preserved : goal.loop-number-preserved
loop-number-preserved c =
    row_accepted _ _ c.as_chunks.ensures.front c.as_chunks.ensures.front_len _ _ _ (search rules) _ c.parse.ensures c.in_ok-row.row (search rules) c.if-row-earlier.false _ c.set.ensures ∙ c.loop-number.invariant

pub returns : goal.returns
returns c = table_end _ _ c.as_chunks.ensures.front _ _ _ (omega arith) ∙ c.loop-number.invariant
