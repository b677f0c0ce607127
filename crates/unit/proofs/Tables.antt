-- The boot table row by row: what is left of it leads to what the whole says.
use Rattle.std.proofs.Common.{◌≡◌, ℕ, ◌+◌, ◌/◌, ◌%◌, ◌<◌, ◌≤◌, Bool, true, false, cond, ◌⊎◌, List, [], ◌∷◌, length, get_or, drop, map, find, Some, None, Ok, Err, Option, Result, sym, refl, ap, ◌∙◌, inl, inr, arith}
use mathlib.Core.Path.{fun_ext}
use Rattle.std.specs.Option.{option_map}
use Rattle.std.specs.Simd.{first_chunks}
use Rattle.std.proofs.lemmas.List.{take_all, drop_all, drop_more}
use Rattle.std.proofs.lemmas.Grind.{common_steps}
use Rattle.vocabulary.specs.Refusals.{Reason, by_reader}
use Rattle.rules.specs.Boot.{Row, field_of_rows, Booting, table_refused, table_read, row_fits, row_before, rows_from, rows_of, boot_rule}
use Rattle.rules.specs.Domains.{with_context, Fields}
use Rattle.unit.specs.declared.row.Row as code
use Rattle.unit.specs.Rows.{row_of, covers, row_set, table_as}
use Rattle.unit.proofs.Masks.{contexts_swap}
use Rattle.unit.proofs.Rows.{row_at, rows_in_fours, whole_fours}

-- ---- rows set in any order give the same fields

swap : (a b : Bool) (d v w : ℕ)
    → cond a (with_context (cond b (with_context d w) d) v) (cond b (with_context d w) d)
    ≡ cond b (with_context (cond a (with_context d v) d) w) (cond a (with_context d v) d)
swap true true d v w = contexts_swap d w v
swap true false d v w = refl
swap false true d v w = refl
swap false false d v w = refl

pub rows_swap : (v w : Row) (f : Fields) → row_set v (row_set w f) ≡ row_set w (row_set v f)
rows_swap v w f = fun_ext (λ x. fun_ext (λ q. swap (covers v x q) (covers w x q) (f x q) v.context w.context))

-- fields with rows set, the first of them first
abbrev rows_set : List Row → Fields → Fields
rows_set [] f = f
rows_set (w ∷ ws) f = rows_set ws (row_set w f)

set_last : (ws : List Row) (w : Row) (f : Fields) → rows_set ws (row_set w f) ≡ row_set w (rows_set ws f)
set_last [] w f = refl
set_last (v ∷ ws) w f = ap (rows_set ws) (rows_swap v w f) ∙ set_last ws w (row_set v f)

all_set : (ws : List Row) → rows_set ws (λ x q. 0) ≡ field_of_rows ws
unfolding field_of_rows
all_set [] = refl
all_set (w ∷ ws) = set_last ws w (λ x q. 0) ∙ ap (row_set w) (all_set ws)

-- ---- the answer, where the rows so far have set f and the others say b

abbrev leads : Fields → Booting → Result Fields Reason
leads f (table_refused e) = Err e
leads f (table_read ws) = Ok (rows_set ws f)

leads_none : (b : Booting) → leads (λ x q. 0) b ≡ table_as b
leads_none (table_refused e) = refl
leads_none (table_read ws) = ap Ok (all_set ws)

leads_more : (f : Fields) (w : Row) (b : Booting) → leads f (row_before w b) ≡ leads (row_set w f) b
leads_more f w (table_refused e) = refl
leads_more f w (table_read ws) = refl

-- ---- the rows from number i on, where the row before has first page p

unfoldable pub onward : List (List ℕ) → Fields → ℕ → ℕ → Result Fields Reason
onward rows f i p = leads f (rows_from i p (map row_at (drop i rows)))

pub no_table : (bs : List ℕ) → (length bs % 4 ≡ 0 → ⊥) ⊎ (1024 < length bs) → Err (by_reader 1 0) ≡ table_as (boot_rule bs)
unfolding boot_rule
no_table bs (inl h) = grind (arith, common_steps)
no_table bs (inr h) = grind (arith, common_steps)

module _ (bs : List ℕ) (rows : List (List ℕ)) (front : rows ≡ first_chunks 4 (length bs / 4) bs) where
  pub table_start : (f : Fields) → f ≡ (λ x q. 0) → length bs % 4 ≡ 0 → length bs ≤ 1024 → onward rows f 0 0 ≡ table_as (boot_rule bs)
  unfolding onward boot_rule
  table_start f none h l = grind (arith, common_steps, leads_none, rows_in_fours (length bs / 4) bs)

  pub table_end : (f : Fields) (i p : ℕ) → length rows ≤ i → Ok f ≡ onward rows f i p
  unfolding onward
  table_end f i p h = ap (λ xs. leads f (rows_from i p (map row_at xs))) (sym (drop_all i rows h))

  -- row number i, as it is read
  module _ (many : length rows ≡ length bs / 4) (f : Fields) (i p : ℕ) (within : i < length rows) (o : Option code.Row) (read : option_map row_of o ≡ find row_fits (rows_of (get_or rows i []))) where
    abbrev written : Row
    written = row_at (get_or rows i [])

    whole : length (get_or rows i []) ≡ 4
    whole = ap (λ xs. length (get_or xs i [])) front ∙ whole_fours (length bs / 4) bs i (omega arith) (omega arith)

    asked : onward rows f i p ≡ leads f (rows_from i p (written ∷ map row_at (drop (i + 1) rows)))
    unfolding onward
    asked = ap (λ xs. leads f (rows_from i p (map row_at xs))) (drop_more rows i [] within)

    found : option_map row_of o ≡ find row_fits (written ∷ [])
    found = read ∙ ap (find row_fits) (rows_in_fours 1 (get_or rows i []) whole ∙ ap (λ r. row_at r ∷ []) (take_all 4 (get_or rows i []) (omega (arith, whole))))

    pub row_refused : o ≡ None → Err (by_reader 2 i) ≡ onward rows f i p
    row_refused e = grind (arith, common_steps, asked, found)

    module _ (w : code.Row) (e : o ≡ Some w) where
      pub row_misplaced : w.first < p → Err (by_reader 3 i) ≡ onward rows f i p
      row_misplaced h = grind (arith, common_steps, asked, found)

      pub row_accepted : p ≤ w.first → (f' : Fields) → f' ≡ row_set (row_of w) f → onward rows f' (i + 1) w.first ≡ onward rows f i p
      unfolding onward
      row_accepted h f' set = grind (arith, common_steps, asked, found, leads_more)
