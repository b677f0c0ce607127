-- Rows of the boot table and what the reader answers, in the rules' words.
use Rattle.std.specs.Prelude.{ℕ, Bool, cond, ◌&&◌, Ok, Err, Result, ◌==◌}
use Rattle.vocabulary.specs.Accesses.{right_number}
use Rattle.vocabulary.specs.declared.access.Right.{Right}
use Rattle.vocabulary.specs.declared.refusal.Refusal.{Refusal}
use Rattle.vocabulary.specs.Refusals.{Reason, reason}
use Rattle.rules.specs.Boot.{Row, covers_page, field_of_rows, Booting, table_refused, table_read}
use Rattle.rules.specs.Domains.{with_context, Fields}
use Rattle.unit.specs.declared.fields.PageFields.{PageFields}
use Rattle.unit.specs.declared.row.Row as code
use Rattle.unit.specs.Model.{fields_of}

abbrev pub row_of : code.Row → Row
row_of w = record { context = w.context; right = right_number w.right; first = w.first; count = w.count }

-- contexts d of page q, with the row's context added if the page is one of the row's
abbrev pub added_on : Row → ℕ → ℕ → ℕ
added_on w q d = cond (covers_page w q) (with_context d w.context) d

-- whether the row is about right x on page q
abbrev pub covers : Row → Right → ℕ → Bool
covers w x q = w.right == right_number x && covers_page w q

-- fields with a row's bits set
abbrev pub row_set : Row → Fields → Fields
row_set w f x q = cond (covers w x q) (with_context (f x q) w.context) (f x q)

-- what the reader answers: the fields, or the reason of the refusal
abbrev pub read_as : Result PageFields Refusal → Result Fields Reason
read_as (Ok f) = Ok (fields_of f)
read_as (Err e) = Err (reason e)

-- and what the boot rule says
abbrev pub table_as : Booting → Result Fields Reason
table_as (table_refused f) = Err f
table_as (table_read ws) = Ok (field_of_rows ws)
