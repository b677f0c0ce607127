-- The boot table: rows of four bytes, and the page fields that they set.
use Rattle.std.specs.Prelude.{ℕ, suc, ◌+◌, ◌%◌, Bool, cond, ◌&&◌, ◌||◌, List, [], ◌∷◌, length, ◌==◌, nat_le, nat_lt}
use Rattle.vocabulary.specs.Accesses.{right_number}
use Rattle.vocabulary.specs.Refusals.{Reason, by_reader}
use Rattle.rules.specs.Domains.{with_context, Fields}

-- the context that gets a right, the right's number, the first page and how many pages
pub record Row : Type 0 where
  pub context : ℕ
  pub right : ℕ
  pub first : ℕ
  pub count : ℕ

-- whether page q is one of the row's
abbrev pub covers_page : Row → ℕ → Bool
covers_page w q = nat_le w.first q && nat_lt q (w.first + w.count)

-- each row sets its context's bit in that field of its pages
unfoldable pub field_of_rows : List Row → Fields
field_of_rows [] x q = 0
field_of_rows (w ∷ ws) x q =
    cond (w.right == right_number x && covers_page w q)
    (with_context (field_of_rows ws x q) w.context)
    (field_of_rows ws x q)

-- what boot makes of a table: a refusal, or its rows
pub data Booting : Type 0 where
  table_refused : Reason → Booting
  table_read : List Row → Booting

-- the context is one of 16, the right one of three, and there are pages, none of them past the last
abbrev pub row_fits : Row → Bool
row_fits w =
    nat_le w.context 15
    && ((w.right == 1 || (w.right == 2 || w.right == 4))
    && (nat_le 1 w.count && nat_le (w.first + w.count) 64))

abbrev pub row_before : Row → Booting → Booting
row_before w (table_refused f) = table_refused f
row_before w (table_read ws) = table_read (w ∷ ws)

-- the rows from number i on, where the row before them has first page p
abbrev pub rows_from : ℕ → ℕ → List Row → Booting
rows_from i p [] = table_read []
rows_from i p (w ∷ ws) =
    cond (row_fits w)
    (cond (nat_le p w.first) (row_before w (rows_from (suc i) w.first ws)) (table_refused (by_reader 3 i)))
    (table_refused (by_reader 2 i))

-- four bytes to a row; bytes left over make none
abbrev pub rows_of : List ℕ → List Row
rows_of (c ∷ x ∷ f ∷ n ∷ bs) = record { context = c; right = x; first = f; count = n } ∷ rows_of bs
rows_of [] = []
rows_of (a ∷ []) = []
rows_of (a ∷ b ∷ []) = []
rows_of (a ∷ b ∷ c ∷ []) = []

-- at most 1,024 bytes, in rows of four; an empty table is accepted
unfoldable pub boot_rule : List ℕ → Booting
boot_rule bs = cond (length bs % 4 == 0 && nat_le (length bs) 1024) (rows_from 0 0 (rows_of bs)) (table_refused (by_reader 1 0))
