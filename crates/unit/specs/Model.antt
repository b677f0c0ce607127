-- Page fields of the code, in the rules' words.
use Rattle.std.specs.Prelude.{ℕ, [], slice_index, slice_index_or}
use Rattle.vocabulary.specs.declared.access.Right.{Right}
use Rattle.vocabulary.specs.declared.access.Right.TheVariants.{Read, Write, Execute}
use Rattle.rules.specs.Domains.{Fields}
use Rattle.unit.specs.declared.fields.PageFields.{PageFields}

-- where the fields of a right stand
abbrev pub index_of : Right → ℕ
index_of Read = 0
index_of Write = 1
index_of Execute = 2

abbrev pub fields_of : PageFields → Fields
fields_of f x q = slice_index (slice_index_or f.by_right (index_of x) []) q
