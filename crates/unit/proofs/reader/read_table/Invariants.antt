use Rattle.std.proofs.Common.{◌≡◌}
use Rattle.rules.specs.Boot.{boot_rule}
use Rattle.unit.specs.Model.{fields_of}
use Rattle.unit.specs.Rows.{table_as}
use Rattle.unit.proofs.Tables.{onward}
use Rattle.unit.proofs.reader.read_table.Given as goal

-- with the fields so far, the rows that are left lead to what the whole table says
abbrev pub invariant-loop-number : goal.invariant-loop-number
invariant-loop-number l = onward l.rows (fields_of l.fields) l.number l.earlier ≡ table_as (boot_rule l.bytes)
