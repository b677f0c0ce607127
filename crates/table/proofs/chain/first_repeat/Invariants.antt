use Rattle.std.proofs.Common.{◌≡◌, ◌-◌, length}
use Rattle.rules.specs.LookUp.{repeat_from, first_repeat}
use Rattle.table.proofs.chain.first_repeat.Given as goal

abbrev pub invariant-loop-i : goal.invariant-loop-i
invariant-loop-i l = repeat_from l.passwords (length l.passwords - l.i) l.i ≡ first_repeat l.passwords
