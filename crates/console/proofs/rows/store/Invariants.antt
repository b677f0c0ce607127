use Rattle.std.proofs.Common.{◌≡◌, ◌+◌, drop}
use Rattle.console.specs.Rows.{stored_from}
use Rattle.console.proofs.rows.store.Given as goal

-- what is still to be written leads to the pages of the whole row
abbrev pub invariant-loop-i : goal.invariant-loop-i
invariant-loop-i g l =
    (stored_from (g.M.Memory.effect l.initial.memory) (g.M.Memory.pages l.memory).page (l.first + l.i) (drop l.i l.bytes)
    ≡ stored_from (g.M.Memory.effect l.initial.memory) (g.M.Memory.pages l.initial.memory).page l.first l.bytes)
    × (g.M.Memory.effect l.memory ≡ g.M.Memory.effect l.initial.memory)
