use Rattle.std.proofs.Common.{◌≡◌, ℕ, ◌+◌, ◌<◌, get_or}
use Rattle.memory.specs.Pages.{read_at}
use Rattle.console.proofs.rows.load.Given as goal

abbrev pub invariant-loop-i : goal.invariant-loop-i
invariant-loop-i g l = (k : ℕ) → k < l.i → get_or l.buffer k 0 ≡ read_at (g.M.Memory.pages l.memory).page (l.first + k)
