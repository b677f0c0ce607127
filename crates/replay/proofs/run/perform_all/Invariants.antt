use Rattle.std.proofs.Common.{◌≡◌, ◌+◌, ◌≤◌, length, map, vec_items, vec_len}
use Rattle.std.specs.Vec.{vec_capacity}
use Rattle.rules.specs.Console.{Setting}
use Rattle.rules.specs.Runs.{Run}
use Rattle.replay.specs.Model.{Ran, call_of, heard_of, stood, view}
use Rattle.replay.proofs.run.perform_all.Given as goal

-- the calls taken so far are performed, and there is room for the outcomes of the others
abbrev pub invariant-loop-call : goal.invariant-loop-call
invariant-loop-call g l =
    (length l.call-iterator.rest.items + vec_len l.outcomes ≤ vec_capacity l.outcomes)
    × ((S : Setting) (r : Run) → view g.F.OneWay g.M.Memory l.initial.stage ≡ stood S r
    → Ran S r (map call_of l.yielded) (map heard_of (vec_items l.outcomes)) (view g.F.OneWay g.M.Memory l.stage))
