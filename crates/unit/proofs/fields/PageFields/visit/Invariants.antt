use Rattle.std.proofs.Common.{◌≡◌}
use Rattle.rules.specs.Visits.{Visit, visiting}
use Rattle.unit.specs.Model.{fields_of}
use Rattle.unit.specs.Visits.{reply_of}
use Rattle.unit.proofs.Visits.{onward}
use Rattle.unit.proofs.fields.PageFields.visit.Given as goal

-- what is left of the visit leads to the whole's reply and pages, and the memory keeps its effect rule
abbrev pub invariant-loop-i : goal.invariant-loop-i
invariant-loop-i g l =
    let whole : Visit = visiting (fields_of l.self) (g.M.Memory.effect l.initial.memory) l.accesses l.domain (g.M.Memory.pages l.initial.memory).page 0 in
    record {
      leads : onward (fields_of l.self) (g.M.Memory.effect l.initial.memory) l.accesses l.domain l.buffer (g.M.Memory.pages l.memory).page l.i
          ≡ (reply_of whole l.initial.buffer, whole.left);
      same_effect : g.M.Memory.effect l.memory ≡ g.M.Memory.effect l.initial.memory;
    }
