use Rattle.std.proofs.Common.{◌≡◌, ◌++◌, map, take, drop}
use Rattle.rules.specs.Domains.{with_context}
use Rattle.unit.proofs.row.Row.add_to.Given as goal

-- the row's pages so far have the context
abbrev pub invariant-loop-contexts : goal.invariant-loop-contexts
invariant-loop-contexts l =
    l.contexts-items ≡ map (λ d. with_context d l.self.context) (take l.contexts-index l.initial.contexts-items) ++ drop l.contexts-index l.initial.contexts-items
