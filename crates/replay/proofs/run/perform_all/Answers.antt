use Rattle.std.proofs.Common.{rules, ◌∷◌, ◌++◌, [], map, vec_items, sym, subst}
use Rattle.replay.specs.Model.{Ran, call_of, heard_of, view}
use Rattle.replay.proofs.Runs.{ran_more}
use Rattle.replay.proofs.run.perform_all.Goals as goal

pub loop-call-preserved : goal.loop-call-preserved
loop-call-preserved g c = (
  search rules,
  λ S r e.
      subst (λ hs. Ran S r (map call_of (c.loop-call.yielded ++ c.in-Some.call ∷ [])) (map heard_of hs) (view g.F.OneWay g.M.Memory c.perform-next.result.0))
      (sym c.push_reserved.ensures.items)
      (ran_more S r c.loop-call.yielded (vec_items c.loop-call.outcomes) (view g.F.OneWay g.M.Memory c.loop-call.stage) (c.loop-call.invariant.1 S r e)
      c.in-Some.call c.perform-next.result.1 _ c.perform-next.ensures),
)
