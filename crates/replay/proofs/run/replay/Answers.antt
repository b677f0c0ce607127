use Rattle.std.proofs.Common.{◌≡◌, IfErr, [], ◌∙◌, subst}
use Rattle.std.proofs.lemmas.Result.{MatchResult-from_both}
use Rattle.guard.specs.Model.{setting}
use Rattle.replay.specs.Model.{view}
use Rattle.replay.proofs.Runs.{start}
use Rattle.replay.proofs.run.replay.Goals as goal

pub returns-clause-ran : goal.returns-clause-ran
returns-clause-ran g c =
    let s = setting g.F.OneWay g.M.Memory c.args.table.now c.args.memory in
    let e = c.in_ok-console.ensures.state ∙ start s in
    MatchResult-from_both c.perform_all.result.1 _ _ (c.perform_all.ensures.ran s [] e)
    (subst (λ v. IfErr c.perform_all.result.1 (λ _. view g.F.OneWay g.M.Memory c.perform_all.result.0 ≡ v)) e c.perform_all.ensures.none)
