-- The conditions under which an app notices nothing can be met: by two runs of the worked console that really differ.
use Rattle.std.specs.Prelude.{◌≡◌, [], ◌∷◌, Some}
use Rattle.vocabulary.specs.declared.access.Access.TheVariants.{Write}
use Rattle.vocabulary.specs.Refusals.{by_unit}
use Rattle.rules.specs.Console.{create, turn, close, grant, derive, access, exec, app, visited, accepted}
use Rattle.rules.specs.History.{App, new_app}
use Rattle.rules.specs.Isolation.{answers, Comparable, Indistinguishable}
use Rattle.rules.specs.Lists.{Holds}
use Rattle.rules.specs.Runs.{Run, run_on}
use Rattle.rules.specs.Worked.{low, worked, slot_a, slot_b, passwords_held, visit_120}

abbrev pub app_a : App
app_a = new_app 0 slot_a (low 10) 100 (7 ∷ 5 ∷ 2 ∷ [])

-- the other app tries to write, derives a password and tries to grant; its chain holds 120, as that of A does
abbrev pub first_run : Run
first_run =
    run_on []
    (exec (create slot_a (low 10) 100 (7 ∷ 5 ∷ 2 ∷ []))
    ∷ exec (create slot_b (low 20) 80 (0 ∷ 8 ∷ 8 ∷ []))
    ∷ exec (turn slot_b) ∷ app (access (Write 1280 7)) ∷ app (derive 80 1) ∷ app (grant 80 1 9) ∷ exec close
    ∷ exec (turn slot_a) ∷ app visit_120 ∷ [])

-- the other app does nothing, and its chain lacks 120
abbrev pub second_run : Run
second_run =
    run_on []
    (exec (create slot_a (low 10) 100 (7 ∷ 5 ∷ 2 ∷ []))
    ∷ exec (create slot_b (low 3) 1 (4 ∷ []))
    ∷ exec (turn slot_b) ∷ exec close
    ∷ exec (turn slot_a) ∷ app visit_120 ∷ [])

pub record ConditionsCanBeMet : Type 0 where
  pub comparable : Comparable worked app_a first_run second_run
  -- the other chain holds the password that A presents, in the first run only
  pub differ : Holds (passwords_held first_run slot_b) 120 × ¬ Holds (passwords_held second_run slot_b) 120
  pub indistinguishable : Indistinguishable worked app_a first_run second_run
  -- A has one answer: two accesses made, and a fault at the third
  pub answered : answers worked 0 second_run ≡ accepted (visited 2 (Some (by_unit 17 2)) (0 ∷ 9 ∷ 3 ∷ [])) ∷ []
