-- Runs: the calls made since boot, refused ones included, the newest first. A beginning of a run is a tail of the list.
use Rattle.std.specs.Prelude.{List, [], ◌∷◌, None}
use Rattle.rules.specs.Calls.{rule}
use Rattle.rules.specs.Console.{Setting, holding, Console, Call, Answer, answer_of, after}

abbrev pub Run : Type 0
Run = List Call

module _ (S : Setting) where
  -- all slots are free, and the register is 0
  abbrev pub booted : Console
  booted = record { slots = λ i. None; register = holding 0; turn_of = None; pages = S.boot_page }

  -- the console after the run
  unfoldable pub state : Run → Console
  state [] = booted
  state (c ∷ r) = after (state r) (rule S.machine (state r) c)

  -- what call c is answered after the run
  unfoldable pub answer : Run → Call → Answer
  answer r c = answer_of (rule S.machine (state r) c)

  -- what calls are answered, the oldest first, made after those of the run
  abbrev pub answers_on : Run → List Call → List Answer
  answers_on r [] = []
  answers_on r (c ∷ cs) = answer r c ∷ answers_on (c ∷ r) cs

-- the run after these calls, the oldest first
abbrev pub run_on : Run → List Call → Run
run_on r [] = r
run_on r (c ∷ cs) = run_on (c ∷ r) cs
