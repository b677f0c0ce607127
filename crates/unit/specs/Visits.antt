-- Faults, single accesses and visits of the code, in the rules' words.
use Rattle.std.specs.Prelude.{ℕ, List, [], ◌++◌, drop, Some, None, Ok, Err, Option, Result}
use Rattle.std.specs.Option.{option_map}
use Rattle.vocabulary.specs.declared.refusal.Refusal.{Refusal}
use Rattle.vocabulary.specs.Refusals.{Reason, reason, by_unit}
use Rattle.memory.specs.Pages.{Page}
use Rattle.rules.specs.Console.{Reply, visited, Answer, refused, accepted}
use Rattle.rules.specs.Visits.{Visit, made_first}
use Rattle.unit.specs.declared.visit.Visited.{Visited}

-- a fault by its number, at a place
abbrev pub fault_at : ℕ → Option ℕ → Option Reason
fault_at i = option_map (λ n. by_unit n i)

-- a single access at a place: its answer, and the pages after it, which a fault leaves as they are
abbrev pub answered : ℕ → Option ℕ → Reply → Answer
answered i None a = accepted a
answered i (Some n) a = refused (by_unit n i)

abbrev pub pages_unless : Option ℕ → (ℕ → Page) → (ℕ → Page) → ℕ → Page
pages_unless None m m' = m'
pages_unless (Some n) m m' = m

-- a visit whose first access is so answered and leaves the pages m: it goes on as v, or ends
abbrev pub begun : Result ℕ Refusal → (ℕ → Page) → Visit → Visit
begun (Ok b) m v = made_first b v
begun (Err e) m v = record { made = 0; fault = Some (reason e); bytes = []; left = m }

-- the reply of a visit, by the code and by the rule; of the buffer it touches a byte for each access made
abbrev pub visit_reply : List ℕ → Visited → Reply
visit_reply buffer v = visited v.made (option_map reason v.fault) buffer

abbrev pub reply_of : Visit → List ℕ → Reply
reply_of v buffer = visited v.made v.fault (v.bytes ++ drop v.made buffer)
