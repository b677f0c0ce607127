-- One more call of a run.
use Rattle.std.proofs.Common.{◌≡◌, List, [], ◌∷◌, ◌++◌, map, sym, refl, ap, ◌∙◌}
use Rattle.std.proofs.lemmas.List.{map_push}
use Rattle.rules.specs.Console as rules
use Rattle.rules.specs.Console.{Setting, answer_of, after}
use Rattle.rules.specs.Calls.{rule}
use Rattle.rules.specs.Runs.{Run, booted, state, answer, run_on}
use Rattle.guard.specs.Model.{View}
use Rattle.replay.specs.declared.call.Call.{Call}
use Rattle.replay.specs.declared.call.Outcome.{Outcome}
use Rattle.replay.specs.Model.{Performed, Ran, call_of, heard_of, hears, heard_on, stood}

run_snoc : (r : Run) (cs : List rules.Call) (c : rules.Call) → run_on r (cs ++ c ∷ []) ≡ c ∷ run_on r cs
run_snoc r [] c = refl
run_snoc r (x ∷ cs) c = run_snoc (x ∷ r) cs c

heard_snoc : (S : Setting) (r : Run) (cs : List rules.Call) (c : rules.Call) → heard_on S r (cs ++ c ∷ []) ≡ heard_on S r cs ++ hears c (answer S (run_on r cs) c) ∷ []
heard_snoc S r [] c = refl
heard_snoc S r (x ∷ cs) c = ap (λ hs. hears x (answer S r x) ∷ hs) (heard_snoc S (x ∷ r) cs c)

answer_is : (S : Setting) (r : Run) (c : rules.Call) → answer_of (rule S.machine (state S r) c) ≡ answer S r c
unfolding answer
answer_is S r c = refl

state_is : (S : Setting) (r : Run) (c : rules.Call) → after (state S r) (rule S.machine (state S r) c) ≡ state S (c ∷ r)
unfolding state
state_is S r c = refl

module _ (S : Setting) (r : Run) where
  pub ran_more : (cs : List Call) (hs : List Outcome) (V : View) → Ran S r (map call_of cs) (map heard_of hs) V
      → (c : Call) (h : Outcome) (V' : View) → Performed V (call_of c) (heard_of h) V' → Ran S r (map call_of (cs ++ c ∷ [])) (map heard_of (hs ++ h ∷ [])) V'
  ran_more cs hs V ran c h V' p =
      let all : List rules.Call = map call_of cs ++ call_of c ∷ [] in
      let more : map call_of (cs ++ c ∷ []) ≡ all = map_push call_of cs c in
      let told = p.hears_it ∙ ap (λ v. hears (call_of c) (answer_of (rule v.machine v.console (call_of c)))) ran.leaves ∙ ap (hears (call_of c)) (answer_is S (run_on r (map call_of cs)) (call_of c)) in
      let left = p.leaves ∙ ap (λ v. after v.console (rule v.machine v.console (call_of c))) ran.leaves ∙ state_is S (run_on r (map call_of cs)) (call_of c) in
      let same = p.keeps ∙ ap (λ v. v.machine) ran.leaves in
      record {
        hears_all =
            map_push heard_of hs h
            ∙ ap (λ xs. xs ++ heard_of h ∷ []) ran.hears_all
            ∙ ap (λ x. heard_on S r (map call_of cs) ++ x ∷ []) told
            ∙ sym (heard_snoc S r (map call_of cs) (call_of c))
            ∙ ap (heard_on S r) (sym more);
        leaves =
            ap (λ m. record { machine = m; console = V'.console }) same
            ∙ ap (λ k. record { machine = S.machine; console = k }) left
            ∙ ap (stood S) (sym (run_snoc r (map call_of cs) (call_of c)) ∙ ap (run_on r) (sym more));
      }

-- a booted console has made no call
pub start : (S : Setting) → ◌≡◌ {A = View} (record { machine = S.machine; console = booted S }) (stood S [])
unfolding state
start S = refl
