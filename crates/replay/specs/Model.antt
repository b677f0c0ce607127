-- Calls and outcomes of the code, in the rules' words.
use Rattle.std.specs.Prelude.{◌≡◌, ℕ, List, [], ◌∷◌, map, vec_items, MatchResult, Result, Vec}
use Rattle.std.specs.declared.alloc.Global.{Global}
use Rattle.vocabulary.specs.declared.access.Access.TheVariants.{Read, Write, Fetch}
use Rattle.one_way.specs.declared.OneWay.{Ghosts as Function}
use Rattle.memory.specs.declared.Memory.{Ghosts as Memory}
use Rattle.rules.specs.Console as rules
use Rattle.rules.specs.Console.{Setting, exec, app, create, end, turn, close, activate, visit, grant, revoke, derive, rekey, access, Answer, refused, done, value, out_of_turn, answer_of, after}
use Rattle.rules.specs.Calls.{rule, buffer_after}
use Rattle.rules.specs.Told.{told}
use Rattle.rules.specs.Runs.{Run, state, answer, run_on}
use Rattle.unit.specs.Visits.{visit_reply}
use Rattle.guard.specs.Model.{View, between, during}
use Rattle.replay.specs.declared.call.Call.{Call}
use Rattle.replay.specs.declared.call.Call.TheVariants as call
use Rattle.replay.specs.declared.call.Outcome.{Outcome}
use Rattle.replay.specs.declared.call.Outcome.TheVariants as outcome
use Rattle.replay.specs.declared.call.Reply.{Reply}
use Rattle.replay.specs.declared.call.Reply.TheVariants as reply
use Rattle.replay.specs.declared.stage.Stage.{Stage}
use Rattle.replay.specs.declared.stage.Stage.TheVariants.{Between, During}

abbrev pub call_of : Call → rules.Call
call_of (call.Create s p w ds) = exec (create s p w (vec_items ds))
call_of (call.End s) = exec (end s)
call_of (call.Turn s) = exec (turn s)
call_of call.Close = exec close
call_of (call.Activate w) = app (activate w)
call_of (call.Visit w l b) = app (visit w (vec_items l) (vec_items b))
call_of (call.Grant w i c) = app (grant w i c)
call_of (call.Revoke w i c) = app (revoke w i c)
call_of (call.Derive w n) = app (derive w n)
call_of (call.Rekey w p) = app (rekey w p)
call_of (call.Read a) = app (access (Read a))
call_of (call.Write a b) = app (access (Write a b))
call_of (call.Fetch a) = app (access (Fetch a))

-- what a caller has after its call: the answer, and its buffer, which only a visit has
pub record Heard : Type 0 where
  pub answer : Answer
  pub buffer : List ℕ

abbrev pub buffer_of : rules.Call → List ℕ
buffer_of (exec e) = []
buffer_of (app (activate w)) = []
buffer_of (app (visit w l b)) = b
buffer_of (app (grant w i c)) = []
buffer_of (app (revoke w i c)) = []
buffer_of (app (derive w n)) = []
buffer_of (app (rekey w p)) = []
buffer_of (app (access a)) = []

-- by the rules
abbrev pub hears : rules.Call → Answer → Heard
hears c a = record { answer = a; buffer = buffer_after (buffer_of c) a }

-- by the code
abbrev pub reply_of : Reply → rules.Reply
reply_of reply.Done = done
reply_of (reply.Domain d) = value d
reply_of (reply.Password w) = value w
reply_of (reply.Byte b) = value b

abbrev pub heard_of : Outcome → Heard
heard_of (outcome.Answered r) = record { answer = told reply_of r; buffer = [] }
heard_of (outcome.Visited r b) = record { answer = told (visit_reply (vec_items b)) r; buffer = vec_items b }
heard_of (outcome.OutOfTurn c) = record { answer = refused out_of_turn; buffer = buffer_of (call_of c) }

-- what the calls hear, the oldest first, made after the run
abbrev pub heard_on : Setting → Run → List rules.Call → List Heard
heard_on S r [] = []
heard_on S r (c ∷ cs) = hears c (answer S r c) ∷ heard_on S (c ∷ r) cs

-- a call is performed by its rule
pub record Performed (before : View) (c : rules.Call) (heard : Heard) (after_it : View) : Type 0 where
  pub hears_it : heard ≡ hears c (answer_of (rule before.machine before.console c))
  pub leaves : after_it.console ≡ after before.console (rule before.machine before.console c)
  pub keeps : after_it.machine ≡ before.machine

module _ {F M : Type 0} (function : Function F) (memory : Memory M) where
  abbrev pub view : Stage F M → View
  view (Between c) = between function memory c
  view (During t) = during function memory t

-- what the rules see after a run
abbrev pub stood : Setting → Run → View
stood S r = record { machine = S.machine; console = state S r }

-- calls performed after a run, the oldest first: what was heard, and what was left
pub record Ran (S : Setting) (r : Run) (cs : List rules.Call) (heard : List Heard) (left : View) : Type 0 where
  pub hears_all : heard ≡ heard_on S r cs
  pub leaves : left ≡ stood S (run_on r cs)

-- what a replay from boot leaves and tells: all calls were performed, or, for want of memory, none
abbrev pub Replayed : {E : Type 0} → Setting → List rules.Call → View → Result (Vec Outcome Global) E → Type 0
Replayed S cs left r = MatchResult r (λ outcomes. Ran S [] cs (map heard_of (vec_items outcomes)) left) (λ _. left ≡ stood S [])
