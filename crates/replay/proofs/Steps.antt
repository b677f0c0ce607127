-- A call read as the one that it is, and answered by its rule.
use Rattle.std.proofs.Common.{◌≡◌, ℕ, List, [], length, drop, Ok, Err, MatchResult, vec_items, vec_len, Result, Vec, sym, refl, ap, ◌∙◌, subst}
use Rattle.rules.specs.Console as rules
use Rattle.std.proofs.lemmas.List.{take_at}
use Rattle.std.specs.Vec.{with_items}
use Rattle.std.specs.declared.alloc.Global.{Global}
use Rattle.vocabulary.specs.declared.refusal.Refusal.{Refusal}
use Rattle.vocabulary.specs.Refusals.{reason}
use Rattle.rules.specs.Console.{Answer, refused, accepted, done, value}
use Rattle.rules.specs.Calls.{buffer_after}
use Rattle.rules.specs.Told.{told}
use Rattle.unit.specs.Visits.{visit_reply}
use Rattle.unit.specs.declared.visit.Visited.{Visited}
use Rattle.replay.specs.declared.call.Outcome.TheVariants.{Answered, Visited as VisitedOutcome}
use Rattle.one_way.specs.declared.OneWay.{Ghosts as Function}
use Rattle.memory.specs.declared.Memory.{Ghosts as Memory}
use Rattle.guard.specs.Model.{View, Obeys}
use Rattle.replay.specs.declared.call.Call.{Call}
use Rattle.replay.specs.declared.stage.Stage.{Stage}
use Rattle.replay.specs.Model.{Heard, Performed, buffer_of, call_of, hears, heard_of, reply_of, view}
use Rattle.replay.specs.declared.call.Reply.{Reply}
use Rattle.replay.specs.declared.call.Reply.TheVariants.{Done}
use Rattle.std.specs.Result.{IsOkAnd, result_and}

-- a call performed at a stage that is known
pub at_stage : {F M : Type 0} (function : Function F) (memory : Memory M) (s s' : Stage F M) → s ≡ s' → {c : rules.Call} {h : Heard} {V : View}
    → Performed (view function memory s') c h V → Performed (view function memory s) c h V
at_stage function memory s s' e {c = c} {h = h} {V = V} p = subst (λ z. Performed (view function memory z) c h V) (sym e) p

-- a call that is known, answered by its rule, and heard by the caller
pub step : {V : View} (x : Call) {c : rules.Call} {a : Answer} {V' : View} {h : Heard} → call_of x ≡ c → Obeys V c a V' → h ≡ hears c a
    → Performed V (call_of x) h V'
step {V = V} x {c = c} {V' = V'} {h = h} e o q =
    subst (λ z. Performed V z h V') (sym e) (record { hears_it = q ∙ ap (hears c) o.answers; leaves = o.leaves; keeps = o.keeps })

-- a call that has no buffer: what its caller hears
heard : {V : View} (x : Call) {c : rules.Call} {V' : View} (a : Answer) (r : Result Reply Refusal) → told reply_of r ≡ a → buffer_after [] a ≡ [] → buffer_of c ≡ []
    → call_of x ≡ c → Obeys V c a V' → Performed V (call_of x) (heard_of (Answered r)) V'
heard x a r t n b e o =
    step x e o (ap (λ z. record { answer = z; buffer = [] }) t ∙ ap (λ bs. record { answer = a; buffer = bs }) (sym (ap (λ z. buffer_after z a) b ∙ n)))

-- one that answers a number, which is kept as its kind of reply
pub with_value : {V : View} (x : Call) {c : rules.Call} {V' : View} (kind : ℕ → Reply) → ((n : ℕ) → reply_of (kind n) ≡ value n)
    → (r : Result ℕ Refusal) (r' : Result Reply Refusal) → MatchResult r (λ n. IsOkAnd r' (λ y. y ≡ kind n)) (λ e. r' ≡ Err e)
    → buffer_of c ≡ [] → call_of x ≡ c → Obeys V c (told value r) V' → Performed V (call_of x) (heard_of (Answered r')) V'
with_value x kind k (Ok n) (Ok y) p = heard x _ (Ok y) (ap (λ z. accepted (reply_of z)) p ∙ ap accepted (k n)) refl
with_value x kind k (Ok n) (Err e) p = absurd p
with_value x kind k (Err e) r' p = heard x _ r' (ap (told reply_of) p) refl

-- one that answers only that it was accepted
pub with_none : {V : View} (x : Call) {c : rules.Call} {V' : View} (r : Result (Unit {0}) Refusal) (r' : Result Reply Refusal) → r' ≡ result_and r (Ok Done)
    → buffer_of c ≡ [] → call_of x ≡ c → Obeys V c (told (λ _. done) r) V' → Performed V (call_of x) (heard_of (Answered r')) V'
with_none x (Ok u) r' p = heard x _ r' (ap (told reply_of) p) refl
with_none x (Err e) r' p = heard x _ r' (ap (told reply_of) p) refl

-- a buffer that was lent and came back
pub refill : {Z : Type 0} (b : Vec ℕ Z) (xs : List ℕ) → length xs ≡ vec_len b → vec_items (with_items b xs) ≡ xs
refill b xs e = take_at xs (drop (length xs) (vec_items b)) (vec_len b) e

pub visit_heard : (r : Result Visited Refusal) (b : Vec ℕ Global) (xs old : List ℕ) → vec_items b ≡ xs → xs ≡ buffer_after old (told (visit_reply xs) r)
    → heard_of (VisitedOutcome r b) ≡ record { answer = told (visit_reply xs) r; buffer = buffer_after old (told (visit_reply xs) r) }
visit_heard (Ok v) b xs old e h = ap (λ ys. record { answer = accepted (visit_reply ys v); buffer = ys }) e
visit_heard (Err f) b xs old e h = ap (λ ys. record { answer = refused (reason f); buffer = ys }) (e ∙ h)
