-- A visit works in the domain that activate would answer.
use Rattle.std.proofs.Common.{◌≡◌, ℕ, suc, ◌+◌, leb, List, [], ◌∷◌, length, take, drop, Some, None, Option, sym, refl, ap, subst, inl, inr, zero-add, arith}
use Rattle.std.proofs.lemmas.Bool.{leb-false}
use Rattle.vocabulary.specs.declared.access.Access.{Access}
use Rattle.vocabulary.specs.declared.found.Found.{Found}
use Rattle.vocabulary.specs.Refusals.{Reason, by_table, by_unit, by_turn}
use Rattle.memory.specs.Pages.{Page}
use Rattle.rules.specs.Calls.{activate_done, visit_found, visit_rule, request_rule}
use Rattle.rules.specs.Console.{Setting, Slot, Console, activate, visit, Answer, refused, Outcome, answer_of, out_of_turn, ask, need}
use Rattle.rules.specs.Isolation.{Permitted, Fault, EndsAt, Unopened, WorksIn, AlikeFound, OneLookUp}
use Rattle.rules.specs.Lists.{All}
use Rattle.rules.specs.LookUp.{look_up, domain_at}
use Rattle.rules.specs.Runs.{state, answer}
use Rattle.rules.specs.Visits.{byte_of, Visit, made_first, unless_fault}
use Rattle.rules.proofs.Cases.{ask_either}
use Rattle.rules.proofs.Faults.{faults, visits, writes, permitted, faulty}

module _ (S : Setting) where
  -- where a visit of accesses numbered from i ends
  EndsFrom : ℕ → ℕ → List Access → ℕ → Option Reason → Type 0
  EndsFrom i d l n None = n ≡ length l
  EndsFrom i d l n (Some f) = (a : Access) × (rest : List Access) × (drop n l ≡ a ∷ rest) × Fault S d a (i + n) f

  later : (i d : ℕ) (a : Access) (l : List Access) (n : ℕ) (f : Option Reason) → EndsFrom (suc i) d l n f → EndsFrom i d (a ∷ l) (suc n) f
  unfolding EndsFrom
  later i d a l n None h = ap suc h
  later i d a l n (Some f) (b, rest, h, e) =
      let z : suc i + n ≡ i + suc n = omega arith in
      (b, rest, h, subst (λ j. Fault S d b j f) z e)

  WorksFrom : ℕ → ℕ → List Access → Visit → Type 0
  WorksFrom i d l v = All (Permitted S d) (take v.made l) × EndsFrom i d l v.made v.fault

  works : (l : List Access) (d : ℕ) (m : ℕ → Page) (i : ℕ) → WorksFrom i d l (visits S l d m i)
  unfolding EndsFrom WorksFrom
  works [] d m i = (tt, refl)
  works (a ∷ l) d m i =
      go (visits S l d (writes S m a) (suc i)) (works l d (writes S m a) (suc i)) (faults S d a) refl
    where
      go : (rest : Visit) → WorksFrom (suc i) d l rest → (x : Option ℕ) → faults S d a ≡ x → WorksFrom i d (a ∷ l) (unless_fault x i m (made_first (byte_of m a) rest))
      go rest ih None e = ((permitted S d a e, ih.0), later i d a l rest.made rest.fault ih.1)
      go rest ih (Some n) e =
          let z : i ≡ i + 0 = omega arith in
          (tt, (a, l, refl, subst (λ j. Fault S d a j (by_unit n i)) z (faulty S d a n i e)))

  ends : (d : ℕ) (l : List Access) (n : ℕ) (f : Option Reason) → EndsFrom 0 d l n f → EndsAt S d l n f
  unfolding EndsFrom
  ends d l n None h = h
  ends d l n (Some f) (b, rest, h, e) = (b, rest, h, subst (λ j. Fault S d b j f) (zero-add n) e)

  -- the questions of a visit, before the look-up
  visit_asks : (P : Answer → Type 0) (l : List Access) (b : List ℕ) (o : Outcome) → ((f : Reason) → Unopened S l b f → P (refused f)) → P (answer_of o) →
      P (answer_of (ask (leb (length l) 64) (by_turn 18 0) (ask (leb (length l) (length b)) (by_turn 19 0) o)))
  visit_asks P l b o n y =
      ask_either (λ o. P (answer_of o)) (leb (length l) 64) (by_turn 18 0) _ (λ h. n (by_turn 18 0) (inl (leb-false (length l) 64 h, refl))) (λ _.
      ask_either (λ o. P (answer_of o)) (leb (length l) (length b)) (by_turn 19 0) _ (λ h. n (by_turn 19 0) (inr (leb-false (length l) (length b) h, refl))) (λ _. y))

  pub visit_works : (k : Console) (s w : ℕ) (l : List Access) (b : List ℕ) (f : Found) → look_up k.slots s w ≡ Some f →
      WorksIn S (domain_at k.slots f.slot f.place) l b (answer_of (visit_rule S.machine k s w l b))
  unfolding WorksFrom
  visit_works k s w l b f e =
      let d : ℕ = domain_at k.slots f.slot f.place in
      let v : Visit = visits S l d k.pages 0 in
      visit_asks (WorksIn S d l b) l b _ (λ f u. u)
      (subst (λ x. WorksIn S d l b (answer_of (need x (by_table 10 0) (λ f. visit_found S.machine k l b f)))) (sym e)
      ((works l d k.pages 0).0, ends d l v.made v.fault (works l d k.pages 0).1))

  pub one_look_up : OneLookUp S
  unfolding answer
  one_look_up r w l b = in_turn_case (state S r).turn_of
    where
      k : Console
      k = state S r

      look_case : (s : ℕ) (x : Option Found) → look_up k.slots s w ≡ x → AlikeFound S (answer_of (need x (by_table 10 0) (λ f. activate_done k f))) l b (answer_of (visit_rule S.machine k s w l b))
      look_case s None e =
          visit_asks (AlikeFound S (refused (by_table 10 0)) l b) l b _ (λ f u. inr u)
          (subst (λ x. AlikeFound S (refused (by_table 10 0)) l b (answer_of (need x (by_table 10 0) (λ f. visit_found S.machine k l b f)))) (sym e) (inl refl))
      look_case s (Some f) e = visit_works k s w l b f e

      slot_case : (s : ℕ) (x : Option Slot) →
          AlikeFound S (answer_of (need x out_of_turn (λ σ. request_rule S.machine k s σ (activate w)))) l b (answer_of (need x out_of_turn (λ σ. request_rule S.machine k s σ (visit w l b))))
      slot_case s None = inl refl
      slot_case s (Some σ) = look_case s (look_up k.slots s w) refl

      in_turn_case : (x : Option ℕ) →
          AlikeFound S (answer_of (need x out_of_turn (λ s. need (k.slots s) out_of_turn (λ σ. request_rule S.machine k s σ (activate w))))) l b
          (answer_of (need x out_of_turn (λ s. need (k.slots s) out_of_turn (λ σ. request_rule S.machine k s σ (visit w l b)))))
      in_turn_case None = inl refl
      in_turn_case (Some s) = slot_case s (k.slots s)
