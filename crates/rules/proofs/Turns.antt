-- The slot in turn is taken, and taken slots are below 8; so a call that the turns allow, and no other, is answered by its rule.
use Rattle.std.proofs.Common.{◌≡◌, ℕ, ◌<◌, cond, not, T, ltb, [], ◌∷◌, Some, None, Option, sym, refl, ap, ◌∙◌, subst, ltb→lt}
use Rattle.vocabulary.specs.Refusals.{Reason}
use Rattle.memory.specs.Pages.{Page, put}
use Rattle.rules.specs.Calls.{with_saved, executive_rule, request_rule, rule}
use Rattle.rules.specs.Console.{Setting, Register, Slot, Console, Executive, create, end, turn, close, Request, Call, exec, app, Reply, Answer, refused, accepted, Outcome, refuse, accept, answer_of, after, out_of_turn, need, is_none}
use Rattle.rules.specs.History.{Holder, turns_allow, running, holder}
use Rattle.rules.specs.Isolation.{TurnsHaveApps, Answered}
use Rattle.rules.specs.Runs.{Run, state, answer}
use Rattle.rules.proofs.Cases.{eqb_same, need_case}
use Rattle.memory.proofs.Entries.{everywhere}
use Rattle.rules.proofs.Sound.{console, turn_same, kept, holds}
use Rattle.rules.proofs.Walk.{first_slot, create_cases, end_cases, turn_cases, request_parts}

abbrev Taken : Option Slot → Type 0
Taken x = T (not (is_none x))

taken_some : (x : Option Slot) → Taken x → (σ : Slot) × (x ≡ Some σ)
taken_some None h = absurd h
taken_some (Some σ) h = (σ, refl)

some_taken : (x : Option Slot) (σ : Slot) → x ≡ Some σ → Taken x
some_taken x σ e = subst Taken (sym e) tt

abbrev Few : (ℕ → Option Slot) → Type 0
Few sl = (t : ℕ) → Taken (sl t) → T (ltb t 8)

abbrev Seat : (ℕ → Option Slot) → Option ℕ → Type 0
Seat sl None = Unit {0}
Seat sl (Some s) = Taken (sl s)

abbrev Placed : Console → Type 0
Placed k = Few k.slots × Seat k.slots k.turn_of

few_put : (sl : ℕ → Option Slot) (s : ℕ) (σ : Slot) → T (ltb s 8) → Few sl → Few (put sl s (Some σ))
few_put sl s σ h few = everywhere s (λ t b. Taken (cond b (Some σ) (sl t)) → T (ltb t 8)) (λ _. h) (λ t _. few t)

-- the answer that no question gives
abbrev number_of : Answer → ℕ
number_of (refused f) = f.number
number_of (accepted a) = 1

Timely : Outcome → Type 0
Timely o = ¬ (answer_of o ≡ refused out_of_turn)

refused_timely : (f : Reason) → T (ltb 0 f.number) → Timely (refuse f)
unfolding Timely
refused_timely f h e = subst (λ a. T (ltb 0 (number_of a))) e h

accepted_timely : (k : Console) (a : Reply) → Timely (accept k a)
unfolding Timely
accepted_timely k a e = subst (λ x. T (ltb 0 (number_of x))) e tt

module _ (S : Setting) where
  exec_placed : (sl : ℕ → Option Slot) (g : Register) (o : Option ℕ) (m : ℕ → Page) (e : Executive) → Placed (console sl g o m) →
      Placed (after (console sl g o m) (executive_rule S.machine (console sl g o m) e))
  exec_placed sl g None m (create s p w ds) h =
      create_cases S.machine (λ x. Placed (after (console sl g None m) x)) (λ f _. h) (console sl g None m) s p w ds
      (λ l _. (few_put sl s (first_slot S.machine.way.H p w ds) l h.0, tt))
  exec_placed sl g None m (end s) h =
      end_cases S.machine (λ x. Placed (after (console sl g None m) x)) (λ f _. h) (console sl g None m) s
      (everywhere s (λ t b. Taken (cond b None (sl t)) → T (ltb t 8)) (λ x. absurd x) (λ t _. h.0 t), tt)
  exec_placed sl g None m (turn s) h =
      turn_cases S.machine (λ x. Placed (after (console sl g None m) x)) (λ f _. h) (console sl g None m) s (λ σ e. (h.0, some_taken (sl s) σ e))
  exec_placed sl g None m close h = h
  exec_placed sl g (Some u) m (create s p w ds) h = h
  exec_placed sl g (Some u) m (end s) h = h
  exec_placed sl g (Some u) m (turn s) h = h
  exec_placed sl g (Some u) m close h =
      need_case (λ x. Placed (after (console sl g (Some u) m) x)) (sl u) out_of_turn _ h (λ σ e. (few_put sl u (with_saved σ g) (h.0 u h.1) h.0, tt))

  app_placed : (sl : ℕ → Option Slot) (g : Register) (o : Option ℕ) (m : ℕ → Page) (q : Request) → Placed (console sl g o m) →
      Placed (after (console sl g o m) (rule S.machine (console sl g o m) (app q)))
  app_placed sl g None m q h = h
  app_placed sl g (Some s) m q h =
      need_case (λ x. Placed (after (console sl g (Some s) m) x)) (sl s) out_of_turn _ h (λ σ e.
      request_parts S.machine (λ x. Placed (after (console sl g (Some s) m) x)) (λ f _. h) (console sl g (Some s) m) s σ q
      (λ g a. h)
      (λ σ' a. (few_put sl s σ' (h.0 s h.1) h.0, subst (λ b. Taken (cond b (Some σ') (sl s))) (sym (eqb_same s)) tt))
      (λ a. h) (λ w l b f _ _. h) (λ a _. h))

  placed : (r : Run) → Placed (state S r)
  unfolding state
  placed [] = (λ t h. absurd h, tt)
  placed (exec e ∷ r) = exec_placed (state S r).slots (state S r).register (state S r).turn_of (state S r).pages e (placed r)
  placed (app q ∷ r) = app_placed (state S r).slots (state S r).register (state S r).turn_of (state S r).pages q (placed r)

  seated : (r : Run) (s : ℕ) → running S r ≡ Some s → Taken ((state S r).slots s)
  seated r s e = subst (Seat (state S r).slots) (turn_same S r ∙ e) (placed r).1

  pub slot_below : (r : Run) (t : ℕ) (Y : Holder) → holder S r t ≡ Some Y → t < 8
  slot_below r t Y e = let z = kept S r t Y e in ltb→lt t 8 ((placed r).0 t (some_taken ((state S r).slots t) z.0 z.1))

  pub turns_have_apps : TurnsHaveApps S
  turns_have_apps r s e =
      let x = taken_some ((state S r).slots s) (seated r s e) in
      let z = holds S r s x.0 x.1 in
      (z.0, z.1)

  -- ---- answered by the rules, or out of turn
  request_timely : (k : Console) (s : ℕ) (σ : Slot) (q : Request) → Timely (request_rule S.machine k s σ q)
  request_timely k s σ q =
      request_parts S.machine Timely refused_timely k s σ q
      (λ g a. accepted_timely _ a) (λ σ' a. accepted_timely _ a) (λ a. accepted_timely _ a) (λ w l b f _ _. accepted_timely _ _) (λ a _. accepted_timely _ _)

  taken_timely : (x : Option Slot) (g : Slot → Outcome) → Taken x → ((σ : Slot) → Timely (g σ)) → Timely (need x out_of_turn g)
  taken_timely None g h y = absurd h
  taken_timely (Some σ) g h y = y σ

  timely : (sl : ℕ → Option Slot) (g : Register) (o : Option ℕ) (m : ℕ → Page) (c : Call) → Seat sl o → T (turns_allow o c) → Timely (rule S.machine (console sl g o m) c)
  timely sl g None m (exec (create s p w ds)) h t = create_cases S.machine Timely refused_timely (console sl g None m) s p w ds (λ _ _. accepted_timely _ _)
  timely sl g None m (exec (end s)) h t = end_cases S.machine Timely refused_timely (console sl g None m) s (accepted_timely _ _)
  timely sl g None m (exec (turn s)) h t = turn_cases S.machine Timely refused_timely (console sl g None m) s (λ σ _. accepted_timely _ _)
  timely sl g None m (exec close) h t = absurd t
  timely sl g None m (app q) h t = absurd t
  timely sl g (Some u) m (exec (create s p w ds)) h t = absurd t
  timely sl g (Some u) m (exec (end s)) h t = absurd t
  timely sl g (Some u) m (exec (turn s)) h t = absurd t
  timely sl g (Some u) m (exec close) h t = taken_timely (sl u) _ h (λ σ. accepted_timely _ _)
  timely sl g (Some u) m (app q) h t = taken_timely (sl u) _ h (λ σ. request_timely (console sl g (Some u) m) u σ q)

  not_allowed : (sl : ℕ → Option Slot) (g : Register) (o : Option ℕ) (m : ℕ → Page) (c : Call) → ¬ T (turns_allow o c) → rule S.machine (console sl g o m) c ≡ refuse out_of_turn
  not_allowed sl g None m (exec (create s p w ds)) h = absurd (h tt)
  not_allowed sl g None m (exec (end s)) h = absurd (h tt)
  not_allowed sl g None m (exec (turn s)) h = absurd (h tt)
  not_allowed sl g None m (exec close) h = refl
  not_allowed sl g None m (app q) h = refl
  not_allowed sl g (Some u) m (exec (create s p w ds)) h = refl
  not_allowed sl g (Some u) m (exec (end s)) h = refl
  not_allowed sl g (Some u) m (exec (turn s)) h = refl
  not_allowed sl g (Some u) m (exec close) h = absurd (h tt)
  not_allowed sl g (Some u) m (app q) h = absurd (h tt)

  pub answered : Answered S
  unfolding answer state Timely
  answered r c =
      let k : Console = state S r in (
        λ t. timely k.slots k.register k.turn_of k.pages c (placed r).1 (subst (λ o. T (turns_allow o c)) (sym (turn_same S r)) t),
        λ h.
            let e : rule S.machine k c ≡ refuse out_of_turn = not_allowed k.slots k.register k.turn_of k.pages c (λ t. h (subst (λ o. T (turns_allow o c)) (turn_same S r) t)) in
            (ap answer_of e, ap (after k) e),
      )
