-- A call of the executive, made in two runs that app n cannot tell apart, where what is compared of it is the same.
use Rattle.std.proofs.Common.{◌≡◌, ℕ, suc, Bool, true, false, cond, T, eqb, List, ◌∷◌, get_or, Some, None, Option, sym, refl, ap, ◌∙◌, subst, ap₂}
use Rattle.vocabulary.specs.declared.parameter.Parameter.{Parameter}
use Rattle.memory.specs.Pages.{Page}
use Rattle.rules.specs.Calls.{with_saved, executive_rule}
use Rattle.rules.specs.Console.{Setting, Register, holding, Slot, Console, Executive, create, end, turn, close, Request, exec, Answer, refused, accepted, Outcome, answer_of, after, out_of_turn, is_at}
use Rattle.rules.specs.History.{Holder, executive_calls, running_after, new_holder, new_app, holder_after, running, holder}
use Rattle.rules.specs.Isolation.{is_app, Compared, executive, other_create, own, compared_of, saved_of, register_of, answers}
use Rattle.rules.specs.Runs.{Run, state, answer}
use Rattle.rules.proofs.Accesses.{exec_pages}
use Rattle.rules.proofs.Alike.{Alike}
use Rattle.rules.proofs.Cases.{need_case}
use Rattle.memory.proofs.Entries.{everywhere}
use Rattle.rules.proofs.Sound.{console, turn_same}
use Rattle.rules.proofs.Walk.{first_slot, create_cases, end_cases, turn_cases}

re_saved : Option Slot → Register → Option Slot
re_saved None g = None
re_saved (Some σ) g = Some (with_saved σ g)

-- ---- two calls that are compared and found alike are the same call, or creates of the same slot
abbrev Like : Executive → Compared → Type 0
Like e (executive e' a) = e ≡ e'
Like (create s p w ds) (other_create t a) = s ≡ t
Like (end s) (other_create t a) = ⊥
Like (turn s) (other_create t a) = ⊥
Like close (other_create t a) = ⊥
Like e (own q) = ⊥

like_same : (b : Bool) (e : Executive) (a : Answer) → Like e (compared_of b e a)
like_same true (create s p w ds) a = refl
like_same false (create s p w ds) a = refl
like_same b (end s) a = refl
like_same b (turn s) a = refl
like_same b close a = refl

abbrev answer_in : Answer → Compared → Answer
answer_in d (executive e a) = a
answer_in d (other_create s a) = a
answer_in d (own q) = d

answer_is : (d : Answer) (b : Bool) (e : Executive) (a : Answer) → answer_in d (compared_of b e a) ≡ a
answer_is d true (create s p w ds) a = refl
answer_is d false (create s p w ds) a = refl
answer_is d b (end s) a = refl
answer_is d b (turn s) a = refl
answer_is d b close a = refl

-- a call of the executive is none of the app's
pub not_own : (b : Bool) (e : Executive) (a : Answer) (q : Request) → compared_of b e a ≡ own q → ⊥
not_own b e a q h = subst (Like e) h (like_same b e a)

module _ (S : Setting) (n : ℕ) where
  -- ---- what a call of the executive leaves at slot t, by its answer: of the slot, the register and whether app n has it
  slot_left : Executive → Answer → Option ℕ → ℕ → Option Slot → Register → Option Slot
  slot_left e (refused f) o t x g = x
  slot_left (create s p w ds) (accepted a) o t x g = cond (eqb s t) (Some (first_slot S.machine.way.H p w ds)) x
  slot_left (end s) (accepted a) o t x g = cond (eqb s t) None x
  slot_left (turn s) (accepted a) o t x g = x
  slot_left close (accepted a) o t x g = cond (is_at o t) (re_saved x g) x

  register_left : Executive → Answer → ℕ → Register → Register
  register_left e (refused f) t g = g
  register_left (create s p w ds) (accepted a) t g = cond (eqb s t) (holding (get_or ds 0 0)) g
  register_left (end s) (accepted a) t g = cond (eqb s t) (holding 0) g
  register_left (turn s) (accepted a) t g = g
  register_left close (accepted a) t g = g

  mine_left : Executive → Answer → ℕ → ℕ → Bool → Bool
  mine_left e (refused f) c t b = b
  mine_left (create s p w ds) (accepted a) c t b = cond (eqb s t) (eqb c n) b
  mine_left (end s) (accepted a) c t b = cond (eqb s t) false b
  mine_left (turn s) (accepted a) c t b = b
  mine_left close (accepted a) c t b = b

  mine_is : (e : Executive) (a : Answer) (c t : ℕ) (x : Option Holder) → is_app n (holder_after c e a t x) ≡ mine_left e a c t (is_app n x)
  unfolding mine_left
  mine_is e (refused f) c t x = refl
  mine_is (create s p w ds) (accepted a) c t x = go (eqb s t)
    where
      go : (b : Bool) → is_app n (cond b (Some (new_holder (new_app c s p w ds))) x) ≡ cond b (eqb c n) (is_app n x)
      go true = refl
      go false = refl
  mine_is (end s) (accepted a) c t x = go (eqb s t)
    where
      go : (b : Bool) → is_app n (cond b None x) ≡ cond b false (is_app n x)
      go true = refl
      go false = refl
  mine_is (turn s) (accepted a) c t x = refl
  mine_is close (accepted a) c t x = refl

  Left : Console → Executive → ℕ → Outcome → Type 0
  Left k e t o =
      ((after k o).slots t ≡ slot_left e (answer_of o) k.turn_of t (k.slots t) (register_of k t))
      × (register_of (after k o) t ≡ register_left e (answer_of o) t (register_of k t))

  left : (sl : ℕ → Option Slot) (g : Register) (o : Option ℕ) (m : ℕ → Page) (e : Executive) (t : ℕ) → Left (console sl g o m) e t (executive_rule S.machine (console sl g o m) e)
  unfolding Left slot_left register_left re_saved
  left sl g None m (create s p w ds) t =
      create_cases S.machine (Left (console sl g None m) (create s p w ds) t) (λ f _. (refl, refl)) (console sl g None m) s p w ds (λ _ _. (refl, go (eqb s t)))
    where
      go : (b : Bool) → saved_of (cond b (Some (first_slot S.machine.way.H p w ds)) (sl t)) ≡ cond b (holding (get_or ds 0 0)) (saved_of (sl t))
      go true = refl
      go false = refl
  left sl g None m (end s) t =
      end_cases S.machine (Left (console sl g None m) (end s) t) (λ f _. (refl, refl)) (console sl g None m) s (refl, go (eqb s t))
    where
      go : (b : Bool) → saved_of (cond b None (sl t)) ≡ cond b (holding 0) (saved_of (sl t))
      go true = refl
      go false = refl
  left sl g None m (turn s) t =
      turn_cases S.machine (Left (console sl g None m) (turn s) t) (λ f _. (refl, refl)) (console sl g None m) s (λ σ e.
      (refl, everywhere s (λ t b. cond b σ.saved (saved_of (sl t)) ≡ saved_of (sl t)) (sym (ap saved_of e)) (λ t _. refl) t))
  left sl g None m close t = (refl, refl)
  left sl g (Some u) m (create s p w ds) t = (refl, refl)
  left sl g (Some u) m (end s) t = (refl, refl)
  left sl g (Some u) m (turn s) t = (refl, refl)
  left sl g (Some u) m close t =
      need_case (Left (console sl g (Some u) m) close t) (sl u) out_of_turn _ (refl, refl) (λ σ e. (
        everywhere u (λ t b. cond b (re_saved (Some σ) g) (sl t) ≡ cond b (re_saved (sl t) (cond b g (saved_of (sl t)))) (sl t)) (sym (ap (λ x. re_saved x g) e)) (λ t _. refl) t,
        go σ (eqb u t),
      ))
    where
      go : (σ : Slot) (b : Bool) → saved_of (cond b (re_saved (Some σ) g) (sl t)) ≡ cond b g (saved_of (sl t))
      go σ true = refl
      go σ false = refl

  -- ---- two calls that leave app n's slot alike
  record Matched (e₁ e₂ : Executive) (a : Answer) (c : ℕ) : Type 0 where
    run : (o : Option ℕ) → running_after e₁ a o ≡ running_after e₂ a o
    ours : (t : ℕ) (b : Bool) → mine_left e₁ a c t b ≡ mine_left e₂ a c t b
    tables : (o : Option ℕ) (t : ℕ) (x₁ x₂ : Option Slot) (g₁ g₂ : Register) (b : Bool) → T (mine_left e₁ a c t b) → (T b → x₁ ≡ x₂) → (T b → g₁ ≡ g₂) →
        (slot_left e₁ a o t x₁ g₁ ≡ slot_left e₂ a o t x₂ g₂) × (register_left e₁ a t g₁ ≡ register_left e₂ a t g₂)

  matched_same : (e : Executive) (a : Answer) (c : ℕ) → Matched e e a c
  unfolding mine_left slot_left register_left
  matched_same e a c = record { run = λ o. refl; ours = λ t b. refl; tables = go e a }
    where
      go : (e : Executive) (a : Answer) (o : Option ℕ) (t : ℕ) (x₁ x₂ : Option Slot) (g₁ g₂ : Register) (b : Bool) → T (mine_left e a c t b) → (T b → x₁ ≡ x₂) → (T b → g₁ ≡ g₂) →
          (slot_left e a o t x₁ g₁ ≡ slot_left e a o t x₂ g₂) × (register_left e a t g₁ ≡ register_left e a t g₂)
      go e (refused f) o t x₁ x₂ g₁ g₂ b m hx hg = (hx m, hg m)
      go (create s p w ds) (accepted a) o t x₁ x₂ g₁ g₂ b m hx hg = at (eqb s t) m
        where
          σ : Slot
          σ = first_slot S.machine.way.H p w ds

          at : (d : Bool) → T (cond d (eqb c n) b) → (cond d (Some σ) x₁ ≡ cond d (Some σ) x₂) × (cond d (holding (get_or ds 0 0)) g₁ ≡ cond d (holding (get_or ds 0 0)) g₂)
          at true m = (refl, refl)
          at false m = (hx m, hg m)
      go (end s) (accepted a) o t x₁ x₂ g₁ g₂ b m hx hg = at (eqb s t) m
        where
          at : (d : Bool) → T (cond d false b) → (cond d None x₁ ≡ cond d None x₂) × (cond d (holding 0) g₁ ≡ cond d (holding 0) g₂)
          at true m = absurd m
          at false m = (hx m, hg m)
      go (turn s) (accepted a) o t x₁ x₂ g₁ g₂ b m hx hg = (hx m, hg m)
      go close (accepted a) o t x₁ x₂ g₁ g₂ b m hx hg = (ap₂ (λ (x : Option Slot) (g : Register). cond (is_at o t) (re_saved x g) x) (hx m) (hg m), hg m)

  matched_create : (s : ℕ) (p₁ p₂ : Parameter) (w₁ w₂ : ℕ) (d₁ d₂ : List ℕ) (a : Answer) (c : ℕ) → eqb c n ≡ false → Matched (create s p₁ w₁ d₁) (create s p₂ w₂ d₂) a c
  unfolding mine_left slot_left register_left
  matched_create s p₁ p₂ w₁ w₂ d₁ d₂ (refused f) c e = record { run = λ o. refl; ours = λ t b. refl; tables = λ o t x₁ x₂ g₁ g₂ b m hx hg. (hx m, hg m) }
  matched_create s p₁ p₂ w₁ w₂ d₁ d₂ (accepted a) c e =
      record { run = λ o. refl; ours = λ t b. refl; tables = λ o t x₁ x₂ g₁ g₂ b m hx hg. at x₁ x₂ g₁ g₂ b hx hg (eqb s t) m }
    where
      σ₁ : Slot
      σ₁ = first_slot S.machine.way.H p₁ w₁ d₁

      σ₂ : Slot
      σ₂ = first_slot S.machine.way.H p₂ w₂ d₂

      at : (x₁ x₂ : Option Slot) (g₁ g₂ : Register) (b : Bool) → (T b → x₁ ≡ x₂) → (T b → g₁ ≡ g₂) → (d : Bool) → T (cond d (eqb c n) b) →
          (cond d (Some σ₁) x₁ ≡ cond d (Some σ₂) x₂) × (cond d (holding (get_or d₁ 0 0)) g₁ ≡ cond d (holding (get_or d₂ 0 0)) g₂)
      at x₁ x₂ g₁ g₂ b hx hg true m = absurd (subst T e m)
      at x₁ x₂ g₁ g₂ b hx hg false m = (hx m, hg m)

  matched_like : (b : Bool) (c : ℕ) → eqb c n ≡ b → (e₁ e₂ : Executive) (a a' : Answer) → Like e₁ (compared_of b e₂ a') → Matched e₁ e₂ a c
  matched_like true c f e₁ (create t p w ds) a a' l = subst (λ e. Matched e₁ e a c) l (matched_same e₁ a c)
  matched_like false c f e₁ (create t p w ds) a a' l = go e₁ l
    where
      go : (e₁ : Executive) → Like e₁ (other_create t a') → Matched e₁ (create t p w ds) a c
      go (create s p₁ w₁ d₁) l = subst (λ t. Matched (create s p₁ w₁ d₁) (create t p w ds) a c) l (matched_create s p₁ p w₁ w d₁ ds a c f)
      go (end s) l = absurd l
      go (turn s) l = absurd l
      go close l = absurd l
  matched_like b c f e₁ (end s) a a' l = subst (λ e. Matched e₁ e a c) l (matched_same e₁ a c)
  matched_like b c f e₁ (turn s) a a' l = subst (λ e. Matched e₁ e a c) l (matched_same e₁ a c)
  matched_like b c f e₁ close a a' l = subst (λ e. Matched e₁ e a c) l (matched_same e₁ a c)

module _ (S : Setting) (n : ℕ) (ds : List ℕ) where
  pub exec_step_alike : (r₁ r₂ : Run) (e₁ e₂ : Executive) → Alike S n ds r₁ r₂ →
      compared_of (eqb (executive_calls r₁) n) e₁ (answer S r₁ (exec e₁)) ≡ compared_of (eqb (executive_calls r₂) n) e₂ (answer S r₂ (exec e₂)) →
      Alike S n ds (exec e₁ ∷ r₁) (exec e₂ ∷ r₂)
  unfolding Left running holder state answers answer
  exec_step_alike r₁ r₂ e₁ e₂ al h =
      let k₁ : Console = state S r₁ in
      let k₂ : Console = state S r₂ in
      let a₁ : Answer = answer S r₁ (exec e₁) in
      let a₂ : Answer = answer S r₂ (exec e₂) in
      let c₁ : ℕ = executive_calls r₁ in
      let q : compared_of (eqb c₁ n) e₁ a₁ ≡ compared_of (eqb c₁ n) e₂ a₂ = h ∙ ap (λ c. compared_of (eqb c n) e₂ a₂) (sym al.count) in
      let ea : a₁ ≡ a₂ = sym (answer_is a₁ (eqb c₁ n) e₁ a₁) ∙ ap (answer_in a₁) q ∙ answer_is a₁ (eqb c₁ n) e₂ a₂ in
      let ma : Matched S n e₁ e₂ a₁ c₁ = matched_like S n (eqb c₁ n) c₁ refl e₁ e₂ a₁ a₂ (subst (Like e₁) q (like_same (eqb c₁ n) e₁ a₁)) in
      let turns : k₁.turn_of ≡ k₂.turn_of = turn_same S r₁ ∙ al.turns ∙ sym (turn_same S r₂) in
      let l₁ : (t : ℕ) → Left S n k₁ e₁ t (executive_rule S.machine k₁ e₁) = λ t. left S n k₁.slots k₁.register k₁.turn_of k₁.pages e₁ t in
      let l₂ : (t : ℕ) → Left S n k₂ e₂ t (executive_rule S.machine k₂ e₂) = λ t. left S n k₂.slots k₂.register k₂.turn_of k₂.pages e₂ t in
      let same : (t : ℕ) → T (is_app n (holder S (exec e₁ ∷ r₁) t)) →
      (slot_left S n e₁ a₁ k₁.turn_of t (k₁.slots t) (register_of k₁ t) ≡ slot_left S n e₂ a₁ k₁.turn_of t (k₂.slots t) (register_of k₂ t))
      × (register_left S n e₁ a₁ t (register_of k₁ t) ≡ register_left S n e₂ a₁ t (register_of k₂ t)) =
      λ t m. ma.tables k₁.turn_of t (k₁.slots t) (k₂.slots t) (register_of k₁ t) (register_of k₂ t) (is_app n (holder S r₁ t))
      (subst T (mine_is S n e₁ a₁ c₁ t (holder S r₁ t)) m) (al.slots t) (al.registers t) in
      record {
        count = ap suc al.count;
        turns = ma.run (running S r₁) ∙ ap₂ (λ (a : Answer) (o : Option ℕ). running_after e₂ a o) ea al.turns;
        mine = λ t.
            mine_is S n e₁ a₁ c₁ t (holder S r₁ t) ∙ ma.ours t (is_app n (holder S r₁ t))
            ∙ (λ i. mine_left S n e₂ (ea i) (al.count i) t (al.mine t i))
            ∙ sym (mine_is S n e₂ a₂ (executive_calls r₂) t (holder S r₂ t));
        slots = λ t m. (l₁ t).0 ∙ (same t m).0 ∙ (λ i. slot_left S n e₂ (ea i) (turns i) t (k₂.slots t) (register_of k₂ t)) ∙ sym (l₂ t).0;
        registers = λ t m. (l₁ t).1 ∙ (same t m).1 ∙ (λ i. register_left S n e₂ (ea i) t (register_of k₂ t)) ∙ sym (l₂ t).1;
        pages = λ p v.
            ap (λ m. m p) (exec_pages S k₁.slots k₁.register k₁.turn_of k₁.pages e₁) ∙ al.pages p v
            ∙ sym (ap (λ m. m p) (exec_pages S k₂.slots k₂.register k₂.turn_of k₂.pages e₂));
        replies = al.replies;
      }
