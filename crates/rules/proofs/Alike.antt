-- Two runs that app n cannot tell apart: an equivalence, and what a call of another app leaves alike.
use Rattle.std.proofs.Common.{◌≡◌, ℕ, suc, Bool, true, false, cond, T, eqb, List, [], ◌∷◌, Some, None, Option, sym, refl, ap, ◌∙◌, subst}
use Rattle.std.proofs.lemmas.Bool.{eqb-true, eqb-false, ne_eqb}
use Rattle.vocabulary.specs.declared.access.Access.{Access}
use Rattle.vocabulary.specs.declared.access.Access.TheVariants.{Read, Write, Fetch}
use Rattle.memory.specs.Pages.{Page, page_of, offset_of, put}
use Rattle.rules.specs.Calls.{request_rule, rule}
use Rattle.rules.specs.Console.{Setting, Slot, Console, Request, activate, visit, grant, revoke, derive, rekey, access, app, Answer, refused, accepted, Outcome, after, out_of_turn, is_at}
use Rattle.rules.specs.History.{Holder, executive_calls, presented, changed, map_option, at_slot, running, holder, in_turn}
use Rattle.rules.specs.Isolation.{is_app, saved_of, register_of, Readable, answers}
use Rattle.rules.specs.LookUp.{look_up, domain_at}
use Rattle.rules.specs.Runs.{Run, state, answer}
use Rattle.rules.specs.Visits.{byte_of, Visit, made_first, unless_fault}
use Rattle.rules.proofs.Apart.{Harmless, PresentedApart, Apart, Quiet, domain_for, opened_other, all_quiet}
use Rattle.rules.proofs.Cases.{eqb_same, need_case}
use Rattle.rules.proofs.Faults.{faults, visits, writes, fault_none}
use Rattle.rules.proofs.Sound.{register_in_turn, register_own, Fits, request_turn, turn_same, holds}
use Rattle.rules.proofs.Walk.{request_parts}

pub put_same : (sl : ℕ → Option Slot) (s : ℕ) (o : Option Slot) → put sl s o s ≡ o
put_same sl s o = ap (λ b. cond b o (sl s)) (eqb_same s)

put_other : (sl : ℕ → Option Slot) (s t : ℕ) (o : Option Slot) → eqb s t ≡ false → put sl s o t ≡ sl t
put_other sl s t o e = ap (λ b. cond b o (sl t)) e

-- a call of an app changes no app's identity
pub changed_who : (r : Run) (q : Request) (a : Answer) (X : Holder) → (changed r q a X).who ≡ X.who
changed_who r q (refused f) X = refl
changed_who r (activate w) (accepted a) X = refl
changed_who r (visit w l b) (accepted a) X = refl
changed_who r (grant w i c) (accepted a) X = refl
changed_who r (revoke w i c) (accepted a) X = refl
changed_who r (derive w i) (accepted a) X = refl
changed_who r (rekey w p) (accepted a) X = refl
changed_who r (access i) (accepted a) X = refl

module _ (S : Setting) (n : ℕ) (ds : List ℕ) where
  pub record Alike (r₁ r₂ : Run) : Type 0 where
    pub count : executive_calls r₁ ≡ executive_calls r₂
    pub turns : running S r₁ ≡ running S r₂
    pub mine : (t : ℕ) → is_app n (holder S r₁ t) ≡ is_app n (holder S r₂ t)
    pub slots : (t : ℕ) → T (is_app n (holder S r₁ t)) → (state S r₁).slots t ≡ (state S r₂).slots t
    pub registers : (t : ℕ) → T (is_app n (holder S r₁ t)) → register_of (state S r₁) t ≡ register_of (state S r₂) t
    pub pages : (q : ℕ) → Readable S ds q → (state S r₁).pages q ≡ (state S r₂).pages q
    pub replies : answers S n r₁ ≡ answers S n r₂

  pub alike_refl : (r : Run) → Alike r r
  alike_refl r = record { count = refl; turns = refl; mine = λ t. refl; slots = λ t h. refl; registers = λ t h. refl; pages = λ q v. refl; replies = refl }

  pub alike_sym : (r₁ r₂ : Run) → Alike r₁ r₂ → Alike r₂ r₁
  alike_sym r₁ r₂ a =
      record {
        count = sym a.count;
        turns = sym a.turns;
        mine = λ t. sym (a.mine t);
        slots = λ t h. sym (a.slots t (subst T (sym (a.mine t)) h));
        registers = λ t h. sym (a.registers t (subst T (sym (a.mine t)) h));
        pages = λ q v. sym (a.pages q v);
        replies = sym a.replies;
      }

  pub alike_trans : (r₁ r₂ r₃ : Run) → Alike r₁ r₂ → Alike r₂ r₃ → Alike r₁ r₃
  alike_trans r₁ r₂ r₃ a b =
      record {
        count = a.count ∙ b.count;
        turns = a.turns ∙ b.turns;
        mine = λ t. a.mine t ∙ b.mine t;
        slots = λ t h. a.slots t h ∙ b.slots t (subst T (a.mine t) h);
        registers = λ t h. a.registers t h ∙ b.registers t (subst T (a.mine t) h);
        pages = λ q v. a.pages q v ∙ b.pages q v;
        replies = a.replies ∙ b.replies;
      }

  -- a call of an app leaves each app where it is
  pub mine_stays : (r : Run) (q : Request) (t : ℕ) → is_app n (holder S (app q ∷ r) t) ≡ is_app n (holder S r t)
  unfolding holder
  mine_stays r q t = go (is_at (running S r) t) (holder S r t)
    where
      go : (b : Bool) (x : Option Holder) → is_app n (cond b (map_option (changed r q (answer S r (app q))) x) x) ≡ is_app n x
      go true None = refl
      go true (Some X) = ap (λ y. eqb y.create_number n) (changed_who r q (answer S r (app q)) X)
      go false x = refl

  -- ---- a call of an app changes no other slot
  pub frame : (k : Console) (s : ℕ) (σ : Slot) (q : Request) (t : ℕ) → eqb s t ≡ false → (after k (request_rule S.machine k s σ q)).slots t ≡ k.slots t
  frame k s σ q t e =
      request_parts S.machine (λ o. (after k o).slots t ≡ k.slots t) (λ f _. refl) k s σ q
      (λ g a. refl) (λ σ' a. put_other k.slots s t (Some σ') e) (λ a. refl) (λ w l b f _ _. refl) (λ a _. refl)

  -- ---- another app's call changes no page that ds allow reading or fetching
  module _ (p : ℕ) (v : Readable S ds p) where
    untouched : (d : ℕ) → Harmless S n ds d → (m : ℕ → Page) (a : Access) → faults S d a ≡ None → writes S m a p ≡ m p
    untouched d h m (Read a) e = refl
    untouched d h m (Write a b) e = go (eqb (page_of a) p) refl
      where
        go : (x : Bool) → eqb (page_of a) p ≡ x → cond x (S.machine.effect (page_of a) (m (page_of a)) (offset_of a) b) (m p) ≡ m p
        go true q = absurd (h (page_of a) (fault_none S d (Write a b) e) (subst (Readable S ds) (sym (eqb-true (page_of a) p q)) v))
        go false q = refl
    untouched d h m (Fetch a) e = refl

    visit_untouched : (d : ℕ) → Harmless S n ds d → (l : List Access) (m : ℕ → Page) (i : ℕ) → (visits S l d m i).left p ≡ m p
    visit_untouched d h [] m i = refl
    visit_untouched d h (a ∷ l) m i =
        go (visits S l d (writes S m a) (suc i)) (visit_untouched d h l (writes S m a) (suc i)) (faults S d a) refl
      where
        go : (rest : Visit) → rest.left p ≡ writes S m a p → (x : Option ℕ) → faults S d a ≡ x → (unless_fault x i m (made_first (byte_of m a) rest)).left p ≡ m p
        go rest ih None e = ih ∙ untouched d h m a e
        go rest ih (Some j) e = refl

    quiet_pages : (k : Console) (s : ℕ) (σ : Slot) → Harmless S n ds k.register.domain → (q : Request) →
        ((w : ℕ) → presented q ≡ Some w → Harmless S n ds (domain_for S n ds k.slots (look_up k.slots s w))) →
        (after k (request_rule S.machine k s σ q)).pages p ≡ k.pages p
    quiet_pages k s σ g q h =
        request_parts S.machine (λ o. (after k o).pages p ≡ k.pages p) (λ f _. refl) k s σ q (λ g a. refl) (λ σ' a. refl) (λ a. refl)
        (λ w l b f y e. visit_untouched (domain_at k.slots f.slot f.place) (subst (λ x. Harmless S n ds (domain_for S n ds k.slots x)) e (h w y)) l k.pages 0)
        (λ a e. untouched k.register.domain g k.pages a e)

  -- ---- what a call of another app leaves of app n's
  LeftAlone : Run → Outcome → Type 0
  LeftAlone r o =
      ((t : ℕ) → T (is_app n (holder S r t)) → ((after (state S r) o).slots t ≡ (state S r).slots t) × (register_of (after (state S r) o) t ≡ register_of (state S r) t))
      × ((p : ℕ) → Readable S ds p → (after (state S r) o).pages p ≡ (state S r).pages p)

  other_request : (r : Run) (q : Request) → Apart S n ds (app q ∷ r) → is_app n (in_turn S r) ≡ false →
      (s : ℕ) → (state S r).turn_of ≡ Some s → (σ : Slot) → (state S r).slots s ≡ Some σ → LeftAlone r (request_rule S.machine (state S r) s σ q)
  unfolding LeftAlone Apart
  other_request r q a b s e σ h = (
    λ t m. (frame k s σ q t (off t m), register t (off t m)),
    λ p v. quiet_pages p v k s σ (subst (Harmless S n ds) (sym z.2.register ∙ ap (λ x. x.domain) (register_own k s e)) (quiet.1 other).1) q
        (λ w y. opened_other S n ds r (all_quiet S n ds r a.1) s z.0 turned z.1 other w (subst (PresentedApart S n ds r) y a.0)),
  )
    where
      k : Console
      k = state S r

      k' : Console
      k' = after k (request_rule S.machine k s σ q)

      turned : running S r ≡ Some s
      turned = sym (turn_same S r) ∙ e

      z : (X : Holder) × (holder S r s ≡ Some X) × Fits S σ X (register_of k s)
      z = holds S r s σ h

      not_mine : is_app n (holder S r s) ≡ false
      not_mine = sym (ap (λ o. is_app n (at_slot (holder S r) o)) turned) ∙ b

      other : ¬ (z.0.who.create_number ≡ n)
      other = eqb-false z.0.who.create_number n (sym (ap (is_app n) z.1) ∙ not_mine)

      quiet : Quiet S n ds (Some z.0)
      quiet = subst (Quiet S n ds) z.1 (all_quiet S n ds r a.1 s)

      off : (t : ℕ) → T (is_app n (holder S r t)) → eqb s t ≡ false
      off t m = ne_eqb s t (λ q. subst T (ap (λ u. is_app n (holder S r u)) (sym q) ∙ not_mine) m)

      register : (t : ℕ) → eqb s t ≡ false → register_of k' t ≡ register_of k t
      register t d =
          register_in_turn k' s t (request_turn S k s σ q ∙ e)
          ∙ ap (λ b. cond b k'.register (saved_of (k'.slots t))) d
          ∙ ap saved_of (frame k s σ q t d)
          ∙ sym (register_in_turn k s t e ∙ ap (λ b. cond b k.register (saved_of (k.slots t))) d)

  pub other_step : (r : Run) (q : Request) → Apart S n ds (app q ∷ r) → is_app n (in_turn S r) ≡ false → Alike (app q ∷ r) r
  unfolding LeftAlone running state answers answer
  other_step r q a b =
      let k : Console = state S r in
      let f : LeftAlone r (rule S.machine k (app q)) =
      need_case (LeftAlone r) k.turn_of out_of_turn _ (λ t m. (refl, refl), λ p v. refl) (λ s e.
      need_case (LeftAlone r) (k.slots s) out_of_turn _ (λ t m. (refl, refl), λ p v. refl) (λ σ h.
      other_request r q a b s e σ h)) in
      record {
        count = refl;
        turns = refl;
        mine = mine_stays r q;
        slots = λ t m. (f.0 t (subst T (mine_stays r q t) m)).0;
        registers = λ t m. (f.0 t (subst T (mine_stays r q t) m)).1;
        pages = f.1;
        replies = ap (λ x. cond x (answer S r (app q) ∷ answers S n r) (answers S n r)) b;
      }
