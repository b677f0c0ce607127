-- App n's own call, made in two runs that it cannot tell apart.
use Rattle.std.proofs.Common.{◌≡◌, ℕ, suc, ◌+◌, Bool, true, false, cond, ◌&&◌, T, eqb, ltb, leb, List, [], ◌∷◌, ◌++◌, length, get_or, drop, Some, None, Option, sym, refl, ap, ◌∙◌, subst, ap₂, inl, inr}
use lib.Dec.{eqb_refl}
use Rattle.std.proofs.lemmas.Bool.{eqb-true}
use Rattle.vocabulary.specs.declared.access.Access.{Access}
use Rattle.vocabulary.specs.declared.access.Access.TheVariants.{Read, Write, Fetch}
use Rattle.vocabulary.specs.declared.access.Right.TheVariants as right
use Rattle.vocabulary.specs.Refusals.{Reason, by_table, by_unit, by_turn}
use Rattle.one_way.specs.Chains.{chain}
use Rattle.memory.specs.Pages.{Page, byte_at, page_of, offset_of}
use Rattle.rules.specs.Calls.{with_slot, with_register, with_pages, activate_done, visit_done, visit_found, is_master, revoke_asks, request_rule, rule}
use Rattle.rules.specs.Console.{Setting, Register, holding, Slot, Console, Request, activate, visit, grant, revoke, derive, rekey, access, app, Reply, value, visited, Answer, accepted, Outcome, refuse, accept, answer_of, after, ask, need, unless}
use Rattle.rules.specs.Domains.{has, Within}
use Rattle.rules.specs.History.{Holder, presented, at_slot, running, holder, in_turn, written_by}
use Rattle.rules.specs.Isolation.{is_app, saved_of, Readable, answers}
use Rattle.rules.specs.LookUp.{place_of, first_repeat, domains_of, found_in, look_up, domain_at}
use Rattle.rules.specs.Runs.{Run, state, answer}
use Rattle.rules.specs.Visits.{byte_of, reply_to, Visit, made_first, unless_fault}
use Rattle.rules.proofs.Accesses.{one_write}
use Rattle.rules.proofs.Alike.{put_same, Alike, mine_stays, frame}
use Rattle.rules.proofs.Apart.{PresentedApart, Apart, Quiet, own_only, opened_own, all_quiet}
use Rattle.rules.proofs.Bits.{allow_within}
use Rattle.rules.proofs.Cases.{at_or_off}
use Rattle.rules.proofs.Faults.{faults, visits, writes, fault_none, fault_page}
use Rattle.rules.proofs.Sound.{console, register_in_turn, register_own, app_turn, turn_same, kept}
use Rattle.rules.proofs.Walk.{app_rule}

-- ---- one rule in two consoles
module _ (Q : Outcome → Outcome → Type 0) where
  ask_both : (b : Bool) (f : Reason) (o₁ o₂ : Outcome) → Q (refuse f) (refuse f) → Q o₁ o₂ → Q (ask b f o₁) (ask b f o₂)
  ask_both true f o₁ o₂ n y = y
  ask_both false f o₁ o₂ n y = n

  unless_both : (x : Option ℕ) (f : ℕ → Reason) (o₁ o₂ : Outcome) → ((i : ℕ) → Q (refuse (f i)) (refuse (f i))) → (x ≡ None → Q o₁ o₂) → Q (unless x f o₁) (unless x f o₂)
  unless_both None f o₁ o₂ n y = y refl
  unless_both (Some i) f o₁ o₂ n y = n i

  need_both : {A : Type 0} (x : Option A) (f : Reason) (g₁ g₂ : A → Outcome) → Q (refuse f) (refuse f) → ((a : A) → Q (g₁ a) (g₂ a)) → Q (need x f g₁) (need x f g₂)
  need_both None f g₁ g₂ n y = n
  need_both (Some a) f g₁ g₂ n y = y a

  -- the same search in both
  need_same : {A : Type 0} (x x₁ x₂ : Option A) (f : Reason) (g₁ g₂ : A → Outcome) → x₁ ≡ x → x₂ ≡ x → Q (need x f g₁) (need x f g₂) → Q (need x₁ f g₁) (need x₂ f g₂)
  need_same x x₁ x₂ f g₁ g₂ e₁ e₂ y = subst (λ z. Q (need z f g₁) (need x₂ f g₂)) (sym e₁) (subst (λ z. Q (need x f g₁) (need z f g₂)) (sym e₂) y)

module _ (S : Setting) (n : ℕ) (ds : List ℕ) where
  -- the pages that ds allow reading or fetching are the same
  See : (ℕ → Page) → (ℕ → Page) → Type 0
  See m₁ m₂ = (p : ℕ) → Readable S ds p → m₁ p ≡ m₂ p

  Both : Console → Console → ℕ → Outcome → Outcome → Type 0
  Both k₁ k₂ s o₁ o₂ =
      (answer_of o₁ ≡ answer_of o₂) × ((after k₁ o₁).slots s ≡ (after k₂ o₂).slots s) × ((after k₁ o₁).register ≡ (after k₂ o₂).register) × See (after k₁ o₁).pages (after k₂ o₂).pages

  -- ---- accesses under a domain within ds
  module _ (d : ℕ) (w : Within d ds) where
    byte_same : (a : Access) → faults S d a ≡ None → (m₁ m₂ : ℕ → Page) → See m₁ m₂ → byte_of m₁ a ≡ byte_of m₂ a
    unfolding See
    byte_same (Read a) e m₁ m₂ v =
        ap (λ p. byte_at p (offset_of a)) (v (page_of a) (fault_page S d (Read a) e, inl (allow_within S.machine.field d ds right.Read (page_of a) w (fault_none S d (Read a) e))))
    byte_same (Write a b) e m₁ m₂ v = refl
    byte_same (Fetch a) e m₁ m₂ v =
        ap (λ p. byte_at p (offset_of a)) (v (page_of a) (fault_page S d (Fetch a) e, inr (allow_within S.machine.field d ds right.Execute (page_of a) w (fault_none S d (Fetch a) e))))

    reply_same : (a : Access) → faults S d a ≡ None → (m₁ m₂ : ℕ → Page) → See m₁ m₂ → reply_to m₁ a ≡ reply_to m₂ a
    reply_same (Read a) e m₁ m₂ v = ap value (byte_same (Read a) e m₁ m₂ v)
    reply_same (Write a b) e m₁ m₂ v = refl
    reply_same (Fetch a) e m₁ m₂ v = ap value (byte_same (Fetch a) e m₁ m₂ v)

    pages_same : (a : Access) (m₁ m₂ : ℕ → Page) → See m₁ m₂ → See (writes S m₁ a) (writes S m₂ a)
    unfolding See
    pages_same a m₁ m₂ v p h = one_write S m₁ a p ∙ ap (written_by S p a) (v p h) ∙ sym (one_write S m₂ a p)

    record Visits (v₁ v₂ : Visit) : Type 0 where
      made : v₁.made ≡ v₂.made
      fault : v₁.fault ≡ v₂.fault
      bytes : v₁.bytes ≡ v₂.bytes
      left : See v₁.left v₂.left

    visits_same : (l : List Access) (m₁ m₂ : ℕ → Page) (i : ℕ) → See m₁ m₂ →
        Visits (visits S l d m₁ i) (visits S l d m₂ i)
    visits_same [] m₁ m₂ i v = record { made = refl; fault = refl; bytes = refl; left = v }
    visits_same (a ∷ l) m₁ m₂ i v =
        go (visits S l d (writes S m₁ a) (suc i)) (visits S l d (writes S m₂ a) (suc i))
        (visits_same l (writes S m₁ a) (writes S m₂ a) (suc i) (pages_same a m₁ m₂ v)) (faults S d a) refl
      where
        go : (rest₁ rest₂ : Visit) → Visits rest₁ rest₂ → (x : Option ℕ) → faults S d a ≡ x →
            Visits (unless_fault x i m₁ (made_first (byte_of m₁ a) rest₁)) (unless_fault x i m₂ (made_first (byte_of m₂ a) rest₂))
        go rest₁ rest₂ ih None e =
            record { made = ap suc ih.made; fault = ih.fault; bytes = ap₂ (λ (x : ℕ) (xs : List ℕ). x ∷ xs) (byte_same a e m₁ m₂ v) ih.bytes; left = ih.left }
        go rest₁ rest₂ ih (Some j) e = record { made = refl; fault = refl; bytes = refl; left = v }

  -- ---- every call of the app in slot s, whose record and register are the same in both consoles
  module _ (sl₁ sl₂ : ℕ → Option Slot) (g : Register) (t₁ t₂ : Option ℕ) (m₁ m₂ : ℕ → Page) (s : ℕ) (σ : Slot)
      (h₁ : sl₁ s ≡ Some σ) (h₂ : sl₂ s ≡ Some σ) (v : See m₁ m₂) (wg : Within g.domain ds) (wd : (i : ℕ) → Within (get_or σ.domains i 0) ds) where
    k₁ : Console
    k₁ = console sl₁ g t₁ m₁

    k₂ : Console
    k₂ = console sl₂ g t₂ m₂

    Q : Outcome → Outcome → Type 0
    Q o₁ o₂ = Both k₁ k₂ s o₁ o₂

    refuse_both : (f : Reason) → Q (refuse f) (refuse f)
    unfolding Q Both k₁ k₂
    refuse_both f = (refl, h₁ ∙ sym h₂, refl, v)

    slot_both : (σ' : Slot) (a : Reply) → Q (accept (with_slot k₁ s (Some σ')) a) (accept (with_slot k₂ s (Some σ')) a)
    unfolding Q Both k₁ k₂
    slot_both σ' a = (refl, put_same sl₁ s (Some σ') ∙ sym (put_same sl₂ s (Some σ')), refl, v)

    keep_both : (a : Reply) → Q (accept k₁ a) (accept k₂ a)
    unfolding Q Both k₁ k₂
    keep_both a = (refl, h₁ ∙ sym h₂, refl, v)

    access_both : (a : Access) → faults S g.domain a ≡ None →
        Q (accept (with_pages k₁ (writes S m₁ a)) (reply_to m₁ a)) (accept (with_pages k₂ (writes S m₂ a)) (reply_to m₂ a))
    unfolding Q Both k₁ k₂
    access_both a e = (ap accepted (reply_same g.domain wg a e m₁ m₂ v), h₁ ∙ sym h₂, refl, pages_same g.domain wg a m₁ m₂ v)

    activate_both : (x : Option ℕ) → Q (need (found_in s x) (by_table 10 0) (λ f. activate_done k₁ f)) (need (found_in s x) (by_table 10 0) (λ f. activate_done k₂ f))
    unfolding Q Both k₁ k₂
    activate_both None = refuse_both (by_table 10 0)
    activate_both (Some i) =
        let e : domain_at sl₁ s i ≡ domain_at sl₂ s i = ap (λ o. get_or (domains_of o) i 0) (h₁ ∙ sym h₂) in
        (ap (λ d. accepted (value d)) e, h₁ ∙ sym h₂, ap holding e, v)

    visit_both : (l : List Access) (b : List ℕ) (x : Option ℕ) →
        Q (need (found_in s x) (by_table 10 0) (λ f. visit_found S.machine k₁ l b f)) (need (found_in s x) (by_table 10 0) (λ f. visit_found S.machine k₂ l b f))
    unfolding Q Both k₁ k₂
    visit_both l b None = refuse_both (by_table 10 0)
    visit_both l b (Some i) = go (sl₁ s) (sl₂ s) h₁ h₂
      where
        goes : Option Slot → (ℕ → Page) → Visit
        goes o m = visits S l (get_or (domains_of o) i 0) m 0

        go : (o₁ o₂ : Option Slot) → o₁ ≡ Some σ → o₂ ≡ Some σ → Q (visit_done k₁ b (goes o₁ m₁)) (visit_done k₂ b (goes o₂ m₂))
        go o₁ o₂ e₁ e₂ =
            let z = visits_same (get_or σ.domains i 0) (wd i) l m₁ m₂ 0 v in
            subst (λ o. Q (visit_done k₁ b (goes o m₁)) (visit_done k₂ b (goes o₂ m₂))) (sym e₁)
            (subst (λ o. Q (visit_done k₁ b (goes (Some σ) m₁)) (visit_done k₂ b (goes o m₂))) (sym e₂)
            (λ j. accepted (visited (z.made j) (z.fault j) (z.bytes j ++ drop (z.made j) b)), h₁ ∙ sym h₂, refl, z.left))

    revoke_both : (w i c : ℕ) (o₁ o₂ : Outcome) → Q o₁ o₂ → Q (revoke_asks σ w i c o₁) (revoke_asks σ w i c o₂)
    revoke_both w i c o₁ o₂ y =
        ask_both Q (is_master σ w) (by_table 13 0) _ _ (refuse_both (by_table 13 0))
        (ask_both Q (leb 1 i && ltb i (length σ.passwords)) (by_table 12 0) _ _ (refuse_both (by_table 12 0))
        (ask_both Q (ltb c 16) (by_table 14 0) _ _ (refuse_both (by_table 14 0)) y))

    request_both : (q : Request) → ((w : ℕ) → presented q ≡ Some w → look_up sl₁ s w ≡ found_in s (place_of w σ.passwords)) →
        ((w : ℕ) → presented q ≡ Some w → look_up sl₂ s w ≡ found_in s (place_of w σ.passwords)) →
        Both (console sl₁ g t₁ m₁) (console sl₂ g t₂ m₂) s (request_rule S.machine (console sl₁ g t₁ m₁) s σ q) (request_rule S.machine (console sl₂ g t₂ m₂) s σ q)
    unfolding Q k₁ k₂
    request_both (activate w) l₁ l₂ =
        need_same Q (found_in s (place_of w σ.passwords)) (look_up sl₁ s w) (look_up sl₂ s w) (by_table 10 0) _ _ (l₁ w refl) (l₂ w refl) (activate_both (place_of w σ.passwords))
    request_both (visit w l b) l₁ l₂ =
        ask_both Q (leb (length l) 64) (by_turn 18 0) _ _ (refuse_both (by_turn 18 0))
        (ask_both Q (leb (length l) (length b)) (by_turn 19 0) _ _ (refuse_both (by_turn 19 0))
        (need_same Q (found_in s (place_of w σ.passwords)) (look_up sl₁ s w) (look_up sl₂ s w) (by_table 10 0) _ _ (l₁ w refl) (l₂ w refl) (visit_both l b (place_of w σ.passwords))))
    request_both (grant w i c) l₁ l₂ =
        revoke_both w i c _ _ (ask_both Q (has (get_or σ.domains 0 0) c) (by_table 15 i) _ _ (refuse_both (by_table 15 i)) (slot_both _ _))
    request_both (revoke w i c) l₁ l₂ = revoke_both w i c _ _ (slot_both _ _)
    request_both (derive w i) l₁ l₂ =
        need_both Q (place_of w σ.passwords) (by_table 11 0) _ _ (refuse_both (by_table 11 0)) (λ j.
        ask_both Q (ltb (j + i) (length σ.passwords)) (by_table 12 0) _ _ (refuse_both (by_table 12 0)) (keep_both (value (get_or σ.passwords (j + i) 0))))
    request_both (rekey w p) l₁ l₂ =
        ask_both Q (is_master σ w) (by_table 13 0) _ _ (refuse_both (by_table 13 0))
        (ask_both Q (leb p.high S.machine.way.greatest) (by_table 7 0) _ _ (refuse_both (by_table 7 0))
        (unless_both Q (first_repeat (chain S.machine.way.H p (length σ.passwords) w)) (by_table 8) _ _ (λ i. refuse_both (by_table 8 i)) (λ _. slot_both _ _)))
    request_both (access a) l₁ l₂ = unless_both Q (faults S g.domain a) (λ i. by_unit i 0) _ _ (λ i. refuse_both (by_unit i 0)) (λ e. access_both a e)

  -- ---- in two runs
  module _ (r₁ r₂ : Run) (q : Request) (al : Alike S n ds r₁ r₂) (a₁ : Apart S n ds (app q ∷ r₁)) (a₂ : Apart S n ds (app q ∷ r₂))
      (s : ℕ) (e₁ : running S r₁ ≡ Some s) (e₂ : running S r₂ ≡ Some s)
      (X₁ : Holder) (x₁ : holder S r₁ s ≡ Some X₁) (n₁ : X₁.who.create_number ≡ n) (X₂ : Holder) (x₂ : holder S r₂ s ≡ Some X₂) (n₂ : X₂.who.create_number ≡ n) where
    me : T (is_app n (holder S r₁ s))
    me = subst (λ x. T (is_app n x)) (sym x₁) (subst (λ i. T (eqb i n)) (sym n₁) (eqb_refl n))

    same_register : (state S r₁).register ≡ (state S r₂).register
    same_register =
        sym (register_own (state S r₁) s (turn_same S r₁ ∙ e₁)) ∙ al.registers s me ∙ register_own (state S r₂) s (turn_same S r₂ ∙ e₂)

    own_both : (σ : Slot) → (state S r₁).slots s ≡ Some σ → (state S r₂).slots s ≡ Some σ →
        Both (state S r₁) (state S r₂) s (request_rule S.machine (state S r₁) s σ q) (request_rule S.machine (state S r₂) s σ q)
    unfolding Apart See
    own_both σ h₁ h₂ =
        let k₁ : Console = state S r₁ in
        let k₂ : Console = state S r₂ in
        let z = kept S r₁ s X₁ x₁ in
        let quiet : Quiet S n ds (Some X₁) = subst (Quiet S n ds) x₁ (all_quiet S n ds r₁ a₁.1 s) in
        let wg : Within k₁.register.domain ds =
        subst (λ d. Within d ds) (sym z.2.register ∙ ap (λ x. x.domain) (register_own k₁ s (turn_same S r₁ ∙ e₁))) (quiet.0 n₁).1 in
        subst (λ g. Both k₁ (with_register k₂ g) s (request_rule S.machine k₁ s σ q) (request_rule S.machine (with_register k₂ g) s σ q)) same_register
        (request_both k₁.slots k₂.slots k₁.register k₁.turn_of k₂.turn_of k₁.pages k₂.pages s σ h₁ h₂ al.pages wg
        (opened_own S n ds r₁ (all_quiet S n ds r₁ a₁.1) s X₁ e₁ x₁ n₁ σ h₁) q
        (λ w p. own_only S n ds r₁ s X₁ σ e₁ x₁ n₁ h₁ w (subst (PresentedApart S n ds r₁) p a₁.0))
        (λ w p. own_only S n ds r₂ s X₂ σ e₂ x₂ n₂ h₂ w (subst (PresentedApart S n ds r₂) p a₂.0)))

    step_both : Both (state S r₁) (state S r₂) s (rule S.machine (state S r₁) (app q)) (rule S.machine (state S r₂) (app q))
    step_both =
        let z = kept S r₁ s X₁ x₁ in
        let h₂ : (state S r₂).slots s ≡ Some z.0 = sym (al.slots s me) ∙ z.1 in
        let p₁ = app_rule S.machine (state S r₁) s z.0 q (turn_same S r₁ ∙ e₁) z.1 in
        let p₂ = app_rule S.machine (state S r₂) s z.0 q (turn_same S r₂ ∙ e₂) h₂ in
        subst (λ o. Both (state S r₁) (state S r₂) s o (rule S.machine (state S r₂) (app q))) (sym p₁)
        (subst (λ o. Both (state S r₁) (state S r₂) s (request_rule S.machine (state S r₁) s z.0 q) o) (sym p₂)
        (own_both z.0 z.1 h₂))

  -- the slots of other apps stay as they are
  elsewhere : (r : Run) (q : Request) (s : ℕ) (X : Holder) → running S r ≡ Some s → holder S r s ≡ Some X → (t : ℕ) → eqb s t ≡ false → (state S (app q ∷ r)).slots t ≡ (state S r).slots t
  unfolding state
  elsewhere r q s X e x t d =
      let z = kept S r s X x in
      subst (λ o. (after (state S r) o).slots t ≡ (state S r).slots t) (sym (app_rule S.machine (state S r) s z.0 q (turn_same S r ∙ e) z.1)) (frame S n ds (state S r) s z.0 q t d)

  pub mine_some : (x : Option Holder) → is_app n x ≡ true → (X : Holder) × (x ≡ Some X) × (X.who.create_number ≡ n)
  mine_some None e = absurd (subst T (sym e) tt)
  mine_some (Some X) e = (X, refl, eqb-true X.who.create_number n e)

  turned : (r : Run) → is_app n (in_turn S r) ≡ true → (s : ℕ) × (running S r ≡ Some s) × (is_app n (holder S r s) ≡ true)
  turned r e = go (running S r) refl e
    where
      go : (o : Option ℕ) → running S r ≡ o → is_app n (at_slot (holder S r) o) ≡ true → (s : ℕ) × (running S r ≡ Some s) × (is_app n (holder S r s) ≡ true)
      go None q e = absurd (subst T (sym e) tt)
      go (Some s) q e = (s, q, e)

  pub own_step : (r₁ r₂ : Run) (q : Request) → Alike S n ds r₁ r₂ → Apart S n ds (app q ∷ r₁) → Apart S n ds (app q ∷ r₂) →
      is_app n (in_turn S r₁) ≡ true → is_app n (in_turn S r₂) ≡ true → Alike S n ds (app q ∷ r₁) (app q ∷ r₂)
  unfolding Both running state answers answer See
  own_step r₁ r₂ q al a₁ a₂ b₁ b₂ =
      let z = turned r₁ b₁ in
      let s : ℕ = z.0 in
      let e₂ : running S r₂ ≡ Some s = sym al.turns ∙ z.1 in
      let x₁ = mine_some (holder S r₁ s) z.2 in
      let x₂ = mine_some (holder S r₂ s) (sym (al.mine s) ∙ z.2) in
      let both = step_both r₁ r₂ q al a₁ a₂ s z.1 e₂ x₁.0 x₁.1 x₁.2 x₂.0 x₂.1 x₂.2 in
      let t₁ : (state S (app q ∷ r₁)).turn_of ≡ Some s = app_turn S (state S r₁) q ∙ turn_same S r₁ ∙ z.1 in
      let t₂ : (state S (app q ∷ r₂)).turn_of ≡ Some s = app_turn S (state S r₂) q ∙ turn_same S r₂ ∙ e₂ in
      let slots : (t : ℕ) → T (is_app n (holder S (app q ∷ r₁) t)) → (state S (app q ∷ r₁)).slots t ≡ (state S (app q ∷ r₂)).slots t =
      λ t h. at_or_off s t (λ u. (state S (app q ∷ r₁)).slots u ≡ (state S (app q ∷ r₂)).slots u) both.1
      (λ d. elsewhere r₁ q s x₁.0 z.1 x₁.1 t d ∙ al.slots t (subst T (mine_stays S n ds r₁ q t) h) ∙ sym (elsewhere r₂ q s x₂.0 e₂ x₂.1 t d)) in
      record {
        count = al.count;
        turns = al.turns;
        mine = λ t. mine_stays S n ds r₁ q t ∙ al.mine t ∙ sym (mine_stays S n ds r₂ q t);
        slots = slots;
        registers = λ t h.
            register_in_turn (state S (app q ∷ r₁)) s t t₁
            ∙ ap₂ (λ (x y : Register). cond (eqb s t) x y) both.2 (ap saved_of (slots t h))
            ∙ sym (register_in_turn (state S (app q ∷ r₂)) s t t₂);
        pages = both.3;
        replies =
            ap (λ x. cond x (answer S r₁ (app q) ∷ answers S n r₁) (answers S n r₁)) b₁
            ∙ ap₂ (λ (x : Answer) (xs : List Answer). x ∷ xs) both.0 al.replies
            ∙ sym (ap (λ x. cond x (answer S r₂ (app q) ∷ answers S n r₂) (answers S n r₂)) b₂);
      }
