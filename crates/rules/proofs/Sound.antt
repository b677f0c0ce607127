-- After every run the console's tables are what the run says of its apps.
use Rattle.std.proofs.Common.{◌≡◌, ℕ, zero, suc, Bool, true, false, cond, T, eqb, ltb, ◌⊎◌, [], ◌∷◌, length, get_or, set, Some, None, Option, sym, refl, ap, ◌∙◌, subst, inl, inr, eqb→eq}
use Rattle.vocabulary.specs.declared.parameter.Parameter.{Parameter}
use Rattle.vocabulary.specs.declared.found.Found.{Found}
use Rattle.vocabulary.specs.Refusals.{Reason}
use Rattle.one_way.specs.Chains.{chain}
use Rattle.one_way.proofs.Places.{chain_length}
use Rattle.memory.specs.Pages.{Page, put}
use Rattle.rules.specs.Calls.{with_domain, with_saved, close_rule, activate_done, is_master, executive_rule, request_rule, rule}
use Rattle.rules.specs.Console.{Setting, Register, holding, Slot, Console, Executive, create, end, turn, close, Request, activate, visit, grant, revoke, derive, rekey, access, exec, app, done, value, accepted, Outcome, refuse, answer_of, after, out_of_turn, need, is_at}
use Rattle.rules.specs.Domains.{with_context, without_context, Within}
use Rattle.rules.specs.History.{Holder, executive_calls, running_after, new_holder, new_app, holder_after, number_in, with_place, changed, map_option, at_slot, running, holder, chain_of, found, domain_of}
use Rattle.rules.specs.Isolation.{saved_of, register_of, Follows, SlotsFollowApps, OpenedByPassword}
use Rattle.rules.specs.Lists.{All, Holds}
use Rattle.rules.specs.LookUp.{place_of, first_repeat, passwords_of, domains_of, look_up, domain_at}
use Rattle.rules.specs.Runs.{Run, state, answer}
use Rattle.rules.proofs.Bits.{within_zero, within_with, within_without, within_all, within_first}
use Rattle.rules.proofs.Cases.{eqb_same, need_case, all_get_d, all_set}
use Rattle.memory.proofs.Entries.{everywhere}
use Rattle.rules.proofs.Options.{none_not_some}
use Rattle.rules.proofs.Search.{place_in, look_some}
use Rattle.rules.proofs.Walk.{first_slot, rekeyed, create_cases, end_cases, turn_cases, request_cases, request_parts, activate_is}

abbrev pub console : (ℕ → Option Slot) → Register → Option ℕ → (ℕ → Page) → Console
console sl g o m = record { slots = sl; register = g; turn_of = o; pages = m }

-- the holders after a call of the app in turn
abbrev pub now : (ℕ → Option Holder) → Option ℕ → (Holder → Holder) → ℕ → Option Holder
now hs o ch t = cond (is_at o t) (map_option ch (hs t)) (hs t)

pub register_in_turn : (k : Console) (s t : ℕ) → k.turn_of ≡ Some s → register_of k t ≡ cond (eqb s t) k.register (saved_of (k.slots t))
register_in_turn k s t e = ap (λ o. cond (is_at o t) k.register (saved_of (k.slots t))) e

pub register_own : (k : Console) (s : ℕ) → k.turn_of ≡ Some s → register_of k s ≡ k.register
register_own k s e = register_in_turn k s s e ∙ ap (λ b. cond b k.register (saved_of (k.slots s))) (eqb_same s)

pub at_slot_some : (x : Option ℕ) (f : ℕ → Option Holder) (X : Holder) → at_slot f x ≡ Some X → (s : ℕ) × (x ≡ Some s) × (f s ≡ Some X)
at_slot_some None f X e = absurd (none_not_some X e)
at_slot_some (Some s) f X e = (s, refl, e)

module _ (S : Setting) where
  -- what a slot holds, its app by the run, and the app's register
  pub record Fits (σ : Slot) (X : Holder) (g : Register) : Type 0 where
    pub parameter : σ.parameter ≡ X.parameter
    pub passwords : σ.passwords ≡ chain_of S X
    pub no_repeat : first_repeat σ.passwords ≡ None
    pub domains : σ.domains ≡ X.domains
    pub within : All (λ e. Within e X.who.creation_domains) σ.domains
    pub register : g.domain ≡ domain_of S X
    pub lawful : Within (domain_of S X) X.who.creation_domains ⊎ OpenedByPassword S (domain_of S X) X.opened

  abbrev pub Agree : Register → Option Slot → Option Holder → Type 0
  Agree g None None = Unit {0}
  Agree g None (Some X) = ⊥
  Agree g (Some σ) None = ⊥
  Agree g (Some σ) (Some X) = Fits σ X g

  abbrev pub Sound : Console → (ℕ → Option Holder) → Type 0
  Sound k hs = (t : ℕ) → Agree (register_of k t) (k.slots t) (hs t)

  pub agree_slot : (g : Register) (o : Option Slot) (σ : Slot) (x : Option Holder) → o ≡ Some σ → Agree g o x → (X : Holder) × (x ≡ Some X) × Fits σ X g
  agree_slot g o σ x e a = go x (subst (λ o. Agree g o x) e a)
    where
      go : (x : Option Holder) → Agree g (Some σ) x → (X : Holder) × (x ≡ Some X) × Fits σ X g
      go None a = absurd a
      go (Some X) a = (X, refl, a)

  -- whose password it was, and that the domain lies within what that app was given
  pub owner : (k : Console) (hs : ℕ → Option Holder) → Sound k hs → (w : ℕ) (f : Found) → place_of w (passwords_of (k.slots f.slot)) ≡ Some f.place →
      (Y : Holder) × (hs f.slot ≡ Some Y) × Holds (chain_of S Y) w × Within (domain_at k.slots f.slot f.place) Y.who.creation_domains
  owner k hs inv w f e = go (k.slots f.slot) (hs f.slot) (inv f.slot) e
    where
      go : (o : Option Slot) (x : Option Holder) → Agree (register_of k f.slot) o x → place_of w (passwords_of o) ≡ Some f.place →
          (Y : Holder) × (x ≡ Some Y) × Holds (chain_of S Y) w × Within (get_or (domains_of o) f.place 0) Y.who.creation_domains
      go None x a e = absurd (none_not_some f.place e)
      go (Some σ) None a e = absurd a
      go (Some σ) (Some Y) a e = (
        Y,
        refl,
        subst (λ ps. Holds ps w) a.passwords (place_in 0 w σ.passwords f.place e),
        all_get_d (λ d. Within d Y.who.creation_domains) σ.domains f.place a.within (within_zero Y.who.creation_domains),
      )

  -- ---- one call of the executive
  ExecStep : Console → (ℕ → Option Holder) → ℕ → Executive → Outcome → Type 0
  ExecStep k hs n e o = Sound (after k o) (λ t. holder_after n e (answer_of o) t (hs t))

  -- the register of the app in turn, and of another
  at_turn : (sl : ℕ → Option Slot) (g : Register) (s : ℕ) (m : ℕ → Page) (hs : ℕ → Option Holder) → Sound (console sl g (Some s) m) hs → Agree g (sl s) (hs s)
  at_turn sl g s m hs inv = subst (λ b. Agree (cond b g (saved_of (sl s))) (sl s) (hs s)) (eqb_same s) (inv s)

  off_turn : (sl : ℕ → Option Slot) (g : Register) (s : ℕ) (m : ℕ → Page) (hs : ℕ → Option Holder) → Sound (console sl g (Some s) m) hs →
      (t : ℕ) → eqb s t ≡ false → Agree (saved_of (sl t)) (sl t) (hs t)
  off_turn sl g s m hs inv t e = subst (λ b. Agree (cond b g (saved_of (sl t))) (sl t) (hs t)) e (inv t)

  close_step : (sl : ℕ → Option Slot) (g : Register) (s : ℕ) (m : ℕ → Page) (hs : ℕ → Option Holder) (n : ℕ) → Sound (console sl g (Some s) m) hs →
      ExecStep (console sl g (Some s) m) hs n close (need (sl s) out_of_turn (λ σ. close_rule (console sl g (Some s) m) s σ))
  unfolding ExecStep
  close_step sl g s m hs n inv =
      need_case (ExecStep (console sl g (Some s) m) hs n close) (sl s) out_of_turn _ inv
      (λ σ e. go σ (agree_slot g (sl s) σ (hs s) e (at_turn sl g s m hs inv)))
    where
      go : (σ : Slot) → (X : Holder) × (hs s ≡ Some X) × Fits σ X g → ExecStep (console sl g (Some s) m) hs n close (close_rule (console sl g (Some s) m) s σ)
      go σ (X, e, F) =
          everywhere s (λ t b. Agree (saved_of (cond b (Some (with_saved σ g)) (sl t))) (cond b (Some (with_saved σ g)) (sl t)) (hs t))
          (subst (λ x. Agree g (Some (with_saved σ g)) x) (sym e)
          (record { parameter = F.parameter; passwords = F.passwords; no_repeat = F.no_repeat; domains = F.domains; within = F.within; register = F.register; lawful = F.lawful }))
          (λ t e. off_turn sl g s m hs inv t e)

  exec_step : (sl : ℕ → Option Slot) (g : Register) (o : Option ℕ) (m : ℕ → Page) (hs : ℕ → Option Holder) (n : ℕ) (e : Executive) →
      Sound (console sl g o m) hs → ExecStep (console sl g o m) hs n e (executive_rule S.machine (console sl g o m) e)
  unfolding ExecStep
  exec_step sl g None m hs n (create s p w ds) inv =
      let σ : Slot = first_slot S.machine.way.H p w ds in
      create_cases S.machine (ExecStep (console sl g None m) hs n (create s p w ds)) (λ f _. inv) (console sl g None m) s p w ds (λ _ a.
      everywhere s (λ t b. Agree (saved_of (cond b (Some σ) (sl t))) (cond b (Some σ) (sl t)) (cond b (Some (new_holder (new_app n s p w ds))) (hs t)))
      (record { parameter = refl; passwords = refl; no_repeat = a; domains = refl; within = within_all ds; register = refl; lawful = inl (within_first ds) })
      (λ t _. inv t))
  exec_step sl g None m hs n (end s) inv =
      end_cases S.machine (ExecStep (console sl g None m) hs n (end s)) (λ f _. inv) (console sl g None m) s
      (everywhere s (λ t b. Agree (saved_of (cond b None (sl t))) (cond b None (sl t)) (cond b None (hs t))) tt (λ t _. inv t))
  exec_step sl g None m hs n (turn s) inv =
      turn_cases S.machine (ExecStep (console sl g None m) hs n (turn s)) (λ f _. inv) (console sl g None m) s (λ σ e.
      everywhere s (λ t b. Agree (cond b σ.saved (saved_of (sl t))) (sl t) (hs t))
      (subst (λ d. Agree d (sl s) (hs s)) (ap saved_of e) (inv s)) (λ t _. inv t))
  exec_step sl g None m hs n close inv = inv
  exec_step sl g (Some u) m hs n (create s p w ds) inv = inv
  exec_step sl g (Some u) m hs n (end s) inv = inv
  exec_step sl g (Some u) m hs n (turn s) inv = inv
  exec_step sl g (Some u) m hs n close inv = close_step sl g u m hs n inv

  -- ---- one call of the app in turn
  AppStep : Console → (ℕ → Option Holder) → Option ℕ → Run → Request → Outcome → Type 0
  AppStep k hs o r q out = Sound (after k out) (now hs o (changed r q (answer_of out)))

  same_now : (b : Bool) (x : Option Holder) → cond b (map_option (λ X. X) x) x ≡ x
  same_now true None = refl
  same_now true (Some X) = refl
  same_now false x = refl

  keep : (k : Console) (hs : ℕ → Option Holder) (o : Option ℕ) → Sound k hs → Sound k (now hs o (λ X. X))
  keep k hs o inv t = subst (λ x. Agree (register_of k t) (k.slots t) x) (sym (same_now (is_at o t) (hs t))) (inv t)

  -- the app's own master, presented
  rechain : (p p' : Parameter) (m w v : ℕ) → T (eqb w (get_or (chain S.machine.way.H p m v) 0 0)) → chain S.machine.way.H p' m w ≡ chain S.machine.way.H p' m v
  rechain p p' zero w v h = refl
  rechain p p' (suc m) w v h = ap (chain S.machine.way.H p' (suc m)) (eqb→eq w v h)

  module _ (r : Run) (sl : ℕ → Option Slot) (g : Register) (s : ℕ) (m : ℕ → Page) (σ : Slot) (X : Holder)
      (inv : Sound (console sl g (Some s) m) (holder S r)) (hσ : sl s ≡ Some σ) (hX : holder S r s ≡ Some X) (F : Fits σ X g)
      (fd : (w : ℕ) → found S r w ≡ number_in (answer_of (rule S.machine (console sl g (Some s) m) (app (activate w))))) where
    k : Console
    k = console sl g (Some s) m

    P : Request → Outcome → Type 0
    P q o = AppStep k (holder S r) (Some s) r q o

    refuses : (q : Request) (f : Reason) → T (ltb 0 f.number) → P q (refuse f)
    unfolding P k AppStep
    refuses q f _ = keep (console sl g (Some s) m) (holder S r) (Some s) inv

    -- the app in turn has a new slot record; or a new register
    new_record : (σ' : Slot) (ch : Holder → Holder) → Fits σ' (ch X) g → Sound (console (put sl s (Some σ')) g (Some s) m) (now (holder S r) (Some s) ch)
    new_record σ' ch f =
        everywhere s (λ t b. Agree (cond b g (saved_of (cond b (Some σ') (sl t)))) (cond b (Some σ') (sl t)) (cond b (map_option ch (holder S r t)) (holder S r t)))
        (subst (λ x. Agree g (Some σ') (map_option ch x)) (sym hX) f) (λ t q. off_turn sl g s m (holder S r) inv t q)

    new_register : (g' : Register) (ch : Holder → Holder) → Fits σ (ch X) g' → Sound (console sl g' (Some s) m) (now (holder S r) (Some s) ch)
    new_register g' ch f =
        everywhere s (λ t b. Agree (cond b g' (saved_of (sl t))) (sl t) (cond b (map_option ch (holder S r t)) (holder S r t)))
        (subst (λ x. Agree g' (sl s) (map_option ch x)) (sym hX) (subst (λ y. Agree g' y (Some (ch X))) (sym hσ) f)) (λ t q. off_turn sl g s m (holder S r) inv t q)

    activated : (w : ℕ) (f : Found) → look_up sl s w ≡ Some f →
        P (activate w) (activate_done k f)
    unfolding P k AppStep
    activated w f l =
        let z = owner k (holder S r) inv w f (look_some sl w s f l) in
        let d : ℕ = domain_at sl f.slot f.place in
        let e : d ≡ found S r w = sym (fd w ∙ ap (λ o. number_in (answer_of o)) (activate_is S.machine k s σ refl hσ w (Some f) l)) in
        new_register (holding d) (changed r (activate w) (accepted (value d)))
        (record {
          parameter = F.parameter;
          passwords = F.passwords;
          no_repeat = F.no_repeat;
          domains = F.domains;
          within = F.within;
          register = e;
          lawful = inr (z.0, (f.slot, z.1, z.2), subst (λ x. Within x z.0.who.creation_domains) e z.3);
        })

    amend : (i d : ℕ) → Within d X.who.creation_domains → Sound (console (put sl s (Some (with_domain σ i d))) g (Some s) m) (now (holder S r) (Some s) (λ X. with_place X i d))
    amend i d w =
        new_record (with_domain σ i d) (λ X. with_place X i d)
        (record {
          parameter = F.parameter;
          passwords = F.passwords;
          no_repeat = F.no_repeat;
          domains = ap (λ ds. set ds i d) F.domains;
          within = all_set (λ e. Within e X.who.creation_domains) σ.domains i d F.within w;
          register = F.register;
          lawful = F.lawful;
        })

    given : (i : ℕ) → Within (get_or σ.domains i 0) X.who.creation_domains
    given i = all_get_d (λ e. Within e X.who.creation_domains) σ.domains i F.within (within_zero X.who.creation_domains)

    new_chain : (w : ℕ) (p : Parameter) → T (is_master σ w) →
        chain S.machine.way.H p (length σ.passwords) w ≡ chain S.machine.way.H p (length X.who.creation_domains) X.who.master
    new_chain w p h =
        ap (λ n. chain S.machine.way.H p n w) (ap length F.passwords ∙ chain_length S.machine.way.H X.parameter (length X.who.creation_domains) X.who.master)
        ∙ rechain X.parameter p (length X.who.creation_domains) w X.who.master (subst (λ ps. T (eqb w (get_or ps 0 0))) F.passwords h)

    request_step : (q : Request) → AppStep (console sl g (Some s) m) (holder S r) (Some s) r q (request_rule S.machine (console sl g (Some s) m) s σ q)
    unfolding P k AppStep
    request_step (activate w) = request_cases S.machine (P (activate w)) (refuses (activate w)) k s σ (activate w) (activated w)
    request_step (visit w l b) = request_cases S.machine (P (visit w l b)) (refuses (visit w l b)) k s σ (visit w l b) (λ f _. new_register g (λ X. X) F)
    request_step (grant w i c) =
        request_cases S.machine (P (grant w i c)) (refuses (grant w i c)) k s σ (grant w i c) (λ h.
        amend i (with_context (get_or σ.domains i 0) c) (within_with (get_or σ.domains i 0) c (get_or σ.domains 0 0) X.who.creation_domains (given i) (given 0) h))
    request_step (revoke w i c) =
        request_cases S.machine (P (revoke w i c)) (refuses (revoke w i c)) k s σ (revoke w i c)
        (amend i (without_context (get_or σ.domains i 0) c) (within_without (get_or σ.domains i 0) c X.who.creation_domains (given i)))
    request_step (derive w n) = request_cases S.machine (P (derive w n)) (refuses (derive w n)) k s σ (derive w n) (λ i _ _. keep k (holder S r) (Some s) inv)
    request_step (rekey w p) =
        request_cases S.machine (P (rekey w p)) (refuses (rekey w p)) k s σ (rekey w p) (λ h a.
        new_record (rekeyed S.machine.way.H σ w p) (changed r (rekey w p) (accepted done))
        (record { parameter = refl; passwords = new_chain w p h; no_repeat = a; domains = F.domains; within = F.within; register = F.register; lawful = F.lawful }))
    request_step (access a) = request_cases S.machine (P (access a)) (refuses (access a)) k s σ (access a) (λ _. new_register g (λ X. X) F)

  app_step : (r : Run) (sl : ℕ → Option Slot) (g : Register) (o : Option ℕ) (m : ℕ → Page) (q : Request) → Sound (console sl g o m) (holder S r) →
      ((w : ℕ) → found S r w ≡ number_in (answer_of (rule S.machine (console sl g o m) (app (activate w))))) →
      AppStep (console sl g o m) (holder S r) o r q (rule S.machine (console sl g o m) (app q))
  unfolding AppStep
  app_step r sl g None m q inv fd = keep (console sl g None m) (holder S r) None inv
  app_step r sl g (Some s) m q inv fd =
      need_case (AppStep (console sl g (Some s) m) (holder S r) (Some s) r q) (sl s) out_of_turn _ (keep (console sl g (Some s) m) (holder S r) (Some s) inv)
      (λ σ e. let z = agree_slot g (sl s) σ (holder S r s) e (at_turn sl g s m (holder S r) inv) in request_step r sl g s m σ z.0 inv e z.1 z.2 fd q)

  -- ---- whose turn it is
  exec_turn : (sl : ℕ → Option Slot) (g : Register) (o : Option ℕ) (m : ℕ → Page) (e : Executive) →
      (after (console sl g o m) (executive_rule S.machine (console sl g o m) e)).turn_of ≡ running_after e (answer_of (executive_rule S.machine (console sl g o m) e)) o
  exec_turn sl g None m (create s p w ds) =
      create_cases S.machine (λ x. (after (console sl g None m) x).turn_of ≡ running_after (create s p w ds) (answer_of x) None) (λ f _. refl) (console sl g None m) s p w ds (λ _ _. refl)
  exec_turn sl g None m (end s) =
      end_cases S.machine (λ x. (after (console sl g None m) x).turn_of ≡ running_after (end s) (answer_of x) None) (λ f _. refl) (console sl g None m) s refl
  exec_turn sl g None m (turn s) =
      turn_cases S.machine (λ x. (after (console sl g None m) x).turn_of ≡ running_after (turn s) (answer_of x) None) (λ f _. refl) (console sl g None m) s (λ σ _. refl)
  exec_turn sl g None m close = refl
  exec_turn sl g (Some u) m (create s p w ds) = refl
  exec_turn sl g (Some u) m (end s) = refl
  exec_turn sl g (Some u) m (turn s) = refl
  exec_turn sl g (Some u) m close =
      need_case (λ x. (after (console sl g (Some u) m) x).turn_of ≡ running_after close (answer_of x) (Some u)) (sl u) out_of_turn _ refl (λ σ e. refl)

  pub request_turn : (k : Console) (s : ℕ) (σ : Slot) (q : Request) → (after k (request_rule S.machine k s σ q)).turn_of ≡ k.turn_of
  request_turn k s σ q =
      request_parts S.machine (λ o. (after k o).turn_of ≡ k.turn_of) (λ f _. refl) k s σ q
      (λ g a. refl) (λ σ' a. refl) (λ a. refl) (λ w l b f _ _. refl) (λ a _. refl)

  pub app_turn : (k : Console) (q : Request) → (after k (rule S.machine k (app q))).turn_of ≡ k.turn_of
  app_turn k q =
      need_case (λ o. (after k o).turn_of ≡ k.turn_of) k.turn_of out_of_turn _ refl (λ s _.
      need_case (λ o. (after k o).turn_of ≡ k.turn_of) (k.slots s) out_of_turn _ refl (λ σ _. request_turn k s σ q))

  pub turn_same : (r : Run) → (state S r).turn_of ≡ running S r
  unfolding state running answer
  turn_same [] = refl
  turn_same (exec e ∷ r) =
      exec_turn (state S r).slots (state S r).register (state S r).turn_of (state S r).pages e
      ∙ ap (λ o. running_after e (answer_of (executive_rule S.machine (state S r) e)) o) (turn_same r)
  turn_same (app q ∷ r) = app_turn (state S r) q ∙ turn_same r

  -- ---- after every run
  pub sound : (r : Run) → Sound (state S r) (holder S r)
  unfolding state holder answer found ExecStep AppStep
  sound [] = λ t. tt
  sound (exec e ∷ r) = exec_step (state S r).slots (state S r).register (state S r).turn_of (state S r).pages (holder S r) (executive_calls r) e (sound r)
  sound (app q ∷ r) =
      subst (λ o. Sound (state S (app q ∷ r)) (now (holder S r) o (changed r q (answer S r (app q))))) (turn_same r)
      (app_step r (state S r).slots (state S r).register (state S r).turn_of (state S r).pages q (sound r) (λ w. refl))

  -- what the tables hold of an app, and whose a taken slot is
  pub kept : (r : Run) (s : ℕ) (X : Holder) → holder S r s ≡ Some X → (σ : Slot) × ((state S r).slots s ≡ Some σ) × Fits σ X (register_of (state S r) s)
  kept r s X e = go ((state S r).slots s) (subst (λ x. Agree (register_of (state S r) s) ((state S r).slots s) x) e (sound r s))
    where
      go : (o : Option Slot) → Agree (register_of (state S r) s) o (Some X) → (σ : Slot) × (o ≡ Some σ) × Fits σ X (register_of (state S r) s)
      go None a = absurd a
      go (Some σ) a = (σ, refl, a)

  pub holds : (r : Run) (s : ℕ) (σ : Slot) → (state S r).slots s ≡ Some σ → (X : Holder) × (holder S r s ≡ Some X) × Fits σ X (register_of (state S r) s)
  holds r s σ e = agree_slot (register_of (state S r) s) ((state S r).slots s) σ (holder S r s) e (sound r s)

  pub slots_follow_apps : SlotsFollowApps S
  slots_follow_apps r s = go ((state S r).slots s) (holder S r s) (sound r s)
    where
      go : (o : Option Slot) (x : Option Holder) → Agree (register_of (state S r) s) o x → Follows S o x
      go None None a = tt
      go None (Some X) a = a
      go (Some σ) None a = a
      go (Some σ) (Some X) a = (a.parameter, a.passwords, subst (λ ps. first_repeat ps ≡ None) a.passwords a.no_repeat, a.domains)

  -- the domain at a place of a slot is that of its app
  pub kept_domain : (r : Run) (s : ℕ) (X : Holder) → holder S r s ≡ Some X → (i : ℕ) → domain_at (state S r).slots s i ≡ get_or X.domains i 0
  kept_domain r s X e i =
      let z = kept r s X e in
      ap (λ o. get_or (domains_of o) i 0) z.1 ∙ ap (λ ds. get_or ds i 0) z.2.domains
