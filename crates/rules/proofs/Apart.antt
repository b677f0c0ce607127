-- A run that keeps app n and its creation domains ds apart, call by call: what the others may write, and what app n opens.
use Rattle.std.proofs.Common.{◌≡◌, ℕ, Bool, true, false, cond, T, eqb, List, [], ◌∷◌, get_or, Some, None, Option, sym, refl, ap, ◌∙◌, subst}
use Rattle.vocabulary.specs.declared.access.Right.TheVariants as right
use Rattle.vocabulary.specs.declared.found.Found.{Found}
use Rattle.vocabulary.specs.Refusals.{by_table}
use Rattle.rules.specs.Calls.{activate_done}
use Rattle.rules.specs.Console.{Setting, Slot, Executive, create, end, turn, close, Request, activate, visit, grant, revoke, derive, rekey, access, exec, app, Answer, refused, accepted, answer_of, need, is_at}
use Rattle.rules.specs.Domains.{permits, Within}
use Rattle.rules.specs.History.{Holder, executive_calls, presented, new_holder, new_app, holder_after, number_in, changed, map_option, at_slot, running, holder, in_turn, chain_of, found, domain_of}
use Rattle.rules.specs.Isolation.{HeldBy, Writable, Readable}
use Rattle.rules.specs.Lists.{Holds}
use Rattle.rules.specs.LookUp.{place_of, passwords_of, domains_of, found_in, look_up, domain_at}
use Rattle.rules.specs.Runs.{Run, state, answer}
use Rattle.rules.proofs.Bits.{within_zero, within_first, allow_within}
use Rattle.rules.proofs.Cases.{is_at_some, all_get_d}
use Rattle.rules.proofs.Options.{some_injective}
use Rattle.rules.proofs.Search.{place_none, look_some, look_own}
use Rattle.rules.proofs.Sound.{now, owner, turn_same, sound, kept}
use Rattle.rules.proofs.Walk.{app_rule}

module _ (S : Setting) (n : ℕ) (ds : List ℕ) where
  -- a domain, and several, that write on no page that ds allow reading or fetching
  abbrev pub Harmless : ℕ → Type 0
  Harmless d = (q : ℕ) → T (permits S.machine.field d right.Write q) → ¬ Readable S ds q

  abbrev pub HarmlessAll : List ℕ → Type 0
  HarmlessAll es = (q : ℕ) → Writable S es q → ¬ Readable S ds q

  -- the create of app n gives it ds, and the create of another app harmless domains
  abbrev pub GivenApart : Run → Executive → Answer → Type 0
  GivenApart r e (refused f) = Unit {0}
  GivenApart r (create s p w es) (accepted a) = (executive_calls r ≡ n → es ≡ ds) × (¬ (executive_calls r ≡ n) → HarmlessAll es)
  GivenApart r (end s) (accepted a) = Unit {0}
  GivenApart r (turn s) (accepted a) = Unit {0}
  GivenApart r close (accepted a) = Unit {0}

  -- a password that Y's chain holds is presented: by app n only if it is its own, by another only if Y is not app n
  abbrev pub PresentedApart : Run → Option ℕ → Type 0
  PresentedApart r None = Unit {0}
  PresentedApart r (Some w) =
      (Z : Holder) → in_turn S r ≡ Some Z → (Y : Holder) → HeldBy S r Y w →
      (Z.who.create_number ≡ n → Holds (chain_of S Z) w) × (¬ (Z.who.create_number ≡ n) → ¬ (Y.who.create_number ≡ n))

  unfoldable pub Apart : Run → Type 0
  Apart [] = Unit {0}
  Apart (exec e ∷ r) = GivenApart r e (answer S r (exec e)) × Apart r
  Apart (app q ∷ r) = PresentedApart r (presented q) × Apart r

  -- app n has the domains ds and a domain within them; another app is harmless
  abbrev pub Quiet : Option Holder → Type 0
  Quiet None = Unit {0}
  Quiet (Some X) =
      (X.who.create_number ≡ n → (X.who.creation_domains ≡ ds) × Within (domain_of S X) ds)
      × (¬ (X.who.create_number ≡ n) → HarmlessAll X.who.creation_domains × Harmless (domain_of S X))

  harmless_within : (d : ℕ) (es : List ℕ) → Within d es → HarmlessAll es → Harmless d
  harmless_within d es w h q p = h q (allow_within S.machine.field d es right.Write q w p)

  -- ---- what app n presents is looked for in its own chain
  pub own_only : (r : Run) (s : ℕ) (X : Holder) (σ : Slot) → running S r ≡ Some s → holder S r s ≡ Some X → X.who.create_number ≡ n → (state S r).slots s ≡ Some σ →
      (w : ℕ) → PresentedApart r (Some w) → look_up (state S r).slots s w ≡ found_in s (place_of w σ.passwords)
  own_only r s X σ e hX hn hσ w p = go (place_of w σ.passwords) refl
    where
      sl : ℕ → Option Slot
      sl = (state S r).slots

      mine : σ.passwords ≡ chain_of S X
      mine = let z = kept S r s X hX in ap passwords_of (sym hσ ∙ z.1) ∙ z.2.passwords

      not_found : place_of w σ.passwords ≡ None → (x : Option Found) → look_up sl s w ≡ x → x ≡ None
      not_found e₀ None l = refl
      not_found e₀ (Some f) l =
          let z = owner S (state S r) (holder S r) (sound S r) w f (look_some sl w s f l) in
          absurd (place_none 0 w σ.passwords e₀ (subst (λ ps. Holds ps w) (sym mine) ((p X (ap (at_slot (holder S r)) e ∙ hX) z.0 (f.slot, z.1, z.2)).0 hn)))

      go : (x : Option ℕ) → place_of w σ.passwords ≡ x → look_up sl s w ≡ found_in s x
      go None e₀ = not_found e₀ (look_up sl s w) refl
      go (Some i) e₀ = look_own sl w s i (ap (λ o. place_of w (passwords_of o)) hσ ∙ e₀)

  -- ---- the domain that a password opens
  abbrev pub domain_for : (ℕ → Option Slot) → Option Found → ℕ
  domain_for sl None = 0
  domain_for sl (Some f) = domain_at sl f.slot f.place

  found_look : (r : Run) (s : ℕ) (σ : Slot) → running S r ≡ Some s → (state S r).slots s ≡ Some σ → (w : ℕ) →
      found S r w ≡ domain_for (state S r).slots (look_up (state S r).slots s w)
  unfolding found answer
  found_look r s σ e h w =
      ap (λ o. number_in (answer_of o)) (app_rule S.machine (state S r) s σ (activate w) (turn_same S r ∙ e) h) ∙ go (look_up (state S r).slots s w)
    where
      go : (x : Option Found) → number_in (answer_of (need x (by_table 10 0) (λ f. activate_done (state S r) f))) ≡ domain_for (state S r).slots x
      go None = refl
      go (Some f) = refl

  harmless_zero : Harmless 0
  harmless_zero q p = absurd (allow_within S.machine.field 0 [] right.Write q (within_zero []) p)

  module _ (r : Run) (quiet : (t : ℕ) → Quiet (holder S r t)) (s : ℕ) (X : Holder) (turned : running S r ≡ Some s) (hX : holder S r s ≡ Some X) where
    -- app n opens domains within ds
    pub opened_own : X.who.create_number ≡ n → (σ : Slot) → (state S r).slots s ≡ Some σ → (i : ℕ) → Within (get_or σ.domains i 0) ds
    opened_own hn σ hσ i =
        let z = kept S r s X hX in
        let hk : Quiet (Some X) = subst Quiet hX (quiet s) in
        let q : z.0 ≡ σ = some_injective z.0 σ (sym z.1 ∙ hσ) in
        subst (λ x. Within (get_or x.domains i 0) ds) q
        (subst (λ es. Within (get_or z.0.domains i 0) es) (hk.0 hn).0
        (all_get_d (λ d. Within d X.who.creation_domains) z.0.domains i z.2.within (within_zero X.who.creation_domains)))

    -- another app opens harmless domains
    pub opened_other : ¬ (X.who.create_number ≡ n) → (w : ℕ) → PresentedApart r (Some w) → Harmless (domain_for (state S r).slots (look_up (state S r).slots s w))
    opened_other hn w p = go (look_up (state S r).slots s w) refl
      where
        go : (x : Option Found) → look_up (state S r).slots s w ≡ x → Harmless (domain_for (state S r).slots x)
        go None l = harmless_zero
        go (Some f) l =
            let z = owner S (state S r) (holder S r) (sound S r) w f (look_some (state S r).slots w s f l) in
            let hk : Quiet (Some z.0) = subst Quiet z.1 (quiet f.slot) in
            harmless_within (domain_at (state S r).slots f.slot f.place) z.0.who.creation_domains z.3
            (hk.1 ((p X (ap (at_slot (holder S r)) turned ∙ hX) z.0 (f.slot, z.1, z.2)).1 hn)).0

    found_own : X.who.create_number ≡ n → (w : ℕ) → PresentedApart r (Some w) → Within (found S r w) ds
    found_own hn w p =
        let z = kept S r s X hX in
        let σ : Slot = z.0 in
        subst (λ d. Within d ds) (sym (found_look r s σ turned z.1 w ∙ ap (domain_for (state S r).slots) (own_only r s X σ turned hX hn z.1 w p)))
        (go σ z.1 (place_of w σ.passwords))
      where
        go : (σ : Slot) → (state S r).slots s ≡ Some σ → (x : Option ℕ) → Within (domain_for (state S r).slots (found_in s x)) ds
        go σ h None = within_zero ds
        go σ h (Some i) = subst (λ o. Within (get_or (domains_of o) i 0) ds) (sym h) (opened_own hn σ h i)

    found_other : ¬ (X.who.create_number ≡ n) → (w : ℕ) → PresentedApart r (Some w) → Harmless (found S r w)
    found_other hn w p =
        let z = kept S r s X hX in
        subst Harmless (sym (found_look r s z.0 turned z.1 w)) (opened_other hn w p)

    changed_quiet : (q : Request) (a : Answer) → PresentedApart r (presented q) → Quiet (Some X) → Quiet (Some (changed r q a X))
    changed_quiet q (refused f) p h = h
    changed_quiet (activate w) (accepted a) p h = (λ c. ((h.0 c).0, found_own c w p), λ c. ((h.1 c).0, found_other c w p))
    changed_quiet (visit w l b) (accepted a) p h = h
    changed_quiet (grant w i c) (accepted a) p h = h
    changed_quiet (revoke w i c) (accepted a) p h = h
    changed_quiet (derive w i) (accepted a) p h = h
    changed_quiet (rekey w i) (accepted a) p h = h
    changed_quiet (access i) (accepted a) p h = h

  -- ---- every app of the run
  exec_quiet : (r : Run) (e : Executive) (a : Answer) → GivenApart r e a → (t : ℕ) (x : Option Holder) → Quiet x → Quiet (holder_after (executive_calls r) e a t x)
  exec_quiet r e (refused f) g t x h = h
  exec_quiet r (create s p w es) (accepted a) g t x h = go (eqb s t)
    where
      go : (b : Bool) → Quiet (cond b (Some (new_holder (new_app (executive_calls r) s p w es))) x)
      go true = (
        λ c. (g.0 c, subst (λ es'. Within (get_or es 0 0) es') (g.0 c) (within_first es)),
        λ c. (g.1 c, harmless_within (get_or es 0 0) es (within_first es) (g.1 c)),
      )
      go false = h
  exec_quiet r (end s) (accepted a) g t x h = go (eqb s t)
    where
      go : (b : Bool) → Quiet (cond b None x)
      go true = tt
      go false = h
  exec_quiet r (turn s) (accepted a) g t x h = h
  exec_quiet r close (accepted a) g t x h = h

  app_quiet : (r : Run) (q : Request) (a : Answer) → PresentedApart r (presented q) → ((t : ℕ) → Quiet (holder S r t)) → (t : ℕ) → Quiet (now (holder S r) (running S r) (changed r q a) t)
  app_quiet r q a p quiet t = go (is_at (running S r) t) refl (holder S r t) refl
    where
      go : (b : Bool) → is_at (running S r) t ≡ b → (x : Option Holder) → holder S r t ≡ x → Quiet (cond b (map_option (changed r q a) x) x)
      go true e None h = tt
      go true e (Some X) h = changed_quiet r quiet t X (is_at_some (running S r) t (subst T (sym e) tt)) h q a p (subst Quiet h (quiet t))
      go false e x h = subst Quiet h (quiet t)

  pub all_quiet : (r : Run) → Apart r → (t : ℕ) → Quiet (holder S r t)
  unfolding holder Apart
  all_quiet [] = λ a t. tt
  all_quiet (exec e ∷ r) = λ a t. exec_quiet r e (answer S r (exec e)) a.0 t (holder S r t) (all_quiet r a.1 t)
  all_quiet (app q ∷ r) = λ a t. app_quiet r q (answer S r (app q)) a.0 (all_quiet r a.1) t
