-- A parameter that has an earlier value again brings back the passwords and what they open.
use Rattle.std.proofs.Common.{◌≡◌, ℕ, ◌+◌, ◌<◌, ltb, ◌∷◌, ◌++◌, length, get_or, Some, None, Option, sym, ap, ◌∙◌, subst, ap₂, ltb→lt}
use Rattle.vocabulary.specs.declared.parameter.Parameter.{Parameter}
use Rattle.vocabulary.specs.Refusals.{by_table}
use Rattle.one_way.specs.Chains.{chain}
use Rattle.rules.specs.Calls.{activate_done, derive_rule, rule}
use Rattle.rules.specs.Console.{Setting, Slot, Console, activate, visit, derive, app, done, value, visited, Answer, refused, accepted, Outcome, answer_of, after}
use Rattle.rules.specs.History.{App, Holder, holder, chain_of}
use Rattle.rules.specs.Isolation.{WorksIn, passwords_in, SameParameter, Opens, DerivedOpens, OldPasswordsReturn}
use Rattle.rules.specs.LookUp.{place_of, passwords_of, look_up, domain_at}
use Rattle.rules.specs.Runs.{Run, state, answer}
use Rattle.rules.proofs.Cases.{ask_case, need_case}
use Rattle.rules.proofs.OneLookUp.{visit_works}
use Rattle.rules.proofs.Options.{some_injective, none_not_some}
use Rattle.rules.proofs.Search.{own_place, look_own}
use Rattle.rules.proofs.Sound.{now, turn_same, kept, kept_domain}
use Rattle.rules.proofs.Walk.{app_rule, activate_is}

module _ (S : Setting) where
  kept_chain : (r : Run) (s : ℕ) (X : Holder) → holder S r s ≡ Some X → passwords_in S r s ≡ chain_of S X
  kept_chain r s X e = let z = kept S r s X e in ap passwords_of z.1 ∙ z.2.passwords

  returns : (earlier now : Run) (s : ℕ) → SameParameter S earlier now s → passwords_in S now s ≡ passwords_in S earlier s
  returns earlier now s z =
      kept_chain now s z.new z.is
      ∙ ap₂ (λ (x : App) (p : Parameter). chain S.machine.way.H p (length x.creation_domains) x.master) z.same_app z.same_parameter
      ∙ sym (kept_chain earlier s z.old z.was)

  -- a password of the own chain opens the domain at its place
  opens : (r : Run) (s v i : ℕ) (σ : Slot) → (state S r).turn_of ≡ Some s → (state S r).slots s ≡ Some σ → place_of v (passwords_in S r s) ≡ Some i →
      Opens S r v (domain_at (state S r).slots s i)
  unfolding answer state
  opens r s v i σ e h p =
      let k : Console = state S r in
      let f : look_up k.slots s v ≡ Some (record { slot = s; place = i }) = look_own k.slots v s i p in
      let a : rule S.machine k (app (activate v)) ≡ activate_done k (record { slot = s; place = i }) = activate_is S.machine k s σ e h v (Some (record { slot = s; place = i })) f in (
        ap answer_of a,
        ap (λ o. (after k o).register) a,
        λ l b. subst (λ o. WorksIn S (domain_at k.slots s i) l b (answer_of o)) (sym (app_rule S.machine k s σ (visit v l b) e h)) (visit_works S k s v l b (record { slot = s; place = i }) f),
      )

  value_of : Answer → Option ℕ
  value_of (refused f) = None
  value_of (accepted done) = None
  value_of (accepted (value d)) = Some d
  value_of (accepted (visited n f b)) = None

  -- what derive answers stands n places after w
  derived : (k : Console) (σ : Slot) (w n v : ℕ) → answer_of (derive_rule k σ w n) ≡ accepted (value v) →
      (i : ℕ) × (place_of w σ.passwords ≡ Some i) × (v ≡ get_or σ.passwords (i + n) 0) × (i + n < length σ.passwords)
  unfolding value_of
  derived k σ w n v =
      let P : Outcome → Type 0 =
      λ o. answer_of o ≡ accepted (value v) → (i : ℕ) × (place_of w σ.passwords ≡ Some i) × (v ≡ get_or σ.passwords (i + n) 0) × (i + n < length σ.passwords) in
      need_case P (place_of w σ.passwords) (by_table 11 0) _ (λ e. absurd (none_not_some v (ap value_of e))) (λ i p.
      ask_case P (ltb (i + n) (length σ.passwords)) (by_table 12 0) _ (λ e. absurd (none_not_some v (ap value_of e))) (λ l e.
      (i, p, sym (some_injective (get_or σ.passwords (i + n) 0) v (ap value_of e)), ltb→lt (i + n) (length σ.passwords) l)))

  derived_opens : DerivedOpens S
  unfolding answer
  derived_opens earlier since s w n v e a e' z =
      let now : Run = since ++ (app (derive w n) ∷ earlier) in
      let x = kept S earlier s z.old z.was in
      let y = kept S now s z.new z.is in
      let pe : passwords_in S earlier s ≡ x.0.passwords = ap passwords_of x.1 in
      let pn : passwords_in S now s ≡ y.0.passwords = ap passwords_of y.1 in
      let q : x.0.passwords ≡ y.0.passwords = sym pe ∙ sym (returns earlier now s z) ∙ pn in
      let g = derived (state S earlier) x.0 w n v (sym (ap answer_of (app_rule S.machine (state S earlier) s x.0 (derive w n) (turn_same S earlier ∙ e) x.1)) ∙ a) in
      let i : ℕ = g.0 in (
        i,
        ap (place_of w) (sym (kept_chain earlier s z.old z.was) ∙ pe) ∙ g.1,
        subst (Opens S now v) (kept_domain S now s z.new z.is (i + n)) (opens now s v (i + n) y.0 (turn_same S now ∙ e') y.1
            (ap (place_of v) pn
            ∙ subst (λ u. place_of u y.0.passwords ≡ Some (i + n)) (sym (g.2 ∙ ap (λ ps. get_or ps (i + n) 0) q))
            (own_place y.0.passwords (i + n) y.2.no_repeat (subst (λ ps. i + n < length ps) q g.3)))),
      )

  pub old_passwords_return : OldPasswordsReturn S
  old_passwords_return = (λ earlier since s z. returns earlier (since ++ earlier) s z, derived_opens)
