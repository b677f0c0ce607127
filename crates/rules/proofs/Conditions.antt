-- The conditions of noninterference hold of two runs of the worked console, and so its promise does.
use Rattle.std.proofs.Common.{◌≡◌, ℕ, Bool, true, false, cond, ◌&&◌, T, ltb, leb, [], ◌∷◌, drop, Some, None, Option, sym, refl, ap, ◌∙◌, subst, inl, inr, arith}
use Rattle.vocabulary.specs.declared.access.Right.TheVariants as right
use Rattle.memory.specs.Kinds.{page_by}
use Rattle.rules.specs.Boot.{field_of_rows}
use Rattle.rules.specs.Conditions.{app_a, first_run, second_run, ConditionsCanBeMet}
use Rattle.rules.specs.Console.{Setting, Request, Call, exec, app}
use Rattle.rules.specs.Domains.{shares, with_context, without_context, union_from, permits, Allow}
use Rattle.rules.specs.History.{App, Holder, presented, new_holder, running, holder, in_turn, apps, chain_of}
use Rattle.rules.specs.Isolation.{HeldBy, PresentsApart, compared, answers, Comparable}
use Rattle.rules.specs.Lists.{Holds}
use Rattle.rules.specs.LookUp.{look_up}
use Rattle.rules.specs.Runs.{Run, state, answer}
use Rattle.rules.specs.Worked.{drill_and_ram, worked, worked_field}
use Rattle.rules.proofs.Cases.{heads, tails, nil_not_cons}
use Rattle.rules.proofs.Noninterference.{noninterference}
use Rattle.rules.proofs.Options.{some_injective, some_not_none}

-- ---- how the condition on presented passwords is met, call by call
request_in : Call → Option Request
request_in (exec e) = None
request_in (app q) = Some q

module _ (S : Setting) (X : App) where
  -- of the password presented after r, if one is
  Newest : Run → Option ℕ → Type 0
  Newest r None = Unit {0}
  Newest r (Some w) =
      (Z : Holder) → in_turn S r ≡ Some Z → (Y : Holder) → HeldBy S r Y w → (Z.who ≡ X → Holds (chain_of S Z) w) × (¬ (Z.who ≡ X) → ¬ (Y.who ≡ X))

  NewestEach : Run → Type 0
  NewestEach [] = Unit {0}
  NewestEach (exec e ∷ r) = NewestEach r
  NewestEach (app q ∷ r) = Newest r (presented q) × NewestEach r

  presents : (r : Run) → NewestEach r → PresentsApart S X r
  unfolding Newest NewestEach request_in
  presents [] h o ([], q, z, e) = absurd (nil_not_cons _ _ (sym z))
  presents [] h o (c ∷ since, q, z, e) = absurd (nil_not_cons _ _ (sym z))
  presents (exec x ∷ r) h o ([], q, z, e) = absurd (some_not_none q (ap request_in (heads (exec x) _ _ _ _ z)))
  presents (exec x ∷ r) h o (c ∷ since, q, z, e) = presents r h o (since, q, tails _ _ _ _ z, e)
  presents (app p ∷ r) h o ([], q, z, e) =
      let same : q ≡ p = some_injective q p (ap request_in (heads (app p) _ _ _ _ z)) in
      subst (λ b. Newest b (Some o.password)) (sym (tails _ _ _ _ z)) (subst (Newest r) (ap presented (sym same) ∙ e) h.0)
  presents (app p ∷ r) h o (c ∷ since, q, z, e) = presents r h.1 o (since, q, tails _ _ _ _ z, e)

-- ---- in the worked console a domain without context 1 writes on no page
no_write : (d : ℕ) → shares d 2 ≡ false → shares d 0 ≡ false → (q : ℕ) → T (permits worked_field d right.Write q) → ⊥
unfolding drill_and_ram field_of_rows with_context
no_write d h₂ h₀ q = go (leb 5 q && ltb q 6)
  where
    go : (b : Bool) → T (shares d (cond b (with_context 0 1) 0)) → ⊥
    go true h = subst T h₂ h
    go false h = subst T h₀ h

-- app A visits in its turn
visits_own : (r : Run) → in_turn worked r ≡ Some (new_holder app_a) → Newest worked app_a r (Some 120)
unfolding Newest drill_and_ram
visits_own r e Z z Y y =
    subst (λ X. (X.who ≡ app_a → Holds (chain_of worked X) 120) × (¬ (X.who ≡ app_a) → ¬ (Y.who ≡ app_a)))
    (some_injective (new_holder app_a) Z (sym e ∙ z))
    (λ _. inr (inr (inl refl)), λ ne. absurd (ne refl))

comparable : Comparable worked app_a first_run second_run
unfolding Newest NewestEach drill_and_ram page_by field_of_rows with_context without_context union_from look_up state answer running holder apps compared
comparable =
    record {
      created = inr (inl refl);
      writes₁ = (λ _ q w _. no_allow q w, (λ ne. absurd (ne refl), tt));
      writes₂ = (λ _ q w _. elim w [ inl h ↦ no_write 4 refl refl q h | inr h ↦ h ], (λ ne. absurd (ne refl), tt));
      presents₁ = presents worked app_a first_run (visits_own (drop 1 first_run) refl, (tt, (tt, (tt, tt))));
      presents₂ = presents worked app_a second_run (visits_own (drop 1 second_run) refl, tt);
      same_calls = refl;
    }
  where
    no_allow : (q : ℕ) → Allow worked_field (0 ∷ 8 ∷ 8 ∷ []) right.Write q → ⊥
    no_allow q (inl h) = no_write 0 refl refl q h
    no_allow q (inr (inl h)) = no_write 8 refl refl q h
    no_allow q (inr (inr (inl h))) = no_write 8 refl refl q h
    no_allow q (inr (inr (inr h))) = h

pub conditions_can_be_met : ConditionsCanBeMet
unfolding drill_and_ram page_by field_of_rows with_context without_context union_from look_up state answer running holder answers
conditions_can_be_met =
    record {
      comparable = comparable;
      differ = (inr (inr (inl refl)), λ h. elim h [ inl e ↦ absurd (omega (arith, e)) | inr f ↦ f ]);
      indistinguishable = noninterference worked app_a first_run second_run comparable;
      answered = refl;
    }
