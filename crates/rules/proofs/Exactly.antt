-- An access passes exactly when it is permitted to the domain of its app.
use Rattle.std.proofs.Common.{◌≡◌, ℕ, Some, None, Option, sym, refl, ap, ◌∙◌, subst}
use Rattle.vocabulary.specs.declared.access.Access.{Access}
use Rattle.vocabulary.specs.Refusals.{by_unit}
use Rattle.rules.specs.Calls.{access_rule}
use Rattle.rules.specs.Console.{Setting, Console, access, Reply, Answer, refused, accepted, Outcome, answer_of}
use Rattle.rules.specs.History.{running, holder, domain_of}
use Rattle.rules.specs.Isolation.{Permitted, PassesExactly}
use Rattle.rules.specs.Runs.{state, answer}
use Rattle.rules.specs.Visits.{reply_to}
use Rattle.rules.proofs.Cases.{unless_case}
use Rattle.rules.proofs.Faults.{faults, permitted, no_fault}
use Rattle.rules.proofs.Options.{some_not_none, none_not_some}
use Rattle.rules.proofs.Sound.{register_own, at_slot_some, turn_same, kept}
use Rattle.rules.proofs.Walk.{app_rule}

module _ (S : Setting) where
  reply_in : Answer → Option Reply
  reply_in (refused f) = None
  reply_in (accepted a) = Some a

  Exact : Outcome → ℕ → Access → Type 0
  Exact o d a = (((v : Reply) × (answer_of o ≡ accepted v)) → Permitted S d a) × (Permitted S d a → (v : Reply) × (answer_of o ≡ accepted v))

  exact_access : (k : Console) (a : Access) → Exact (access_rule S.machine k a) k.register.domain a
  unfolding Exact reply_in
  exact_access k a =
      unless_case (λ o. (((v : Reply) × (answer_of o ≡ accepted v)) → Permitted S k.register.domain a) × (Permitted S k.register.domain a → (v : Reply) × (answer_of o ≡ accepted v)))
      (faults S k.register.domain a) (λ n. by_unit n 0) _
      (λ n e. ((λ z. absurd (none_not_some z.0 (ap reply_in z.1))), (λ p. absurd (some_not_none n (sym e ∙ no_fault S k.register.domain a p)))))
      (λ e. ((λ _. permitted S k.register.domain a e), (λ _. (reply_to k.pages a, refl))))

  pub passes_exactly : PassesExactly S
  unfolding answer Exact
  passes_exactly r X e a =
      let t = at_slot_some (running S r) (holder S r) X e in
      let h = kept S r t.0 X t.2 in
      let u : (state S r).turn_of ≡ Some t.0 = turn_same S r ∙ t.1 in
      let d : (state S r).register.domain ≡ domain_of S X = ap (λ x. x.domain) (sym (register_own (state S r) t.0 u)) ∙ h.2.register in
      subst (λ o. Exact o (domain_of S X) a) (sym (app_rule S.machine (state S r) t.0 h.0 (access a) u h.1))
      (subst (λ d. Exact (access_rule S.machine (state S r) a) d a) d (exact_access (state S r) a))
