-- Two runs that keep app n apart, and of which the same is compared, are alike to it.
use Rattle.std.proofs.Common.{◌≡◌, ℕ, Bool, true, false, cond, eqb, List, [], ◌∷◌, sym, refl, ap, subst}
use Rattle.rules.specs.Console.{Setting, Executive, Request, exec, app}
use Rattle.rules.specs.History.{executive_calls, in_turn}
use Rattle.rules.specs.Isolation.{is_app, Compared, executive, other_create, own, compared}
use Rattle.rules.specs.Runs.{Run, answer}
use Rattle.rules.proofs.Alike.{Alike, alike_refl, alike_sym, alike_trans, other_step}
use Rattle.rules.proofs.Apart.{Apart}
use Rattle.rules.proofs.Cases.{heads, tails, nil_not_cons}
use Rattle.rules.proofs.ExecStep.{not_own, exec_step_alike}
use Rattle.rules.proofs.OwnStep.{own_step}

module _ (S : Setting) (n : ℕ) (ds : List ℕ) where
  -- a call of another app is passed over in the second run
  skip_right : (r₁ r₂ : Run) (q : Request) → Apart S n ds (app q ∷ r₂) → is_app n (in_turn S r₂) ≡ false → Alike S n ds r₁ r₂ → Alike S n ds r₁ (app q ∷ r₂)
  skip_right r₁ r₂ q a h al = alike_trans S n ds r₁ r₂ (app q ∷ r₂) al (alike_sym S n ds (app q ∷ r₂) r₂ (other_step S n ds r₂ q a h))

  -- the first run has no compared call
  none_left : (r : Run) → Apart S n ds r → [] ≡ compared S n r → Alike S n ds [] r
  unfolding compared Apart
  none_left [] = λ a e. alike_refl S n ds []
  none_left (exec e ∷ r) = λ a q. absurd (nil_not_cons _ _ q)
  none_left (app q ∷ r) = λ a e. go (none_left r a.1) a (is_app n (in_turn S r)) refl e
    where
      go : ([] ≡ compared S n r → Alike S n ds [] r) → Apart S n ds (app q ∷ r) → (b : Bool) → is_app n (in_turn S r) ≡ b →
          [] ≡ cond b (own q ∷ compared S n r) (compared S n r) → Alike S n ds [] (app q ∷ r)
      go ih a true h e = absurd (nil_not_cons _ _ e)
      go ih a false h e = skip_right [] r q a h (ih e)

  AlikeToAll : Run → Type 0
  AlikeToAll r₁ = (r₂ : Run) → Apart S n ds r₂ → compared S n r₁ ≡ compared S n r₂ → Alike S n ds r₁ r₂

  -- the first run's newest call is the executive's
  exec_left : (r₁ : Run) (e₁ : Executive) → AlikeToAll r₁ → (r₂ : Run) → Apart S n ds r₂ → compared S n (exec e₁ ∷ r₁) ≡ compared S n r₂ → Alike S n ds (exec e₁ ∷ r₁) r₂
  unfolding compared Apart AlikeToAll
  exec_left r₁ e₁ ih [] = λ a q. absurd (nil_not_cons _ _ (sym q))
  exec_left r₁ e₁ ih (exec e₂ ∷ r₂) = λ a q.
      exec_step_alike S n ds r₁ r₂ e₁ e₂ (ih r₂ a.1 (tails _ _ _ _ q)) (heads (executive e₁ (answer S r₁ (exec e₁))) _ _ _ _ q)
  exec_left r₁ e₁ ih (app q ∷ r₂) = λ a e. go (exec_left r₁ e₁ ih r₂ a.1) a (is_app n (in_turn S r₂)) refl e
    where
      go : (compared S n (exec e₁ ∷ r₁) ≡ compared S n r₂ → Alike S n ds (exec e₁ ∷ r₁) r₂) → Apart S n ds (app q ∷ r₂) → (b : Bool) → is_app n (in_turn S r₂) ≡ b →
          compared S n (exec e₁ ∷ r₁) ≡ cond b (own q ∷ compared S n r₂) (compared S n r₂) → Alike S n ds (exec e₁ ∷ r₁) (app q ∷ r₂)
      go ih a true h e = absurd (not_own (eqb (executive_calls r₁) n) e₁ (answer S r₁ (exec e₁)) q (heads (own q) _ _ _ _ e))
      go ih a false h e = skip_right (exec e₁ ∷ r₁) r₂ q a h (ih e)

  request_in : Request → Compared → Request
  request_in d (executive e a) = d
  request_in d (other_create s a) = d
  request_in d (own q) = q

  -- the first run's newest call is app n's
  own_left : (r₁ : Run) (q₁ : Request) → Apart S n ds (app q₁ ∷ r₁) → is_app n (in_turn S r₁) ≡ true → AlikeToAll r₁ →
      (r₂ : Run) → Apart S n ds r₂ → own q₁ ∷ compared S n r₁ ≡ compared S n r₂ → Alike S n ds (app q₁ ∷ r₁) r₂
  unfolding compared Apart AlikeToAll request_in
  own_left r₁ q₁ a₁ h₁ ih [] = λ a q. absurd (nil_not_cons _ _ (sym q))
  own_left r₁ q₁ a₁ h₁ ih (exec e₂ ∷ r₂) = λ a q. absurd (not_own (eqb (executive_calls r₂) n) e₂ (answer S r₂ (exec e₂)) q₁ (sym (heads (own q₁) _ _ _ _ q)))
  own_left r₁ q₁ a₁ h₁ ih (app q₂ ∷ r₂) = λ a e. go (own_left r₁ q₁ a₁ h₁ ih r₂ a.1) (ih r₂ a.1) a (is_app n (in_turn S r₂)) refl e
    where
      go : (own q₁ ∷ compared S n r₁ ≡ compared S n r₂ → Alike S n ds (app q₁ ∷ r₁) r₂) → (compared S n r₁ ≡ compared S n r₂ → Alike S n ds r₁ r₂) →
          Apart S n ds (app q₂ ∷ r₂) → (b : Bool) → is_app n (in_turn S r₂) ≡ b →
          own q₁ ∷ compared S n r₁ ≡ cond b (own q₂ ∷ compared S n r₂) (compared S n r₂) → Alike S n ds (app q₁ ∷ r₁) (app q₂ ∷ r₂)
      go skip both a true h e =
          let same : q₁ ≡ q₂ = ap (request_in q₁) (heads (own q₁) _ _ _ _ e) in
          subst (λ q. Alike S n ds (app q₁ ∷ r₁) (app q ∷ r₂)) same
          (own_step S n ds r₁ r₂ q₁ (both (tails _ _ _ _ e)) a₁ (subst (λ q. Apart S n ds (app q ∷ r₂)) (sym same) a) h₁ h)
      go skip both a false h e = skip_right (app q₁ ∷ r₁) r₂ q₂ a h (skip e)

  pub unnoticed : (r₁ : Run) → Apart S n ds r₁ → (r₂ : Run) → Apart S n ds r₂ → compared S n r₁ ≡ compared S n r₂ → Alike S n ds r₁ r₂
  unfolding compared Apart AlikeToAll
  unnoticed [] = λ a₁ r₂ a₂ e. none_left r₂ a₂ e
  unnoticed (exec e₁ ∷ r₁) = λ a₁ r₂ a₂ e. exec_left r₁ e₁ (unnoticed r₁ a₁.1) r₂ a₂ e
  unnoticed (app q₁ ∷ r₁) = λ a₁ r₂ a₂ e. go a₁ (unnoticed r₁ a₁.1) (is_app n (in_turn S r₁)) refl r₂ a₂ e
    where
      go : Apart S n ds (app q₁ ∷ r₁) → AlikeToAll r₁ → (b : Bool) → is_app n (in_turn S r₁) ≡ b →
          (r₂ : Run) → Apart S n ds r₂ → cond b (own q₁ ∷ compared S n r₁) (compared S n r₁) ≡ compared S n r₂ → Alike S n ds (app q₁ ∷ r₁) r₂
      go a₁ ih true h r₂ a₂ e = own_left r₁ q₁ a₁ h ih r₂ a₂ e
      go a₁ ih false h r₂ a₂ e = alike_trans S n ds (app q₁ ∷ r₁) r₁ r₂ (other_step S n ds r₁ q₁ a₁ h) (ih r₂ a₂ e)
