-- An app does not notice what others do: the conditions of whole runs, taken apart call by call.
use Rattle.std.proofs.Common.{◌≡◌, ℕ, suc, ◌<◌, Bool, true, false, cond, T, eqb, ◌⊎◌, List, [], ◌∷◌, Some, None, Option, sym, refl, ap, ◌∙◌, subst, inl, inr, arith}
use lib.Dec.{eqb_refl}
use Rattle.std.proofs.lemmas.Bool.{eqb-true}
use Rattle.rules.specs.Console.{Setting, Executive, create, end, turn, close, Call, exec, app, Answer, refused, accepted, is_at}
use Rattle.rules.specs.History.{App, Holder, executive_calls, presented, new_holder, new_app, holder_after, changed, map_option, created, with_first, running, holder, in_turn, apps}
use Rattle.rules.specs.Isolation.{is_app, Compared, executive, other_create, own, compared_of, Created, HasSlot, PresentsApart, compared, Noninterference}
use Rattle.rules.specs.Lists.{Any, All}
use Rattle.rules.specs.Runs.{Run, answer}
use Rattle.rules.proofs.Alike.{changed_who, Alike}
use Rattle.rules.proofs.Apart.{HarmlessAll, GivenApart, PresentedApart, Apart}
use Rattle.rules.proofs.Cases.{true_t, eqb_same, all_map}
use Rattle.rules.proofs.Options.{some_injective, none_not_some}
use Rattle.rules.proofs.OwnStep.{mine_some}
use Rattle.rules.proofs.Sound.{at_slot_some}
use Rattle.rules.proofs.Unnoticed.{unnoticed}

-- ---- the app that a call creates
created_number : (n : ℕ) (e : Executive) (a : Answer) (X : App) → created n e a ≡ Some X → X.create_number ≡ n
created_number n e (refused f) X h = absurd (none_not_some X h)
created_number n (create s p w ds) (accepted a) X h = ap (λ Y. Y.create_number) (sym (some_injective (new_app n s p w ds) X h))
created_number n (end s) (accepted a) X h = absurd (none_not_some X h)
created_number n (turn s) (accepted a) X h = absurd (none_not_some X h)
created_number n close (accepted a) X h = absurd (none_not_some X h)

-- the app that a compared call creates
created_in : ℕ → Compared → Option App
created_in n (executive e a) = created n e a
created_in n (other_create s a) = None
created_in n (own q) = None

compared_true : (e : Executive) (a : Answer) → compared_of true e a ≡ executive e a
compared_true (create s p w ds) a = refl
compared_true (end s) a = refl
compared_true (turn s) a = refl
compared_true close a = refl

other_none : (n : ℕ) (e : Executive) (a : Answer) → created_in n (compared_of false e a) ≡ None
unfolding created_in
other_none n (create s p w ds) a = refl
other_none n (end s) (refused f) = refl
other_none n (end s) (accepted a) = refl
other_none n (turn s) (refused f) = refl
other_none n (turn s) (accepted a) = refl
other_none n close (refused f) = refl
other_none n close (accepted a) = refl

shows : (X : App) (n : ℕ) (e : Executive) (a : Answer) → created n e a ≡ Some X → created_in X.create_number (compared_of (eqb n X.create_number) e a) ≡ Some X
unfolding created_in
shows X n e a h =
    subst (λ i. created_in i (compared_of (eqb n i) e a) ≡ Some X) (sym (created_number n e a X h))
    (ap (λ b. created_in n (compared_of b e a)) (eqb_same n) ∙ ap (created_in n) (compared_true e a) ∙ h)

tells : (X : App) (n : ℕ) (e : Executive) (a : Answer) → created_in X.create_number (compared_of (eqb n X.create_number) e a) ≡ Some X → created n e a ≡ Some X
unfolding created_in
tells X n e a h = go (eqb n X.create_number) refl h
  where
    go : (b : Bool) → eqb n X.create_number ≡ b → created_in X.create_number (compared_of b e a) ≡ Some X → created n e a ≡ Some X
    go true q h =
        ap (λ i. created i e a) (eqb-true n X.create_number q) ∙ ap (created_in X.create_number) (sym (compared_true e a)) ∙ h
    go false q h = absurd (none_not_some X (sym (other_none X.create_number e a) ∙ h))

-- the newest app of a list that has one more
any_first : (P : App → Type 0) (x : Option App) (l : List App) → Any P (with_first x l) → ((X : App) × (x ≡ Some X) × P X) ⊎ Any P l
any_first P None l h = inr h
any_first P (Some X) l (inl p) = inl (X, refl, p)
any_first P (Some X) l (inr h) = inr h

module _ (S : Setting) where
  -- ---- no two apps of a run have the same number
  Below : ℕ → List App → Type 0
  Below n l = All (λ Y. Y.create_number < n) l

  below : (r : Run) → Below (executive_calls r) (apps S r)
  unfolding apps Below
  below [] = tt
  below (exec e ∷ r) = go (created n e (answer S r (exec e))) refl (all_map (λ Y. Y.create_number < n) (λ Y. Y.create_number < suc n) (λ Y k. omega (arith, k)) (apps S r) (below r))
    where
      n : ℕ
      n = executive_calls r

      go : (x : Option App) → created n e (answer S r (exec e)) ≡ x → Below (suc n) (apps S r) → Below (suc n) (with_first x (apps S r))
      go None h b = b
      go (Some X) h b = (let q = created_number n e (answer S r (exec e)) X h in omega (arith, q), b)
  below (app q ∷ r) = below r

  bound : (X : App) (n : ℕ) (l : List App) → Below n l → Any (λ Y. X ≡ Y) l → X.create_number < n
  unfolding Below
  bound X n [] b h = absurd h
  bound X n (Y ∷ l) b (inl q) = subst (λ Z. Z.create_number < n) (sym q) b.0
  bound X n (Y ∷ l) b (inr h) = bound X n l b.1 h

  ToldByNumber : App → List App → Type 0
  ToldByNumber X l = All (λ Y. Y.create_number ≡ X.create_number → Y ≡ X) l

  told : (X : App) (r : Run) → Created S X r → ToldByNumber X (apps S r)
  unfolding apps Below ToldByNumber
  told X [] = λ h. absurd h
  told X (exec e ∷ r) = go (told X r) (created n e (answer S r (exec e))) refl
    where
      n : ℕ
      n = executive_calls r

      older : Below n (apps S r) → X.create_number ≡ n → ToldByNumber X (apps S r)
      older b e = all_map (λ Y. Y.create_number < n) (λ Y. Y.create_number ≡ X.create_number → Y ≡ X) (λ Y k q. absurd (omega (arith, e, k, q))) (apps S r) b

      go : (Created S X r → ToldByNumber X (apps S r)) → (x : Option App) → created n e (answer S r (exec e)) ≡ x →
          Any (λ Y. X ≡ Y) (with_first x (apps S r)) → ToldByNumber X (with_first x (apps S r))
      go ih None c h = ih h
      go ih (Some Y) c (inl q) = (λ _. sym q, older (below r) (ap (λ Z. Z.create_number) q ∙ created_number n e (answer S r (exec e)) Y c))
      go ih (Some Y) c (inr h) =
          let k = bound X n (apps S r) (below r) h in
          let y = created_number n e (answer S r (exec e)) Y c in
          (λ q. absurd (omega (arith, k, y, q)), ih h)
  told X (app q ∷ r) = told X r

  -- what holds of all apps of a run holds of those that live
  Of : (App → Type 0) → Option Holder → Type 0
  Of P None = Unit {0}
  Of P (Some Y) = P Y.who

  living : (P : App → Type 0) (r : Run) → All P (apps S r) → (t : ℕ) → Of P (holder S r t)
  unfolding apps holder Of
  living P [] h t = tt
  living P (exec e ∷ r) h t = go (λ h. living P r h t) e (answer S r (exec e)) h
    where
      n : ℕ
      n = executive_calls r

      either : (b : Bool) (x : Option Holder) → Of P x → Of P (holder S r t) → Of P (cond b x (holder S r t))
      either true x p q = p
      either false x p q = q

      go : (All P (apps S r) → Of P (holder S r t)) → (e : Executive) (a : Answer) → All P (with_first (created n e a) (apps S r)) → Of P (holder_after n e a t (holder S r t))
      go ih e (refused f) h = ih h
      go ih (create s p w ds) (accepted a) h = either (eqb s t) (Some (new_holder (new_app n s p w ds))) h.0 (ih h.1)
      go ih (end s) (accepted a) h = either (eqb s t) None tt (ih h)
      go ih (turn s) (accepted a) h = ih h
      go ih close (accepted a) h = ih h
  living P (app q ∷ r) h t = go (is_at (running S r) t) (holder S r t) (living P r h t)
    where
      go : (b : Bool) (x : Option Holder) → Of P x → Of P (cond b (map_option (changed r q (answer S r (app q))) x) x)
      go true None p = tt
      go true (Some X) p = subst P (sym (changed_who r q (answer S r (app q)) X)) p
      go false x p = p

  is_x : (X : App) (r : Run) → ToldByNumber X (apps S r) → (t : ℕ) (Y : Holder) → holder S r t ≡ Some Y → Y.who.create_number ≡ X.create_number → Y.who ≡ X
  unfolding Of ToldByNumber
  is_x X r k t Y e = subst (Of (λ Z. Z.create_number ≡ X.create_number → Z ≡ X)) e (living (λ Z. Z.create_number ≡ X.create_number → Z ≡ X) r k t)

  -- ---- the conditions, call by call
  Writes : App → List App → Type 0
  Writes X l = All (λ Y. ¬ (Y ≡ X) → HarmlessAll S X.create_number X.creation_domains Y.creation_domains) l

  given : (X : App) (r : Run) (e : Executive) (a : Answer) (l : List App) → let x : Option App = created (executive_calls r) e a in
      Writes X (with_first x l) → ToldByNumber X (with_first x l) → GivenApart S X.create_number X.creation_domains r e a × Writes X l × ToldByNumber X l
  unfolding Writes ToldByNumber
  given X r e (refused f) l h k = (tt, h, k)
  given X r (create s p w ds) (accepted a) l h k =
      ((λ q. ap (λ Y. Y.creation_domains) (k.0 q), λ ne. h.0 (λ q. ne (ap (λ Y. Y.create_number) q))), h.1, k.1)
  given X r (end s) (accepted a) l h k = (tt, h, k)
  given X r (turn s) (accepted a) l h k = (tt, h, k)
  given X r close (accepted a) l h k = (tt, h, k)

  later : (X : App) (c : Call) (r : Run) → PresentsApart S X (c ∷ r) → PresentsApart S X r
  later X c r p o (since, q, z, e) = p o (c ∷ since, q, ap (λ x. c ∷ x) z, e)

  apart : (X : App) (r : Run) → Writes X (apps S r) → ToldByNumber X (apps S r) → PresentsApart S X r → Apart S X.create_number X.creation_domains r
  unfolding Apart apps
  apart X [] h k p = tt
  apart X (exec e ∷ r) h k p =
      let g = given X r e (answer S r (exec e)) (apps S r) h k in
      (g.0, apart X r g.1 g.2 (later X (exec e) r p))
  apart X (app q ∷ r) h k p = (newest (presented q) refl, apart X r h k (later X (app q) r p))
    where
      newest : (x : Option ℕ) → presented q ≡ x → PresentedApart S X.create_number X.creation_domains r x
      newest None e = tt
      newest (Some w) e = λ Z z Y y.
          let t = at_slot_some (running S r) (holder S r) Z z in
          let c = p (record { before = r; password = w }) ([], q, refl, e) Z z Y y in (
            λ i. c.0 (is_x X r k t.0 Z t.2 i),
            λ i j. c.1 (λ s. i (ap (λ V. V.create_number) s)) (is_x X r k y.0 Y y.1 j),
          )

  -- ---- an app of the first run is one of the second
  shown : (X : App) (r : Run) → Created S X r → Any (λ x. created_in X.create_number x ≡ Some X) (compared S X.create_number r)
  unfolding apps compared
  shown X [] h = h
  shown X (exec e ∷ r) h =
      let a : Answer = answer S r (exec e) in
      elim (any_first (λ Y. X ≡ Y) (created (executive_calls r) e a) (apps S r) h)
      [ inl z ↦ inl (shows X (executive_calls r) e a (z.1 ∙ ap Some (sym z.2))) | inr l ↦ inr (shown X r l) ]
  shown X (app q ∷ r) h = go (is_app X.create_number (in_turn S r)) (shown X r h)
    where
      P : List Compared → Type 0
      P l = Any (λ x. created_in X.create_number x ≡ Some X) l

      go : (b : Bool) → P (compared S X.create_number r) → P (cond b (own q ∷ compared S X.create_number r) (compared S X.create_number r))
      go true h = inr h
      go false h = h

  created_too : (X : App) (r : Run) → Any (λ x. created_in X.create_number x ≡ Some X) (compared S X.create_number r) → Created S X r
  unfolding apps compared created_in
  created_too X [] h = h
  created_too X (exec e ∷ r) (inl h) =
      subst (λ x. Any (λ Y. X ≡ Y) (with_first x (apps S r))) (sym (tells X (executive_calls r) e (answer S r (exec e)) h)) (inl refl)
  created_too X (exec e ∷ r) (inr h) = go (created (executive_calls r) e (answer S r (exec e))) (created_too X r h)
    where
      go : (x : Option App) → Created S X r → Any (λ Y. X ≡ Y) (with_first x (apps S r))
      go None h = h
      go (Some Y) h = inr h
  created_too X (app q ∷ r) h = created_too X r (go (is_app X.create_number (in_turn S r)) h)
    where
      P : List Compared → Type 0
      P l = Any (λ x. created_in X.create_number x ≡ Some X) l

      go : (b : Bool) → P (cond b (own q ∷ compared S X.create_number r) (compared S X.create_number r)) → P (compared S X.create_number r)
      go true (inl e) = absurd (none_not_some X e)
      go true (inr h) = h
      go false h = h

  pub noninterference : Noninterference S
  unfolding Writes
  noninterference X r₁ r₂ c =
      let n : ℕ = X.create_number in
      let k₁ : ToldByNumber X (apps S r₁) = told X r₁ c.created in
      let k₂ : ToldByNumber X (apps S r₂) =
      told X r₂ (created_too X r₂ (subst (Any (λ x. created_in n x ≡ Some X)) c.same_calls (shown X r₁ c.created))) in
      let al : Alike S n X.creation_domains r₁ r₂ =
      unnoticed S n X.creation_domains r₁ (apart X r₁ c.writes₁ k₁ c.presents₁) r₂ (apart X r₂ c.writes₂ k₂ c.presents₂) c.same_calls in
      let me : (s : ℕ) → HasSlot S X r₁ s → T (is_app n (holder S r₁ s)) = λ s h. subst (λ x. T (is_app n x)) (sym h.1) (subst (λ Y. T (eqb Y.create_number n)) (sym h.2) (eqb_refl n)) in
      let there : (s : ℕ) → T (is_app n (holder S r₁ s)) → HasSlot S X r₂ s =
      λ s m.
      let z = mine_some S n X.creation_domains (holder S r₂ s) (sym (al.mine s) ∙ true_t (is_app n (holder S r₁ s)) m) in
      (z.0, z.1, is_x X r₂ k₂ s z.0 z.1 z.2) in
      record {
        same_answers = al.replies;
        same_register = λ s h. (there s (me s h), al.registers s (me s h));
        same_pages = al.pages;
      }
