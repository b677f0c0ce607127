-- Where a search in a chain or through the slots ends.
use Rattle.std.proofs.Common.{◌≡◌, ℕ, zero, suc, ◌+◌, ◌<◌, ◌≤◌, Bool, true, false, cond, T, eqb, ◌⊎◌, List, [], ◌∷◌, length, get_or, Some, None, Option, sym, refl, ap, ◌∙◌, subst, inl, inr, zero-add, arith}
use Rattle.std.proofs.lemmas.Bool.{eqb-true, eqb-false}
use Rattle.vocabulary.specs.declared.found.Found.{Found}
use Rattle.rules.specs.Console.{Slot, is_at}
use Rattle.rules.specs.Lists.{Holds}
use Rattle.rules.specs.LookUp.{place_from, place_of, repeat_from, first_repeat, passwords_of, or_else, found_in, search_slots, look_up}
use Rattle.rules.proofs.Cases.{is_at_some}
use Rattle.rules.proofs.Options.{some_injective, some_not_none, none_not_some}

pub place_in : (i w : ℕ) (ps : List ℕ) (j : ℕ) → place_from i w ps ≡ Some j → Holds ps w
place_in i w [] j e = absurd (none_not_some j e)
place_in i w (x ∷ ps) j e = go (λ e. place_in (suc i) w ps j e) (eqb w x) refl e
  where
    go : (place_from (suc i) w ps ≡ Some j → Holds ps w) → (b : Bool) → eqb w x ≡ b → cond b (Some i) (place_from (suc i) w ps) ≡ Some j → Holds (x ∷ ps) w
    go ih true q e = inl (eqb-true w x q)
    go ih false q e = inr (ih e)

pub place_none : (i w : ℕ) (ps : List ℕ) → place_from i w ps ≡ None → ¬ Holds ps w
place_none i w [] e h = h
place_none i w (x ∷ ps) e h = go (λ e h. place_none (suc i) w ps e h) (eqb w x) refl e h
  where
    go : (place_from (suc i) w ps ≡ None → Holds ps w → ⊥) → (b : Bool) → eqb w x ≡ b → cond b (Some i) (place_from (suc i) w ps) ≡ None → (w ≡ x) ⊎ Holds ps w → ⊥
    go ih true q e h = some_not_none i e
    go ih false q e (inl y) = eqb-false w x q y
    go ih false q e (inr y) = ih e y

-- in a list without repeats each password's first place is its own
repeat_none : (ps : List ℕ) (n i : ℕ) → repeat_from ps n i ≡ None → (d : ℕ) → d < n → T (is_at (place_of (get_or ps (i + d) 0) ps) (i + d))
repeat_none ps zero i e d h = absurd (omega arith)
repeat_none ps (suc n) i e d h = go (λ e d h. repeat_none ps n (suc i) e d h) (is_at (place_of (get_or ps i 0) ps) i) refl e d h
  where
    go : (repeat_from ps n (suc i) ≡ None → (d : ℕ) → d < n → T (is_at (place_of (get_or ps (suc i + d) 0) ps) (suc i + d))) →
        (b : Bool) → is_at (place_of (get_or ps i 0) ps) i ≡ b → cond b (repeat_from ps n (suc i)) (Some i) ≡ None →
        (d : ℕ) → d < suc n → T (is_at (place_of (get_or ps (i + d) 0) ps) (i + d))
    go ih true q e zero h =
        let z : i ≡ i + zero = omega arith in
        subst (λ j. T (is_at (place_of (get_or ps j 0) ps) j)) z (subst T (sym q) tt)
    go ih true q e (suc d) h =
        let z : suc i + d ≡ i + suc d = omega arith in
        subst (λ j. T (is_at (place_of (get_or ps j 0) ps) j)) z (ih e d (omega arith))
    go ih false q e d h = absurd (some_not_none i e)

pub own_place : (ps : List ℕ) (j : ℕ) → first_repeat ps ≡ None → j < length ps → place_of (get_or ps j 0) ps ≡ Some j
own_place ps j e h =
    is_at_some (place_of (get_or ps j 0) ps) j
    (subst (λ i. T (is_at (place_of (get_or ps i 0) ps) i)) (zero-add j) (repeat_none ps (length ps) 0 e j h))

module _ (f : ℕ → Option Slot) (w : ℕ) where
  -- w stands at place i of slot t
  abbrev At : ℕ → ℕ → Type 0
  At t i = place_of w (passwords_of (f t)) ≡ Some i

  found_some : (t : ℕ) (x : Option ℕ) (z : Found) → place_of w (passwords_of (f t)) ≡ x → found_in t x ≡ Some z → At z.slot z.place
  found_some t None z p e = absurd (none_not_some z e)
  found_some t (Some i) z p e =
      let q : record { slot = t; place = i } ≡ z = some_injective (record { slot = t; place = i }) z e in
      subst (λ z. At z.slot z.place) q p

  -- what is found stands where it is found
  found_or : (t : ℕ) (o : Option Found) (z : Found) → (o ≡ Some z → At z.slot z.place) →
      or_else (found_in t (place_of w (passwords_of (f t)))) o ≡ Some z → At z.slot z.place
  found_or t o z ih e = go (place_of w (passwords_of (f t))) refl e
    where
      go : (x : Option ℕ) → place_of w (passwords_of (f t)) ≡ x → or_else (found_in t x) o ≡ Some z → At z.slot z.place
      go None p e = ih e
      go (Some i) p e = found_some t (Some i) z p e

  search_some : (n t : ℕ) (z : Found) → search_slots f w n t ≡ Some z → At z.slot z.place
  search_some zero t z e = absurd (none_not_some z e)
  search_some (suc n) t z e = found_or t (search_slots f w n (suc t)) z (search_some n (suc t) z) e

  pub look_some : (s : ℕ) (z : Found) → look_up f s w ≡ Some z → place_of w (passwords_of (f z.slot)) ≡ Some z.place
  unfolding look_up
  look_some s z e = found_or s (search_slots f w 8 0) z (search_some 8 0 z) e

  -- the own chain comes first
  pub look_own : (s i : ℕ) → place_of w (passwords_of (f s)) ≡ Some i → look_up f s w ≡ Some (record { slot = s; place = i })
  unfolding look_up
  look_own s i e = ap (λ x. or_else (found_in s x) (search_slots f w 8 0)) e

  pub look_others : (s : ℕ) → place_of w (passwords_of (f s)) ≡ None → look_up f s w ≡ search_slots f w 8 0
  unfolding look_up
  look_others s e = ap (λ x. or_else (found_in s x) (search_slots f w 8 0)) e

  -- the lowest slot that holds w is found
  pub search_first : (n a t i : ℕ) → a ≤ t → t < a + n → place_of w (passwords_of (f t)) ≡ Some i →
      ((u : ℕ) → u < t → place_of w (passwords_of (f u)) ≡ None) → search_slots f w n a ≡ Some (record { slot = t; place = i })
  search_first zero a t i l h e g = absurd (omega arith)
  search_first (suc n) a t i l h e g = go (λ m. search_first n (suc a) t i m (omega arith) e g) (eqb a t) refl
    where
      below : ¬ (a ≡ t) → a < t
      below ne = omega (arith, ne, l)

      go : (suc a ≤ t → search_slots f w n (suc a) ≡ Some (record { slot = t; place = i })) → (b : Bool) → eqb a t ≡ b →
          or_else (found_in a (place_of w (passwords_of (f a)))) (search_slots f w n (suc a)) ≡ Some (record { slot = t; place = i })
      go ih true q =
          subst (λ u. or_else (found_in u (place_of w (passwords_of (f u)))) (search_slots f w n (suc u)) ≡ Some (record { slot = t; place = i }))
          (sym (eqb-true a t q)) (ap (λ x. or_else (found_in t x) (search_slots f w n (suc t))) e)
      go ih false q =
          ap (λ x. or_else (found_in a x) (search_slots f w n (suc a))) (g a (below (eqb-false a t q))) ∙ ih (below (eqb-false a t q))

  pub search_none : (n a : ℕ) → ((u : ℕ) → place_of w (passwords_of (f u)) ≡ None) → search_slots f w n a ≡ None
  search_none zero a g = refl
  search_none (suc n) a g = ap (λ x. or_else (found_in a x) (search_slots f w n (suc a))) (g a) ∙ search_none n (suc a) g
