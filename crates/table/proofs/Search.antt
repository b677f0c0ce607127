-- Searches in a list of passwords, from a place on.
use Rattle.std.proofs.Common.{◌≡◌, ℕ, zero, suc, ◌+◌, ◌-◌, ◌<◌, ◌≤◌, true, false, not, cond, eqb, List, [], ◌∷◌, length, get_or, take, drop, Some, None, sym, refl, ap, ◌∙◌, arith}
use Rattle.std.specs.List.{position, position_from, list_any}
use Rattle.std.proofs.lemmas.Iterator.Adapters.{position_from-zero}
use Rattle.std.proofs.lemmas.List.{drop_more, drop_all}
use Rattle.std.proofs.lemmas.Bool.{cond-true, cond-false, eq-eqb, ne_eqb}
use Rattle.std.proofs.lemmas.Bool.Decides.{nat_tests}
use Rattle.rules.specs.Console.{is_at}
use Rattle.rules.specs.LookUp.{place_from, place_of, repeat_from}

same_test : (a b : ℕ) → eqb a b ≡ eqb b a
same_test a b = grind (arith, nat_tests)

positions : (w i : ℕ) (ps : List ℕ) → position_from (λ p. eqb p w) i ps ≡ place_from i w ps
positions w i [] = refl
positions w i (p ∷ ps) =
    let q : i + 1 ≡ suc i = omega arith in
    ap (λ b. cond b (Some i) (position_from (λ x. eqb x w) (i + 1) ps)) (same_test p w)
    ∙ ap (cond (eqb w p) (Some i)) (positions w (i + 1) ps ∙ ap (λ j. place_from j w ps) q)

pub place_is : (w : ℕ) (ps : List ℕ) → position (λ p. eqb p w) ps ≡ place_of w ps
place_is w ps = position_from-zero (λ p. eqb p w) ps ∙ positions w 0 ps

-- a password stands first at its place i where no earlier place has it
first_at : (w i j k : ℕ) (ps : List ℕ) → k ≡ j + i → i < length ps → get_or ps i 0 ≡ w
    → is_at (place_from j w ps) k ≡ not (list_any (λ p. eqb p w) (take i ps))
first_at w i j k [] q l e = absurd (omega arith)
first_at w zero j k (p ∷ ps) q l e = grind (arith, nat_tests)
first_at w (suc i) j k (p ∷ ps) q l e = grind (arith, nat_tests, first_at w i (suc j) k ps)

module _ (ps : List ℕ) where
  pub place_skip : (w i : ℕ) → i < length ps → (get_or ps i 0 ≡ w → ⊥) → place_from (i + 1) w (drop (i + 1) ps) ≡ place_from i w (drop i ps)
  place_skip w i l ne =
      let q : suc i ≡ i + 1 = omega arith in
      sym (ap (place_from i w) (drop_more ps i 0 l) ∙ cond-false _ _ _ (ne_eqb w (get_or ps i 0) (λ e. ne (sym e))) ∙ ap (λ j. place_from j w (drop (i + 1) ps)) q)

  pub place_hit : (w i : ℕ) → i < length ps → get_or ps i 0 ≡ w → place_from i w (drop i ps) ≡ Some i
  place_hit w i l e = ap (place_from i w) (drop_more ps i 0 l) ∙ cond-true _ _ _ (eq-eqb w (get_or ps i 0) (sym e))

  pub place_end : (w i : ℕ) → length ps ≤ i → place_from i w (drop i ps) ≡ None
  place_end w i l = ap (place_from i w) (drop_all i ps l)

  -- the lowest place whose password stands at an earlier place too
  repeat_step : (i : ℕ) → i < length ps
      → repeat_from ps (length ps - i) i ≡ cond (not (list_any (λ p. eqb p (get_or ps i 0)) (take i ps))) (repeat_from ps (length ps - (i + 1)) (i + 1)) (Some i)
  repeat_step i l =
      let q : length ps - i ≡ suc (length ps - (i + 1)) = omega arith in
      let s : suc i ≡ i + 1 = omega arith in
      ap (λ n. repeat_from ps n i) q
      ∙ ap (λ b. cond b (repeat_from ps (length ps - (i + 1)) (suc i)) (Some i)) (first_at (get_or ps i 0) i 0 i ps (omega arith) l refl)
      ∙ ap (λ j. cond (not (list_any (λ p. eqb p (get_or ps i 0)) (take i ps))) (repeat_from ps (length ps - (i + 1)) j) (Some i)) s

  pub repeat_skip : (i : ℕ) → i < length ps → list_any (λ p. eqb p (get_or ps i 0)) (take i ps) ≡ false
      → repeat_from ps (length ps - (i + 1)) (i + 1) ≡ repeat_from ps (length ps - i) i
  repeat_skip i l h = sym (repeat_step i l ∙ cond-true _ _ _ (ap not h))

  pub repeat_hit : (i : ℕ) → i < length ps → list_any (λ p. eqb p (get_or ps i 0)) (take i ps) ≡ true → Some i ≡ repeat_from ps (length ps - i) i
  repeat_hit i l h = sym (repeat_step i l ∙ cond-false _ _ _ (ap not h))

-- a step of the search for a password that stands twice
pub ruleset repeat_steps = (repeat_skip, repeat_hit)
