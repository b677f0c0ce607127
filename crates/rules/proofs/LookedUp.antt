-- The look-up finds w in the own chain, else in the lowest slot whose chain holds it, else not at all.
use Rattle.std.proofs.Common.{◌≡◌, ℕ, Some, None, Option, refl, ap, ◌∙◌, subst, inl, inr, arith}
use Rattle.vocabulary.specs.declared.found.Found.{Found}
use Rattle.vocabulary.specs.Refusals.{by_table}
use Rattle.rules.specs.Calls.{activate_done}
use Rattle.rules.specs.Console.{Setting, Slot, activate, app, value, accepted, answer_of, need}
use Rattle.rules.specs.History.{Holder, holder, chain_of}
use Rattle.rules.specs.Isolation.{register_of, Stands, Lacks, Finds, LookedUp, passwords_in}
use Rattle.rules.specs.LookUp.{place_of, passwords_of, look_up}
use Rattle.rules.specs.Runs.{Run, state, answer}
use Rattle.rules.proofs.Search.{look_own, look_others, search_first, search_none}
use Rattle.rules.proofs.Sound.{Agree, turn_same, sound, kept, kept_domain}
use Rattle.rules.proofs.Turns.{slot_below, turns_have_apps}
use Rattle.rules.proofs.Walk.{activate_is}

module _ (S : Setting) where
  stands_place : (r : Run) (w t : ℕ) (Y : Holder) (i : ℕ) → Stands S r w t Y i → place_of w (passwords_in S r t) ≡ Some i
  stands_place r w t Y i (e, p) =
      let h = kept S r t Y e in
      ap (place_of w) (ap passwords_of h.1 ∙ h.2.passwords) ∙ p

  lacks_place : (r : Run) (w t : ℕ) → Lacks S r w t → place_of w (passwords_in S r t) ≡ None
  lacks_place r w t lacks = go ((state S r).slots t) (holder S r t) refl (sound S r t)
    where
      none : (Y : Holder) → holder S r t ≡ Some Y → (x : Option ℕ) → place_of w (chain_of S Y) ≡ x → x ≡ None
      none Y e None p = refl
      none Y e (Some i) p = absurd (lacks Y i (e, p))

      go : (o : Option Slot) (x : Option Holder) → holder S r t ≡ x → Agree S (register_of (state S r) t) o x → place_of w (passwords_of o) ≡ None
      go None x e a = refl
      go (Some σ) None e a = absurd a
      go (Some σ) (Some Y) e a = ap (place_of w) a.passwords ∙ none Y e (place_of w (chain_of S Y)) refl

  module _ (r : Run) (s w : ℕ) where
    sl : ℕ → Option Slot
    sl = (state S r).slots

    finds : (t : ℕ) (Y : Holder) (i : ℕ) → Finds S r s w t Y i → look_up (state S r).slots s w ≡ Some (record { slot = t; place = i })
    unfolding sl
    finds t Y i (z, inl q) = subst (λ u. look_up sl u w ≡ Some (record { slot = t; place = i })) q (look_own sl w t i (stands_place r w t Y i z))
    finds t Y i (z, inr (n, g)) =
        look_others sl w s (lacks_place r w s n)
        ∙ search_first sl w 8 0 t i (omega arith) (slot_below S r t Y z.0) (stands_place r w t Y i z) (λ u h. lacks_place r w u (g u h))

    finds_none : ((t : ℕ) → Lacks S r w t) → look_up (state S r).slots s w ≡ None
    unfolding sl
    finds_none g = look_others sl w s (lacks_place r w s (g s)) ∙ search_none sl w 8 0 (λ t. lacks_place r w t (g t))

  pub looked_up : LookedUp S
  unfolding answer
  looked_up r s e w =
      let X = turns_have_apps S r s e in
      let h = kept S r s X.0 X.1 in
      let found : (x : Option Found) → look_up (state S r).slots s w ≡ x → answer S r (app (activate w)) ≡ answer_of (need x (by_table 10 0) (λ f. activate_done (state S r) f)) =
      λ x l. ap answer_of (activate_is S.machine (state S r) s h.0 (turn_same S r ∙ e) h.1 w x l) in (
        λ t Y i z. found (Some (record { slot = t; place = i })) (finds r s w t Y i z) ∙ ap (λ d. accepted (value d)) (kept_domain S r t Y z.0.0 i),
        λ g. found None (finds_none r s w g),
      )
