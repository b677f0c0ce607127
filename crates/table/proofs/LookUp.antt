-- The look-up over the table's slots.
use Rattle.std.proofs.Common.{◌≡◌, ℕ, suc, ◌+◌, ◌-◌, ◌<◌, length, get_or, Some, None, Option, sym, ap, ◌∙◌, arith}
use Rattle.std.proofs.lemmas.List.{get_or_default}
use Rattle.rules.specs.Console as rules
use Rattle.table.proofs.Search.{place_skip, place_hit, place_end}
use Rattle.table.specs.declared.slot.Slot.{Slot}
use Rattle.table.specs.declared.slots.SlotTable.{SlotTable}
use Rattle.table.specs.Model.{entry_of, slots_of}
use Rattle.rules.specs.LookUp.{place_of, passwords_of, found_in, or_else, search_slots}

-- the slot that the code reads at place i of the table
pub entry_at : (t : SlotTable) (i : ℕ) (d o : Option Slot) → i < length t.slots → get_or t.slots i d ≡ o → slots_of t i ≡ entry_of o
entry_at t i d o l e = ap entry_of (get_or_default t.slots i None d l ∙ e)

module _ (f : ℕ → Option rules.Slot) (w : ℕ) where
  search_step : (s : ℕ) → s < 8 → search_slots f w (8 - s) s ≡ or_else (found_in s (place_of w (passwords_of (f s)))) (search_slots f w (8 - (s + 1)) (s + 1))
  search_step s l =
      let q : 8 - s ≡ suc (8 - (s + 1)) = omega arith in
      let n : suc s ≡ s + 1 = omega arith in
      ap (λ n. search_slots f w n s) q ∙ ap (λ j. or_else (found_in s (place_of w (passwords_of (f s)))) (search_slots f w (8 - (s + 1)) j)) n

  -- a slot that lacks w is passed
  pub pass : (s : ℕ) → s < 8 → place_of w (passwords_of (f s)) ≡ None → search_slots f w (8 - (s + 1)) (s + 1) ≡ search_slots f w (8 - s) s
  pass s l h = sym (search_step s l ∙ ap (λ o. or_else (found_in s o) (search_slots f w (8 - (s + 1)) (s + 1))) h)

  pub hit : (s i : ℕ) → s < 8 → Some i ≡ place_of w (passwords_of (f s)) → Some (record { slot = s; place = i }) ≡ search_slots f w (8 - s) s
  hit s i l h = ap (λ o. or_else (found_in s o) (search_slots f w (8 - (s + 1)) (s + 1))) h ∙ sym (search_step s l)

  pub end : (s : ℕ) → s ≡ 8 → None ≡ search_slots f w (8 - s) s
  end s q = sym (ap (λ n. search_slots f w (8 - n) n) q)

-- a step of the look-up's loops, over the slots and in a chain
pub ruleset look_up_steps = (entry_at, pass, hit, end, place_skip, place_hit, place_end)
