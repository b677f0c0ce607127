use Rattle.std.proofs.Common.{◌≡◌, ◌-◌, drop, None}
use Rattle.rules.specs.LookUp.{place_from, place_of, search_slots}
use Rattle.table.specs.Model.{slot_of, slots_of}
use Rattle.table.proofs.slots.SlotTable.elsewhere.Given as goal

-- nothing was found yet, and the rest of the search is the whole search
abbrev pub invariant-search : goal.invariant-search
invariant-search l = record {
  rest : search_slots (slots_of l.self) l.w (8 - l.slot) l.slot ≡ search_slots (slots_of l.self) l.w 8 0;
  nothing : l.opened ≡ None;
}

abbrev pub invariant-loop-place : goal.invariant-loop-place
invariant-loop-place l = record {
  rest : place_from l.place l.w (drop l.place l.password-items) ≡ place_of l.w (slot_of l.app).passwords;
  nothing : l.opened ≡ None;
}
