-- The turn of an app.
use Rattle.std.specs.Prelude.{◌≡◌, ℕ, Option}
use Rattle.rules.specs.Console as rules
use Rattle.table.specs.declared.running.Running.{Running}
use Rattle.table.specs.Model.{slots_of}

-- the slots of the table
abbrev pub slots_in : Running → ℕ → Option rules.Slot
slots_in t = slots_of t.slots.now

-- the turn of the same app, over the same table
abbrev pub SameTurn : Running → Running → Type 0
SameTurn t u = (u.own ≡ t.own) × (u.slots.ghost_name ≡ t.slots.ghost_name)
