-- The console of the code, as the rules see it, and what a call's contract says.
use Rattle.std.specs.Prelude.{◌≡◌, ℕ, List, Some, None, Ok, Err, Option, Result}
use Rattle.vocabulary.specs.declared.refusal.Refused.{Refused}
use Rattle.one_way.specs.declared.OneWay.{Ghosts as Function}
use Rattle.memory.specs.declared.Memory.{Ghosts as Memory}
use Rattle.rules.specs.Console as rules
use Rattle.rules.specs.Console.{Machine, holding, Call, Answer, refused, accepted, done, answer_of, after}
use Rattle.rules.specs.Calls.{rule}
use Rattle.table.specs.Model.{slots_of}
use Rattle.table.specs.declared.slots.SlotTable.{SlotTable}
use Rattle.unit.specs.declared.fields.PageFields.{PageFields}
use Rattle.guard.specs.declared.inspection.Inspection.{Inspection}
use Rattle.guard.specs.declared.console.Console.{Console}
use Rattle.guard.specs.declared.turn.Turn.{Turn}
use Rattle.rules.specs.Domains.{Fields}
use Rattle.rules.specs.Boot.{Booting, table_refused, table_read, field_of_rows, boot_rule}
use Rattle.rules.specs.Console.{Setting}
use Rattle.unit.specs.Model.{fields_of}

-- what the rules see: the machine, which no call changes, and the console
pub record View : Type 0 where
  pub machine : Machine
  pub console : rules.Console

-- a call is answered by its rule, and leaves what its rule leaves
pub record Obeys (before : View) (call : Call) (answer : Answer) (after_it : View) : Type 0 where
  pub answers : answer ≡ answer_of (rule before.machine before.console call)
  pub leaves : after_it.console ≡ after before.console (rule before.machine before.console call)
  pub keeps : after_it.machine ≡ before.machine

-- the fields that a boot table sets, where it is read
abbrev pub fields_in : Booting → Fields
fields_in (table_refused f) = λ x q. 0
fields_in (table_read ws) = field_of_rows ws

module _ {F M : Type 0} (function : Function F) (memory : Memory M) where
  -- a console with these fields and slots, this register, the slot whose turn it is, if any, and this memory
  abbrev pub seen : PageFields → SlotTable → ℕ → Option ℕ → M → View
  seen fields slots register running m =
      record {
        machine = record { way = function.meaning; effect = memory.effect m; field = fields_of fields };
        console = record { slots = slots_of slots; register = holding register; turn_of = running; pages = (memory.pages m).page };
      }

  -- between turns
  abbrev pub between : Console F M → View
  between c = seen c.fields.now c.slots.now 0 None c.memory

  -- in a turn
  abbrev pub during : Turn F M → View
  during t = seen t.fields.now t.app.slots.now t.register (Some t.app.own) t.memory

  -- what the executive looks at
  abbrev pub inspected : Inspection M → View
  inspected x = seen x.fields.now x.slots.now x.register x.running x.memory.now

  -- a turn that was opened, or the console that was given back
  abbrev pub opened : Result (Turn F M) (Refused (Console F M)) → View
  opened (Ok t) = during t
  opened (Err x) = between x.given_back

  -- the setting of a console that boots with this function, this table and this memory
  abbrev pub setting : List ℕ → M → Setting
  setting table m =
      record {
        machine = record { way = function.meaning; effect = memory.effect m; field = fields_in (boot_rule table) };
        boot_page = (memory.pages m).page;
      }

abbrev pub boot_answer : Booting → Answer
boot_answer (table_refused f) = refused f
boot_answer (table_read ws) = accepted done
