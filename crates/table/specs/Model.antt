-- The table in the rules' words.
use Rattle.std.specs.Prelude.{◌≡◌, ℕ, List, length, take, Some, None, Ok, Err, Option, Result, IfOk, IfErr, slice_index_or, nat_lt}
use Rattle.vocabulary.specs.declared.found.Found.{Found}
use Rattle.vocabulary.specs.declared.refusal.Refusal.{Refusal}
use Rattle.vocabulary.specs.declared.refusal.Refusal.TheVariants.{NotFound}
use Rattle.vocabulary.specs.declared.parameter.Parameter.{Parameter}
use Rattle.vocabulary.specs.Refusals.{by_table}
use Rattle.one_way.specs.Chains.{chain}
use Rattle.one_way.specs.OneWay.{Meaning}
use Rattle.memory.specs.Pages.{Page}
use Rattle.rules.specs.Console as rules
use Rattle.rules.specs.Console.{Register, holding, Console, Answer, Outcome, answer_of, after, ask, need, out_of_turn}
use Rattle.rules.specs.Calls.{is_master, admit, turn_rule, close_rule}
use Rattle.rules.specs.LookUp.{look_up, domain_at}
use Rattle.table.specs.declared.slot.Slot.{Slot}
use Rattle.table.specs.declared.slots.SlotTable.{SlotTable}
use Rattle.table.specs.declared.slots.Opened.{Opened}

abbrev pub slot_of : Slot → rules.Slot
slot_of s =
    record {
      parameter = s.parameter;
      passwords = take s.length s.passwords;
      domains = take s.length s.domains;
      saved = holding s.saved;
      reach = s.reach;
    }

abbrev pub entry_of : Option Slot → Option rules.Slot
entry_of None = None
entry_of (Some s) = Some (slot_of s)

abbrev pub slots_of : SlotTable → ℕ → Option rules.Slot
slots_of t i = entry_of (slice_index_or t.slots i None)

-- a console that has these slots, and anything else
abbrev pub console_with : (ℕ → Option rules.Slot) → Register → Option ℕ → (ℕ → Page) → Console
console_with f g t m = record { slots = f; register = g; turn_of = t; pages = m }

-- where a password was found, if it was
abbrev pub found_in : Result Opened Refusal → Option Found
found_in (Ok x) = Some x.found
found_in (Err e) = None

abbrev pub found_at : Option Opened → Option Found
found_at (Some x) = Some x.found
found_at None = None

-- what the look-up for slot s answers of w: where it stands and the domain there, or that no chain has it
pub record Finds (f : ℕ → Option rules.Slot) (s w : ℕ) (r : Result Opened Refusal) : Type 0 where
  pub found : found_in r ≡ look_up f s w
  pub domain : IfOk r (λ x. x.domain ≡ domain_at f x.found.slot x.found.place)
  pub refusal : IfErr r (λ e. e ≡ NotFound)

-- rekey: the passwords that it makes, and its questions
abbrev pub new_passwords : Meaning → rules.Slot → ℕ → Parameter → List ℕ
new_passwords way σ w p = chain way.H p (length σ.passwords) w

abbrev pub rekey_asks : Meaning → rules.Slot → ℕ → Parameter → Outcome → Outcome
rekey_asks way σ w p o = ask (is_master σ w) (by_table 13 0) (admit way.greatest p (new_passwords way σ w p) o)

-- what is asked of the app in slot s, if there is one
abbrev pub in_slot : ℕ → (Console → rules.Slot → Outcome) → Console → Outcome
in_slot s rule k = ask (nat_lt s 8) (by_table 4 0) (need (k.slots s) (by_table 9 0) (λ σ. rule k σ))

-- the rule of a call of the app in slot s
abbrev pub in_turn : ℕ → (Console → rules.Slot → Outcome) → Console → Outcome
in_turn s rule k = need (k.slots s) out_of_turn (λ σ. rule k σ)

-- at every console that has slots f, a rule answers a
abbrev pub Answers : (ℕ → Option rules.Slot) → Answer → (Console → Outcome) → Type 0
Answers f a rule = (g : Register) (t : Option ℕ) (m : ℕ → Page) → a ≡ answer_of (rule (console_with f g t m))

-- there it leaves slots f', and all else as it is
abbrev pub Leaves : (ℕ → Option rules.Slot) → (ℕ → Option rules.Slot) → (Console → Outcome) → Type 0
Leaves f f' rule = (g : Register) (t : Option ℕ) (m : ℕ → Page) → console_with f' g t m ≡ after (console_with f g t m) (rule (console_with f g t m))

-- both: the rule's answer, and what it leaves
pub record Follows (f f' : ℕ → Option rules.Slot) (a : Answer) (rule : Console → Outcome) : Type 0 where
  pub answers : Answers f a rule
  pub leaves : Leaves f f' rule

-- there the rule of turn begins a turn of slot s with the register that the code gives, or leaves all as it is
abbrev pub turned : ℕ → Result ℕ Refusal → Console → Console
turned s (Ok d) k = record { slots = k.slots; register = holding d; turn_of = Some s; pages = k.pages }
turned s (Err e) k = k

abbrev pub Turns : (ℕ → Option rules.Slot) → Result ℕ Refusal → ℕ → Type 0
Turns f r s = (g : Register) (t : Option ℕ) (m : ℕ → Page) → turned s r (console_with f g t m) ≡ after (console_with f g t m) (turn_rule (console_with f g t m) s)

-- the rule of close ends a turn of slot s with register d, and leaves slots f'
abbrev pub Closes : (ℕ → Option rules.Slot) → (ℕ → Option rules.Slot) → ℕ → ℕ → Type 0
Closes f f' s d =
    (m : ℕ → Page) → console_with f' (holding 0) None m
    ≡ after (console_with f (holding d) (Some s) m) (need (f s) out_of_turn (λ σ. close_rule (console_with f (holding d) (Some s) m) s σ))
