-- A console to try: its lines as one statement about the rules. Each line begins anew.
use Rattle.std.specs.Prelude.{◌≡◌, ℕ, ◌^◌, Bool, true, false, List, [], ◌∷◌, map, replicate, Some}
use Rattle.vocabulary.specs.declared.parameter.Parameter.{Parameter}
use Rattle.vocabulary.specs.declared.access.Access.TheVariants.{Read, Write, Fetch}
use Rattle.vocabulary.specs.declared.access.Right.{Right}
use Rattle.vocabulary.specs.declared.access.Right.TheVariants as right
use Rattle.vocabulary.specs.Refusals.{by_table, by_unit}
use Rattle.one_way.specs.OneWay.{drill}
use Rattle.memory.specs.Kinds.{bytes_pages, ram_effect}
use Rattle.rules.specs.Boot.{Row, field_of_rows, table_read, boot_rule}
use Rattle.rules.specs.Console.{Setting, create, turn, Request, activate, visit, grant, revoke, derive, rekey, Call, exec, app, done, value, visited, Answer, refused, accepted}
use Rattle.rules.specs.Domains.{Fields, permits}
use Rattle.rules.specs.LookUp.{passwords_of}
use Rattle.rules.specs.Runs.{Run, state, answer, answers_on, run_on}

-- drill and 16,384 zero bytes of RAM, with the fields of these rows
unfoldable pub drill_and_ram : List Row → Setting
drill_and_ram ws =
    record {
      machine = record { way = drill; effect = ram_effect 16384; field = field_of_rows ws };
      boot_page = (bytes_pages (replicate 16384 0)).page;
    }

abbrev pub row : ℕ → ℕ → ℕ → ℕ → Row
row c x f n = record { context = c; right = x; first = f; count = n }

abbrev pub low : ℕ → Parameter
low n = record { high = 0; low = n }

-- answers: accepted, a value, and a refusal of the table at place 0
abbrev pub accepts : Answer
accepts = accepted done

abbrev pub gives : ℕ → Answer
gives n = accepted (value n)

abbrev pub refuses : ℕ → Answer
refuses n = refused (by_table n 0)

-- ---- the console

abbrev pub worked_table : List ℕ
worked_table = 0 ∷ 1 ∷ 5 ∷ 1 ∷ 1 ∷ 1 ∷ 5 ∷ 1 ∷ 1 ∷ 2 ∷ 5 ∷ 1 ∷ 2 ∷ 4 ∷ 5 ∷ 1 ∷ []

abbrev pub worked_rows : List Row
worked_rows = row 0 1 5 1 ∷ row 1 1 5 1 ∷ row 1 2 5 1 ∷ row 2 4 5 1 ∷ []

abbrev pub worked : Setting
worked = drill_and_ram worked_rows

abbrev pub worked_field : Fields
worked_field = worked.machine.field

-- domain d permits right x on page 5
abbrev pub on_page_5 : ℕ → Right → Bool
on_page_5 d x = permits worked_field d x 5

-- its apps, by their slots
abbrev pub slot_a : ℕ
slot_a = 0

abbrev pub slot_b : ℕ
slot_b = 1

abbrev pub slot_c : ℕ
slot_c = 2

abbrev pub creates : List Call
creates =
    exec (create slot_a (low 10) 100 (7 ∷ 5 ∷ 2 ∷ []))
    ∷ exec (create slot_b (low 20) 80 (0 ∷ 8 ∷ 8 ∷ []))
    ∷ exec (create slot_c (low 1) 500 (4 ∷ []))
    ∷ []

-- the three created, and then a turn of slot s with these calls, the oldest first
abbrev pub three : Run
three = run_on [] creates

abbrev pub in_turn_of : ℕ → List Request → Run
in_turn_of s qs = run_on (exec (turn s) ∷ three) (map app qs)

-- after them the app in slot s calls q and has answer a
abbrev pub Says : ℕ → List Request → Request → Answer → Type 0
Says s qs q a = answer worked (in_turn_of s qs) (app q) ≡ a

-- the passwords in slot s after the run
abbrev pub passwords_held : Run → ℕ → List ℕ
passwords_held r s = passwords_of ((state worked r).slots s)

abbrev pub visit_120 : Request
visit_120 = visit 120 (Write 1280 9 ∷ Read 1280 ∷ Fetch 1280 ∷ []) (1 ∷ 2 ∷ 3 ∷ [])

pub record WorkedConsole : Type 0 where
  -- the table is read, and the three are created
  pub boots : boot_rule worked_table ≡ table_read worked_rows
  pub created : answers_on worked [] creates ≡ accepts ∷ accepts ∷ accepts ∷ []
  -- page 5 has fields 3, 2 and 4; there domain 2 permits reading and writing, domain 5 reading and fetching
  pub fields : (worked_field right.Read 5 ≡ 3) × (worked_field right.Write 5 ≡ 2) × (worked_field right.Execute 5 ≡ 4)
  pub domain_2 : (on_page_5 2 right.Read ≡ true) × (on_page_5 2 right.Write ≡ true) × (on_page_5 2 right.Execute ≡ false)
  pub domain_5 : (on_page_5 5 right.Read ≡ true) × (on_page_5 5 right.Write ≡ false) × (on_page_5 5 right.Execute ≡ true)
  -- A holds 100, 110, 120; B holds 80, 100, 120
  pub chains : (passwords_held three slot_a ≡ 100 ∷ 110 ∷ 120 ∷ []) × (passwords_held three slot_b ≡ 80 ∷ 100 ∷ 120 ∷ [])
  -- both hold 100, and each opens its own
  pub own_first : Says slot_a [] (activate 100) (gives 7) × Says slot_b [] (activate 100) (gives 8)
  -- what the own chain lacks is found in another, in the lowest slot
  pub then_others : Says slot_b [] (activate 110) (gives 5) × Says slot_c [] (activate 120) (gives 2)
  pub derives : Says slot_a [] (derive 110 1) (gives 120) × Says slot_a [] (derive 110 2) (refuses 12) × Says slot_a [] (derive 80 0) (refuses 11)
  pub grants :
      Says slot_a [] (grant 100 2 0) (gives 3) × Says slot_a [] (grant 100 2 3) (refused (by_table 15 2))
      × Says slot_a [] (grant 100 0 0) (refuses 12) × Says slot_a [] (grant 110 2 0) (refuses 13)
  -- and again
  pub revokes : Says slot_a [] (revoke 100 1 2) (gives 1) × Says slot_a (revoke 100 1 2 ∷ []) (revoke 100 1 2) (gives 1)
  -- A rekeys, and then back to its first parameter
  pub rekeys :
      Says slot_a [] (rekey 100 (low 30)) accepts
      × (passwords_held (in_turn_of slot_a (rekey 100 (low 30) ∷ [])) slot_a ≡ 100 ∷ 130 ∷ 160 ∷ [])
      × Says slot_a (rekey 100 (low 30) ∷ []) (activate 110) (refuses 10)
      × Says slot_a (rekey 100 (low 30) ∷ []) (rekey 100 (low 10)) accepts
      × (passwords_held (in_turn_of slot_a (rekey 100 (low 30) ∷ rekey 100 (low 10) ∷ [])) slot_a ≡ 100 ∷ 110 ∷ 120 ∷ [])
  -- two accesses made, a fault at the third; the third byte of the buffer and the register stay
  pub visits :
      Says slot_a [] visit_120 (accepted (visited 2 (Some (by_unit 17 2)) (0 ∷ 9 ∷ 3 ∷ [])))
      × ((state worked (in_turn_of slot_a (visit_120 ∷ []))).register.domain ≡ 7)
  -- in a chain of 1, 2^63 + 1 and 1 the third password repeats the first
  pub repeats :
      (answer worked three (exec (create 3 (low (2 ^ 63)) 1 (1 ∷ 1 ∷ []))) ≡ accepts)
      × (answer worked three (exec (create 3 (low (2 ^ 63)) 1 (1 ∷ 1 ∷ 1 ∷ []))) ≡ refused (by_table 8 2))
