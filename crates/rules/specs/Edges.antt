-- The edges of the rules: each limit, and the first number past it, as one statement.
use Rattle.std.specs.Prelude.{◌≡◌, ℕ, zero, suc, ◌^◌, true, false, List, [], ◌∷◌, ◌++◌, replicate, None}
use Rattle.vocabulary.specs.declared.access.Access.TheVariants.{Read}
use Rattle.vocabulary.specs.declared.access.Right.TheVariants as right
use Rattle.vocabulary.specs.Refusals.{by_reader, by_unit, by_turn}
use Rattle.rules.specs.Boot.{Row, table_refused, table_read, boot_rule}
use Rattle.rules.specs.Console.{Setting, create, turn, Request, activate, visit, grant, access, Call, exec, app, visited, Answer, refused, accepted}
use Rattle.rules.specs.Domains.{Fields, permits}
use Rattle.rules.specs.Runs.{Run, answer, answers_on, run_on}
use Rattle.rules.specs.Worked.{drill_and_ram, row, low, accepts, gives, refuses, slot_a, Says}

-- ---- a console on which context 15 may read every page

abbrev pub edge_rows : List Row
edge_rows = row 15 1 0 64 ∷ []

abbrev pub edge : Setting
edge = drill_and_ram edge_rows

abbrev pub edge_field : Fields
edge_field = edge.machine.field

-- an app in slot 0 with the passwords 100 and 101, and one in slot 7 with the password 200
abbrev pub edge_creates : List Call
edge_creates = exec (create 0 (low 1) 100 (2 ^ 15 ∷ 0 ∷ [])) ∷ exec (create 7 (low 1) 200 (3 ∷ [])) ∷ []

abbrev pub two : Run
two = run_on [] edge_creates

-- in a turn of slot 0 the call q has answer a
abbrev pub EdgeSays : Request → Answer → Type 0
EdgeSays q a = answer edge (exec (turn 0) ∷ two) (app q) ≡ a

-- creating an app with these domains in slot s has answer a
abbrev pub Creating : ℕ → List ℕ → Answer → Type 0
Creating s ds a = answer edge two (exec (create s (low 1) 300 ds)) ≡ a

-- n reads of address 0, into a buffer of m bytes
abbrev pub reads : ℕ → ℕ → Request
reads n m = visit 100 (replicate n (Read 0)) (replicate m 7)

-- a table of n such rows
abbrev pub table_of : ℕ → List ℕ → List ℕ
table_of zero bs = []
table_of (suc n) bs = bs ++ table_of n bs

abbrev pub TableGives : List ℕ → ℕ → ℕ → Type 0
TableGives bs n i = boot_rule bs ≡ table_refused (by_reader n i)

pub record Edges : Type 0 where
  pub created : answers_on edge [] edge_creates ≡ accepts ∷ accepts ∷ []
  -- a right of context 15 counts, and is no right of context 14
  pub last_context :
      (edge_field right.Read 63 ≡ 2 ^ 15) × (permits edge_field (2 ^ 15) right.Read 63 ≡ true)
      × (permits edge_field (2 ^ 14) right.Read 63 ≡ false)
  pub contexts : EdgeSays (grant 100 1 15) (gives (2 ^ 15)) × EdgeSays (grant 100 1 16) (refuses 14)
  -- slot 7, the last, is found from slot 0
  pub slots : EdgeSays (activate 200) (gives 3) × Creating 8 (1 ∷ []) (refuses 4)
  pub domains : Creating 1 (replicate 8 1) accepts × Creating 1 (replicate 9 1) (refuses 6) × Creating 1 [] (refuses 6)
  -- address 16,383 is the last; where it may not be read it is a fault of another number
  pub addresses :
      EdgeSays (access (Read 16383)) (gives 0) × EdgeSays (access (Read 16384)) (refused (by_unit 16 0))
      × Says slot_a [] (access (Read 16383)) (refused (by_unit 17 0)) × Says slot_a [] (access (Read 16384)) (refused (by_unit 16 0))
  pub accesses : EdgeSays (reads 64 64) (accepted (visited 64 None (replicate 64 0))) × EdgeSays (reads 65 65) (refused (by_turn 18 0))
  -- a buffer that is exact, one that is longer, and one that is short by a byte
  pub buffers :
      EdgeSays (reads 2 2) (accepted (visited 2 None (0 ∷ 0 ∷ []))) × EdgeSays (reads 2 3) (accepted (visited 2 None (0 ∷ 0 ∷ 7 ∷ [])))
      × EdgeSays (reads 2 1) (refused (by_turn 19 0))
  -- 1,024 bytes, 1,028 bytes, 6 bytes, and none
  pub table_lengths :
      (boot_rule (table_of 256 (0 ∷ 1 ∷ 0 ∷ 1 ∷ [])) ≡ table_read (replicate 256 (row 0 1 0 1)))
      × TableGives (table_of 257 (0 ∷ 1 ∷ 0 ∷ 1 ∷ [])) 1 0
      × TableGives (0 ∷ 1 ∷ 5 ∷ 1 ∷ 1 ∷ 1 ∷ []) 1 0
      × (boot_rule [] ≡ table_read [])
  -- the last page, one page too many, no such right, no pages, no such context
  pub rows :
      (boot_rule (0 ∷ 1 ∷ 63 ∷ 1 ∷ []) ≡ table_read (row 0 1 63 1 ∷ []))
      × TableGives (0 ∷ 1 ∷ 63 ∷ 2 ∷ []) 2 0 × TableGives (0 ∷ 3 ∷ 0 ∷ 1 ∷ []) 2 0 × TableGives (0 ∷ 1 ∷ 0 ∷ 0 ∷ []) 2 0
      × (boot_rule (15 ∷ 1 ∷ 0 ∷ 64 ∷ []) ≡ table_read edge_rows) × TableGives (16 ∷ 1 ∷ 0 ∷ 1 ∷ []) 2 0
  -- the first row that is wrong decides; each is asked for what it names, and then for its order
  pub order :
      TableGives (0 ∷ 1 ∷ 5 ∷ 1 ∷ 0 ∷ 1 ∷ 4 ∷ 1 ∷ []) 3 1
      × TableGives (0 ∷ 1 ∷ 5 ∷ 1 ∷ 0 ∷ 1 ∷ 5 ∷ 1 ∷ 0 ∷ 3 ∷ 4 ∷ 1 ∷ []) 2 2
      × TableGives (0 ∷ 1 ∷ 5 ∷ 1 ∷ 0 ∷ 1 ∷ 4 ∷ 1 ∷ 0 ∷ 3 ∷ 4 ∷ 1 ∷ []) 3 1
