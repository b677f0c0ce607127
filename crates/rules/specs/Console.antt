-- The console: what is fixed, what calls change, the calls, and what a rule decides.
use Rattle.std.specs.Prelude.{ℕ, Bool, true, false, cond, List, Some, None, Option, ◌==◌}
use Rattle.vocabulary.specs.declared.parameter.Parameter.{Parameter}
use Rattle.vocabulary.specs.declared.access.Access.{Access}
use Rattle.vocabulary.specs.Refusals.{Reason}
use Rattle.one_way.specs.OneWay.{Meaning}
use Rattle.memory.specs.Pages.{Page, Effect}
use Rattle.rules.specs.Domains.{Fields}

-- what no call changes: the one-way function, the memory's effect rule and the page fields
pub record Machine : Type 0 where
  pub way : Meaning
  pub effect : Effect
  pub field : Fields

-- a machine, and what its memory holds at boot
pub record Setting : Type 0 where
  pub machine : Machine
  pub boot_page : ℕ → Page

-- an app's register: the domain that it works in
pub record Register : Type 0 where
  pub domain : ℕ

abbrev pub holding : ℕ → Register
holding d = record { domain = d }

-- a taken slot: place 0 of its chain has the master password; the reach, which no rule asks for, is the union of its creation domains
pub record Slot : Type 0 where
  pub parameter : Parameter
  pub passwords : List ℕ
  pub domains : List ℕ
  pub saved : Register
  pub reach : ℕ

-- the slots, the register, the slot whose turn it is, and the pages
pub record Console : Type 0 where
  pub slots : ℕ → Option Slot
  pub register : Register
  pub turn_of : Option ℕ
  pub pages : ℕ → Page

-- ---- calls

pub data Executive : Type 0 where
  -- slot, parameter, master password, domains
  create : ℕ → Parameter → ℕ → List ℕ → Executive
  -- slot
  end : ℕ → Executive
  turn : ℕ → Executive
  close : Executive

pub data Request : Type 0 where
  -- password
  activate : ℕ → Request
  -- password, accesses, and the buffer as it is: its bytes count as an argument
  visit : ℕ → List Access → List ℕ → Request
  -- master password, place, context
  grant : ℕ → ℕ → ℕ → Request
  revoke : ℕ → ℕ → ℕ → Request
  -- password, number of places
  derive : ℕ → ℕ → Request
  -- master password, new parameter
  rekey : ℕ → Parameter → Request
  access : Access → Request

-- a call of the executive, or of the app whose turn it is
pub data Call : Type 0 where
  exec : Executive → Call
  app : Request → Call

-- ---- answers

-- accepted and no more; a domain, password or byte; of a visit the number of accesses made, the fault and the buffer afterwards
pub data Reply : Type 0 where
  done : Reply
  value : ℕ → Reply
  visited : ℕ → Option Reason → List ℕ → Reply

pub data Answer : Type 0 where
  refused : Reason → Answer
  accepted : Reply → Answer

-- what a rule decides: a refusal, which leaves the console as it is, or the console afterwards and the reply
pub data Outcome : Type 0 where
  refuse : Reason → Outcome
  accept : Console → Reply → Outcome

abbrev pub answer_of : Outcome → Answer
answer_of (refuse f) = refused f
answer_of (accept k a) = accepted a

abbrev pub after : Console → Outcome → Console
after k (refuse f) = k
after k (accept k' a) = k'

-- the answer to a call that the turns do not allow, which no question gives
abbrev pub out_of_turn : Reason
out_of_turn = record { number = 0; layer = 0; place = 0 }

-- ---- questions: the first "no" decides

abbrev pub ask : Bool → Reason → Outcome → Outcome
ask b f o = cond b o (refuse f)

-- there must be one, and the rest goes on with it
abbrev pub need : {A : Type 0} → Option A → Reason → (A → Outcome) → Outcome
need None f g = refuse f
need (Some a) f g = g a

-- there must be none; the refusal names it
abbrev pub unless : Option ℕ → (ℕ → Reason) → Outcome → Outcome
unless None f o = o
unless (Some i) f o = refuse (f i)

abbrev pub is_none : {A : Type 0} → Option A → Bool
is_none None = true
is_none (Some a) = false

-- the number is i
abbrev pub is_at : Option ℕ → ℕ → Bool
is_at None i = false
is_at (Some j) i = j == i
