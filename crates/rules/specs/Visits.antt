-- One access, and a visit's accesses one after the other.
use Rattle.std.specs.Prelude.{ℕ, suc, cond, List, [], ◌∷◌, Some, None, Option, nat_lt}
use Rattle.vocabulary.specs.declared.access.Access.{Access}
use Rattle.vocabulary.specs.declared.access.Access.TheVariants.{Read, Write, Fetch}
use Rattle.vocabulary.specs.Accesses.{address_of, right_of}
use Rattle.vocabulary.specs.Refusals.{Reason, by_unit}
use Rattle.memory.specs.Pages.{Page, Effect, page_of, byte_in, written_in}
use Rattle.rules.specs.Console.{Reply, done, value}
use Rattle.rules.specs.Domains.{Fields, permits}

-- the number of the fault, if there is one
abbrev pub fault_of : Fields → ℕ → Access → Option ℕ
fault_of field d a =
    cond (nat_lt (address_of a) 16384) (cond (permits field d (right_of a) (page_of (address_of a))) None (Some 17)) (Some 16)

-- the byte that an access gives: of a write 0
abbrev pub byte_of : (ℕ → Page) → Access → ℕ
byte_of m (Read a) = byte_in m a
byte_of m (Write a b) = 0
byte_of m (Fetch a) = byte_in m a

abbrev pub pages_after : Effect → (ℕ → Page) → Access → ℕ → Page
pages_after e m (Read a) = m
pages_after e m (Write a b) = written_in e m a b
pages_after e m (Fetch a) = m

-- outside a visit a write answers only that it was accepted
abbrev pub reply_to : (ℕ → Page) → Access → Reply
reply_to m (Read a) = value (byte_in m a)
reply_to m (Write a b) = done
reply_to m (Fetch a) = value (byte_in m a)

-- the accesses made, the fault that ended them, the bytes that they gave, and the pages that they left
pub record Visit : Type 0 where
  pub made : ℕ
  pub fault : Option Reason
  pub bytes : List ℕ
  pub left : ℕ → Page

-- an access made, and then the rest of the visit
abbrev pub made_first : ℕ → Visit → Visit
made_first b v = record { made = suc v.made; fault = v.fault; bytes = b ∷ v.bytes; left = v.left }

-- the access number i has a fault, which ends the visit; or the visit goes on
abbrev pub unless_fault : Option ℕ → ℕ → (ℕ → Page) → Visit → Visit
unless_fault None i m v = v
unless_fault (Some n) i m v = record { made = 0; fault = Some (by_unit n i); bytes = []; left = m }

-- the accesses in list order, the first of them number i, under domain d, up to the first fault
abbrev pub visiting : Fields → Effect → List Access → ℕ → (ℕ → Page) → ℕ → Visit
visiting field e [] d m i = record { made = 0; fault = None; bytes = []; left = m }
visiting field e (a ∷ l) d m i =
    unless_fault (fault_of field d a) i m (made_first (byte_of m a) (visiting field e l d (pages_after e m a) (suc i)))
