-- What a refusal says: the number of the question, the layer that refuses, and the place.
use Rattle.std.specs.Prelude.{ℕ}
use Rattle.vocabulary.specs.declared.refusal.Layer.{Layer}
use Rattle.vocabulary.specs.declared.refusal.Layer.TheVariants.{Reader, Table, Unit as ProtectionUnit, Turn}
use Rattle.vocabulary.specs.declared.refusal.Refusal.{Refusal}
use Rattle.vocabulary.specs.declared.refusal.Refusal.TheVariants.{TableLength, BadRow, RowOrder, NoSuchSlot, SlotTaken, DomainCount, HighHalf, Repeat, SlotFree, NotFound, NotOwn, NoSuchPlace, NotMaster, NoSuchContext, NotHeld, NoSuchAddress, NotPermitted, TooManyAccesses, ShortBuffer}

pub record Reason : Type 0 where
  pub number : ℕ
  pub layer : ℕ
  pub place : ℕ

abbrev pub layer_number : Layer → ℕ
layer_number Reader = 1
layer_number Table = 2
layer_number ProtectionUnit = 3
layer_number Turn = 4

-- refused by each layer: the number, and the place
abbrev pub by_reader : ℕ → ℕ → Reason
by_reader n i = record { number = n; layer = 1; place = i }

abbrev pub by_table : ℕ → ℕ → Reason
by_table n i = record { number = n; layer = 2; place = i }

abbrev pub by_unit : ℕ → ℕ → Reason
by_unit n i = record { number = n; layer = 3; place = i }

abbrev pub by_turn : ℕ → ℕ → Reason
by_turn n i = record { number = n; layer = 4; place = i }

abbrev pub reason : Refusal → Reason
reason TableLength = by_reader 1 0
reason (BadRow i) = by_reader 2 i
reason (RowOrder i) = by_reader 3 i
reason NoSuchSlot = by_table 4 0
reason SlotTaken = by_table 5 0
reason DomainCount = by_table 6 0
reason HighHalf = by_table 7 0
reason (Repeat i) = by_table 8 i
reason SlotFree = by_table 9 0
reason NotFound = by_table 10 0
reason NotOwn = by_table 11 0
reason NoSuchPlace = by_table 12 0
reason NotMaster = by_table 13 0
reason NoSuchContext = by_table 14 0
reason (NotHeld i) = by_table 15 i
reason (NoSuchAddress i) = by_unit 16 i
reason (NotPermitted i) = by_unit 17 i
reason TooManyAccesses = by_turn 18 0
reason ShortBuffer = by_turn 19 0
