-- An access: the address of its byte, and the right that it uses.
use Rattle.std.specs.Prelude.{◌≡◌, ℕ, Option, Some, None, Result, Ok, Err, cond, ◌==◌}
use Rattle.vocabulary.specs.declared.access.Access.{Access}
use Rattle.vocabulary.specs.declared.access.Access.TheVariants.{Read, Write, Fetch}
use Rattle.vocabulary.specs.declared.access.Right.{Right}
use Rattle.vocabulary.specs.declared.access.Right.TheVariants as right
use Rattle.vocabulary.specs.declared.access.UnknownRight.{UnknownRight}

abbrev pub address_of : Access → ℕ
address_of (Read a) = a
address_of (Write a b) = a
address_of (Fetch a) = a

-- a fetch uses the execute right
abbrev pub right_of : Access → Right
right_of (Read a) = right.Read
right_of (Write a b) = right.Write
right_of (Fetch a) = right.Execute

-- the number of a right in a boot table
abbrev pub right_number : Right → ℕ
right_number right.Read = 1
right_number right.Write = 2
right_number right.Execute = 4

-- the right that a number stands for
abbrev pub right_numbered : ℕ → Option Right
right_numbered n =
    cond (n == 1) (Some right.Read) (cond (n == 2) (Some right.Write) (cond (n == 4) (Some right.Execute) None))

-- a number is taken for its right, or handed back
abbrev pub NamesRight : ℕ → Result Right UnknownRight → Type 0
NamesRight n (Ok x) = right_numbered n ≡ Some x
NamesRight n (Err e) = (right_numbered n ≡ None) × (e.0 ≡ n)
