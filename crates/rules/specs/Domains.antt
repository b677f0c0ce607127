-- Contexts, domains, and what a domain permits on a page.
use Rattle.std.specs.Prelude.{ℕ, ◌/◌, ◌%◌, ◌^◌, Bool, not, T, List, [], ◌∷◌, ◌==◌, bit_and, bit_or, bit_xor}
use Rattle.vocabulary.specs.declared.access.Right.{Right}
use Rattle.rules.specs.Lists.{Any}

-- a domain has context j where its bit of weight 2^j is set
abbrev pub has : ℕ → ℕ → Bool
has d j = d / 2 ^ j % 2 == 1

-- two numbers share a set bit
abbrev pub shares : ℕ → ℕ → Bool
shares d f = not (bit_and d f == 0)

-- a domain with context c added, and with it removed
unfoldable pub with_context : ℕ → ℕ → ℕ
with_context d c = bit_or d (2 ^ c)

unfoldable pub without_context : ℕ → ℕ → ℕ
without_context d c = bit_xor d (bit_and d (2 ^ c))

-- the union of domains, and of these with d
unfoldable pub union_from : ℕ → List ℕ → ℕ
union_from d [] = d
union_from d (e ∷ ds) = union_from (bit_or d e) ds

abbrev pub union : List ℕ → ℕ
union ds = union_from 0 ds

-- the page fields: by right and page, the contexts that hold the right on the page
abbrev pub Fields : Type 0
Fields = Right → ℕ → ℕ

-- domain d permits right x on page q
abbrev pub permits : Fields → ℕ → Right → ℕ → Bool
permits field d x q = shares d (field x q)

-- a domain lies within others if they have its contexts
unfoldable pub Within : ℕ → List ℕ → Type 0
Within d ds = (j : ℕ) → T (has d j) → Any (λ e. T (has e j)) ds

-- domains allow what one of them permits
abbrev pub Allow : Fields → List ℕ → Right → ℕ → Type 0
Allow field ds x q = Any (λ d. T (permits field d x q)) ds
