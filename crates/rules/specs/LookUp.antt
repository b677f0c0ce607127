-- Places of passwords in a chain, and the look-up through the slots.
use Rattle.std.specs.Prelude.{ℕ, zero, suc, cond, List, [], ◌∷◌, length, Some, None, Option, ◌==◌, slice_index}
use Rattle.vocabulary.specs.declared.found.Found.{Found}
use Rattle.rules.specs.Console.{Slot, is_at}

-- the first place of w, where the list begins with place i
abbrev pub place_from : ℕ → ℕ → List ℕ → Option ℕ
place_from i w [] = None
place_from i w (x ∷ xs) = cond (w == x) (Some i) (place_from (suc i) w xs)

abbrev pub place_of : ℕ → List ℕ → Option ℕ
place_of w ps = place_from 0 w ps

-- the lowest place, from i on and n of them, whose password stands at an earlier place too
abbrev pub repeat_from : List ℕ → ℕ → ℕ → Option ℕ
repeat_from ps zero i = None
repeat_from ps (suc n) i = cond (is_at (place_of (slice_index ps i) ps) i) (repeat_from ps n (suc i)) (Some i)

abbrev pub first_repeat : List ℕ → Option ℕ
first_repeat ps = repeat_from ps (length ps) 0

-- what a slot holds, where a free one holds nothing
abbrev pub passwords_of : Option Slot → List ℕ
passwords_of None = []
passwords_of (Some σ) = σ.passwords

abbrev pub domains_of : Option Slot → List ℕ
domains_of None = []
domains_of (Some σ) = σ.domains

abbrev pub or_else : {A : Type 0} → Option A → Option A → Option A
or_else None o = o
or_else (Some a) o = Some a

abbrev pub found_in : ℕ → Option ℕ → Option Found
found_in t None = None
found_in t (Some i) = Some (record { slot = t; place = i })

-- the slots from t on, n of them
abbrev pub search_slots : (ℕ → Option Slot) → ℕ → ℕ → ℕ → Option Found
search_slots f w zero t = None
search_slots f w (suc n) t = or_else (found_in t (place_of w (passwords_of (f t)))) (search_slots f w n (suc t))

-- the own chain, that of slot s, comes first; if it lacks w, the slots upwards from 0
unfoldable pub look_up : (ℕ → Option Slot) → ℕ → ℕ → Option Found
look_up f s w = or_else (found_in s (place_of w (passwords_of (f s)))) (search_slots f w 8 0)

-- the domain at place i of slot t
abbrev pub domain_at : (ℕ → Option Slot) → ℕ → ℕ → ℕ
domain_at f t i = slice_index (domains_of (f t)) i
