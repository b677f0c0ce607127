-- Domains within the reach, one by one and all together.
use Rattle.std.proofs.Common.{◌≡◌, ℕ, zero, suc, ◌<◌, true, List, [], ◌∷◌, ◌++◌, length, get_or, set, take, sym, refl, ap, ◌∙◌, arith}
use lib.Bits.{bit_or}
use Rattle.std.specs.List.{fold}
use Rattle.std.proofs.Math.Seq.{take-append_seam, take-set-lt}
use Rattle.std.proofs.lemmas.List.{get_or-take}
use Rattle.std.proofs.lemmas.Bool.Decides.{nat_tests}
use Rattle.rules.specs.Domains.{has, with_context, union_from}
use Rattle.table.specs.declared.slot.Slot.{Slot}
use Rattle.table.specs.Model.{slot_of}
use Rattle.table.specs.Sound.{all_within}
use Rattle.table.proofs.Masks.{with_mask, without_mask, has_so, gains_within, loses_within, or_left, or_right}

module _ (r : ℕ) where
  within_at : (ds : List ℕ) (i : ℕ) → all_within r ds ≡ true → bit_or (get_or ds i 0) r ≡ r
  unfolding all_within
  within_at [] i h = refl
  within_at (d ∷ ds) zero h = grind (arith, nat_tests)
  within_at (d ∷ ds) (suc i) h = grind (arith, nat_tests, within_at ds i)

  pub within_set : (ds : List ℕ) (i d : ℕ) → bit_or d r ≡ r → all_within r ds ≡ true → all_within r (set ds i d) ≡ true
  unfolding all_within
  within_set [] i d e h = h
  within_set (x ∷ xs) zero d e h = grind (arith, nat_tests)
  within_set (x ∷ xs) (suc i) d e h = grind (arith, nat_tests, within_set xs i d e)

-- the domain at a place of a slot's chain, and that it lies within the reach
pub domain_at : (s : Slot) (i : ℕ) → i < s.length → get_or (slot_of s).domains i 0 ≡ get_or s.domains i 0
domain_at s i l = get_or-take s.length s.domains i 0 l

pub within_place : (s : Slot) (i : ℕ) → i < s.length → bit_or (get_or s.domains i 0) s.reach ≡ s.reach
within_place s i l = ap (λ d. bit_or d s.reach) (sym (domain_at s i l)) ∙ within_at s.reach (take s.length s.domains) i s.within

pub grants_within : (s : Slot) (i c : ℕ) → i < s.length → has (get_or s.domains 0 0) c ≡ true → bit_or (with_context (get_or s.domains i 0) c) s.reach ≡ s.reach
grants_within s i c l h = gains_within (get_or s.domains i 0) (get_or s.domains 0 0) s.reach c (within_place s i l) (within_place s 0 s.count.0) h

-- what lies within d lies within a union that begins with it
within_union : (e d : ℕ) (ds : List ℕ) → bit_or e d ≡ d → bit_or e (union_from d ds) ≡ union_from d ds
unfolding union_from
within_union e d [] h = h
within_union e d (x ∷ xs) h = within_union e (bit_or d x) xs (or_left e d x h)

-- and so does each domain of the union
all_in_union : (d : ℕ) (ds : List ℕ) → all_within (union_from d ds) ds ≡ true
unfolding all_within union_from
all_in_union d [] = refl
all_in_union d (x ∷ xs) = grind (arith, nat_tests, within_union x (bit_or d x) xs (or_right d x), all_in_union (bit_or d x) xs)

pub union_is : (d : ℕ) (ds : List ℕ) → fold bit_or d ds ≡ union_from d ds
unfolding union_from
union_is d [] = refl
union_is d (x ∷ xs) = union_is (bit_or d x) xs

-- the domains that stand in front in a list of places, and their union
pub front_within : (held ds rest : List ℕ) (r : ℕ) → held ≡ ds → r ≡ fold bit_or 0 ds → all_within r (take (length ds) (held ++ rest)) ≡ true
front_within held ds rest r h e = rw (h, take-append_seam ds rest, e, union_is 0 ds) (all_in_union 0 ds)

-- what a change to the domain at a place asks and leaves
pub ruleset domain_steps = (with_mask, without_mask, has_so, loses_within, domain_at, within_place, grants_within, within_set, take-set-lt)

-- what makes the domains of a new app
pub ruleset union_steps = (front_within, union_is, take-append_seam)
