-- An access has no fault exactly when it is permitted.
use Rattle.std.proofs.Common.{◌≡◌, ℕ, ◌/◌, ◌<◌, Bool, true, false, cond, T, ltb, List, Some, None, Option, sym, refl, ap, ◌∙◌, inl, inr, arith, lt→ltb}
use Rattle.std.proofs.lemmas.Bool.{ltb-true, ltb-false}
use Rattle.vocabulary.specs.declared.access.Access.{Access}
use Rattle.vocabulary.specs.Accesses.{address_of, right_of}
use Rattle.vocabulary.specs.Refusals.{by_unit}
use Rattle.memory.specs.Pages.{Page, page_of}
use Rattle.rules.specs.Console.{Setting}
use Rattle.rules.specs.Domains.{permits}
use Rattle.rules.specs.Isolation.{Permitted, Fault}
use Rattle.rules.specs.Visits.{fault_of, pages_after, Visit, visiting}
use Rattle.rules.proofs.Bits.{shared, in_common}
use Rattle.rules.proofs.Options.{some_injective, some_not_none, none_not_some}

module _ (S : Setting) where
  -- the fault of an access, a visit's accesses and the pages after an access, at this setting
  abbrev pub faults : ℕ → Access → Option ℕ
  faults d a = fault_of S.machine.field d a

  abbrev pub visits : List Access → ℕ → (ℕ → Page) → ℕ → Visit
  visits l d m i = visiting S.machine.field S.machine.effect l d m i

  abbrev pub writes : (ℕ → Page) → Access → ℕ → Page
  writes m a = pages_after S.machine.effect m a

  pub fault_below : (d : ℕ) (a : Access) → faults d a ≡ None → address_of a < 16384
  fault_below d a e = go (ltb (address_of a) 16384) refl e
    where
      go : (b : Bool) → ltb (address_of a) 16384 ≡ b →
          cond {A = Option ℕ} b (cond {A = Option ℕ} (permits S.machine.field d (right_of a) (page_of (address_of a))) None (Some 17)) (Some 16) ≡ None → address_of a < 16384
      go true q e = ltb-true (address_of a) 16384 q
      go false q e = absurd (some_not_none 16 e)

  pub fault_none : (d : ℕ) (a : Access) → faults d a ≡ None → T (permits S.machine.field d (right_of a) (page_of (address_of a)))
  fault_none d a e = go (ltb (address_of a) 16384) (permits S.machine.field d (right_of a) (page_of (address_of a))) e
    where
      go : (x y : Bool) → cond {A = Option ℕ} x (cond {A = Option ℕ} y None (Some 17)) (Some 16) ≡ None → T y
      go true true e = tt
      go true false e = absurd (some_not_none 17 e)
      go false y e = absurd (some_not_none 16 e)

  pub fault_page : (d : ℕ) (a : Access) → faults d a ≡ None → page_of (address_of a) < 64
  fault_page d a e = below (address_of a) (fault_below d a e)
    where
      below : (x : ℕ) → x < 16384 → x / 256 < 64
      below x h = omega arith

  pub permitted : (d : ℕ) (a : Access) → faults d a ≡ None → Permitted S d a
  permitted d a e = (fault_below d a e, shared d (S.machine.field (right_of a) (page_of (address_of a))) (fault_none d a e))

  pub no_fault : (d : ℕ) (a : Access) → Permitted S d a → faults d a ≡ None
  no_fault d a (h, (j, x, y)) =
      go (ltb (address_of a) 16384) (permits S.machine.field d (right_of a) (page_of (address_of a)))
      (lt→ltb (address_of a) 16384 h) (in_common d (S.machine.field (right_of a) (page_of (address_of a))) j x y)
    where
      go : (x y : Bool) → T x → T y → cond {A = Option ℕ} x (cond {A = Option ℕ} y None (Some 17)) (Some 16) ≡ None
      go true true h k = refl
      go true false h k = absurd k
      go false y h k = absurd h

  -- a fault by its number is the fault
  pub faulty : (d : ℕ) (a : Access) (k n : ℕ) → faults d a ≡ Some k → Fault S d a n (by_unit k n)
  faulty d a k n e = go (ltb (address_of a) 16384) refl (permits S.machine.field d (right_of a) (page_of (address_of a))) e
    where
      go : (x : Bool) → ltb (address_of a) 16384 ≡ x → (y : Bool) → cond {A = Option ℕ} x (cond {A = Option ℕ} y None (Some 17)) (Some 16) ≡ Some k → Fault S d a n (by_unit k n)
      go true p true h = absurd (none_not_some k h)
      go true p false h =
          inr (ltb-true (address_of a) 16384 p, (λ y. some_not_none k (sym e ∙ no_fault d a y)), ap (λ i. by_unit i n) (sym (some_injective 17 k h)))
      go false p y h = inl (ltb-false (address_of a) 16384 p, ap (λ i. by_unit i n) (sym (some_injective 16 k h)))
