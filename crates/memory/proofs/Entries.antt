-- A table of entries, at one entry and at all others.
use Rattle.std.proofs.Common.{◌≡◌, ℕ, Bool, true, false, T, eqb, sym, refl, subst, eqb→eq}

-- what holds at entry s, and at the others, holds at every entry
pub everywhere : (s : ℕ) (Q : ℕ → Bool → Type 0) → Q s true → ((t : ℕ) → eqb s t ≡ false → Q t false) → (t : ℕ) → Q t (eqb s t)
everywhere s Q y n t = go (eqb s t) refl
  where
    go : (b : Bool) → eqb s t ≡ b → Q t b
    go true e = subst (λ u. Q u true) (eqb→eq s t (subst T (sym e) tt)) y
    go false e = n t e
