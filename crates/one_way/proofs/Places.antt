-- A chain in an array of eight places.
use Rattle.std.proofs.Common.{◌≡◌, ℕ, zero, suc, ◌+◌, ◌-◌, ◌<◌, ◌≤◌, min, List, length, get_or, take, set, replicate, sym, refl, ap, ◌∙◌, inl, inr, arith, length-append, below_more}
use lib.ListN.{length-replicate}
use Rattle.std.proofs.lemmas.List.{get_or_append_left, get_or-append_right, get_or_past, get_or-replicate, get_or-set_same, get_or-set_other, ext_get_or, length-set, take_at}
use Rattle.std.proofs.lemmas.Bool.{cases_lt}
use Rattle.vocabulary.specs.declared.parameter.Parameter.{Parameter}
use Rattle.one_way.specs.Chains.{chain, eight_places}

module _ (H : Parameter → ℕ → ℕ) (p : Parameter) where
  pub chain_length : (m w : ℕ) → length (chain H p m w) ≡ m
  chain_length zero w = refl
  chain_length (suc m) w = ap suc (chain_length m (H p w))

  chain_first : (m w : ℕ) → 1 ≤ m → get_or (chain H p m w) 0 0 ≡ w
  chain_first zero w l = absurd (omega arith)
  chain_first (suc m) w l = refl

  chain_next : (m k w : ℕ) → suc k < m → get_or (chain H p m w) (suc k) 0 ≡ H p (get_or (chain H p m w) k 0)
  chain_next zero k w l = absurd (omega arith)
  chain_next (suc m) zero w l = chain_first m (H p w) (omega arith)
  chain_next (suc m) (suc k) w l = chain_next m k (H p w) (omega arith)

  module _ (m w : ℕ) where
    -- the first i places hold the chain's passwords, and the places behind them 0
    pub record Filled (xs : List ℕ) (i : ℕ) : Type 0 where
      pub made : (k : ℕ) → k < i → get_or xs k 0 ≡ get_or (chain H p m w) k 0
      pub blank : (k : ℕ) → i ≤ k → get_or xs k 0 ≡ 0
      pub eight : length xs ≡ 8

    pub filled_none : Filled (replicate 8 0) 0
    filled_none =
        record {
          made = λ k l. absurd (omega arith);
          blank = λ k l. elim (cases_lt k 8) [ inl here ↦ get_or-replicate 8 k 0 0 here | inr past ↦ get_or_past (replicate 8 0) k 0 past ];
          eight = refl;
        }

    -- one place more
    filled_more : (xs : List ℕ) (i r : ℕ) → i < 8 → r ≡ get_or (chain H p m w) i 0 → Filled xs i → Filled (set xs i r) (i + 1)
    filled_more xs i r l e f =
        let lx : i < length xs = omega (arith, f.eight) in
        record {
          made =
              below_more (λ k. get_or (set xs i r) k 0 ≡ get_or (chain H p m w) k 0) i
              (λ k lt. get_or-set_other xs i k r 0 (λ q. omega arith) ∙ f.made k lt)
              (get_or-set_same xs i r 0 lx ∙ e);
          blank = λ k lt. get_or-set_other xs i k r 0 (λ q. omega arith) ∙ f.blank k (omega arith);
          eight = simp length-set f.eight;
        }

    pub filled_first : 1 ≤ m → Filled (set (replicate 8 0) 0 w) 1
    filled_first l = filled_more (replicate 8 0) 0 w (omega arith) (sym (chain_first m w l)) filled_none

    pub filled_next : (xs : List ℕ) (i r : ℕ) → 1 ≤ i → i < m → m ≤ 8 → r ≡ H p (get_or xs (i - 1) 0) → Filled xs i → Filled (set xs i r) (i + 1)
    filled_next xs i r l n few e f =
        let q : suc (i - 1) ≡ i = omega arith in
        filled_more xs i r (omega arith)
        (e ∙ ap (H p) (f.made (i - 1) (omega arith)) ∙ sym (chain_next m (i - 1) w (omega arith)) ∙ ap (λ j. get_or (chain H p m w) j 0) q) f

    -- all places of the chain
    pub filled_all : (xs : List ℕ) → m ≤ 8 → Filled xs m → xs ≡ eight_places (chain H p m w)
    filled_all xs few f =
        let n : length (chain H p m w) ≡ m = chain_length m w in
        let s : length xs ≡ length (eight_places (chain H p m w)) = simp (length-append, length-replicate) (omega arith) in
        ext_get_or 0 xs (eight_places (chain H p m w)) s
        (λ k lt. elim (cases_lt k m) [
          | inl here ↦ f.made k here ∙ sym (get_or_append_left (chain H p m w) (replicate (8 - length (chain H p m w)) 0) 0 k (omega arith))
          | inr past ↦
              let b : k - m < 8 - length (chain H p m w) = omega (arith, f.eight) in
              f.blank k past
              ∙ sym (get_or-append_right (chain H p m w) (replicate (8 - length (chain H p m w)) 0) m k 0 n past ∙ get_or-replicate (8 - length (chain H p m w)) (k - m) 0 0 b)
        ])

    -- the chain's own places of the eight
    pub front : (xs : List ℕ) → m ≤ 8 → xs ≡ eight_places (chain H p (min m 8) w) → take m xs ≡ chain H p m w
    front xs few e =
        let n : min m 8 ≡ m = omega arith in
        ap (take m) (e ∙ ap (λ k. eight_places (chain H p k w)) n) ∙ take_at (chain H p m w) (replicate (8 - length (chain H p m w)) 0) m (chain_length m w)
