-- A rule for each number below n, or for each place of a table, by one computed test.
use Rattle.std.proofs.Common.{◌≡◌, ℕ, zero, suc, ◌<◌, Bool, true, false, T, eqb, List, [], ◌∷◌, get_or, inl, inr, le_of_suc-le-suc, not-suc-le-zero, eq-or-lt_of_le, eqb→eq}

abbrev pub both : Bool → Bool → Bool
both true b = b
both false b = false

both_left : (a b : Bool) → T (both a b) → T a
both_left true b t = tt
both_left false b t = t

both_right : (a b : Bool) → T (both a b) → T b
both_right true b t = t
both_right false b t = absurd t

-- f n for each n below a bound
abbrev pub every : (ℕ → Bool) → ℕ → Bool
every f zero = true
every f (suc n) = both (f n) (every f n)

pub at : (f : ℕ → Bool) (n : ℕ) → T (every f n) → (i : ℕ) → i < n → T (f i)
at f zero t i h = absurd (not-suc-le-zero h)
at f (suc n) t i h =
    elim (eq-or-lt_of_le (le_of_suc-le-suc h)) [
      | inl e ↦ rw e (both_left (f n) (every f n) t)
      | inr l ↦ at f n (both_right (f n) (every f n) t) i l
    ]

-- two rules that agree below a bound
pub agree : (f g : ℕ → ℕ) (n : ℕ) → T (every (λ i. eqb (f i) (g i)) n) → (i : ℕ) → i < n → f i ≡ g i
agree f g n t i h = eqb→eq (f i) (g i) (at (λ i. eqb (f i) (g i)) n t i h)

-- the table begins with g 0, .., g (n - 1)
abbrev pub holds : (ℕ → ℕ) → ℕ → List ℕ → Bool
holds g zero xs = true
holds g (suc n) [] = false
holds g (suc n) (x ∷ xs) = both (eqb x (g 0)) (holds (λ i. g (suc i)) n xs)

pub table_at : (g : ℕ → ℕ) (n : ℕ) (xs : List ℕ) → T (holds g n xs) → (k : ℕ) → k < n → get_or xs k 0 ≡ g k
table_at g zero xs t k h = absurd (not-suc-le-zero h)
table_at g (suc n) [] t k h = absurd t
table_at g (suc n) (x ∷ xs) t zero h = eqb→eq x (g 0) (both_left (eqb x (g 0)) (holds (λ i. g (suc i)) n xs) t)
table_at g (suc n) (x ∷ xs) t (suc k) h =
    table_at (λ i. g (suc i)) n xs (both_right (eqb x (g 0)) (holds (λ i. g (suc i)) n xs) t) k (le_of_suc-le-suc h)

-- a fact of both tables of two
pub in_two : (P : ℕ → Type 0) → P 0 → P 1 → (i : ℕ) → i < 2 → P i
in_two P first second zero h = first
in_two P first second (suc zero) h = second
in_two P first second (suc (suc i)) h = absurd (not-suc-le-zero (le_of_suc-le-suc (le_of_suc-le-suc h)))
