-- One byte more of a row.
use Rattle.std.proofs.Common.{◌≡◌, ℕ, ◌+◌, ◌<◌, ◌≤◌, List, length, get_or, drop, ap, arith}
use Rattle.std.proofs.lemmas.List.FromFn.{fill_by_all}
use Rattle.std.proofs.lemmas.List.{drop_all, drop_more}
use Rattle.memory.specs.Pages.{Page, Effect, read_at, write_at}
use Rattle.console.specs.Rows.{stored_from, loaded_from}

module _ (e : Effect) where
  pub stored_all : (m : ℕ → Page) (a i : ℕ) (bs : List ℕ) → length bs ≤ i → stored_from e m (a + i) (drop i bs) ≡ m
  unfolding stored_from
  stored_all m a i bs l = ap (stored_from e m (a + i)) (drop_all i bs l)

  pub stored_more : (m : ℕ → Page) (a i : ℕ) (bs : List ℕ) → i < length bs
      → stored_from e (write_at e m (a + i) (get_or bs i 0)) (a + (i + 1)) (drop (i + 1) bs) ≡ stored_from e m (a + i) (drop i bs)
  unfolding stored_from
  stored_more m a i bs l =
      let next : a + (i + 1) ≡ a + i + 1 = omega arith in
      rw (drop_more bs i 0 l, next)

pub loaded_all : (m : ℕ → Page) (a n : ℕ) (bs : List ℕ) → length bs ≡ n → ((k : ℕ) → k < n → get_or bs k 0 ≡ read_at m (a + k)) → bs ≡ loaded_from m a n
unfolding loaded_from
loaded_all m a n bs = fill_by_all (λ i. read_at m (a + i)) bs n 0
