-- Bytes in a row, from one address on.
use Rattle.std.specs.Prelude.{ℕ, ◌+◌, List, [], ◌∷◌, map}
use Rattle.std.specs.List.{range_with_len}
use Rattle.memory.specs.Pages.{Page, Effect, read_at, write_at}

-- the pages after the bytes are written one after the other
unfoldable pub stored_from : Effect → (ℕ → Page) → ℕ → List ℕ → ℕ → Page
stored_from e m a [] = m
stored_from e m a (b ∷ bs) = stored_from e (write_at e m a b) (a + 1) bs

-- the n bytes that are read there
unfoldable pub loaded_from : (ℕ → Page) → ℕ → ℕ → List ℕ
loaded_from m a n = map (λ i. read_at m (a + i)) (range_with_len 0 n)
