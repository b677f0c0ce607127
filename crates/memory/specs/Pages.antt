-- Memories: 64 pages of 256 bytes, and a rule that says what a write does to a page.
use Rattle.std.specs.Prelude.{◌≡◌, ℕ, ◌/◌, ◌%◌, ◌≤◌, cond, List, length, get_or, replicate, ◌==◌, nat_lt}

-- a page: its bytes
pub record Page : Type 0 where
  pub bytes : List ℕ

abbrev pub byte_at : Page → ℕ → ℕ
byte_at p o = get_or p.bytes o 255

-- the page where there is no memory: it reads 255 everywhere
abbrev pub blank : Page
blank = record { bytes = replicate 256 255 }

-- what a memory holds: 64 pages, each of 256 bytes
pub record Pages : Type 0 where
  pub page : ℕ → Page
  pub whole : (q : ℕ) → length (page q).bytes ≡ 256
  pub no_more : (q : ℕ) → 64 ≤ q → page q ≡ blank

-- an effect rule: from a page's number, the page, the offset and the byte written, the page afterwards
abbrev pub Effect : Type 0
Effect = ℕ → Page → ℕ → ℕ → Page

-- an address is taken apart into its page and its offset
abbrev pub page_of : ℕ → ℕ
page_of a = a / 256

abbrev pub offset_of : ℕ → ℕ
offset_of a = a % 256

-- a table with entry i replaced
abbrev pub put {ℓ} : {A : Type ℓ} → (ℕ → A) → ℕ → A → ℕ → A
put f i a j = cond (i == j) a (f j)

-- the byte at an address of the pages m, and the pages after a write there
abbrev pub byte_in : (ℕ → Page) → ℕ → ℕ
byte_in m a = byte_at (m (page_of a)) (offset_of a)

abbrev pub written_in : Effect → (ℕ → Page) → ℕ → ℕ → ℕ → Page
written_in e m a b = put m (page_of a) (e (page_of a) (m (page_of a)) (offset_of a) b)

-- the same for every number: from 16,384 on a read answers 255, and a write has no effect
abbrev pub read_at : (ℕ → Page) → ℕ → ℕ
read_at m a = cond (nat_lt a 16384) (byte_in m a) 255

abbrev pub write_at : Effect → (ℕ → Page) → ℕ → ℕ → ℕ → Page
write_at e m a b = cond (nat_lt a 16384) (written_in e m a b) m
