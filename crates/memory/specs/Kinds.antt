-- What each kind of memory holds, and its effect rule.
use Rattle.std.specs.Prelude.{◌≡◌, ℕ, ◌+◌, ◌-◌, ◌*◌, Bool, true, false, cond, ◌&&◌, List, map, length, ◌==◌, bit_and, nat_lt, slice_index, slice_index_or, slice_set, refl}
use Rattle.std.specs.List.{range_with_len}
use Rattle.std.proofs.lemmas.List.FromFn.{length-map-range_with_len}
use Rattle.std.proofs.lemmas.Bool.{cond-false, le-ltb}
use Rattle.memory.specs.Pages.{Page, Pages, Effect, blank, byte_at, page_of, offset_of, write_at}

-- the page of 256 bytes f 0, f 1, ..
unfoldable pub page_by : (ℕ → ℕ) → Page
page_by f = record { bytes = map f (range_with_len 0 256) }

pub page_by_whole : (f : ℕ → ℕ) → length (page_by f).bytes ≡ 256
unfolding page_by
page_by_whole f = length-map-range_with_len f 0 256

pub either_whole : (b : Bool) (p q : Page) → length p.bytes ≡ 256 → length q.bytes ≡ 256 → length (cond b p q).bytes ≡ 256
either_whole true p q h k = h
either_whole false p q h k = k

pub either_blank : (b : Bool) (p q : Page) → p ≡ blank → q ≡ blank → cond b p q ≡ blank
either_blank true p q h k = h
either_blank false p q h k = k

-- 64 pages, each by its bytes: byte o of page q is f q o
abbrev pub pages_by : (ℕ → ℕ → ℕ) → Pages
pages_by f =
    record {
      page = λ q. cond (nat_lt q 64) (page_by (f q)) blank;
      whole = λ q. either_whole (nat_lt q 64) (page_by (f q)) blank (page_by_whole (f q)) refl;
      no_more = λ q h. cond-false _ _ _ (le-ltb q 64 h);
    }

-- RAM and ROM: the bytes bs from address 0; past their end it reads 255
abbrev pub bytes_byte : List ℕ → ℕ → ℕ → ℕ
bytes_byte bs q o = slice_index_or bs (q * 256 + o) 255

abbrev pub bytes_pages : List ℕ → Pages
bytes_pages bs = pages_by (bytes_byte bs)

-- RAM of n bytes: the byte is put at the offset, where the address is one of the n
abbrev pub ram_effect : ℕ → Effect
ram_effect n q p o b = cond (nat_lt (q * 256 + o) n) (record { bytes = slice_set p.bytes o b }) p

-- the owner's bytes after a write: those past the 16,384th stay as they are
abbrev pub stored : List ℕ → ℕ → ℕ → List ℕ
stored bs a b = cond (nat_lt a 16384) (slice_set bs a b) bs

-- ROM: no effect anywhere
abbrev pub rom_effect : Effect
rom_effect q p o b = p

-- a status page: the bytes bs as page number n; other pages read 255
abbrev pub status_byte : ℕ → List ℕ → ℕ → ℕ → ℕ
status_byte n bs q o = cond (q == n) (slice_index_or bs o 255) 255

abbrev pub status_pages : ℕ → List ℕ → Pages
status_pages n bs = pages_by (status_byte n bs)

-- a write clears in the byte at the offset every bit that is 1 in the byte written
abbrev pub status_effect : ℕ → Effect
status_effect n q p o b = cond (q == n) (record { bytes = slice_set p.bytes o (bit_and (byte_at p o) (255 - b)) }) p

-- the page's own bytes after a write
abbrev pub cleared : ℕ → List ℕ → ℕ → ℕ → List ℕ
cleared n bs a b =
    cond (nat_lt a 16384 && page_of a == n) (slice_set bs (offset_of a) (bit_and (slice_index bs (offset_of a)) (255 - b))) bs

-- two memories end to end: the pages below the border are the first's, the others the second's
abbrev pub joined_pages : ℕ → Pages → Pages → Pages
joined_pages border f g =
    record {
      page = λ q. cond (nat_lt q border) (f.page q) (g.page q);
      whole = λ q. either_whole (nat_lt q border) (f.page q) (g.page q) (f.whole q) (g.whole q);
      no_more = λ q h. either_blank (nat_lt q border) (f.page q) (g.page q) (f.no_more q h) (g.no_more q h);
    }

abbrev pub joined_effect : ℕ → Effect → Effect → Effect
joined_effect border e d q p o b = cond (nat_lt q border) (e q p o b) (d q p o b)

-- what a write leaves of one of them: it is the write's own if the write goes there
abbrev pub part_after : Bool → Effect → Pages → ℕ → ℕ → ℕ → Page
part_after goes e f a b = cond goes (write_at e f.page a b) f.page
