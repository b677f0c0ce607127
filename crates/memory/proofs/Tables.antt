-- Pages that are given by their bytes: what is read, and what a write of one byte leaves.
use Rattle.std.proofs.Common.{◌≡◌, ℕ, ◌+◌, ◌-◌, ◌*◌, ◌<◌, cond, ltb, List, length, get_or, set, sym, ap, ◌∙◌, arith}
use mathlib.Core.Path.{fun_ext}
use lib.Bits.{bit_and}
use Rattle.std.proofs.lemmas.List.FromFn.{get_or-map-range_with_len, fill_by_all}
use Rattle.std.proofs.lemmas.List.{length-set, get_or_default, get_or-set_other}
use Rattle.std.proofs.lemmas.Bool.{eqb-false}
use Rattle.std.proofs.lemmas.Grind.{common_steps, get_or-set_at}
use Rattle.std.proofs.lemmas.Bool.Decides.{nat_tests}
use Rattle.memory.specs.Pages.{page_of, offset_of, put, byte_at, read_at, write_at}
use Rattle.memory.specs.Kinds.{page_by, page_by_whole, pages_by, bytes_byte, bytes_pages, ram_effect, status_byte, status_pages, status_effect}
use Rattle.memory.proofs.Entries.{everywhere}

page_byte : (f : ℕ → ℕ) (o : ℕ) → o < 256 → (d : ℕ) → get_or (page_by f).bytes o d ≡ f o
unfolding page_by
page_byte f o h d = get_or-map-range_with_len f 0 256 o o d h (omega arith)

page_filled : (f : ℕ → ℕ) (bs : List ℕ) → length bs ≡ 256 → ((k : ℕ) → k < 256 → get_or bs k 0 ≡ f k) → bs ≡ (page_by f).bytes
unfolding page_by
page_filled f bs = fill_by_all f bs 256 0

-- a page with one byte changed
page_set : (f g : ℕ → ℕ) (o v : ℕ) → o < 256 → g o ≡ v → ((i : ℕ) → i < 256 → (i ≡ o → ⊥) → g i ≡ f i) → (page_by g).bytes ≡ set (page_by f).bytes o v
page_set f g o v h hit same =
    sym (page_filled g (set (page_by f).bytes o v) (length-set (page_by f).bytes o v ∙ page_by_whole f)
    (λ k j. grind (arith, common_steps, page_byte f k j 0, page_by_whole f, hit, same k j)))

page_same : (f g : ℕ → ℕ) → ((i : ℕ) → i < 256 → g i ≡ f i) → (page_by g).bytes ≡ (page_by f).bytes
page_same f g same = page_filled f (page_by g).bytes (page_by_whole g) (λ k j. page_byte g k j 0 ∙ same k j)

module _ (f : ℕ → ℕ → ℕ) (a : ℕ) where
  page_here : a < 16384 → (pages_by f).page (page_of a) ≡ page_by (f (page_of a))
  page_here h = grind (arith, nat_tests)

  byte_here : a < 16384 → (d : ℕ) → get_or ((pages_by f).page (page_of a)).bytes (offset_of a) d ≡ f (page_of a) (offset_of a)
  byte_here h d = rw (page_here h) (page_byte (f (page_of a)) (offset_of a) (omega arith) d)

  -- a read answers the byte, or 255 from 16,384 on
  pub read_by : read_at (pages_by f).page a ≡ cond (ltb a 16384) (f (page_of a) (offset_of a)) 255
  read_by = grind (arith, nat_tests, byte_here)

  -- where g has the byte v at a, and is f elsewhere, its pages are those of f with the byte put at the offset
  module _ (g : ℕ → ℕ → ℕ) (v : ℕ) (h : a < 16384) (hit : g (page_of a) (offset_of a) ≡ v)
      (same : (q o : ℕ) → o < 256 → (q * 256 + o ≡ a → ⊥) → g q o ≡ f q o) where
    pub write_by : (pages_by g).page ≡ put (pages_by f).page (page_of a) (record { bytes = set ((pages_by f).page (page_of a)).bytes (offset_of a) v })
    write_by =
        fun_ext (everywhere (page_of a) (λ q b. (pages_by g).page q ≡ cond b (record { bytes = set ((pages_by f).page (page_of a)).bytes (offset_of a) v }) ((pages_by f).page q))
        (let changed = page_set (f (page_of a)) (g (page_of a)) (offset_of a) v (omega arith) hit (λ i l ne. same (page_of a) i l (λ e. ne (omega arith))) in
        grind (arith, nat_tests, page_here h, changed))
        (λ q ne.
        let kept = page_same (f q) (g q) (λ i l. same q i l (λ e. eqb-false (page_of a) q ne (omega arith))) in
        grind (arith, nat_tests, kept)))

-- RAM and ROM
module _ (bs : List ℕ) (a : ℕ) where
  bytes_here : get_or bs (page_of a * 256 + offset_of a) 255 ≡ get_or bs a 255
  bytes_here = grind arith

  pub bytes_read : read_at (bytes_pages bs).page a ≡ cond (ltb a 16384) (get_or bs a 255) 255
  bytes_read = read_by (bytes_byte bs) a ∙ ap (λ b. cond (ltb a 16384) b 255) bytes_here

  pub ram_write : (v : ℕ) → a < 16384 → a < length bs → (bytes_pages (set bs a v)).page ≡ write_at (ram_effect (length bs)) (bytes_pages bs).page a v
  ram_write v h l =
      let e : page_of a * 256 + offset_of a ≡ a = omega arith in
      write_by (bytes_byte bs) a (bytes_byte (set bs a v)) v h
      (get_or-set_at bs a (page_of a * 256 + offset_of a) v 255 e l)
      (λ q o k ne. get_or-set_other bs a (q * 256 + o) v 255 ne)
      ∙ grind (arith, nat_tests)

-- a status page
module _ (n : ℕ) (bs : List ℕ) (a : ℕ) where
  pub status_read : length bs ≡ 256 → a < 16384 → page_of a ≡ n → get_or bs (offset_of a) 0 ≡ read_at (status_pages n bs).page a
  status_read whole h e = grind (arith, nat_tests, read_by (status_byte n bs) a, get_or_default bs (offset_of a) 0 255)

  pub status_elsewhere : (a < 16384 → page_of a ≡ n → ⊥) → 255 ≡ read_at (status_pages n bs).page a
  status_elsewhere away = grind (arith, nat_tests, read_by (status_byte n bs) a, away)

  pub status_write : length bs ≡ 256 → (b : ℕ) → a < 16384 → page_of a ≡ n
      → (status_pages n (set bs (offset_of a) (bit_and (get_or bs (offset_of a) 0) (255 - b)))).page ≡ write_at (status_effect n) (status_pages n bs).page a b
  status_write whole b h e =
      let v : ℕ = bit_and (get_or bs (offset_of a) 0) (255 - b) in
      let l : offset_of a < length bs = omega arith in
      let old : byte_at ((status_pages n bs).page (page_of a)) (offset_of a) ≡ get_or bs (offset_of a) 0 =
      byte_here (status_byte n bs) a h 255 ∙ grind (arith, nat_tests, get_or_default bs (offset_of a) 0 255 l) in
      write_by (status_byte n bs) a (status_byte n (set bs (offset_of a) v)) v h
      (grind (arith, nat_tests, common_steps))
      (λ q o k ne. grind (arith, nat_tests, get_or-set_other bs (offset_of a) o v 255))
      ∙ grind (arith, nat_tests, old)
