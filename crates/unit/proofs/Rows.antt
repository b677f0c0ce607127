-- Rows of the boot table, and the page fields that they set.
use Rattle.std.proofs.Common.{◌≡◌, ℕ, zero, suc, ◌+◌, ◌-◌, ◌*◌, ◌^◌, ◌%◌, ◌<◌, ◌≤◌, List, [], ◌∷◌, ◌++◌, length, get_or, take, drop, map, set, replicate, refl, ap, ◌∙◌, inl, inr, arith, rules}
use mathlib.Core.Path.{fun_ext}
use lib.Bits.{bit_or}
use Rattle.std.specs.Simd.{first_chunks}
use borrow.Rule.Slice.PartMut.{put_mid, mid_of}
use Rattle.std.proofs.lemmas.List.{get_or_past, get_or-replicate, get_or-map, get_or-append_right, get_or_append_left, get_or-drop, get_or_default, length-take-le, length-drop, length-map, places}
use Rattle.std.proofs.lemmas.List.Edits.{map_over_more}
use Rattle.std.proofs.lemmas.Slice.{drop-put_mid}
use Rattle.std.proofs.lemmas.Grind.{common_steps}
use Rattle.std.proofs.lemmas.Bool.{cases_lt}
use Rattle.std.proofs.lemmas.Bool.Decides.{nat_tests}
use Rattle.std.proofs.lemmas.Nat.{one_shl}
use Rattle.vocabulary.specs.declared.access.Right.{Right}
use Rattle.vocabulary.specs.declared.access.Right.TheVariants.{Read, Write, Execute}
use Rattle.rules.specs.Boot.{Row, rows_of}
use Rattle.rules.specs.Domains.{with_context}
use Rattle.unit.specs.declared.fields.PageFields.{PageFields}
use Rattle.unit.specs.Model.{fields_of}
use Rattle.unit.specs.Rows.{added_on}

abbrev none : PageFields
none = record { by_right = replicate 64 0 ∷ replicate 64 0 ∷ replicate 64 0 ∷ [] }

zeros : (n q : ℕ) → get_or (replicate n zero) q 0 ≡ 0
zeros n q = elim (cases_lt q n) [
  | inl l ↦ get_or-replicate n q 0 0 l
  | inr l ↦ get_or_past _ q 0 (search (rules, places))
]

none_at : (x : Right) (q : ℕ) → fields_of none x q ≡ 0
none_at Read q = zeros 64 q
none_at Write q = zeros 64 q
none_at Execute q = zeros 64 q

pub none_held : fields_of none ≡ (λ x q. 0)
none_held = fun_ext (λ x. fun_ext (none_at x))

-- ---- a row's context on its pages

-- the context goes to one more of the fields xs, of which i have it
pub context_added : (c i : ℕ) (xs ys : List ℕ) → c < 16 → i < length xs → i < length ys
    → ys ≡ map (λ d. with_context d c) (take i xs) ++ drop i xs
    → set ys i (bit_or (get_or ys i 0) (1 * 2 ^ c % 65536)) ≡ map (λ d. with_context d c) (take (i + 1) xs) ++ drop (i + 1) xs
unfolding with_context
context_added c i xs ys h l m e =
    grind (arith, common_steps, one_shl c 16, map_over_more (λ d. bit_or d (2 ^ c)) xs ys i (get_or ys i 0), get_or_default ys i 0 (get_or ys i 0))

-- the fields xs of a row's pages have its context, and the others stay
pub row_added : (w : Row) (xs : List ℕ) → w.first + w.count ≤ length xs
    → (q : ℕ) → get_or (put_mid w.first w.count xs (map (λ d. with_context d w.context) (mid_of w.first w.count xs))) q 0 ≡ added_on w q (get_or xs q 0)
row_added w xs h q =
    let f : ℕ = w.first in
    let e : ℕ = w.first + w.count in
    let ys : List ℕ = mid_of w.first w.count xs in
    let zs : List ℕ = put_mid w.first w.count xs (map (λ d. with_context d w.context) ys) in
    elim (cases_lt q f) [
      | inl l ↦ grind (arith, nat_tests, places)
      | inr l ↦ elim (cases_lt q e) [
        | inl m ↦
            let k : get_or ys (q - f) 0 ≡ get_or xs q 0 = search (rules, places) in
            let s : q - f < length ys = search (rules, places) in
            get_or-append_right (take f xs) _ f q 0 (length-take-le f xs (omega arith)) l
            ∙ get_or_append_left (map (λ d. with_context d w.context) ys) _ 0 (q - f) (simp length-map s)
            ∙ get_or-map (λ d. with_context d w.context) ys (q - f) 0 0 s
            ∙ grind (arith, nat_tests, k)
        | inr m ↦
            let s : q ≡ e + (q - e) = omega arith in
            let n : length (map (λ d. with_context d w.context) ys) ≡ w.count = simp length-map (search (rules, places)) in
            grind (arith, nat_tests, s, drop-put_mid f w.count xs (map (λ d. with_context d w.context) ys) e (omega arith) (omega arith) n, get_or-drop e zs (q - e) 0, get_or-drop e xs (q - e) 0)
      ]
    ]

-- ---- a table's rows

-- the row that four bytes say
abbrev pub row_at : List ℕ → Row
row_at bs = record { context = get_or bs 0 0; right = get_or bs 1 0; first = get_or bs 2 0; count = get_or bs 3 0 }

-- bytes in fours are as many rows
pub rows_in_fours : (n : ℕ) (bs : List ℕ) → length bs ≡ n * 4 → rows_of bs ≡ map row_at (first_chunks 4 n bs)
rows_in_fours zero [] h = refl
rows_in_fours zero (a ∷ bs) h = cc
rows_in_fours (suc n) (a ∷ b ∷ c ∷ d ∷ bs) h = ap (λ ws. row_at (a ∷ b ∷ c ∷ d ∷ []) ∷ ws) (rows_in_fours n bs (omega arith))
rows_in_fours (suc n) bs h = absurd (omega arith)

-- each of n fours is four bytes
pub whole_fours : (n : ℕ) (bs : List ℕ) (i : ℕ) → n * 4 ≤ length bs → i < n → length (get_or (first_chunks 4 n bs) i []) ≡ 4
whole_fours zero bs i h l = absurd (omega arith)
whole_fours (suc n) bs zero h l = length-take-le 4 bs (omega arith)
whole_fours (suc n) bs (suc i) h l = whole_fours n (drop 4 bs) i (simp length-drop (omega arith)) (omega arith)
