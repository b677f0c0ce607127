-- A visit access by access: what is left of it leads to the whole's reply and pages.
use Rattle.std.proofs.Common.{◌≡◌, ℕ, suc, ◌+◌, ◌<◌, List, [], ◌∷◌, ◌++◌, length, get_or, take, drop, set, Some, None, Option, ap, arith}
use Rattle.std.proofs.lemmas.List.{append_assoc, take-append-drop, drop-set-lt, drop_more, drop_all, take_more_set}
use Rattle.std.proofs.lemmas.Grind.{common_steps}
use Rattle.vocabulary.specs.declared.access.Access.{Access}
use Rattle.vocabulary.specs.Refusals.{Reason}
use Rattle.memory.specs.Pages.{Page, Effect}
use Rattle.rules.specs.Console.{Reply, visited}
use Rattle.rules.specs.Domains.{Fields}
use Rattle.rules.specs.Visits.{Visit, made_first, visiting}
use Rattle.unit.specs.Visits.{reply_of}

-- i accesses are made, their bytes are in the buffer, and the visit goes on as v
abbrev joined : ℕ → List ℕ → Visit → Reply × (ℕ → Page)
joined i buffer v = (visited (i + v.made) v.fault (take i buffer ++ (v.bytes ++ drop (i + v.made) buffer)), v.left)

joined_more : (i b : ℕ) (buffer : List ℕ) (v : Visit) → i < length buffer → joined (i + 1) (set buffer i b) v ≡ joined i buffer (made_first b v)
joined_more i b buffer v l = grind (arith, common_steps, drop-set-lt, take_more_set, append_assoc)

joined_end : (i : ℕ) (buffer : List ℕ) (o : Option Reason) (m : ℕ → Page)
    → (visited i o buffer, m) ≡ joined i buffer (record { made = 0; fault = o; bytes = []; left = m })
joined_end i buffer o m = grind (arith, common_steps, take-append-drop)

-- the visit of the accesses l from number i on
unfoldable pub onward : Fields → Effect → List Access → ℕ → List ℕ → (ℕ → Page) → ℕ → Reply × (ℕ → Page)
onward φ e l d buffer m i = joined i buffer (visiting φ e (drop i l) d m i)

module _ (φ : Fields) (e : Effect) (l : List Access) (d : ℕ) (buffer : List ℕ) (m : ℕ → Page) where
  pub visit_whole : onward φ e l d buffer m 0 ≡ (reply_of (visiting φ e l d m 0) buffer, (visiting φ e l d m 0).left)
  unfolding onward
  visit_whole = grind (arith, common_steps)

  pub visit_ended : (i : ℕ) (whole : Reply × (ℕ → Page)) → i ≡ length l → onward φ e l d buffer m i ≡ whole
      → (visited (length l) None buffer ≡ whole.0) × (m ≡ whole.1)
  unfolding onward
  visit_ended i whole q leads =
      let e : (visited (length l) None buffer, m) ≡ whole = grind (arith, common_steps, joined_end i buffer None m, drop_all) in
      (ap (λ x. x.0) e, ap (λ x. x.1) e)

  -- access number i, made under the domain d' and the effect rule e', which are d and e
  module _ (i : ℕ) (a : Access) (lt : i < length l) (d' : ℕ) (under : d' ≡ d) (e' : Effect) (same : e' ≡ e) (m' : ℕ → Page) where
    pub visit_made : (b : ℕ) → i < length buffer
        → ((rest : List Access) → made_first b (visiting φ e' rest d' m' (suc i)) ≡ visiting φ e' (get_or l i a ∷ rest) d' m i)
        → onward φ e l d (set buffer i b) m' (i + 1) ≡ onward φ e l d buffer m i
    unfolding onward
    visit_made b lb h = grind (arith, joined_more i b buffer (visiting φ e' (drop (i + 1) l) d' m' (suc i)), h (drop (i + 1) l), drop_more l i a)

    pub visit_faulted : (r : Reason) (whole : Reply × (ℕ → Page))
        → ((rest : List Access) → record { made = 0; fault = Some r; bytes = []; left = m' } ≡ visiting φ e' (get_or l i a ∷ rest) d' m i)
        → onward φ e l d buffer m i ≡ whole → (visited i (Some r) buffer ≡ whole.0) × (m' ≡ whole.1)
    unfolding onward
    visit_faulted r whole h leads =
        let k : (visited i (Some r) buffer, m') ≡ whole = grind (arith, common_steps, joined_end i buffer (Some r) m', h (drop (i + 1) l), drop_more l i a) in
        (ap (λ x. x.0) k, ap (λ x. x.1) k)
