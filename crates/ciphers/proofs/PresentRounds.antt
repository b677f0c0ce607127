-- One turn of the loop of PRESENT against the definitions.
use Rattle.std.proofs.Common.{◌≡◌, ℕ, ◌+◌, sym, ap, ◌∙◌, add-one}
use Rattle.ciphers.specs.Present.{s_box_layer, p_layer, update, register, add_round_key, rounds}

-- after i rounds the register is that of round i + 1, and the block has its key put in
pub record After (key b i now state : ℕ) : Type 0 where
  pub register_is : now ≡ register key i
  pub keyed : state ≡ add_round_key now (rounds key b i)

pub after_more : (key b i now s now' s' : ℕ) → After key b i now s → now' ≡ update (i + 1) now → s' ≡ p_layer (s_box_layer s)
    → After key b (i + 1) now' (add_round_key now' s')
unfolding register rounds
after_more key b i now s now' s' a h e =
    record {
      register_is =
          h ∙ ap (update (i + 1)) a.register_is ∙ ap (λ (n : ℕ). update n (register key i)) (add-one i)
          ∙ ap (register key) (sym (add-one i));
      keyed =
          ap (add_round_key now')
          (e ∙ ap (λ (x : ℕ). p_layer (s_box_layer x)) (a.keyed ∙ ap (λ (r : ℕ). add_round_key r (rounds key b i)) a.register_is)
          ∙ ap (rounds key b) (sym (add-one i)));
    }
