-- Contexts added to a domain, in any order.
use Rattle.std.proofs.Common.{◌≡◌, ℕ, ◌^◌, sym, ap, ◌∙◌}
use lib.Bits.{bit_or, or_comm}
use Rattle.rules.specs.Domains.{with_context}
use Rattle.rules.proofs.Or.{or_assoc}

pub contexts_swap : (d b c : ℕ) → with_context (with_context d b) c ≡ with_context (with_context d c) b
unfolding with_context
contexts_swap d b c = or_assoc d (2 ^ b) (2 ^ c) ∙ ap (bit_or d) (or_comm (2 ^ b) (2 ^ c)) ∙ sym (or_assoc d (2 ^ c) (2 ^ b))
