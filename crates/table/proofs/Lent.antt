-- What is told of the slots in a turn, told of the table that was lent for it.
use Rattle.std.proofs.Common.{◌≡◌, ℕ, Option, sym}
use Rattle.rules.specs.Console as rules
use Rattle.rules.specs.Console.{Console, Answer, Outcome}
use Rattle.table.specs.Model.{in_turn, Follows, Closes}

module _ {f g f' g' : ℕ → Option rules.Slot} {own s : ℕ} where
  pub closes_lent : (d : ℕ) → Closes f f' own d → f ≡ g → f' ≡ g' → own ≡ s → Closes g g' s d
  closes_lent d h before after slot = rw (sym before, sym after, sym slot) h

  pub follows_lent : {a : Answer} (rule : ℕ → Console → rules.Slot → Outcome) → Follows f f' a (in_turn own (rule own)) → f ≡ g → f' ≡ g' → own ≡ s → Follows g g' a (in_turn s (rule s))
  follows_lent rule h before after slot = rw (sym before, sym after, sym slot) h
