-- Calls that the slot table answers by their rules.
use Rattle.std.proofs.Common.{◌≡◌, ℕ, Option, refl, ap, ◌∙◌}
use Rattle.memory.specs.Pages.{Page}
use Rattle.rules.specs.Console as rules
use Rattle.rules.specs.Console.{Machine, Register, Console, Call, Answer, Outcome, answer_of, after}
use Rattle.rules.specs.Calls.{rule}
use Rattle.table.specs.Model.{console_with, Follows}
use Rattle.guard.specs.Model.{Obeys}

-- r is the call's rule, as the table's contract names it; the slot whose turn it is, if any, stays the same
pub by_table : {w : Machine} {f f' : ℕ → Option rules.Slot} {g : Register} {t t' : Option ℕ} {m : ℕ → Page} {call : Call} {a : Answer} (r : Console → Outcome)
    → r (console_with f g t m) ≡ rule w (console_with f g t m) call → Follows f f' a r → t' ≡ t
    → Obeys (record { machine = w; console = console_with f g t m }) call a (record { machine = w; console = console_with f' g t' m })
by_table {f = f} {f' = f'} {g = g} {t = t} {m = m} r e follows same =
    record {
      answers = follows.answers g t m ∙ ap answer_of e;
      leaves = ap (λ n. console_with f' g n m) same ∙ follows.leaves g t m ∙ ap (after (console_with f g t m)) e;
      keeps = refl;
    }
