-- The whole law.
use Rattle.rules.specs.Isolation.{Isolation}
use Rattle.rules.proofs.Accesses.{accesses_were_permitted, pages_follow_passed_writes}
use Rattle.rules.proofs.Exactly.{passes_exactly}
use Rattle.rules.proofs.LookedUp.{looked_up}
use Rattle.rules.proofs.Noninterference.{noninterference}
use Rattle.rules.proofs.OldPasswords.{old_passwords_return}
use Rattle.rules.proofs.OneLookUp.{one_look_up}
use Rattle.rules.proofs.Sound.{slots_follow_apps}
use Rattle.rules.proofs.Turns.{turns_have_apps, answered}

pub isolation : Isolation
isolation S =
    record {
      slots_follow_apps = slots_follow_apps S;
      turns_have_apps = turns_have_apps S;
      answered = answered S;
      passes_exactly = passes_exactly S;
      looked_up = looked_up S;
      one_look_up = one_look_up S;
      accesses_were_permitted = accesses_were_permitted S;
      pages_follow_passed_writes = pages_follow_passed_writes S;
      noninterference = noninterference S;
      old_passwords_return = old_passwords_return S;
    }
