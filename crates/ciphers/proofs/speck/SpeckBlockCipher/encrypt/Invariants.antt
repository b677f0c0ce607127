use Rattle.std.proofs.Common.{◌≡◌}
use Rattle.ciphers.specs.Speck.{Keys, schedule, rounds}
use Rattle.ciphers.proofs.speck.SpeckBlockCipher.encrypt.Given as goal

-- after i turns the words are those of the key schedule at step i, and the block is that after i rounds
abbrev pub invariant-loop-i : goal.invariant-loop-i
invariant-loop-i l =
    let start : Keys = record { l2 = l.initial.l2; l1 = l.initial.l1; l0 = l.initial.l0; k = l.initial.key } in
    (◌≡◌ {A = Keys} (record { l2 = l.l2; l1 = l.l1; l0 = l.l0; k = l.key }) (schedule start l.i))
    × (l.state ≡ rounds start l.initial.state l.i)
