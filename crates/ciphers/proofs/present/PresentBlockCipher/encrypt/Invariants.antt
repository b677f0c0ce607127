use Rattle.ciphers.proofs.PresentRounds.{After}
use Rattle.ciphers.proofs.present.PresentBlockCipher.encrypt.Given as goal

abbrev pub invariant-loop-i : goal.invariant-loop-i
invariant-loop-i l = After l.initial.key l.block l.i l.key l.state
