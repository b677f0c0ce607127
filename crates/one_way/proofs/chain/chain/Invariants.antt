use Rattle.std.proofs.Common.{min}
use Rattle.one_way.proofs.Places.{Filled}
use Rattle.one_way.proofs.chain.chain.Given as goal

abbrev pub invariant-loop-i : goal.invariant-loop-i
invariant-loop-i g l = Filled g.F.OneWay.meaning.H l.parameter (min l.length 8) l.master l.passwords l.i
