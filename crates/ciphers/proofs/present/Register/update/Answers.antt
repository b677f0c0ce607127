use Rattle.std.proofs.Common.{arith}
use Rattle.ciphers.proofs.KeyRegister.{advanced}
use Rattle.ciphers.proofs.present.Register.update.Goals as goal

pub invariant_of-result : goal.invariant_of-result
invariant_of-result c = (advanced _ _ _ c.args.round c.self.invariant (omega arith) (omega arith) c.substitute_top.ensures).1

pub returns : goal.returns
returns c =
    rw (← c.self.view_is)
    ((advanced _ _ _ c.args.round c.self.invariant (omega arith) (omega arith) c.substitute_top.ensures).0)
