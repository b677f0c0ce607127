use Rattle.std.proofs.Common.{ap, ◌∙◌, arith}
use lib.Bits.{bit_xor}
use Rattle.ciphers.proofs.KeyRegister.{changed_top}
use Rattle.ciphers.proofs.present.substitute_top.Goals as goal

pub returns : goal.returns
returns c = ap (bit_xor c.args.upper) c.change.ensures ∙ changed_top c.args.upper (omega arith)
