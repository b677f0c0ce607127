use Rattle.ciphers.specs.Parts.{change}
use Rattle.ciphers.specs.declared.present.TheConstants.{CHANGES}
use Rattle.ciphers.proofs.Tables.{table_at}
use Rattle.ciphers.proofs.present.change.Goals as goal

pub returns : goal.returns
returns c = rw c.from.ensures (table_at change 16 CHANGES tt c.args.nibble c.requires)
