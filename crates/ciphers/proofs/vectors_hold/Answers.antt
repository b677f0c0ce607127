use Rattle.std.proofs.Common.{refl}
use Rattle.ciphers.proofs.Vectors.{published}
use Rattle.ciphers.proofs.vectors_hold.Goals as goal

pub returns : goal.returns
returns c = (refl, published)
