-- The published vectors, computed from the definitions.
use Rattle.std.proofs.Common.{refl}
use Rattle.ciphers.specs.Speck as Speck
use Rattle.ciphers.specs.Present as Present
use Rattle.ciphers.specs.Vectors.{PublishedVectors}

pub published : PublishedVectors
unfolding Speck.encrypted Speck.rounds Speck.schedule Speck.next Present.encrypted Present.rounds Present.register Present.update Present.p_layer Present.s_box_layer Present.sum
published = (refl, (refl, refl, refl, refl))
