use Rattle.std.proofs.Common.{rules, ◌≡◌, ℕ, refl, ap, ◌∙◌, arith}
use lib.Bits.{bit_xor}
use Rattle.ciphers.specs.Present.{register, add_round_key, rounds, encrypted}
use Rattle.ciphers.proofs.PresentRounds.{after_more}
use Rattle.ciphers.proofs.present.PresentBlockCipher.encrypt.Goals as goal

pub loop-i-init : goal.loop-i-init
unfolding register rounds
loop-i-init c = record { register_is = refl; keyed = ap (bit_xor c.args.block) c.round_key.ensures }

pub loop-i-preserved : goal.loop-i-preserved
loop-i-preserved c =
    let next = after_more _ _ c.loop-i.i _ _ _ _ c.loop-i.invariant c.update-key.ensures c.layer.ensures in search rules

pub returns : goal.returns
unfolding encrypted
returns c =
    let end : c.loop-i.i ≡ 31 = omega arith in
    let state : c.loop-i.state ≡ add_round_key (register c.from-key.result c.loop-i.i) (rounds c.from-key.result c.args.block c.loop-i.i) =
    c.loop-i.invariant.keyed ∙ ap (λ (k : ℕ). add_round_key k (rounds c.from-key.result c.args.block c.loop-i.i)) c.loop-i.invariant.register_is in
    rw (← c.from-key.ensures, ← end) state
