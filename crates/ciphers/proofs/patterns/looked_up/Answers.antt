use Rattle.std.proofs.Common.{◌≡◌, ℕ, ◌*◌, ◌^◌, ◌<◌, get_or, [], arith}
use Rattle.ciphers.specs.Parts.{pattern}
use Rattle.ciphers.specs.declared.patterns.TheConstants.{PATTERNS}
use Rattle.ciphers.proofs.Tables.{table_at, in_two}
use Rattle.ciphers.proofs.patterns.looked_up.Goals as goal

pub returns : goal.returns
returns c =
    let b : ℕ = c.args.byte in
    let h : b < 256 = omega arith in
    rw c.from.ensures (
    in_two (λ t. get_or (get_or PATTERNS t []) b 0 ≡ pattern b * 2 ^ (8 * t))
    (table_at (λ v. pattern v * 2 ^ (8 * 0)) 256 (get_or PATTERNS 0 []) tt b h)
    (table_at (λ v. pattern v * 2 ^ (8 * 1)) 256 (get_or PATTERNS 1 []) tt b h)
    c.args.table c.requires
    )
