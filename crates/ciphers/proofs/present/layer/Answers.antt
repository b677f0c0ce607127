use Rattle.std.proofs.Common.{◌∙◌}
use Rattle.ciphers.proofs.Layers.{by_columns, within}
use Rattle.ciphers.proofs.present.layer.Goals as goal

pub returns : goal.returns
returns c =
    within c.column.result c.column-2.result c.column-3.result c.column-4.result
    c.column-2.ensures.bound c.column-3.ensures.bound c.column-4.ensures.bound
    ∙ rw (c.column.ensures.value, c.column-2.ensures.value, c.column-3.ensures.value, c.column-4.ensures.value) (by_columns c.args.state)
