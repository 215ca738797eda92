use Rattle.std.proofs.Common.{◌<◌, length, arith}
use Rattle.weld_blocks.proofs.LeafLemmas.{field_bound}
use Rattle.weld_blocks.proofs.leaves.field_of_bound.Goals as goal

pub returns-then-field-len : goal.returns-then-field-len
returns-then-field-len c =
    let less : c.args.field < length c.in-Fields.columns.items = omega arith in
    field_bound c.first_of.result c.args.bound.now c.in-Fields.columns c.index.result.now c.args.field c.args.count c.in-Fields.is less c.index.ensures c.first_of.ensures
