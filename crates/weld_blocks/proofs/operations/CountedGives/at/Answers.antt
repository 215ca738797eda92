use Rattle.std.proofs.Common.{◌+◌, ◌∙◌, ap}
use Rattle.weld_data.specs.Value.{number}
use Rattle.weld_data.specs.declared.kind.Kind.TheVariants as kinds
use Rattle.weld_blocks.proofs.Scalars.{counted_on}
use Rattle.weld_blocks.proofs.operations.CountedGives.at.Goals as goal

pub returns : goal.returns
returns c = c.whole_number.ensures ∙ ap (number kinds.I64) (counted_on (c.args.self.now.from + c.args.place))
