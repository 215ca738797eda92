use Rattle.std.proofs.Common.{w64, ap, sym, ◌∙◌}
use Rattle.std.proofs.lemmas.Int.{wrapping_add_is, wrapping_mul_is}
use Rattle.weld_data.specs.declared.kind.Kind.TheVariants as kinds
use Rattle.weld_data.specs.declared.op.MergeOp.{MergeOp}
use Rattle.weld_data.specs.Operation.{combination}
use Rattle.weld_pieces.proofs.number.combine_i64.Goals as goal

pub returns-in-Add : goal.returns-in-Add
returns-in-Add c =
    wrapping_add_is w64 c.args.x c.args.y c.ranges.x c.ranges.y
    ∙ ap (λ (op : MergeOp). combination op kinds.I64 c.args.x c.args.y) (sym c.in-Add.is)

pub returns-in-Mul : goal.returns-in-Mul
returns-in-Mul c =
    wrapping_mul_is w64 c.args.x c.args.y c.ranges.x c.ranges.y
    ∙ ap (λ (op : MergeOp). combination op kinds.I64 c.args.x c.args.y) (sym c.in-Mul.is)
