use Rattle.std.proofs.Common.{arith, subst}
use Rattle.weld_read_script.specs.Columns.{ColumnRead}
use Rattle.weld_read_script.proofs.Joining.{column_more, column_none, columns_all}
use Rattle.weld_read_script.proofs.statements.columns.read_columns.Goals as goal

pub returns-in_default : goal.returns-in_default
returns-in_default c =
    column_none c.args.parts.now c.loop-part.part-index c.part-item.result c.loop-part.names c.loop-part.cells (omega arith) c.part-item.is
    (subst (ColumnRead c.part-item.result.now) c.in_default.is c.in_ok-column.ensures) c.loop-part.invariant

pub loop-part-preserved : goal.loop-part-preserved
loop-part-preserved c =
    column_more c.args.parts.now c.loop-part.part-index c.part-item.result c.loop-part.names c.push.new.self c.loop-part.cells c.push-in-loop-part.new.self c.in-Some.column (omega arith) c.part-item.is
    (subst (ColumnRead c.part-item.result.now) c.in-Some.is c.in_ok-column.ensures) c.in_ok-push.ensures.ok c.in_ok-push-2.ensures.ok c.loop-part.invariant

pub returns : goal.returns
returns c = columns_all c.args.parts.now c.loop-part.part-index c.loop-part.names c.loop-part.cells (omega arith) c.loop-part.invariant
