use Rattle.std.proofs.Common.{refl, subst, arith}
use Rattle.weld_data.specs.View.{view_val}
use Rattle.weld_meaning.specs.Thing.{value_field}
use Rattle.weld_eval.specs.Answers.{Answers}
use Rattle.weld_eager.proofs.ByNumber.{enough, has_type, has_field}
use Rattle.weld_eager.proofs.eager.elements.picked.Goals as goal

pub argument-table-requires : goal.argument-table-requires
argument-table-requires c = omega (arith, enough _ _ _ c.requires.row.4 c.requires.values)

pub column-requires : goal.column-requires
column-requires c = has_field c.args.field c.requires.row.0 c.requires.row.1 (view_val c.argument-table.result.now) c.requires.row.3 (has_type _ _ _ 0 _ _ c.requires.row.4 c.requires.values (omega arith) refl c.argument-table.ensures)

pub returns : goal.returns
returns c = subst (Answers view_val c.always.result) (λ i. value_field c.args.field (c.argument-table.ensures i)) (c.always.ensures.outcome _ c.column.ensures)
