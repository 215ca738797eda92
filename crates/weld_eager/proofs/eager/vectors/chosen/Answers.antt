use Rattle.std.proofs.Common.{◌∙◌, ap, sym, refl, subst, arith, length}
use Rattle.weld_data.specs.View.{view_val}
use Rattle.weld_tree.specs.TypeTree.{scalar, vec}
use Rattle.weld_eval.specs.Answers.{Answers}
use Rattle.weld_calls.specs.CallMeaning.{kind_at, where_meaning}
use Rattle.weld_eager.proofs.ByNumber.{enough, has_type}
use Rattle.weld_eager.proofs.eager.vectors.chosen.Goals as goal

pub kind_at-kind-requires : goal.kind_at-kind-requires
kind_at-kind-requires c = omega (arith, ap length c.requires.row.2)

pub argument-m-requires : goal.argument-m-requires
argument-m-requires c = omega (arith, enough _ _ _ c.requires.row.2 c.requires.values)

pub argument-v-requires : goal.argument-v-requires
argument-v-requires c = omega (arith, enough _ _ _ c.requires.row.2 c.requires.values)

pub argument-w-requires : goal.argument-w-requires
argument-w-requires c = omega (arith, enough _ _ _ c.requires.row.2 c.requires.values)

pub where_-requires-clause-marks : goal.where_-requires-clause-marks
where_-requires-clause-marks c = has_type _ _ _ 0 _ _ c.requires.row.2 c.requires.values (omega arith) refl c.argument-m.ensures

pub where_-requires-clause-left : goal.where_-requires-clause-left
where_-requires-clause-left c = has_type _ _ _ 1 _ _ c.requires.row.2 c.requires.values (omega arith) (ap (λ m. vec (scalar m)) (sym (c.kind_at-kind.ensures ∙ ap (kind_at 1) c.requires.row.2))) c.argument-v.ensures

pub where_-requires-clause-right : goal.where_-requires-clause-right
where_-requires-clause-right c = has_type _ _ _ 2 _ _ c.requires.row.2 c.requires.values (omega arith) (ap (λ m. vec (scalar m)) (sym (c.kind_at-kind.ensures ∙ ap (kind_at 1) c.requires.row.2))) c.argument-w.ensures

pub returns : goal.returns
returns c = subst (Answers view_val c.or_fault.result) (λ i. where_meaning (c.kind_at-kind.ensures i) (c.argument-m.ensures i) (c.argument-v.ensures i) (c.argument-w.ensures i)) (c.or_fault.ensures _ c.where_.ensures)
