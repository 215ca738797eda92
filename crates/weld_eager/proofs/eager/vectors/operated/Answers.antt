use Rattle.std.proofs.Common.{◌∙◌, ap, sym, subst, arith, length}
use Rattle.weld_data.specs.Kind.{IsInteger}
use Rattle.weld_data.specs.View.{view_val}
use Rattle.weld_tree.specs.TypeTree.{scalar, vec}
use Rattle.weld_eval.specs.Answers.{Answers}
use Rattle.weld_calls.specs.CallMeaning.{kind_at, place_by_place}
use Rattle.weld_eager.proofs.ByNumber.{enough, has_type}
use Rattle.weld_eager.proofs.eager.vectors.operated.Goals as goal

pub kind_at-kind-requires : goal.kind_at-kind-requires
kind_at-kind-requires c = omega (arith, ap length c.requires.row.2)

pub argument-v-requires : goal.argument-v-requires
argument-v-requires c = omega (arith, enough _ _ _ c.requires.row.2 c.requires.values)

pub argument-w-requires : goal.argument-w-requires
argument-w-requires c = omega (arith, enough _ _ _ c.requires.row.2 c.requires.values)

pub arithmetic-requires-clause-integer : goal.arithmetic-requires-clause-integer
arithmetic-requires-clause-integer c = subst IsInteger (sym (c.kind_at-kind.ensures ∙ ap (kind_at 0) c.requires.row.2)) c.requires.row.1

pub arithmetic-requires-clause-left : goal.arithmetic-requires-clause-left
arithmetic-requires-clause-left c = has_type _ _ _ 0 _ _ c.requires.row.2 c.requires.values (omega arith) (ap (λ m. vec (scalar m)) (sym (c.kind_at-kind.ensures ∙ ap (kind_at 0) c.requires.row.2))) c.argument-v.ensures

pub arithmetic-requires-clause-right : goal.arithmetic-requires-clause-right
arithmetic-requires-clause-right c = has_type _ _ _ 1 _ _ c.requires.row.2 c.requires.values (omega arith) (ap (λ m. vec (scalar m)) (sym (c.kind_at-kind.ensures ∙ ap (kind_at 0) c.requires.row.2))) c.argument-w.ensures

pub returns : goal.returns
returns c = subst (Answers view_val c.or_fault.result) (λ i. place_by_place c.args.op (c.kind_at-kind.ensures i) (c.argument-v.ensures i) (c.argument-w.ensures i)) (c.or_fault.ensures _ c.arithmetic.ensures)
