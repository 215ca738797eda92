use Rattle.std.proofs.Common.{◌∙◌, ap, sym, subst, arith, length}
use Rattle.weld_data.specs.Kind.{IsInteger}
use Rattle.weld_data.specs.View.{view_val}
use Rattle.weld_tree.specs.TypeTree.{scalar, vec}
use Rattle.weld_builders.specs.Outcome.{done}
use Rattle.weld_eval.specs.Answers.{Answers}
use Rattle.weld_calls.specs.CallMeaning.{kind_at, scale_meaning}
use Rattle.weld_eager.proofs.ByNumber.{enough, has_type}
use Rattle.weld_eager.proofs.eager.vectors.scaled.Goals as goal

pub kind_at-kind-requires : goal.kind_at-kind-requires
kind_at-kind-requires c = omega (arith, ap length c.requires.row.2)

pub argument-v-requires : goal.argument-v-requires
argument-v-requires c = omega (arith, enough _ _ _ c.requires.row.2 c.requires.values)

pub argument-s-requires : goal.argument-s-requires
argument-s-requires c = omega (arith, enough _ _ _ c.requires.row.2 c.requires.values)

pub scale-requires-clause-integer : goal.scale-requires-clause-integer
scale-requires-clause-integer c = subst IsInteger (sym (c.kind_at-kind.ensures ∙ ap (kind_at 0) c.requires.row.2)) c.requires.row.1

pub scale-requires-clause-vector : goal.scale-requires-clause-vector
scale-requires-clause-vector c = has_type _ _ _ 0 _ _ c.requires.row.2 c.requires.values (omega arith) (ap (λ m. vec (scalar m)) (sym (c.kind_at-kind.ensures ∙ ap (kind_at 0) c.requires.row.2))) c.argument-v.ensures

pub scale-requires-clause-number : goal.scale-requires-clause-number
scale-requires-clause-number c = has_type _ _ _ 1 _ _ c.requires.row.2 c.requires.values (omega arith) (ap (λ m. scalar m) (sym (c.kind_at-kind.ensures ∙ ap (kind_at 0) c.requires.row.2))) c.argument-s.ensures

pub returns : goal.returns
returns c = subst (Answers view_val c.always.result) (λ i. done (scale_meaning (c.kind_at-kind.ensures i) (c.argument-v.ensures i) (c.argument-s.ensures i))) (c.always.ensures.value _ c.scale.ensures)
