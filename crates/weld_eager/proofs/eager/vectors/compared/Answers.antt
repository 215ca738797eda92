use Rattle.std.proofs.Common.{◌∙◌, ap, sym, subst, arith, length}
use Rattle.weld_data.specs.View.{view_val}
use Rattle.weld_tree.specs.TypeTree.{scalar, vec}
use Rattle.weld_builders.specs.Outcome.{done}
use Rattle.weld_eval.specs.Answers.{Answers}
use Rattle.weld_calls.specs.CallMeaning.{kind_at, compare_meaning}
use Rattle.weld_eager.proofs.ByNumber.{enough, has_type}
use Rattle.weld_eager.proofs.eager.vectors.compared.Goals as goal

pub kind_at-kind-requires : goal.kind_at-kind-requires
kind_at-kind-requires c = omega (arith, ap length c.requires.row.2)

pub argument-v-requires : goal.argument-v-requires
argument-v-requires c = omega (arith, enough _ _ _ c.requires.row.2 c.requires.values)

pub argument-s-requires : goal.argument-s-requires
argument-s-requires c = omega (arith, enough _ _ _ c.requires.row.2 c.requires.values)

pub compare-requires-clause-vector : goal.compare-requires-clause-vector
compare-requires-clause-vector c = has_type _ _ _ 0 _ _ c.requires.row.2 c.requires.values (omega arith) (ap (λ m. vec (scalar m)) (sym (c.kind_at-kind.ensures ∙ ap (kind_at 0) c.requires.row.2))) c.argument-v.ensures

pub compare-requires-clause-number : goal.compare-requires-clause-number
compare-requires-clause-number c = has_type _ _ _ 1 _ _ c.requires.row.2 c.requires.values (omega arith) (ap (λ m. scalar m) (sym (c.kind_at-kind.ensures ∙ ap (kind_at 0) c.requires.row.2))) c.argument-s.ensures

pub returns : goal.returns
returns c = subst (Answers view_val c.always.result) (λ i. done (compare_meaning c.args.op (c.argument-v.ensures i) (c.argument-s.ensures i))) (c.always.ensures.value _ c.compare.ensures)
