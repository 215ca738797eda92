use Rattle.std.proofs.Common.{◌∙◌, ap, sym, subst, arith, length}
use Rattle.weld_data.specs.Kind.{IsInteger}
use Rattle.weld_data.specs.View.{view_val}
use Rattle.weld_data.specs.Value.{number}
use Rattle.weld_tree.specs.TypeTree.{scalar, vec}
use Rattle.weld_builders.specs.Outcome.{done}
use Rattle.weld_eval.specs.Answers.{Answers}
use Rattle.weld_calls.specs.Lists.{numbers}
use Rattle.weld_calls.specs.CallMeaning.{kind_at}
use Rattle.weld_calls.specs.Folds.{combined_all}
use Rattle.weld_data.specs.Operation.{start_of}
use Rattle.weld_eager.proofs.ByNumber.{enough, has_type}
use Rattle.weld_eager.proofs.eager.vectors.combined.Goals as goal

pub kind_at-kind-requires : goal.kind_at-kind-requires
kind_at-kind-requires c = omega (arith, ap length c.requires.row.2)

pub argument-v-requires : goal.argument-v-requires
argument-v-requires c = omega (arith, enough _ _ _ c.requires.row.2 c.requires.values)

pub reduce-requires-clause-integer : goal.reduce-requires-clause-integer
reduce-requires-clause-integer c = subst IsInteger (sym (c.kind_at-kind.ensures ∙ ap (kind_at 0) c.requires.row.2)) c.requires.row.1

pub reduce-requires-clause-vector : goal.reduce-requires-clause-vector
reduce-requires-clause-vector c = has_type _ _ _ 0 _ _ c.requires.row.2 c.requires.values (omega arith) (ap (λ m. vec (scalar m)) (sym (c.kind_at-kind.ensures ∙ ap (kind_at 0) c.requires.row.2))) c.argument-v.ensures

pub returns : goal.returns
returns c = subst (Answers view_val c.always.result) (λ i. done (number (c.kind_at-kind.ensures i) (combined_all c.args.op (c.kind_at-kind.ensures i) (start_of c.args.op (c.kind_at-kind.ensures i)) (numbers (c.argument-v.ensures i))))) (c.always.ensures.value _ c.reduce.ensures)
