use Rattle.std.proofs.Common.{◌∙◌, ap, sym, refl, subst, arith, length}
use Rattle.weld_data.specs.Kind.{IsInteger}
use Rattle.weld_data.specs.View.{view_val}
use Rattle.weld_tree.specs.TypeTree.{scalar, vec}
use Rattle.weld_eval.specs.Answers.{Answers}
use Rattle.weld_calls.specs.CallMeaning.{kind_at, group_sum_meaning}
use Rattle.weld_eager.proofs.ByNumber.{enough, has_type, keys_as}
use Rattle.weld_eager.proofs.eager.elements.summed_by_keys.Goals as goal

pub kind_at-kind-requires : goal.kind_at-kind-requires
kind_at-kind-requires c = omega (arith, ap length c.requires.row.4)

pub argument-keys-requires : goal.argument-keys-requires
argument-keys-requires c = omega (arith, enough _ _ _ c.requires.row.4 c.requires.values)

pub argument-v-requires : goal.argument-v-requires
argument-v-requires c = omega (arith, enough _ _ _ c.requires.row.4 c.requires.values)

pub group_sum-requires-clause-integer : goal.group_sum-requires-clause-integer
group_sum-requires-clause-integer c = subst IsInteger (sym (c.kind_at-kind.ensures ∙ ap (kind_at 1) c.requires.row.4)) c.requires.row.3

pub group_sum-requires-clause-keys : goal.group_sum-requires-clause-keys
group_sum-requires-clause-keys c = keys_as _ _ _ 0 _ _ c.requires.row.4 c.requires.values (omega arith) refl c.argument-keys.ensures c.requires.row.2

pub group_sum-requires-clause-numbers : goal.group_sum-requires-clause-numbers
group_sum-requires-clause-numbers c = has_type _ _ _ 1 _ _ c.requires.row.4 c.requires.values (omega arith) (ap (λ m. vec (scalar m)) (sym (c.kind_at-kind.ensures ∙ ap (kind_at 1) c.requires.row.4))) c.argument-v.ensures

pub returns : goal.returns
returns c = subst (Answers view_val c.or_fault.result) (λ i. group_sum_meaning (c.kind_at-kind.ensures i) (c.argument-keys.ensures i) (c.argument-v.ensures i)) (c.or_fault.ensures _ c.group_sum.ensures)
