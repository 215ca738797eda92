use Rattle.std.proofs.Common.{ap, refl, subst, arith, length}
use Rattle.weld_data.specs.View.{view_val}
use Rattle.weld_eval.specs.Answers.{Answers}
use Rattle.weld_calls.specs.CallMeaning.{group_list_meaning}
use Rattle.weld_eager.proofs.ByNumber.{enough, kept_as, keys_as}
use Rattle.weld_eager.proofs.eager.elements.listed_by_keys.Goals as goal

pub kept_kind_at-kind-requires : goal.kept_kind_at-kind-requires
kept_kind_at-kind-requires c = omega (arith, ap length c.requires.row.3)

pub argument-keys-requires : goal.argument-keys-requires
argument-keys-requires c = omega (arith, enough _ _ _ c.requires.row.3 c.requires.values)

pub argument-v-requires : goal.argument-v-requires
argument-v-requires c = omega (arith, enough _ _ _ c.requires.row.3 c.requires.values)

pub group_list-requires-clause-keys : goal.group_list-requires-clause-keys
group_list-requires-clause-keys c = keys_as _ _ _ 0 _ _ c.requires.row.3 c.requires.values (omega arith) refl c.argument-keys.ensures c.requires.row.2

pub group_list-requires-clause-elements : goal.group_list-requires-clause-elements
group_list-requires-clause-elements c = kept_as _ _ _ 1 _ _ _ c.requires.row.3 c.requires.values (omega arith) refl c.kept_kind_at-kind.ensures c.argument-v.ensures

pub returns : goal.returns
returns c = subst (Answers view_val c.or_fault.result) (λ i. group_list_meaning (c.argument-keys.ensures i) (c.argument-v.ensures i)) (c.or_fault.ensures _ c.group_list.ensures)
