use Rattle.std.proofs.Common.{refl, subst, arith}
use Rattle.weld_data.specs.View.{view_val}
use Rattle.weld_eval.specs.Answers.{Answers}
use Rattle.weld_calls.specs.Lists.{items}
use Rattle.weld_calls.specs.CallMeaning.{group_count_meaning}
use Rattle.weld_eager.proofs.ByNumber.{enough, keys_as}
use Rattle.weld_eager.proofs.eager.elements.counted_by_keys.Goals as goal

pub argument-keys-requires : goal.argument-keys-requires
argument-keys-requires c = omega (arith, enough _ _ _ c.requires.row.2 c.requires.values)

pub group_count-requires : goal.group_count-requires
group_count-requires c = keys_as _ _ _ 0 _ _ c.requires.row.2 c.requires.values (omega arith) refl c.argument-keys.ensures c.requires.row.1

pub returns : goal.returns
returns c = subst (Answers view_val c.always.result) (λ i. group_count_meaning (items (c.argument-keys.ensures i))) (c.always.ensures.outcome _ c.group_count.ensures)
