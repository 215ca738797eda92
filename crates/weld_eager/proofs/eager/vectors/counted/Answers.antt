use Rattle.std.proofs.Common.{refl, subst, arith}
use Rattle.weld_data.specs.View.{view_val}
use Rattle.weld_builders.specs.Outcome.{done}
use Rattle.weld_eval.specs.Answers.{Answers}
use Rattle.weld_calls.specs.CallMeaning.{count_meaning}
use Rattle.weld_eager.proofs.ByNumber.{enough, has_type}
use Rattle.weld_eager.proofs.eager.vectors.counted.Goals as goal

pub argument-m-requires : goal.argument-m-requires
argument-m-requires c = omega (arith, enough _ _ _ c.requires.row c.requires.values)

pub count-requires : goal.count-requires
count-requires c = has_type _ _ _ 0 _ _ c.requires.row c.requires.values (omega arith) refl c.argument-m.ensures

pub returns : goal.returns
returns c = subst (Answers view_val c.always.result) (λ i. done (count_meaning (c.argument-m.ensures i))) (c.always.ensures.value _ c.count.ensures)
