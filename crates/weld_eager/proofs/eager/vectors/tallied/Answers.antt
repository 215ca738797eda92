use Rattle.std.proofs.Common.{refl, subst, arith}
use Rattle.weld_data.specs.View.{view_val}
use Rattle.weld_eval.specs.Answers.{Answers}
use Rattle.weld_calls.specs.Lists.{numbers}
use Rattle.weld_calls.specs.CallMeaning.{histogram_meaning}
use Rattle.weld_eager.proofs.ByNumber.{enough, has_type}
use Rattle.weld_eager.proofs.eager.vectors.tallied.Goals as goal

pub argument-v-requires : goal.argument-v-requires
argument-v-requires c = omega (arith, enough _ _ _ c.requires.row c.requires.values)

pub argument-starts-requires : goal.argument-starts-requires
argument-starts-requires c = omega (arith, enough _ _ _ c.requires.row c.requires.values)

pub histogram-requires-clause-places : goal.histogram-requires-clause-places
histogram-requires-clause-places c = has_type _ _ _ 0 _ _ c.requires.row c.requires.values (omega arith) refl c.argument-v.ensures

pub histogram-requires-clause-starts : goal.histogram-requires-clause-starts
histogram-requires-clause-starts c = has_type _ _ _ 1 _ _ c.requires.row c.requires.values (omega arith) refl c.argument-starts.ensures

pub returns : goal.returns
returns c = subst (Answers view_val c.or_fault.result) (λ i. histogram_meaning (numbers (c.argument-v.ensures i)) (numbers (c.argument-starts.ensures i))) (c.or_fault.ensures _ c.histogram.ensures)
