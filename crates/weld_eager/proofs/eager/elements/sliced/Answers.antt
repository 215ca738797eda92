use Rattle.std.proofs.Common.{refl, subst, arith}
use Rattle.weld_data.specs.View.{view_val}
use Rattle.weld_eval.specs.Answers.{Answers}
use Rattle.weld_calls.specs.CallMeaning.{slice_meaning}
use Rattle.weld_eager.proofs.ByNumber.{enough, has_type, is_list}
use Rattle.weld_eager.proofs.eager.elements.sliced.Goals as goal

pub argument-v-requires : goal.argument-v-requires
argument-v-requires c = omega (arith, enough _ _ _ c.requires.row.1 c.requires.values)

pub argument-start-requires : goal.argument-start-requires
argument-start-requires c = omega (arith, enough _ _ _ c.requires.row.1 c.requires.values)

pub argument-count-requires : goal.argument-count-requires
argument-count-requires c = omega (arith, enough _ _ _ c.requires.row.1 c.requires.values)

pub slice-requires-clause-vector : goal.slice-requires-clause-vector
slice-requires-clause-vector c = is_list c.requires.row.0 (view_val c.argument-v.result.now) (has_type _ _ _ 0 _ _ c.requires.row.1 c.requires.values (omega arith) refl c.argument-v.ensures)

pub slice-requires-clause-start : goal.slice-requires-clause-start
slice-requires-clause-start c = has_type _ _ _ 1 _ _ c.requires.row.1 c.requires.values (omega arith) refl c.argument-start.ensures

pub slice-requires-clause-count : goal.slice-requires-clause-count
slice-requires-clause-count c = has_type _ _ _ 2 _ _ c.requires.row.1 c.requires.values (omega arith) refl c.argument-count.ensures

pub returns : goal.returns
returns c = subst (Answers view_val c.slice.result) (λ i. slice_meaning (c.argument-v.ensures i) (c.argument-start.ensures i) (c.argument-count.ensures i)) c.slice.ensures
