use Rattle.std.proofs.Common.{ap, refl, subst, arith, length}
use Rattle.weld_data.specs.View.{view_val}
use Rattle.weld_eval.specs.Answers.{Answers}
use Rattle.weld_calls.specs.CallMeaning.{take_meaning}
use Rattle.weld_eager.proofs.ByNumber.{enough, has_type, kept_as}
use Rattle.weld_eager.proofs.eager.elements.taken.Goals as goal

pub kept_kind_at-kind-requires : goal.kept_kind_at-kind-requires
kept_kind_at-kind-requires c = omega (arith, ap length c.requires.row.1)

pub argument-v-requires : goal.argument-v-requires
argument-v-requires c = omega (arith, enough _ _ _ c.requires.row.1 c.requires.values)

pub argument-places-requires : goal.argument-places-requires
argument-places-requires c = omega (arith, enough _ _ _ c.requires.row.1 c.requires.values)

pub take-requires-clause-elements : goal.take-requires-clause-elements
take-requires-clause-elements c = kept_as _ _ _ 0 _ _ _ c.requires.row.1 c.requires.values (omega arith) refl c.kept_kind_at-kind.ensures c.argument-v.ensures

pub take-requires-clause-places : goal.take-requires-clause-places
take-requires-clause-places c = has_type _ _ _ 1 _ _ c.requires.row.1 c.requires.values (omega arith) refl c.argument-places.ensures

pub returns : goal.returns
returns c = subst (Answers view_val c.or_fault.result) (λ i. take_meaning (c.argument-v.ensures i) (c.argument-places.ensures i)) (c.or_fault.ensures _ c.take.ensures)
