use Rattle.std.proofs.Common.{ap, refl, subst, arith, length}
use Rattle.weld_data.specs.View.{view_val}
use Rattle.weld_eval.specs.Answers.{Answers}
use Rattle.weld_calls.specs.CallMeaning.{filter_meaning}
use Rattle.weld_eager.proofs.ByNumber.{enough, has_type, kept_as}
use Rattle.weld_eager.proofs.eager.elements.filtered.Goals as goal

pub kept_kind_at-kind-requires : goal.kept_kind_at-kind-requires
kept_kind_at-kind-requires c = omega (arith, ap length c.requires.row.1)

pub argument-c-requires : goal.argument-c-requires
argument-c-requires c = omega (arith, enough _ _ _ c.requires.row.1 c.requires.values)

pub argument-m-requires : goal.argument-m-requires
argument-m-requires c = omega (arith, enough _ _ _ c.requires.row.1 c.requires.values)

pub filter-requires-clause-elements : goal.filter-requires-clause-elements
filter-requires-clause-elements c = kept_as _ _ _ 0 _ _ _ c.requires.row.1 c.requires.values (omega arith) refl c.kept_kind_at-kind.ensures c.argument-c.ensures

pub filter-requires-clause-marks : goal.filter-requires-clause-marks
filter-requires-clause-marks c = has_type _ _ _ 1 _ _ c.requires.row.1 c.requires.values (omega arith) refl c.argument-m.ensures

pub returns : goal.returns
returns c = subst (Answers view_val c.or_fault.result) (λ i. filter_meaning (c.argument-c.ensures i) (c.argument-m.ensures i)) (c.or_fault.ensures _ c.filter.ensures)
