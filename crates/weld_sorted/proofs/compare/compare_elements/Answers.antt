use Rattle.std.proofs.Common.{arith, ◌∙◌}
use Rattle.weld_data.specs.View.{view_column}
use Rattle.weld_builders.specs.ValueOrder.{value_cmp}
use Rattle.weld_sorted.proofs.Comparing.{tie_step, differ, lengths_decide, one_kind_at}
use Rattle.weld_sorted.proofs.compare.compare_elements.Goals as goal

pub returns-in_default : goal.returns-in_default
returns-in_default c =
    differ value_cmp c.compare_numbers.result (view_column c.args.a.now) (view_column c.args.b.now) c.loop-i.i _ _ c.number_at.ensures c.number_at-in-loop-i.ensures c.compare_numbers.ensures c.in_default.not-Equal c.loop-i.invariant

pub loop-i-preserved : goal.loop-i-preserved
loop-i-preserved c =
    tie_step value_cmp c.compare_numbers.result (view_column c.args.a.now) (view_column c.args.b.now) c.loop-i.i _ _ c.number_at.ensures c.number_at-in-loop-i.ensures c.compare_numbers.ensures c.in-Equal.is c.loop-i.invariant

pub returns : goal.returns
returns c = c.cmp.ensures ∙ lengths_decide value_cmp (view_column c.args.a.now) (view_column c.args.b.now) c.loop-i.i _ _ c.len-3.ensures c.len-4.ensures (omega arith) c.loop-i.invariant

pub number_at-requires-clause-number : goal.number_at-requires-clause-number
number_at-requires-clause-number c = one_kind_at (view_column c.args.a.now) c.loop-i.i c.requires.left

pub number_at-requires-in-loop-i-clause-number : goal.number_at-requires-in-loop-i-clause-number
number_at-requires-in-loop-i-clause-number c = one_kind_at (view_column c.args.b.now) c.loop-i.i c.requires.right
