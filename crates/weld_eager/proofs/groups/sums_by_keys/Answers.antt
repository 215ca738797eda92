use Rattle.std.proofs.Common.{pos, slice_index_or, sym, subst, ◌∙◌, arith}
use Rattle.weld_data.specs.View.{view_val, view_column}
use Rattle.weld_data.specs.declared.op.MergeOp.TheVariants as merges
use Rattle.weld_data.specs.Kind.{InRange}
use Rattle.weld_data.specs.Wrapped.{wrapped}
use Rattle.weld_builders.specs.Part.{combined}
use Rattle.weld_eager.proofs.Words.{bits, cell_in_range}
use Rattle.weld_calls.specs.Lists.{wrapped_sum}
use Rattle.weld_calls.proofs.Groups.{chained_sum}
use Rattle.weld_eager.proofs.Grouping.{may_merge, merged_start, keys_start, sums_more, merged_all, keys_more, keys_kept, keys_agree}
use Rattle.weld_eager.proofs.groups.sums_by_keys.Goals as goal

pub loop-i-init : goal.loop-i-init
loop-i-init c = (
  merged_start (combined merges.Add c.args.kind) (wrapped c.args.kind) (view_column c.args.keys.now) c.args.xs.now c.empty-sums.result.numbers c.empty-sums.ensures.numbers,
  keys_start _ (view_column c.args.keys.now) c.empty-sums.result.numbers c.empty-sums.ensures.numbers,
  c.empty-sums.ensures.key,
  c.empty-sums.ensures.op,
  c.empty-sums.ensures.kind,
)

pub merge_at_value-requires-clause-key : goal.merge_at_value-requires-clause-key
merge_at_value-requires-clause-key c =
    may_merge c.loop-i.sums.key (view_column c.args.keys.now) c.loop-i.i (view_val c.in_ok-copy_at.field-0) c.loop-i.invariant.2 c.requires.keys c.in_ok-copy_at.ensures

pub merge_at_value-requires-clause-in_range : goal.merge_at_value-requires-clause-in_range
merge_at_value-requires-clause-in_range c =
    subst (λ k. InRange k (bits (slice_index_or c.args.xs.now c.loop-i.i (pos 0)))) (sym c.loop-i.invariant.4) (cell_in_range c.args.kind c.args.xs.now c.loop-i.i c.requires.numbers (omega arith))

pub loop-i-preserved : goal.loop-i-preserved
loop-i-preserved c = (
  sums_more c.args.kind c.loop-i.sums.kind c.loop-i.sums.op (view_column c.args.keys.now) c.args.xs.now c.loop-i.i (view_val c.in_ok-copy_at.field-0) c.loop-i.sums.numbers c.merge_at_value.new.self.numbers
      c.requires.numbers (omega arith) c.loop-i.invariant.3 c.loop-i.invariant.4 c.in_ok-copy_at.ensures c.in_ok-merge_at_value.ensures.ok c.loop-i.invariant.0,
  keys_more (view_column c.args.keys.now) c.loop-i.i (view_val c.in_ok-copy_at.field-0) (combined c.loop-i.sums.op c.loop-i.sums.kind) (bits (slice_index_or c.args.xs.now c.loop-i.i (pos 0))) c.loop-i.sums.numbers c.merge_at_value.new.self.numbers c.in_ok-copy_at.ensures c.in_ok-merge_at_value.ensures.ok c.loop-i.invariant.1,
  c.merge_at_value.ensures.key ∙ c.loop-i.invariant.2,
  c.merge_at_value.ensures.op ∙ c.loop-i.invariant.3,
  c.merge_at_value.ensures.kind ∙ c.loop-i.invariant.4,
)

pub returns-clause-sums : goal.returns-clause-sums
returns-clause-sums c =
    merged_all (combined merges.Add c.args.kind) (wrapped c.args.kind) (wrapped_sum c.args.kind) (view_column c.args.keys.now) c.args.xs.now c.loop-i.i c.loop-i.sums.numbers (chained_sum c.args.kind)
    (omega (arith, c.requires.count, c.loop-i-test.false)) (omega (arith, c.loop-i-test.false)) c.loop-i.invariant.0

pub returns-clause-kept : goal.returns-clause-kept
returns-clause-kept c = keys_kept c.loop-i.sums.key (view_column c.args.keys.now) c.loop-i.sums.numbers c.loop-i.invariant.2 c.requires.keys c.loop-i.invariant.1

pub returns-clause-one_type : goal.returns-clause-one_type
returns-clause-one_type c = keys_agree (view_column c.args.keys.now) c.loop-i.sums.numbers c.requires.keys c.loop-i.invariant.1
