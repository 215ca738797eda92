use Rattle.std.proofs.Common.{pos, ◌∙◌, arith}
use Rattle.weld_data.specs.Value.{Value}
use Rattle.weld_data.specs.View.{view_val, view_column}
use Rattle.weld_data.specs.declared.kind.Kind.TheVariants as kinds
use Rattle.weld_data.specs.declared.op.MergeOp.TheVariants as merges
use Rattle.weld_builders.specs.Part.{combined}
use Rattle.weld_calls.proofs.Groups.{chained_count}
use Rattle.weld_eager.specs.Reading.{how_many_wrapped}
use Rattle.weld_eager.proofs.Grouping.{may_merge, merged_start, keys_start, counts_more, merged_all, keys_more, keys_kept, keys_agree}
use Rattle.weld_eager.proofs.groups.counts_by_keys.Goals as goal

pub loop-i-init : goal.loop-i-init
loop-i-init c = (
  merged_start (combined merges.Add kinds.I64) (λ (v : Value). pos 1) (view_column c.args.keys.now) (view_column c.args.keys.now) c.empty-counts.result.numbers c.empty-counts.ensures.numbers,
  keys_start _ (view_column c.args.keys.now) c.empty-counts.result.numbers c.empty-counts.ensures.numbers,
  c.empty-counts.ensures.key,
  c.empty-counts.ensures.op,
  c.empty-counts.ensures.kind,
)

pub merge_at_value-requires-clause-key : goal.merge_at_value-requires-clause-key
merge_at_value-requires-clause-key c =
    may_merge c.loop-i.counts.key (view_column c.args.keys.now) c.loop-i.i (view_val c.in_ok-copy_at.field-0) c.loop-i.invariant.2 c.requires c.in_ok-copy_at.ensures

pub loop-i-preserved : goal.loop-i-preserved
loop-i-preserved c = (
  counts_more c.loop-i.counts.kind c.loop-i.counts.op (view_column c.args.keys.now) c.loop-i.i (view_val c.in_ok-copy_at.field-0) c.loop-i.counts.numbers c.merge_at_value.new.self.numbers
      c.loop-i.invariant.3 c.loop-i.invariant.4 c.in_ok-copy_at.ensures c.in_ok-merge_at_value.ensures.ok c.loop-i.invariant.0,
  keys_more (view_column c.args.keys.now) c.loop-i.i (view_val c.in_ok-copy_at.field-0) (combined c.loop-i.counts.op c.loop-i.counts.kind) (pos 1) c.loop-i.counts.numbers c.merge_at_value.new.self.numbers c.in_ok-copy_at.ensures c.in_ok-merge_at_value.ensures.ok c.loop-i.invariant.1,
  c.merge_at_value.ensures.key ∙ c.loop-i.invariant.2,
  c.merge_at_value.ensures.op ∙ c.loop-i.invariant.3,
  c.merge_at_value.ensures.kind ∙ c.loop-i.invariant.4,
)

pub returns-clause-counts : goal.returns-clause-counts
returns-clause-counts c =
    merged_all (combined merges.Add kinds.I64) (λ (v : Value). pos 1) how_many_wrapped (view_column c.args.keys.now) (view_column c.args.keys.now) c.loop-i.i c.loop-i.counts.numbers chained_count
    (omega (arith, c.loop-i-test.false)) (omega (arith, c.loop-i-test.false)) c.loop-i.invariant.0

pub returns-clause-kept : goal.returns-clause-kept
returns-clause-kept c = keys_kept c.loop-i.counts.key (view_column c.args.keys.now) c.loop-i.counts.numbers c.loop-i.invariant.2 c.requires c.loop-i.invariant.1

pub returns-clause-one_type : goal.returns-clause-one_type
returns-clause-one_type c = keys_agree (view_column c.args.keys.now) c.loop-i.counts.numbers c.requires c.loop-i.invariant.1
