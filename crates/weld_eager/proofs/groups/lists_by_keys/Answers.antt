use Rattle.std.proofs.Common.{◌∷◌, [], ◌∙◌, arith}
use Rattle.weld_data.specs.Value.{Value}
use Rattle.weld_data.specs.View.{view_val, view_column}
use Rattle.weld_builders.specs.Part.{appended}
use Rattle.weld_calls.proofs.Groups.{chained_list}
use Rattle.weld_eager.proofs.Keeping.{may_push}
use Rattle.weld_eager.proofs.Grouping.{may_merge, merged_start, keys_start, lists_more, merged_all, keys_more, keys_kept, keys_agree}
use Rattle.weld_eager.proofs.groups.lists_by_keys.Goals as goal

pub loop-i-init : goal.loop-i-init
loop-i-init c = (
  merged_start appended (λ (v : Value). v ∷ []) (view_column c.args.keys.now) (view_column c.args.vs.now) c.empty-lists.result.groups c.empty-lists.ensures.groups,
  keys_start _ (view_column c.args.keys.now) c.empty-lists.result.groups c.empty-lists.ensures.groups,
  c.empty-lists.ensures.key,
  c.empty-lists.ensures.items,
)

pub push_at_value-requires-clause-key : goal.push_at_value-requires-clause-key
push_at_value-requires-clause-key c =
    may_merge c.loop-i.lists.key (view_column c.args.keys.now) c.loop-i.i (view_val c.in_ok-copy_at.field-0) c.loop-i.invariant.2 c.requires.keys c.in_ok-copy_at.ensures

pub push_at_value-requires-clause-item : goal.push_at_value-requires-clause-item
push_at_value-requires-clause-item c =
    may_push c.args.kind c.loop-i.lists.items (view_column c.args.vs.now) c.loop-i.i (view_val c.in_ok-copy_at-2.field-0) c.loop-i.invariant.3 c.requires.elements c.in_ok-copy_at-2.ensures

pub loop-i-preserved : goal.loop-i-preserved
loop-i-preserved c = (
  lists_more (view_column c.args.keys.now) (view_column c.args.vs.now) c.loop-i.i (view_val c.in_ok-copy_at.field-0) (view_val c.in_ok-copy_at-2.field-0) c.loop-i.lists.groups c.push_at_value.new.self.groups
      c.in_ok-copy_at.ensures c.in_ok-copy_at-2.ensures c.in_ok-push_at_value.ensures.ok c.loop-i.invariant.0,
  keys_more (view_column c.args.keys.now) c.loop-i.i (view_val c.in_ok-copy_at.field-0) appended (view_val c.in_ok-copy_at-2.field-0 ∷ []) c.loop-i.lists.groups c.push_at_value.new.self.groups c.in_ok-copy_at.ensures c.in_ok-push_at_value.ensures.ok c.loop-i.invariant.1,
  c.push_at_value.ensures.key ∙ c.loop-i.invariant.2,
  c.push_at_value.ensures.items ∙ c.loop-i.invariant.3,
)

pub returns-clause-lists : goal.returns-clause-lists
returns-clause-lists c =
    merged_all appended (λ (v : Value). v ∷ []) (λ us. us) (view_column c.args.keys.now) (view_column c.args.vs.now) c.loop-i.i c.loop-i.lists.groups chained_list
    (omega (arith, c.requires.count, c.loop-i-test.false)) (omega (arith, c.loop-i-test.false)) c.loop-i.invariant.0

pub returns-clause-kept : goal.returns-clause-kept
returns-clause-kept c = keys_kept c.loop-i.lists.key (view_column c.args.keys.now) c.loop-i.lists.groups c.loop-i.invariant.2 c.requires.keys c.loop-i.invariant.1

pub returns-clause-one_type : goal.returns-clause-one_type
returns-clause-one_type c = keys_agree (view_column c.args.keys.now) c.loop-i.lists.groups c.requires.keys c.loop-i.invariant.1
