use Rattle.weld_data.specs.View.{view_column}
use Rattle.weld_tree.specs.TypeTree.{scalar, vec}
use Rattle.weld_eval.specs.Elements.{view_element}
use Rattle.weld_eager.proofs.Combining.{pushed, all_in_range_more}
use Rattle.weld_eager.proofs.DotRows.{typed_at, dots_more, dots_stop, some_answer, none_answer, some_in_range}
use Rattle.weld_eager.proofs.rows.dots.Goals as goal

pub element_dot-requires-clause-row : goal.element_dot-requires-clause-row
element_dot-requires-clause-row c =
    typed_at (vec (scalar c.args.kind)) (view_column c.args.rows.now) c.loop-i.i (view_element c.element_of.result) c.requires.rows c.element_of.ensures

pub returns-in_default-clause-answer : goal.returns-in_default-clause-answer
returns-in_default-clause-answer c =
    dots_stop c.args.kind c.args.weights.now (view_column c.args.rows.now) c.loop-i.i (view_element c.element_of.result) c.loop-i.zs.items c.element_of.ensures
    (none_answer c.in_ok-z.field-0 _ c.in_default.is c.in_ok-z.ensures.value) c.loop-i.invariant.0

pub loop-i-preserved : goal.loop-i-preserved
loop-i-preserved c =
    let fits = some_in_range c.args.kind c.in_ok-z.field-0 c.in-Some.z c.in-Some.is c.in_ok-z.ensures.in_range in
    let more = pushed c.args.kind c.loop-i.zs.items c.push.new.self.items c.in-Some.z fits c.in_ok-push.ensures.items in (
      dots_more c.args.kind c.args.weights.now (view_column c.args.rows.now) c.loop-i.i (view_element c.element_of.result) c.in-Some.z c.loop-i.zs.items c.push.new.self.items c.element_of.ensures
          (some_answer c.in_ok-z.field-0 c.in-Some.z _ c.in-Some.is c.in_ok-z.ensures.value) more c.loop-i.invariant.0,
      all_in_range_more c.args.kind c.loop-i.zs.items c.push.new.self.items c.in-Some.z c.loop-i.invariant.1 fits more,
      c.loop-i.invariant.2,
    )
