use Rattle.std.proofs.Common.{ap, ◌∙◌, List}
use Rattle.weld_tree.specs.ExprTree.{ExprTree, pack_exprs}
use Rattle.weld_objects.specs.Answered.{all_answered}
use Rattle.weld_tree.specs.TypeTree.{struct}
use Rattle.weld_objects.proofs.Answers.{one_more_field, fields_all}
use Rattle.weld_objects.proofs.answer_type.answer.+answer.Goals as goal

pub struct_under-loop-part-preserved : goal.struct_under-loop-part-preserved
struct_under-loop-part-preserved t c =
    one_more_field c.as_slice-part-items.result.now c.args.scope.now c.loop-part.part-index c.part-item.result c.in_ok-ty.ty c.loop-part.fields c.push.new.self
    c.loop-part-test.true c.part-item.is c.loop-part.invariant c.in_ok-ty.ensures c.in_ok-push.ensures.ok

pub struct_under-returns : goal.struct_under-returns
struct_under-returns t c =
    c.struct_of.ensures ∙ ap struct (fields_all c.as_slice-part-items.result.now c.args.scope.now c.loop-part.part-index c.loop-part.fields c.loop-part-test.false c.loop-part.invariant
    ∙ ap (λ (es : List ExprTree). all_answered (pack_exprs es) c.args.scope.now) c.as_slice-part-items.ensures.value)
