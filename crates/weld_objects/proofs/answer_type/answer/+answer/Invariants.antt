use Rattle.std.proofs.Common.{◌≡◌, ◌+◌, ◌*◌, take, map}
use Rattle.weld_tree.specs.ExprTree.{pack_exprs}
use Rattle.weld_tree.specs.ExprFalls.{expr_nodes, exprs_nodes}
use Rattle.weld_objects.specs.Answered.{answered}
use Rattle.weld_objects.proofs.answer_type.answer.+answer.Given as goal

abbrev pub decreases-answer : goal.decreases-answer
decreases-answer l = 4 * expr_nodes l.e.now

abbrev pub decreases-one_under : goal.decreases-one_under
decreases-one_under l = 4 * expr_nodes l.part.now + 1

abbrev pub decreases-two_under : goal.decreases-two_under
decreases-two_under l = 4 * expr_nodes l.first.now + 1

abbrev pub decreases-vec_under : goal.decreases-vec_under
decreases-vec_under l = 4 * exprs_nodes (pack_exprs l.parts.now) + 1

abbrev pub decreases-struct_under : goal.decreases-struct_under
decreases-struct_under l = 4 * exprs_nodes (pack_exprs l.parts.now) + 1

abbrev pub decreases-let_under : goal.decreases-let_under
decreases-let_under l = 4 * (expr_nodes l.value.now + expr_nodes l.body.now) + 1

-- the fields before have theirs in the list

abbrev pub invariant-struct_under-loop-part : goal.invariant-struct_under-loop-part
invariant-struct_under-loop-part l = l.fields ≡ map (λ e. answered e l.scope) (take l.part-index l.part-items)
