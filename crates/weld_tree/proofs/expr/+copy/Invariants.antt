use Rattle.std.proofs.Common.{◌≡◌, ◌+◌, ◌*◌, ◌-◌, take, map}
use Rattle.weld_tree.specs.ExprTree.{pack_exprs, pack_legs}
use Rattle.weld_tree.specs.ExprFalls.{expr_nodes, exprs_nodes, leg_nodes, legs_nodes}
use Rattle.weld_tree.specs.ExprView.{view_form, view_leg}
use Rattle.weld_tree.specs.Blank.{blank_at}
use Rattle.weld_tree.proofs.expr.+copy.Given as goal

abbrev pub invariant-Exprs::copy-loop-e : goal.invariant-Exprs::copy-loop-e
invariant-Exprs::copy-loop-e l = l.items.items ≡ take l.e-index l.e-items

abbrev pub invariant-Legs::copy-loop-leg : goal.invariant-Legs::copy-loop-leg
invariant-Legs::copy-loop-leg l = map view_leg l.items.items ≡ map view_leg (take l.leg-index l.leg-items)

-- by nodes; of what is copied for the same nodes, the helper is less than what calls it
abbrev pub decreases-Expr::copy : goal.decreases-Expr::copy
decreases-Expr::copy l = 8 * expr_nodes l.self.now

abbrev pub decreases-Expr::boxed_copy : goal.decreases-Expr::boxed_copy
decreases-Expr::boxed_copy l = 8 * expr_nodes l.self.now + 1

abbrev pub decreases-Form::copy : goal.decreases-Form::copy
decreases-Form::copy l = 8 * expr_nodes (view_form l.self.now blank_at) - 1

abbrev pub decreases-copy::boxed_two : goal.decreases-copy::boxed_two
decreases-copy::boxed_two l = 8 * (expr_nodes l.e.now + expr_nodes l.f.now) + 2

abbrev pub decreases-copy::boxed_three : goal.decreases-copy::boxed_three
decreases-copy::boxed_three l = 8 * (expr_nodes l.e.now + expr_nodes l.f.now + expr_nodes l.g.now) + 3

abbrev pub decreases-copy::copy_loop : goal.decreases-copy::copy_loop
decreases-copy::copy_loop l = 8 * (legs_nodes (pack_legs l.legs.now) + expr_nodes l.e.now + expr_nodes l.f.now) + 6

abbrev pub decreases-Exprs::copy : goal.decreases-Exprs::copy
decreases-Exprs::copy l = 8 * exprs_nodes (pack_exprs l.self.now) + 3

abbrev pub decreases-Leg::copy : goal.decreases-Leg::copy
decreases-Leg::copy l = 8 * leg_nodes (view_leg l.self.now) + 4

abbrev pub decreases-Legs::copy : goal.decreases-Legs::copy
decreases-Legs::copy l = 8 * legs_nodes (pack_legs l.self.now) + 5
