use Rattle.std.proofs.Common.{◌≡◌, ◌+◌, ◌*◌, ◌-◌, ◌||◌, drop, map}
use Rattle.weld_tree.specs.ExprTree.{pack_exprs, pack_legs}
use Rattle.weld_tree.specs.ExprFalls.{expr_nodes, exprs_nodes, leg_nodes, legs_nodes}
use Rattle.weld_tree.specs.ExprView.{view_form, view_leg}
use Rattle.weld_tree.specs.Blank.{blank_at}
use Rattle.weld_rewriting.specs.Sweep.{swept, leg_swept, some_move, legs_move}
use Rattle.weld_rewriting.proofs.Lists.{up_to}
use Rattle.weld_rewriting.proofs.sweep.walk.+sweep.Given as goal

-- ten times the nodes, so that a form, a list and its parts differ

abbrev pub decreases-sweep : goal.decreases-sweep
decreases-sweep g l = 10 * expr_nodes l.e.now

abbrev pub decreases-sweep_parts : goal.decreases-sweep_parts
decreases-sweep_parts g l = 10 * expr_nodes (view_form l.form.now blank_at) - 1

abbrev pub decreases-sweep_two : goal.decreases-sweep_two
decreases-sweep_two g l = 10 * (expr_nodes l.first.now + expr_nodes l.second.now) + 1

abbrev pub decreases-sweep_three : goal.decreases-sweep_three
decreases-sweep_three g l = 10 * (expr_nodes l.first.now + expr_nodes l.second.now + expr_nodes l.third.now) + 2

abbrev pub decreases-sweep_loop : goal.decreases-sweep_loop
decreases-sweep_loop g l = 10 * (legs_nodes (pack_legs l.legs.now) + expr_nodes l.builder.now + expr_nodes l.body.now) + 7

abbrev pub decreases-sweep_all : goal.decreases-sweep_all
decreases-sweep_all g l = 10 * exprs_nodes (pack_exprs l.parts.now) + 2

abbrev pub decreases-sweep_each : goal.decreases-sweep_each
decreases-sweep_each g l = 10 * exprs_nodes (pack_exprs l.parts.now) + 1

abbrev pub decreases-sweep_leg : goal.decreases-sweep_leg
decreases-sweep_leg g l = 10 * leg_nodes (view_leg l.leg.now) + 3

abbrev pub decreases-sweep_legs : goal.decreases-sweep_legs
decreases-sweep_legs g l = 10 * legs_nodes (pack_legs l.legs.now) + 5

abbrev pub decreases-sweep_each_leg : goal.decreases-sweep_each_leg
decreases-sweep_each_leg g l = 10 * legs_nodes (pack_legs (map view_leg l.legs.now)) + 4

-- those so far are swept, and what was found there and what is left make the whole

abbrev pub invariant-sweep_each-loop-part : goal.invariant-sweep_each-loop-part
invariant-sweep_each-loop-part g l =
    (some_move (g.R.Rule.rule l.rule) (pack_exprs l.initial.parts) ≡ (l.matched || some_move (g.R.Rule.rule l.rule) (pack_exprs (drop l.part-index l.initial.parts))))
    × (l.parts ≡ up_to (swept (g.R.Rule.rule l.rule)) l.part-index l.initial.parts)

abbrev pub invariant-sweep_each_leg-loop-leg : goal.invariant-sweep_each_leg-loop-leg
invariant-sweep_each_leg-loop-leg g l =
    (legs_move (g.R.Rule.rule l.rule) (pack_legs (map view_leg l.initial.legs)) ≡ (l.matched || legs_move (g.R.Rule.rule l.rule) (pack_legs (drop l.leg-index (map view_leg l.initial.legs)))))
    × (map view_leg l.legs ≡ up_to (leg_swept (g.R.Rule.rule l.rule)) l.leg-index (map view_leg l.initial.legs))
