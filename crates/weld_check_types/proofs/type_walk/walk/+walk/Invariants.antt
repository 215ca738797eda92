use Rattle.std.proofs.Common.{◌≡◌, ◌+◌, ◌*◌, ◌-◌, drop, map}
use Rattle.weld_tree.specs.ExprTree.{pack_exprs, pack_legs}
use Rattle.weld_tree.specs.ExprFalls.{expr_nodes, exprs_nodes, leg_nodes, legs_nodes}
use Rattle.weld_tree.specs.ExprView.{view_form, view_leg}
use Rattle.weld_tree.specs.declared.known.Known.TheVariants.{Blank}
use Rattle.weld_types.specs.Walk.{strips_of, types_of}
use Rattle.weld_check_types.specs.Gathered.{gathered_strips, gathered_types}
use Rattle.weld_check_types.specs.Noted.{at, leg_with_types, typed}
use Rattle.weld_check_types.proofs.TypeWalkNoting.{up_to}
use Rattle.weld_check_types.proofs.type_walk.walk.+walk.Given as goal

-- the measure: the nodes that are left to go over, eight for each, so that a form and its parts differ

abbrev pub decreases-note_types : goal.decreases-note_types
decreases-note_types l = 8 * expr_nodes l.e.now

abbrev pub decreases-form_under : goal.decreases-form_under
decreases-form_under l = 8 * expr_nodes (view_form l.form.now (at l.place Blank)) - 1

abbrev pub decreases-one_under : goal.decreases-one_under
decreases-one_under l = 8 * expr_nodes l.part.now + 1

abbrev pub decreases-two_under : goal.decreases-two_under
decreases-two_under l = 8 * (expr_nodes l.first.now + expr_nodes l.second.now) + 1

abbrev pub decreases-three_under : goal.decreases-three_under
decreases-three_under l = 8 * (expr_nodes l.first.now + expr_nodes l.second.now + expr_nodes l.third.now) + 1

abbrev pub decreases-many_under : goal.decreases-many_under
decreases-many_under l = 8 * exprs_nodes (pack_exprs l.parts.now) + 3

abbrev pub decreases-each_under : goal.decreases-each_under
decreases-each_under l = 8 * exprs_nodes (pack_exprs l.parts.now) + 2

abbrev pub decreases-push_under : goal.decreases-push_under
decreases-push_under l = 8 * expr_nodes l.e.now + 1

abbrev pub decreases-let_under : goal.decreases-let_under
decreases-let_under l = 8 * (expr_nodes l.value.now + expr_nodes l.body.now) + 1

abbrev pub decreases-iterate_under : goal.decreases-iterate_under
decreases-iterate_under l = 8 * (expr_nodes l.state.now + expr_nodes l.body.now) + 1

abbrev pub decreases-loop_under : goal.decreases-loop_under
decreases-loop_under l = 8 * (legs_nodes (pack_legs l.legs.now) + expr_nodes l.builder.now + expr_nodes l.body.now) + 5

abbrev pub decreases-legs_under : goal.decreases-legs_under
decreases-legs_under l = 8 * legs_nodes (pack_legs l.legs.now) + 4

abbrev pub decreases-each_leg_under : goal.decreases-each_leg_under
decreases-each_leg_under l = 8 * legs_nodes (pack_legs (map view_leg l.legs.now)) + 3

abbrev pub decreases-leg_under : goal.decreases-leg_under
decreases-leg_under l = 8 * leg_nodes (view_leg l.leg.now) + 2

abbrev pub decreases-rows_under : goal.decreases-rows_under
decreases-rows_under l = 8 * (expr_nodes l.builder.now + expr_nodes l.body.now) + 3

abbrev pub decreases-body_under : goal.decreases-body_under
decreases-body_under l = 8 * expr_nodes l.body.now + 2

-- what was gathered so far and what is left make the whole, and the types of those before are noted

abbrev pub invariant-each_under-loop-part : goal.invariant-each_under-loop-part
invariant-each_under-loop-part l =
    (types_of (pack_exprs l.initial.parts) l.scope ≡ gathered_types l.types (pack_exprs (drop l.part-index l.initial.parts)) l.scope)
    × (l.parts ≡ up_to (λ e. typed e l.scope) l.part-index l.initial.parts)

abbrev pub invariant-each_leg_under-loop-leg : goal.invariant-each_leg_under-loop-leg
invariant-each_leg_under-loop-leg l =
    (strips_of (pack_legs (map view_leg l.initial.legs)) l.scope ≡ gathered_strips l.strips (pack_legs (drop l.leg-index (map view_leg l.initial.legs))) l.scope)
    × (map view_leg l.legs ≡ up_to (λ leg. leg_with_types leg l.scope) l.leg-index (map view_leg l.initial.legs))
