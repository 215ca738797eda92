use Rattle.std.proofs.Common.{◌≡◌, ◌+◌, ◌*◌, ◌-◌, map}
use Rattle.weld_tree.specs.ExprTree.{pack_exprs, pack_legs}
use Rattle.weld_tree.specs.ExprFalls.{expr_nodes, exprs_nodes, leg_nodes, legs_nodes}
use Rattle.weld_tree.specs.ExprView.{view_form, view_leg}
use Rattle.weld_tree.specs.Blank.{blank_at}
use Rattle.weld_objects.specs.Renamed.{renamed, leg_renamed}
use Rattle.weld_objects.specs.Numbering.{number_in}
use Rattle.weld_objects.proofs.Changing.{up_to}
use Rattle.weld_objects.proofs.renaming.rename.+rename.Given as goal

-- the measure: the nodes that are gone over, eight for each, so that a form and its parts differ

abbrev pub decreases-rename : goal.decreases-rename
decreases-rename l = 8 * expr_nodes l.e.now

abbrev pub decreases-rename_form : goal.decreases-rename_form
decreases-rename_form l = 8 * expr_nodes (view_form l.form.now blank_at) - 1

abbrev pub decreases-rename_two : goal.decreases-rename_two
decreases-rename_two l = 8 * (expr_nodes l.first.now + expr_nodes l.second.now) + 1

abbrev pub decreases-rename_all : goal.decreases-rename_all
decreases-rename_all l = 8 * exprs_nodes (pack_exprs l.parts.now) + 3

abbrev pub decreases-rename_each : goal.decreases-rename_each
decreases-rename_each l = 8 * exprs_nodes (pack_exprs l.parts.now) + 2

abbrev pub decreases-rename_legs : goal.decreases-rename_legs
decreases-rename_legs l = 8 * legs_nodes (pack_legs l.legs.now) + 4

abbrev pub decreases-rename_each_leg : goal.decreases-rename_each_leg
decreases-rename_each_leg l = 8 * legs_nodes (pack_legs (map view_leg l.legs.now)) + 3

abbrev pub decreases-rename_leg : goal.decreases-rename_leg
decreases-rename_leg l = 8 * leg_nodes (view_leg l.leg.now) + 2

-- those before are renamed

abbrev pub invariant-rename_each-loop-part : goal.invariant-rename_each-loop-part
invariant-rename_each-loop-part l = l.parts ≡ up_to (renamed (number_in l.by)) l.part-index l.initial.parts

abbrev pub invariant-rename_each_leg-loop-leg : goal.invariant-rename_each_leg-loop-leg
invariant-rename_each_leg-loop-leg l = map view_leg l.legs ≡ up_to (leg_renamed (number_in l.by)) l.leg-index (map view_leg l.initial.legs)
