use Rattle.std.proofs.Common.{◌≤◌, map, get_or, arith}
use Rattle.weld_tree.specs.ExprTree.{pack_exprs, pack_legs}
use Rattle.weld_tree.specs.ExprFalls.{expr_nodes, exprs_nodes, leg_nodes, legs_nodes}
use Rattle.weld_tree.specs.ExprView.{view_leg}
use Rattle.weld_objects.specs.Renamed.{renamed, leg_renamed}
use Rattle.weld_objects.specs.Numbering.{number_in}
use Rattle.weld_objects.proofs.Changing.{one_more, no_more, part_falls, leg_falls, one_more_leg, no_more_legs, refilled, refilled_legs}
use Rattle.weld_objects.proofs.renaming.rename.+rename.Goals as goal

pub rename_each-rename-requires : goal.rename_each-rename-requires
rename_each-rename-requires t c =
    let h : expr_nodes (get_or c.loop-part.parts c.loop-part.part-index c.part-item.result) ≤ exprs_nodes (pack_exprs c.args.parts.now) =
    part_falls _ c.loop-part.part-index c.loop-part.parts c.args.parts.now c.part-item.result c.loop-part.invariant c.loop-part-test.true in
    omega (arith, h)

pub rename_each-loop-part-preserved : goal.rename_each-loop-part-preserved
rename_each-loop-part-preserved t c =
    one_more (renamed (number_in c.args.by.now)) c.loop-part.part-index c.loop-part.parts c.args.parts.now c.rename.new.e c.part-item.result c.loop-part.invariant c.loop-part-test.true c.rename.ensures

pub rename_each-returns : goal.rename_each-returns
rename_each-returns t c =
    no_more (renamed (number_in c.args.by.now)) c.loop-part.part-index c.loop-part.parts c.args.parts.now c.loop-part.invariant c.loop-part-test.false

pub rename_each_leg-rename_leg-requires : goal.rename_each_leg-rename_leg-requires
rename_each_leg-rename_leg-requires t c =
    let h : leg_nodes (view_leg (get_or c.loop-leg.legs c.loop-leg.leg-index c.leg-item.result)) ≤ legs_nodes (pack_legs (map view_leg c.args.legs.now)) =
    leg_falls _ c.loop-leg.leg-index c.loop-leg.legs c.args.legs.now c.leg-item.result c.loop-leg.invariant c.loop-leg-test.true in
    omega (arith, h)

pub rename_each_leg-loop-leg-preserved : goal.rename_each_leg-loop-leg-preserved
rename_each_leg-loop-leg-preserved t c =
    one_more_leg (leg_renamed (number_in c.args.by.now)) c.loop-leg.leg-index c.loop-leg.legs c.args.legs.now c.rename_leg.new.leg c.leg-item.result c.loop-leg.invariant c.loop-leg-test.true c.rename_leg.ensures

pub rename_each_leg-returns : goal.rename_each_leg-returns
rename_each_leg-returns t c =
    no_more_legs (leg_renamed (number_in c.args.by.now)) c.loop-leg.leg-index c.loop-leg.legs c.args.legs.now c.loop-leg.invariant c.loop-leg-test.false

pub rename_all-returns : goal.rename_all-returns
rename_all-returns t c = refilled (number_in c.args.by.now) c.args.parts.now c.as_mut_slice.result.now c.rename_each.new.parts c.as_mut_slice.ensures.value c.rename_each.ensures

pub rename_legs-returns : goal.rename_legs-returns
rename_legs-returns t c = refilled_legs (number_in c.args.by.now) c.args.legs.now (map view_leg c.as_mut_slice.result.now) (map view_leg c.rename_each_leg.new.legs) c.as_mut_slice.ensures.value c.rename_each_leg.ensures
