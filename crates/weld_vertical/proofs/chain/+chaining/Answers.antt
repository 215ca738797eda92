use Rattle.std.proofs.Common.{◌≤◌, map, get_or, arith}
use Rattle.weld_tree.specs.ExprTree.{pack_legs}
use Rattle.weld_tree.specs.ExprFalls.{leg_nodes, legs_nodes}
use Rattle.weld_tree.specs.ExprView.{view_leg}
use Rattle.weld_rewriting.proofs.Lists.{all_changed, and_so, leg_changed, leg_falls, no_leg_left}
use Rattle.weld_vertical.specs.Chains.{leg_fused}
use Rattle.weld_vertical.proofs.Chaining.{list_fused}
use Rattle.weld_vertical.proofs.chain.+chaining.Goals as goal

pub fuse_legs-returns : goal.fuse_legs-returns
fuse_legs-returns t c =
    and_so c.fuse_each_leg.result
    (λ h. list_fused c.args.legs.now (map view_leg c.as_mut_slice.result.now) (map view_leg c.fuse_each_leg.new.legs) c.as_mut_slice.ensures.value h)
    c.fuse_each_leg.ensures

pub fuse_each_leg-fuse_leg-requires : goal.fuse_each_leg-fuse_leg-requires
fuse_each_leg-fuse_leg-requires t c =
    let h : leg_nodes (view_leg (get_or c.loop-leg.legs c.loop-leg.leg-index c.leg-item.result)) ≤ legs_nodes (pack_legs (map view_leg c.args.legs.now)) =
    leg_falls _ c.loop-leg.leg-index c.loop-leg.legs c.args.legs.now c.leg-item.result c.loop-leg.invariant c.loop-leg-test.true in
    (omega (arith, h), tt)

pub fuse_each_leg-loop-leg-preserved : goal.fuse_each_leg-loop-leg-preserved
fuse_each_leg-loop-leg-preserved t c =
    leg_changed leg_fused c.loop-leg.leg-index c.loop-leg.legs c.args.legs.now c.fuse_leg.new.leg c.leg-item.result
    c.loop-leg.invariant c.loop-leg-test.true c.in_ok-fuse_leg.ensures

pub fuse_each_leg-returns : goal.fuse_each_leg-returns
fuse_each_leg-returns t c =
    all_changed leg_fused c.loop-leg.leg-index (map view_leg c.loop-leg.legs) (map view_leg c.args.legs.now) c.loop-leg.invariant
    (no_leg_left c.loop-leg.leg-index c.args.legs.now c.loop-leg-test.false)
