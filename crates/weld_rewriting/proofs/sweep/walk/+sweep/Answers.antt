use Rattle.std.proofs.Common.{◌∙◌, ◌≤◌, ap, map, get_or, arith}
use Rattle.weld_tree.specs.ExprTree.{pack_exprs, pack_legs}
use Rattle.weld_tree.specs.ExprFalls.{expr_nodes, exprs_nodes, leg_nodes, legs_nodes}
use Rattle.weld_tree.specs.ExprView.{view_leg}
use Rattle.weld_rewriting.specs.Sweep.{swept, leg_swept, moves, leg_moves}
use Rattle.weld_rewriting.proofs.Lists.{all_changed, changed, and_so, found_more, leg_changed, leg_falls, leg_found, leg_there, legs_list_swept, list_swept, next_leg, next_one, no_leg_left, part_falls}
use Rattle.weld_rewriting.proofs.sweep.walk.+sweep.Goals as goal

pub sweep_all-returns-clause-swept : goal.sweep_all-returns-clause-swept
sweep_all-returns-clause-swept g t c =
    and_so c.sweep_each.result
    (λ h. list_swept (g.R.Rule.rule c.args.rule.now) c.args.parts.now c.as_mut_slice.result.now c.sweep_each.new.parts c.as_mut_slice.ensures.value h)
    c.sweep_each.ensures.swept

pub sweep_legs-returns-clause-swept : goal.sweep_legs-returns-clause-swept
sweep_legs-returns-clause-swept g t c =
    and_so c.sweep_each_leg.result
    (λ h. legs_list_swept (g.R.Rule.rule c.args.rule.now) c.args.legs.now (map view_leg c.as_mut_slice.result.now) (map view_leg c.sweep_each_leg.new.legs) c.as_mut_slice.ensures.value h)
    c.sweep_each_leg.ensures.swept

pub sweep_each-sweep-requires : goal.sweep_each-sweep-requires
sweep_each-sweep-requires g t c =
    let h : expr_nodes (get_or c.loop-part.parts c.loop-part.part-index c.part-item.result) ≤ exprs_nodes (pack_exprs c.args.parts.now) =
    part_falls _ c.loop-part.part-index c.loop-part.parts c.args.parts.now c.part-item.result c.loop-part.invariant.1 c.loop-part-test.true in
    λ κs lives. (omega (arith, h), lives)

pub sweep_each_leg-sweep_leg-requires : goal.sweep_each_leg-sweep_leg-requires
sweep_each_leg-sweep_leg-requires g t c =
    let h : leg_nodes (view_leg (get_or c.loop-leg.legs c.loop-leg.leg-index c.leg-item.result)) ≤ legs_nodes (pack_legs (map view_leg c.args.legs.now)) =
    leg_falls _ c.loop-leg.leg-index c.loop-leg.legs c.args.legs.now c.leg-item.result c.loop-leg.invariant.1 c.loop-leg-test.true in
    λ κs lives. (omega (arith, h), lives)

pub sweep_each-loop-part-preserved : goal.sweep_each-loop-part-preserved
sweep_each-loop-part-preserved g t c =
    let r = g.R.Rule.rule c.args.rule.now in (
      c.loop-part.invariant.0
          ∙ found_more r c.args.parts.now c.loop-part.part-index c.part-item.result c.loop-part.matched c.in-Ok.here c.loop-part-test.true
          (c.in-Ok.ensures.matched ∙ ap (moves r) (next_one _ c.loop-part.part-index c.loop-part.parts c.args.parts.now c.part-item.result c.loop-part.invariant.1)),
      changed (swept r) c.loop-part.part-index c.loop-part.parts c.args.parts.now c.sweep.new.e c.part-item.result
          c.loop-part.invariant.1 c.loop-part-test.true c.in-Ok.ensures.swept,
    )

pub sweep_each_leg-loop-leg-preserved : goal.sweep_each_leg-loop-leg-preserved
sweep_each_leg-loop-leg-preserved g t c =
    let r = g.R.Rule.rule c.args.rule.now in (
      c.loop-leg.invariant.0
          ∙ leg_found r (map view_leg c.args.legs.now) c.loop-leg.leg-index (view_leg c.leg-item.result) c.loop-leg.matched c.in-Ok.here
          (leg_there c.loop-leg.leg-index c.args.legs.now c.loop-leg-test.true)
          (c.in-Ok.ensures.matched ∙ ap (leg_moves r) (next_leg _ c.loop-leg.leg-index c.loop-leg.legs c.args.legs.now c.leg-item.result c.loop-leg.invariant.1 c.loop-leg-test.true)),
      leg_changed (leg_swept r) c.loop-leg.leg-index c.loop-leg.legs c.args.legs.now c.sweep_leg.new.leg c.leg-item.result
          c.loop-leg.invariant.1 c.loop-leg-test.true c.in-Ok.ensures.swept,
    )

pub sweep_each-returns-clause-swept : goal.sweep_each-returns-clause-swept
sweep_each-returns-clause-swept g t c =
    all_changed (swept (g.R.Rule.rule c.args.rule.now)) c.loop-part.part-index c.loop-part.parts c.args.parts.now c.loop-part.invariant.1 c.loop-part-test.false

pub sweep_each_leg-returns-clause-swept : goal.sweep_each_leg-returns-clause-swept
sweep_each_leg-returns-clause-swept g t c =
    all_changed (leg_swept (g.R.Rule.rule c.args.rule.now)) c.loop-leg.leg-index (map view_leg c.loop-leg.legs) (map view_leg c.args.legs.now) c.loop-leg.invariant.1
    (no_leg_left c.loop-leg.leg-index c.args.legs.now c.loop-leg-test.false)
