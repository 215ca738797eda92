use Rattle.std.proofs.Common.{◌≡◌, ◌≤◌, ◌+◌, List, ◌∷◌, ◌∙◌, map, get_or, ap, arith}
use Rattle.weld_tree.specs.ExprTree.{LegTree, pack_exprs, pack_legs}
use Rattle.weld_tree.specs.ExprFalls.{expr_nodes, exprs_nodes, leg_nodes, legs_nodes}
use Rattle.weld_tree.specs.ExprView.{view_leg}
use Rattle.weld_meaning.specs.Environment.{Named}
use Rattle.weld_meaning.specs.Origin.{Origin, origin}
use Rattle.weld_rewriting.proofs.Lists.{and_so, part_falls, leg_falls, all_changed, no_leg_left}
use Rattle.weld_handing.specs.Merging.{list_merges, legs_list_merges}
use Rattle.weld_handing.specs.Walking.{handed_for, leg_handed_for}
use Rattle.weld_handing.proofs.Walked.{parts_less, handed_on, more_taken}
use Rattle.weld_handing.proofs.Handed.{some_nodes, part_may, part_taken, part_handed, part_origin, leg_may, leg_taken, leg_handed, origins_all, list_handed, legs_list_handed}
use Rattle.weld_handing.proofs.hand.+hand.Goals as goal

pub hand-hand_parts-requires : goal.hand-hand_parts-requires
hand-hand_parts-requires t c =
    (omega (arith, some_nodes c.args.e.now), parts_less c.args.ty.now c.args.count.0 c.args.consumer.now c.args.scope.now c.args.e.now c.requires)

pub hand_each-hand-requires : goal.hand_each-hand-requires
hand_each-hand-requires t c =
    let h : expr_nodes (get_or c.loop-part.parts c.loop-part.part-index c.part-item.result) ≤ exprs_nodes (pack_exprs c.args.parts.now) =
    part_falls _ c.loop-part.part-index c.loop-part.parts c.args.parts.now c.part-item.result c.loop-part.invariant.handed c.loop-part-test.true in (
      omega (arith, h),
      part_may c.args.ty.now c.args.count.0 c.args.consumer.now c.args.scope.now c.args.parts.now c.loop-part.parts c.loop-part.part-index c.part-item.result c.loop-part.consumer
          c.requires c.loop-part-test.true c.loop-part.invariant.handed c.loop-part.invariant.taken,
    )

pub hand_each-loop-part-preserved : goal.hand_each-loop-part-preserved
hand_each-loop-part-preserved t c = record {
  sources =
      part_origin c.args.ty.now c.args.count.0 c.args.consumer.now c.args.scope.now c.args.parts.now c.loop-part.parts c.loop-part.part-index c.part-item.result c.loop-part.consumer
      c.loop-part.sources c.push.new.self c.in_ok-hand.field-0 c.loop-part-test.true c.loop-part.invariant.handed c.in_ok-hand.ensures.origin c.in_ok-push.ensures c.loop-part.invariant.sources;
  taken =
      part_taken c.args.ty.now c.args.count.0 c.args.consumer.now c.args.scope.now c.args.parts.now c.loop-part.parts c.loop-part.part-index c.part-item.result c.loop-part.consumer
      c.hand.new.consumer c.loop-part-test.true c.loop-part.invariant.handed c.loop-part.invariant.taken c.in_ok-hand.ensures.taken;
  handed =
      part_handed c.args.ty.now c.args.count.0 c.args.consumer.now c.args.scope.now c.args.parts.now c.loop-part.parts c.loop-part.part-index c.part-item.result c.loop-part.consumer
      c.hand.new.e c.requires c.loop-part-test.true c.loop-part.invariant.handed c.loop-part.invariant.taken c.in_ok-hand.ensures.handed;
}

pub hand_each-returns-clause-origins : goal.hand_each-returns-clause-origins
hand_each-returns-clause-origins t c = origins_all c.args.scope.now c.loop-part.sources c.args.parts.now c.loop-part.part-index c.loop-part-test.false c.loop-part.invariant.sources

pub hand_each-returns-clause-handed : goal.hand_each-returns-clause-handed
hand_each-returns-clause-handed t c =
    all_changed (handed_for c.args.ty.now c.args.count.0 c.args.consumer.now c.args.scope.now) c.loop-part.part-index c.loop-part.parts c.args.parts.now c.loop-part.invariant.handed c.loop-part-test.false

pub hand_each_leg-hand_leg-requires : goal.hand_each_leg-hand_leg-requires
hand_each_leg-hand_leg-requires t c =
    let h : leg_nodes (view_leg (get_or c.loop-leg.legs c.loop-leg.leg-index c.leg-item.result)) ≤ legs_nodes (pack_legs (map view_leg c.args.legs.now)) =
    leg_falls _ c.loop-leg.leg-index c.loop-leg.legs c.args.legs.now c.leg-item.result c.loop-leg.invariant.handed c.loop-leg-test.true in (
      omega (arith, h),
      leg_may c.args.ty.now c.args.count.0 c.args.consumer.now c.args.scope.now c.args.legs.now c.loop-leg.legs c.loop-leg.leg-index c.leg-item.result c.loop-leg.consumer
          c.requires c.loop-leg-test.true c.loop-leg.invariant.handed c.loop-leg.invariant.taken,
    )

pub hand_each_leg-loop-leg-preserved : goal.hand_each_leg-loop-leg-preserved
hand_each_leg-loop-leg-preserved t c = record {
  taken =
      leg_taken c.args.ty.now c.args.count.0 c.args.consumer.now c.args.scope.now c.args.legs.now c.loop-leg.legs c.loop-leg.leg-index c.leg-item.result c.loop-leg.consumer
      c.hand_leg.new.consumer c.loop-leg-test.true c.loop-leg.invariant.handed c.loop-leg.invariant.taken c.in_ok-hand_leg.ensures.taken;
  handed =
      leg_handed c.args.ty.now c.args.count.0 c.args.consumer.now c.args.scope.now c.args.legs.now c.loop-leg.legs c.loop-leg.leg-index c.leg-item.result c.loop-leg.consumer
      c.hand_leg.new.leg c.requires c.loop-leg-test.true c.loop-leg.invariant.handed c.loop-leg.invariant.taken c.in_ok-hand_leg.ensures.handed;
}

pub hand_each_leg-returns-clause-handed : goal.hand_each_leg-returns-clause-handed
hand_each_leg-returns-clause-handed t c =
    all_changed (leg_handed_for c.args.ty.now c.args.count.0 c.args.consumer.now c.args.scope.now) c.loop-leg.leg-index (map view_leg c.loop-leg.legs) (map view_leg c.args.legs.now) c.loop-leg.invariant.handed
    (no_leg_left c.loop-leg.leg-index c.args.legs.now c.loop-leg-test.false)

pub hand_two-returns-clause-second : goal.hand_two-returns-clause-second
hand_two-returns-clause-second t c =
    handed_on c.args.ty.now c.args.count.0 (list_merges c.args.scope.now c.args.first.now) c.args.consumer.now c.hand.new.consumer c.args.scope.now c.args.second.now c.hand-2.new.e
    c.in_ok-source.ensures.taken c.requires c.in_ok-hand.ensures.handed

pub hand_many-returns-clause-handed : goal.hand_many-returns-clause-handed
hand_many-returns-clause-handed t c =
    list_handed c.args.ty.now c.args.count.0 c.args.consumer.now c.args.scope.now c.args.parts.now c.as_mut_slice.result.now c.hand_each.new.parts c.as_mut_slice.ensures.value c.in_ok-sources.ensures.handed

pub hand_three-returns-clause-second : goal.hand_three-returns-clause-second
hand_three-returns-clause-second t c =
    handed_on c.args.ty.now c.args.count.0 (list_merges c.args.scope.now c.args.first.now) c.args.consumer.now c.hand.new.consumer c.args.scope.now c.args.second.now c.hand-2.new.e
    c.in_ok-hand.ensures.taken (omega (arith, c.requires)) c.in_ok-source.ensures.handed

pub hand_three-returns-clause-third : goal.hand_three-returns-clause-third
hand_three-returns-clause-third t c =
    handed_on c.args.ty.now c.args.count.0 (list_merges c.args.scope.now c.args.first.now + list_merges c.args.scope.now c.args.second.now) c.args.consumer.now c.hand-2.new.consumer c.args.scope.now
    c.args.third.now c.hand-3.new.e
    (more_taken (list_merges c.args.scope.now c.args.first.now) (list_merges c.args.scope.now c.args.second.now) c.args.consumer.now c.hand.new.consumer c.hand-2.new.consumer
    c.in_ok-hand.ensures.taken c.in_ok-source.ensures.taken)
    (omega (arith, c.requires)) c.in_ok-hand-2.ensures.handed

pub hand_strided-returns-clause-start : goal.hand_strided-returns-clause-start
hand_strided-returns-clause-start t c =
    handed_on c.args.ty.now c.args.count.0 (list_merges c.args.scope.now c.args.e.now) c.args.consumer.now c.hand.new.consumer c.args.scope.now c.args.from.now c.hand_three.new.first
    c.in_ok-hand.ensures.taken (omega (arith, c.requires)) c.in_ok-hand_three.ensures.first

pub hand_strided-returns-clause-end : goal.hand_strided-returns-clause-end
hand_strided-returns-clause-end t c =
    handed_on c.args.ty.now c.args.count.0 (list_merges c.args.scope.now c.args.e.now) c.args.consumer.now c.hand.new.consumer c.args.scope.now c.args.to.now c.hand_three.new.second
    c.in_ok-hand.ensures.taken (omega (arith, c.requires)) c.in_ok-hand_three.ensures.second

pub hand_strided-returns-clause-stride : goal.hand_strided-returns-clause-stride
hand_strided-returns-clause-stride t c =
    handed_on c.args.ty.now c.args.count.0 (list_merges c.args.scope.now c.args.e.now) c.args.consumer.now c.hand.new.consumer c.args.scope.now c.args.by.now c.hand_three.new.third
    c.in_ok-hand.ensures.taken (omega (arith, c.requires)) c.in_ok-hand_three.ensures.third

pub hand_loop-returns-clause-legs : goal.hand_loop-returns-clause-legs
hand_loop-returns-clause-legs t c =
    and_so c.hand.result
    (λ h.
    legs_list_handed c.args.ty.now c.args.count.0 c.args.consumer.now c.args.scope.now c.args.legs.now (map view_leg c.as_mut_slice.result.now) (map view_leg c.hand_each_leg.new.legs)
    c.as_mut_slice.ensures.value c.in_ok-hand_each_leg.ensures.handed)
    c.hand.ensures.taken

pub hand_loop-returns-clause-builder : goal.hand_loop-returns-clause-builder
hand_loop-returns-clause-builder t c =
    let e : legs_list_merges c.args.scope.now (pack_legs (map view_leg c.as_mut_slice.result.now)) ≡ legs_list_merges c.args.scope.now (pack_legs c.args.legs.now) =
    ap (λ (ls : List LegTree). legs_list_merges c.args.scope.now (pack_legs ls)) c.as_mut_slice.ensures.value in
    and_so c.hand.result
    (λ h.
    handed_on c.args.ty.now c.args.count.0 (legs_list_merges c.args.scope.now (pack_legs (map view_leg c.as_mut_slice.result.now))) c.args.consumer.now c.hand_each_leg.new.consumer c.args.scope.now
    c.args.builder.now c.hand.new.e c.in_ok-hand_each_leg.ensures.taken (omega (arith, c.requires, e)) h)
    c.hand.ensures.handed

pub hand_let-returns-clause-body : goal.hand_let-returns-clause-body
hand_let-returns-clause-body t c =
    let inner : Named Origin = (c.args.binder.now.sym.0, origin c.args.value.now c.args.scope.now) ∷ c.args.scope.now in
    let g : c.bound-inner.result ≡ inner =
    c.bound-inner.ensures ∙ ap (λ (o : Origin). (c.args.binder.now.sym.0, o) ∷ c.args.scope.now) c.in_ok-source.ensures.origin in
    and_so c.hand-2.result
    (λ h.
    handed_on c.args.ty.now c.args.count.0 (list_merges c.args.scope.now c.args.value.now) c.args.consumer.now c.hand.new.consumer inner c.args.body.now c.hand-2.new.e
    c.in_ok-source.ensures.taken c.requires (h ∙ ap (λ (r : Named Origin). handed_for c.args.ty.now c.args.count.0 c.hand.new.consumer r c.args.body.now) g))
    c.hand-2.ensures.handed
