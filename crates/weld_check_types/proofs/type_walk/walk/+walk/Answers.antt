use Rattle.std.proofs.Common.{rules, ◌≡◌, ◌∙◌, ◌∷◌, ◌≤◌, ap, subst, sym, refl, map, get_or, arith}
use Rattle.weld_tree.specs.ExprTree.{pack_exprs, pack_legs}
use Rattle.weld_tree.specs.ExprFalls.{expr_nodes, exprs_nodes, leg_nodes, legs_nodes}
use Rattle.weld_tree.specs.ExprView.{view_form, view_leg}
use Rattle.weld_tree.specs.TypeTree.{TypeTree}
use Rattle.weld_tree.specs.declared.expr.Form.{Form}
use Rattle.weld_types.specs.Says.{RefusalSays}
use Rattle.weld_types.specs.Walk.{found, type_of}
use Rattle.weld_check_types.specs.Gathered.{view_strips}
use Rattle.weld_check_types.specs.Noted.{at, leg_with_types, typed}
use Rattle.weld_meaning.specs.Typing.{Types}
use Rattle.weld_check_types.proofs.Left.{type_left, type_refused, leg_left, leg_refused, no_leg_left}
use Rattle.weld_check_types.proofs.TypeWalkNoting.{all_changed, and_so, at_any_rate, changed, leg_changed, leg_falls, leg_in_it, next, next_leg, no_more_legs, part_falls, refilled, refilled_legs}
use Rattle.weld_check_types.proofs.Answered.{none_gathered, whole_answer, strided_answer, body_refused, body_found, rows_found, rows_refused, loop_answer, iterate_answer}
use Rattle.weld_check_types.proofs.type_walk.walk.+walk.Goals as goal

pub each_leg_under-loop-leg-init : goal.each_leg_under-loop-leg-init
each_leg_under-loop-leg-init t c =
    (none_gathered c.new-strips.result (pack_legs (map view_leg c.args.legs.now)) c.args.scope.now c.new-strips.ensures.vectors c.new-strips.ensures.bounds, refl)

pub each_leg_under-leg_under-requires : goal.each_leg_under-leg_under-requires
each_leg_under-leg_under-requires t c =
    let h : leg_nodes (view_leg (get_or c.loop-leg.legs c.loop-leg.leg-index c.leg-item.result)) ≤ legs_nodes (pack_legs (map view_leg c.args.legs.now)) =
    leg_falls _ c.loop-leg.leg-index c.loop-leg.legs c.args.legs.now c.leg-item.result c.loop-leg.invariant.1 c.loop-leg-test.true in
    omega (arith, h)

pub each_leg_under-returns-in-Err-clause-found : goal.each_leg_under-returns-in-Err-clause-found
each_leg_under-returns-in-Err-clause-found t c =
    subst (λ w. RefusalSays c.in-Err.refusal w) (sym c.loop-leg.invariant.0)
    (leg_refused (map view_leg c.args.legs.now) c.loop-leg.strips c.args.scope.now c.loop-leg.leg-index
    (view_leg (get_or c.loop-leg.legs c.loop-leg.leg-index c.leg-item.result)) (view_leg c.leg-item.result) c.in-Err.refusal
    (leg_in_it c.loop-leg.leg-index c.args.legs.now c.loop-leg-test.true)
    (next_leg _ c.loop-leg.leg-index c.loop-leg.legs c.args.legs.now c.leg-item.result c.loop-leg.invariant.1 c.loop-leg-test.true) c.in-Err.ensures.found)

pub each_leg_under-loop-leg-preserved : goal.each_leg_under-loop-leg-preserved
each_leg_under-loop-leg-preserved t c = (
  c.loop-leg.invariant.0
      ∙ leg_left (map view_leg c.args.legs.now) c.loop-leg.strips c.leg_under.new.strips c.args.scope.now c.loop-leg.leg-index
      (view_leg (get_or c.loop-leg.legs c.loop-leg.leg-index c.leg-item.result)) (view_leg c.leg-item.result) c.in-Ok.field-0
      (leg_in_it c.loop-leg.leg-index c.args.legs.now c.loop-leg-test.true)
      (next_leg _ c.loop-leg.leg-index c.loop-leg.legs c.args.legs.now c.leg-item.result c.loop-leg.invariant.1 c.loop-leg-test.true) c.in-Ok.ensures.found,
  leg_changed (λ leg. leg_with_types leg c.args.scope.now) c.loop-leg.leg-index c.loop-leg.legs c.args.legs.now c.leg_under.new.leg c.leg-item.result
      c.loop-leg.invariant.1 c.loop-leg-test.true c.in-Ok.ensures.noted,
)

pub each_leg_under-returns-clause-found : goal.each_leg_under-returns-clause-found
each_leg_under-returns-clause-found t c =
    c.loop-leg.invariant.0 ∙ no_leg_left (map view_leg c.args.legs.now) c.loop-leg.strips c.args.scope.now c.loop-leg.leg-index (no_more_legs c.loop-leg.leg-index c.args.legs.now c.loop-leg-test.false)

pub each_under-push_under-requires : goal.each_under-push_under-requires
each_under-push_under-requires t c =
    let h : expr_nodes (get_or c.loop-part.parts c.loop-part.part-index c.part-item.result) ≤ exprs_nodes (pack_exprs c.args.parts.now) =
    part_falls _ c.loop-part.part-index c.loop-part.parts c.args.parts.now c.part-item.result c.loop-part.invariant.1 c.loop-part-test.true in
    omega (arith, h)

pub each_under-returns-in-Err-clause-found : goal.each_under-returns-in-Err-clause-found
each_under-returns-in-Err-clause-found t c =
    subst (λ w. RefusalSays c.in-Err.refusal w) (sym c.loop-part.invariant.0)
    (type_refused c.args.parts.now c.loop-part.types c.args.scope.now c.loop-part.part-index
    (get_or c.loop-part.parts c.loop-part.part-index c.part-item.result) c.part-item.result c.in-Err.refusal
    c.loop-part-test.true
    (next _ c.loop-part.part-index c.loop-part.parts c.args.parts.now c.part-item.result c.loop-part.invariant.1) c.in-Err.ensures.found)

pub each_under-loop-part-preserved : goal.each_under-loop-part-preserved
each_under-loop-part-preserved t c = (
  c.loop-part.invariant.0
      ∙ type_left c.args.parts.now c.loop-part.types c.push_under.new.types c.args.scope.now c.loop-part.part-index
      (get_or c.loop-part.parts c.loop-part.part-index c.part-item.result) c.part-item.result c.in-Ok.field-0
      c.loop-part-test.true
      (next _ c.loop-part.part-index c.loop-part.parts c.args.parts.now c.part-item.result c.loop-part.invariant.1) c.in-Ok.ensures.found,
  changed (λ e. typed e c.args.scope.now) c.loop-part.part-index c.loop-part.parts c.args.parts.now c.push_under.new.e c.part-item.result
      c.loop-part.invariant.1 c.loop-part-test.true c.in-Ok.ensures.noted,
)

pub each_leg_under-returns-clause-noted : goal.each_leg_under-returns-clause-noted
each_leg_under-returns-clause-noted t c =
    all_changed (λ leg. leg_with_types leg c.args.scope.now) c.loop-leg.leg-index (map view_leg c.loop-leg.legs) (map view_leg c.args.legs.now) c.loop-leg.invariant.1
    (no_more_legs c.loop-leg.leg-index c.args.legs.now c.loop-leg-test.false)

pub each_under-returns-clause-noted : goal.each_under-returns-clause-noted
each_under-returns-clause-noted t c =
    all_changed (λ e. typed e c.args.scope.now) c.loop-part.part-index c.loop-part.parts c.args.parts.now c.loop-part.invariant.1 c.loop-part-test.false

pub rows_under-returns-in_err-body_under-clause-found : goal.rows_under-returns-in_err-body_under-clause-found
rows_under-returns-in_err-body_under-clause-found t c =
    let h = rows_refused c.in_err-body_under.field-0.0 c.args.place (view_strips c.args.strips.now) c.args.builder.now c.args.body.now c.args.b.now c.args.n.now c.args.x.now c.args.scope.now c.in_ok-ty.ty c.in_ok-row.row
    c.in_ok-ty.ensures.found c.in_ok-row.ensures c.in_ok-check_loop_notes.ensures (c.in_err-body_under.ensures.found (found c.in_ok-ty.ty)) in search (rules, h)

pub rows_under-returns-clause-found : goal.rows_under-returns-clause-found
rows_under-returns-clause-found t c =
    rows_found c.args.place (view_strips c.args.strips.now) c.args.builder.now c.args.body.now c.args.b.now c.args.n.now c.args.x.now c.args.scope.now c.in_ok-ty.ty c.in_ok-row.row
    c.in_ok-ty.ensures.found c.in_ok-row.ensures c.in_ok-check_loop_notes.ensures
    ∙ c.in_ok-body_under.ensures.found (found c.in_ok-ty.ty)

pub form_under-returns-in-For-clause-found : goal.form_under-returns-in-For-clause-found
form_under-returns-in-For-clause-found t c =
    λ k. loop_answer c.loop_under.result (view_form c.args.form.now (at c.args.place k)) c.args.form.now (at c.args.place k) c.in-For.legs c.deref_mut-in-For.result.now c.deref_mut-in-For-2.result.now
    c.in-For.builder.value c.in-For.body.value c.deref.result.now c.deref-in-For.result.now c.deref-in-For-2.result.now
    c.in-For.b.value c.in-For.n.value c.in-For.x.value c.args.scope.now refl (ap (λ (f : Form). view_form f (at c.args.place k)) c.in-For.is) c.deref_mut-in-For.ensures.value c.deref_mut-in-For-2.ensures.value
    c.deref.ensures c.deref-in-For.ensures c.deref-in-For-2.ensures c.loop_under.ensures.found

pub form_under-returns-in-Iterate-clause-found : goal.form_under-returns-in-Iterate-clause-found
form_under-returns-in-Iterate-clause-found t c =
    λ k. iterate_answer c.iterate_under.result (view_form c.args.form.now (at c.args.place k)) c.args.form.now (at c.args.place k) c.deref_mut-in-Iterate.result.now c.deref_mut-in-Iterate-2.result.now
    c.in-Iterate.state.value c.in-Iterate.body.value c.in-Iterate.binder c.args.scope.now
    refl (ap (λ (f : Form). view_form f (at c.args.place k)) c.in-Iterate.is) c.deref_mut-in-Iterate.ensures.value c.deref_mut-in-Iterate-2.ensures.value c.iterate_under.ensures.found

pub leg_under-returns-in-Whole-clause-found : goal.leg_under-returns-in-Whole-clause-found
leg_under-returns-in-Whole-clause-found t c =
    whole_answer c.push_under.result (view_leg c.args.leg.now) c.deref_mut.result.now c.in-Whole.vector.value c.args.scope.now c.args.strips.now (record { vectors = c.push_under.new.types; bounds = c.args.strips.now.bounds })
    (ap view_leg c.in-Whole.is) c.deref_mut.ensures.value c.push_under.ensures.found refl

pub leg_under-returns-in_ok-push_under-in-Strided-3-clause-found : goal.leg_under-returns-in_ok-push_under-in-Strided-3-clause-found
leg_under-returns-in_ok-push_under-in-Strided-3-clause-found t c =
    strided_answer c.push_under-in-Strided-4.result (view_leg c.args.leg.now) c.deref_mut-in-Strided.result.now c.deref_mut-in-Strided-2.result.now c.deref_mut-in-Strided-3.result.now c.deref_mut-in-Strided-4.result.now
    c.in-Strided.vector.value c.in-Strided.start.value c.in-Strided.end.value c.in-Strided.stride.value c.args.scope.now c.args.strips.now
    (record { vectors = c.push_under-in-Strided.new.types; bounds = c.push_under-in-Strided-4.new.types }) c.push_under-in-Strided-2.new.types c.push_under-in-Strided-3.new.types c.in_ok-push_under-in-Strided.field-0
    (ap view_leg c.in-Strided.is) c.deref_mut-in-Strided.ensures.value c.deref_mut-in-Strided-2.ensures.value c.deref_mut-in-Strided-3.ensures.value c.deref_mut-in-Strided-4.ensures.value
    c.in_ok-push_under-in-Strided.ensures.found c.in_ok-push_under-in-Strided-2.ensures.found c.in_ok-push_under-in-Strided-3.ensures.found c.push_under-in-Strided-4.ensures.found

pub legs_under-returns-clause-noted : goal.legs_under-returns-clause-noted
legs_under-returns-clause-noted t c =
    and_so c.each_leg_under.result
    (λ h. refilled_legs c.args.legs.now (map view_leg c.as_mut_slice.result.now) (map view_leg c.each_leg_under.new.legs) c.args.scope.now c.as_mut_slice.ensures.value h)
    c.each_leg_under.ensures.noted

pub many_under-returns-clause-noted : goal.many_under-returns-clause-noted
many_under-returns-clause-noted t c =
    at_any_rate c.many_type.result
    (refilled c.args.parts.now c.as_mut_slice.result.now c.each_under.new.parts c.args.scope.now c.as_mut_slice.ensures.value c.in_ok-types.ensures.noted)
