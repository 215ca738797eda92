use Rattle.std.proofs.Common.{rules, ◌<◌, ◌≤◌, ◌∙◌, ◌∷◌, ◌++◌, length, sym, ap, refl}
use Rattle.std.proofs.lemmas.Result.{err_from_is_err_and}
use Rattle.weld_tree.specs.ExprTree.{whole, strided, pack_legs}
use Rattle.weld_tree.specs.ExprView.{view_one, view_two, view_leg, view_form}
use Rattle.weld_tree.specs.Program.{bound, bound_in_legs}
use Rattle.weld_meaning.specs.LinearWalk.{same_origin, is_not_made}
use Rattle.weld_linear.specs.AvailableView.{view_builder}
use Rattle.weld_uses.proofs.Clear.{clear_first, clear_second, clear_none, clear_body, clear_lambda}
use Rattle.weld_uses.proofs.Steps.{chain_walks, part_stops, part_walks, first_stops, second_stops, two_walks, condition_stops, middle_stops, last_stops}
use Rattle.weld_uses.proofs.Binding.{value_stops, state_stops, legs_stop, builder_stops, loop_body_stops, loop_walks, whole_walks, whole_stops, strided_stops, start_stops, end_stops, stride_stops, strided_walks, many_stops, all_next, legs_next, legs_step, clear_walked, clear_legs}
use Rattle.weld_uses.proofs.Answered.{clear_same, stop, stop_leg, stop_body, chain_at, three_answers, many_answers, iterate_stops, iterate_answers, value_stands, let_stops, let_leaves, let_answers, inside_stops, inside_leaves, inside_differs, inside_walks, scope_inside, bound_alone, clear_with, select_no_if, other_arm_stops, arms_leave_others, arms_answer_others, if_answers, both_true, first_false, second_false, leaf_node, one_node, two_node, three_node, many_node, let_node, loop_node, iterate_node, clear_one, clear_two, clear_three, clear_many, clear_let, clear_loop, clear_iterate, leg_stops, walked_leg, clear_leg, clear_node, clear_strided, all_starts, all_refused, all_more, all_answer, legs_start, legs_refused, legs_answer, less, no_less}
use Rattle.weld_uses.proofs.rules.+walk.Goals as goal
use Rattle.weld_uses.proofs.rules.+walk.Goals.{walk_if-else-same-via-then-same+else-is_not_made, walk_if-else-same-via-else-same}

pub walk_part-walk-requires : goal.walk_part-walk-requires
walk_part-walk-requires t c =
    (search rules, c.requires.clear)

pub walk_part-returns-in_err-source : goal.walk_part-returns-in_err-source
walk_part-returns-in_err-source t c =
    let p = err_from_is_err_and c.from_residual.result c.from_residual.ensures.1 in
    stop _ p.1 p.2 (part_stops c.requires.no_chain c.in_err-source.ensures)

pub walk_part-returns : goal.walk_part-returns
walk_part-returns t c =
    part_walks c.one_answer.result (view_one c.args.one.now) c.args.place c.requires.no_chain c.in_ok-source.ensures c.one_answer.ensures

pub walk_one-walk_part-requires : goal.walk_one-walk_part-requires
walk_one-walk_part-requires t c =
    (search rules, (c.requires, sym (rw c.in-Ok-None.field-0-is at c.in-Ok-None.ensures)))

pub walk_one-returns-in-Ok-Some : goal.walk_one-returns-in-Ok-Some
walk_one-returns-in-Ok-Some t c =
    chain_walks c.use_chain.result (view_one c.args.one.now) c.args.part.now c.args.place c.args.scope.now c.args.left.now c.use_chain.new.left (view_builder c.in-Ok-Some.chain)
    (rw c.in-Ok-Some.field-0-is at c.in-Ok-Some.ensures) (chain_at _ _ _ _ _ c.name_place.ensures c.use_chain.ensures)

pub walk_one-returns-in-Ok-None : goal.walk_one-returns-in-Ok-None
walk_one-returns-in-Ok-None t c =
    c.walk_part.ensures

pub walk_two-walk-requires : goal.walk_two-walk-requires
walk_two-walk-requires t c =
    (search rules, c.requires.first)

pub walk_two-returns-in_err-source : goal.walk_two-returns-in_err-source
walk_two-returns-in_err-source t c =
    let p = err_from_is_err_and c.from_residual.result c.from_residual.ensures.1 in
    stop _ p.1 p.2 (first_stops c.in_err-source.ensures)

pub walk_two-walk-requires-2 : goal.walk_two-walk-requires-2
walk_two-walk-requires-2 t c =
    (search rules, clear_walked (bound c.args.second.now) c.in_ok-source.ensures c.requires.second)

pub walk_two-returns-in_err-walk : goal.walk_two-returns-in_err-walk
walk_two-returns-in_err-walk t c =
    let p = err_from_is_err_and c.from_residual-in_err-walk.result c.from_residual-in_err-walk.ensures.1 in
    stop _ p.1 p.2 (second_stops c.in_ok-source.ensures c.in_err-walk.ensures)

pub walk_two-returns : goal.walk_two-returns
walk_two-returns t c =
    two_walks c.two_answer.result (view_two c.args.two) c.args.place c.has_fewer.result c.in_ok-source.ensures c.in_ok-walk.ensures
    (λ h. less c.len-before.ensures (c.has_fewer.ensures.yes h)) (λ h. no_less c.len-before.ensures (c.has_fewer.ensures.no h)) c.two_answer.ensures

pub walk_if-walk-requires : goal.walk_if-walk-requires
walk_if-walk-requires t c =
    (search rules, c.requires.condition)

pub walk_if-returns-in_err-walk : goal.walk_if-returns-in_err-walk
walk_if-returns-in_err-walk t c =
    let p = err_from_is_err_and c.from_residual.result c.from_residual.ensures.1 in
    stop _ p.1 p.2 (condition_stops c.in_err-walk.ensures)

pub walk_if-walk-requires-2 : goal.walk_if-walk-requires-2
walk_if-walk-requires-2 t c =
    (search rules, clear_walked (bound c.args.first.now) c.in_ok-walk.ensures c.requires.first)

pub walk_if-returns-in_err-source : goal.walk_if-returns-in_err-source
walk_if-returns-in_err-source t c =
    let p = err_from_is_err_and c.from_residual-in_err-source.result c.from_residual-in_err-source.ensures.1 in
    stop _ p.1 p.2 (middle_stops c.in_ok-walk.ensures c.in_err-source.ensures)

pub walk_if-walk-requires-3 : goal.walk_if-walk-requires-3
walk_if-walk-requires-3 t c =
    (search rules, clear_same _ c.in-Ok.ensures (clear_walked (bound c.args.second.now) c.in_ok-walk.ensures c.requires.second))

pub walk_if-returns-in_err-other_source : goal.walk_if-returns-in_err-other_source
walk_if-returns-in_err-other_source t c =
    let p = err_from_is_err_and c.from_residual-in_err-other_source.result c.from_residual-in_err-other_source.ensures.1 in
    stop _ p.1 p.2 (other_arm_stops c.in-Ok.ensures c.in_ok-walk.ensures c.in_ok-source.ensures c.in_err-other_source.ensures)

pub walk_if-returns-then-not-same : goal.walk_if-returns-then-not-same
walk_if-returns-then-not-same t c =
    arms_leave_others c.in-Ok.ensures c.in_ok-walk.ensures c.in_ok-source.ensures c.in_ok-other_source.ensures c.same.ensures c.if-not-same.true

pub walk_if-returns-then-is_not_made : goal.walk_if-returns-then-is_not_made
walk_if-returns-then-is_not_made t c =
    if_answers c.in-Ok.ensures c.in_ok-walk.ensures c.in_ok-source.ensures c.in_ok-other_source.ensures c.same.ensures c.if-not-same.false (both_true c.same-2.ensures c.if-same.true c.is_not_made.ensures c.if-is_not_made.true)

pub walk_if-returns : goal.walk_if-returns
walk_if-returns t c =
    arms_answer_others c.in-Ok.ensures c.in_ok-walk.ensures c.in_ok-source.ensures c.in_ok-other_source.ensures c.same.ensures c.if-not-same.false
    (elim c.else-same.branch [
      | walk_if-else-same-via-then-same+else-is_not_made w ↦ second_false (same_origin c.in_ok-source.source c.in_ok-other_source.other_source) w.is_not_made.ensures w.if-is_not_made.false
      | walk_if-else-same-via-else-same w ↦ first_false (is_not_made c.in_ok-source.source) c.same-2.ensures w.if-same.false
    ])

pub walk_select-walk-requires : goal.walk_select-walk-requires
walk_select-walk-requires t c =
    (search rules, c.requires.first)

pub walk_select-returns-in_err-walk : goal.walk_select-returns-in_err-walk
walk_select-returns-in_err-walk t c =
    let p = err_from_is_err_and c.from_residual.result c.from_residual.ensures.1 in
    stop _ p.1 p.2 (condition_stops c.in_err-walk.ensures)

pub walk_select-walk-requires-2 : goal.walk_select-walk-requires-2
walk_select-walk-requires-2 t c =
    (search rules, clear_walked (bound c.args.second.now) c.in_ok-walk.ensures c.requires.second)

pub walk_select-returns-in_err-walk-2 : goal.walk_select-returns-in_err-walk-2
walk_select-returns-in_err-walk-2 t c =
    let p = err_from_is_err_and c.from_residual-in_err-walk-2.result c.from_residual-in_err-walk-2.ensures.1 in
    stop _ p.1 p.2 (middle_stops c.in_ok-walk.ensures c.in_err-walk-2.ensures)

pub walk_select-walk-requires-3 : goal.walk_select-walk-requires-3
walk_select-walk-requires-3 t c =
    (search rules, clear_walked (bound c.args.third.now) c.in_ok-walk-2.ensures (clear_walked (bound c.args.third.now) c.in_ok-walk.ensures c.requires.third))

pub walk_select-returns-in_err-walk-3 : goal.walk_select-returns-in_err-walk-3
walk_select-returns-in_err-walk-3 t c =
    let p = err_from_is_err_and c.from_residual-in_err-walk-3.result c.from_residual-in_err-walk-3.ensures.1 in
    stop _ p.1 p.2 (last_stops select_no_if c.in_ok-walk.ensures c.in_ok-walk-2.ensures c.in_err-walk-3.ensures)

pub walk_select-returns : goal.walk_select-returns
walk_select-returns t c =
    three_answers c.value.ensures select_no_if c.in_ok-walk.ensures c.in_ok-walk-2.ensures c.in_ok-walk-3.ensures

pub walk_many-walk_all-requires : goal.walk_many-walk_all-requires
walk_many-walk_all-requires t c =
    (search rules, c.requires)

pub walk_many-returns-in_err-sources : goal.walk_many-returns-in_err-sources
walk_many-returns-in_err-sources t c =
    let p = err_from_is_err_and c.from_residual.result c.from_residual.ensures.1 in
    stop _ p.1 p.2 (many_stops c.in_err-sources.ensures)

pub walk_many-returns : goal.walk_many-returns
walk_many-returns t c =
    many_answers c.many_answer.ensures c.in_ok-sources.ensures

pub walk_all-loop-part-init : goal.walk_all-loop-part-init
walk_all-loop-part-init t c =
    all_starts c.as_slice-part-items.ensures.value c.new-sources.ensures c.requires

pub walk_all-walk-requires : goal.walk_all-walk-requires
walk_all-walk-requires t c =
    (search rules, all_next (let w : c.loop-part.part-index < length c.as_slice-part-items.result.now = search rules in w) c.part-item.is c.loop-part.invariant)

pub walk_all-returns-in-Err : goal.walk_all-returns-in-Err
walk_all-returns-in-Err t c =
    all_refused c.as_slice-part-items.ensures.value (let w : c.loop-part.part-index < length c.as_slice-part-items.result.now = search rules in w) c.part-item.is c.loop-part.invariant c.in-Err.ensures

pub walk_all-loop-part-preserved : goal.walk_all-loop-part-preserved
walk_all-loop-part-preserved t c =
    all_more c.in-Ok-push.ensures (let w : c.loop-part.part-index < length c.as_slice-part-items.result.now = search rules in w) c.part-item.is c.loop-part.invariant c.in-Ok.ensures

pub walk_all-returns : goal.walk_all-returns
walk_all-returns t c =
    all_answer c.as_slice-part-items.ensures.value (let w : length c.as_slice-part-items.result.now ≤ c.loop-part.part-index = search rules in w) c.loop-part.invariant

pub walk_legs-loop-leg-init : goal.walk_legs-loop-leg-init
walk_legs-loop-leg-init t c =
    legs_start c.as_slice-leg-items.ensures.value c.requires

pub walk_legs-walk_leg-requires : goal.walk_legs-walk_leg-requires
walk_legs-walk_leg-requires t c =
    (search rules, legs_next (let w : c.loop-leg.leg-index < length c.as_slice-leg-items.result.now = search rules in w) c.leg-item.is c.loop-leg.invariant)

pub walk_legs-returns-in-Err : goal.walk_legs-returns-in-Err
walk_legs-returns-in-Err t c =
    legs_refused c.as_slice-leg-items.ensures.value (let w : c.loop-leg.leg-index < length c.as_slice-leg-items.result.now = search rules in w) c.leg-item.is c.loop-leg.invariant c.in-Err.ensures

pub walk_legs-loop-leg-preserved : goal.walk_legs-loop-leg-preserved
walk_legs-loop-leg-preserved t c =
    legs_step (let w : c.loop-leg.leg-index < length c.as_slice-leg-items.result.now = search rules in w) c.leg-item.is c.loop-leg.invariant c.in-Ok.ensures

pub walk_legs-returns : goal.walk_legs-returns
walk_legs-returns t c =
    legs_answer c.as_slice-leg-items.ensures.value (let w : length c.as_slice-leg-items.result.now ≤ c.loop-leg.leg-index = search rules in w) c.loop-leg.invariant

pub walk_let-walk-requires : goal.walk_let-walk-requires
walk_let-walk-requires t c =
    (search rules, clear_first (bound c.args.value.now) (bound c.args.body.now) c.args.left.now c.requires.2)

pub walk_let-returns-in_err-source : goal.walk_let-returns-in_err-source
walk_let-returns-in_err-source t c =
    let p = err_from_is_err_and c.from_residual.result c.from_residual.ensures.1 in
    stop _ p.1 p.2 (value_stops c.in_err-source.ensures)

pub walk_let-walk_builders_body-requires : goal.walk_let-walk_builders_body-requires
walk_let-walk_builders_body-requires t c =
    (search rules, clear_walked (c.args.binder.now.sym.0 ∷ bound c.args.body.now) c.in_ok-source.ensures (clear_body c.args.binder.now.sym.0 (bound c.args.value.now) (bound c.args.body.now) c.args.left.now c.requires))

pub walk_let-returns-then-not-is_value : goal.walk_let-returns-then-not-is_value
walk_let-returns-then-not-is_value t c =
    c.walk_builders_body.ensures c.args.value.now c.args.left.now c.requires.1 c.in_ok-source.ensures

pub walk_let-walk-requires-2 : goal.walk_let-walk-requires-2
walk_let-walk-requires-2 t c =
    (search rules, (clear_walked (c.args.binder.now.sym.0 ∷ bound c.args.body.now) c.in_ok-source.ensures (clear_body c.args.binder.now.sym.0 (bound c.args.value.now) (bound c.args.body.now) c.args.left.now c.requires)).2)

pub walk_let-returns-in_err-answer : goal.walk_let-returns-in_err-answer
walk_let-returns-in_err-answer t c =
    let p = err_from_is_err_and c.from_residual-in_err-answer.result c.from_residual-in_err-answer.ensures.1 in
    stop _ p.1 p.2 (let_stops c.in_ok-source.ensures (value_stands c.args.scope.now _ (sym c.is_value.ensures ∙ c.if-not-is_value.false)) refl c.in_err-answer.ensures c.of_value-inner.ensures)

pub walk_let-returns-then-has_name : goal.walk_let-returns-then-has_name
walk_let-returns-then-has_name t c =
    let_leaves c.requires.1 c.in_ok-source.ensures (value_stands c.args.scope.now _ (sym c.is_value.ensures ∙ c.if-not-is_value.false)) refl c.in_ok-answer.ensures c.of_value-inner.ensures (sym c.has_name.ensures ∙ c.if-has_name.true)

pub walk_let-returns-in-Ok : goal.walk_let-returns-in-Ok
walk_let-returns-in-Ok t c =
    let_answers c.requires.1 c.in_ok-source.ensures (value_stands c.args.scope.now _ (sym c.is_value.ensures ∙ c.if-not-is_value.false)) refl c.in_ok-answer.ensures c.of_value-inner.ensures (sym c.has_name.ensures ∙ c.if-has_name.false) c.in-Ok.ensures

pub walk_builders_body-walk-requires : goal.walk_builders_body-walk-requires
walk_builders_body-walk-requires t c =
    (search rules, clear_with _ _ c.in-Ok.real _ c.in-Ok-bind.ensures c.requires)

pub walk_builders_body-returns-in_err-answer : goal.walk_builders_body-returns-in_err-answer
walk_builders_body-returns-in_err-answer t c e before n w =
    let p = err_from_is_err_and c.from_residual.result c.from_residual.ensures.1 in
    stop _ p.1 p.2 (let_stops w c.in-Ok.ensures c.in-Ok-bind.ensures c.in_err-answer.ensures c.bound-inner.ensures)

pub walk_builders_body-returns-then-has_name : goal.walk_builders_body-returns-then-has_name
walk_builders_body-returns-then-has_name t c e before n w =
    let_leaves n w c.in-Ok.ensures c.in-Ok-bind.ensures c.in_ok-answer.ensures c.bound-inner.ensures (sym c.has_name.ensures ∙ c.if-has_name.true)

pub walk_builders_body-returns-in-Ok-named_before : goal.walk_builders_body-returns-in-Ok-named_before
walk_builders_body-returns-in-Ok-named_before t c e before n w =
    let_answers n w c.in-Ok.ensures c.in-Ok-bind.ensures c.in_ok-answer.ensures c.bound-inner.ensures (sym c.has_name.ensures ∙ c.if-has_name.false) c.in-Ok-named_before.ensures

pub walk_iterate-walk-requires : goal.walk_iterate-walk-requires
walk_iterate-walk-requires t c =
    (search rules, clear_first (bound c.args.state.now) (c.args.binder.now.sym.0 ∷ bound c.args.body.now) c.args.left.now c.requires)

pub walk_iterate-returns-in_err-walk : goal.walk_iterate-returns-in_err-walk
walk_iterate-returns-in_err-walk t c =
    let p = err_from_is_err_and c.from_residual.result c.from_residual.ensures.1 in
    stop _ p.1 p.2 (state_stops c.in_err-walk.ensures)

pub walk_iterate-walk-requires-2 : goal.walk_iterate-walk-requires-2
walk_iterate-walk-requires-2 t c =
    (search rules, clear_same _ c.new-none.ensures (clear_none (bound c.args.body.now) c.args.left.now (clear_second (bound c.args.state.now) (c.args.binder.now.sym.0 ∷ bound c.args.body.now) c.args.left.now c.requires).2))

pub walk_iterate-returns-in_err-walk-2 : goal.walk_iterate-returns-in_err-walk-2
walk_iterate-returns-in_err-walk-2 t c =
    let p = err_from_is_err_and c.from_residual-in_err-walk-2.result c.from_residual-in_err-walk-2.ensures.1 in
    stop _ p.1 p.2 (iterate_stops c.new-none.ensures c.in_ok-walk.ensures c.in_err-walk-2.ensures c.value_within-inner.ensures)

pub walk_iterate-returns : goal.walk_iterate-returns
walk_iterate-returns t c =
    iterate_answers c.value.ensures c.new-none.ensures c.in_ok-walk.ensures c.in_ok-walk-2.ensures c.value_within-inner.ensures

pub walk_for-walk_legs-requires : goal.walk_for-walk_legs-requires
walk_for-walk_legs-requires t c =
    (search rules, clear_first (bound_in_legs (pack_legs c.args.legs.now)) (bound c.args.builder.now ++ (c.args.b.now.sym.0 ∷ c.args.n.now.sym.0 ∷ c.args.x.now.sym.0 ∷ bound c.args.body.now)) c.args.left.now c.requires)

pub walk_for-returns-in_err-walk_legs : goal.walk_for-returns-in_err-walk_legs
walk_for-returns-in_err-walk_legs t c =
    let p = err_from_is_err_and c.from_residual.result c.from_residual.ensures.1 in
    stop _ p.1 p.2 (legs_stop c.in_err-walk_legs.ensures)

pub walk_for-walk-requires : goal.walk_for-walk-requires
walk_for-walk-requires t c =
    (search rules, clear_first (bound c.args.builder.now) (c.args.b.now.sym.0 ∷ c.args.n.now.sym.0 ∷ c.args.x.now.sym.0 ∷ bound c.args.body.now) c.walk_legs.new.left (clear_second (bound_in_legs (pack_legs c.args.legs.now)) (bound c.args.builder.now ++ (c.args.b.now.sym.0 ∷ c.args.n.now.sym.0 ∷ c.args.x.now.sym.0 ∷ bound c.args.body.now)) c.walk_legs.new.left (clear_legs ((bound_in_legs (pack_legs c.args.legs.now)) ++ (bound c.args.builder.now ++ (c.args.b.now.sym.0 ∷ c.args.n.now.sym.0 ∷ c.args.x.now.sym.0 ∷ bound c.args.body.now))) c.in_ok-walk_legs.ensures c.requires)))

pub walk_for-returns-in_err-source : goal.walk_for-returns-in_err-source
walk_for-returns-in_err-source t c =
    let p = err_from_is_err_and c.from_residual-in_err-source.result c.from_residual-in_err-source.ensures.1 in
    stop _ p.1 p.2 (builder_stops c.in_ok-walk_legs.ensures c.in_err-source.ensures)

pub walk_for-walk_body-requires : goal.walk_for-walk_body-requires
walk_for-walk_body-requires t c =
    (search rules, clear_lambda c.args.b.now.sym.0 c.args.n.now.sym.0 c.args.x.now.sym.0 (bound c.args.body.now) c.args.left.now (clear_second (bound c.args.builder.now) (c.args.b.now.sym.0 ∷ c.args.n.now.sym.0 ∷ c.args.x.now.sym.0 ∷ bound c.args.body.now) c.args.left.now (clear_second (bound_in_legs (pack_legs c.args.legs.now)) (bound c.args.builder.now ++ (c.args.b.now.sym.0 ∷ c.args.n.now.sym.0 ∷ c.args.x.now.sym.0 ∷ bound c.args.body.now)) c.args.left.now c.requires)))

pub walk_for-returns-in_err-walk_body : goal.walk_for-returns-in_err-walk_body
walk_for-returns-in_err-walk_body t c =
    let p = err_from_is_err_and c.from_residual-in_err-walk_body.result c.from_residual-in_err-walk_body.ensures.1 in
    stop _ p.1 p.2 (loop_body_stops c.in_ok-walk_legs.ensures c.in_ok-source.ensures c.in_err-walk_body.ensures)

pub walk_for-returns : goal.walk_for-returns
walk_for-returns t c =
    loop_walks c.in_ok-walk_legs.ensures c.in_ok-source.ensures c.in_ok-walk_body.ensures

pub walk_body-walk-requires : goal.walk_body-walk-requires
walk_body-walk-requires t c =
    (search rules, clear_with _ _ c.in-Ok.own _ (bound_alone c.args.b.now.sym.0 c.in-Ok.own c.in-Ok-bind.ensures c.new-left.ensures) c.requires)

pub walk_body-returns-in_err-answer : goal.walk_body-returns-in_err-answer
walk_body-returns-in_err-answer t c =
    let p = err_from_is_err_and c.from_residual.result c.from_residual.ensures.1 in
    stop_body p.1 p.2 (inside_stops c.in-Ok.ensures (bound_alone c.args.b.now.sym.0 c.in-Ok.own c.in-Ok-bind.ensures c.new-left.ensures) c.in_err-answer.ensures (scope_inside _ c.of_value-inner.ensures c.of_value-with_number.ensures c.bound_within-with_builder.ensures))

pub walk_body-returns-then-has_name : goal.walk_body-returns-then-has_name
walk_body-returns-then-has_name t c =
    inside_leaves c.in-Ok.ensures (bound_alone c.args.b.now.sym.0 c.in-Ok.own c.in-Ok-bind.ensures c.new-left.ensures) c.in_ok-answer.ensures (scope_inside _ c.of_value-inner.ensures c.of_value-with_number.ensures c.bound_within-with_builder.ensures) (sym c.has_name.ensures ∙ c.if-has_name.true)

pub walk_body-returns-then-same : goal.walk_body-returns-then-same
walk_body-returns-then-same t c =
    inside_walks c.in-Ok.ensures (bound_alone c.args.b.now.sym.0 c.in-Ok.own c.in-Ok-bind.ensures c.new-left.ensures) c.in_ok-answer.ensures (scope_inside _ c.of_value-inner.ensures c.of_value-with_number.ensures c.bound_within-with_builder.ensures) (sym c.has_name.ensures ∙ c.if-has_name.false) c.in-Ok-resolve.ensures (sym c.same.ensures ∙ c.if-same.true)

pub walk_body-returns : goal.walk_body-returns
walk_body-returns t c =
    inside_differs c.in-Ok.ensures (bound_alone c.args.b.now.sym.0 c.in-Ok.own c.in-Ok-bind.ensures c.new-left.ensures) c.in_ok-answer.ensures (scope_inside _ c.of_value-inner.ensures c.of_value-with_number.ensures c.bound_within-with_builder.ensures) (sym c.has_name.ensures ∙ c.if-has_name.false) c.in-Ok-resolve.ensures (sym c.same.ensures ∙ c.if-same.false)

pub walk-returns-in-Leaf : goal.walk-returns-in-Leaf
walk-returns-in-Leaf t c =
    leaf_node _ _ _ _ (sym c.e.view_is ∙ ap (λ f. view_form f (record { place = c.e.inside.place; ty = c.e.inside.ty })) c.in-Leaf.is) c.use_leaf.ensures

pub walk-walk_one-requires : goal.walk-walk_one-requires
walk-walk_one-requires t c =
    (search rules, clear_one _ (sym c.e.view_is ∙ ap (λ f. view_form f (record { place = c.e.inside.place; ty = c.e.inside.ty })) c.in-One.is) c.deref.ensures c.requires)

pub walk-returns-in-One : goal.walk-returns-in-One
walk-returns-in-One t c =
    one_node _ _ _ _ (sym c.e.view_is ∙ ap (λ f. view_form f (record { place = c.e.inside.place; ty = c.e.inside.ty })) c.in-One.is) c.deref.ensures c.walk_one.ensures

pub walk-walk_two-requires : goal.walk-walk_two-requires
walk-walk_two-requires t c =
    (search rules, clear_two _ (sym c.e.view_is ∙ ap (λ f. view_form f (record { place = c.e.inside.place; ty = c.e.inside.ty })) c.in-Two.is) c.deref-in-Two.ensures c.deref-in-Two-2.ensures c.requires)

pub walk-returns-in-Two : goal.walk-returns-in-Two
walk-returns-in-Two t c =
    two_node _ _ _ _ (sym c.e.view_is ∙ ap (λ f. view_form f (record { place = c.e.inside.place; ty = c.e.inside.ty })) c.in-Two.is) c.deref-in-Two.ensures c.deref-in-Two-2.ensures c.walk_two.ensures

pub walk-walk_three-requires : goal.walk-walk_three-requires
walk-walk_three-requires t c =
    let w = clear_three _ (sym c.e.view_is ∙ ap (λ f. view_form f (record { place = c.e.inside.place; ty = c.e.inside.ty })) c.in-Three.is) c.deref-in-Three.ensures c.deref-in-Three-2.ensures c.deref-in-Three-3.ensures c.requires in
    (search rules, (w.0, (w.1, w.2)))

pub walk-returns-in-Three : goal.walk-returns-in-Three
walk-returns-in-Three t c =
    three_node _ _ _ _ (sym c.e.view_is ∙ ap (λ f. view_form f (record { place = c.e.inside.place; ty = c.e.inside.ty })) c.in-Three.is) c.deref-in-Three.ensures c.deref-in-Three-2.ensures c.deref-in-Three-3.ensures c.walk_three.ensures

pub walk-walk_many-requires : goal.walk-walk_many-requires
walk-walk_many-requires t c =
    (search rules, clear_many _ (sym c.e.view_is ∙ ap (λ f. view_form f (record { place = c.e.inside.place; ty = c.e.inside.ty })) c.in-Many.is) c.requires)

pub walk-returns-in-Many : goal.walk-returns-in-Many
walk-returns-in-Many t c =
    many_node _ _ _ _ (sym c.e.view_is ∙ ap (λ f. view_form f (record { place = c.e.inside.place; ty = c.e.inside.ty })) c.in-Many.is) c.walk_many.ensures

pub walk-walk_let-requires : goal.walk-walk_let-requires
walk-walk_let-requires t c =
    (search rules, clear_let _ (sym c.e.view_is ∙ ap (λ f. view_form f (record { place = c.e.inside.place; ty = c.e.inside.ty })) c.in-Let.is) c.deref-in-Let.ensures c.deref-in-Let-2.ensures c.requires)

pub walk-returns-in-Let : goal.walk-returns-in-Let
walk-returns-in-Let t c =
    let_node _ _ _ _ (sym c.e.view_is ∙ ap (λ f. view_form f (record { place = c.e.inside.place; ty = c.e.inside.ty })) c.in-Let.is) c.deref-in-Let.ensures c.deref-in-Let-2.ensures c.walk_let.ensures

pub walk-walk_for-requires : goal.walk-walk_for-requires
walk-walk_for-requires t c =
    (search rules, clear_loop _ (sym c.e.view_is ∙ ap (λ f. view_form f (record { place = c.e.inside.place; ty = c.e.inside.ty })) c.in-For.is) c.deref-in-For.ensures c.deref-in-For-2.ensures c.deref-in-For-3.ensures c.deref-in-For-4.ensures c.deref-in-For-5.ensures c.requires)

pub walk-returns-in-For : goal.walk-returns-in-For
walk-returns-in-For t c =
    loop_node _ _ _ _ (sym c.e.view_is ∙ ap (λ f. view_form f (record { place = c.e.inside.place; ty = c.e.inside.ty })) c.in-For.is) c.deref-in-For.ensures c.deref-in-For-2.ensures c.deref-in-For-3.ensures c.deref-in-For-4.ensures c.deref-in-For-5.ensures c.walk_for.ensures

pub walk-walk_iterate-requires : goal.walk-walk_iterate-requires
walk-walk_iterate-requires t c =
    (search rules, clear_iterate _ (sym c.e.view_is ∙ ap (λ f. view_form f (record { place = c.e.inside.place; ty = c.e.inside.ty })) c.in-Iterate.is) c.deref-in-Iterate.ensures c.deref-in-Iterate-2.ensures c.requires)

pub walk-returns-in-Iterate : goal.walk-returns-in-Iterate
walk-returns-in-Iterate t c =
    iterate_node _ _ _ _ (sym c.e.view_is ∙ ap (λ f. view_form f (record { place = c.e.inside.place; ty = c.e.inside.ty })) c.in-Iterate.is) c.deref-in-Iterate.ensures c.deref-in-Iterate-2.ensures c.walk_iterate.ensures

pub walk_leg-walk-requires : goal.walk_leg-walk-requires
walk_leg-walk-requires t c =
    (search rules, clear_leg _ (ap view_leg c.in-Whole.is ∙ sym (ap whole c.deref.ensures)) c.requires)

pub walk_leg-returns-in_err-walk-in-Whole : goal.walk_leg-returns-in_err-walk-in-Whole
walk_leg-returns-in_err-walk-in-Whole t c =
    let p = err_from_is_err_and c.from_residual.result c.from_residual.ensures.1 in
    stop_leg _ p.1 p.2 (leg_stops (ap view_leg c.in-Whole.is ∙ sym (ap whole c.deref.ensures)) (whole_stops c.in_err-walk-in-Whole.ensures))

pub walk_leg-returns-in_ok-walk-in-Whole : goal.walk_leg-returns-in_ok-walk-in-Whole
walk_leg-returns-in_ok-walk-in-Whole t c =
    walked_leg (ap view_leg c.in-Whole.is ∙ sym (ap whole c.deref.ensures)) (whole_walks c.in_ok-walk-in-Whole.ensures)

pub walk_leg-walk-requires-in-Strided : goal.walk_leg-walk-requires-in-Strided
walk_leg-walk-requires-in-Strided t c =
    (search rules, clear_node _ (sym c.deref-in-Strided.ensures) (clear_strided c.in-Strided.e.value c.in-Strided.start.value c.in-Strided.end.value c.in-Strided.stride.value c.args.left.now (clear_leg _ (ap view_leg c.in-Strided.is) c.requires)).0)

pub walk_leg-returns-in_err-walk-in-Strided : goal.walk_leg-returns-in_err-walk-in-Strided
walk_leg-returns-in_err-walk-in-Strided t c =
    let p = err_from_is_err_and c.from_residual-in_err-walk-in-Strided.result c.from_residual-in_err-walk-in-Strided.ensures.1 in
    stop_leg _ p.1 p.2 (leg_stops (ap view_leg c.in-Strided.is ∙ sym (λ i. strided (c.deref-in-Strided.ensures i) c.in-Strided.start.value c.in-Strided.end.value c.in-Strided.stride.value)) (strided_stops c.in_err-walk-in-Strided.ensures))

pub walk_leg-walk-requires-in-Strided-2 : goal.walk_leg-walk-requires-in-Strided-2
walk_leg-walk-requires-in-Strided-2 t c =
    (search rules, clear_walked (bound c.deref-in-Strided-2.result.now) c.in_ok-walk-in-Strided.ensures (clear_node _ (sym c.deref-in-Strided-2.ensures) (clear_strided c.in-Strided.e.value c.in-Strided.start.value c.in-Strided.end.value c.in-Strided.stride.value c.args.left.now (clear_leg _ (ap view_leg c.in-Strided.is) c.requires)).1))

pub walk_leg-returns-in_err-walk-in-Strided-2 : goal.walk_leg-returns-in_err-walk-in-Strided-2
walk_leg-returns-in_err-walk-in-Strided-2 t c =
    let p = err_from_is_err_and c.from_residual-in_err-walk-in-Strided-2.result c.from_residual-in_err-walk-in-Strided-2.ensures.1 in
    stop_leg _ p.1 p.2 (leg_stops (ap view_leg c.in-Strided.is ∙ sym (λ i. strided (c.deref-in-Strided.ensures i) (c.deref-in-Strided-2.ensures i) c.in-Strided.end.value c.in-Strided.stride.value)) (start_stops c.in_ok-walk-in-Strided.ensures c.in_err-walk-in-Strided-2.ensures))

pub walk_leg-walk-requires-in-Strided-3 : goal.walk_leg-walk-requires-in-Strided-3
walk_leg-walk-requires-in-Strided-3 t c =
    (search rules, clear_walked (bound c.deref-in-Strided-3.result.now) c.in_ok-walk-in-Strided-2.ensures (clear_walked (bound c.deref-in-Strided-3.result.now) c.in_ok-walk-in-Strided.ensures (clear_node _ (sym c.deref-in-Strided-3.ensures) (clear_strided c.in-Strided.e.value c.in-Strided.start.value c.in-Strided.end.value c.in-Strided.stride.value c.args.left.now (clear_leg _ (ap view_leg c.in-Strided.is) c.requires)).2)))

pub walk_leg-returns-in_err-walk-in-Strided-3 : goal.walk_leg-returns-in_err-walk-in-Strided-3
walk_leg-returns-in_err-walk-in-Strided-3 t c =
    let p = err_from_is_err_and c.from_residual-in_err-walk-in-Strided-3.result c.from_residual-in_err-walk-in-Strided-3.ensures.1 in
    stop_leg _ p.1 p.2 (leg_stops (ap view_leg c.in-Strided.is ∙ sym (λ i. strided (c.deref-in-Strided.ensures i) (c.deref-in-Strided-2.ensures i) (c.deref-in-Strided-3.ensures i) c.in-Strided.stride.value)) (end_stops c.in_ok-walk-in-Strided.ensures c.in_ok-walk-in-Strided-2.ensures c.in_err-walk-in-Strided-3.ensures))

pub walk_leg-walk-requires-in-Strided-4 : goal.walk_leg-walk-requires-in-Strided-4
walk_leg-walk-requires-in-Strided-4 t c =
    (search rules, clear_walked (bound c.deref-in-Strided-4.result.now) c.in_ok-walk-in-Strided-3.ensures (clear_walked (bound c.deref-in-Strided-4.result.now) c.in_ok-walk-in-Strided-2.ensures (clear_walked (bound c.deref-in-Strided-4.result.now) c.in_ok-walk-in-Strided.ensures (clear_node _ (sym c.deref-in-Strided-4.ensures) (clear_strided c.in-Strided.e.value c.in-Strided.start.value c.in-Strided.end.value c.in-Strided.stride.value c.args.left.now (clear_leg _ (ap view_leg c.in-Strided.is) c.requires)).3))))

pub walk_leg-returns-in_err-walk-in-Strided-4 : goal.walk_leg-returns-in_err-walk-in-Strided-4
walk_leg-returns-in_err-walk-in-Strided-4 t c =
    let p = err_from_is_err_and c.from_residual-in_err-walk-in-Strided-4.result c.from_residual-in_err-walk-in-Strided-4.ensures.1 in
    stop_leg _ p.1 p.2 (leg_stops (ap view_leg c.in-Strided.is ∙ sym (λ i. strided (c.deref-in-Strided.ensures i) (c.deref-in-Strided-2.ensures i) (c.deref-in-Strided-3.ensures i) (c.deref-in-Strided-4.ensures i))) (stride_stops c.in_ok-walk-in-Strided.ensures c.in_ok-walk-in-Strided-2.ensures c.in_ok-walk-in-Strided-3.ensures c.in_err-walk-in-Strided-4.ensures))

pub walk_leg-returns-in_ok-walk-in-Strided-4 : goal.walk_leg-returns-in_ok-walk-in-Strided-4
walk_leg-returns-in_ok-walk-in-Strided-4 t c =
    walked_leg (ap view_leg c.in-Strided.is ∙ sym (λ i. strided (c.deref-in-Strided.ensures i) (c.deref-in-Strided-2.ensures i) (c.deref-in-Strided-3.ensures i) (c.deref-in-Strided-4.ensures i))) (strided_walks c.in_ok-walk-in-Strided.ensures c.in_ok-walk-in-Strided-2.ensures c.in_ok-walk-in-Strided-3.ensures c.in_ok-walk-in-Strided-4.ensures)
