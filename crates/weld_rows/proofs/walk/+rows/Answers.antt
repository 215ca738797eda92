use Rattle.std.proofs.Common.{◌≡◌, ◌∙◌, ◌∷◌, ◌+◌, ◌-◌, ◌<◌, ◌≤◌, Bool, true, false, List, length, drop, get_or, refl, ap, sym, subst, arith}
use Rattle.weld_data.specs.View.{view_column, view_val}
use Rattle.weld_eval.specs.declared.thing.Owned.{Owned}
use Rattle.weld_eval.specs.declared.thing.Held.{Held}
use Rattle.weld_eval.specs.declared.thing.Fields.{Fields}
use Rattle.weld_acts.specs.Act.{Acts, act, act_all}
use Rattle.weld_rows.specs.RowActs.{row_act, ActAll, RowActFits, body_nodes}
use Rattle.weld_tree.specs.ExprFalls.{expr_nodes, leg_nodes}
use Rattle.weld_tree.specs.ExprTree.{ExprTree, LegTree, one, neg, not as not_of, cast, two, binary, and, or, three, if_else, select, many, let_in, loop, iterate, whole, strided, pack_exprs, pack_legs}
use Rattle.weld_tree.specs.ExprView.{view_form, view_one, view_two, view_three, view_many, view_leg}
use Rattle.weld_tree.specs.declared.expr.Form.{Form}
use Rattle.weld_tree.specs.declared.expr.OneForm.{OneForm}
use Rattle.weld_tree.specs.declared.expr.ThreeForm.{ThreeForm}
use Rattle.weld_tree.specs.declared.expr.TwoForm.{TwoForm}
use Rattle.weld_builders.specs.Outcome.{Outcome, done}
use Rattle.weld_built.specs.Pair.{pair}
use Rattle.weld_meaning.specs.Thing.{Thing, plain, bare_thing, more_things, fields_of}
use Rattle.weld_meaning.specs.Evaluation.{Env, eval, eval_leg, eval_legs, whole_number}
use Rattle.weld_eval.specs.Answers.{Answers}
use Rattle.weld_eval.specs.FrameView.{env_of}
use Rattle.weld_eval.specs.LegsView.{lists_of}
use Rattle.weld_eval.specs.RowLists.{row_in}
use Rattle.weld_eval.specs.RowView.{row_value}
use Rattle.weld_eval.specs.ShortView.{view_short}
use Rattle.weld_eval.specs.ThingView.{thing_of, things_of, held_of}
use Rattle.weld_eval_forms.specs.FormTakes.{all_of, AreAllEvaluated}
use Rattle.weld_eval_forms.specs.Legs.{elements_in, leg_lists, AreVectors}
use Rattle.weld_eval.specs.Fit.{IsFit}
use Rattle.weld_eval.specs.Takes.{OneTakes}
use Rattle.weld_eval_plain.specs.Nodes.{IsLoop}
use Rattle.weld_eval_plain.specs.Rows.{BodyAnswer, Joins}
use Rattle.weld_eval_plain.proofs.Legs.{whole_is_vector, vector_is, start_is, end_is, stride_is, start_faults, end_faults, stride_faults}
use Rattle.weld_eval_plain.proofs.Rows.{row_body_fits}
use Rattle.weld_eval_forms.proofs.Rows.{vector_at}
use Rattle.weld_acts.specs.ActFits.{ActFits, ActsFit}
use Rattle.weld_acts.proofs.Children.{acts_at, acts_after}
use Rattle.weld_eval_plain.proofs.Parts.{part_done, leg_done, one_vector_more, one_list_more}
use Rattle.weld_eval_plain.proofs.Turns.{turn_gives, turn_answers, turns_go_on, turns_end, turns_exceeded}
use Rattle.weld_eval_plain.proofs.Steps.{stops, second_faults, middle_faults, third_faults, body_joins, row_by_body, appended as body_appended}
use Rattle.weld_deeds.proofs.Merges.{put_number_item, put_plain, put_is}
use Rattle.weld_rows.specs.Nodes.{anywhere, either_form, value_thing}
use Rattle.weld_rows.specs.Numbers.{numeric}
use Rattle.weld_rows.specs.Runs.{Runs}
use Rattle.weld_rows.proofs.Direct.{plainly_runs}
use Rattle.weld_rows.proofs.LegLemmas.{leg_less, leg_runs, legs_rest_run, strided_runs}
use Rattle.weld_rows.proofs.Choosing.{selection_condition_runs, selection_then_runs, selection_otherwise_runs, selection_is_truth}
use Rattle.weld_rows.proofs.Nodes.{one_runs, one_number_runs, two_number_runs, three_number_runs, two_runs, three_runs, many_runs, let_runs, merge_acts, choice_acts, many_acts, binding_acts, is_either_form, is_strict_form}
use Rattle.weld_rows.proofs.Nodes.{loop_is_of, of_is_from, from_is_loop, legs_less, start_less, legs_are, legs_fit, legs_act_fit, legs_run, legs_run_acts, start_runs, start_acts, over_count, act_over_count, as_many, reach_less, over_ready, over_gives, act_ready, act_gives, lone_less, lone_ready, lone_act_ready, lone_act_gives}
use Rattle.weld_rows.proofs.Nodes.{iterate_is_of, of_is_iterate, state_less, state_runs, state_is_plain, state_holds, turns_start, state_faults}
use Rattle.weld_rows.proofs.Parts.{turn_runs, part_runs_at, rest_runs, part_less, first_runs, second_runs, both_take, all_take, parts_take}
use Rattle.weld_rows.proofs.Numbers.{numeric_runs, either_runs, number_given, either_first, either_second, either_truth, left_runs, right_runs, binary_answers, are_operands, choice_condition_runs, choice_is_truth, value_condition_runs, value_is_truth, then_runs, otherwise_runs}
use Rattle.weld_rows.proofs.Numbers.{neg_part_runs, neg_integer, neg_is, not_part_runs, not_truth, not_is, cast_part_runs, cast_integer, cast_is}
use Rattle.weld_rows.proofs.Values as values
use Rattle.weld_rows.proofs.Values.{part_run_takes, let_value_runs, let_body_runs, linked, all_linked, expr_some, part_runs, lone_starts, lone_done}
use Rattle.weld_rows.proofs.ActLemmas.{merge_part_acts, item_runs, item_puts, fields_fewer, fields_end, some_left, several_there, reads_some, choice_runs, choice_truth, let_first_runs, let_acts, struct_acts, struct_several, struct_gives, pair_less, pair_key_runs, pair_item_runs, pair_is, pair_item_stops}
use Rattle.weld_rows.proofs.RangeSteps.{row_names, row_names_bare, row_same, append_start, range_holds, range_append_stops, range_next, range_start, range_there, range_row_acts, range_act_stops, range_act_next, range_part, range_part_next, range_part_stops, block_ready, block_is_done}
use Rattle.weld_rows.proofs.walk.+rows.Goals as goal

pub numbers::in_other-number_in-requires : goal.numbers::in_other-number_in-requires
numbers::in_other-number_in-requires t c = number_given c.args.e.now (env_of c.args.frame.now) (held_of c.in-Ok.x) c.requires c.in-Ok.ensures

pub acts::tried-unread-requires : goal.acts::tried-unread-requires
acts::tried-unread-requires t c = let p : numeric c.args.e.now ≡ true = cc in (omega arith, numeric_runs c.args.e.now (env_of c.args.frame.now) p c.requires)

pub values::value-numeral-requires : goal.values::value-numeral-requires
values::value-numeral-requires t c = let p : numeric c.args.e.now ≡ true = cc in (omega arith, numeric_runs c.args.e.now (env_of c.args.frame.now) p c.requires)

pub values::reach-column_of-requires : goal.values::reach-column_of-requires
values::reach-column_of-requires t c = vector_at c.args.vectors.now (c.args.left - 1) c.index-vectors-left.result c.requires.vectors (omega arith) c.index-vectors-left.is

pub values::reach-reach-requires : goal.values::reach-reach-requires
values::reach-reach-requires t c = (omega arith, (c.requires.rows, (c.requires.direct, (c.requires.form, (omega arith, (c.link-more.ensures ∙ linked c.args.vectors.now c.args.left (c.args.left - 1) c.index-vectors-left.result (view_column c.column_of.result.now) (lists_of c.args.legs.now) (omega arith) c.requires.left c.index-vectors-left.is c.column_of.ensures c.requires.legs, c.requires.vectors))))))

pub rows::run_row-act-requires : goal.rows::run_row-act-requires
rows::run_row-act-requires t c =
    let is : c.args.e.now ≡ loop (record { place = c.e.inside.place; ty = c.e.inside.ty }) (pack_legs c.in-For.field-0) c.in-For.field-1.value c.deref.result.now c.deref-in-For.result.now c.deref-in-For-2.result.now c.deref-in-For-3.result.now = sym c.e.view_is ∙ ap (λ (f : Form). view_form f (record { place = c.e.inside.place; ty = c.e.inside.ty })) c.in-For.is ∙ (λ i. loop (record { place = c.e.inside.place; ty = c.e.inside.ty }) (pack_legs c.in-For.field-0) c.in-For.field-1.value (sym c.deref.ensures i) (sym c.deref-in-For.ensures i) (sym c.deref-in-For-2.ensures i) (sym c.deref-in-For-3.ensures i)) in
    let same : row_value c.new-row.result ≡ row_in (lists_of c.args.legs.now) c.args.number = row_same c.new-row.result (lists_of c.args.legs.now) c.args.number (row_value c.new-row.result) refl c.new-row.ensures.number c.new-row.ensures.lists in
    let names : env_of c.with_row-inner.result ≡ ((c.deref-in-For-2.result.now.sym.0, plain (row_in (lists_of c.args.legs.now) c.args.number)) ∷ (c.deref-in-For.result.now.sym.0, plain (whole_number c.args.number)) ∷ (c.deref.result.now.sym.0, thing_of c.args.own.now) ∷ (env_of c.args.frame.now)) = row_names _ _ _ _ _ _ _ _ _ _ _ _ c.with_row-inner.ensures c.with_number-middle.ensures c.with_builder-outer.ensures same c.whole_number.ensures in (
      omega (arith, ap body_nodes is),
      subst (λ (g : Env). ActFits c.deref-in-For-3.result.now g (thing_of c.args.builder.now)) (sym names) (subst (λ k. RowActFits k (env_of c.args.frame.now) (thing_of c.args.own.now) (c.args.number, row_in (lists_of c.args.legs.now) c.args.number) (thing_of c.args.builder.now)) is c.requires.fits),
    )

pub rows::run_row-returns : goal.rows::run_row-returns
rows::run_row-returns t c =
    let is : c.args.e.now ≡ loop (record { place = c.e.inside.place; ty = c.e.inside.ty }) (pack_legs c.in-For.field-0) c.in-For.field-1.value c.deref.result.now c.deref-in-For.result.now c.deref-in-For-2.result.now c.deref-in-For-3.result.now = sym c.e.view_is ∙ ap (λ (f : Form). view_form f (record { place = c.e.inside.place; ty = c.e.inside.ty })) c.in-For.is ∙ (λ i. loop (record { place = c.e.inside.place; ty = c.e.inside.ty }) (pack_legs c.in-For.field-0) c.in-For.field-1.value (sym c.deref.ensures i) (sym c.deref-in-For.ensures i) (sym c.deref-in-For-2.ensures i) (sym c.deref-in-For-3.ensures i)) in
    let same : row_value c.new-row.result ≡ row_in (lists_of c.args.legs.now) c.args.number = row_same c.new-row.result (lists_of c.args.legs.now) c.args.number (row_value c.new-row.result) refl c.new-row.ensures.number c.new-row.ensures.lists in
    let names : env_of c.with_row-inner.result ≡ ((c.deref-in-For-2.result.now.sym.0, plain (row_in (lists_of c.args.legs.now) c.args.number)) ∷ (c.deref-in-For.result.now.sym.0, plain (whole_number c.args.number)) ∷ (c.deref.result.now.sym.0, thing_of c.args.own.now) ∷ (env_of c.args.frame.now)) = row_names _ _ _ _ _ _ _ _ _ _ _ _ c.with_row-inner.ensures c.with_number-middle.ensures c.with_builder-outer.ensures same c.whole_number.ensures in
    subst (λ k. Acts c.act.result (row_act k (env_of c.args.frame.now) (thing_of c.args.own.now) (c.args.number, row_in (lists_of c.args.legs.now) c.args.number) (thing_of c.args.builder.now)) (thing_of c.act.new.builder)) (sym is)
    (subst (λ (g : Env). Acts c.act.result (act c.deref-in-For-3.result.now g (thing_of c.args.builder.now)) (thing_of c.act.new.builder)) names c.act.ensures)

pub acts::act_fields-act-requires : goal.acts::act_fields-act-requires
acts::act_fields-act-requires t c =
    let h : ActsFit (pack_exprs (drop c.args.number c.args.parts.now)) (env_of c.args.frame.now) (more_things (thing_of c.in-And.first.value) (things_of c.in-And.rest.value)) = subst (λ (fs : Fields). ActsFit (pack_exprs (drop c.args.number c.args.parts.now)) (env_of c.args.frame.now) (things_of fs)) c.in-And.is c.requires in
    let less : c.args.number < length c.args.parts.now = some_left c.args.parts.now c.args.number (env_of c.args.frame.now) _ _ h in
    let at : c.index-as_slice-number.result ≡ get_or c.args.parts.now c.args.number c.index-as_slice-number.result = c.index-as_slice-number.is ∙ ap (λ (l : List ExprTree). get_or l c.args.number c.index-as_slice-number.result) c.as_slice.ensures.value in
    let fewer = fields_fewer c.args.parts.now c.args.number c.index-as_slice-number.result less at in
    let some = expr_some c.index-as_slice-number.result in
    (omega arith, subst (λ (o : Owned). ActFits c.index-as_slice-number.result (env_of c.args.frame.now) (thing_of o)) (sym c.deref_mut.ensures.value) (acts_at c.args.parts.now (env_of c.args.frame.now) c.args.number c.index-as_slice-number.result _ _ less at h))

pub acts::act_fields-act_fields-requires : goal.acts::act_fields-act_fields-requires
acts::act_fields-act_fields-requires t c =
    let h : ActsFit (pack_exprs (drop c.args.number c.args.parts.now)) (env_of c.args.frame.now) (more_things (thing_of c.in-And.first.value) (things_of c.in-And.rest.value)) = subst (λ (fs : Fields). ActsFit (pack_exprs (drop c.args.number c.args.parts.now)) (env_of c.args.frame.now) (things_of fs)) c.in-And.is c.requires in
    let less : c.args.number < length c.args.parts.now = some_left c.args.parts.now c.args.number (env_of c.args.frame.now) _ _ h in
    let at : c.index-as_slice-number.result ≡ get_or c.args.parts.now c.args.number c.index-as_slice-number.result = c.index-as_slice-number.is ∙ ap (λ (l : List ExprTree). get_or l c.args.number c.index-as_slice-number.result) c.as_slice.ensures.value in
    let fewer = fields_fewer c.args.parts.now c.args.number c.index-as_slice-number.result less at in
    let some = expr_some c.index-as_slice-number.result in
    (omega arith, subst (λ (fs : Fields). ActsFit (pack_exprs (drop (c.args.number + 1) c.args.parts.now)) (env_of c.args.frame.now) (things_of fs)) (sym c.deref_mut-in-Ok.ensures.value) (acts_after c.args.parts.now (env_of c.args.frame.now) c.args.number c.index-as_slice-number.result _ _ less at h))

pub acts::act_fields-returns-in-End : goal.acts::act_fields-returns-in-End
acts::act_fields-returns-in-End t c =
    subst (λ (fs : Fields). act_all (pack_exprs (drop c.args.number c.args.parts.now)) (env_of c.args.frame.now) (things_of fs) ≡ done (things_of fs)) (sym c.in-End.is) (fields_end (pack_exprs (drop c.args.number c.args.parts.now)) (env_of c.args.frame.now) (subst (λ (fs : Fields). ActsFit (pack_exprs (drop c.args.number c.args.parts.now)) (env_of c.args.frame.now) (things_of fs)) c.in-End.is c.requires))

pub acts::put-put_number-requires : goal.acts::put-put_number-requires
acts::put-put_number-requires t c = put_number_item c.args.item.now (env_of c.args.frame.now) (thing_of c.args.builder.now) (view_short c.in-Ok-Some.n) c.requires.fits (reads_some c.in-Ok-Some.field-0 c.in-Ok-Some.n _ c.in-Ok-Some.field-0-is c.in-Ok-Some.ensures)

pub acts::put_made-put_held-requires-clause-plain : goal.acts::put_made-put_held-requires-clause-plain
acts::put_made-put_held-requires-clause-plain t c = put_plain c.args.item.now (env_of c.args.frame.now) (thing_of c.args.builder.now) (held_of c.in-Ok.x) c.requires.fits c.in-Ok.ensures

pub rows::walk_rows-run_row-requires : goal.rows::walk_rows-run_row-requires
rows::walk_rows-run_row-requires t c = (omega arith, (range_there c.args.e.now (env_of c.args.frame.now) (lists_of c.args.legs.now) c.args.from c.args.to _ _ c.loop-number.number (thing_of c.loop-number.builder) c.loop-number.invariant c.loop-number-test.true, range_row_acts c.args.e.now (env_of c.args.frame.now) (lists_of c.args.legs.now) c.args.from c.args.to _ _ c.loop-number.number (thing_of c.loop-number.builder) c.requires.direct c.loop-number.invariant c.loop-number-test.true))

pub rows::walk_rows-returns-in-Err : goal.rows::walk_rows-returns-in-Err
rows::walk_rows-returns-in-Err t c = range_act_stops (Unit {0}) (Unit {0}) c.in-Err.stop c.args.e.now (env_of c.args.frame.now) (lists_of c.args.legs.now) c.args.from c.args.to _ _ c.loop-number.number (thing_of c.loop-number.builder) (thing_of c.run_row.new.builder) (thing_of c.run_row.new.builder) c.requires.direct c.loop-number.invariant c.loop-number-test.true c.in-Err.ensures

pub rows::walk_rows-loop-number-preserved : goal.rows::walk_rows-loop-number-preserved
rows::walk_rows-loop-number-preserved t c = range_act_next c.args.e.now (env_of c.args.frame.now) (lists_of c.args.legs.now) c.args.from c.args.to _ _ c.loop-number.number (thing_of c.loop-number.builder) (thing_of c.run_row.new.builder) c.requires.direct c.loop-number.invariant c.loop-number-test.true c.in-Ok.ensures

pub acts::put_other-put_two-requires : goal.acts::put_other-put_two-requires
acts::put_other-put_two-requires t c = put_number_item c.args.item.now (env_of c.args.frame.now) (thing_of c.args.builder.now) (pair (view_short c.in-Some.found.0) (view_short c.in-Some.found.1)) c.requires.fits c.in-Some.ensures

-- ---- blocks

pub rows::run_rows-run_blocks-answer-requires : goal.rows::run_rows-run_blocks-answer-requires
rows::run_rows-run_blocks-answer-requires t c =
    (omega arith, (range_start c.args.e.now (env_of c.args.frame.now) (lists_of c.args.legs.now) c.args.from c.args.to (thing_of c.args.builder.now) (thing_of c.in-Ok.own) c.requires.rows c.in-Ok.ensures, (c.requires.direct, c.requires.form)))

pub rows::run_blocks-run_block-requires : goal.rows::run_blocks-run_block-requires
rows::run_blocks-run_block-requires t c =
    let low : c.pieces.reached ≤ c.block_end-end.result = omega (arith, c.block_end-end.ensures.more) in
    (omega arith, (range_part c.args.e.now (env_of c.args.frame.now) (lists_of c.args.legs.now) c.args.from c.args.to (thing_of c.args.builder.now) (thing_of c.args.own.now) c.pieces.reached c.block_end-end.result (thing_of c.pieces.builder) c.pieces.invariant low c.block_end-end.ensures.within, (c.requires.direct, c.requires.form)))

pub rows::run_blocks-returns-in-Err : goal.rows::run_blocks-returns-in-Err
rows::run_blocks-returns-in-Err t c =
    let low : c.pieces.reached ≤ c.block_end-end.result = omega (arith, c.block_end-end.ensures.more) in
    range_part_stops Bool (Unit {0}) c.in-Err.stop c.args.e.now (env_of c.args.frame.now) (lists_of c.args.legs.now) c.args.from c.args.to (thing_of c.args.builder.now) (thing_of c.args.own.now) c.pieces.reached c.block_end-end.result (thing_of c.pieces.builder)
    (thing_of c.run_block.new.builder) (thing_of c.run_block.new.builder) c.pieces.invariant low c.block_end-end.ensures.within c.in-Err.ensures

pub rows::run_blocks-pieces-preserved : goal.rows::run_blocks-pieces-preserved
rows::run_blocks-pieces-preserved t c =
    let low : c.pieces.reached ≤ c.block_end-end.result = omega (arith, c.block_end-end.ensures.more) in
    range_part_next c.args.e.now (env_of c.args.frame.now) (lists_of c.args.legs.now) c.args.from c.args.to (thing_of c.args.builder.now) (thing_of c.args.own.now) c.pieces.reached c.block_end-end.result (thing_of c.pieces.builder)
    (thing_of c.run_block.new.builder) c.pieces.invariant low c.block_end-end.ensures.within c.in-Ok.ensures

-- ---- forms of two and three parts, vectors and structs, turns

pub turns::run_turn-value-requires : goal.turns::run_turn-value-requires
turns::run_turn-value-requires t c =
    let is : c.args.e.now ≡ iterate (record { place = c.e.inside.place; ty = c.e.inside.ty }) c.in-Iterate.field-0.value c.in-Iterate.binder c.deref.result.now = sym c.e.view_is ∙ ap (λ (f : Form). view_form f (record { place = c.e.inside.place; ty = c.e.inside.ty })) c.in-Iterate.is ∙ (λ i. iterate (record { place = c.e.inside.place; ty = c.e.inside.ty }) c.in-Iterate.field-0.value c.in-Iterate.binder (sym c.deref.ensures i)) in
    (omega (arith, ap expr_nodes is), subst (λ (g : Env). Runs c.args.in_place c.deref.result.now g) (sym c.bind-inner.ensures) (turn_runs _ _ _ c.deref.result.now (env_of c.args.frame.now) c.args.e.now (view_val c.args.state) is c.requires.state c.requires.direct))

pub turns::run_turn-pair_of-requires : goal.turns::run_turn-pair_of-requires
turns::run_turn-pair_of-requires t c =
    let is : c.args.e.now ≡ iterate (record { place = c.e.inside.place; ty = c.e.inside.ty }) c.in-Iterate.field-0.value c.in-Iterate.binder c.deref.result.now = sym c.e.view_is ∙ ap (λ (f : Form). view_form f (record { place = c.e.inside.place; ty = c.e.inside.ty })) c.in-Iterate.is ∙ (λ i. iterate (record { place = c.e.inside.place; ty = c.e.inside.ty }) c.in-Iterate.field-0.value c.in-Iterate.binder (sym c.deref.ensures i)) in
    let q : eval c.deref.result.now ((c.in-Iterate.binder.sym.0, plain (view_val c.args.state)) ∷ env_of c.args.frame.now) ≡ done (held_of c.in-Ok.pair) = sym (ap (λ (g : Env). eval c.deref.result.now g) c.bind-inner.ensures) ∙ c.in-Ok.ensures in
    turn_gives _ _ _ c.deref.result.now (env_of c.args.frame.now) c.args.e.now (view_val c.args.state) (held_of c.in-Ok.pair) is c.requires.state q

pub turns::run_turn-returns-in-Ok : goal.turns::run_turn-returns-in-Ok
turns::run_turn-returns-in-Ok t c =
    let is : c.args.e.now ≡ iterate (record { place = c.e.inside.place; ty = c.e.inside.ty }) c.in-Iterate.field-0.value c.in-Iterate.binder c.deref.result.now = sym c.e.view_is ∙ ap (λ (f : Form). view_form f (record { place = c.e.inside.place; ty = c.e.inside.ty })) c.in-Iterate.is ∙ (λ i. iterate (record { place = c.e.inside.place; ty = c.e.inside.ty }) c.in-Iterate.field-0.value c.in-Iterate.binder (sym c.deref.ensures i)) in
    let q : eval c.deref.result.now ((c.in-Iterate.binder.sym.0, plain (view_val c.args.state)) ∷ env_of c.args.frame.now) ≡ done (held_of c.in-Ok.pair) = sym (ap (λ (g : Env). eval c.deref.result.now g) c.bind-inner.ensures) ∙ c.in-Ok.ensures in
    turn_answers _ _ _ c.deref.result.now (env_of c.args.frame.now) c.args.e.now (view_val c.args.state) (held_of c.in-Ok.pair) c.pair_of.result is c.requires.state q c.pair_of.ensures

pub turns::run_turns-loop-turn-preserved : goal.turns::run_turns-loop-turn-preserved
turns::run_turns-loop-turn-preserved t c =
    (c.in-Ok-default-true.ensures.0, c.loop-turn.invariant.1 ∙ turns_go_on c.args.e.now (env_of c.args.frame.now) c.loop-turn._turn (view_val c.loop-turn.state) (c.in-Ok-default-true.next, c.in-Ok-default-true.field-0-1) (omega arith) c.in-Ok-default-true.field-0-1-test c.in-Ok-default-true.ensures)

pub turns::run_turns-returns-in-Ok-default-false : goal.turns::run_turns-returns-in-Ok-default-false
turns::run_turns-returns-in-Ok-default-false t c =
    c.loop-turn.invariant.1 ∙ turns_end c.args.e.now (env_of c.args.frame.now) c.loop-turn._turn (view_val c.loop-turn.state) (c.in-Ok-default-false.last, c.in-Ok-default-false.field-0-1) (omega arith) c.in-Ok-default-false.field-0-1-test c.in-Ok-default-false.ensures

pub turns::run_turns-returns : goal.turns::run_turns-returns
turns::run_turns-returns t c =
    c.loop-turn.invariant.1 ∙ turns_exceeded c.args.e.now (env_of c.args.frame.now) c.loop-turn._turn (view_val c.loop-turn.state) (omega arith)

pub values::things-value-requires : goal.values::things-value-requires
values::things-value-requires t c =
    let less = part_less c.as_slice-part-items.result.now c.args.parts.now c.loop-part.part-index c.part-item.result c.as_slice-part-items.ensures.value c.loop-part-test.true c.part-item.is in
    (omega arith, part_runs_at c.as_slice-part-items.result.now (env_of c.args.frame.now) c.loop-part.part-index c.part-item.result c.loop-part-test.true c.part-item.is c.loop-part.invariant.0)

pub values::things-loop-part-preserved : goal.values::things-loop-part-preserved
values::things-loop-part-preserved t c = (
  rest_runs c.as_slice-part-items.result.now (env_of c.args.frame.now) c.loop-part.part-index c.part-item.result c.loop-part-test.true c.part-item.is c.loop-part.invariant.0,
  c.loop-part.invariant.1 ∙ part_done c.as_slice-part-items.result.now (env_of c.args.frame.now) (all_of c.loop-part.things.items) (all_of c.push_thing.new.things.items) c.loop-part.part-index c.part-item.result (held_of c.in-Ok.x) c.loop-part-test.true c.part-item.is c.in-Ok.ensures c.in-Ok-push_thing.ensures,
)

-- ---- legs

pub legs::eval_legs-eval_leg-requires : goal.legs::eval_legs-eval_leg-requires
legs::eval_legs-eval_leg-requires t c =
    let less = leg_less c.as_slice-leg-items.result.now c.args.legs.now c.loop-leg.leg-index c.leg-item.result c.as_slice-leg-items.ensures.value c.loop-leg-test.true c.leg-item.is in
    (omega arith, leg_runs c.as_slice-leg-items.result.now (env_of c.args.frame.now) c.loop-leg.leg-index c.leg-item.result c.loop-leg-test.true c.leg-item.is c.loop-leg.invariant.0)

pub legs::eval_leg-whole-requires : goal.legs::eval_leg-whole-requires
legs::eval_leg-whole-requires t c =
    whole_is_vector c.deref.result.now (env_of c.args.frame.now) (view_leg c.args.leg.now) (held_of c.in-Ok.v) (ap view_leg c.in-Whole.is ∙ (λ i. whole (sym c.deref.ensures i))) c.requires.fit c.in-Ok.ensures

pub legs::eval_legs-loop-leg-preserved : goal.legs::eval_legs-loop-leg-preserved
legs::eval_legs-loop-leg-preserved t c = (
  legs_rest_run c.as_slice-leg-items.result.now (env_of c.args.frame.now) c.loop-leg.leg-index c.leg-item.result c.loop-leg-test.true c.leg-item.is c.loop-leg.invariant.0,
  subst (λ hs. AreVectors hs) (sym c.in-Ok-push.ensures.items) (one_vector_more c.loop-leg.vectors.items c.in-Ok.vector c.loop-leg.invariant.1 c.in-Ok.ensures.vector),
  c.loop-leg.invariant.2 ∙ leg_done c.as_slice-leg-items.result.now (env_of c.args.frame.now) (leg_lists c.loop-leg.vectors.items) (leg_lists c.push.new.self.items) c.loop-leg.leg-index c.leg-item.result (elements_in c.in-Ok.vector) c.loop-leg-test.true c.leg-item.is c.in-Ok.ensures.elements
      (ap (λ hs. leg_lists hs) c.in-Ok-push.ensures.items ∙ one_list_more c.loop-leg.vectors.items c.in-Ok.vector),
)

-- ---- rows that are appended

pub appended::append_row-append_body-answer-requires : goal.appended::append_row-append_body-answer-requires
appended::append_row-append_body-answer-requires t c =
    let is : c.args.e.now ≡ loop (record { place = c.e.inside.place; ty = c.e.inside.ty }) (pack_legs c.in-For.field-0) c.in-For.field-1.value c.deref.result.now c.deref-in-For.result.now c.deref-in-For-2.result.now c.deref-in-For-3.result.now = sym c.e.view_is ∙ ap (λ (f : Form). view_form f (record { place = c.e.inside.place; ty = c.e.inside.ty })) c.in-For.is ∙ (λ i. loop (record { place = c.e.inside.place; ty = c.e.inside.ty }) (pack_legs c.in-For.field-0) c.in-For.field-1.value (sym c.deref.ensures i) (sym c.deref-in-For.ensures i) (sym c.deref-in-For-2.ensures i) (sym c.deref-in-For-3.ensures i)) in
    let same : row_value c.new-row.result ≡ row_in (lists_of c.args.legs.now) c.args.number = row_same c.new-row.result (lists_of c.args.legs.now) c.args.number (row_value c.new-row.result) refl c.new-row.ensures.number c.new-row.ensures.lists in
    let names : env_of c.with_row-inner.result ≡ ((c.deref-in-For-2.result.now.sym.0, plain (row_in (lists_of c.args.legs.now) c.args.number)) ∷ (c.deref-in-For.result.now.sym.0, plain (whole_number c.args.number)) ∷ (c.deref.result.now.sym.0, bare_thing (thing_of c.args.builder.now)) ∷ (env_of c.args.frame.now)) = row_names_bare _ _ _ _ _ _ _ _ _ _ _ _ _ c.with_row-inner.ensures c.with_number-middle.ensures c.with_builder-outer.ensures same c.whole_number.ensures c.in-Ok.ensures in (
      omega (arith, ap body_nodes is),
      (
        plainly_runs c.deref-in-For-3.result.now (env_of c.with_row-inner.result) (subst (λ (g : Env). IsFit c.deref-in-For-3.result.now g) (sym names) (row_body_fits _ _ _ _ _ _ c.deref-in-For-3.result.now (env_of c.args.frame.now) c.args.e.now c.args.number (thing_of c.args.builder.now) (row_in (lists_of c.args.legs.now) c.args.number) is c.requires.holds)),
        subst (λ (g : Env). Joins c.deref-in-For-3.result.now g (thing_of c.args.builder.now)) (sym names) (body_joins _ _ _ _ _ _ c.deref-in-For-3.result.now (env_of c.args.frame.now) c.args.e.now c.args.number (thing_of c.args.builder.now) (row_in (lists_of c.args.legs.now) c.args.number) is c.requires.holds),
      ),
    )

pub appended::append_row-returns : goal.appended::append_row-returns
appended::append_row-returns t c =
    let is : c.args.e.now ≡ loop (record { place = c.e.inside.place; ty = c.e.inside.ty }) (pack_legs c.in-For.field-0) c.in-For.field-1.value c.deref.result.now c.deref-in-For.result.now c.deref-in-For-2.result.now c.deref-in-For-3.result.now = sym c.e.view_is ∙ ap (λ (f : Form). view_form f (record { place = c.e.inside.place; ty = c.e.inside.ty })) c.in-For.is ∙ (λ i. loop (record { place = c.e.inside.place; ty = c.e.inside.ty }) (pack_legs c.in-For.field-0) c.in-For.field-1.value (sym c.deref.ensures i) (sym c.deref-in-For.ensures i) (sym c.deref-in-For-2.ensures i) (sym c.deref-in-For-3.ensures i)) in
    let same : row_value c.new-row.result ≡ row_in (lists_of c.args.legs.now) c.args.number = row_same c.new-row.result (lists_of c.args.legs.now) c.args.number (row_value c.new-row.result) refl c.new-row.ensures.number c.new-row.ensures.lists in
    let names : env_of c.with_row-inner.result ≡ ((c.deref-in-For-2.result.now.sym.0, plain (row_in (lists_of c.args.legs.now) c.args.number)) ∷ (c.deref-in-For.result.now.sym.0, plain (whole_number c.args.number)) ∷ (c.deref.result.now.sym.0, bare_thing (thing_of c.args.builder.now)) ∷ (env_of c.args.frame.now)) = row_names_bare _ _ _ _ _ _ _ _ _ _ _ _ _ c.with_row-inner.ensures c.with_number-middle.ensures c.with_builder-outer.ensures same c.whole_number.ensures c.in-Ok.ensures in
    row_by_body c.append_body-answer.result _ _ _ _ _ _ c.deref-in-For-3.result.now (env_of c.args.frame.now) c.args.e.now c.args.number (thing_of c.args.builder.now) (thing_of c.append_body-answer.new.builder) (row_in (lists_of c.args.legs.now) c.args.number) is c.requires.holds
    (subst (λ (g : Env). BodyAnswer c.append_body-answer.result c.deref-in-For-3.result.now g (thing_of c.args.builder.now) (thing_of c.append_body-answer.new.builder)) names c.append_body-answer.ensures)

pub appended::append_body-append-requires : goal.appended::append_body-append-requires
appended::append_body-append-requires t c = c.requires.joins.joins (held_of c.in-Ok.merged) c.in-Ok.ensures

pub appended::append_body-returns-in-Ok : goal.appended::append_body-returns-in-Ok
appended::append_body-returns-in-Ok t c =
    body_appended c.append.result c.args.body.now (env_of c.args.frame.now) (thing_of c.args.builder.now) (held_of c.in-Ok.merged) (thing_of c.append.new.builder) c.in-Ok.ensures c.append.ensures.joined c.append.ensures.memory

pub appended::append_rows-loop-number-init : goal.appended::append_rows-loop-number-init
appended::append_rows-loop-number-init t c = append_start c.args.e.now (env_of c.args.frame.now) (lists_of c.args.legs.now) c.args.from c.args.to (thing_of c.args.builder.now) c.requires.rows

pub appended::append_rows-append_row-requires : goal.appended::append_rows-append_row-requires
appended::append_rows-append_row-requires t c = (omega arith, (range_there c.args.e.now (env_of c.args.frame.now) (lists_of c.args.legs.now) c.args.from c.args.to _ _ c.loop-number.number (thing_of c.loop-number.builder) c.loop-number.invariant c.loop-number-test.true, (range_holds c.args.e.now (env_of c.args.frame.now) (lists_of c.args.legs.now) c.args.from c.args.to _ _ c.loop-number.number (thing_of c.loop-number.builder) c.loop-number.invariant c.loop-number-test.true, c.requires.form)))

pub appended::append_rows-returns-in-Err : goal.appended::append_rows-returns-in-Err
appended::append_rows-returns-in-Err t c = range_append_stops (Unit {0}) (Unit {0}) c.in-Err.stop c.args.e.now (env_of c.args.frame.now) (lists_of c.args.legs.now) c.args.from c.args.to _ _ c.loop-number.number (thing_of c.loop-number.builder) (thing_of c.append_row.new.builder) (thing_of c.append_row.new.builder) c.loop-number.invariant c.loop-number-test.true c.in-Err.ensures

pub appended::append_rows-loop-number-preserved : goal.appended::append_rows-loop-number-preserved
appended::append_rows-loop-number-preserved t c = range_next c.args.e.now (env_of c.args.frame.now) (lists_of c.args.legs.now) c.args.from c.args.to _ _ c.loop-number.number (thing_of c.loop-number.builder) (thing_of c.append_row.new.builder) c.loop-number.invariant c.loop-number-test.true c.in-Ok.ensures

-- ---- one vector that is lent

pub lent::total-total_of_part-requires : goal.lent::total-total_of_part-requires
lent::total-total_of_part-requires t c =
    let is : c.args.e.now ≡ one (record { place = c.e.inside.place; ty = c.e.inside.ty }) (view_one c.in-One.form) c.deref.result.now = sym c.e.view_is ∙ ap (λ (f : Form). view_form f (record { place = c.e.inside.place; ty = c.e.inside.ty })) c.in-One.is ∙ (λ i. one (record { place = c.e.inside.place; ty = c.e.inside.ty }) (view_one c.in-One.form) (sym c.deref.ensures i)) in
    (omega (arith, ap expr_nodes is), (part_runs _ _ c.deref.result.now (env_of c.args.frame.now) c.args.e.now is c.requires, (λ x q. part_run_takes _ _ c.deref.result.now (env_of c.args.frame.now) c.args.e.now x is c.requires q)))

pub lent::total_of_part-total_of_loop-requires : goal.lent::total_of_part-total_of_loop-requires
lent::total_of_part-total_of_loop-requires t c = (omega arith, (c.requires.runs, (λ x q. subst (λ (o : OneForm). OneTakes (view_one o) x) c.in-Finish.is (c.requires.takes x q))))

pub lent::total_of_loop-hand_on-requires : goal.lent::total_of_loop-hand_on-requires
lent::total_of_loop-hand_on-requires t c =
    let is = sym c.e.view_is ∙ ap (λ (f : Form). view_form f (record { place = c.e.inside.place; ty = c.e.inside.ty })) c.in-For.is ∙ (λ i. loop (record { place = c.e.inside.place; ty = c.e.inside.ty }) (pack_legs c.in-For.legs) (sym c.deref.ensures i) c.in-For.field-2.value c.in-For.field-3.value c.in-For.field-4.value c.in-For.field-5.value) in
    let less = values.lone_less _ _ _ _ _ _ _ c.args.e.now (sym c.e.view_is ∙ ap (λ (f : Form). view_form f (record { place = c.e.inside.place; ty = c.e.inside.ty })) c.in-For.is) in
    (omega arith, (lone_starts _ _ c.deref.result.now _ _ _ _ (env_of c.args.frame.now) c.args.e.now (view_column c.in-Some-lent_leg.column.now) _ is c.requires.runs c.in-Some-lent_leg.ensures c.in-Some.ensures, (c.requires.runs.direct, subst (λ k. IsLoop k) (sym is) tt)))

pub lent::total_of_loop-number_finished-requires : goal.lent::total_of_loop-number_finished-requires
lent::total_of_loop-number_finished-requires t c =
    let is = sym c.e.view_is ∙ ap (λ (f : Form). view_form f (record { place = c.e.inside.place; ty = c.e.inside.ty })) c.in-For.is ∙ (λ i. loop (record { place = c.e.inside.place; ty = c.e.inside.ty }) (pack_legs c.in-For.legs) (sym c.deref.ensures i) c.in-For.field-2.value c.in-For.field-3.value c.in-For.field-4.value c.in-For.field-5.value) in
    c.requires.takes (thing_of c.hand_on.new.builder) (lone_done _ _ c.deref.result.now _ _ _ _ (env_of c.args.frame.now) c.args.e.now (view_column c.in-Some-lent_leg.column.now) _ (thing_of c.hand_on.new.builder) is c.in-Some-lent_leg.ensures c.in-Some.ensures c.in-Ok.ensures)

-- ---- nodes whose parts are handed on

pub values::other-value_of_one-requires : goal.values::other-value_of_one-requires
values::other-value_of_one-requires t c =
    let is : c.args.e.now ≡ one (record { place = c.e.inside.place; ty = c.e.inside.ty }) (view_one c.in-One.form) c.deref.result.now = sym c.e.view_is ∙ ap (λ (f : Form). view_form f (record { place = c.e.inside.place; ty = c.e.inside.ty })) c.in-One.is ∙ (λ i. one (record { place = c.e.inside.place; ty = c.e.inside.ty }) (view_one c.in-One.form) (sym c.deref.ensures i)) in
    (omega (arith, ap expr_nodes is), one_runs _ _ _ (env_of c.args.frame.now) c.args.e.now is c.requires)

pub values::other-returns-in-One : goal.values::other-returns-in-One
values::other-returns-in-One t c =
    let is : c.args.e.now ≡ one (record { place = c.e.inside.place; ty = c.e.inside.ty }) (view_one c.in-One.form) c.deref.result.now = sym c.e.view_is ∙ ap (λ (f : Form). view_form f (record { place = c.e.inside.place; ty = c.e.inside.ty })) c.in-One.is ∙ (λ i. one (record { place = c.e.inside.place; ty = c.e.inside.ty }) (view_one c.in-One.form) (sym c.deref.ensures i)) in
    subst (λ (m : ExprTree). Answers held_of c.value_of_one.result (eval m (env_of c.args.frame.now))) (sym is) c.value_of_one.ensures

pub values::other-value_of_two-requires : goal.values::other-value_of_two-requires
values::other-value_of_two-requires t c =
    let is : c.args.e.now ≡ two (record { place = c.e.inside.place; ty = c.e.inside.ty }) (view_two c.in-Two.form) c.deref-in-Two.result.now c.deref-in-Two-2.result.now = sym c.e.view_is ∙ ap (λ (f : Form). view_form f (record { place = c.e.inside.place; ty = c.e.inside.ty })) c.in-Two.is ∙ (λ i. two (record { place = c.e.inside.place; ty = c.e.inside.ty }) (view_two c.in-Two.form) (sym c.deref-in-Two.ensures i) (sym c.deref-in-Two-2.ensures i)) in
    (omega (arith, ap expr_nodes is), two_runs _ _ _ _ (env_of c.args.frame.now) c.args.e.now is c.requires)

pub values::other-returns-in-Two : goal.values::other-returns-in-Two
values::other-returns-in-Two t c =
    let is : c.args.e.now ≡ two (record { place = c.e.inside.place; ty = c.e.inside.ty }) (view_two c.in-Two.form) c.deref-in-Two.result.now c.deref-in-Two-2.result.now = sym c.e.view_is ∙ ap (λ (f : Form). view_form f (record { place = c.e.inside.place; ty = c.e.inside.ty })) c.in-Two.is ∙ (λ i. two (record { place = c.e.inside.place; ty = c.e.inside.ty }) (view_two c.in-Two.form) (sym c.deref-in-Two.ensures i) (sym c.deref-in-Two-2.ensures i)) in
    subst (λ (m : ExprTree). Answers held_of c.value_of_two.result (eval m (env_of c.args.frame.now))) (sym is) c.value_of_two.ensures

pub values::other-value_of_three-requires : goal.values::other-value_of_three-requires
values::other-value_of_three-requires t c =
    let is : c.args.e.now ≡ three (record { place = c.e.inside.place; ty = c.e.inside.ty }) (view_three c.in-Three.form) c.deref-in-Three.result.now c.deref-in-Three-2.result.now c.deref-in-Three-3.result.now = sym c.e.view_is ∙ ap (λ (f : Form). view_form f (record { place = c.e.inside.place; ty = c.e.inside.ty })) c.in-Three.is ∙ (λ i. three (record { place = c.e.inside.place; ty = c.e.inside.ty }) (view_three c.in-Three.form) (sym c.deref-in-Three.ensures i) (sym c.deref-in-Three-2.ensures i) (sym c.deref-in-Three-3.ensures i)) in
    (omega (arith, ap expr_nodes is), three_runs _ _ _ _ _ (env_of c.args.frame.now) c.args.e.now is c.requires)

pub values::other-returns-in-Three : goal.values::other-returns-in-Three
values::other-returns-in-Three t c =
    let is : c.args.e.now ≡ three (record { place = c.e.inside.place; ty = c.e.inside.ty }) (view_three c.in-Three.form) c.deref-in-Three.result.now c.deref-in-Three-2.result.now c.deref-in-Three-3.result.now = sym c.e.view_is ∙ ap (λ (f : Form). view_form f (record { place = c.e.inside.place; ty = c.e.inside.ty })) c.in-Three.is ∙ (λ i. three (record { place = c.e.inside.place; ty = c.e.inside.ty }) (view_three c.in-Three.form) (sym c.deref-in-Three.ensures i) (sym c.deref-in-Three-2.ensures i) (sym c.deref-in-Three-3.ensures i)) in
    subst (λ (m : ExprTree). Answers held_of c.value_of_three.result (eval m (env_of c.args.frame.now))) (sym is) c.value_of_three.ensures

pub values::other-value_of_many-requires : goal.values::other-value_of_many-requires
values::other-value_of_many-requires t c =
    let is : c.args.e.now ≡ many (record { place = c.e.inside.place; ty = c.e.inside.ty }) (view_many c.in-Many.form) (pack_exprs c.in-Many.parts) = sym c.e.view_is ∙ ap (λ (f : Form). view_form f (record { place = c.e.inside.place; ty = c.e.inside.ty })) c.in-Many.is in
    (omega (arith, ap expr_nodes is), many_runs _ _ _ (env_of c.args.frame.now) c.args.e.now is c.requires)

pub values::other-returns-in-Many : goal.values::other-returns-in-Many
values::other-returns-in-Many t c =
    let is : c.args.e.now ≡ many (record { place = c.e.inside.place; ty = c.e.inside.ty }) (view_many c.in-Many.form) (pack_exprs c.in-Many.parts) = sym c.e.view_is ∙ ap (λ (f : Form). view_form f (record { place = c.e.inside.place; ty = c.e.inside.ty })) c.in-Many.is in
    subst (λ (m : ExprTree). Answers held_of c.value_of_many.result (eval m (env_of c.args.frame.now))) (sym is) c.value_of_many.ensures

pub values::other-value_of_let-requires : goal.values::other-value_of_let-requires
values::other-value_of_let-requires t c =
    let is : c.args.e.now ≡ let_in (record { place = c.e.inside.place; ty = c.e.inside.ty }) c.in-Let.binder c.deref-in-Let.result.now c.deref-in-Let-2.result.now = sym c.e.view_is ∙ ap (λ (f : Form). view_form f (record { place = c.e.inside.place; ty = c.e.inside.ty })) c.in-Let.is ∙ (λ i. let_in (record { place = c.e.inside.place; ty = c.e.inside.ty }) c.in-Let.binder (sym c.deref-in-Let.ensures i) (sym c.deref-in-Let-2.ensures i)) in
    (omega (arith, ap expr_nodes is), let_runs _ _ _ _ (env_of c.args.frame.now) c.args.e.now is c.requires)

pub values::other-returns-in-Let : goal.values::other-returns-in-Let
values::other-returns-in-Let t c =
    let is : c.args.e.now ≡ let_in (record { place = c.e.inside.place; ty = c.e.inside.ty }) c.in-Let.binder c.deref-in-Let.result.now c.deref-in-Let-2.result.now = sym c.e.view_is ∙ ap (λ (f : Form). view_form f (record { place = c.e.inside.place; ty = c.e.inside.ty })) c.in-Let.is ∙ (λ i. let_in (record { place = c.e.inside.place; ty = c.e.inside.ty }) c.in-Let.binder (sym c.deref-in-Let.ensures i) (sym c.deref-in-Let-2.ensures i)) in
    subst (λ (m : ExprTree). Answers held_of c.value_of_let.result (eval m (env_of c.args.frame.now))) (sym is) c.value_of_let.ensures

pub values::other-value_of_loop-requires : goal.values::other-value_of_loop-requires
values::other-value_of_loop-requires t c =
    let is : c.args.e.now ≡ loop (record { place = c.e.inside.place; ty = c.e.inside.ty }) (pack_legs c.in-For.legs) c.deref-in-For.result.now c.in-For.field-2.value c.in-For.field-3.value c.in-For.field-4.value c.in-For.field-5.value = sym c.e.view_is ∙ ap (λ (f : Form). view_form f (record { place = c.e.inside.place; ty = c.e.inside.ty })) c.in-For.is ∙ (λ i. loop (record { place = c.e.inside.place; ty = c.e.inside.ty }) (pack_legs c.in-For.legs) (sym c.deref-in-For.ensures i) c.in-For.field-2.value c.in-For.field-3.value c.in-For.field-4.value c.in-For.field-5.value) in
    (omega arith, (c.requires, loop_is_of _ _ _ _ _ _ _ c.args.e.now is))

pub values::other-value_of_iterate-requires : goal.values::other-value_of_iterate-requires
values::other-value_of_iterate-requires t c =
    let is : c.args.e.now ≡ iterate (record { place = c.e.inside.place; ty = c.e.inside.ty }) c.deref-in-Iterate.result.now c.in-Iterate.field-1 c.in-Iterate.field-2.value = sym c.e.view_is ∙ ap (λ (f : Form). view_form f (record { place = c.e.inside.place; ty = c.e.inside.ty })) c.in-Iterate.is ∙ (λ i. iterate (record { place = c.e.inside.place; ty = c.e.inside.ty }) (sym c.deref-in-Iterate.ensures i) c.in-Iterate.field-1 c.in-Iterate.field-2.value) in
    (omega arith, (c.requires, iterate_is_of _ _ _ _ c.args.e.now is))

pub values::part_value-value_of_loop-requires : goal.values::part_value-value_of_loop-requires
values::part_value-value_of_loop-requires t c =
    let is : c.args.e.now ≡ loop (record { place = c.e.inside.place; ty = c.e.inside.ty }) (pack_legs c.in-For.legs) c.deref.result.now c.in-For.field-2.value c.in-For.field-3.value c.in-For.field-4.value c.in-For.field-5.value = sym c.e.view_is ∙ ap (λ (f : Form). view_form f (record { place = c.e.inside.place; ty = c.e.inside.ty })) c.in-For.is ∙ (λ i. loop (record { place = c.e.inside.place; ty = c.e.inside.ty }) (pack_legs c.in-For.legs) (sym c.deref.ensures i) c.in-For.field-2.value c.in-For.field-3.value c.in-For.field-4.value c.in-For.field-5.value) in
    (omega arith, (c.requires, loop_is_of _ _ _ _ _ _ _ c.args.e.now is))

pub values::value_of_one-lent_field-requires : goal.values::value_of_one-lent_field-requires
values::value_of_one-lent_field-requires t c = c.requires.fit

pub values::value_of_one-part_value-requires : goal.values::value_of_one-part_value-requires
values::value_of_one-part_value-requires t c = (omega arith, part_runs anywhere (view_one c.args.form.now) c.args.part.now (env_of c.args.frame.now) (one anywhere (view_one c.args.form.now) c.args.part.now) refl c.requires)

pub values::value_of_one-one-requires : goal.values::value_of_one-one-requires
values::value_of_one-one-requires t c = part_run_takes anywhere (view_one c.args.form.now) c.args.part.now (env_of c.args.frame.now) (one anywhere (view_one c.args.form.now) c.args.part.now) (held_of c.in-Ok.x) refl c.requires c.in-Ok.ensures

pub values::value_of_two-value_of_either-requires : goal.values::value_of_two-value_of_either-requires
values::value_of_two-value_of_either-requires t c =
    let p : either_form (view_two c.args.form) ≡ true = cc in
    (omega arith, (c.requires, is_either_form (view_two c.args.form) p))

pub values::value_of_two-value_of_both-requires : goal.values::value_of_two-value_of_both-requires
values::value_of_two-value_of_both-requires t c =
    let p : either_form (view_two c.args.form) ≡ false = cc in
    (omega arith, (c.requires, is_strict_form (view_two c.args.form) p))

pub values::value_of_either-either-requires : goal.values::value_of_either-either-requires
values::value_of_either-either-requires t c = (omega arith, (either_runs anywhere (view_two c.args.form) c.args.first.now c.args.second.now (env_of c.args.frame.now) c.requires.form c.requires.runs, c.requires.form))

pub values::value_of_both-value-requires : goal.values::value_of_both-value-requires
values::value_of_both-value-requires t c = (omega arith, first_runs anywhere (view_two c.args.form) c.args.first.now c.args.second.now (env_of c.args.frame.now) c.requires.runs)

pub values::value_of_both-value-requires-2 : goal.values::value_of_both-value-requires-2
values::value_of_both-value-requires-2 t c = (omega arith, second_runs anywhere (view_two c.args.form) c.args.first.now c.args.second.now (env_of c.args.frame.now) c.requires.runs)

pub values::value_of_both-two-requires-clause-takes : goal.values::value_of_both-two-requires-clause-takes
values::value_of_both-two-requires-clause-takes t c = both_take anywhere (view_two c.args.form) c.args.first.now c.args.second.now (env_of c.args.frame.now) (held_of c.in-Ok.x) (held_of c.in-Ok-value.y) c.requires.runs c.in-Ok.ensures c.in-Ok-value.ensures

pub values::value_of_both-returns-in-Err-value : goal.values::value_of_both-returns-in-Err-value
values::value_of_both-returns-in-Err-value t c =
    stops held_of held_of c.in-Err-value.stop (eval c.args.second.now (env_of c.args.frame.now)) (eval (two anywhere (view_two c.args.form) c.args.first.now c.args.second.now) (env_of c.args.frame.now)) (λ q. second_faults anywhere (view_two c.args.form) c.args.first.now c.args.second.now (env_of c.args.frame.now) (two anywhere (view_two c.args.form) c.args.first.now c.args.second.now) (held_of c.in-Ok.x) refl c.requires.form c.requires.runs.fit c.in-Ok.ensures q) c.in-Err-value.ensures

pub values::value_of_three-value_of_if-requires : goal.values::value_of_three-value_of_if-requires
values::value_of_three-value_of_if-requires t c = (omega arith, subst (λ (o : ThreeForm). Runs c.args.in_place (three anywhere (view_three o) c.args.first.now c.args.second.now c.args.third.now) (env_of c.args.frame.now)) c.in-If.is c.requires)

pub values::value_of_three-returns-in-If : goal.values::value_of_three-returns-in-If
values::value_of_three-returns-in-If t c =
    subst (λ (o : ThreeForm). Answers held_of c.value_of_if.result (eval (three anywhere (view_three o) c.args.first.now c.args.second.now c.args.third.now) (env_of c.args.frame.now))) (sym c.in-If.is) c.value_of_if.ensures

pub values::value_of_three-value_of_all-requires : goal.values::value_of_three-value_of_all-requires
values::value_of_three-value_of_all-requires t c = (omega arith, (c.requires, subst (λ (o : ThreeForm). AreAllEvaluated (view_three o)) (sym c.in-Select.is) tt))

pub values::value_of_three-value_of_all-requires-in-Slice : goal.values::value_of_three-value_of_all-requires-in-Slice
values::value_of_three-value_of_all-requires-in-Slice t c = (omega arith, (c.requires, subst (λ (o : ThreeForm). AreAllEvaluated (view_three o)) (sym c.in-Slice.is) tt))

pub values::value_of_if-number-requires : goal.values::value_of_if-number-requires
values::value_of_if-number-requires t c = (omega arith, value_condition_runs anywhere c.args.condition.now c.args.then.now c.args.otherwise.now (env_of c.args.frame.now) c.requires)

pub values::value_of_if-truth_of-chosen-requires : goal.values::value_of_if-truth_of-chosen-requires
values::value_of_if-truth_of-chosen-requires t c = value_is_truth anywhere c.args.condition.now c.args.then.now c.args.otherwise.now (env_of c.args.frame.now) (view_short c.in-Ok.x) c.requires c.in-Ok.ensures

pub values::value_of_all-three-requires-clause-takes : goal.values::value_of_all-three-requires-clause-takes
values::value_of_all-three-requires-clause-takes t c = all_take anywhere (view_three c.args.form) c.args.first.now c.args.second.now c.args.third.now (env_of c.args.frame.now) (held_of c.in-Ok.x) (held_of c.in-Ok-value.y) (held_of c.in-Ok-value-2.z) c.requires.runs c.in-Ok.ensures c.in-Ok-value.ensures c.in-Ok-value-2.ensures

pub values::value_of_all-returns-in-Err-value : goal.values::value_of_all-returns-in-Err-value
values::value_of_all-returns-in-Err-value t c =
    stops held_of held_of c.in-Err-value.stop (eval c.args.second.now (env_of c.args.frame.now)) (eval (three anywhere (view_three c.args.form) c.args.first.now c.args.second.now c.args.third.now) (env_of c.args.frame.now)) (λ q. middle_faults anywhere (view_three c.args.form) c.args.first.now c.args.second.now c.args.third.now (env_of c.args.frame.now) (three anywhere (view_three c.args.form) c.args.first.now c.args.second.now c.args.third.now) (held_of c.in-Ok.x) refl c.requires.form c.requires.runs.fit c.in-Ok.ensures q) c.in-Err-value.ensures

pub values::value_of_all-returns-in-Err-value-2 : goal.values::value_of_all-returns-in-Err-value-2
values::value_of_all-returns-in-Err-value-2 t c =
    stops held_of held_of c.in-Err-value-2.stop (eval c.args.third.now (env_of c.args.frame.now)) (eval (three anywhere (view_three c.args.form) c.args.first.now c.args.second.now c.args.third.now) (env_of c.args.frame.now)) (λ q. third_faults anywhere (view_three c.args.form) c.args.first.now c.args.second.now c.args.third.now (env_of c.args.frame.now) (three anywhere (view_three c.args.form) c.args.first.now c.args.second.now c.args.third.now) (held_of c.in-Ok.x) (held_of c.in-Ok-value.y) refl c.requires.form c.requires.runs.fit c.in-Ok.ensures c.in-Ok-value.ensures q) c.in-Err-value-2.ensures

pub values::value_of_many-many-requires : goal.values::value_of_many-many-requires
values::value_of_many-many-requires t c = parts_take anywhere (view_many c.args.form) (pack_exprs c.args.parts.now) (env_of c.args.frame.now) _ c.requires c.in-Ok.ensures

pub values::value_of_let-value-requires : goal.values::value_of_let-value-requires
values::value_of_let-value-requires t c = (omega arith, let_value_runs anywhere c.args.binder.now c.args.first.now c.args.body.now (env_of c.args.frame.now) c.requires)

pub values::value_of_let-value-requires-2 : goal.values::value_of_let-value-requires-2
values::value_of_let-value-requires-2 t c = (omega arith, subst (λ (g : Env). Runs c.args.in_place c.args.body.now g) (sym c.bind-inner.ensures) (let_body_runs anywhere c.args.binder.now c.args.first.now c.args.body.now (env_of c.args.frame.now) (held_of c.in-Ok.x) c.requires c.in-Ok.ensures))

pub values::value_of_loop-lent_leg-requires : goal.values::value_of_loop-lent_leg-requires
values::value_of_loop-lent_leg-requires t c = legs_fit c.args.e.now (pack_legs c.args.legs.now) c.args.start.now (env_of c.args.frame.now) c.requires.form c.requires.runs

pub values::value_of_loop-value_on-requires : goal.values::value_of_loop-value_on-requires
values::value_of_loop-value_on-requires t c = (omega arith, (c.requires.runs, (of_is_from c.args.e.now (pack_legs c.args.legs.now) c.args.start.now c.requires.form, legs_are c.args.e.now (pack_legs c.args.legs.now) c.args.start.now (env_of c.args.frame.now) _ c.requires.form c.in-Some.ensures)))

pub values::value_of_legs-eval_legs-requires : goal.values::value_of_legs-eval_legs-requires
values::value_of_legs-eval_legs-requires t c =
    let less = legs_less c.args.e.now (pack_legs c.args.legs.now) c.args.start.now c.requires.form in
    (omega arith, legs_run c.args.e.now (pack_legs c.args.legs.now) c.args.start.now (env_of c.args.frame.now) c.requires.form c.requires.runs)

pub values::value_of_legs-value_over-requires : goal.values::value_of_legs-value_over-requires
values::value_of_legs-value_over-requires t c =
    let lists : eval_legs (pack_legs c.args.legs.now) (env_of c.args.frame.now) ≡ done (leg_lists c.deref.result.now) = c.in-Ok.ensures.lists ∙ sym (ap (λ (hs : List Held). done (leg_lists hs)) c.deref.ensures.value) in
    let vectors : AreVectors c.deref.result.now = subst (λ (hs : List Held). AreVectors hs) (sym c.deref.ensures.value) c.in-Ok.ensures.vectors in
    (omega arith, (c.requires.runs, (of_is_from c.args.e.now (pack_legs c.args.legs.now) c.args.start.now c.requires.form, (legs_are c.args.e.now (pack_legs c.args.legs.now) c.args.start.now (env_of c.args.frame.now) _ c.requires.form lists, vectors))))

pub values::value_over-count_rows-requires-clause-some : goal.values::value_over-count_rows-requires-clause-some
values::value_over-count_rows-requires-clause-some t c = over_count c.args.e.now c.args.start.now (env_of c.args.frame.now) c.args.vectors.now c.requires.form c.requires.runs c.requires.legs

pub values::value_over-value-requires : goal.values::value_over-value-requires
values::value_over-value-requires t c =
    let less = start_less c.args.e.now c.args.start.now c.requires.form in
    (omega arith, start_runs c.args.e.now c.args.start.now (env_of c.args.frame.now) c.requires.form c.requires.runs)

pub values::value_over-fill-requires : goal.values::value_over-fill-requires
values::value_over-fill-requires t c =
    let less = reach_less c.args.e.now c.args.start.now (env_of c.args.frame.now) c.args.vectors.now c.requires.form c.requires.legs in
    (omega arith, (over_ready c.args.e.now c.args.start.now (env_of c.args.frame.now) (leg_lists c.args.vectors.now) c.in-Ok.count (held_of c.in-Ok-value.builder) c.requires.form c.requires.runs c.requires.legs c.in-Ok.ensures c.in-Ok-value.ensures, (c.requires.runs.direct, (from_is_loop c.args.e.now c.args.start.now c.requires.form, (as_many c.args.e.now c.args.start.now (env_of c.args.frame.now) c.args.vectors.now c.requires.form c.requires.legs, c.requires.vectors)))))

pub values::value_over-returns-in-Ok-value : goal.values::value_over-returns-in-Ok-value
values::value_over-returns-in-Ok-value t c =
    over_gives held_of c.fill.result c.args.e.now c.args.start.now (env_of c.args.frame.now) (leg_lists c.args.vectors.now) c.in-Ok.count (held_of c.in-Ok-value.builder) c.requires.form c.requires.legs c.in-Ok.ensures c.in-Ok-value.ensures c.fill.ensures

pub lent::value_on-started-requires : goal.lent::value_on-started-requires
lent::value_on-started-requires t c =
    let less = start_less c.args.e.now c.args.start.now c.requires.form in
    (omega arith, start_runs c.args.e.now c.args.start.now (env_of c.args.frame.now) c.requires.form c.requires.runs)

pub lent::value_on-fill_on-requires : goal.lent::value_on-fill_on-requires
lent::value_on-fill_on-requires t c =
    let less = lone_less c.args.e.now c.args.start.now c.requires.form in
    (omega arith, (lone_ready c.args.e.now c.args.start.now (env_of c.args.frame.now) (view_column c.args.column.now) (held_of c.in-Ok.builder) c.requires.form c.requires.runs c.requires.legs c.in-Ok.ensures, (c.requires.runs.direct, from_is_loop c.args.e.now c.args.start.now c.requires.form)))

pub lent::act_on-act-requires : goal.lent::act_on-act-requires
lent::act_on-act-requires t c =
    let less = start_less c.args.e.now c.args.start.now c.requires.form in
    (omega arith, start_acts c.args.e.now c.args.start.now (env_of c.args.frame.now) (thing_of c.args.builder.now) c.requires.form c.requires.acts)

pub lent::act_on-hand_on-requires : goal.lent::act_on-hand_on-requires
lent::act_on-hand_on-requires t c =
    let less = lone_less c.args.e.now c.args.start.now c.requires.form in
    (omega arith, (lone_act_ready c.args.e.now c.args.start.now (env_of c.args.frame.now) (thing_of c.args.builder.now) (thing_of c.act.new.builder) (view_column c.args.column.now) c.requires.form c.requires.acts c.requires.legs c.in-Ok.ensures, ((λ u. c.requires.acts.direct), from_is_loop c.args.e.now c.args.start.now c.requires.form)))

pub acts::act-act_merge-requires : goal.acts::act-act_merge-requires
acts::act-act_merge-requires t c =
    let is : c.args.e.now ≡ two (record { place = c.e.inside.place; ty = c.e.inside.ty }) (view_two c.in-Two.field-0) c.deref.result.now c.deref-in-Two.result.now = sym c.e.view_is ∙ ap (λ (f : Form). view_form f (record { place = c.e.inside.place; ty = c.e.inside.ty })) c.in-Two.is ∙ (λ i. two (record { place = c.e.inside.place; ty = c.e.inside.ty }) (view_two c.in-Two.field-0) (sym c.deref.ensures i) (sym c.deref-in-Two.ensures i)) in
    (omega (arith, ap expr_nodes is), merge_acts _ _ _ _ (env_of c.args.frame.now) c.args.e.now (thing_of c.args.builder.now) is c.requires)

pub acts::act-returns-in-Two : goal.acts::act-returns-in-Two
acts::act-returns-in-Two t c =
    let is : c.args.e.now ≡ two (record { place = c.e.inside.place; ty = c.e.inside.ty }) (view_two c.in-Two.field-0) c.deref.result.now c.deref-in-Two.result.now = sym c.e.view_is ∙ ap (λ (f : Form). view_form f (record { place = c.e.inside.place; ty = c.e.inside.ty })) c.in-Two.is ∙ (λ i. two (record { place = c.e.inside.place; ty = c.e.inside.ty }) (view_two c.in-Two.field-0) (sym c.deref.ensures i) (sym c.deref-in-Two.ensures i)) in
    subst (λ (m : ExprTree). Acts c.act_merge.result (act m (env_of c.args.frame.now) (thing_of c.args.builder.now)) (thing_of c.act_merge.new.builder)) (sym is) c.act_merge.ensures

pub acts::act-act_if-requires : goal.acts::act-act_if-requires
acts::act-act_if-requires t c =
    let is : c.args.e.now ≡ three (record { place = c.e.inside.place; ty = c.e.inside.ty }) (view_three c.in-Three.field-0) c.deref-in-Three.result.now c.deref-in-Three-2.result.now c.deref-in-Three-3.result.now = sym c.e.view_is ∙ ap (λ (f : Form). view_form f (record { place = c.e.inside.place; ty = c.e.inside.ty })) c.in-Three.is ∙ (λ i. three (record { place = c.e.inside.place; ty = c.e.inside.ty }) (view_three c.in-Three.field-0) (sym c.deref-in-Three.ensures i) (sym c.deref-in-Three-2.ensures i) (sym c.deref-in-Three-3.ensures i)) in
    (omega (arith, ap expr_nodes is), choice_acts _ _ _ _ _ (env_of c.args.frame.now) c.args.e.now (thing_of c.args.builder.now) is c.requires)

pub acts::act-returns-in-Three : goal.acts::act-returns-in-Three
acts::act-returns-in-Three t c =
    let is : c.args.e.now ≡ three (record { place = c.e.inside.place; ty = c.e.inside.ty }) (view_three c.in-Three.field-0) c.deref-in-Three.result.now c.deref-in-Three-2.result.now c.deref-in-Three-3.result.now = sym c.e.view_is ∙ ap (λ (f : Form). view_form f (record { place = c.e.inside.place; ty = c.e.inside.ty })) c.in-Three.is ∙ (λ i. three (record { place = c.e.inside.place; ty = c.e.inside.ty }) (view_three c.in-Three.field-0) (sym c.deref-in-Three.ensures i) (sym c.deref-in-Three-2.ensures i) (sym c.deref-in-Three-3.ensures i)) in
    subst (λ (m : ExprTree). Acts c.act_if.result (act m (env_of c.args.frame.now) (thing_of c.args.builder.now)) (thing_of c.act_if.new.builder)) (sym is) c.act_if.ensures

pub acts::act-act_struct-requires : goal.acts::act-act_struct-requires
acts::act-act_struct-requires t c =
    let is : c.args.e.now ≡ many (record { place = c.e.inside.place; ty = c.e.inside.ty }) (view_many c.in-Many.field-0) (pack_exprs c.in-Many.parts) = sym c.e.view_is ∙ ap (λ (f : Form). view_form f (record { place = c.e.inside.place; ty = c.e.inside.ty })) c.in-Many.is in
    (omega (arith, ap expr_nodes is), many_acts _ _ _ (env_of c.args.frame.now) c.args.e.now (thing_of c.args.builder.now) is c.requires)

pub acts::act-returns-in-Many : goal.acts::act-returns-in-Many
acts::act-returns-in-Many t c =
    let is : c.args.e.now ≡ many (record { place = c.e.inside.place; ty = c.e.inside.ty }) (view_many c.in-Many.field-0) (pack_exprs c.in-Many.parts) = sym c.e.view_is ∙ ap (λ (f : Form). view_form f (record { place = c.e.inside.place; ty = c.e.inside.ty })) c.in-Many.is in
    subst (λ (m : ExprTree). Acts c.act_struct.result (act m (env_of c.args.frame.now) (thing_of c.args.builder.now)) (thing_of c.act_struct.new.builder)) (sym is) c.act_struct.ensures

pub acts::act-act_let-requires : goal.acts::act-act_let-requires
acts::act-act_let-requires t c =
    let is : c.args.e.now ≡ let_in (record { place = c.e.inside.place; ty = c.e.inside.ty }) c.in-Let.binder c.deref-in-Let.result.now c.deref-in-Let-2.result.now = sym c.e.view_is ∙ ap (λ (f : Form). view_form f (record { place = c.e.inside.place; ty = c.e.inside.ty })) c.in-Let.is ∙ (λ i. let_in (record { place = c.e.inside.place; ty = c.e.inside.ty }) c.in-Let.binder (sym c.deref-in-Let.ensures i) (sym c.deref-in-Let-2.ensures i)) in
    (omega (arith, ap expr_nodes is), binding_acts _ _ _ _ (env_of c.args.frame.now) c.args.e.now (thing_of c.args.builder.now) is c.requires)

pub acts::act-returns-in-Let : goal.acts::act-returns-in-Let
acts::act-returns-in-Let t c =
    let is : c.args.e.now ≡ let_in (record { place = c.e.inside.place; ty = c.e.inside.ty }) c.in-Let.binder c.deref-in-Let.result.now c.deref-in-Let-2.result.now = sym c.e.view_is ∙ ap (λ (f : Form). view_form f (record { place = c.e.inside.place; ty = c.e.inside.ty })) c.in-Let.is ∙ (λ i. let_in (record { place = c.e.inside.place; ty = c.e.inside.ty }) c.in-Let.binder (sym c.deref-in-Let.ensures i) (sym c.deref-in-Let-2.ensures i)) in
    subst (λ (m : ExprTree). Acts c.act_let.result (act m (env_of c.args.frame.now) (thing_of c.args.builder.now)) (thing_of c.act_let.new.builder)) (sym is) c.act_let.ensures

pub acts::act-act_loop-requires : goal.acts::act-act_loop-requires
acts::act-act_loop-requires t c =
    let is : c.args.e.now ≡ loop (record { place = c.e.inside.place; ty = c.e.inside.ty }) (pack_legs c.in-For.legs) c.deref-in-For.result.now c.in-For.field-2.value c.in-For.field-3.value c.in-For.field-4.value c.in-For.field-5.value = sym c.e.view_is ∙ ap (λ (f : Form). view_form f (record { place = c.e.inside.place; ty = c.e.inside.ty })) c.in-For.is ∙ (λ i. loop (record { place = c.e.inside.place; ty = c.e.inside.ty }) (pack_legs c.in-For.legs) (sym c.deref-in-For.ensures i) c.in-For.field-2.value c.in-For.field-3.value c.in-For.field-4.value c.in-For.field-5.value) in
    (omega arith, (c.requires, loop_is_of _ _ _ _ _ _ _ c.args.e.now is))

pub acts::act_merge-act_first-requires : goal.acts::act_merge-act_first-requires
acts::act_merge-act_first-requires t c = (omega arith, merge_part_acts anywhere c.args.first.now c.args.item.now (env_of c.args.frame.now) (thing_of c.args.builder.now) c.requires)

pub acts::act_merge-put-requires : goal.acts::act_merge-put-requires
acts::act_merge-put-requires t c = (omega arith, (item_runs anywhere c.args.first.now c.args.item.now (env_of c.args.frame.now) (thing_of c.args.builder.now) c.requires, item_puts anywhere c.args.first.now c.args.item.now (env_of c.args.frame.now) (thing_of c.args.builder.now) (thing_of c.act_first.new.builder) c.requires c.in-Ok.ensures))

pub acts::put_compound-put_written-requires : goal.acts::put_compound-put_written-requires
acts::put_compound-put_written-requires t c = (omega arith, (c.requires.runs, (c.requires.fits, c.in-Some.ensures)))

pub acts::put_written-tried-requires : goal.acts::put_written-tried-requires
acts::put_written-tried-requires t c =
    let key : c.index-parts-0.result ≡ get_or c.args.parts.now 0 c.index-parts-0.result = c.index-parts-0.is ∙ ap (λ (l : List ExprTree). get_or l 0 c.index-parts-0.result) c.as_slice-parts.ensures.value in
    let less = pair_less c.args.parts.now c.args.item.now c.index-parts-0.result 0 c.requires.form (omega arith) key in
    (omega arith, pair_key_runs c.args.parts.now (env_of c.args.frame.now) c.args.item.now c.index-parts-0.result c.requires.form c.requires.runs key)

pub acts::put_written-tried-requires-2 : goal.acts::put_written-tried-requires-2
acts::put_written-tried-requires-2 t c =
    let item : c.index-parts-1.result ≡ get_or c.args.parts.now 1 c.index-parts-1.result = c.index-parts-1.is ∙ ap (λ (l : List ExprTree). get_or l 1 c.index-parts-1.result) c.as_slice-parts.ensures.value in
    let less = pair_less c.args.parts.now c.args.item.now c.index-parts-1.result 1 c.requires.form (omega arith) item in
    (omega arith, pair_item_runs c.args.parts.now (env_of c.args.frame.now) c.args.item.now c.index-parts-1.result c.requires.form c.requires.runs item)

pub acts::put_written-returns-in-Err-tried : goal.acts::put_written-returns-in-Err-tried
acts::put_written-returns-in-Err-tried t c =
    let item : c.index-parts-1.result ≡ get_or c.args.parts.now 1 c.index-parts-1.result = c.index-parts-1.is ∙ ap (λ (l : List ExprTree). get_or l 1 c.index-parts-1.result) c.as_slice-parts.ensures.value in
    pair_item_stops (Unit {0}) c.in-Err-tried.stop c.args.parts.now (env_of c.args.frame.now) c.args.item.now c.index-parts-1.result (thing_of c.args.builder.now) (thing_of c.args.builder.now) c.requires.form c.requires.runs item c.requires.fits c.in-Err-tried.ensures

pub acts::put_written-put_two-requires : goal.acts::put_written-put_two-requires
acts::put_written-put_two-requires t c =
    let key : c.index-parts-0.result ≡ get_or c.args.parts.now 0 c.index-parts-0.result = c.index-parts-0.is ∙ ap (λ (l : List ExprTree). get_or l 0 c.index-parts-0.result) c.as_slice-parts.ensures.value in
    let item : c.index-parts-1.result ≡ get_or c.args.parts.now 1 c.index-parts-1.result = c.index-parts-1.is ∙ ap (λ (l : List ExprTree). get_or l 1 c.index-parts-1.result) c.as_slice-parts.ensures.value in
    put_number_item c.args.item.now (env_of c.args.frame.now) (thing_of c.args.builder.now) (pair (view_short c.in-Some-Some.key) (view_short c.in-Some-Some.x)) c.requires.fits (pair_is c.args.parts.now (env_of c.args.frame.now) c.args.item.now c.index-parts-0.result c.index-parts-1.result (view_short c.in-Some-Some.key) (view_short c.in-Some-Some.x) c.requires.form key item (reads_some c.in-Ok.key c.in-Some-Some.key _ c.in-Some-Some.is-0 c.in-Ok.ensures) (reads_some c.in-Ok-tried.x c.in-Some-Some.x _ c.in-Some-Some.is-1 c.in-Ok-tried.ensures))

pub acts::put_written-put_made-requires : goal.acts::put_written-put_made-requires
acts::put_written-put_made-requires t c = (omega arith, (c.requires.runs, c.requires.fits))

pub acts::put_written-returns-in-Some-Some : goal.acts::put_written-returns-in-Some-Some
acts::put_written-returns-in-Some-Some t c =
    let key : c.index-parts-0.result ≡ get_or c.args.parts.now 0 c.index-parts-0.result = c.index-parts-0.is ∙ ap (λ (l : List ExprTree). get_or l 0 c.index-parts-0.result) c.as_slice-parts.ensures.value in
    let item : c.index-parts-1.result ≡ get_or c.args.parts.now 1 c.index-parts-1.result = c.index-parts-1.is ∙ ap (λ (l : List ExprTree). get_or l 1 c.index-parts-1.result) c.as_slice-parts.ensures.value in
    put_is c.put_two.result c.args.item.now (env_of c.args.frame.now) (thing_of c.args.builder.now) (thing_of c.put_two.new.builder) (plain (pair (view_short c.in-Some-Some.key) (view_short c.in-Some-Some.x))) (pair_is c.args.parts.now (env_of c.args.frame.now) c.args.item.now c.index-parts-0.result c.index-parts-1.result (view_short c.in-Some-Some.key) (view_short c.in-Some-Some.x) c.requires.form key item (reads_some c.in-Ok.key c.in-Some-Some.key _ c.in-Some-Some.is-0 c.in-Ok.ensures) (reads_some c.in-Ok-tried.x c.in-Some-Some.x _ c.in-Some-Some.is-1 c.in-Ok-tried.ensures)) c.put_two.ensures

pub acts::act_if-number-requires : goal.acts::act_if-number-requires
acts::act_if-number-requires t c = (omega arith, choice_runs anywhere c.args.condition.now c.args.then.now c.args.otherwise.now (env_of c.args.frame.now) (thing_of c.args.builder.now) c.requires)

pub acts::act_if-truth_of-chosen-requires : goal.acts::act_if-truth_of-chosen-requires
acts::act_if-truth_of-chosen-requires t c = choice_truth anywhere c.args.condition.now c.args.then.now c.args.otherwise.now (env_of c.args.frame.now) (thing_of c.args.builder.now) (view_short c.in-Ok.x) c.requires c.in-Ok.ensures

pub acts::act_let-tried-requires : goal.acts::act_let-tried-requires
acts::act_let-tried-requires t c = (omega arith, let_first_runs anywhere c.args.binder.now c.args.first.now c.args.body.now (env_of c.args.frame.now) (thing_of c.args.builder.now) c.requires)

pub acts::act_let-act-requires : goal.acts::act_let-act-requires
acts::act_let-act-requires t c = (omega arith, subst (λ (g : Env). ActFits c.args.body.now g (thing_of c.args.builder.now)) (sym c.with_number-inner.ensures) (let_acts anywhere c.args.binder.now c.args.first.now c.args.body.now (env_of c.args.frame.now) (thing_of c.args.builder.now) (plain (view_short c.in-Ok-Some.n)) c.requires (reads_some c.in-Ok-Some.field-0 c.in-Ok-Some.n _ c.in-Ok-Some.field-0-is c.in-Ok-Some.ensures)))

pub acts::act_let_value-value-requires : goal.acts::act_let_value-value-requires
acts::act_let_value-value-requires t c = (omega arith, let_first_runs anywhere c.args.binder.now c.args.first.now c.args.body.now (env_of c.args.frame.now) (thing_of c.args.builder.now) c.requires)

pub acts::act_let_value-act-answer-requires : goal.acts::act_let_value-act-answer-requires
acts::act_let_value-act-answer-requires t c = (omega arith, subst (λ (g : Env). ActFits c.args.body.now g (thing_of c.args.builder.now)) (sym c.bind-inner.ensures) (let_acts anywhere c.args.binder.now c.args.first.now c.args.body.now (env_of c.args.frame.now) (thing_of c.args.builder.now) (held_of c.in-Ok.x) c.requires c.in-Ok.ensures))

pub acts::act_loop-lent_leg-requires : goal.acts::act_loop-lent_leg-requires
acts::act_loop-lent_leg-requires t c = legs_act_fit c.args.e.now (pack_legs c.args.legs.now) c.args.start.now (env_of c.args.frame.now) (thing_of c.args.builder.now) c.requires.form c.requires.acts

pub acts::act_loop-act_on-requires : goal.acts::act_loop-act_on-requires
acts::act_loop-act_on-requires t c = (omega arith, (c.requires.acts, (of_is_from c.args.e.now (pack_legs c.args.legs.now) c.args.start.now c.requires.form, legs_are c.args.e.now (pack_legs c.args.legs.now) c.args.start.now (env_of c.args.frame.now) _ c.requires.form c.in-Some.ensures)))

pub acts::act_legs-eval_legs-requires : goal.acts::act_legs-eval_legs-requires
acts::act_legs-eval_legs-requires t c =
    let less = legs_less c.args.e.now (pack_legs c.args.legs.now) c.args.start.now c.requires.form in
    (omega arith, legs_run_acts c.args.e.now (pack_legs c.args.legs.now) c.args.start.now (env_of c.args.frame.now) (thing_of c.args.builder.now) c.requires.form c.requires.acts)

pub acts::act_legs-act_over-requires : goal.acts::act_legs-act_over-requires
acts::act_legs-act_over-requires t c =
    let lists : eval_legs (pack_legs c.args.legs.now) (env_of c.args.frame.now) ≡ done (leg_lists c.deref.result.now) = c.in-Ok.ensures.lists ∙ sym (ap (λ (hs : List Held). done (leg_lists hs)) c.deref.ensures.value) in
    let vectors : AreVectors c.deref.result.now = subst (λ (hs : List Held). AreVectors hs) (sym c.deref.ensures.value) c.in-Ok.ensures.vectors in
    (omega arith, (c.requires.acts, (of_is_from c.args.e.now (pack_legs c.args.legs.now) c.args.start.now c.requires.form, (legs_are c.args.e.now (pack_legs c.args.legs.now) c.args.start.now (env_of c.args.frame.now) _ c.requires.form lists, vectors))))

pub acts::act_over-count_rows-requires-clause-some : goal.acts::act_over-count_rows-requires-clause-some
acts::act_over-count_rows-requires-clause-some t c = act_over_count c.args.e.now c.args.start.now (env_of c.args.frame.now) (thing_of c.args.builder.now) c.args.vectors.now c.requires.form c.requires.acts c.requires.legs

pub acts::act_over-act-requires : goal.acts::act_over-act-requires
acts::act_over-act-requires t c =
    let less = start_less c.args.e.now c.args.start.now c.requires.form in
    (omega arith, start_acts c.args.e.now c.args.start.now (env_of c.args.frame.now) (thing_of c.args.builder.now) c.requires.form c.requires.acts)

pub acts::act_over-reach-requires : goal.acts::act_over-reach-requires
acts::act_over-reach-requires t c =
    let less = reach_less c.args.e.now c.args.start.now (env_of c.args.frame.now) c.args.vectors.now c.requires.form c.requires.legs in
    (omega arith, (act_ready c.args.e.now c.args.start.now (env_of c.args.frame.now) (thing_of c.args.builder.now) (thing_of c.act.new.builder) (leg_lists c.args.vectors.now) c.in-Ok.count c.requires.form c.requires.acts c.requires.legs c.in-Ok.ensures c.in-Ok-act.ensures, ((λ u. c.requires.acts.direct), (from_is_loop c.args.e.now c.args.start.now c.requires.form, (omega arith, (c.no_legs-end.ensures ∙ all_linked c.args.vectors.now, c.requires.vectors))))))

pub acts::act_over-returns-in-Ok-act : goal.acts::act_over-returns-in-Ok-act
acts::act_over-returns-in-Ok-act t c =
    act_gives c.reach.result c.args.e.now c.args.start.now (env_of c.args.frame.now) (thing_of c.args.builder.now) (thing_of c.act.new.builder) (thing_of c.reach.new.builder) (leg_lists c.args.vectors.now) c.in-Ok.count c.requires.form c.requires.acts c.requires.legs c.in-Ok.ensures c.in-Ok-act.ensures c.reach.ensures

pub acts::act_struct-act_fields-requires : goal.acts::act_struct-act_fields-requires
acts::act_struct-act_fields-requires t c = (omega arith, subst (λ (b : Owned). ActsFit (pack_exprs c.args.parts.now) (env_of c.args.frame.now) (fields_of (thing_of b))) c.in-Several.is (struct_acts anywhere (pack_exprs c.args.parts.now) (env_of c.args.frame.now) (thing_of c.args.builder.now) c.requires))

pub acts::act_struct-unreachable-requires : goal.acts::act_struct-unreachable-requires
acts::act_struct-unreachable-requires t c = several_there c.args.builder.now _ (struct_several anywhere (pack_exprs c.args.parts.now) (env_of c.args.frame.now) (thing_of c.args.builder.now) c.requires) c.in_default.not-Several

pub numbers::binary-number-requires : goal.numbers::binary-number-requires
numbers::binary-number-requires t c = (omega arith, left_runs anywhere c.args.op c.args.first.now c.args.second.now (env_of c.args.frame.now) c.requires)

pub numbers::binary-number-requires-2 : goal.numbers::binary-number-requires-2
numbers::binary-number-requires-2 t c = (omega arith, right_runs anywhere c.args.op c.args.first.now c.args.second.now (env_of c.args.frame.now) c.requires)

pub numbers::binary-operated-requires : goal.numbers::binary-operated-requires
numbers::binary-operated-requires t c = are_operands anywhere c.args.op c.args.first.now c.args.second.now (env_of c.args.frame.now) (view_short c.in-Ok.x) (view_short c.in-Ok-number.y) c.requires c.in-Ok.ensures c.in-Ok-number.ensures

pub numbers::binary-returns-in-Ok-number : goal.numbers::binary-returns-in-Ok-number
numbers::binary-returns-in-Ok-number t c = binary_answers c.operated.result anywhere c.args.op c.args.first.now c.args.second.now (env_of c.args.frame.now) (view_short c.in-Ok.x) (view_short c.in-Ok-number.y) c.in-Ok.ensures c.in-Ok-number.ensures c.operated.ensures.value

pub numbers::either-number-requires : goal.numbers::either-number-requires
numbers::either-number-requires t c = (omega arith, either_first anywhere (view_two c.args.form) c.args.first.now c.args.second.now (env_of c.args.frame.now) c.requires.form c.requires.runs)

pub numbers::either-truth_of-truth-requires : goal.numbers::either-truth_of-truth-requires
numbers::either-truth_of-truth-requires t c = either_truth anywhere (view_two c.args.form) c.args.first.now c.args.second.now (env_of c.args.frame.now) (view_short c.in-Ok.x) c.requires.form c.requires.runs c.in-Ok.ensures

pub numbers::either-number-requires-else-decides : goal.numbers::either-number-requires-else-decides
numbers::either-number-requires-else-decides t c = (omega arith, either_second anywhere (view_two c.args.form) c.args.first.now c.args.second.now (env_of c.args.frame.now) c.requires.form c.requires.runs)

pub numbers::choice-number-requires : goal.numbers::choice-number-requires
numbers::choice-number-requires t c = (omega arith, choice_condition_runs anywhere c.args.condition.now c.args.then.now c.args.otherwise.now (env_of c.args.frame.now) c.requires)

pub numbers::choice-truth_of-chosen-requires : goal.numbers::choice-truth_of-chosen-requires
numbers::choice-truth_of-chosen-requires t c = choice_is_truth anywhere c.args.condition.now c.args.then.now c.args.otherwise.now (env_of c.args.frame.now) (view_short c.in-Ok.x) c.requires c.in-Ok.ensures

pub numbers::choice-number-requires-then-chosen : goal.numbers::choice-number-requires-then-chosen
numbers::choice-number-requires-then-chosen t c = (omega arith, then_runs anywhere c.args.condition.now c.args.then.now c.args.otherwise.now (env_of c.args.frame.now) c.requires)

pub numbers::choice-number-requires-else-chosen : goal.numbers::choice-number-requires-else-chosen
numbers::choice-number-requires-else-chosen t c = (omega arith, otherwise_runs anywhere c.args.condition.now c.args.then.now c.args.otherwise.now (env_of c.args.frame.now) c.requires)

pub numbers::selection-number-requires : goal.numbers::selection-number-requires
numbers::selection-number-requires t c = (omega arith, selection_condition_runs anywhere c.args.condition.now c.args.then.now c.args.otherwise.now (env_of c.args.frame.now) c.requires)

pub numbers::selection-truth_of-chosen-requires : goal.numbers::selection-truth_of-chosen-requires
numbers::selection-truth_of-chosen-requires t c = selection_is_truth anywhere c.args.condition.now c.args.then.now c.args.otherwise.now (env_of c.args.frame.now) (view_short c.in-Ok.x) c.requires c.in-Ok.ensures

pub numbers::selection-number-requires-2 : goal.numbers::selection-number-requires-2
numbers::selection-number-requires-2 t c = (omega arith, selection_then_runs anywhere c.args.condition.now c.args.then.now c.args.otherwise.now (env_of c.args.frame.now) c.requires)

pub numbers::selection-number-requires-3 : goal.numbers::selection-number-requires-3
numbers::selection-number-requires-3 t c = (omega arith, selection_otherwise_runs anywhere c.args.condition.now c.args.then.now c.args.otherwise.now (env_of c.args.frame.now) c.requires)

pub numbers::opposite-number-requires : goal.numbers::opposite-number-requires
numbers::opposite-number-requires t c = (omega arith, neg_part_runs anywhere c.args.part.now (env_of c.args.frame.now) c.requires)

pub numbers::opposite-negated-requires : goal.numbers::opposite-negated-requires
numbers::opposite-negated-requires t c = neg_integer anywhere c.args.part.now (env_of c.args.frame.now) (view_short c.in-Ok.x) c.requires c.in-Ok.ensures

pub numbers::opposite-returns-in-Ok : goal.numbers::opposite-returns-in-Ok
numbers::opposite-returns-in-Ok t c = neg_is anywhere c.args.part.now (env_of c.args.frame.now) (view_short c.in-Ok.x) (view_short c.negated.result) c.in-Ok.ensures c.negated.ensures

pub numbers::other_truth-number-requires : goal.numbers::other_truth-number-requires
numbers::other_truth-number-requires t c = (omega arith, not_part_runs anywhere c.args.part.now (env_of c.args.frame.now) c.requires)

pub numbers::other_truth-contrary-requires : goal.numbers::other_truth-contrary-requires
numbers::other_truth-contrary-requires t c = not_truth anywhere c.args.part.now (env_of c.args.frame.now) (view_short c.in-Ok.x) c.requires c.in-Ok.ensures

pub numbers::other_truth-returns-in-Ok : goal.numbers::other_truth-returns-in-Ok
numbers::other_truth-returns-in-Ok t c = not_is anywhere c.args.part.now (env_of c.args.frame.now) (view_short c.in-Ok.x) (view_short c.contrary.result) c.in-Ok.ensures c.contrary.ensures

pub numbers::converted-number-requires : goal.numbers::converted-number-requires
numbers::converted-number-requires t c = (omega arith, cast_part_runs anywhere c.args.kind c.args.part.now (env_of c.args.frame.now) c.requires)

pub numbers::converted-cast-requires : goal.numbers::converted-cast-requires
numbers::converted-cast-requires t c = cast_integer anywhere c.args.kind c.args.part.now (env_of c.args.frame.now) (view_short c.in-Ok.x) c.requires c.in-Ok.ensures

pub numbers::converted-returns-in-Ok : goal.numbers::converted-returns-in-Ok
numbers::converted-returns-in-Ok t c = cast_is anywhere c.args.kind c.args.part.now (env_of c.args.frame.now) (view_short c.in-Ok.x) (view_short c.cast.result) c.in-Ok.ensures c.cast.ensures

pub legs::eval_leg-eval_strided-requires : goal.legs::eval_leg-eval_strided-requires
legs::eval_leg-eval_strided-requires t c =
    let is : view_leg c.args.leg.now ≡ strided c.deref-in-Strided.result.now c.deref-in-Strided-2.result.now c.deref-in-Strided-3.result.now c.deref-in-Strided-4.result.now = ap view_leg c.in-Strided.is ∙ (λ i. strided (sym c.deref-in-Strided.ensures i) (sym c.deref-in-Strided-2.ensures i) (sym c.deref-in-Strided-3.ensures i) (sym c.deref-in-Strided-4.ensures i)) in
    (omega (arith, ap leg_nodes is), strided_runs _ _ _ _ (env_of c.args.frame.now) (view_leg c.args.leg.now) is c.requires)

pub legs::eval_leg-returns-in-Strided-clause-elements : goal.legs::eval_leg-returns-in-Strided-clause-elements
legs::eval_leg-returns-in-Strided-clause-elements t c =
    let is : view_leg c.args.leg.now ≡ strided c.deref-in-Strided.result.now c.deref-in-Strided-2.result.now c.deref-in-Strided-3.result.now c.deref-in-Strided-4.result.now = ap view_leg c.in-Strided.is ∙ (λ i. strided (sym c.deref-in-Strided.ensures i) (sym c.deref-in-Strided-2.ensures i) (sym c.deref-in-Strided-3.ensures i) (sym c.deref-in-Strided-4.ensures i)) in
    subst (λ (l : LegTree). Answers elements_in c.eval_strided.result (eval_leg l (env_of c.args.frame.now))) (sym is) c.eval_strided.ensures.elements

pub legs::eval_strided-strided-requires-clause-vector : goal.legs::eval_strided-strided-requires-clause-vector
legs::eval_strided-strided-requires-clause-vector t c = vector_is c.args.e.now c.args.start.now c.args.end.now c.args.stride.now (env_of c.args.frame.now) (strided c.args.e.now c.args.start.now c.args.end.now c.args.stride.now) (held_of c.in-Ok.v) refl c.requires.fit c.in-Ok.ensures

pub legs::eval_strided-strided-requires-clause-start : goal.legs::eval_strided-strided-requires-clause-start
legs::eval_strided-strided-requires-clause-start t c = start_is c.args.e.now c.args.start.now c.args.end.now c.args.stride.now (env_of c.args.frame.now) (strided c.args.e.now c.args.start.now c.args.end.now c.args.stride.now) (held_of c.in-Ok-value.x) refl c.requires.fit c.in-Ok-value.ensures

pub legs::eval_strided-strided-requires-clause-end : goal.legs::eval_strided-strided-requires-clause-end
legs::eval_strided-strided-requires-clause-end t c = end_is c.args.e.now c.args.start.now c.args.end.now c.args.stride.now (env_of c.args.frame.now) (strided c.args.e.now c.args.start.now c.args.end.now c.args.stride.now) (held_of c.in-Ok-value-2.x) refl c.requires.fit c.in-Ok-value-2.ensures

pub legs::eval_strided-strided-requires-clause-stride : goal.legs::eval_strided-strided-requires-clause-stride
legs::eval_strided-strided-requires-clause-stride t c = stride_is c.args.e.now c.args.start.now c.args.end.now c.args.stride.now (env_of c.args.frame.now) (strided c.args.e.now c.args.start.now c.args.end.now c.args.stride.now) (held_of c.in-Ok-value-3.step) refl c.requires.fit c.in-Ok-value-3.ensures

pub legs::eval_strided-returns-in-Err-value-clause-elements : goal.legs::eval_strided-returns-in-Err-value-clause-elements
legs::eval_strided-returns-in-Err-value-clause-elements t c =
    stops held_of elements_in c.in-Err-value.stop (eval c.args.start.now (env_of c.args.frame.now)) (eval_leg (strided c.args.e.now c.args.start.now c.args.end.now c.args.stride.now) (env_of c.args.frame.now)) (λ q. start_faults c.args.e.now c.args.start.now c.args.end.now c.args.stride.now (env_of c.args.frame.now) (strided c.args.e.now c.args.start.now c.args.end.now c.args.stride.now) (held_of c.in-Ok.v) refl c.in-Ok.ensures (vector_is c.args.e.now c.args.start.now c.args.end.now c.args.stride.now (env_of c.args.frame.now) (strided c.args.e.now c.args.start.now c.args.end.now c.args.stride.now) (held_of c.in-Ok.v) refl c.requires.fit c.in-Ok.ensures) q) c.in-Err-value.ensures

pub legs::eval_strided-returns-in-Err-value-2-clause-elements : goal.legs::eval_strided-returns-in-Err-value-2-clause-elements
legs::eval_strided-returns-in-Err-value-2-clause-elements t c =
    stops held_of elements_in c.in-Err-value-2.stop (eval c.args.end.now (env_of c.args.frame.now)) (eval_leg (strided c.args.e.now c.args.start.now c.args.end.now c.args.stride.now) (env_of c.args.frame.now)) (λ q. end_faults c.args.e.now c.args.start.now c.args.end.now c.args.stride.now (env_of c.args.frame.now) (strided c.args.e.now c.args.start.now c.args.end.now c.args.stride.now) (held_of c.in-Ok.v) (held_of c.in-Ok-value.x) refl c.in-Ok.ensures (vector_is c.args.e.now c.args.start.now c.args.end.now c.args.stride.now (env_of c.args.frame.now) (strided c.args.e.now c.args.start.now c.args.end.now c.args.stride.now) (held_of c.in-Ok.v) refl c.requires.fit c.in-Ok.ensures) c.in-Ok-value.ensures (start_is c.args.e.now c.args.start.now c.args.end.now c.args.stride.now (env_of c.args.frame.now) (strided c.args.e.now c.args.start.now c.args.end.now c.args.stride.now) (held_of c.in-Ok-value.x) refl c.requires.fit c.in-Ok-value.ensures) q) c.in-Err-value-2.ensures

pub legs::eval_strided-returns-in-Err-value-3-clause-elements : goal.legs::eval_strided-returns-in-Err-value-3-clause-elements
legs::eval_strided-returns-in-Err-value-3-clause-elements t c =
    stops held_of elements_in c.in-Err-value-3.stop (eval c.args.stride.now (env_of c.args.frame.now)) (eval_leg (strided c.args.e.now c.args.start.now c.args.end.now c.args.stride.now) (env_of c.args.frame.now)) (λ q. stride_faults c.args.e.now c.args.start.now c.args.end.now c.args.stride.now (env_of c.args.frame.now) (strided c.args.e.now c.args.start.now c.args.end.now c.args.stride.now) (held_of c.in-Ok.v) (held_of c.in-Ok-value.x) (held_of c.in-Ok-value-2.x) refl c.in-Ok.ensures (vector_is c.args.e.now c.args.start.now c.args.end.now c.args.stride.now (env_of c.args.frame.now) (strided c.args.e.now c.args.start.now c.args.end.now c.args.stride.now) (held_of c.in-Ok.v) refl c.requires.fit c.in-Ok.ensures) c.in-Ok-value.ensures (start_is c.args.e.now c.args.start.now c.args.end.now c.args.stride.now (env_of c.args.frame.now) (strided c.args.e.now c.args.start.now c.args.end.now c.args.stride.now) (held_of c.in-Ok-value.x) refl c.requires.fit c.in-Ok-value.ensures) c.in-Ok-value-2.ensures (end_is c.args.e.now c.args.start.now c.args.end.now c.args.stride.now (env_of c.args.frame.now) (strided c.args.e.now c.args.start.now c.args.end.now c.args.stride.now) (held_of c.in-Ok-value-2.x) refl c.requires.fit c.in-Ok-value-2.ensures) q) c.in-Err-value-3.ensures

pub turns::value_of_iterate-first_state-requires : goal.turns::value_of_iterate-first_state-requires
turns::value_of_iterate-first_state-requires t c =
    let less = state_less c.args.e.now c.args.start.now c.requires.form in
    (omega arith, (state_runs c.args.e.now c.args.start.now (env_of c.args.frame.now) c.requires.form c.requires.runs, (λ x q. state_is_plain c.args.e.now c.args.start.now (env_of c.args.frame.now) x c.requires.form c.requires.runs q)))

pub turns::value_of_iterate-run_turns-requires : goal.turns::value_of_iterate-run_turns-requires
turns::value_of_iterate-run_turns-requires t c = (omega arith, (state_holds c.args.e.now c.args.start.now (env_of c.args.frame.now) (view_val c.in-Ok.state) c.requires.form c.requires.runs c.in-Ok.ensures, (c.requires.runs.direct, of_is_iterate c.args.e.now c.args.start.now c.requires.form)))

pub turns::value_of_iterate-returns-in-Ok : goal.turns::value_of_iterate-returns-in-Ok
turns::value_of_iterate-returns-in-Ok t c =
    subst (λ (o : Outcome Thing). Answers held_of c.run_turns.result o) (sym (turns_start c.args.e.now c.args.start.now (env_of c.args.frame.now) (view_val c.in-Ok.state) c.requires.form c.in-Ok.ensures)) c.run_turns.ensures

pub turns::value_of_iterate-returns-in-Err : goal.turns::value_of_iterate-returns-in-Err
turns::value_of_iterate-returns-in-Err t c =
    stops value_thing held_of c.in-Err.stop (eval c.args.start.now (env_of c.args.frame.now)) (eval c.args.e.now (env_of c.args.frame.now)) (λ q. state_faults c.args.e.now c.args.start.now (env_of c.args.frame.now) c.requires.form q) c.in-Err.ensures

pub turns::first_state-into_value-requires : goal.turns::first_state-into_value-requires
turns::first_state-into_value-requires t c = c.requires.plain (held_of c.in-Ok.x) c.in-Ok.ensures

pub turns::first_state-returns-in-Ok-into_value : goal.turns::first_state-returns-in-Ok-into_value
turns::first_state-returns-in-Ok-into_value t c = c.in-Ok.ensures ∙ ap done c.in-Ok-into_value.ensures

pub rows::try_block-do_block-requires : goal.rows::try_block-do_block-requires
rows::try_block-do_block-requires t c = block_ready c.args.e.now (env_of c.args.frame.now) (lists_of c.args.legs.now) c.args.from c.args.to (thing_of c.args.own.now) (thing_of c.args.builder.now) c.in-Some.deed c.requires.direct c.in-Some.ensures c.requires.on

pub rows::try_block-returns-in-Some : goal.rows::try_block-returns-in-Some
rows::try_block-returns-in-Some t c = block_is_done c.do_block.result c.args.e.now (env_of c.args.frame.now) (lists_of c.args.legs.now) c.args.from c.args.to (thing_of c.args.own.now) (thing_of c.args.builder.now) (thing_of c.do_block.new.builder) c.in-Some.deed c.requires.direct c.in-Some.ensures c.requires.on c.do_block.ensures

pub acts::act_struct-returns : goal.acts::act_struct-returns
acts::act_struct-returns t c =
    let q : ActAll c.act_fields.result (act_all (pack_exprs c.args.parts.now) (env_of c.args.frame.now) (fields_of (thing_of c.args.builder.now))) (things_of c.act_fields.new.fields) = subst (λ (b : Owned). ActAll c.act_fields.result (act_all (pack_exprs c.args.parts.now) (env_of c.args.frame.now) (fields_of (thing_of b))) (things_of c.act_fields.new.fields)) (sym c.in-Several.is) c.act_fields.ensures in
    struct_gives c.act_fields.result anywhere (pack_exprs c.args.parts.now) (env_of c.args.frame.now) (thing_of c.args.builder.now) (things_of c.act_fields.new.fields) c.requires q

pub lent::act_on-returns-in-Ok : goal.lent::act_on-returns-in-Ok
lent::act_on-returns-in-Ok t c =
    lone_act_gives c.hand_on.result c.args.e.now c.args.start.now (env_of c.args.frame.now) (thing_of c.args.builder.now) (thing_of c.act.new.builder) (thing_of c.hand_on.new.builder) (view_column c.args.column.now) c.requires.form c.requires.acts c.requires.legs c.in-Ok.ensures c.hand_on.ensures

pub numbers::chosen-binary-requires : goal.numbers::chosen-binary-requires
numbers::chosen-binary-requires t c =
    let is : c.args.e.now ≡ two (record { place = c.e.inside.place; ty = c.e.inside.ty }) (binary c.in-Binary.op) c.deref.result.now c.deref-in-Binary.result.now =
    sym c.e.view_is ∙ ap (λ (f : Form). view_form f (record { place = c.e.inside.place; ty = c.e.inside.ty })) c.in-Two.is ∙ ap (λ (o : TwoForm). two (record { place = c.e.inside.place; ty = c.e.inside.ty }) (view_two o) c.in-Two.first.value c.in-Two.second.value) c.in-Binary.is
    ∙ (λ i. two (record { place = c.e.inside.place; ty = c.e.inside.ty }) (binary c.in-Binary.op) (sym c.deref.ensures i) (sym c.deref-in-Binary.ensures i)) in
    (omega (arith, ap expr_nodes is), two_number_runs _ _ _ _ (env_of c.args.frame.now) c.args.e.now is c.requires)

pub numbers::chosen-either-requires : goal.numbers::chosen-either-requires
numbers::chosen-either-requires t c =
    let is : c.args.e.now ≡ two (record { place = c.e.inside.place; ty = c.e.inside.ty }) and c.deref-in-And.result.now c.deref-in-And-2.result.now =
    sym c.e.view_is ∙ ap (λ (f : Form). view_form f (record { place = c.e.inside.place; ty = c.e.inside.ty })) c.in-Two.is ∙ ap (λ (o : TwoForm). two (record { place = c.e.inside.place; ty = c.e.inside.ty }) (view_two o) c.in-Two.first.value c.in-Two.second.value) c.in-And.is
    ∙ (λ i. two (record { place = c.e.inside.place; ty = c.e.inside.ty }) and (sym c.deref-in-And.ensures i) (sym c.deref-in-And-2.ensures i)) in
    (omega (arith, ap expr_nodes is), (two_number_runs _ _ _ _ (env_of c.args.frame.now) c.args.e.now is c.requires, tt))

pub numbers::chosen-either-requires-in-Or : goal.numbers::chosen-either-requires-in-Or
numbers::chosen-either-requires-in-Or t c =
    let is : c.args.e.now ≡ two (record { place = c.e.inside.place; ty = c.e.inside.ty }) or c.deref-in-Or.result.now c.deref-in-Or-2.result.now =
    sym c.e.view_is ∙ ap (λ (f : Form). view_form f (record { place = c.e.inside.place; ty = c.e.inside.ty })) c.in-Two.is ∙ ap (λ (o : TwoForm). two (record { place = c.e.inside.place; ty = c.e.inside.ty }) (view_two o) c.in-Two.first.value c.in-Two.second.value) c.in-Or.is
    ∙ (λ i. two (record { place = c.e.inside.place; ty = c.e.inside.ty }) or (sym c.deref-in-Or.ensures i) (sym c.deref-in-Or-2.ensures i)) in
    (omega (arith, ap expr_nodes is), (two_number_runs _ _ _ _ (env_of c.args.frame.now) c.args.e.now is c.requires, tt))

pub numbers::chosen-choice-requires : goal.numbers::chosen-choice-requires
numbers::chosen-choice-requires t c =
    let is : c.args.e.now ≡ three (record { place = c.e.inside.place; ty = c.e.inside.ty }) if_else c.deref-in-If.result.now c.deref-in-If-2.result.now c.deref-in-If-3.result.now =
    sym c.e.view_is ∙ ap (λ (f : Form). view_form f (record { place = c.e.inside.place; ty = c.e.inside.ty })) c.in-Three.is
    ∙ ap (λ (o : ThreeForm). three (record { place = c.e.inside.place; ty = c.e.inside.ty }) (view_three o) c.in-Three.condition.value c.in-Three.then.value c.in-Three.otherwise.value) c.in-If.is
    ∙ (λ i. three (record { place = c.e.inside.place; ty = c.e.inside.ty }) if_else (sym c.deref-in-If.ensures i) (sym c.deref-in-If-2.ensures i) (sym c.deref-in-If-3.ensures i)) in
    (omega (arith, ap expr_nodes is), three_number_runs _ _ _ _ _ (env_of c.args.frame.now) c.args.e.now is c.requires)

pub numbers::chosen-selection-requires : goal.numbers::chosen-selection-requires
numbers::chosen-selection-requires t c =
    let is : c.args.e.now ≡ three (record { place = c.e.inside.place; ty = c.e.inside.ty }) select c.deref-in-Select.result.now c.deref-in-Select-2.result.now c.deref-in-Select-3.result.now =
    sym c.e.view_is ∙ ap (λ (f : Form). view_form f (record { place = c.e.inside.place; ty = c.e.inside.ty })) c.in-Three.is
    ∙ ap (λ (o : ThreeForm). three (record { place = c.e.inside.place; ty = c.e.inside.ty }) (view_three o) c.in-Three.condition.value c.in-Three.then.value c.in-Three.otherwise.value) c.in-Select.is
    ∙ (λ i. three (record { place = c.e.inside.place; ty = c.e.inside.ty }) select (sym c.deref-in-Select.ensures i) (sym c.deref-in-Select-2.ensures i) (sym c.deref-in-Select-3.ensures i)) in
    (omega (arith, ap expr_nodes is), three_number_runs _ _ _ _ _ (env_of c.args.frame.now) c.args.e.now is c.requires)

pub numbers::chosen-opposite-requires : goal.numbers::chosen-opposite-requires
numbers::chosen-opposite-requires t c =
    let is : c.args.e.now ≡ one (record { place = c.e.inside.place; ty = c.e.inside.ty }) neg c.deref-in-Neg.result.now =
    sym c.e.view_is ∙ ap (λ (f : Form). view_form f (record { place = c.e.inside.place; ty = c.e.inside.ty })) c.in-One.is ∙ ap (λ (o : OneForm). one (record { place = c.e.inside.place; ty = c.e.inside.ty }) (view_one o) c.in-One.part.value) c.in-Neg.is ∙ (λ i. one (record { place = c.e.inside.place; ty = c.e.inside.ty }) neg (sym c.deref-in-Neg.ensures i)) in
    (omega (arith, ap expr_nodes is), one_number_runs _ _ _ (env_of c.args.frame.now) c.args.e.now is c.requires)

pub numbers::chosen-other_truth-requires : goal.numbers::chosen-other_truth-requires
numbers::chosen-other_truth-requires t c =
    let is : c.args.e.now ≡ one (record { place = c.e.inside.place; ty = c.e.inside.ty }) not_of c.deref-in-Not.result.now =
    sym c.e.view_is ∙ ap (λ (f : Form). view_form f (record { place = c.e.inside.place; ty = c.e.inside.ty })) c.in-One.is ∙ ap (λ (o : OneForm). one (record { place = c.e.inside.place; ty = c.e.inside.ty }) (view_one o) c.in-One.part.value) c.in-Not.is ∙ (λ i. one (record { place = c.e.inside.place; ty = c.e.inside.ty }) not_of (sym c.deref-in-Not.ensures i)) in
    (omega (arith, ap expr_nodes is), one_number_runs _ _ _ (env_of c.args.frame.now) c.args.e.now is c.requires)

pub numbers::chosen-converted-requires : goal.numbers::chosen-converted-requires
numbers::chosen-converted-requires t c =
    let is : c.args.e.now ≡ one (record { place = c.e.inside.place; ty = c.e.inside.ty }) (cast c.in-Cast.kind) c.deref-in-Cast.result.now =
    sym c.e.view_is ∙ ap (λ (f : Form). view_form f (record { place = c.e.inside.place; ty = c.e.inside.ty })) c.in-One.is ∙ ap (λ (o : OneForm). one (record { place = c.e.inside.place; ty = c.e.inside.ty }) (view_one o) c.in-One.part.value) c.in-Cast.is ∙ (λ i. one (record { place = c.e.inside.place; ty = c.e.inside.ty }) (cast c.in-Cast.kind) (sym c.deref-in-Cast.ensures i)) in
    (omega (arith, ap expr_nodes is), one_number_runs _ _ _ (env_of c.args.frame.now) c.args.e.now is c.requires)
