use Rattle.std.proofs.Common.{◌≡◌, ◌<◌, [], List, length, get_or, sym, ap, ◌∙◌, subst, arith}
use Rattle.weld_data.specs.View.{view_val}
use Rattle.weld_tree.specs.ExprTree.{ExprTree, At, three, many, iterate, pack_exprs}
use Rattle.weld_tree.specs.ExprView.{view_form, view_three, view_many}
use Rattle.weld_tree.specs.declared.expr.Form.{Form}
use Rattle.weld_blocks.specs.Scope.{bound_at, scope_env, AreFieldsOf}
use Rattle.weld_blocks.specs.declared.numbers.Numbers.{Numbers}
use Rattle.weld_blocks.proofs.ColumnLemmas.{choice_numbers, struct_columns, next_field, all_fields}
use Rattle.weld_blocks.proofs.PickLemmas.{if_where}
use Rattle.weld_blocks.proofs.OuterLemmas.{everywhere_numbers}
use Rattle.weld_blocks.proofs.TurnLemmas.{iterate_ends, one_numbers}
use Rattle.weld_blocks.proofs.columns.+columns.Goals as goal

pub arms::of_choice-returns : goal.arms::of_choice-returns
arms::of_choice-returns t c =
    let at : At = record { place = c.e.inside.place; ty = c.e.inside.ty } in
    let is : c.args.e.now ≡ three at (view_three c.in-Three.field-0) c.deref.result.now c.deref-in-Three.result.now c.deref-in-Three-2.result.now =
    sym c.e.view_is ∙ ap (λ (f : Form). view_form f at) c.in-Three.is ∙ (λ i. three at (view_three c.in-Three.field-0) (sym c.deref.ensures i) (sym c.deref-in-Three.ensures i) (sym c.deref-in-Three-2.ensures i)) in
    choice_numbers c.chosen.result at (view_three c.in-Three.field-0) c.deref.result.now c.deref-in-Three.result.now c.deref-in-Three-2.result.now (scope_env c.args.scope.now) c.args.e.now
    c.in-Some.condition c.in-Some-numbers.then c.in-Some-numbers-2.otherwise c.args.count is c.requires c.in-Some.ensures c.in-Some-numbers.ensures c.in-Some-numbers-2.ensures c.chosen.ensures

pub arms::of_if-returns-in-Some-numbers_where-2 : goal.arms::of_if-returns-in-Some-numbers_where-2
arms::of_if-returns-in-Some-numbers_where-2 t c =
    let at : At = record { place = c.e.inside.place; ty = c.e.inside.ty } in
    let is : c.args.e.now ≡ three at (view_three c.in-Three.field-0) c.deref.result.now c.deref-in-Three.result.now c.deref-in-Three-2.result.now =
    sym c.e.view_is ∙ ap (λ (f : Form). view_form f at) c.in-Three.is ∙ (λ i. three at (view_three c.in-Three.field-0) (sym c.deref.ensures i) (sym c.deref-in-Three.ensures i) (sym c.deref-in-Three-2.ensures i)) in
    if_where c.chosen.result at (view_three c.in-Three.field-0) c.deref.result.now c.deref-in-Three.result.now c.deref-in-Three-2.result.now (scope_env c.args.scope.now) c.args.e.now
    c.in-Some.condition c.in-Some-numbers_where.then c.in-Some-numbers_where-2.otherwise c.args.count is c.requires c.in-Some.ensures c.in-Some-numbers_where.ensures c.in-Some-numbers_where-2.ensures c.chosen.ensures

pub bound_of-returns-in-Some : goal.bound_of-returns-in-Some
bound_of-returns-in-Some t c = c.in-Some.ensures.each

pub bound_of-returns-in-Some-numbers : goal.bound_of-returns-in-Some-numbers
bound_of-returns-in-Some-numbers t c = c.in-Some-numbers.ensures.each

pub fields_of-loop-place-init : goal.fields_of-loop-place-init
fields_of-loop-place-init t c = subst (λ (cs : List Numbers). AreFieldsOf [] (scope_env c.args.scope.now) cs c.args.count) (sym c.new-columns.ensures.items) tt

pub fields_of-loop-place-preserved : goal.fields_of-loop-place-preserved
fields_of-loop-place-preserved t c =
    let less : c.loop-place.place < length c.in-Many.parts = omega arith in
    let element : c.index-as_slice-place.result ≡ get_or c.in-Many.parts c.loop-place.place c.index-as_slice-place.result = c.index-as_slice-place.is ∙ ap (λ (l : List ExprTree). get_or l c.loop-place.place c.index-as_slice-place.result) c.as_slice.ensures.value in
    next_field c.in-Many.parts c.loop-place.place c.index-as_slice-place.result (scope_env c.args.scope.now) c.loop-place.columns.items c.push.new.self.items c.in-Some.column c.args.count less element c.in-Ok.ensures.items c.loop-place.invariant c.in-Some.ensures

pub fields_of-returns : goal.fields_of-returns
fields_of-returns t c =
    let at : At = record { place = c.e.inside.place; ty = c.e.inside.ty } in
    let is : c.args.e.now ≡ many at (view_many c.in-Many.field-0) (pack_exprs c.in-Many.parts) = sym c.e.view_is ∙ ap (λ (f : Form). view_form f at) c.in-Many.is in
    let all : c.loop-place.place ≡ length c.in-Many.parts = omega arith in
    struct_columns at (view_many c.in-Many.field-0) c.in-Many.parts (scope_env c.args.scope.now) c.args.e.now c.loop-place.columns.items c.args.count is c.requires
    (all_fields c.in-Many.parts c.loop-place.place (scope_env c.args.scope.now) c.loop-place.columns.items c.args.count all c.loop-place.invariant)

pub ends-returns-in-Some-ends_of : goal.ends-returns-in-Some-ends_of
ends-returns-in-Some-ends_of t c =
    let at : At = record { place = c.e.inside.place; ty = c.e.inside.ty } in
    let is : c.args.e.now ≡ iterate at c.deref.result.now c.in-Iterate.binder c.deref-in-Iterate.result.now =
    sym c.e.view_is ∙ ap (λ (f : Form). view_form f at) c.in-Iterate.is ∙ (λ i. iterate at (sym c.deref.ensures i) c.in-Iterate.binder (sym c.deref-in-Iterate.ensures i)) in
    iterate_ends c.args.e.now at c.deref.result.now c.deref-in-Iterate.result.now c.in-Iterate.binder (scope_env c.args.scope.now) (bound_at c.in-Some.start) c.in-Some-ends_of.states.shape c.in-Some-ends_of.states.items.items c.args.count
    is c.in-Some.ensures c.in-Some-ends_of.ensures

pub of_field-returns-in-Some-outer_value : goal.of_field-returns-in-Some-outer_value
of_field-returns-in-Some-outer_value t c = everywhere_numbers c.everywhere.result c.args.e.now (scope_env c.args.scope.now) (view_val c.in-Some-outer_value.v.now) c.args.count c.in-Some-outer_value.ensures c.everywhere.ensures

pub of_iterate-returns-in-Some : goal.of_iterate-returns-in-Some
of_iterate-returns-in-Some t c = one_numbers c.single_numbers.result c.args.e.now (scope_env c.args.scope.now) c.in-Some.states.shape c.in-Some.states.items.items c.args.count c.in-Some.ensures c.single_numbers.ensures
