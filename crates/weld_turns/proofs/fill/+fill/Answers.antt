use Rattle.std.proofs.Common.{◌+◌, ◌-◌, List, drop, get_or, length, refl, ap, sym, subst, ◌∙◌, arith}
use Rattle.weld_tree.specs.ExprTree.{ExprTree, pack_exprs}
use Rattle.weld_eval.specs.FrameView.{env_of}
use Rattle.weld_meaning.specs.Evaluation.{eval, eval_all}
use Rattle.weld_turns.specs.CodeView.{filled}
use Rattle.weld_turns.specs.Fillings.{FillsFields, Selects}
use Rattle.weld_turns.specs.Scopes.{view_scope}
use Rattle.weld_turns.specs.declared.code.Filling.{Filling}
use Rattle.weld_turns.proofs.Fields.{last_ok, more_written}
use Rattle.weld_turns.proofs.Fillings.{after_fills, alias_fills, both_fill, select_fills, work_fills, written_ok}
use Rattle.weld_turns.proofs.Scoping.{alias_below, below_more}
use Rattle.weld_turns.proofs.fill.+fill.Goals as goal

pub fill_let-fill-requires : goal.fill_let-fill-requires
fill_let-fill-requires t c =
    (omega arith, (alias_below c.args.value.now (view_scope c.args.scope.now) (view_scope c.with_name-inner.result) c.args.name.0 c.args.place.first c.in-Some.held c.in-Some.ensures c.requires.below c.with_name-inner.ensures, c.requires.room))

pub fill_let-returns-in-Some : goal.fill_let-returns-in-Some
fill_let-returns-in-Some t c =
    alias_fills c.fill.result c.args.place.shape c.args.place.first (view_scope c.args.scope.now) (view_scope c.with_name-inner.result) (env_of c.args.frame.now) c.args.value.now c.args.body.now c.args.name.0 c.in-Some.held c.in-Some.ensures c.with_name-inner.ensures c.fill.ensures

pub fill_after-returns-in-Ok-fill_above : goal.fill_after-returns-in-Ok-fill_above
fill_after-returns-in-Ok-fill_above t c =
    after_fills c.in-Ok.value.value c.in-Ok-fill_above.body.value c.args.place.shape c.args.place.first c.args.next (view_scope c.args.scope.now) (view_scope c.with_name-inner.result) (env_of c.args.frame.now) c.args.value.now c.args.body.now c.args.name.0 _
    refl (omega (arith, c.requires.room)) (below_more (view_scope c.args.scope.now) c.args.place.first c.args.next (omega (arith, c.requires.room)) c.requires.below) c.with_name-inner.ensures c.in-Ok.ensures c.in-Ok-fill_above.ensures

pub fill_work-returns-in-Ok-in_box : goal.fill_work-returns-in-Ok-in_box
fill_work-returns-in-Ok-in_box t c =
    work_fills c.in-Ok.x.value c.in-Ok-boxed_fill.y.value c.in-Ok-worked.work.value c.in-Ok-in_box.rest.value c.args.op c.args.first c.args.next (view_scope c.args.scope.now) (env_of c.args.frame.now) c.args.x.now c.args.y.now
    (λ f. ap (λ (z : Filling). filled z f) c.in-Ok-in_box.ensures) c.requires.room (omega (arith, c.ranges.first)) c.requires.below c.in-Ok.ensures c.in-Ok-boxed_fill.ensures c.in-Ok-worked.ensures

pub structs::fill_written-returns : goal.structs::fill_written-returns
structs::fill_written-returns t c =
    written_ok c.fill_fields.result (view_scope c.args.scope.now) (env_of c.args.frame.now) c.args.parts.now (length c.as_slice-left.result.now) c.args.count c.args.first c.if-left-count.false c.fill_fields.ensures

pub structs::fill_fields-returns-then-left-eq1 : goal.structs::fill_fields-returns-then-left-eq1
structs::fill_fields-returns-then-left-eq1 t c =
    last_ok c.fill.result (view_scope c.args.scope.now) (env_of c.args.frame.now) c.args.parts.now c.index-items-i.result c.args.i c.args.left c.args.first c.requires.count c.if-left-eq1.true
    (c.index-items-i.is ∙ ap (λ (es : List ExprTree). get_or es c.args.i c.index-items-i.result) c.as_slice-items.ensures.value) c.fill.ensures

pub structs::fill_fields-returns-in-Ok-in_box : goal.structs::fill_fields-returns-in-Ok-in_box
structs::fill_fields-returns-in-Ok-in_box t c =
    more_written c.in-Ok.x.value c.in-Ok-in_box.y.value (view_scope c.args.scope.now) (env_of c.args.frame.now) c.args.parts.now c.index-items-i-2.result c.args.i c.args.left (c.args.left - 1) c.args.first c.requires.count (omega (arith, c.if-left-eq0.false))
    (c.index-items-i-2.is ∙ ap (λ (es : List ExprTree). get_or es c.args.i c.index-items-i-2.result) c.as_slice-items.ensures.value) c.requires.below c.in-Ok.ensures
    (subst (λ (z : Filling). FillsFields z (c.args.left - 1) (c.args.first + 1) (view_scope c.args.scope.now) (env_of c.args.frame.now) (eval_all (pack_exprs (drop (c.args.i + 1) c.args.parts.now)))) (sym c.in-Ok-in_box.ensures) c.in-Ok-fill_fields.ensures)

pub structs::fill_select-returns-in-Ok-in_box : goal.structs::fill_select-returns-in-Ok-in_box
structs::fill_select-returns-in-Ok-in_box t c =
    select_fills c.in-Ok.test.value c.in-Ok-in_box.rest.value c.args.count c.args.first c.args.next (view_scope c.args.scope.now) (env_of c.args.frame.now) c.args.test.now c.args.x.now c.args.y.now (omega (arith, c.requires.room))
    (below_more (view_scope c.args.scope.now) c.args.first c.args.next (omega (arith, c.requires.room)) c.requires.below) c.in-Ok.ensures
    (subst (λ (z : Filling). Selects z c.args.count c.args.next c.args.first (view_scope c.args.scope.now) (env_of c.args.frame.now) (eval c.args.x.now) (eval c.args.y.now)) (sym c.in-Ok-in_box.ensures) c.in-Ok-fill_both.ensures)

pub structs::fill_both-returns-in-Ok-in_box : goal.structs::fill_both-returns-in-Ok-in_box
structs::fill_both-returns-in-Ok-in_box t c =
    both_fill c.in-Ok.x.value c.in-Ok-boxed_struct.y.value c.in-Ok-picked.pick.value c.in-Ok-in_box.rest.value c.args.count c.args.held c.args.first (view_scope c.args.scope.now) (env_of c.args.frame.now) c.args.x.now c.args.y.now
    (λ f. ap (λ (z : Filling). filled z f) c.in-Ok-in_box.ensures) c.requires.room (below_more (view_scope c.args.scope.now) c.args.first c.args.held (omega (arith, c.requires.room)) c.requires.below) c.in-Ok.ensures c.in-Ok-boxed_struct.ensures c.in-Ok-picked.ensures
