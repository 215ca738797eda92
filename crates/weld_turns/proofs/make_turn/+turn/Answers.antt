use Rattle.std.proofs.Common.{◌+◌, refl, arith}
use Rattle.weld_eval.specs.FrameView.{env_of}
use Rattle.weld_turns.specs.Scopes.{view_scope}
use Rattle.weld_turns.proofs.Scoping.{alias_below, held_below}
use Rattle.weld_turns.proofs.Turning.{alias_ok, let_means}
use Rattle.weld_turns.proofs.make_turn.+turn.Goals as goal

pub make_let-make_turn-requires : goal.make_let-make_turn-requires
make_let-make_turn-requires t c =
    (omega arith, alias_below c.args.value.now (view_scope c.args.scope.now) (view_scope c.with_name-inner.result) c.args.name.0 c.args.next c.in-Some.place c.in-Some.ensures c.requires c.with_name-inner.ensures)

pub make_let-returns-in-Some : goal.make_let-returns-in-Some
make_let-returns-in-Some t c =
    alias_ok c.make_turn.result c.args.shape (view_scope c.args.scope.now) (view_scope c.with_name-inner.result) (env_of c.args.frame.now) c.args.value.now c.args.body.now c.args.name.0 c.in-Some.place c.in-Some.ensures c.with_name-inner.ensures c.make_turn.ensures

pub let_filled-boxed_turn-requires : goal.let_filled-boxed_turn-requires
let_filled-boxed_turn-requires t c =
    (omega arith, held_below (view_scope c.args.scope.now) (view_scope c.with_name-inner.result) c.args.name.0 c.args.next (c.args.next + c.room.result) _ (omega (arith, c.room.ensures.exact)) (omega arith) c.requires c.with_name-inner.ensures)

pub let_filled-returns-in-Ok-boxed_turn : goal.let_filled-returns-in-Ok-boxed_turn
let_filled-returns-in-Ok-boxed_turn t c =
    let_means c.args.shape (view_scope c.args.scope.now) (view_scope c.with_name-inner.result) (env_of c.args.frame.now) c.args.value.now c.args.body.now c.args.name.0 c.args.next _ c.in-Ok.filling c.in-Ok-boxed_turn.rest.value
    refl c.requires c.with_name-inner.ensures c.in-Ok.ensures c.in-Ok-boxed_turn.ensures
