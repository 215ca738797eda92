use Rattle.std.proofs.Common.{ℕ, ◌∷◌, subst, arith}
use Rattle.weld_eval.specs.FrameView.{env_of}
use Rattle.weld_meaning.specs.Evaluation.{eval}
use Rattle.weld_turns.specs.OnRows.{placed, state_site}
use Rattle.weld_turns.specs.Scopes.{room_of, view_scope, Sites, TurnMeans}
use Rattle.weld_turns.proofs.OnRows.{means_ok}
use Rattle.weld_turns.proofs.on_rows.made_turn.Goals as goal

pub returns-in-Ok : goal.returns-in-Ok
returns-in-Ok c =
    means_ok c.lowered.result c.in-Ok.turn c.args.shape c.args.name.0 c.args.body.now c.args.names.now (env_of c.args.frame.now) (omega (arith, c.room.ensures.exact, c.room.ensures.few))
    (subst (λ (ns : Sites). TurnMeans c.in-Ok.turn c.args.shape ((c.args.name.0, state_site c.args.shape) ∷ placed c.args.names.now (room_of c.args.shape) ns) (env_of c.args.frame.now) (eval c.args.body.now)) c.no_names-none.ensures
    (subst (λ (at : ℕ). TurnMeans c.in-Ok.turn c.args.shape ((c.args.name.0, state_site c.args.shape) ∷ placed c.args.names.now at (view_scope c.no_names-none.result)) (env_of c.args.frame.now) (eval c.args.body.now)) c.room.ensures.exact c.in-Ok.ensures))
    c.lowered.ensures
