use Rattle.weld_eval.specs.FrameView.{env_of}
use Rattle.weld_turns.specs.Scopes.{view_scope}
use Rattle.weld_turns.proofs.Turning.{end_filled_means}
use Rattle.weld_turns.proofs.make_turn.end_filled.Goals as goal

pub returns-in-Ok-end_at : goal.returns-in-Ok-end_at
returns-in-Ok-end_at c =
    end_filled_means c.args.shape (view_scope c.args.scope.now) (env_of c.args.frame.now) c.args.state.now c.args.flag.now c.args.next c.in-Ok.filling c.in-Ok-end_at.end.value c.requires c.in-Ok.ensures c.in-Ok-end_at.ensures
