use Rattle.std.proofs.Common.{[], ◌∷◌}
use Rattle.weld_data.specs.Value.{values}
use Rattle.weld_eval.specs.FrameView.{env_of}
use Rattle.weld_eval.specs.ShortView.{view_short}
use Rattle.weld_turns.specs.Scopes.{view_scope}
use Rattle.weld_turns.proofs.Fillings.{outer_ok}
use Rattle.weld_turns.proofs.fill.structs.fill_outer.Goals as goal

pub returns-in-Some : goal.returns-in-Some
returns-in-Some c =
    outer_ok c.put_whole.result (view_scope c.args.scope.now) (env_of c.args.frame.now) c.args.e.now c.args.name.0 c.args.count c.args.first (values c.in-Some.fields.now) c.requires c.in-Some.ensures c.put_whole.ensures

pub returns-in-Some-outer_pair : goal.returns-in-Some-outer_pair
returns-in-Some-outer_pair c =
    outer_ok c.put_pair.result (view_scope c.args.scope.now) (env_of c.args.frame.now) c.args.e.now c.args.name.0 c.args.count c.args.first (values (view_short c.in-Some-outer_pair.x ∷ view_short c.in-Some-outer_pair.y ∷ [])) c.requires
    c.in-Some-outer_pair.ensures c.put_pair.ensures
