use Rattle.std.proofs.Common.{sym, subst}
use Rattle.weld_meaning.specs.Thing.{Thing}
use Rattle.weld_acts.specs.Ranges.{HoldsRange, RangeAnswer}
use Rattle.weld_eval.specs.FrameView.{env_of}
use Rattle.weld_eval.specs.ThingView.{thing_of}
use Rattle.weld_eval_forms.specs.Legs.{leg_lists}
use Rattle.weld_exec.proofs.range.run_rows.Goals as goal

pub run_in_room-requires-clause-holds : goal.run_in_room-requires-clause-holds
run_in_room-requires-clause-holds c =
    subst (λ (t : Thing). HoldsRange c.args.node.now (env_of c.args.frame.now) (leg_lists c.args.vectors.now) c.args.tile.lo c.args.tile.hi t) (sym c.make_room.ensures) c.requires.holds

pub returns-in-Ok : goal.returns-in-Ok
returns-in-Ok c =
    subst (λ (t : Thing). RangeAnswer c.run_in_room.result (record { node = c.args.node.now; names = env_of c.args.frame.now; lists = leg_lists c.args.vectors.now; start = t }) c.args.tile.lo c.args.tile.hi t (thing_of c.run_in_room.new.builder)) c.make_room.ensures c.run_in_room.ensures
