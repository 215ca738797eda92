use Rattle.std.proofs.Common.{◌-◌, ◌≤◌}
use Rattle.weld_acts.proofs.RangeSteps.{RunsIn}
use Rattle.weld_eval.specs.FrameView.{env_of}
use Rattle.weld_eval.specs.LegsView.{lists_of}
use Rattle.weld_eval.specs.ThingView.{thing_of}
use Rattle.weld_lane_rows.proofs.pieces.run_in_room.Given as goal

abbrev pub invariant-pieces : goal.invariant-pieces
invariant-pieces g l = record {
  runs : RunsIn l.node (env_of l.frame) (lists_of l.legs) l.from l.to (thing_of l.fn.builder) l.reached (thing_of l.builder);
  low : l.from ≤ l.reached;
}

abbrev pub decreases-pieces : goal.decreases-pieces
decreases-pieces g l = l.to - l.reached
