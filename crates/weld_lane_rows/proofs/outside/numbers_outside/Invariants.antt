use Rattle.std.proofs.Common.{◌≡◌, length}
use Rattle.weld_eval.specs.FrameView.{env_of}
use Rattle.weld_lane_rows.proofs.OutsideLemmas.{StandSoFar}
use Rattle.weld_lane_rows.proofs.outside.numbers_outside.Given as goal

abbrev pub invariant-loop-place : goal.invariant-loop-place
invariant-loop-place g l = record {
  long : length l.numbers.items ≡ l.place;
  each : StandSoFar g.L.Lane.number l.names g.L.Lane.kind l.syms l.numbers.items (env_of l.frame) l.place;
}
