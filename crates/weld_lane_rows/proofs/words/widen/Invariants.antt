use Rattle.std.proofs.Common.{◌≡◌, ◌<◌, ℕ, map}
use Rattle.weld_lanes.specs.Answers.{at}
use Rattle.weld_lane_rows.proofs.words.widen.Given as goal

abbrev pub invariant-loop-place : goal.invariant-loop-place
invariant-loop-place g l = (j : ℕ) → j < l.place → at l.room j ≡ at (map g.L.Lane.number l.numbers) j
