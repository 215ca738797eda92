-- A loop's lanes and a body's lets, as the code holds them, as plain data.
use Rattle.std.specs.Prelude.{ℕ, List, [], ◌∷◌}
use Rattle.weld_sizes.specs.Lanes.{LaneLoop}
use Rattle.weld_sizes.specs.declared.lanes.Lanes.{Lanes}
use Rattle.weld_sizes.specs.declared.lanes.Lets.{Lets, fold-Lets}
use Rattle.weld_sizes.specs.declared.lanes.Lets.TheOpen.{Lets-F}

abbrev pub lane_loop : Lanes → LaneLoop
lane_loop l = record { kind = l.kind; is_pair = l.is_pair; number = l.number.0; row = l.row.0 }

abbrev pub lets_step : Lets-F (List ℕ) → List ℕ
lets_step Lets-F.End = []
lets_step (Lets-F.And s rest) = s.0 ∷ rest.now

abbrev pub view_lets : Lets → List ℕ
view_lets = fold-Lets (List ℕ) lets_step
