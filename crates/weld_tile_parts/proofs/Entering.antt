-- A tile's part that is entered: it joins, and the joined builder comes to the tile's last row.
use Rattle.std.proofs.Common.{ℕ}
use mathlib.Core.Logic.{∥∥₁_elim}
use Rattle.weld_meaning.specs.Thing.{Thing, after_thing}
use Rattle.weld_eval.specs.Takes.{Join}
use Rattle.weld_acts.specs.Ranges.{Evaluation, IsAction, IsSoFar}
use Rattle.weld_acts.proofs.RangeLaw.{tile_joins, tile_enters}
use Rattle.weld_tile_parts.specs.EvaluationCode.{outcomes_one}
use Rattle.weld_tile_parts.specs.Kept.{IsTileOf}
use Rattle.weld_tile_parts.proofs.JoinOne.{joins_one}

pub enters_joins : (ev : Evaluation) (from to : ℕ) (j d : Thing) → ∥ IsTileOf ev from to ∥₁ → IsSoFar ev from j → IsAction ev from to d → Join j d
enters_joins ev from to j d tile come is = ∥∥₁_elim tile (joins_one j d) (λ t. tile_joins ev t.count from to j d t.holds come is)

pub enters_comes : (ev : Evaluation) (from to : ℕ) (j d : Thing) → ∥ IsTileOf ev from to ∥₁ → IsSoFar ev from j → IsAction ev from to d → IsSoFar ev to (after_thing j d)
enters_comes ev from to j d tile come is = ∥∥₁_elim tile (outcomes_one _ _) (λ t. tile_enters ev t.count from to j d t.holds t.ordered t.within come is)
