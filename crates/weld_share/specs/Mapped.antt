-- What the stretches of a loop answer that are run apart.
use Rattle.std.specs.Prelude.{◌≡◌, ◌+◌, ℕ, List, [], ◌∷◌, Result, Ok, Err}
use Rattle.weld_data.specs.declared.stop.Stop.{Stop}
use Rattle.weld_data.specs.declared.stop.Stop.TheVariants.{Fault, Memory}
use Rattle.weld_builders.specs.Outcome.{fault}
use Rattle.weld_tiles.specs.declared.tile.Tile.{Tile}
use Rattle.weld_tiles.specs.Tiling.{Follows}
use Rattle.weld_tile_parts.specs.declared.piece.TilePart.{TilePart}
use Rattle.weld_tile_parts.specs.Parts.{part_evaluation}
use Rattle.weld_plan.specs.declared.plan.Plan.{Plan}
use Rattle.weld_exec.specs.Run.{program_meaning, evaluation_of}
use Rattle.weld_exec.specs.declared.env.Env.{Env as State}
use Rattle.weld_share.specs.Stretches.{AreStretches}
use Rattle.weld_share.specs.declared.stretch.Stretch.{Stretch}

-- what a stretch answers, of which this is the tile of all rows: its part in the evaluation, or a fault where the program is one
abbrev pub IsAnswer : Plan → State → Tile → Result TilePart Stop → Type 0
IsAnswer p e t (Ok part) = (part.tile ≡ t) × (part_evaluation part ≡ evaluation_of p e)
IsAnswer p e t (Err Fault) = program_meaning p e ≡ fault
IsAnswer p e t (Err Memory) = Unit {0}

-- these are the answers of stretches that follow one another, numbered from a number on, from a row on; behind them come these stretches, up to the last row
abbrev pub AreAnswers : Plan → State → ℕ → ℕ → ℕ → List Stretch → List (Result TilePart Stop) → Type 0
AreAnswers p e n lo rows behind [] = AreStretches n lo rows behind
AreAnswers p e n lo rows behind (r ∷ rs) = (t : Tile) × Follows t n lo × IsAnswer p e t r × AreAnswers p e (n + 1) t.hi rows behind rs
