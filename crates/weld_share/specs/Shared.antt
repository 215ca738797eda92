-- Stretches that are shared: what one worker makes of some that follow one another.
use Rattle.std.specs.Prelude.{◌≡◌, ℕ, zero, suc, ◌≤◌, List, [], ◌∷◌, ◌++◌, length}
use Rattle.weld_meaning.specs.Thing.{Thing}
use Rattle.weld_acts.specs.Ranges.{HoldsRange, IsAction}
use Rattle.weld_plan.specs.declared.plan.Plan.{Plan}
use Rattle.weld_exec.specs.Run.{evaluation_of, rows_at}
use Rattle.weld_exec.specs.declared.env.Env.{Env as State}
use Rattle.weld_share.specs.Stretches.{AreStretches}
use Rattle.weld_share.specs.declared.stretch.Stretch.{Stretch}

-- the row at which the first of some stretches begins, and that at which the one of a number begins, or the last one ends
abbrev pub first_row : List Stretch → ℕ
first_row [] = 0
first_row (s ∷ ss) = s.whole.lo

abbrev pub row_from : ℕ → List Stretch → ℕ → ℕ
row_from lo [] k = lo
row_from lo (s ∷ ss) zero = lo
row_from lo (s ∷ ss) (suc k) = row_from s.whole.hi ss k

abbrev pub row_of : List Stretch → ℕ → ℕ
row_of ss k = row_from (first_row ss) ss k

-- they follow one another, and are of a loop that has so many rows
abbrev pub AreShared : ℕ → List Stretch → Type 0
AreShared rows ss = (n : ℕ) × (lo : ℕ) × (behind : List Stretch) × AreStretches n lo rows (ss ++ behind)

-- the builder is what the stretches from a number up to, not including, another make of the one that has nothing merged; and the rows behind them can be run on from it
pub record HasMade (p : Plan) (e : State) (ss : List Stretch) (first next : ℕ) (s : Thing) : Type 0 where
  pub ordered : first ≤ next
  pub within : next ≤ length ss
  pub action : IsAction (evaluation_of p e) (row_of ss first) (row_of ss next) s
  pub holds : HoldsRange (evaluation_of p e).node (evaluation_of p e).names (evaluation_of p e).lists (row_of ss next) (rows_at e) s
