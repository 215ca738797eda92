-- What lets a whole expression be run.
use Rattle.std.proofs.Common.{◌≡◌, Bool, true, false}
use Rattle.std.specs.Prelude.{Decides}
use Rattle.weld_tree.specs.ExprTree.{ExprTree}
use Rattle.weld_meaning.specs.Evaluation.{Env}
use Rattle.weld_eval.specs.Fit.{IsFit}
use Rattle.weld_acts.specs.Act.{AreDirect}
use Rattle.weld_rows.specs.Runs.{Runs}

-- in place, where the test says so
pub as_decided : (b : Bool) (e : ExprTree) → Decides b (AreDirect e) → b ≡ true → AreDirect e
as_decided b e h = h.0

pub decided_runs : (b : Bool) (e : ExprTree) (env : Env) → Decides b (AreDirect e) → IsFit e env → Runs b e env
decided_runs b e env h fit = record { fit = fit; direct = h.0 }

-- otherwise always
pub plainly_runs : (e : ExprTree) (env : Env) → IsFit e env → Runs false e env
plainly_runs e env h = record { fit = h; direct = λ t. let no : ⊥ = cc in absurd no }
