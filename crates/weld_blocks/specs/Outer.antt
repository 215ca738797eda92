-- What stands outside of a loop's rows.
use Rattle.std.specs.Prelude.{◌≡◌, ℕ, Some}
use Rattle.weld_data.specs.Value.{Value}
use Rattle.weld_tree.specs.ExprTree.{ExprTree}
use Rattle.weld_builders.specs.Outcome.{done}
use Rattle.weld_meaning.specs.Environment.{look_for}
use Rattle.weld_meaning.specs.Thing.{plain}
use Rattle.weld_meaning.specs.Evaluation.{Env, eval}

-- the expression comes to the value on every row
abbrev pub IsEverywhere : ExprTree → (ℕ → Env) → Value → Type 0
IsEverywhere e envs v = (j : ℕ) → eval e (envs j) ≡ done (plain v)

-- the name stands for the value on every row
abbrev pub StandsEverywhere : ℕ → (ℕ → Env) → Value → Type 0
StandsEverywhere s envs v = (j : ℕ) → look_for s (envs j) ≡ Some (plain v)
