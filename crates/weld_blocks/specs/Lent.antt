-- Values that stand in the rows of a block.
use Rattle.std.specs.Prelude.{◌≡◌, ℕ, List, length, Option}
use Rattle.weld_data.specs.Value.{Value, list, values}
use Rattle.weld_tree.specs.ExprTree.{ExprTree}
use Rattle.weld_builders.specs.Outcome.{done}
use Rattle.weld_meaning.specs.Thing.{plain}
use Rattle.weld_meaning.specs.Evaluation.{Env, eval, looked_up, whole_number}
use Rattle.weld_blocks.specs.Numbers.{number_at, MayGive}
use Rattle.weld_blocks.specs.declared.numbers.Numbers.{Numbers}

-- the expression comes to a vector of this length
abbrev pub HasLength : ExprTree → Env → Value → Type 0
HasLength e env v = (vs : List Value) × (eval e env ≡ done (plain (list (values vs)))) × (v ≡ whole_number (length vs))

-- the expression comes to a vector or a dictionary in which this is the element at the place, or the value of the key
abbrev pub HasLooked : ExprTree → Env → Value → Value → Type 0
HasLooked e env place v = (u : Value) × (eval e env ≡ done (plain u)) × (looked_up u place ≡ done v)

-- the same of each of so many that were found
abbrev pub MayHaveLengths : ExprTree → (ℕ → Env) → Option Numbers → ℕ → Type 0
MayHaveLengths e envs r count = MayGive (λ j v. HasLength e (envs j) v) r count

abbrev pub MayHaveLooked : ExprTree → (ℕ → Env) → Numbers → Option Numbers → ℕ → Type 0
MayHaveLooked e envs places r count = MayGive (λ j v. HasLooked e (envs j) (number_at places j) v) r count
