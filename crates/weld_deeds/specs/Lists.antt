-- Vectors of numbers, one for each row of a block, the numbers of each item being together.
use Rattle.std.specs.Prelude.{◌≡◌, ℕ, ◌<◌, List, [], ◌∷◌, map, Option, Some, None}
use Rattle.std.specs.Global.{Vec}
use Rattle.weld_data.specs.declared.kind.Kind.{Kind}
use Rattle.weld_data.specs.Value.{Value, list, values}
use Rattle.weld_tree.specs.ExprTree.{ExprTree}
use Rattle.weld_builders.specs.Outcome.{done}
use Rattle.weld_meaning.specs.Thing.{plain}
use Rattle.weld_meaning.specs.Evaluation.{Env, eval}
use Rattle.weld_blocks.specs.Numbers.{number_at}
use Rattle.weld_blocks.specs.Scope.{AreFieldsOf}
use Rattle.weld_blocks.specs.Structs.{AreCounted}
use Rattle.weld_blocks.specs.declared.numbers.Numbers.{Numbers}

-- the vector of the numbers that stand at a place
abbrev pub list_at : List Numbers → ℕ → Value
list_at cs j = list (values (map (λ c. number_at c j) cs))

-- all are of the kind
abbrev pub AreAlike : Kind → List Numbers → Type 0
AreAlike kind [] = Unit {0}
AreAlike kind (c ∷ cs) = (c.kind ≡ kind) × AreAlike kind cs

-- there are so many of each, and the vector at each place is what it must be
pub record AreLists (gives : ℕ → Value → Type 0) (cs : List Numbers) (count : ℕ) : Type 0 where
  pub long : AreCounted cs count
  pub each : (j : ℕ) → j < count → gives j (list_at cs j)

-- they are what the expression comes to on so many rows; there may be none
abbrev pub MayBeLists : ExprTree → (ℕ → Env) → Option (Vec Numbers) → ℕ → Type 0
MayBeLists e envs (Some cs) count = AreLists (λ j v. eval e (envs j) ≡ done (plain v)) cs.items count
MayBeLists e envs None count = Unit {0}

-- they are what the items come to on so many rows; there may be none
abbrev pub MayBeFields : List ExprTree → (ℕ → Env) → Option (Vec Numbers) → ℕ → Type 0
MayBeFields es envs (Some cs) count = AreFieldsOf es envs cs.items count
MayBeFields es envs None count = Unit {0}
