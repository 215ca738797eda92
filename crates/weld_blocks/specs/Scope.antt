-- What the names stand for on the rows of a block.
use Rattle.std.specs.Prelude.{◌≡◌, ℕ, ◌+◌, ◌<◌, ◌∷◌, [], List, map, get_or, Option, Some, None}
use Rattle.weld_data.specs.Value.{Value, struct, values}
use Rattle.weld_tree.specs.ExprTree.{ExprTree}
use Rattle.weld_builders.specs.Outcome.{done}
use Rattle.weld_meaning.specs.Thing.{plain}
use Rattle.weld_meaning.specs.Evaluation.{Env, eval, whole_number}
use Rattle.weld_eval.specs.FrameView.{env_of}
use Rattle.weld_eval.specs.LegsView.{lists_of}
use Rattle.weld_eval.specs.RowLists.{row_in}
use Rattle.weld_eval.specs.ThingView.{thing_of}
use Rattle.weld_blocks.specs.Numbers.{number_at, AreNumbersOf}
use Rattle.weld_blocks.specs.declared.numbers.Numbers.{Numbers}
use Rattle.weld_blocks.specs.declared.scope.Bound.{Bound}
use Rattle.weld_blocks.specs.declared.scope.Bound.TheVariants as bounds
use Rattle.weld_blocks.specs.declared.scope.Rows.{Rows}
use Rattle.weld_blocks.specs.declared.scope.Scope.{Scope, fold-Scope}
use Rattle.weld_blocks.specs.declared.scope.Scope.TheOpen.{Scope-F}

-- on the row of a place in the block, from 0
abbrev pub row_env : Rows → ℕ → Env
row_env r j =
    (r.row_name.0, plain (row_in (lists_of r.legs.now) (r.from + j))) ∷ (r.count_name.0, plain (whole_number (r.from + j))) ∷ (r.own_name.0, thing_of r.own.now) ∷ env_of r.frame.now

-- the struct of the numbers that stand at a place
abbrev pub struct_at : List Numbers → ℕ → Value
struct_at cs j = struct (values (map (λ c. number_at c j) cs))

-- what is bound, on the row of a place
abbrev pub bound_at : Bound → ℕ → Value
bound_at (bounds.Number c) j = number_at c j
bound_at (bounds.Fields cs) j = struct_at cs.items j

abbrev pub scope_step : Scope-F (ℕ → Env) → ℕ → Env
scope_step (Scope-F.Rows r) = λ j. row_env r.now j
scope_step (Scope-F.Let s b rest) = λ j. (s.0, plain (bound_at b.now j)) ∷ rest.now j
scope_step (Scope-F.Picked places total rest) = λ j. rest.now (get_or places.now j 0)

abbrev pub scope_env : Scope → ℕ → Env
scope_env = fold-Scope (ℕ → Env) scope_step

-- it is what the expression comes to on so many rows
abbrev pub IsBound : ExprTree → (ℕ → Env) → (ℕ → Value) → ℕ → Type 0
IsBound e envs at count = (j : ℕ) → j < count → eval e (envs j) ≡ done (plain (at j))

-- the same of what was found; there may be none
abbrev pub MayBeBound : ExprTree → (ℕ → Env) → Option Bound → ℕ → Type 0
MayBeBound e envs (Some b) count = IsBound e envs (bound_at b) count
MayBeBound e envs None count = Unit {0}

-- they are what the expressions come to on so many rows, each in its turn
abbrev pub AreFieldsOf : List ExprTree → (ℕ → Env) → List Numbers → ℕ → Type 0
AreFieldsOf [] envs [] count = Unit {0}
AreFieldsOf (e ∷ es) envs (c ∷ cs) count = AreNumbersOf e envs c count × AreFieldsOf es envs cs count
AreFieldsOf [] envs (c ∷ cs) count = ⊥
AreFieldsOf (e ∷ es) envs [] count = ⊥
