-- A block of the rows of a loop.
use Rattle.std.specs.Prelude.{ℕ, ◌+◌, ◌∷◌, List, Option, Some, None}
use Rattle.weld_data.specs.Value.{Value}
use Rattle.weld_tree.specs.ExprTree.{ExprTree, loop}
use Rattle.weld_meaning.specs.Thing.{Thing, plain}
use Rattle.weld_meaning.specs.Evaluation.{Env, whole_number}
use Rattle.weld_eval.specs.RowLists.{row_in}
use Rattle.weld_deeds.specs.Deeds.{IsDeed}
use Rattle.weld_deeds.specs.declared.deed.Deed.{Deed}

-- it is what the loop's body does on so many rows from one on, where the loop's own name stands for some builder
abbrev pub IsBlock : ExprTree → Env → Thing → List (List Value) → ℕ → Deed → ℕ → Type 0
IsBlock (loop a ls e b n x f) env own lists from d count =
    IsDeed f (λ j. (x.sym.0, plain (row_in lists (from + j))) ∷ (n.sym.0, plain (whole_number (from + j))) ∷ (b.sym.0, own) ∷ env) d count
IsBlock _ env own lists from d count = ⊥

abbrev pub MayBeBlock : ExprTree → Env → Thing → List (List Value) → ℕ → Option Deed → ℕ → Type 0
MayBeBlock e env own lists from (Some d) count = IsBlock e env own lists from d count
MayBeBlock e env own lists from None count = Unit {0}
