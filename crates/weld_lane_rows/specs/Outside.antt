-- Names of a loop, and of numbers that are the same on all its rows.
use Rattle.std.specs.Prelude.{◌≡◌, ℕ, ◌==◌, false, ℤ, List, slice_get, Some}
use Rattle.weld_data.specs.declared.kind.Kind.{Kind}
use Rattle.weld_data.specs.Value.{number}
use Rattle.weld_tree.specs.declared.sym.Sym.{Sym}
use Rattle.weld_tree.specs.ExprTree.{ExprTree, loop}
use Rattle.weld_meaning.specs.Environment.{look_for}
use Rattle.weld_meaning.specs.Evaluation.{Env}
use Rattle.weld_meaning.specs.Thing.{plain}
use Rattle.weld_lane_form.specs.declared.making.LoopNames.{LoopNames}
use Rattle.weld_lanes.specs.Answers.{at}

-- the node is a loop with these names and this body
abbrev pub IsLoopOf : ExprTree → LoopNames → ExprTree → Type 0
IsLoopOf (loop a ls e b n x f) names body = (b.sym.0 ≡ names.own.0) × (n.sym.0 ≡ names.number.0) × (x.sym.0 ≡ names.row.0) × (f ≡ body)
IsLoopOf _ names body = ⊥

-- the builder's name is neither the row's nor that of its number
abbrev pub OwnIsApart : LoopNames → Type 0
OwnIsApart names = ((names.own.0 == names.row.0) ≡ false) × ((names.own.0 == names.number.0) ≡ false)

-- the name is none of the loop's
abbrev pub IsOutside : LoopNames → ℕ → Type 0
IsOutside names s = ((s == names.row.0) ≡ false) × ((s == names.number.0) ≡ false) × ((s == names.own.0) ≡ false)

-- each name is none of the loop's, and stands for the number of its place
pub record AreOutside (names : LoopNames) (k : Kind) (syms : List Sym) (us : List ℤ) (env : Env) : Type 0 where
  pub each : (u : ℕ) (s : Sym) → slice_get syms u ≡ Some s → IsOutside names s.0 × (look_for s.0 env ≡ Some (plain (number k (at us u))))
