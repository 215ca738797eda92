-- What lets an expression be run.
use Rattle.std.specs.Prelude.{◌≡◌, Bool, true}
use Rattle.weld_tree.specs.ExprTree.{ExprTree, ExprTrees, LegTree, LegTrees}
use Rattle.weld_meaning.specs.Evaluation.{Env}
use Rattle.weld_eval.specs.Fit.{IsFit, AreFit, LegIsFit, LegsAreFit}
use Rattle.weld_eval.specs.Takes.{IsScalar}
use Rattle.weld_acts.specs.Act.{AreDirect, AllDirect, LegDirect, LegsDirect}

-- it is fit to be evaluated; where it is to run in place, the body of each of its loops acts on the loop's own builder
pub record Runs (in_place : Bool) (e : ExprTree) (env : Env) : Type 0 where
  pub fit : IsFit e env
  pub direct : in_place ≡ true → AreDirect e

-- the same, and its type is a scalar
pub record RunsNumber (in_place : Bool) (e : ExprTree) (env : Env) : Type 0 where
  pub fit : IsFit e env
  pub direct : in_place ≡ true → AreDirect e
  pub scalar : IsScalar fit.answer

-- the same of each of them
pub record AllRun (in_place : Bool) (es : ExprTrees) (env : Env) : Type 0 where
  pub fit : AreFit es env
  pub direct : in_place ≡ true → AllDirect es

-- the same of a leg of a loop
pub record LegRuns (in_place : Bool) (l : LegTree) (env : Env) : Type 0 where
  pub fit : LegIsFit l env
  pub direct : in_place ≡ true → LegDirect l

-- the same of each leg
pub record LegsRun (in_place : Bool) (ls : LegTrees) (env : Env) : Type 0 where
  pub fit : LegsAreFit ls env
  pub direct : in_place ≡ true → LegsDirect ls
