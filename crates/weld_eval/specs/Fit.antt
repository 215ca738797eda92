-- What lets an expression be evaluated: it has a type by the types of the things that its names stand for, and keeps the rules on builders.
use Rattle.weld_tree.specs.TypeTree.{TypeTree, TypeTrees}
use Rattle.weld_tree.specs.ExprTree.{ExprTree, ExprTrees, LegTree, LegTrees}
use Rattle.weld_meaning.specs.Environment.{Named}
use Rattle.weld_meaning.specs.Typing.{Types, AreFormed, HasType, HaveTypes, LegHas, LegsHave}
use Rattle.weld_meaning.specs.ThingType.{EnvFits}
use Rattle.weld_meaning.specs.Evaluation.{Env}
use Rattle.weld_meaning.specs.Origin.{Origin}
use Rattle.weld_meaning.specs.Linear.{Keeps, AllKeep, LegKeeps, LegsKeep}
use Rattle.weld_meaning.specs.Forms.{NamesHaveForms}

-- what is known of the names: their types, which are well formed, their things, and their origins
pub record AreNamed (names : Types) (origins : Named Origin) (env : Env) : Type 0 where
  pub formed : AreFormed names
  pub fits : EnvFits names env
  pub forms : NamesHaveForms origins names

pub record IsFit (e : ExprTree) (env : Env) : Type 0 where
  pub names : Types
  pub origins : Named Origin
  pub named : AreNamed names origins env
  pub answer : TypeTree
  pub typed : HasType e names answer
  pub keeps : Keeps e origins

pub record AreFit (es : ExprTrees) (env : Env) : Type 0 where
  pub names : Types
  pub origins : Named Origin
  pub named : AreNamed names origins env
  pub answers : TypeTrees
  pub typed : HaveTypes es names answers
  pub keeps : AllKeep es origins

pub record LegIsFit (l : LegTree) (env : Env) : Type 0 where
  pub names : Types
  pub origins : Named Origin
  pub named : AreNamed names origins env
  pub answer : TypeTree
  pub typed : LegHas l names answer
  pub keeps : LegKeeps l origins

pub record LegsAreFit (ls : LegTrees) (env : Env) : Type 0 where
  pub names : Types
  pub origins : Named Origin
  pub named : AreNamed names origins env
  pub answers : TypeTrees
  pub typed : LegsHave ls names answers
  pub keeps : LegsKeep ls origins
