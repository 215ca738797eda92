-- What lets an expression be done in place to a builder.
use Rattle.std.specs.Prelude.{ℕ}
use Rattle.weld_tree.specs.Types.{IsBuilder, AreBuilders}
use Rattle.weld_tree.specs.ExprTree.{ExprTree, ExprTrees}
use Rattle.weld_meaning.specs.Thing.{Thing, Things}
use Rattle.weld_meaning.specs.ThingType.{HasThing, HaveBuilders}
use Rattle.weld_meaning.specs.Evaluation.{Env}
use Rattle.weld_meaning.specs.Origin.{Path}
use Rattle.weld_eval.specs.Fit.{IsFit, AreFit}
use Rattle.weld_acts.specs.Act.{IsAct, AllAct, AreDirect, AllDirect}

-- the expression is fit to be evaluated, the name of the builder that it acts on standing for some builder of its type; each
-- loop in it acts on its own builder; it acts on a path of a name; and what it is done to is of its type
pub record ActFits (e : ExprTree) (env : Env) (s : Thing) : Type 0 where
  pub fit : IsFit e env
  pub direct : AreDirect e
  pub name : ℕ
  pub path : Path
  pub acts : IsAct name path e
  pub builder : IsBuilder fit.answer
  pub has : HasThing s fit.answer

-- the same of expressions that act on the fields of a struct from a number on
pub record ActsFit (es : ExprTrees) (env : Env) (ss : Things) : Type 0 where
  pub fit : AreFit es env
  pub direct : AllDirect es
  pub name : ℕ
  pub path : Path
  pub number : ℕ
  pub act : AllAct name path number es
  pub builders : AreBuilders fit.answers
  pub have : HaveBuilders ss fit.answers
