-- Expressions in their places: what is known there of names, and what the expression keeps.
use Rattle.weld_tree.specs.TypeTree.{TypeTree}
use Rattle.weld_tree.specs.ExprTree.{ExprTree}
use Rattle.weld_meaning.specs.Environment.{Named}
use Rattle.weld_meaning.specs.Typing.{Types, AreFormed, HasType}
use Rattle.weld_meaning.specs.Origin.{Origin}
use Rattle.weld_meaning.specs.Linear.{Keeps}
use Rattle.weld_meaning.specs.Available.{Splits}
use Rattle.weld_check_types.specs.Notes.{AreNoted}
use Rattle.weld_meaning.specs.Forms.{NamesHaveForms}

-- by the types and the origins of names, which fit each other, the expression has the type, it uses builders linearly, and its
-- nodes have their types noted
pub record IsPlaced (e : ExprTree) (types : Types) (origins : Named Origin) (t : TypeTree) : Type 0 where
  pub formed : AreFormed types
  pub forms : NamesHaveForms origins types
  pub typed : HasType e types t
  pub keeps : Keeps e origins
  pub splits : Splits e origins
  pub noted : AreNoted e types
