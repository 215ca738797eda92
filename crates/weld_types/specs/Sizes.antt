-- The rule on the sizes of types, apart from the walk: limits of source text, which passes may leave.
use Rattle.std.specs.Prelude.{◌∷◌}
use Rattle.weld_tree.specs.TypeTree.{TypeTree, TypeTrees}
use Rattle.weld_tree.specs.Types.{IsWithinLimits}
use Rattle.weld_tree.specs.ExprTree.{ExprTree, leaf, one, two, three, many, let_in, loop, iterate, ExprTrees, no_exprs, more_exprs, LegTree, whole, strided, LegTrees, no_legs, more_legs}
use Rattle.weld_tree.specs.Program.{ProgramTree}
use Rattle.weld_meaning.specs.Typing.{Types, HasType, LegsHave, RowHas, body_types, param_types}

-- the type of the node is within the limits
abbrev pub IsSized : ExprTree → Types → Type 0
IsSized e g = (t : TypeTree) → HasType e g t → IsWithinLimits t

abbrev mutual
  -- the types of the nodes and of the rows of loops are within the limits; the types of the three forms that bind names are those of parts
  pub KeepsSize : ExprTree → Types → Type 0
  KeepsSize (leaf a l) g = IsSized (leaf a l) g
  KeepsSize (one a o e) g = KeepsSize e g × IsSized (one a o e) g
  KeepsSize (two a o e f) g = KeepsSize e g × KeepsSize f g × IsSized (two a o e f) g
  KeepsSize (three a o e f h) g = KeepsSize e g × KeepsSize f g × KeepsSize h g × IsSized (three a o e f h) g
  KeepsSize (many a o es) g = AllKeepSize es g × IsSized (many a o es) g
  KeepsSize (let_in a b e f) g = KeepsSize e g × ((u : TypeTree) → HasType e g u → KeepsSize f ((b.sym.0, u) ∷ g))
  KeepsSize (loop a ls e b n x f) g =
      LegsKeepSize ls g × KeepsSize e g
      × ((us : TypeTrees) (r t : TypeTree) → LegsHave ls g us → RowHas us r → HasType e g t → IsWithinLimits r × KeepsSize f (body_types b n x t r g))
  KeepsSize (iterate a e b f) g = KeepsSize e g × ((t : TypeTree) → HasType e g t → KeepsSize f ((b.sym.0, t) ∷ g))

  pub AllKeepSize : ExprTrees → Types → Type 0
  AllKeepSize no_exprs g = Unit {0}
  AllKeepSize (more_exprs e es) g = KeepsSize e g × AllKeepSize es g

  pub LegKeepsSize : LegTree → Types → Type 0
  LegKeepsSize (whole e) g = KeepsSize e g
  LegKeepsSize (strided e f h i) g = KeepsSize e g × KeepsSize f g × KeepsSize h g × KeepsSize i g

  pub LegsKeepSize : LegTrees → Types → Type 0
  LegsKeepSize no_legs g = Unit {0}
  LegsKeepSize (more_legs l ls) g = LegKeepsSize l g × LegsKeepSize ls g

-- each node of the program keeps the size
abbrev pub ProgramKeepsSize : ProgramTree → Type 0
ProgramKeepsSize p = KeepsSize p.body (param_types p.params)
