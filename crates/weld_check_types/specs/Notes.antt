-- Each node of an expression has its type noted at it.
use Rattle.std.specs.Prelude.{◌≡◌, ◌∷◌}
use Rattle.weld_meaning.specs.Typing.{Types, HasType, LegsHave, RowHas, body_types, param_types}
use Rattle.weld_tree.specs.declared.known.Known.TheVariants.{Is}
use Rattle.weld_tree.specs.TypeTree.{TypeTree, TypeTrees}
use Rattle.weld_tree.specs.ExprTree.{At, ExprTree, leaf, one, two, three, many, let_in, loop, iterate, ExprTrees, no_exprs, more_exprs, LegTree, whole, strided, LegTrees, no_legs, more_legs}
use Rattle.weld_tree.specs.Program.{ProgramTree}

-- what is noted at the node is the type that the rules derive for it
abbrev pub HasNote : At → ExprTree → Types → Type 0
HasNote a e g = (t : TypeTree) × (a.ty ≡ Is t) × HasType e g t

abbrev mutual
  -- each node has its note, by the types of names
  pub AreNoted : ExprTree → Types → Type 0
  AreNoted (leaf a l) g = HasNote a (leaf a l) g
  AreNoted (one a o e) g = AreNoted e g × HasNote a (one a o e) g
  AreNoted (two a o e f) g = AreNoted e g × AreNoted f g × HasNote a (two a o e f) g
  AreNoted (three a o e f h) g = AreNoted e g × AreNoted f g × AreNoted h g × HasNote a (three a o e f h) g
  AreNoted (many a o es) g = AllAreNoted es g × HasNote a (many a o es) g
  AreNoted (let_in a b e f) g = AreNoted e g × ((u : TypeTree) × HasType e g u × AreNoted f ((b.sym.0, u) ∷ g)) × HasNote a (let_in a b e f) g
  AreNoted (loop a ls e b n x f) g =
      LegsAreNoted ls g × AreNoted e g
      × ((us : TypeTrees) × (r : TypeTree) × (t : TypeTree) × LegsHave ls g us × RowHas us r × HasType e g t × AreNoted f (body_types b n x t r g))
      × HasNote a (loop a ls e b n x f) g
  AreNoted (iterate a e b f) g = AreNoted e g × ((s : TypeTree) × HasType e g s × AreNoted f ((b.sym.0, s) ∷ g)) × HasNote a (iterate a e b f) g

  pub AllAreNoted : ExprTrees → Types → Type 0
  AllAreNoted no_exprs g = Unit {0}
  AllAreNoted (more_exprs e es) g = AreNoted e g × AllAreNoted es g

  pub LegIsNoted : LegTree → Types → Type 0
  LegIsNoted (whole e) g = AreNoted e g
  LegIsNoted (strided e f h i) g = AreNoted e g × AreNoted f g × AreNoted h g × AreNoted i g

  pub LegsAreNoted : LegTrees → Types → Type 0
  LegsAreNoted no_legs g = Unit {0}
  LegsAreNoted (more_legs l ls) g = LegIsNoted l g × LegsAreNoted ls g

-- each node of the program's body has its note
abbrev pub ProgramIsNoted : ProgramTree → Type 0
ProgramIsNoted p = AreNoted p.body (param_types p.params)
