-- The rules of linear use: a builder is used once on each control path, and the body of a loop gives
-- its own builder back. What the rules say of origins stands first.
use Rattle.std.specs.Prelude.{◌≡◌, ◌∷◌}
use Rattle.weld_tree.specs.ExprTree.{ExprTree, leaf, one, two, three, many, let_in, loop, iterate, ExprTrees, no_exprs, more_exprs, LegTree, whole, strided, LegTrees, no_legs, more_legs, Leaf, int, truth, chars, name, fresh, One, neg, not, cast, len, field, finish, started, Three, if_else, select, slice}
use Rattle.weld_meaning.specs.Environment.{Named}
use Rattle.weld_meaning.specs.Origin.{Origin, value, made, own, outer, named, struct, Origins, no_origins, more_origins, origin, origin_of_name, own_paths, in_body, in_turn, by_name}

-- no builder of outside the innermost lambda stands in it
abbrev mutual
  pub IsSeen : Origin → Type 0
  IsSeen value = Unit {0}
  IsSeen made = Unit {0}
  IsSeen (own p) = Unit {0}
  IsSeen outer = ⊥
  IsSeen (named s p) = Unit {0}
  IsSeen (struct os) = AreSeen os

  pub AreSeen : Origins → Type 0
  AreSeen no_origins = Unit {0}
  AreSeen (more_origins o os) = IsSeen o × AreSeen os

-- it isn't a path of the innermost lambda's own builder
abbrev pub IsNotOwn : Origin → Type 0
IsNotOwn value = Unit {0}
IsNotOwn made = Unit {0}
IsNotOwn (own p) = ⊥
IsNotOwn outer = Unit {0}
IsNotOwn (named s p) = Unit {0}
IsNotOwn (struct os) = Unit {0}

-- no builder in it was made there
abbrev mutual
  pub IsNotMade : Origin → Type 0
  IsNotMade value = Unit {0}
  IsNotMade made = ⊥
  IsNotMade (own p) = Unit {0}
  IsNotMade outer = Unit {0}
  IsNotMade (named s p) = Unit {0}
  IsNotMade (struct os) = AreNotMade os

  pub AreNotMade : Origins → Type 0
  AreNotMade no_origins = Unit {0}
  AreNotMade (more_origins o os) = IsNotMade o × AreNotMade os

-- the arms of an `if` answer the same builders, and each of them stood there before the `if`
pub record ArmsAgree (e f : ExprTree) (g : Named Origin) : Type 0 where
  pub same : origin e (by_name g) ≡ origin f (by_name g)
  pub not_made : IsNotMade (origin e (by_name g))

-- a builder is used only within the innermost lambda that binds it
abbrev pub LeafKeeps : Leaf → Named Origin → Type 0
LeafKeeps (int k x) g = Unit {0}
LeafKeeps (truth b) g = Unit {0}
LeafKeeps (chars bs) g = Unit {0}
LeafKeeps (name s) g = IsSeen (origin_of_name s g)
LeafKeeps (fresh b) g = Unit {0}

-- a lambda's own builder has no result within it
abbrev pub OneKeeps : One → Origin → Type 0
OneKeeps neg o = Unit {0}
OneKeeps not o = Unit {0}
OneKeeps (cast k) o = Unit {0}
OneKeeps len o = Unit {0}
OneKeeps (field n) o = Unit {0}
OneKeeps finish o = IsNotOwn o
OneKeeps (started b) o = Unit {0}

abbrev pub ThreeKeeps : Three → ExprTree → ExprTree → Named Origin → Type 0
ThreeKeeps if_else e f g = ArmsAgree e f g
ThreeKeeps select e f g = Unit {0}
ThreeKeeps slice e f g = Unit {0}

abbrev mutual
  -- the expression keeps the rules on origins, by the origins of names
  pub Keeps : ExprTree → Named Origin → Type 0
  Keeps (leaf a l) g = LeafKeeps l g
  Keeps (one a o e) g = Keeps e g × OneKeeps o (origin e g)
  Keeps (two a o e f) g = Keeps e g × Keeps f g
  Keeps (three a o c e f) g = Keeps c g × Keeps e g × Keeps f g × ThreeKeeps o e f g
  Keeps (many a o es) g = AllKeep es g
  Keeps (let_in a b e f) g = Keeps e g × Keeps f ((b.sym.0, origin e g) ∷ g)
  -- the body of a loop gives back, path by path, its own builder
  Keeps (loop a ls e b n x f) g =
      LegsKeep ls g × Keeps e g × Keeps f (in_body b n x (origin e g) g) × (origin f (in_body b n x (origin e g) g) ≡ own_paths (origin e g))
  Keeps (iterate a e b f) g = Keeps e g × Keeps f (in_turn b g)

  pub AllKeep : ExprTrees → Named Origin → Type 0
  AllKeep no_exprs g = Unit {0}
  AllKeep (more_exprs e es) g = Keeps e g × AllKeep es g

  pub LegKeeps : LegTree → Named Origin → Type 0
  LegKeeps (whole e) g = Keeps e g
  LegKeeps (strided e f h i) g = Keeps e g × Keeps f g × Keeps h g × Keeps i g

  pub LegsKeep : LegTrees → Named Origin → Type 0
  LegsKeep no_legs g = Unit {0}
  LegsKeep (more_legs l ls) g = LegKeeps l g × LegsKeep ls g
