-- Expressions under other numbers: each number that is bound or named is replaced by the one that a map gives it.
use Rattle.std.specs.Prelude.{◌≡◌, ℕ, List}
use Rattle.weld_tree.specs.declared.binder.Binder.{Binder}
use Rattle.weld_tree.specs.ExprTree.{ExprTree, leaf, one, two, three, many, let_in, loop, iterate, ExprTrees, no_exprs, more_exprs, LegTree, whole, strided, LegTrees, no_legs, more_legs, Leaf, int, truth, chars, name, fresh}
use Rattle.weld_tree.specs.Program.{IsOneOf}
use Rattle.weld_meaning.specs.Environment.{Named, look_for}

-- which number each number becomes
abbrev pub Renaming : Type 0
Renaming = ℕ → ℕ

-- the binder under its new number; its place and note stay
abbrev pub renamed_binder : Renaming → Binder → Binder
renamed_binder r b = record { sym = record { 0 = r b.sym.0 }; place = b.place; note = b.note; note_place = b.note_place }

abbrev pub renamed_leaf : Renaming → Leaf → Leaf
renamed_leaf r (int k x) = int k x
renamed_leaf r (truth b) = truth b
renamed_leaf r (chars bs) = chars bs
renamed_leaf r (name s) = name (r s)
renamed_leaf r (fresh b) = fresh b

abbrev mutual
  -- the expression with each name and binder under its new number, and nothing else changed
  pub renamed : Renaming → ExprTree → ExprTree
  renamed r (leaf a l) = leaf a (renamed_leaf r l)
  renamed r (one a o e) = one a o (renamed r e)
  renamed r (two a o e f) = two a o (renamed r e) (renamed r f)
  renamed r (three a o c e f) = three a o (renamed r c) (renamed r e) (renamed r f)
  renamed r (many a o es) = many a o (all_renamed r es)
  renamed r (let_in a b e f) = let_in a (renamed_binder r b) (renamed r e) (renamed r f)
  renamed r (loop a ls e b n x f) =
      loop a (legs_renamed r ls) (renamed r e) (renamed_binder r b) (renamed_binder r n) (renamed_binder r x) (renamed r f)
  renamed r (iterate a e b f) = iterate a (renamed r e) (renamed_binder r b) (renamed r f)

  pub all_renamed : Renaming → ExprTrees → ExprTrees
  all_renamed r no_exprs = no_exprs
  all_renamed r (more_exprs e es) = more_exprs (renamed r e) (all_renamed r es)

  pub leg_renamed : Renaming → LegTree → LegTree
  leg_renamed r (whole e) = whole (renamed r e)
  leg_renamed r (strided e f h i) = strided (renamed r e) (renamed r f) (renamed r h) (renamed r i)

  pub legs_renamed : Renaming → LegTrees → LegTrees
  legs_renamed r no_legs = no_legs
  legs_renamed r (more_legs l ls) = more_legs (leg_renamed r l) (legs_renamed r ls)

-- no other number becomes what this one does, so that a binder of it neither catches nor loses a name. Numbers that no
-- binder in the expression has may fall together
pub record IsAlone (r : Renaming) (b : ℕ) : Type 0 where
  pub alone : (s : ℕ) → r s ≡ r b → s ≡ b

-- what a number stands for in the first, its new number stands for in the second
pub record HaveMoved {A : Type 0} (r : Renaming) (g h : Named A) : Type 0 where
  pub same : (s : ℕ) → look_for (r s) h ≡ look_for s g

-- both maps give each of these numbers the same
pub record AgreeAt (first second : Renaming) (s : ℕ) : Type 0 where
  pub agree : first s ≡ second s

-- each number of the first scope has its new number in the second
pub record ScopeMoves (r : Renaming) (scope later : List ℕ) : Type 0 where
  pub there : (s : ℕ) → IsOneOf scope s → IsOneOf later (r s)

-- both maps give each number in scope the same
pub record ScopeAgrees (first second : Renaming) (scope : List ℕ) : Type 0 where
  pub agree : (s : ℕ) → IsOneOf scope s → first s ≡ second s
