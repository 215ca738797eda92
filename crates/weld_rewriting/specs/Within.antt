-- What of an expression is counted: an expression that binds, names and holds nothing that another doesn't.
use Rattle.std.specs.Prelude.{ℕ, ◌+◌, ◌==◌, if◌then◌else◌, ◌≤◌, List, [], ◌∷◌, length}
use Rattle.weld_tree.specs.ExprTree.{ExprTree, leaf, one, two, three, many, let_in, loop, iterate, ExprTrees, no_exprs, more_exprs, LegTree, whole, strided, LegTrees, no_legs, more_legs}
use Rattle.weld_tree.specs.Program.{loops, bound, IsWellMade}
use Rattle.weld_meaning.specs.Names.{IsFree}
use Rattle.weld_print.specs.Spellable.{IsSpellable}

-- how often the number stands in the list
abbrev pub times : List ℕ → ℕ → ℕ
times [] s = 0
times (t ∷ ts) s = (if s == t then 1 else 0) + times ts s

abbrev mutual
  -- how many legs the loops in an expression have in all
  pub legs : ExprTree → ℕ
  legs (leaf a l) = 0
  legs (one a o e) = legs e
  legs (two a o e f) = legs e + legs f
  legs (three a o e f g) = legs e + legs f + legs g
  legs (many a o es) = legs_in es
  legs (let_in a b e f) = legs e + legs f
  legs (loop a ls e b n x f) = legs_among ls + legs e + legs f
  legs (iterate a e b f) = legs e + legs f

  pub legs_in : ExprTrees → ℕ
  legs_in no_exprs = 0
  legs_in (more_exprs e es) = legs e + legs_in es

  pub legs_within : LegTree → ℕ
  legs_within (whole e) = legs e
  legs_within (strided e f g h) = legs e + legs f + legs g + legs h

  -- these, and those within them
  pub legs_among : LegTrees → ℕ
  legs_among no_legs = 0
  legs_among (more_legs l ls) = 1 + (legs_within l + legs_among ls)

-- the first binds no number more often than the second, and none but names free in the second are free in it; it has no more
-- loops, legs and binders; and it is well made and spellable where the second is
pub record StaysWithin (d e : ExprTree) : Type 0 where
  pub binds : (s : ℕ) → times (bound d) s ≤ times (bound e) s
  pub names : (s : ℕ) → IsFree d s → IsFree e s
  pub no_more_loops : loops d ≤ loops e
  pub no_more_legs : legs d ≤ legs e
  pub no_more_binders : length (bound d) ≤ length (bound e)
  pub well_made : IsWellMade e → IsWellMade d
  pub spellable : IsSpellable e → IsSpellable d
