-- The same up to places, noted types and binder numbers.
use Rattle.std.specs.Prelude.{◌≡◌, ℕ, suc, ◌==◌, if◌then◌else◌, List, [], ◌∷◌, map}
use Rattle.weld_tree.specs.declared.place.Place.{Place}
use Rattle.weld_tree.specs.declared.binder.Binder.{Binder}
use Rattle.weld_tree.specs.declared.known.Known.TheVariants.{Blank}
use Rattle.weld_tree.specs.ExprTree.{At, ExprTree, leaf, one, two, three, many, let_in, loop, iterate, ExprTrees, no_exprs, more_exprs, LegTree, whole, strided, LegTrees, no_legs, more_legs, Leaf, int, truth, chars, name, fresh}
use Rattle.weld_tree.specs.Program.{ProgramTree, syms_of}

abbrev pub blank_place : Place
blank_place = record { line = 0; column = 0 }

-- no place, and nothing noted
abbrev pub blank_at : At
blank_at = record { place = blank_place; ty = Blank }

-- a binder without its number and place
abbrev pub blank_binder : Binder → Binder
blank_binder b = record { sym = record { 0 = 0 }; place = blank_place; note = b.note; note_place = blank_place }

-- a name by the number of binders in scope between it and its own; a name that none binds stays
-- apart from those by its own number
abbrev pub distance : List ℕ → ℕ → ℕ
distance [] s = s
distance (t ∷ ts) s = if t == s then 0 else suc (distance ts s)

abbrev pub bare_leaf : Leaf → List ℕ → Leaf
bare_leaf (int k x) scope = int k x
bare_leaf (truth b) scope = truth b
bare_leaf (chars bs) scope = chars bs
bare_leaf (name s) scope = name (distance scope s)
bare_leaf (fresh b) scope = fresh b

-- an expression without places, noted types and binder numbers, in a scope whose newest name stands
-- first: each name says how far away its binder is
abbrev mutual
  pub bare : ExprTree → List ℕ → ExprTree
  bare (leaf a l) scope = leaf blank_at (bare_leaf l scope)
  bare (one a o e) scope = one blank_at o (bare e scope)
  bare (two a t e f) scope = two blank_at t (bare e scope) (bare f scope)
  bare (three a t e f g) scope = three blank_at t (bare e scope) (bare f scope) (bare g scope)
  bare (many a m es) scope = many blank_at m (bare_all es scope)
  bare (let_in a b e f) scope = let_in blank_at (blank_binder b) (bare e scope) (bare f (b.sym.0 ∷ scope))
  bare (loop a ls e b n x f) scope =
      loop blank_at (bare_legs ls scope) (bare e scope) (blank_binder b) (blank_binder n) (blank_binder x)
      (bare f (x.sym.0 ∷ n.sym.0 ∷ b.sym.0 ∷ scope))
  bare (iterate a e b f) scope = iterate blank_at (bare e scope) (blank_binder b) (bare f (b.sym.0 ∷ scope))

  pub bare_all : ExprTrees → List ℕ → ExprTrees
  bare_all no_exprs scope = no_exprs
  bare_all (more_exprs e es) scope = more_exprs (bare e scope) (bare_all es scope)

  pub bare_leg : LegTree → List ℕ → LegTree
  bare_leg (whole e) scope = whole (bare e scope)
  bare_leg (strided e f g h) scope = strided (bare e scope) (bare f scope) (bare g scope) (bare h scope)

  pub bare_legs : LegTrees → List ℕ → LegTrees
  bare_legs no_legs scope = no_legs
  bare_legs (more_legs l ls) scope = more_legs (bare_leg l scope) (bare_legs ls scope)

-- a program without places, noted types and binder numbers
abbrev pub bare_program : ProgramTree → ProgramTree
bare_program p = record { params = map blank_binder p.params; body = bare p.body (syms_of p.params) }

-- two programs are the same up to places, noted types and binder numbers
abbrev pub AreSame : ProgramTree → ProgramTree → Type 0
AreSame p q = bare_program p ≡ bare_program q
