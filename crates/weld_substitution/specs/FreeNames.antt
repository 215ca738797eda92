-- The names that occur free in an expression, in the order of the text.
use Rattle.std.specs.Prelude.{ℕ, ◌==◌, if◌then◌else◌, Bool, false, ◌||◌, List, [], ◌∷◌, ◌++◌}
use Rattle.weld_tree.specs.ExprTree.{ExprTree, leaf, one, two, three, many, let_in, loop, iterate, ExprTrees, no_exprs, more_exprs, LegTree, whole, strided, LegTrees, no_legs, more_legs, Leaf, int, truth, chars, name, fresh}

abbrev pub is_among : List ℕ → ℕ → Bool
is_among [] s = false
is_among (t ∷ ts) s = (s == t) || is_among ts s

-- the numbers without those that are bound
abbrev pub without : List ℕ → List ℕ → List ℕ
without bound [] = []
without bound (s ∷ ss) = if is_among bound s then without bound ss else s ∷ without bound ss

abbrev pub leaf_free_uses : Leaf → List ℕ
leaf_free_uses (int k x) = []
leaf_free_uses (truth b) = []
leaf_free_uses (chars bs) = []
leaf_free_uses (name s) = s ∷ []
leaf_free_uses (fresh b) = []

abbrev mutual
  -- the uses of names that no binder within the expression binds, in the order of the text: a `let` binds in its body, a
  -- lambda in its body
  pub free_uses : ExprTree → List ℕ
  free_uses (leaf a l) = leaf_free_uses l
  free_uses (one a o e) = free_uses e
  free_uses (two a o e f) = free_uses e ++ free_uses f
  free_uses (three a o c e f) = free_uses c ++ (free_uses e ++ free_uses f)
  free_uses (many a o es) = free_uses_in es
  free_uses (let_in a b e f) = free_uses e ++ without (b.sym.0 ∷ []) (free_uses f)
  free_uses (loop a ls e b n x f) = free_uses_in_legs ls ++ (free_uses e ++ without (x.sym.0 ∷ n.sym.0 ∷ b.sym.0 ∷ []) (free_uses f))
  free_uses (iterate a e b f) = free_uses e ++ without (b.sym.0 ∷ []) (free_uses f)

  pub free_uses_in : ExprTrees → List ℕ
  free_uses_in no_exprs = []
  free_uses_in (more_exprs e es) = free_uses e ++ free_uses_in es

  pub free_uses_in_leg : LegTree → List ℕ
  free_uses_in_leg (whole e) = free_uses e
  free_uses_in_leg (strided e f h i) = free_uses e ++ (free_uses f ++ (free_uses h ++ free_uses i))

  pub free_uses_in_legs : LegTrees → List ℕ
  free_uses_in_legs no_legs = []
  free_uses_in_legs (more_legs l ls) = free_uses_in_leg l ++ free_uses_in_legs ls

-- a number behind those that are there, if it isn't there yet
abbrev pub noted_once : List ℕ → ℕ → List ℕ
noted_once there s = if is_among there s then there else there ++ s ∷ []

-- numbers one after another, each where it isn't there yet
abbrev pub all_noted_once : List ℕ → List ℕ → List ℕ
all_noted_once there [] = there
all_noted_once there (s ∷ ss) = all_noted_once (noted_once there s) ss

-- each number once, where it stands first
abbrev pub each_once : List ℕ → List ℕ
each_once ss = all_noted_once [] ss
