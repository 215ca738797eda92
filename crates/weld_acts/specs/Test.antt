-- Whether each loop of an expression acts on its own builder, as a test.
use Rattle.std.specs.Prelude.{ℕ, zero, suc, ◌==◌, Bool, true, false, not, ◌&&◌, ◌||◌, [], ◌∷◌}
use Rattle.weld_tree.specs.declared.binder.Binder.{Binder}
use Rattle.weld_tree.specs.ExprTree.{ExprTree, leaf, one, two, three, many, let_in, loop, iterate, ExprTrees, no_exprs, more_exprs, LegTree, whole, strided, LegTrees, no_legs, more_legs, Leaf, int, truth, chars, name, fresh, One, neg, not as not_of, cast, len, field, finish, started, Two, binary, and, or, look_up, key_exists, merge, Three, if_else, select, slice, Many, make_vec, make_struct}
use Rattle.weld_meaning.specs.Origin.{Path}

abbrev pub leaf_uses : Leaf → ℕ → Bool
leaf_uses (int k x) s = false
leaf_uses (truth b) s = false
leaf_uses (chars bs) s = false
leaf_uses (name t) s = s == t
leaf_uses (fresh b) s = false

abbrev mutual
  -- whether the name is free in it
  pub uses : ExprTree → ℕ → Bool
  uses (leaf a l) s = leaf_uses l s
  uses (one a o e) s = uses e s
  uses (two a o e f) s = uses e s || uses f s
  uses (three a o c e f) s = uses c s || (uses e s || uses f s)
  uses (many a o es) s = some_use es s
  uses (let_in a b e f) s = uses e s || (uses f s && not (s == b.sym.0))
  uses (loop a ls e b n x f) s = legs_use ls s || (uses e s || (uses f s && (not (s == x.sym.0) && (not (s == n.sym.0) && not (s == b.sym.0)))))
  uses (iterate a e b f) s = uses e s || (uses f s && not (s == b.sym.0))

  pub some_use : ExprTrees → ℕ → Bool
  some_use no_exprs s = false
  some_use (more_exprs e es) s = uses e s || some_use es s

  pub leg_uses : LegTree → ℕ → Bool
  leg_uses (whole e) s = uses e s
  leg_uses (strided e f g h) s = uses e s || (uses f s || (uses g s || uses h s))

  pub legs_use : LegTrees → ℕ → Bool
  legs_use no_legs s = false
  legs_use (more_legs l ls) s = leg_uses l s || legs_use ls s

-- the leaf is the name, and the path has no fields
abbrev pub leaf_follows : Leaf → ℕ → Path → Bool
leaf_follows (int k x) b p = false
leaf_follows (truth t) b p = false
leaf_follows (chars bs) b p = false
leaf_follows (name s) b [] = s == b
leaf_follows (name s) b (n ∷ p) = false
leaf_follows (fresh t) b p = false

abbrev pub is_field : One → ℕ → Bool
is_field neg n = false
is_field not_of n = false
is_field (cast k) n = false
is_field len n = false
is_field (field m) n = m == n
is_field finish n = false
is_field (started b) n = false

-- whether it is the name with the field accesses of the path
abbrev pub follows : ExprTree → ℕ → Path → Bool
follows (leaf a l) b p = leaf_follows l b p
follows (one a o e) b [] = false
follows (one a o e) b (n ∷ p) = is_field o n && follows e b p
follows (two a o e f) b p = false
follows (three a o c e f) b p = false
follows (many a o es) b p = false
follows (let_in a y e f) b p = false
follows (loop a ls e c n x f) b p = false
follows (iterate a e y f) b p = false

abbrev pub is_merge : Two → Bool
is_merge (binary op) = false
is_merge and = false
is_merge or = false
is_merge look_up = false
is_merge key_exists = false
is_merge merge = true

abbrev pub is_choice : Three → Bool
is_choice if_else = true
is_choice select = false
is_choice slice = false

abbrev pub is_struct : Many → Bool
is_struct make_vec = false
is_struct make_struct = true

abbrev mutual
  -- whether it acts on the path of the name
  pub acts : ExprTree → ℕ → Path → Bool
  acts (leaf a l) b p = leaf_follows l b p
  acts (one a o e) b p = follows (one a o e) b p
  acts (two a o e v) b p = is_merge o && (acts e b p && not (uses v b))
  acts (three a o c e f) b p = is_choice o && (not (uses c b) && (acts e b p && acts f b p))
  acts (many a o es) b p = is_struct o && all_act es b p zero
  acts (let_in a y v e) b p = not (uses v b) && (not (y.sym.0 == b) && acts e b p)
  acts (loop a ls e c n x f) b p =
      not (legs_use ls b) && (acts e b p && (not (uses f b) && (not (c.sym.0 == n.sym.0) && (not (c.sym.0 == x.sym.0) && acts f c.sym.0 []))))
  acts (iterate a e y f) b p = false

  pub all_act : ExprTrees → ℕ → Path → ℕ → Bool
  all_act no_exprs b p n = true
  all_act (more_exprs e es) b p n = acts e b (n ∷ p) && all_act es b p (suc n)

-- whether the body of a loop acts on the loop's own builder
abbrev pub acts_own : Binder → Binder → Binder → ExprTree → Bool
acts_own c n x f = not (c.sym.0 == n.sym.0) && (not (c.sym.0 == x.sym.0) && acts f c.sym.0 [])

abbrev mutual
  -- whether each loop within does
  pub are_direct : ExprTree → Bool
  are_direct (leaf a l) = true
  are_direct (one a o e) = are_direct e
  are_direct (two a o e f) = are_direct e && are_direct f
  are_direct (three a o c e f) = are_direct c && (are_direct e && are_direct f)
  are_direct (many a o es) = all_direct es
  are_direct (let_in a b e f) = are_direct e && are_direct f
  are_direct (loop a ls e b n x f) = legs_direct ls && (are_direct e && (are_direct f && acts_own b n x f))
  are_direct (iterate a e b f) = are_direct e && are_direct f

  pub all_direct : ExprTrees → Bool
  all_direct no_exprs = true
  all_direct (more_exprs e es) = are_direct e && all_direct es

  pub leg_direct : LegTree → Bool
  leg_direct (whole e) = are_direct e
  leg_direct (strided e f g h) = are_direct e && (are_direct f && (are_direct g && are_direct h))

  pub legs_direct : LegTrees → Bool
  legs_direct no_legs = true
  legs_direct (more_legs l ls) = leg_direct l && legs_direct ls
