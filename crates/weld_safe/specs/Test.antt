-- Whether an expression is safe, as a test.
use Rattle.std.specs.Prelude.{Bool, true, false, ◌&&◌}
use Rattle.weld_data.specs.declared.op.BinOp.{BinOp}
use Rattle.weld_data.specs.declared.op.BinOp.TheVariants as op
use Rattle.weld_tree.specs.declared.known.Known.{Known}
use Rattle.weld_tree.specs.declared.known.Known.TheVariants.{Blank, Is}
use Rattle.weld_tree.specs.TypeTree.{TypeTree, BuildTree, scalar, vec, struct, dict, build, list, total, keyed, cells, groups}
use Rattle.weld_tree.specs.ExprTree.{ExprTree, leaf, one, two, three, many, let_in, loop, iterate, ExprTrees, no_exprs, more_exprs, LegTrees, no_legs, more_legs, LegTree, whole, strided, Two, binary, and, or, look_up, key_exists, merge, Three, if_else, select, slice}

abbrev pub operator_safe : BinOp → Bool
operator_safe op.Div = false
operator_safe op.Rem = false
operator_safe _ = true

abbrev pub builder_safe : BuildTree → Bool
builder_safe (list t) = true
builder_safe (total t op) = true
builder_safe (keyed k v op) = true
builder_safe (cells t op) = false
builder_safe (groups k v) = true

abbrev pub merges_safely : TypeTree → Bool
merges_safely (scalar k) = false
merges_safely (vec t) = false
merges_safely (struct ts) = false
merges_safely (dict k v) = false
merges_safely (build b) = builder_safe b

abbrev pub note_safe : Known → Bool
note_safe Blank = false
note_safe (Is t) = merges_safely t

abbrev pub two_safe : Known → Two → Bool
two_safe known (binary op) = operator_safe op
two_safe known and = true
two_safe known or = true
two_safe known look_up = false
two_safe known key_exists = true
two_safe known merge = note_safe known

abbrev pub three_safe : Three → Bool
three_safe if_else = true
three_safe select = true
three_safe slice = false

abbrev mutual
  pub is_safe : ExprTree → Bool
  is_safe (leaf a l) = true
  is_safe (one a o e) = is_safe e
  is_safe (two a o e f) = two_safe a.ty o && (is_safe e && is_safe f)
  is_safe (three a o c e f) = three_safe o && (is_safe c && (is_safe e && is_safe f))
  is_safe (many a o es) = all_safe es
  is_safe (let_in a b e f) = is_safe e && is_safe f
  is_safe (loop a ls e b n x f) = one_leg_safe ls && (is_safe e && is_safe f)
  is_safe (iterate a e b f) = false

  pub all_safe : ExprTrees → Bool
  all_safe no_exprs = true
  all_safe (more_exprs e es) = is_safe e && all_safe es

  pub leg_safe : LegTree → Bool
  leg_safe (whole e) = is_safe e
  leg_safe (strided e f h i) = false

  pub one_leg_safe : LegTrees → Bool
  one_leg_safe no_legs = false
  one_leg_safe (more_legs l ls) = leg_safe l && last_leg ls

  pub last_leg : LegTrees → Bool
  last_leg no_legs = true
  last_leg (more_legs l ls) = false
