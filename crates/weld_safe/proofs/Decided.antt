-- The test tells where an expression is safe.
use Rattle.std.proofs.Common.{◌≡◌, ◌≤◌, Bool, true, false, ◌&&◌, List, [], ◌∷◌, length, map, refl, arith}
use Rattle.std.specs.Prelude.{Decides}
use Rattle.std.proofs.lemmas.Bool.Decides.{Decides-and, Decides-like, Decides-at}
use Rattle.weld_data.specs.declared.op.BinOp.{BinOp}
use Rattle.weld_data.specs.declared.op.BinOp.TheVariants as op
use Rattle.weld_tree.specs.ExprView.{view_leg}
use Rattle.weld_tree.specs.declared.expr.Leg.{Leg}
use Rattle.weld_tree.specs.declared.known.Known.{Known}
use Rattle.weld_tree.specs.declared.known.Known.TheVariants.{Blank, Is}
use Rattle.weld_tree.specs.TypeTree.{TypeTree, BuildTree, scalar, vec, struct, dict, build, list, total, keyed, cells, groups}
use Rattle.weld_tree.specs.ExprTree.{ExprTree, leaf, one, two, three, many, let_in, loop, iterate, ExprTrees, no_exprs, more_exprs, LegTrees, no_legs, more_legs, LegTree, whole, strided, pack_legs, Two, binary, and, or, look_up, key_exists, merge, Three, if_else, select, slice}
use Rattle.weld_safe.specs.Safe.{OperatorIsSafe, BuilderIsSafe, MergesSafely, NoteIsSafe, TwoIsSafe, ThreeIsSafe, IsSafe, AllAreSafe, LegIsSafe, IsOneSafeLeg, IsLastLeg}
use Rattle.weld_safe.specs.Test.{operator_safe, builder_safe, merges_safely, note_safe, two_safe, three_safe, is_safe, all_safe, leg_safe, one_leg_safe, last_leg}

never : Decides false ⊥
never = ((λ e. let differ : ⊥ = cc in differ), λ p. absurd p)

always : Decides true (Unit {0})
always = ((λ e. tt), λ q. refl)

three_and : {P Q R : Type 0} (x y z : Bool) → Decides x P → Decides y Q → Decides z R → Decides (x && (y && z)) (P × Q × R)
three_and x y z a b c =
    Decides-like (x && (y && z)) (λ h. (h.0, h.1.0, h.1.1)) (λ h. (h.0, (h.1, h.2))) (Decides-and x (y && z) a (Decides-and y z b c))

four_and : {P Q R S : Type 0} (x y z w : Bool) → Decides x P → Decides y Q → Decides z R → Decides w S → Decides (x && (y && (z && w))) (P × Q × R × S)
four_and x y z w a b c d =
    Decides-like (x && (y && (z && w))) (λ h. (h.0, h.1.0, h.1.1, h.1.2)) (λ h. (h.0, (h.1, h.2, h.3))) (Decides-and x (y && (z && w)) a (three_and y z w b c d))

operator_decides : (o : BinOp) → Decides (operator_safe o) (OperatorIsSafe o)
operator_decides op.Add = always
operator_decides op.Sub = always
operator_decides op.Mul = always
operator_decides op.Div = never
operator_decides op.Rem = never
operator_decides op.Eq = always
operator_decides op.Ne = always
operator_decides op.Lt = always
operator_decides op.Le = always
operator_decides op.Gt = always
operator_decides op.Ge = always

builder_decides : (b : BuildTree) → Decides (builder_safe b) (BuilderIsSafe b)
builder_decides (list t) = always
builder_decides (total t op) = always
builder_decides (keyed k v op) = always
builder_decides (cells t op) = never
builder_decides (groups k v) = always

merges_decides : (t : TypeTree) → Decides (merges_safely t) (MergesSafely t)
merges_decides (scalar k) = never
merges_decides (vec t) = never
merges_decides (struct ts) = never
merges_decides (dict k v) = never
merges_decides (build b) = builder_decides b

note_decides : (k : Known) → Decides (note_safe k) (NoteIsSafe k)
note_decides Blank = never
note_decides (Is t) = merges_decides t

two_decides : (k : Known) (o : Two) → Decides (two_safe k o) (TwoIsSafe k o)
two_decides k (binary o) = operator_decides o
two_decides k and = always
two_decides k or = always
two_decides k look_up = never
two_decides k key_exists = always
two_decides k merge = note_decides k

three_decides : (o : Three) → Decides (three_safe o) (ThreeIsSafe o)
three_decides if_else = always
three_decides select = always
three_decides slice = never

mutual
  safe_decides : (e : ExprTree) → Decides (is_safe e) (IsSafe e)
  safe_decides (leaf a l) = always
  safe_decides (one a o e) = safe_decides e
  safe_decides (two a o e f) = three_and (two_safe a.ty o) (is_safe e) (is_safe f) (two_decides a.ty o) (safe_decides e) (safe_decides f)
  safe_decides (three a o c e f) =
      four_and (three_safe o) (is_safe c) (is_safe e) (is_safe f) (three_decides o) (safe_decides c) (safe_decides e) (safe_decides f)
  safe_decides (many a o es) = all_decides es
  safe_decides (let_in a b e f) = Decides-and (is_safe e) (is_safe f) (safe_decides e) (safe_decides f)
  safe_decides (loop a ls e b n x f) = three_and (one_leg_safe ls) (is_safe e) (is_safe f) (legs_decide ls) (safe_decides e) (safe_decides f)
  safe_decides (iterate a e b f) = never

  all_decides : (es : ExprTrees) → Decides (all_safe es) (AllAreSafe es)
  all_decides no_exprs = always
  all_decides (more_exprs e es) = Decides-and (is_safe e) (all_safe es) (safe_decides e) (all_decides es)

  leg_decides : (l : LegTree) → Decides (leg_safe l) (LegIsSafe l)
  leg_decides (whole e) = safe_decides e
  leg_decides (strided e f h k) = never

  legs_decide : (ls : LegTrees) → Decides (one_leg_safe ls) (IsOneSafeLeg ls)
  legs_decide no_legs = never
  legs_decide (more_legs l ls) = Decides-and (leg_safe l) (last_leg ls) (leg_decides l) (last_decides ls)

  last_decides : (ls : LegTrees) → Decides (last_leg ls) (IsLastLeg ls)
  last_decides no_legs = always
  last_decides (more_legs l ls) = never

pub safe_at_test : (r : Bool) (e : ExprTree) → r ≡ is_safe e → Decides r (IsSafe e)
safe_at_test r e same = Decides-at r (is_safe e) same (safe_decides e)

-- of two legs or more none is the only one
pub zips : (legs : List Leg) → 2 ≤ length legs → false ≡ one_leg_safe (pack_legs (map view_leg legs))
zips [] h = absurd (omega (arith, h))
zips (l ∷ []) h = absurd (omega (arith, h))
zips (l ∷ m ∷ ls) h = by (leg_safe (view_leg l))
  where
    by : (b : Bool) → false ≡ (b && false)
    by true = refl
    by false = refl
