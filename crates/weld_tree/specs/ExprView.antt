-- The program's expressions seen as plain data.
use Rattle.weld_tree.specs.TypeView.{view_build}
use Rattle.weld_tree.specs.ExprTree.{ExprTree, At, leaf, one, two, three, many, let_in, loop, iterate, LegTree, whole, strided, pack_exprs, pack_legs, Leaf, int, truth, chars, name, fresh, One, neg, not, cast, len, field, finish, started, Two, binary, and, or, look_up, key_exists, merge, Three, if_else, select, slice, Many, make_vec, make_struct}
use Rattle.weld_tree.specs.declared.expr.Form.{Form}
use Rattle.weld_tree.specs.declared.expr.Form.TheVariants as form
use Rattle.weld_tree.specs.declared.expr.LeafForm.{LeafForm}
use Rattle.weld_tree.specs.declared.expr.LeafForm.TheVariants as leaf_form
use Rattle.weld_tree.specs.declared.expr.OneForm.{OneForm}
use Rattle.weld_tree.specs.declared.expr.OneForm.TheVariants as one_form
use Rattle.weld_tree.specs.declared.expr.TwoForm.{TwoForm}
use Rattle.weld_tree.specs.declared.expr.TwoForm.TheVariants as two_form
use Rattle.weld_tree.specs.declared.expr.ThreeForm.{ThreeForm}
use Rattle.weld_tree.specs.declared.expr.ThreeForm.TheVariants as three_form
use Rattle.weld_tree.specs.declared.expr.ManyForm.{ManyForm}
use Rattle.weld_tree.specs.declared.expr.ManyForm.TheVariants as many_form
use Rattle.weld_tree.specs.declared.expr.Leg.{Leg}
use Rattle.weld_tree.specs.declared.expr.Leg.TheVariants.{Whole, Strided}

-- a leg as plain data
abbrev pub view_leg : Leg → LegTree
view_leg (Whole e) = whole e.value
view_leg (Strided e f g h) = strided e.value f.value g.value h.value

-- the forms as plain data, by their number of parts

abbrev pub view_leaf : LeafForm → Leaf
view_leaf (leaf_form.Int k x) = int k x
view_leaf (leaf_form.Truth b) = truth b
view_leaf (leaf_form.Chars bs) = chars bs
view_leaf (leaf_form.Name s) = name s.0
view_leaf (leaf_form.Builder b) = fresh (view_build b)

abbrev pub view_one : OneForm → One
view_one one_form.Neg = neg
view_one one_form.Not = not
view_one (one_form.Cast k) = cast k
view_one one_form.Len = len
view_one (one_form.Field n) = field n
view_one one_form.Finish = finish
view_one (one_form.Builder b) = started (view_build b)

abbrev pub view_two : TwoForm → Two
view_two (two_form.Binary op) = binary op
view_two two_form.And = and
view_two two_form.Or = or
view_two two_form.LookUp = look_up
view_two two_form.KeyExists = key_exists
view_two two_form.Merge = merge

abbrev pub view_three : ThreeForm → Three
view_three three_form.If = if_else
view_three three_form.Select = select
view_three three_form.Slice = slice

abbrev pub view_many : ManyForm → Many
view_many many_form.Vec = make_vec
view_many many_form.Struct = make_struct

-- an expression as plain data, by its form and by what stands at its node
abbrev pub view_form : Form → At → ExprTree
view_form (form.Leaf l) at = leaf at (view_leaf l)
view_form (form.One o e) at = one at (view_one o) e.value
view_form (form.Two t e f) at = two at (view_two t) e.value f.value
view_form (form.Three t e f g) at = three at (view_three t) e.value f.value g.value
view_form (form.Many m es) at = many at (view_many m) (pack_exprs es)
view_form (form.Let b e f) at = let_in at b e.value f.value
view_form (form.For ls e b n x f) at = loop at (pack_legs ls) e.value b.value n.value x.value f.value
view_form (form.Iterate e b f) at = iterate at e.value b f.value
