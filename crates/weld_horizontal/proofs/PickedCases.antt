-- Small fields, by which the definitions are checked: which may go, and what takes their place.
use Rattle.std.proofs.Common.{◌≡◌, ℕ, pos, true, false, refl}
use Rattle.weld_data.specs.declared.kind.Kind.TheVariants.{I64}
use Rattle.weld_data.specs.declared.op.BinOp.TheVariants as ops
use Rattle.weld_tree.specs.declared.known.Known.TheVariants.{Blank}
use Rattle.weld_tree.specs.declared.place.Place.{Place}
use Rattle.weld_tree.specs.ExprTree.{At, ExprTree, leaf, one, two, many, ExprTrees, no_exprs, more_exprs, int, name, field, len, binary, make_vec, make_struct}
use Rattle.weld_horizontal.specs.Picked.{is_pick, picked}

abbrev place : Place
place = record { line = 0; column = 0 }

abbrev node : At
node = record { place = place; ty = Blank }

abbrev x : ExprTree
x = leaf node (name 5)

abbrev field_of : ℕ → ExprTree → ExprTree
field_of n e = one node (field n) e

abbrev seven : ExprTree
seven = leaf node (int I64 (pos 7))

abbrev both : ExprTree → ExprTree → ExprTrees
both e f = more_exprs e (more_exprs f no_exprs)

abbrev pair : ExprTree → ExprTree → ExprTree
pair e f = many node make_struct (both e f)

abbrev quotient : ExprTree
quotient = two node (binary ops.Div) x seven

a_field_of_a_pair : is_pick (field_of 1 (pair seven (field_of 3 x))) ≡ true
a_field_of_a_pair = refl

its_item : picked (field_of 1 (pair seven (field_of 3 x))) ≡ field_of 3 x
its_item = refl

the_first : picked (field_of 0 (pair seven (field_of 3 x))) ≡ seven
the_first = refl

no_such_field_stays : is_pick (field_of 2 (pair seven x)) ≡ false
no_such_field_stays = refl

beside_a_quotient_it_stays : is_pick (field_of 1 (pair quotient x)) ≡ false
beside_a_quotient_it_stays = refl

a_quotient_stays : is_pick (field_of 0 (pair quotient x)) ≡ false
a_quotient_stays = refl

of_a_name_it_stays : is_pick (field_of 1 x) ≡ false
of_a_name_it_stays = refl

a_length_stays : is_pick (one node len (many node make_vec (both x x))) ≡ false
a_length_stays = refl

of_a_vector_it_stays : is_pick (field_of 1 (many node make_vec (both x x))) ≡ false
of_a_vector_it_stays = refl
