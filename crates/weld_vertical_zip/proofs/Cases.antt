-- Small loops over a `zip`, by which the definitions are checked: of which a leg is made by another loop, which stay, and what takes
-- their place.
use Rattle.std.proofs.Common.{◌≡◌, ℕ, true, false, None, refl}
use Rattle.weld_data.specs.declared.kind.Kind.TheVariants.{I64}
use Rattle.weld_tree.specs.declared.binder.Binder.{Binder}
use Rattle.weld_tree.specs.declared.known.Known.TheVariants.{Blank}
use Rattle.weld_tree.specs.declared.place.Place.{Place}
use Rattle.weld_tree.specs.TypeTree.{TypeTree, scalar, vec, struct, list, no_types, more_types}
use Rattle.weld_tree.specs.ExprTree.{At, ExprTree, leaf, one, two, three, many, let_in, loop, no_exprs, more_exprs, LegTree, whole, strided, LegTrees, no_legs, more_legs, name, fresh, field, finish, merge, if_else, make_struct}
use Rattle.weld_horizontal.specs.Twice.{node_of}
use Rattle.weld_vertical_zip.specs.Zipping.{is_zipped, unzipped}

abbrev place : Place
place = record { line = 0; column = 0 }

abbrev node : At
node = record { place = place; ty = Blank }

abbrev number : TypeTree
number = scalar I64

abbrev use_of : ℕ → ExprTree
use_of s = leaf node (name s)

abbrev over : ℕ → LegTree
over s = whole (leaf (node_of place (vec number)) (name s))

abbrev binder : ℕ → Binder
binder s = record { sym = record { 0 = s }; place = place; note = None; note_place = place }

abbrev merges : ℕ → ExprTree → ExprTree
merges s v = two node merge (use_of s) v

abbrev row_field : ℕ → ExprTree → ExprTree
row_field n e = one node (field n) e

-- `result(for(.., vecbuilder[i64], |b2,i3,x4| body))`
abbrev makes : LegTrees → ExprTree → LegTree
makes ls body = whole (one node finish (loop node ls (leaf node (fresh (list number))) (binder 2) (binder 3) (binder 4) body))

abbrev only : LegTree → LegTrees
only l = more_legs l no_legs

-- `for(.., b6, |c7,j8,y9| merge(c7, y9.$0))`
abbrev consumer : LegTrees → ExprTree
consumer ls = loop node ls (use_of 6) (binder 7) (binder 8) (binder 9) (merges 7 (row_field 0 (use_of 9)))

-- ---- which are

the_first_leg : is_zipped (consumer (more_legs (makes (only (over 1)) (merges 2 (use_of 4))) (only (over 5)))) ≡ true
the_first_leg = refl

the_last_leg : is_zipped (consumer (more_legs (over 5) (only (makes (only (over 1)) (merges 2 (use_of 4)))))) ≡ true
the_last_leg = refl

behind_a_let : is_zipped (consumer (more_legs (over 5) (only (makes (only (over 1)) (let_in node (binder 10) (use_of 4) (merges 2 (use_of 10))))))) ≡ true
behind_a_let = refl

beside_a_part_of_a_vector : is_zipped (consumer (more_legs (strided (use_of 5) (use_of 11) (use_of 12) (use_of 13)) (only (makes (only (over 1)) (merges 2 (use_of 4)))))) ≡ true
beside_a_part_of_a_vector = refl

the_only_leg_stays : is_zipped (consumer (only (makes (only (over 1)) (merges 2 (use_of 4))))) ≡ false
the_only_leg_stays = refl

a_filter_stays : is_zipped (consumer (more_legs (makes (only (over 1)) (three node if_else (use_of 10) (merges 2 (use_of 4)) (use_of 2))) (only (over 5)))) ≡ false
a_filter_stays = refl

names_stay : is_zipped (consumer (more_legs (over 1) (only (over 5)))) ≡ false
names_stay = refl

-- ---- what takes their place

abbrev pair : TypeTree
pair = struct (more_types number (more_types number no_types))

abbrev triple : TypeTree
triple = struct (more_types number (more_types number (more_types number no_types)))

-- a field of the row x4 over two legs, or three
abbrev of_two : ℕ → ExprTree
of_two n = one (node_of place number) (field n) (leaf (node_of place pair) (name 4))

abbrev of_three : ℕ → ExprTree
of_three n = one (node_of place number) (field n) (leaf (node_of place triple) (name 4))

-- `let j8 = i3; let y9 = row; merge(c7, y9.$0)`
abbrev consumes : ExprTree → ExprTree
consumes row = let_in node (binder 8) (leaf (node_of place number) (name 3)) (let_in node (binder 9) row (merges 7 (row_field 0 (use_of 9))))

in_the_first_legs_place : unzipped (consumer (more_legs (makes (only (over 1)) (merges 2 (use_of 4))) (only (over 5))))
    ≡ loop node (more_legs (over 1) (only (over 5))) (use_of 6) (binder 7) (binder 3) (binder 4) (consumes (many (node_of place pair) make_struct (more_exprs (of_two 0) (more_exprs (of_two 1) no_exprs))))
in_the_first_legs_place = refl

in_the_last_legs_place : unzipped (consumer (more_legs (over 5) (only (makes (only (over 1)) (merges 2 (use_of 4))))))
    ≡ loop node (more_legs (over 5) (only (over 1))) (use_of 6) (binder 7) (binder 3) (binder 4) (consumes (many (node_of place pair) make_struct (more_exprs (of_two 0) (more_exprs (of_two 1) no_exprs))))
in_the_last_legs_place = refl

-- the loop that makes the list runs over two legs itself, and merges the second field of its row
with_two_legs_of_its_own : unzipped (consumer (more_legs (over 5) (only (makes (more_legs (over 1) (only (over 10))) (merges 2 (row_field 1 (use_of 4)))))))
    ≡ loop node (more_legs (over 5) (more_legs (over 1) (only (over 10)))) (use_of 6) (binder 7) (binder 3) (binder 4)
    (consumes (many (node_of place pair) make_struct (more_exprs (of_three 0) (more_exprs (row_field 1 (many (node_of place pair) make_struct (more_exprs (of_three 1) (more_exprs (of_three 2) no_exprs)))) no_exprs))))
with_two_legs_of_its_own = refl
