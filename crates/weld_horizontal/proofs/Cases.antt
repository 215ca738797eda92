-- Small loops, by which the definitions are checked: which legs stand twice, and what takes the loop's place.
use Rattle.std.proofs.Common.{◌≡◌, ℕ, Some, None, refl}
use Rattle.weld_data.specs.declared.kind.Kind.TheVariants.{I64}
use Rattle.weld_tree.specs.declared.binder.Binder.{Binder}
use Rattle.weld_tree.specs.declared.known.Known.TheVariants.{Blank}
use Rattle.weld_tree.specs.declared.place.Place.{Place}
use Rattle.weld_tree.specs.TypeTree.{TypeTree, scalar, vec, struct, no_types, more_types}
use Rattle.weld_tree.specs.ExprTree.{At, ExprTree, leaf, one, two, many, loop, no_exprs, more_exprs, LegTree, whole, strided, LegTrees, no_legs, more_legs, name, field, merge, make_struct}
use Rattle.weld_horizontal.specs.Twice.{Places, twice, node_of, once}

abbrev place : Place
place = record { line = 0; column = 0 }

abbrev node : At
node = record { place = place; ty = Blank }

abbrev number : TypeTree
number = scalar I64

abbrev vector : ℕ → ExprTree
vector s = leaf (node_of place (vec number)) (name s)

abbrev over : ℕ → LegTree
over s = whole (vector s)

abbrev part : ℕ → LegTree
part s = strided (vector s) (leaf node (name 7)) (leaf node (name 8)) (leaf node (name 9))

abbrev two_legs : LegTree → LegTree → LegTrees
two_legs k l = more_legs k (more_legs l no_legs)

abbrev three_legs : LegTree → LegTree → LegTree → LegTrees
three_legs k l m = more_legs k (two_legs l m)

abbrev at : ℕ → ℕ → Places
at i j = record { first = i; second = j }

-- ---- which

side_by_side : twice (two_legs (over 1) (over 1)) ≡ Some (at 0 1)
side_by_side = refl

with_another_between : twice (three_legs (over 1) (over 2) (over 1)) ≡ Some (at 0 2)
with_another_between = refl

behind_another : twice (three_legs (over 2) (over 1) (over 1)) ≡ Some (at 1 2)
behind_another = refl

three_times_goes_by_the_first_two : twice (three_legs (over 1) (over 1) (over 1)) ≡ Some (at 0 1)
three_times_goes_by_the_first_two = refl

two_names_stay : twice (two_legs (over 1) (over 2)) ≡ None
two_names_stay = refl

parts_of_vectors_stay : twice (two_legs (part 1) (part 1)) ≡ None
parts_of_vectors_stay = refl

a_part_and_the_whole_stay : twice (two_legs (over 1) (part 1)) ≡ None
a_part_and_the_whole_stay = refl

-- ---- what takes the loop's place: for(zip(v1, v1), e2, |b, n, x| merge(b, x.$1))

abbrev binder : ℕ → Binder
binder s = record { sym = record { 0 = s }; place = place; note = None; note_place = place }

abbrev body : ExprTree → ExprTree
body e = two node merge (leaf node (name 3)) e

abbrev row_field : ℕ → ExprTree → ExprTree
row_field n e = one node (field n) e

abbrev pair : TypeTree
pair = struct (more_types number (more_types number no_types))

abbrev item : ExprTree
item = leaf (node_of place number) (name 5)

-- a row over one leg is its item
the_row_is_the_item : once node (two_legs (over 1) (over 1)) (leaf node (name 2)) (binder 3) (binder 4) (binder 5) (body (row_field 1 (leaf node (name 5)))) (at 0 1)
    ≡ loop node (more_legs (over 1) no_legs) (leaf node (name 2)) (binder 3) (binder 4) (binder 5) (body (row_field 1 (many (node_of place pair) make_struct (more_exprs item (more_exprs item no_exprs)))))
the_row_is_the_item = refl

abbrev triple : TypeTree
triple = struct (more_types number (more_types number (more_types number no_types)))

abbrev item_of_two : ℕ → ExprTree
item_of_two n = one (node_of place number) (field n) (leaf (node_of place pair) (name 5))

-- the second of three legs goes
a_row_of_fields : once node (three_legs (over 1) (over 1) (over 6)) (leaf node (name 2)) (binder 3) (binder 4) (binder 5) (body (row_field 2 (leaf node (name 5)))) (at 0 1)
    ≡ loop node (two_legs (over 1) (over 6)) (leaf node (name 2)) (binder 3) (binder 4) (binder 5) (body (row_field 2 (many (node_of place triple) make_struct (more_exprs (item_of_two 0) (more_exprs (item_of_two 0) (more_exprs (item_of_two 1) no_exprs))))))
a_row_of_fields = refl

-- the third goes, as the second stands again
a_row_with_a_later_field_twice : once node (three_legs (over 6) (over 1) (over 1)) (leaf node (name 2)) (binder 3) (binder 4) (binder 5) (body (row_field 2 (leaf node (name 5)))) (at 1 2)
    ≡ loop node (two_legs (over 6) (over 1)) (leaf node (name 2)) (binder 3) (binder 4) (binder 5) (body (row_field 2 (many (node_of place triple) make_struct (more_exprs (item_of_two 0) (more_exprs (item_of_two 1) (more_exprs (item_of_two 1) no_exprs))))))
a_row_with_a_later_field_twice = refl
