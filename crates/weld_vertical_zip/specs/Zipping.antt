-- A list that another loop makes, on a leg of a `zip`: the other legs go into the loop that makes it, which
-- then makes whole rows, so that `for(zip(A, result(for(R, vecbuilder[T], |d,i,r| lets; merge(d, v))), C), B, |b,n,x|
-- f)` becomes `for(result(for(zip(A, R, C), vecbuilder[{A, T, C}], |d,i,r| lets; merge(d, {A's items, v, C's items}))),
-- B, |b,n,x| f)`, with the producer's row rebuilt for each use of r, and then one loop.
use Rattle.std.specs.Prelude.{ℕ, ◌+◌, nat_le, if◌then◌else◌, Bool, true, false, ◌&&◌, Option, Some, None, option_map}
use Rattle.weld_tree.specs.declared.binder.Binder.{Binder}
use Rattle.weld_tree.specs.declared.known.Known.TheVariants.{Is}
use Rattle.weld_tree.specs.declared.place.Place.{Place}
use Rattle.weld_tree.specs.TypeTree.{TypeTree, TypeTrees, BuildTree, vec, struct, build, list, total, keyed, cells, groups, no_types, more_types, type_nodes, type_depth}
use Rattle.weld_tree.specs.ExprTree.{At, ExprTree, leaf, one, two, three, many, let_in, loop, iterate, ExprTrees, no_exprs, more_exprs, LegTree, whole, strided, LegTrees, no_legs, more_legs, Leaf, int, truth, chars, name, fresh, finish, make_struct}
use Rattle.weld_meaning.specs.Names.{put}
use Rattle.weld_vertical.specs.Sinking.{is_producer, is_finish, at_of, fused}
use Rattle.weld_horizontal.specs.Twice.{node_of, item_at, items_from, items, count, bare}

-- ---- lists, one behind another

abbrev pub legs_behind : LegTrees → LegTrees → LegTrees
legs_behind no_legs ms = ms
legs_behind (more_legs l ls) ms = more_legs l (legs_behind ls ms)

abbrev pub types_behind : TypeTrees → TypeTrees → TypeTrees
types_behind no_types us = us
types_behind (more_types t ts) us = more_types t (types_behind ts us)

abbrev pub exprs_behind : ExprTrees → ExprTrees → ExprTrees
exprs_behind no_exprs fs = fs
exprs_behind (more_exprs e es) fs = more_exprs e (exprs_behind es fs)

-- ---- the first leg that another loop makes

-- the list that a loop makes which merges once in each row: where rows are filtered, the list is shorter than the other legs
abbrev pub is_made_list : ExprTree → Bool
is_made_list (leaf a l) = false
is_made_list (one a o e) = is_finish o && is_producer e
is_made_list (two a o e f) = false
is_made_list (three a o e f g) = false
is_made_list (many a o es) = false
is_made_list (let_in a b e f) = false
is_made_list (loop a ls e b n x f) = false
is_made_list (iterate a e b f) = false

abbrev pub is_made_leg : LegTree → Bool
is_made_leg (whole e) = is_made_list e
is_made_leg (strided e f g h) = false

-- a leg with those before it and those behind it
pub record Around : Type 0 where
  pub before : LegTrees
  pub leg : LegTree
  pub after : LegTrees

abbrev pub behind_leg : LegTree → Around → Around
behind_leg l s = record { before = more_legs l s.before; leg = s.leg; after = s.after }

abbrev pub first_made : LegTrees → Option Around
first_made no_legs = None
first_made (more_legs l ls) = if is_made_leg l then Some (record { before = no_legs; leg = l; after = ls }) else option_map (behind_leg l) (first_made ls)

-- ---- rows

-- the types of items: of the legs before the list that is made, of the producer's, of those behind it, and of the list
pub record Sides : Type 0 where
  pub before : TypeTrees
  pub within : TypeTrees
  pub after : TypeTrees
  pub item : TypeTree

-- the items of all legs, the producer's in the list's place
abbrev pub all_items : Sides → TypeTrees
all_items s = types_behind s.before (types_behind s.within s.after)

-- the type of the consumer's row
abbrev pub whole_row : Sides → TypeTree
whole_row s = struct (types_behind s.before (more_types s.item s.after))

-- so many items from a number on, of a row over all legs: the item where it is one, the struct where they are more
abbrev pub part_of_row : Place → ℕ → TypeTrees → ℕ → TypeTrees → ExprTree
part_of_row place r all n no_types = many (node_of place (struct no_types)) make_struct no_exprs
part_of_row place r all n (more_types t no_types) = item_at place r all n t
part_of_row place r all n (more_types t (more_types u us)) = many (node_of place (struct (more_types t (more_types u us)))) make_struct (items_from place r all n (more_types t (more_types u us)))

-- the producer's row, from a row over all legs
abbrev pub own_row : Place → ℕ → Sides → ExprTree
own_row place r s = part_of_row place r (all_items s) (count s.before) s.within

-- the consumer's row, from a row over all legs and the value that was merged
abbrev pub made_row : Place → ℕ → Sides → ExprTree → ExprTree
made_row place r s v =
    many (node_of place (whole_row s)) make_struct
    (exprs_behind (items_from place r (all_items s) 0 s.before) (more_exprs v (items_from place r (all_items s) (count s.before + count s.within) s.after)))

-- ---- the producer of whole rows

-- the producer's body that merges the consumer's row: its nodes have the builder's new type noted
abbrev pub widened : Place → ℕ → ℕ → Sides → ExprTree → ExprTree
widened place d r s (leaf a l) = leaf a l
widened place d r s (one a o e) = one a o e
widened place d r s (two a o e v) =
    two (at_of a (Is (build (list (whole_row s))))) o (leaf (at_of a (Is (build (list (whole_row s))))) (name d)) (made_row place r s v)
widened place d r s (three a o c e g) = three a o c e g
widened place d r s (many a o es) = many a o es
widened place d r s (let_in a z v h) = let_in (at_of a (Is (build (list (whole_row s))))) z v (widened place d r s h)
widened place d r s (loop a ls e b m y g) = loop a ls e b m y g
widened place d r s (iterate a e b g) = iterate a e b g

abbrev pub item_of_build : BuildTree → TypeTree
item_of_build (list t) = t
item_of_build (total t op) = struct no_types
item_of_build (keyed k v op) = struct no_types
item_of_build (cells t op) = struct no_types
item_of_build (groups k v) = struct no_types

abbrev pub item_of_leaf : Leaf → TypeTree
item_of_leaf (int k x) = struct no_types
item_of_leaf (truth b) = struct no_types
item_of_leaf (chars bs) = struct no_types
item_of_leaf (name s) = struct no_types
item_of_leaf (fresh b) = item_of_build b

-- the type of the items of a list that starts so
abbrev pub item_of_start : ExprTree → TypeTree
item_of_start (leaf a l) = item_of_leaf l
item_of_start (one a o e) = struct no_types
item_of_start (two a o e f) = struct no_types
item_of_start (three a o e f g) = struct no_types
item_of_start (many a o es) = struct no_types
item_of_start (let_in a b e f) = struct no_types
item_of_start (loop a ls e b n x f) = struct no_types
item_of_start (iterate a e b f) = struct no_types

-- the types of items round a producer and of its own
abbrev pub sides : LegTrees → ExprTree → LegTrees → Sides
sides before (leaf a l) after = record { before = items before; within = no_types; after = items after; item = struct no_types }
sides before (one a o e) after = record { before = items before; within = no_types; after = items after; item = struct no_types }
sides before (two a o e f) after = record { before = items before; within = no_types; after = items after; item = struct no_types }
sides before (three a o e f g) after = record { before = items before; within = no_types; after = items after; item = struct no_types }
sides before (many a o es) after = record { before = items before; within = no_types; after = items after; item = struct no_types }
sides before (let_in a b e f) after = record { before = items before; within = no_types; after = items after; item = struct no_types }
sides before (loop p ks s d i r g) after = record { before = items before; within = items ks; after = items after; item = item_of_start s }
sides before (iterate a e b f) after = record { before = items before; within = no_types; after = items after; item = struct no_types }

-- the loop over all legs that makes whole rows, in a producer's place; what is no loop stays
abbrev pub makes_rows : Place → LegTrees → LegTrees → Sides → ExprTree → ExprTree
makes_rows place before after w (leaf a l) = leaf a l
makes_rows place before after w (one a o e) = one a o e
makes_rows place before after w (two a o e f) = two a o e f
makes_rows place before after w (three a o e f g) = three a o e f g
makes_rows place before after w (many a o es) = many a o es
makes_rows place before after w (let_in a b e f) = let_in a b e f
makes_rows place before after w (loop p ks s d i r g) =
    loop (at_of p (Is (build (list (whole_row w))))) (legs_behind before (legs_behind ks after))
    (leaf (node_of place (build (list (whole_row w)))) (fresh (list (whole_row w)))) (bare d) i (bare r)
    (widened place d.sym.0 r.sym.0 w (put r.sym.0 (own_row place r.sym.0 w) g))
makes_rows place before after w (iterate a e b f) = iterate a e b f

-- the loop that makes the leg; what is made by none stays
abbrev pub producer_of_expr : ExprTree → ExprTree
producer_of_expr (leaf a l) = leaf a l
producer_of_expr (one a o e) = e
producer_of_expr (two a o e f) = two a o e f
producer_of_expr (three a o e f g) = three a o e f g
producer_of_expr (many a o es) = many a o es
producer_of_expr (let_in a b e f) = let_in a b e f
producer_of_expr (loop a ls e b n x f) = loop a ls e b n x f
producer_of_expr (iterate a e b f) = iterate a e b f

abbrev pub producer_of : LegTree → ExprTree
producer_of (whole e) = producer_of_expr e
producer_of (strided e f g h) = e

-- the types of items round the leg
abbrev pub sides_of : Around → Sides
sides_of s = sides s.before (producer_of s.leg) s.after

-- the one leg that takes the place of all: the list of whole rows
abbrev pub rows_leg : Place → Around → LegTree
rows_leg place s = whole (one (node_of place (vec (whole_row (sides_of s)))) finish (makes_rows place s.before s.after (sides_of s) (producer_of s.leg)))

-- ---- the consumer

-- the type is within the limits on types that a text spells
abbrev pub is_within_limits : TypeTree → Bool
is_within_limits t = nat_le (type_depth t) 16 && nat_le (type_nodes t) 256

abbrev pub are_several : LegTrees → Bool
are_several no_legs = false
are_several (more_legs l no_legs) = false
are_several (more_legs l (more_legs m ls)) = true

-- some leg is made by a loop, and the row over all legs keeps the limits
abbrev pub fits_around : Option Around → Bool
fits_around None = false
fits_around (Some s) = is_within_limits (struct (all_items (sides_of s)))

-- a loop over a `zip` of which a leg is the list that another loop makes
abbrev pub is_zipped : ExprTree → Bool
is_zipped (leaf a l) = false
is_zipped (one a o e) = false
is_zipped (two a o e f) = false
is_zipped (three a o e f g) = false
is_zipped (many a o es) = false
is_zipped (let_in a b e f) = false
is_zipped (loop a ls e b n x f) = are_several ls && fits_around (first_made ls)
is_zipped (iterate a e b f) = false

-- ---- what takes its place

abbrev pub joined_by : At → LegTrees → ExprTree → Binder → Binder → Binder → ExprTree → Option Around → ExprTree
joined_by a ls e b n x f None = loop a ls e b n x f
joined_by a ls e b n x f (Some s) = loop a (more_legs (rows_leg a.place s) no_legs) e b n x f

-- the consumer over the list of whole rows; what is no loop stays
abbrev pub joined : ExprTree → ExprTree
joined (leaf a l) = leaf a l
joined (one a o e) = one a o e
joined (two a o e f) = two a o e f
joined (three a o e f g) = three a o e f g
joined (many a o es) = many a o es
joined (let_in a b e f) = let_in a b e f
joined (loop a ls e b n x f) = joined_by a ls e b n x f (first_made ls)
joined (iterate a e b f) = iterate a e b f

-- and that as one loop over all legs
abbrev pub unzipped : ExprTree → ExprTree
unzipped e = fused (joined e)
