-- A leg that stands twice in one loop: the second goes, and the row is rebuilt from the others.
use Rattle.std.specs.Prelude.{◌≡◌, ℕ, ◌<◌, ◌^◌, zero, suc, ◌==◌, if◌then◌else◌, Bool, false, Option, Some, None, option_map}
use Rattle.weld_tree.specs.declared.binder.Binder.{Binder}
use Rattle.weld_tree.specs.declared.known.Known.{Known}
use Rattle.weld_tree.specs.declared.known.Known.TheVariants.{Blank, Is}
use Rattle.weld_tree.specs.declared.place.Place.{Place}
use Rattle.weld_tree.specs.TypeTree.{TypeTree, TypeTrees, scalar, vec, struct, dict, build, no_types, more_types}
use Rattle.weld_tree.specs.ExprTree.{At, ExprTree, leaf, one, two, three, many, let_in, loop, iterate, ExprTrees, no_exprs, more_exprs, LegTree, whole, strided, LegTrees, no_legs, more_legs, Leaf, int, truth, chars, name, fresh, field, make_struct}
use Rattle.weld_meaning.specs.Names.{put}
use Rattle.weld_substitution.specs.Redex.{noted}

-- ---- which leg

abbrev pub name_of_leaf : Leaf → Option ℕ
name_of_leaf (int k x) = None
name_of_leaf (truth b) = None
name_of_leaf (chars bs) = None
name_of_leaf (name s) = Some s
name_of_leaf (fresh b) = None

abbrev pub name_of : ExprTree → Option ℕ
name_of (leaf a l) = name_of_leaf l
name_of (one a o e) = None
name_of (two a o e f) = None
name_of (three a o e f g) = None
name_of (many a o es) = None
name_of (let_in a b e f) = None
name_of (loop a ls e b n x f) = None
name_of (iterate a e b f) = None

-- the name that a whole leg is
abbrev pub leg_name : LegTree → Option ℕ
leg_name (whole e) = name_of e
leg_name (strided e f g h) = None

abbrev pub is_that : ℕ → Option ℕ → Bool
is_that s None = false
is_that s (Some t) = s == t

-- the first place, from 0, of a whole leg that is the name
abbrev pub place_in : ℕ → LegTrees → Option ℕ
place_in s no_legs = None
place_in s (more_legs l ls) = if is_that s (leg_name l) then Some 0 else option_map suc (place_in s ls)

abbrev pub place_of : Option ℕ → LegTrees → Option ℕ
place_of None ls = None
place_of (Some s) ls = place_in s ls

-- two places in a list of legs, from 0
pub record Places : Type 0 where
  pub first : ℕ
  pub second : ℕ

abbrev pub behind_one : Places → Places
behind_one p = record { first = suc p.first; second = suc p.second }

abbrev pub or_behind : Option ℕ → Option Places → Option Places
or_behind (Some n) rest = Some (record { first = 0; second = suc n })
or_behind None rest = option_map behind_one rest

-- the first whole leg that is a name which stands again, and where it stands again first
abbrev pub twice : LegTrees → Option Places
twice no_legs = None
twice (more_legs l ls) = or_behind (place_of (leg_name l) ls) (twice ls)

-- ---- the other legs, and their items

abbrev pub without_leg : ℕ → LegTrees → LegTrees
without_leg n no_legs = no_legs
without_leg zero (more_legs l ls) = ls
without_leg (suc n) (more_legs l ls) = more_legs l (without_leg n ls)

-- the type of a vector's items, as noted
abbrev pub item_of_type : TypeTree → TypeTree
item_of_type (scalar k) = struct no_types
item_of_type (vec t) = t
item_of_type (struct ts) = struct no_types
item_of_type (dict k v) = struct no_types
item_of_type (build b) = struct no_types

abbrev pub item_of : Known → TypeTree
item_of Blank = struct no_types
item_of (Is t) = item_of_type t

abbrev pub leg_item : LegTree → TypeTree
leg_item (whole e) = item_of (noted e)
leg_item (strided e f g h) = item_of (noted e)

abbrev pub items : LegTrees → TypeTrees
items no_legs = no_types
items (more_legs l ls) = more_types (leg_item l) (items ls)

-- ---- the row rebuilt

abbrev pub node_of : Place → TypeTree → At
node_of place t = record { place = place; ty = Is t }

-- the item of that number and type in a row over legs of such items: the row itself where there is one leg
abbrev pub item_at : Place → ℕ → TypeTrees → ℕ → TypeTree → ExprTree
item_at place x no_types n u = leaf (node_of place u) (name x)
item_at place x (more_types t no_types) n u = leaf (node_of place u) (name x)
item_at place x (more_types t (more_types s ts)) n u = one (node_of place u) (field n) (leaf (node_of place (struct (more_types t (more_types s ts)))) (name x))

-- those from a number on
abbrev pub items_from : Place → ℕ → TypeTrees → ℕ → TypeTrees → ExprTrees
items_from place x all n no_types = no_exprs
items_from place x all n (more_types u us) = more_exprs (item_at place x all n u) (items_from place x all (suc n) us)

abbrev pub count : TypeTrees → ℕ
count no_types = 0
count (more_types t ts) = suc (count ts)

abbrev pub type_at : ℕ → TypeTrees → TypeTree
type_at n no_types = struct no_types
type_at zero (more_types u us) = u
type_at (suc n) (more_types u us) = type_at n us

-- one more at a place
abbrev pub with_type : ℕ → TypeTree → TypeTrees → TypeTrees
with_type zero t us = more_types t us
with_type (suc n) t no_types = more_types t no_types
with_type (suc n) t (more_types u us) = more_types u (with_type n t us)

abbrev pub with_expr : ℕ → ExprTree → ExprTrees → ExprTrees
with_expr zero e es = more_exprs e es
with_expr (suc n) e no_exprs = more_exprs e no_exprs
with_expr (suc n) e (more_exprs f es) = more_exprs f (with_expr n e es)

-- the row with all legs from the row without the second: what stood at the second place is what stands at the first
abbrev pub rebuilt : Place → ℕ → TypeTrees → Places → ExprTree
rebuilt place x us p =
    many (node_of place (struct (with_type p.second (type_at p.first us) us))) make_struct
    (with_expr p.second (item_at place x us p.first (type_at p.first us)) (items_from place x us 0 us))

-- ---- the pattern, and what takes its place

-- the row's note goes, since the row is another
abbrev pub bare : Binder → Binder
bare x = record { sym = x.sym; place = x.place; note = None; note_place = x.note_place }

-- some whole leg is a name that stands again; it has so few legs that each field of a row can be spelled
abbrev pub IsTwice : LegTrees → Places → Type 0
IsTwice ls p = (twice ls ≡ Some p) × (count (items (without_leg p.second ls)) < 10 ^ 9)

-- the loop over the other legs, with the row rebuilt for each use of the row in the body
abbrev pub once : At → LegTrees → ExprTree → Binder → Binder → Binder → ExprTree → Places → ExprTree
once a ls e b n x f p =
    loop a (without_leg p.second ls) e b n (bare x) (put x.sym.0 (rebuilt a.place x.sym.0 (items (without_leg p.second ls)) p) f)
