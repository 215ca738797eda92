-- Guarded merges: an `if` that merges a number or a struct of numbers or leaves the builder, and the merge that takes
-- its place: `if(c, merge(b, v), b)` becomes `merge(b, select(c, v, n))`, n being the neutral value.
use Rattle.std.specs.Prelude.{ℕ, ◌==◌, if◌then◌else◌, Bool, true, false, ◌&&◌, ◌||◌, Option, Some, None}
use Rattle.weld_data.specs.declared.op.MergeOp.{MergeOp}
use Rattle.weld_tree.specs.declared.known.Known.{Known}
use Rattle.weld_tree.specs.declared.known.Known.TheVariants.{Blank, Is}
use Rattle.weld_tree.specs.declared.place.Place.{Place}
use Rattle.weld_tree.specs.TypeTree.{TypeTree, BuildTree, scalar, vec, struct, dict, build, list, total, keyed, cells, groups}
use Rattle.weld_tree.specs.ExprTree.{At, ExprTree, leaf, one, two, three, many, let_in, loop, iterate, Two, binary, and, or, look_up, key_exists, merge, Three, if_else, select, slice}
use Rattle.weld_meaning.specs.Origin.{Path}
use Rattle.weld_meaning.specs.Available.{same_path, chain_of}
use Rattle.weld_types.specs.Tests.{is_mergeable}
use Rattle.weld_safe.specs.Test.{is_safe}
use Rattle.weld_substitution.specs.Redex.{noted}
use Rattle.weld_predicate.specs.Neutral.{node_of, neutral}

-- ---- what is noted of a builder

-- what a `merger` combines and by which operator
pub record Merger : Type 0 where
  pub item : TypeTree
  pub op : MergeOp

abbrev pub of_item : TypeTree → MergeOp → Option Merger
of_item t op = if is_mergeable t then Some (record { item = t; op = op }) else None

abbrev pub of_builder : BuildTree → Option Merger
of_builder (list t) = None
of_builder (total t op) = of_item t op
of_builder (keyed k v op) = None
of_builder (cells t op) = None
of_builder (groups k v) = None

abbrev pub of_type : TypeTree → Option Merger
of_type (scalar k) = None
of_type (vec t) = None
of_type (struct ts) = None
of_type (dict k v) = None
of_type (build b) = of_builder b

-- the `merger` that is noted, if one is
abbrev pub merger_of : Known → Option Merger
merger_of Blank = None
merger_of (Is t) = of_type t

-- ---- the pattern

-- both are one name with the same field accesses
abbrev pub same_chain : Option (ℕ × Path) → Option (ℕ × Path) → Bool
same_chain None d = false
same_chain (Some c) None = false
same_chain (Some c) (Some d) = (c.0 == d.0) && same_path c.1 d.1

abbrev pub is_some_merger : Option Merger → Bool
is_some_merger None = false
is_some_merger (Some m) = true

abbrev pub is_merge : Two → Bool
is_merge (binary op) = false
is_merge and = false
is_merge or = false
is_merge look_up = false
is_merge key_exists = false
is_merge merge = true

abbrev pub is_if : Three → Bool
is_if if_else = true
is_if select = false
is_if slice = false

-- one arm merges a safe value into a path of a `merger`, and the other is that path
abbrev pub is_guarded : ExprTree → ExprTree → Bool
is_guarded (leaf a l) other = false
is_guarded (one a o e) other = false
is_guarded (two a o b v) other = is_merge o && (same_chain (chain_of b) (chain_of other) && (is_some_merger (merger_of (noted b)) && is_safe v))
is_guarded (three a o c e f) other = false
is_guarded (many a o es) other = false
is_guarded (let_in a b e f) other = false
is_guarded (loop a ls e b n x f) other = false
is_guarded (iterate a e b f) other = false

abbrev pub is_guard : ExprTree → Bool
is_guard (leaf a l) = false
is_guard (one a o e) = false
is_guard (two a o e f) = false
is_guard (three a o c e f) = is_if o && (is_guarded e f || is_guarded f e)
is_guard (many a o es) = false
is_guard (let_in a b e f) = false
is_guard (loop a ls e b n x f) = false
is_guard (iterate a e b f) = false

-- ---- what takes its place

-- the value where the condition is as it is to be, else the neutral value of the `merger`
abbrev pub chosen_value : Place → ExprTree → Bool → ExprTree → Option Merger → ExprTree
chosen_value place c wanted v None = v
chosen_value place c true v (Some m) = three (node_of place m.item) select c v (neutral place m.op m.item)
chosen_value place c false v (Some m) = three (node_of place m.item) select c (neutral place m.op m.item) v

-- the merge of the arm, at the node of the `if`; what isn't one stays
abbrev pub always_merged : At → ExprTree → Bool → ExprTree → ExprTree
always_merged at c wanted (leaf a l) = leaf a l
always_merged at c wanted (one a o e) = one a o e
always_merged at c wanted (two a o b v) = two at merge b (chosen_value at.place c wanted v (merger_of (noted b)))
always_merged at c wanted (three a o d e f) = three a o d e f
always_merged at c wanted (many a o es) = many a o es
always_merged at c wanted (let_in a b e f) = let_in a b e f
always_merged at c wanted (loop a ls e b n x f) = loop a ls e b n x f
always_merged at c wanted (iterate a e b f) = iterate a e b f

-- the first arm is merged where the condition holds, the second where it doesn't; what is no guard stays
abbrev pub unguarded : ExprTree → ExprTree
unguarded (leaf a l) = leaf a l
unguarded (one a o e) = one a o e
unguarded (two a o e f) = two a o e f
unguarded (three a o c e f) = if is_guarded e f then always_merged a c true e else always_merged a c false f
unguarded (many a o es) = many a o es
unguarded (let_in a b e f) = let_in a b e f
unguarded (loop a ls e b n x f) = loop a ls e b n x f
unguarded (iterate a e b f) = iterate a e b f
