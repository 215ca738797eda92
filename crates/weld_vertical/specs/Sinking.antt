-- A loop over what another loop made, and the one loop that takes the place of both: `for(result(for(R,
-- vecbuilder[T], |b,i,x| lets; merge(b, v))), B, |c,j,y| f)` becomes `for(R, B, |c,i,x| lets; let j = i; let y = v;
-- f)`, and where the first merges on some ways alone, `if(e, merge(b, v), b)` becomes `if(e, let j = i; let y = v; f,
-- c)`.
use Rattle.std.specs.Prelude.{ℕ, ◌+◌, ◌==◌, Bool, true, false, ◌&&◌, ◌||◌}
use Rattle.weld_tree.specs.declared.binder.Binder.{Binder}
use Rattle.weld_tree.specs.declared.known.Known.{Known}
use Rattle.weld_tree.specs.declared.known.Known.TheVariants.{Is}
use Rattle.weld_tree.specs.TypeTree.{BuildTree, list, total, keyed, cells, groups}
use Rattle.weld_tree.specs.ExprTree.{At, ExprTree, leaf, one, two, three, many, let_in, loop, iterate, LegTree, whole, strided, LegTrees, no_legs, more_legs, Leaf, int, truth, chars, name, fresh, One, neg, not, cast, len, field, finish, started, Two, binary, and, or, look_up, key_exists, merge, Three, if_else, select, slice}
use Rattle.weld_meaning.specs.Typing.{place_type}
use Rattle.weld_substitution.specs.Uses.{uses, is_name, is_use}

-- ---- the producer

abbrev pub is_list : BuildTree → Bool
is_list (list t) = true
is_list (total t op) = false
is_list (keyed k v op) = false
is_list (cells t op) = false
is_list (groups k v) = false

abbrev pub is_list_leaf : Leaf → Bool
is_list_leaf (int k x) = false
is_list_leaf (truth b) = false
is_list_leaf (chars bs) = false
is_list_leaf (name s) = false
is_list_leaf (fresh b) = is_list b

-- an empty `vecbuilder`
abbrev pub starts_list : ExprTree → Bool
starts_list (leaf a l) = is_list_leaf l
starts_list (one a o e) = false
starts_list (two a o e f) = false
starts_list (three a o e f g) = false
starts_list (many a o es) = false
starts_list (let_in a b e f) = false
starts_list (loop a ls e b n x f) = false
starts_list (iterate a e b f) = false

abbrev pub is_merge : Two → Bool
is_merge (binary op) = false
is_merge and = false
is_merge or = false
is_merge look_up = false
is_merge key_exists = false
is_merge merge = true

-- lets, perhaps none, that end in a merge into the name
abbrev pub ends_in_merge : ℕ → ExprTree → Bool
ends_in_merge s (leaf a l) = false
ends_in_merge s (one a o e) = false
ends_in_merge s (two a o e f) = is_merge o && is_use e s
ends_in_merge s (three a o e f g) = false
ends_in_merge s (many a o es) = false
ends_in_merge s (let_in a b e f) = ends_in_merge s f
ends_in_merge s (loop a ls e b n x f) = false
ends_in_merge s (iterate a e b f) = false

abbrev pub is_if : Three → Bool
is_if if_else = true
is_if select = false
is_if slice = false

-- lets and ifs, perhaps none, at each end of which stands the name or a merge into it; it is used nowhere else
abbrev pub is_spine : ℕ → ExprTree → Bool
is_spine s (leaf a l) = is_name l s
is_spine s (one a o e) = false
is_spine s (two a o e v) = is_merge o && (is_use e s && (uses v s == 0))
is_spine s (three a o c e f) = is_if o && ((uses c s == 0) && (is_spine s e && is_spine s f))
is_spine s (many a o es) = false
is_spine s (let_in a b v f) = (uses v s == 0) && is_spine s f
is_spine s (loop a ls e b n x f) = false
is_spine s (iterate a e b f) = false

-- how many of the ends are merges
abbrev pub merges : ExprTree → ℕ
merges (leaf a l) = 0
merges (one a o e) = 0
merges (two a o e v) = 1
merges (three a o c e f) = merges e + merges f
merges (many a o es) = 0
merges (let_in a b v f) = merges f
merges (loop a ls e b n x f) = 0
merges (iterate a e b f) = 0

-- a loop that starts with an empty `vecbuilder` and merges into it once a row: nothing else is done with the builder
abbrev pub is_producer : ExprTree → Bool
is_producer (leaf a l) = false
is_producer (one a o e) = false
is_producer (two a o e f) = false
is_producer (three a o e f g) = false
is_producer (many a o es) = false
is_producer (let_in a b e f) = false
is_producer (loop a ls e b n x f) = starts_list e && (ends_in_merge b.sym.0 f && (uses f b.sym.0 == 1))
is_producer (iterate a e b f) = false

-- one that merges once in a row or not at all, at one end
abbrev pub is_filter : ExprTree → Bool
is_filter (leaf a l) = false
is_filter (one a o e) = false
is_filter (two a o e f) = false
is_filter (three a o e f g) = false
is_filter (many a o es) = false
is_filter (let_in a b e f) = false
is_filter (loop a ls e b n x f) = starts_list e && (is_spine b.sym.0 f && (merges f == 1))
is_filter (iterate a e b f) = false

-- one of both, for a consumer with this row number and body: rows keep their numbers, or the number isn't used
abbrev pub is_made : ℕ → ExprTree → ExprTree → Bool
is_made n f p = is_producer p || (is_filter p && (uses f n == 0))

abbrev pub is_finish : One → Bool
is_finish neg = false
is_finish not = false
is_finish (cast k) = false
is_finish len = false
is_finish (field n) = false
is_finish finish = true
is_finish (started b) = false

-- the list that such a loop makes
abbrev pub is_produced : ℕ → ExprTree → ExprTree → Bool
is_produced n f (leaf a l) = false
is_produced n f (one a o e) = is_finish o && is_made n f e
is_produced n f (two a o e g) = false
is_produced n f (three a o e g k) = false
is_produced n f (many a o es) = false
is_produced n f (let_in a b e g) = false
is_produced n f (loop a ls e b m x g) = false
is_produced n f (iterate a e b g) = false

-- ---- the consumer

abbrev pub is_produced_leg : ℕ → ExprTree → LegTree → Bool
is_produced_leg n f (whole e) = is_produced n f e
is_produced_leg n f (strided e g h i) = false

abbrev pub is_only_leg : ℕ → ExprTree → LegTrees → Bool
is_only_leg n f no_legs = false
is_only_leg n f (more_legs l no_legs) = is_produced_leg n f l
is_only_leg n f (more_legs l (more_legs m ls)) = false

-- a loop whose only leg is such a list
abbrev pub is_consumer : ExprTree → Bool
is_consumer (leaf a l) = false
is_consumer (one a o e) = false
is_consumer (two a o e f) = false
is_consumer (three a o e f g) = false
is_consumer (many a o es) = false
is_consumer (let_in a b e f) = false
is_consumer (loop a ls e b n x f) = is_only_leg n.sym.0 f ls
is_consumer (iterate a e b f) = false

-- ---- the loop that takes the place of both

-- a node at the place of another, of the type
abbrev pub at_of : At → Known → At
at_of a ty = record { place = a.place; ty = ty }

-- the producer's body with, in place of a merge of a value, the consumer's row number as the producer's, its row as the value, and
-- its body, and the consumer's builder in place of the producer's; all of the consumer's type
abbrev pub sunk : Known → ℕ → ℕ → Binder → Binder → ExprTree → ExprTree → ExprTree
sunk ty c i n x f (leaf a l) = leaf (at_of a ty) (name c)
sunk ty c i n x f (one a o e) = one a o e
sunk ty c i n x f (two a o e v) = let_in (at_of a ty) n (leaf (at_of a (Is place_type)) (name i)) (let_in (at_of a ty) x v f)
sunk ty c i n x f (three a o t e g) = three (at_of a ty) o t (sunk ty c i n x f e) (sunk ty c i n x f g)
sunk ty c i n x f (many a o es) = many a o es
sunk ty c i n x f (let_in a z v h) = let_in (at_of a ty) z v (sunk ty c i n x f h)
sunk ty c i n x f (loop a ls e b m y g) = loop a ls e b m y g
sunk ty c i n x f (iterate a e b g) = iterate a e b g

-- the consumer over the producer's legs, with the producer's row number and row; what is none stays
abbrev pub fused : ExprTree → ExprTree
fused (loop a (more_legs (whole (one m o (loop p ks s d i r g))) no_legs) e b n x f) = loop a ks e b i r (sunk a.ty b.sym.0 i.sym.0 n x f g)
fused e = e
