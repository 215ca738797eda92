-- What holds of each type of a list, and of the types as data.
use Rattle.std.proofs.Common.{zero, suc, ◌≡◌, ℕ, ◌+◌, ◌<◌, ◌≤◌, max, List, [], ◌∷◌, length, drop, get_or, sym, ap, ◌∙◌, arith}
use Rattle.std.proofs.lemmas.List.{at_drop_more, same_lists, drop_all}
use Rattle.std.specs.List.{All}
use Rattle.std.proofs.lemmas.List.Elements.{All-cons, All-head, All-tail, All-nil}
use Rattle.weld_tree.specs.TypeTree.{TypeTree, TypeTrees, pack, unpack, unpack-pack, no_types, more_types, type_nodes, types_nodes, type_depth, types_depth}
use Rattle.weld_tree.specs.Types.{IsBuilderFree, AreBuilderFree, IsBuilder, AreBuilders, IsKeyField, AreKeyFields, IsIntegerType, AreIntegerTypes, IsWellFormed, AreWellFormed, HasTypes}

-- a fact on types as data that goes type by type
data_of_all : (P : TypeTree → Type 0) (Q : TypeTrees → Type 0) → Q no_types → ((t : TypeTree) (ts : TypeTrees) → P t → Q ts → Q (more_types t ts)) → (ts : List TypeTree) → All P ts → Q (pack ts)
data_of_all P Q none more [] h = none
data_of_all P Q none more (t ∷ ts) h = more t (pack ts) (All-head P t ts h) (data_of_all P Q none more ts (All-tail P t ts h))

all_of_data : (P : TypeTree → Type 0) (Q : TypeTrees → Type 0) → ((t : TypeTree) (ts : TypeTrees) → Q (more_types t ts) → P t × Q ts) → (ts : List TypeTree) → Q (pack ts) → All P ts
all_of_data P Q parts [] h = All-nil P
all_of_data P Q parts (t ∷ ts) h = All-cons P t ts (parts t (pack ts) h).0 (all_of_data P Q parts ts (parts t (pack ts) h).1)

pub are_builder_free_of_all : (ts : List TypeTree) → All IsBuilderFree ts → AreBuilderFree (pack ts)
are_builder_free_of_all = data_of_all IsBuilderFree AreBuilderFree tt (λ t ts p q. (p, q))

pub all_builder_free : (ts : List TypeTree) → AreBuilderFree (pack ts) → All IsBuilderFree ts
all_builder_free = all_of_data IsBuilderFree AreBuilderFree (λ t ts h. h)

pub are_builders_of_all : (ts : List TypeTree) → All IsBuilder ts → AreBuilders (pack ts)
are_builders_of_all = data_of_all IsBuilder AreBuilders tt (λ t ts p q. (p, q))

pub all_builders : (ts : List TypeTree) → AreBuilders (pack ts) → All IsBuilder ts
all_builders = all_of_data IsBuilder AreBuilders (λ t ts h. h)

pub are_key_fields_of_all : (ts : List TypeTree) → All IsKeyField ts → AreKeyFields (pack ts)
are_key_fields_of_all = data_of_all IsKeyField AreKeyFields tt (λ t ts p q. (p, q))

pub all_key_fields : (ts : List TypeTree) → AreKeyFields (pack ts) → All IsKeyField ts
all_key_fields = all_of_data IsKeyField AreKeyFields (λ t ts h. h)

pub are_integer_types_of_all : (ts : List TypeTree) → All IsIntegerType ts → AreIntegerTypes (pack ts)
are_integer_types_of_all = data_of_all IsIntegerType AreIntegerTypes tt (λ t ts p q. (p, q))

pub all_integer_types : (ts : List TypeTree) → AreIntegerTypes (pack ts) → All IsIntegerType ts
all_integer_types = all_of_data IsIntegerType AreIntegerTypes (λ t ts h. h)

pub are_well_formed_of_all : (ts : List TypeTree) → All IsWellFormed ts → AreWellFormed (pack ts)
are_well_formed_of_all = data_of_all IsWellFormed AreWellFormed tt (λ t ts p q. (p, q))

pub all_well_formed : (ts : List TypeTree) → AreWellFormed (pack ts) → All IsWellFormed ts
all_well_formed = all_of_data IsWellFormed AreWellFormed (λ t ts h. h)

pub has_types : (ts : List TypeTree) → 0 < length ts → HasTypes (pack ts)
has_types [] h = absurd (omega arith)
has_types (t ∷ ts) h = tt

pub some_types : (ts : List TypeTree) → HasTypes (pack ts) → 0 < length ts
some_types [] h = absurd h
some_types (t ∷ ts) h = omega arith

pub pack_same : (ss ts : List TypeTree) → pack ss ≡ pack ts → ss ≡ ts
pack_same ss ts e = sym (unpack-pack ss) ∙ ap unpack e ∙ unpack-pack ts

pub lists_same : (ss ts : List TypeTree) → length ss ≡ length ts → ((k : ℕ) (d : TypeTree) → k < length ss → get_or ss k d ≡ get_or ts k d) → ss ≡ ts
lists_same = same_lists

-- the nodes from a place on
pub nodes_left : (ts : List TypeTree) (i : ℕ) (t : TypeTree) → i < length ts → t ≡ get_or ts i t → types_nodes (pack (drop i ts)) ≡ type_nodes t + types_nodes (pack (drop (i + 1) ts))
nodes_left ts i t h e = at_drop_more (λ rest. types_nodes (pack rest)) ts i t h ∙ ap (λ u. type_nodes u + types_nodes (pack (drop (i + 1) ts))) (sym e)

-- the depth from a place on
pub depth_left : (ts : List TypeTree) (i : ℕ) (t : TypeTree) → i < length ts → t ≡ get_or ts i t → types_depth (pack (drop i ts)) ≡ max (type_depth t) (types_depth (pack (drop (i + 1) ts)))
depth_left ts i t h e = at_drop_more (λ rest. types_depth (pack rest)) ts i t h ∙ ap (λ u. max (type_depth u) (types_depth (pack (drop (i + 1) ts)))) (sym e)

-- no type stands past the end
pub no_nodes_left : (ts : List TypeTree) (i : ℕ) → length ts ≤ i → types_nodes (pack (drop i ts)) ≡ 0
no_nodes_left ts i h = ap (λ rest. types_nodes (pack rest)) (drop_all i ts h)

pub no_depth_left : (ts : List TypeTree) (i : ℕ) → length ts ≤ i → types_depth (pack (drop i ts)) ≡ 0
no_depth_left ts i h = ap (λ rest. types_depth (pack rest)) (drop_all i ts h)

-- a type of a list has no more nodes than the list
type_under : (ts : List TypeTree) (i : ℕ) (d : TypeTree) → i < length ts → type_nodes (get_or ts i d) ≤ types_nodes (pack ts)
type_under [] i d h = absurd (omega arith)
type_under (t ∷ ts) zero d h = omega arith
type_under (t ∷ ts) (suc i) d h = let r : type_nodes (get_or ts i d) ≤ types_nodes (pack ts) = type_under ts i d (omega arith) in omega arith

pub types_parts : (ts : List TypeTree) → All (λ t. type_nodes t ≤ types_nodes (pack ts)) ts
types_parts ts k d h = type_under ts k d h
