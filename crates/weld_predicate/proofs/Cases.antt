-- Small guarded merges, by which the definitions are checked: which are, which stay, and what takes their place.
use Rattle.std.proofs.Common.{◌≡◌, pos, negsuc, true, false, refl}
use Rattle.weld_data.specs.declared.kind.Kind.TheVariants.{Bool, U8, I32, I64}
use Rattle.weld_data.specs.declared.op.BinOp.TheVariants as ops
use Rattle.weld_data.specs.declared.op.MergeOp.TheVariants.{Add, Max}
use Rattle.weld_tree.specs.declared.known.Known.TheVariants.{Blank}
use Rattle.weld_tree.specs.declared.place.Place.{Place}
use Rattle.weld_tree.specs.TypeTree.{TypeTree, scalar, struct, build, total, keyed, cells, no_types, more_types}
use Rattle.weld_tree.specs.ExprTree.{At, ExprTree, leaf, one, two, three, many, no_exprs, more_exprs, make_struct, int, name, field, cast, binary, look_up, merge, if_else, select}
use Rattle.weld_predicate.specs.Neutral.{node_of, neutral}
use Rattle.weld_predicate.specs.Guard.{is_guard, unguarded}

abbrev place : Place
place = record { line = 0; column = 0 }

abbrev node : At
node = record { place = place; ty = Blank }

abbrev sum_of : TypeTree
sum_of = build (total (scalar I64) Add)

-- the builder b1, of the type; the condition c5; the value x6
abbrev builder : TypeTree → ExprTree
builder t = leaf (node_of place t) (name 1)

abbrev condition : ExprTree
condition = leaf node (name 5)

abbrev item : ExprTree
item = leaf node (name 6)

abbrev merged : ExprTree → ExprTree → ExprTree
merged b v = two node merge b v

abbrev guarded : ExprTree → ExprTree → ExprTree
guarded e f = three (node_of place sum_of) if_else condition e f

-- ---- which are

a_guarded_sum : is_guard (guarded (merged (builder sum_of) item) (builder sum_of)) ≡ true
a_guarded_sum = refl

the_other_way_round : is_guard (guarded (builder sum_of) (merged (builder sum_of) item)) ≡ true
the_other_way_round = refl

of_a_field : is_guard (guarded (merged (one (node_of place sum_of) (field 1) (leaf node (name 1))) item) (one node (field 1) (leaf node (name 1)))) ≡ true
of_a_field = refl

of_two_fields_stays : is_guard (guarded (merged (one (node_of place sum_of) (field 1) (leaf node (name 1))) item) (one node (field 0) (leaf node (name 1)))) ≡ false
of_two_fields_stays = refl

of_two_names_stays : is_guard (guarded (merged (builder sum_of) item) (leaf node (name 2))) ≡ false
of_two_names_stays = refl

both_merge_stays : is_guard (guarded (merged (builder sum_of) item) (merged (builder sum_of) item)) ≡ false
both_merge_stays = refl

a_quotient_stays : is_guard (guarded (merged (builder sum_of) (two node (binary ops.Div) item (leaf node (name 7)))) (builder sum_of)) ≡ false
a_quotient_stays = refl

a_lookup_stays : is_guard (guarded (merged (builder sum_of) (two node look_up (leaf node (name 7)) item)) (builder sum_of)) ≡ false
a_lookup_stays = refl

a_dictionary_stays : is_guard (guarded (merged (builder (build (keyed (scalar I64) (scalar I64) Add))) item) (builder sum_of)) ≡ false
a_dictionary_stays = refl

numbers_by_places_stay : is_guard (guarded (merged (builder (build (cells (scalar I64) Add))) item) (builder sum_of)) ≡ false
numbers_by_places_stay = refl

without_a_note_it_stays : is_guard (guarded (merged (leaf node (name 1)) item) (leaf node (name 1))) ≡ false
without_a_note_it_stays = refl

abbrev pair : TypeTree
pair = struct (more_types (scalar I64) (more_types (scalar U8) no_types))

abbrev sum_of_pairs : TypeTree
sum_of_pairs = build (total pair Add)

a_sum_of_pairs : is_guard (guarded (merged (builder sum_of_pairs) item) (builder sum_of_pairs)) ≡ true
a_sum_of_pairs = refl

of_truth_values_stays : is_guard (guarded (merged (builder (build (total (struct (more_types (scalar Bool) no_types)) Add))) item) (builder sum_of)) ≡ false
of_truth_values_stays = refl

-- ---- what takes their place

abbrev zero_of_sum : ExprTree
zero_of_sum = leaf (node_of place (scalar I64)) (int I64 (pos 0))

merges_where_it_holds : unguarded (guarded (merged (builder sum_of) item) (builder sum_of)) ≡ two (node_of place sum_of) merge (builder sum_of) (three (node_of place (scalar I64)) select condition item zero_of_sum)
merges_where_it_holds = refl

merges_where_it_does_not : unguarded (guarded (builder sum_of) (merged (builder sum_of) item)) ≡ two (node_of place sum_of) merge (builder sum_of) (three (node_of place (scalar I64)) select condition zero_of_sum item)
merges_where_it_does_not = refl

-- ---- neutral values

abbrev cast_of : ExprTree → ExprTree
cast_of e = one (node_of place (scalar U8)) (cast U8) e

the_least_is_neutral_to_max : neutral place Max (scalar I32) ≡ leaf (node_of place (scalar I32)) (int I32 (negsuc 2147483647))
the_least_is_neutral_to_max = refl

a_small_kind_is_cast : neutral place Add (scalar U8) ≡ cast_of (leaf (node_of place (scalar I32)) (int I32 (pos 0)))
a_small_kind_is_cast = refl

of_a_pair : neutral place Add pair ≡ many (node_of place pair) make_struct (more_exprs zero_of_sum (more_exprs (cast_of (leaf (node_of place (scalar I32)) (int I32 (pos 0)))) no_exprs))
of_a_pair = refl
