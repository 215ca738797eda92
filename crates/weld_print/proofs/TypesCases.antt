-- Types and their texts, by which the definitions are checked.
use Rattle.std.proofs.Common.{List, [], ◌∷◌, codes, refl}
use Rattle.weld_data.specs.declared.kind.Kind.TheVariants.{Bool, I8, I16, I32, I64, U8, U16, U32, U64}
use Rattle.weld_data.specs.declared.op.MergeOp.TheVariants.{Add, Mul, Min, Max}
use Rattle.weld_tree.specs.TypeTree.{TypeTree, scalar, vec, struct, dict, build, list, total, keyed, cells, groups, pack}
use Rattle.weld_print.specs.TypeText.{PrintType}

abbrev bool : TypeTree
bool = scalar Bool

abbrev i32 : TypeTree
i32 = scalar I32

abbrev i64 : TypeTree
i64 = scalar I64

abbrev fields : List TypeTree → TypeTree
fields ts = struct (pack ts)

-- ---- scalars

of_truths : PrintType bool (codes "bool")
of_truths = refl

of_i8 : PrintType (scalar I8) (codes "i8")
of_i8 = refl

of_u8 : PrintType (scalar U8) (codes "u8")
of_u8 = refl

of_i32 : PrintType i32 (codes "i32")
of_i32 = refl

of_i64 : PrintType i64 (codes "i64")
of_i64 = refl

-- ---- vectors, structs, dictionaries

of_strings : PrintType (vec (scalar I8)) (codes "vec[i8]")
of_strings = refl

of_vectors : PrintType (vec (vec bool)) (codes "vec[vec[bool]]")
of_vectors = refl

one_field : PrintType (fields (i64 ∷ [])) (codes "{i64}")
one_field = refl

two_fields : PrintType (fields (i32 ∷ bool ∷ [])) (codes "{i32,bool}")
two_fields = refl

three_fields : PrintType (fields (i32 ∷ vec i64 ∷ bool ∷ [])) (codes "{i32,vec[i64],bool}")
three_fields = refl

-- a struct in a struct: each has its own braces, and the comma before a field is the outer one's
inner_first : PrintType (fields (fields (i32 ∷ i64 ∷ []) ∷ bool ∷ [])) (codes "{{i32,i64},bool}")
inner_first = refl

inner_last : PrintType (fields (bool ∷ fields (i32 ∷ i64 ∷ []) ∷ [])) (codes "{bool,{i32,i64}}")
inner_last = refl

of_dictionary : PrintType (dict i64 (scalar U8)) (codes "dict[i64,u8]")
of_dictionary = refl

of_groups_of_structs : PrintType (dict (fields (i32 ∷ vec (scalar I8) ∷ [])) (vec (fields (i64 ∷ bool ∷ [])))) (codes "dict[{i32,vec[i8]},vec[{i64,bool}]]")
of_groups_of_structs = refl

of_dictionary_in_dictionary : PrintType (dict i32 (dict i64 bool)) (codes "dict[i32,dict[i64,bool]]")
of_dictionary_in_dictionary = refl

-- ---- builders

of_list : PrintType (build (list i32)) (codes "vecbuilder[i32]")
of_list = refl

of_list_of_structs : PrintType (build (list (fields (i32 ∷ i64 ∷ [])))) (codes "vecbuilder[{i32,i64}]")
of_list_of_structs = refl

of_sum : PrintType (build (total i64 Add)) (codes "merger[i64,+]")
of_sum = refl

of_product : PrintType (build (total (scalar U8) Mul)) (codes "merger[u8,*]")
of_product = refl

of_least : PrintType (build (total (scalar I8) Min)) (codes "merger[i8,min]")
of_least = refl

of_greatest : PrintType (build (total i32 Max)) (codes "merger[i32,max]")
of_greatest = refl

of_sums_by_keys : PrintType (build (keyed i64 i32 Add)) (codes "dictmerger[i64,i32,+]")
of_sums_by_keys = refl

of_least_by_keys : PrintType (build (keyed (fields (i64 ∷ vec (scalar I8) ∷ [])) i32 Min)) (codes "dictmerger[{i64,vec[i8]},i32,min]")
of_least_by_keys = refl

of_products_by_places : PrintType (build (cells i64 Mul)) (codes "vecmerger[i64,*]")
of_products_by_places = refl

of_greatest_by_places : PrintType (build (cells (scalar U8) Max)) (codes "vecmerger[u8,max]")
of_greatest_by_places = refl

of_lists_by_keys : PrintType (build (groups (vec (scalar I8)) (fields (i32 ∷ i64 ∷ [])))) (codes "groupbuilder[vec[i8],{i32,i64}]")
of_lists_by_keys = refl

-- a struct of builders
of_builders : PrintType (fields (build (total i64 Add) ∷ build (list (vec i32)) ∷ build (groups i32 bool) ∷ [])) (codes "{merger[i64,+],vecbuilder[vec[i32]],groupbuilder[i32,bool]}")
of_builders = refl
