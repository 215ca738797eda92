-- What is done with builders of fitting types isn't stuck, and gives builders and values of their types.
use Rattle.std.proofs.Common.{◌≡◌, ℕ, zero, suc, ℤ, pos, negsuc, Bool, true, false, ◌&&◌, T, List, [], ◌∷◌, map, Option, Some, None, All, AllPairs, Ordering, Less, Equal, Greater, is_lt, refl, sym, subst, ◌∙◌, slice_get, slice_set, arith, length, cond}
use Rattle.std.specs.Cmp.{IsTotalOrder}
use Rattle.std.specs.FinMap as finite
use Rattle.std.specs.FinMap.Entries.{by_order, below_all}
use Rattle.std.specs.Ordering.{eq_by_cmp}
use Rattle.std.proofs.lemmas.Int.{ints}
use Rattle.std.proofs.lemmas.List.Elements.{All-cons, All-nil}
use Rattle.std.proofs.lemmas.List.Kept.{AllPairs-cons}
use Rattle.weld_data.specs.declared.kind.Kind.{Kind}
use Rattle.weld_data.specs.declared.kind.Kind.TheVariants as kinds
use Rattle.weld_data.specs.declared.op.MergeOp.{MergeOp}
use Rattle.weld_data.specs.declared.op.MergeOp.TheVariants as ops
use Rattle.weld_data.specs.Kind.{InRange}
use Rattle.weld_data.specs.Operation.{start_of}
use Rattle.weld_data.specs.Order.{AreNumbers, IsKeyField as IsKeyFieldValue, AreKeyFields as AreKeyFieldValues, IsKey as IsKeyValue, SameFieldType, SameFieldTypes, SameKeyType, KeyStands, KeyPrecedes, Rises}
use Rattle.weld_data.specs.Value.{Value, number, list, struct, dict, Values, no_values, and_value, values, entries, list_of_entries-entries}
use Rattle.weld_data.proofs.Operations.{InRange-combination}
use Rattle.weld_tree.specs.TypeTree.{TypeTree, BuildTree, TypeTrees, scalar, vec, struct as tuple, dict as mapping, build, list as list_of, total, keyed, cells, groups, no_types, more_types}
use Rattle.weld_tree.specs.Types.{HasTypes, IsScalarType, IsIntegerType, AreIntegerTypes, IsMergerType, IsKeyField, AreKeyFields, IsKey, IsWellFormedBuild, pair_of, takes, gives}
use Rattle.weld_tree.specs.Program.{MayBeFresh}
use Rattle.weld_tree.specs.HasValue.{HasValue, HaveValues, IsNumber, AllAre, AllEntriesAre}
use Rattle.weld_builders.specs.Outcome.{or_fault, map_out}
use Rattle.weld_builders.specs.ValueOrder.{value_cmp, ValueMap}
use Rattle.weld_builders.specs.Range.{AllInRange}
use Rattle.weld_builders.specs.Part.{Part, Totals, list_part, total_part, totals_part, totals_builder, BuilderForm, start, with_kinds, neutral_totals, kinds_of, merge_totals, as_fields, cells_part, keyed_part, groups_part, combined, appended, merge_cell, merge_part, as_numbers, as_number_list, result_of, repeated, bare}
use Rattle.weld_meaning.specs.Thing.{building}
use Rattle.weld_meaning.specs.Typing.{StartHas, place_type}
use Rattle.weld_meaning.specs.ThingType.{EntriesHave, TotalsFit, AreTotals, HasPart, HasThing}
use Rattle.weld_meaning.specs.Evaluation.{started_builder, kinds_in}
use Rattle.weld_meaning.proofs.Good.{Good, good, good_fault, then_good, map_good, by_number, by_list, by_struct}
use Rattle.weld_meaning.proofs.ValuesGood.{least_below, greatest_above, as_number_good, all_append}

-- ---- keys

numbers_are : (k : Kind) (vs : Values) → AllAre (IsNumber k) vs → AreNumbers k vs
numbers_are k no_values h = tt
numbers_are k (and_value (number m x) vs) h = (h.0.0, numbers_are k vs h.1)
numbers_are k (and_value (list xs) vs) h = absurd h.0
numbers_are k (and_value (struct xs) vs) h = absurd h.0
numbers_are k (and_value (dict es) vs) h = absurd h.0

same_scalars : (k : Kind) (x y : Value) → HasValue (scalar k) x → HasValue (scalar k) y → SameFieldType x y
same_scalars k x y h g =
    by_number (λ a. SameFieldType a y) k x h (λ m r. by_number (λ b. SameFieldType (number k m) b) k y g (λ n s. refl))

same_lists : (t : TypeTree) (x y : Value) → IsScalarType t → HasValue (vec t) x → HasValue (vec t) y → SameFieldType x y
same_lists (scalar k) x y s h g =
    by_list (λ a. SameFieldType a y) (HasValue (scalar k)) x h (λ xs p. by_list (λ b. SameFieldType (list xs) b) (HasValue (scalar k)) y g (λ ys q. (k, numbers_are k xs p, numbers_are k ys q)))
same_lists (vec t) x y s h g = absurd s
same_lists (tuple ts) x y s h g = absurd s
same_lists (mapping k v) x y s h g = absurd s
same_lists (build b) x y s h g = absurd s

same_key_field : (t : TypeTree) (x y : Value) → IsKeyField t → HasValue t x → HasValue t y → SameFieldType x y
same_key_field (scalar k) x y s h g = same_scalars k x y h g
same_key_field (vec t) x y s h g = same_lists t x y s h g
same_key_field (tuple ts) x y s h g = absurd s
same_key_field (mapping k v) x y s h g = absurd s
same_key_field (build b) x y s h g = absurd s

same_fields : (ts : TypeTrees) (xs ys : Values) → AreKeyFields ts → HaveValues ts xs → HaveValues ts ys → SameFieldTypes xs ys
same_fields no_types no_values no_values s h g = tt
same_fields no_types no_values (and_value y ys) s h g = absurd g
same_fields no_types (and_value x xs) ys s h g = absurd h
same_fields (more_types t ts) no_values ys s h g = absurd h
same_fields (more_types t ts) (and_value x xs) no_values s h g = absurd g
same_fields (more_types t ts) (and_value x xs) (and_value y ys) s h g = (same_key_field t x y s.0 h.0 g.0, same_fields ts xs ys s.1 h.1 g.1)

-- key fields of one type are keys of one type
keys_of_fields : (x y : Value) → SameFieldType x y → SameKeyType x y
keys_of_fields (number k x) y s = s
keys_of_fields (list xs) y s = s
keys_of_fields (struct xs) y s = absurd s
keys_of_fields (dict es) y s = absurd s

same_structs : (ts : TypeTrees) (xs ys : Values) → HasTypes ts → AreKeyFields ts → HaveValues ts xs → HaveValues ts ys → SameKeyType (struct xs) (struct ys)
same_structs no_types xs ys some s h g = absurd some
same_structs (more_types t ts) no_values ys some s h g = absurd h
same_structs (more_types t ts) (and_value x xs) no_values some s h g = absurd g
same_structs (more_types t ts) (and_value x xs) (and_value y ys) some s h g = (same_key_field t x y s.0 h.0 g.0, same_fields ts xs ys s.1 h.1 g.1)

same_keys : (t : TypeTree) (x y : Value) → IsKey t → HasValue t x → HasValue t y → SameKeyType x y
same_keys (scalar k) x y s h g = keys_of_fields x y (same_scalars k x y h g)
same_keys (vec t) x y s h g = keys_of_fields x y (same_lists t x y s h g)
same_keys (tuple ts) x y s h g =
    by_struct (λ a. SameKeyType a y) (HaveValues ts) x h (λ xs p. by_struct (λ b. SameKeyType (struct xs) b) (HaveValues ts) y g (λ ys q. same_structs ts xs ys s.0 s.1 p q))
same_keys (mapping k v) x y s h g = absurd s
same_keys (build b) x y s h g = absurd s

key_of_scalar : (k : Kind) (x : Value) → HasValue (scalar k) x → IsKeyFieldValue x
key_of_scalar k x h = by_number IsKeyFieldValue k x h (λ m r. tt)

key_of_list : (t : TypeTree) (x : Value) → IsScalarType t → HasValue (vec t) x → IsKeyFieldValue x
key_of_list (scalar k) x s h = by_list IsKeyFieldValue (HasValue (scalar k)) x h (λ xs p. (k, numbers_are k xs p))
key_of_list (vec t) x s h = absurd s
key_of_list (tuple ts) x s h = absurd s
key_of_list (mapping k v) x s h = absurd s
key_of_list (build b) x s h = absurd s

key_of_field : (t : TypeTree) (x : Value) → IsKeyField t → HasValue t x → IsKeyFieldValue x
key_of_field (scalar k) x s h = key_of_scalar k x h
key_of_field (vec t) x s h = key_of_list t x s h
key_of_field (tuple ts) x s h = absurd s
key_of_field (mapping k v) x s h = absurd s
key_of_field (build b) x s h = absurd s

keys_of_types : (ts : TypeTrees) (xs : Values) → AreKeyFields ts → HaveValues ts xs → AreKeyFieldValues xs
keys_of_types no_types no_values s h = tt
keys_of_types no_types (and_value x xs) s h = absurd h
keys_of_types (more_types t ts) no_values s h = absurd h
keys_of_types (more_types t ts) (and_value x xs) s h = (key_of_field t x s.0 h.0, keys_of_types ts xs s.1 h.1)

a_key_field : (x : Value) → IsKeyFieldValue x → IsKeyValue x
a_key_field (number k x) h = h
a_key_field (list xs) h = h
a_key_field (struct xs) h = absurd h
a_key_field (dict es) h = absurd h

key_of_struct : (ts : TypeTrees) (xs : Values) → HasTypes ts → AreKeyFields ts → HaveValues ts xs → IsKeyValue (struct xs)
key_of_struct no_types xs some s h = absurd some
key_of_struct (more_types t ts) no_values some s h = absurd h
key_of_struct (more_types t ts) (and_value x xs) some s h = (key_of_field t x s.0 h.0, keys_of_types ts xs s.1 h.1)

is_key : (t : TypeTree) (x : Value) → IsKey t → HasValue t x → IsKeyValue x
is_key (scalar k) x s h = a_key_field x (key_of_scalar k x h)
is_key (vec t) x s h = a_key_field x (key_of_list t x s h)
is_key (tuple ts) x s h = by_struct IsKeyValue (HaveValues ts) x h (λ xs p. key_of_struct ts xs s.0 s.1 p)
is_key (mapping k v) x s h = absurd s
is_key (build b) x s h = absurd s

-- ---- maps

-- what the proofs take from the laws of builders: the order of values is total, and on keys of one type it is that of keys
pub record KeyLaws : Type 0 where
  pub total : IsTotalOrder value_cmp
  pub alike : (x y : Value) → SameKeyType x y → KeyStands (value_cmp x y) x y

entries_put : {X : Type 0} (P : Value → Type 0) (Q : X → Type 0) (es : List (Value × X)) (k : Value) (x : X) → EntriesHave P Q es → P k → Q x → EntriesHave P Q (finite.put value_cmp k x es)
entries_put P Q [] k x h p q = (p, q, tt)
entries_put {X} P Q (e ∷ es) k x h p q = by (entries_put P Q es k x h.2 p q) (value_cmp k e.0)
  where
    by : EntriesHave P Q (finite.put value_cmp k x es) → (r : Ordering) → EntriesHave P Q (by_order r ((k, x) ∷ e ∷ es) ((e.0, x) ∷ es) (e ∷ finite.put value_cmp k x es))
    by rest Less = (p, q, h)
    by rest Equal = (h.0, q, h.2)
    by rest Greater = (h.0, h.1, rest)

entries_insert : {X : Type 0} (P : Value → Type 0) (Q : X → Type 0) → IsTotalOrder value_cmp → (m : ValueMap X) (k : Value) (x : X) → EntriesHave P Q (finite.entries m) → P k → Q x → EntriesHave P Q (finite.entries (finite.insert m k x))
entries_insert P Q o m k x h p q = subst (EntriesHave P Q) (sym (finite.entries-insert o m k x)) (entries_put P Q (finite.entries m) k x h p q)

-- what may be there has the property
abbrev MayHave : {X : Type 0} → (X → Type 0) → Option X → Type 0
MayHave Q None = Unit {0}
MayHave Q (Some x) = Q x

find_has : {X : Type 0} (P : Value → Type 0) (Q : X → Type 0) (q : Value) (es : List (Value × X)) → EntriesHave P Q es → MayHave Q (finite.find value_cmp q es)
find_has P Q q [] h = tt
find_has {X} P Q q (e ∷ es) h = by (eq_by_cmp value_cmp q e.0) (find_has P Q q es h.2)
  where
    by : (b : Bool) → MayHave Q (finite.find value_cmp q es) → MayHave Q (cond b (Some e.1) (finite.find value_cmp q es))
    by true rest = h.1
    by false rest = rest

get_has : {X : Type 0} (P : Value → Type 0) (Q : X → Type 0) (m : ValueMap X) (q : Value) → EntriesHave P Q (finite.entries m) → MayHave Q (finite.get m q)
get_has P Q m q h = subst (MayHave Q) (sym (finite.get-entries m q)) (find_has P Q q (finite.entries m) h)

no_length : {A : Type 0} (es : List A) → length es ≡ 0 → es ≡ []
no_length [] e = refl
no_length (x ∷ es) e = absurd (omega arith)

entries_empty : {X : Type 0} (P : Value → Type 0) (Q : X → Type 0) → EntriesHave P Q (finite.entries {R = value_cmp} finite.empty)
entries_empty {X} P Q =
    subst (EntriesHave P Q) (sym (no_length (finite.entries finite.empty) (sym (finite.len-entries finite.empty) ∙ finite.len-empty value_cmp X))) tt

-- ---- rising keys

and_split : (a b : Bool) → T (a && b) → T a × T b
and_split true b h = (tt, h)
and_split false b h = absurd h

key_precedes : KeyLaws → (t : TypeTree) → IsKey t → (x y : Value) → HasValue t x → HasValue t y → T (is_lt (value_cmp x y)) → KeyPrecedes x y
key_precedes laws t s x y h g l = let k = same_keys t x y s h g in by (value_cmp x y) (laws.alike x y k) l
  where
    by : (r : Ordering) → KeyStands r x y → T (is_lt r) → KeyPrecedes x y
    by Less c l = record { same_type = same_keys t x y s h g; less = c }
    by Equal c l = absurd l
    by Greater c l = absurd l

precede_all : {X : Type 0} → KeyLaws → (t : TypeTree) → IsKey t → (Q : X → Type 0) (f : X → Value) (x : Value) (w : Value) (es : List (Value × X)) → HasValue t x → EntriesHave (HasValue t) Q es → T (below_all value_cmp x es) → All (λ (b : Value × Value). KeyPrecedes x b.0) (map (λ (e : Value × X). (e.0, f e.1)) es)
precede_all laws t s Q f x w [] h g l = All-nil _
precede_all laws t s Q f x w (e ∷ es) h g l =
    let p = and_split (is_lt (value_cmp x e.0)) _ l in
    All-cons (λ (b : Value × Value). KeyPrecedes x b.0) (e.0, f e.1) _ (key_precedes laws t s x e.0 h g.0 p.0) (precede_all laws t s Q f x w es h g.2 p.1)

keys_all : {X : Type 0} (t : TypeTree) → IsKey t → (Q : X → Type 0) (f : X → Value) (es : List (Value × X)) → EntriesHave (HasValue t) Q es → All (λ (e : Value × Value). IsKeyValue e.0) (map (λ (e : Value × X). (e.0, f e.1)) es)
keys_all t s Q f [] h = All-nil _
keys_all t s Q f (e ∷ es) h = All-cons (λ (b : Value × Value). IsKeyValue b.0) (e.0, f e.1) _ (is_key t e.0 s h.0) (keys_all t s Q f es h.2)

pairs_all : {X : Type 0} → KeyLaws → (t : TypeTree) → IsKey t → (Q : X → Type 0) (f : X → Value) (es : List (Value × X)) → EntriesHave (HasValue t) Q es → T (finite.is_sorted value_cmp es) → AllPairs (λ (a b : Value × Value). KeyPrecedes a.0 b.0) (map (λ (e : Value × X). (e.0, f e.1)) es)
pairs_all laws t s Q f [] h l = λ i j d a b. absurd (omega arith)
pairs_all laws t s Q f (e ∷ es) h l =
    let p = and_split (below_all value_cmp e.0 es) _ l in
    AllPairs-cons (λ (a b : Value × Value). KeyPrecedes a.0 b.0) (e.0, f e.1) _ (precede_all laws t s Q f e.0 (f e.1) es h.0 h.2 p.0) (pairs_all laws t s Q f es h.2 p.1)

rise_all : {X : Type 0} → KeyLaws → (t : TypeTree) → IsKey t → (Q : X → Type 0) (f : X → Value) (es : List (Value × X)) → EntriesHave (HasValue t) Q es → T (finite.is_sorted value_cmp es) → Rises (map (λ (e : Value × X). (e.0, f e.1)) es)
rise_all laws t s Q f es h l = record { keys = keys_all t s Q f es h; rise = pairs_all laws t s Q f es h l }

all_entries : {X : Type 0} (P : Value → Type 0) (Q : X → Type 0) (R : Value → Type 0) (f : X → Value) → ((x : X) → Q x → R (f x)) → (es : List (Value × X)) → EntriesHave P Q es → AllEntriesAre P R (entries (map (λ (e : Value × X). (e.0, f e.1)) es))
all_entries P Q R f g [] h = tt
all_entries P Q R f g (e ∷ es) h = (h.0, g e.1 h.1, all_entries P Q R f g es h.2)

dictionary_has : {X : Type 0} → KeyLaws → (s t : TypeTree) → IsKey s → (Q : X → Type 0) (f : X → Value) → ((x : X) → Q x → HasValue t (f x)) → (m : ValueMap X) → EntriesHave (HasValue s) Q (finite.entries m) → HasValue (mapping s t) (dict (entries (map (λ (e : Value × X). (e.0, f e.1)) (finite.entries m))))
dictionary_has laws s t key Q f g m h = (
  all_entries (HasValue s) Q (HasValue t) f g (finite.entries m) h,
  subst Rises (sym (list_of_entries-entries (map (λ e. (e.0, f e.1)) (finite.entries m)))) (rise_all laws s key Q f (finite.entries m) h (finite.entries_sorted m)),
)

-- ---- starts

start_in_range : (op : MergeOp) (k : Kind) → InRange k (start_of op k)
start_in_range ops.Add k = record { low = least_below k; high = greatest_above k }
start_in_range ops.Mul kinds.Bool = record { low = omega (arith, ints); high = omega (arith, ints) }
start_in_range ops.Mul kinds.I8 = record { low = omega (arith, ints); high = omega (arith, ints) }
start_in_range ops.Mul kinds.I16 = record { low = omega (arith, ints); high = omega (arith, ints) }
start_in_range ops.Mul kinds.I32 = record { low = omega (arith, ints); high = omega (arith, ints) }
start_in_range ops.Mul kinds.I64 = record { low = omega (arith, ints); high = omega (arith, ints) }
start_in_range ops.Mul kinds.U8 = record { low = omega (arith, ints); high = omega (arith, ints) }
start_in_range ops.Mul kinds.U16 = record { low = omega (arith, ints); high = omega (arith, ints) }
start_in_range ops.Mul kinds.U32 = record { low = omega (arith, ints); high = omega (arith, ints) }
start_in_range ops.Mul kinds.U64 = record { low = omega (arith, ints); high = omega (arith, ints) }
start_in_range ops.Min k = record { low = omega (arith, ints, least_below k, greatest_above k); high = omega (arith, ints) }
start_in_range ops.Max k = record { low = omega (arith, ints); high = omega (arith, ints, least_below k, greatest_above k) }

-- kinds, one for each field
abbrev KindsFit : List Kind → TypeTrees → Type 0
KindsFit [] no_types = Unit {0}
KindsFit [] (more_types t ts) = ⊥
KindsFit (k ∷ ks) no_types = ⊥
KindsFit (k ∷ ks) (more_types t ts) = (t ≡ scalar k) × KindsFit ks ts

kinds_good : (ts : TypeTrees) → AreIntegerTypes ts → Good (λ ks. KindsFit ks ts) (kinds_in ts)
kinds_good no_types h = good tt
kinds_good (more_types (scalar k) ts) h = map_good _ (kinds_good ts h.1) (λ ks f. (refl, f))
kinds_good (more_types (vec t) ts) h = absurd h.0
kinds_good (more_types (tuple us) ts) h = absurd h.0
kinds_good (more_types (mapping s t) ts) h = absurd h.0
kinds_good (more_types (build b) ts) h = absurd h.0

neutral_fits : (op : MergeOp) (ks : List Kind) (ts : TypeTrees) → KindsFit ks ts → TotalsFit (neutral_totals op ks) ts
neutral_fits op [] no_types h = tt
neutral_fits op [] (more_types t ts) h = absurd h
neutral_fits op (k ∷ ks) no_types h = absurd h
neutral_fits op (k ∷ ks) (more_types t ts) h = (h.0, start_in_range op k, neutral_fits op ks ts h.1)

-- a number in range for each
abbrev AreFor : Totals → List ℤ → Type 0
AreFor [] [] = Unit {0}
AreFor [] (y ∷ ys) = ⊥
AreFor (x ∷ xs) [] = ⊥
AreFor (x ∷ xs) (y ∷ ys) = InRange x.0 y × AreFor xs ys

fields_good : (xs : Totals) (ts : TypeTrees) (vs : Values) → TotalsFit xs ts → HaveValues ts vs → Good (AreFor xs) (as_numbers vs)
fields_good [] no_types no_values h g = good tt
fields_good [] no_types (and_value v vs) h g = absurd g
fields_good [] (more_types t ts) vs h g = absurd h
fields_good (x ∷ xs) no_types vs h g = absurd h
fields_good (x ∷ xs) (more_types t ts) no_values h g = absurd g
fields_good (x ∷ xs) (more_types t ts) (and_value v vs) h g =
    then_good _ (as_number_good x.0 v (subst (λ u. HasValue u v) h.0 g.0)) (λ y r. map_good _ (fields_good xs ts vs h.2 g.1) (λ ys rs. (r, rs)))

struct_good : (xs : Totals) (ts : TypeTrees) (v : Value) → TotalsFit xs ts → HasValue (tuple ts) v → Good (AreFor xs) (as_fields v)
struct_good xs ts v h g = by_struct (λ a. Good (AreFor xs) (as_fields a)) (HaveValues ts) v g (λ vs k. fields_good xs ts vs h k)

with_kinds_good : (op : MergeOp) (ks : List Kind) (ts : TypeTrees) (ys : List ℤ) → KindsFit ks ts → AreFor (neutral_totals op ks) ys → Good (λ xs. TotalsFit xs ts) (with_kinds ks ys)
with_kinds_good op [] no_types [] f h = good tt
with_kinds_good op [] no_types (y ∷ ys) f h = absurd h
with_kinds_good op [] (more_types t ts) ys f h = absurd f
with_kinds_good op (k ∷ ks) no_types ys f h = absurd f
with_kinds_good op (k ∷ ks) (more_types t ts) [] f h = absurd h
with_kinds_good op (k ∷ ks) (more_types t ts) (y ∷ ys) f h = map_good _ (with_kinds_good op ks ts ys f.1 h.1) (λ xs g. (f.0, h.0, g))

-- the form of a merger of structs
abbrev IsTotalsForm : MergeOp → TypeTrees → BuilderForm → Type 0
IsTotalsForm op ts f = (ks : List Kind) × (f ≡ totals_builder op ks) × KindsFit ks ts

totals_form_good : (op : MergeOp) (ts : TypeTrees) → AreIntegerTypes ts → Good (IsTotalsForm op ts) (map_out (totals_builder op) (kinds_in ts))
totals_form_good op ts h = map_good _ (kinds_good ts h) (λ ks f. (ks, refl, f))

fresh_totals : (op : MergeOp) (ts : TypeTrees) (f : BuilderForm) → IsWellFormedBuild (total (tuple ts) op) → IsTotalsForm op ts f → Good (λ x. HasThing x (build (total (tuple ts) op))) (map_out building (start f None))
fresh_totals op ts f w g =
    subst (λ c. Good (λ x. HasThing x (build (total (tuple ts) op))) (map_out building (start c None))) (sym g.1) (good (w, (refl, neutral_fits op g.0 ts g.2)))

started_totals : (op : MergeOp) (ts : TypeTrees) (v : Value) (f : BuilderForm) → IsWellFormedBuild (total (tuple ts) op) → HasValue (tuple ts) v → IsTotalsForm op ts f → Good (λ x. HasThing x (build (total (tuple ts) op))) (map_out building (start f (Some v)))
started_totals op ts v f w h g =
    subst (λ c. Good (λ x. HasThing x (build (total (tuple ts) op))) (map_out building (start c (Some v)))) (sym g.1)
    (map_good {P = λ p. HasPart p (total (tuple ts) op)} building
    (map_good _ (then_good (with_kinds g.0) (struct_good (neutral_totals op g.0) ts v (neutral_fits op g.0 ts g.2) h) (λ ys r. with_kinds_good op g.0 ts ys g.2 r)) (λ xs r. (refl, r))) (λ p q. (w, q)))

pub fresh_good : (b : BuildTree) → MayBeFresh b → IsWellFormedBuild b → Good (λ x. HasThing x (build b)) (started_builder b None)
fresh_good (list_of t) m w = good (w, tt)
fresh_good (total (scalar k) op) m w = good (w, (refl, refl, start_in_range op k))
fresh_good (total (vec t) op) m w = absurd w
fresh_good (total (tuple ts) op) m w = then_good _ (totals_form_good op ts w.1) (λ f g. fresh_totals op ts f w g)
fresh_good (total (mapping k v) op) m w = absurd w
fresh_good (total (build b) op) m w = absurd w
fresh_good (keyed s (scalar k) op) m w = good (w, (refl, refl, entries_empty (HasValue s) (InRange k)))
fresh_good (keyed s (vec t) op) m w = absurd w.1
fresh_good (keyed s (tuple ts) op) m w = absurd w.1
fresh_good (keyed s (mapping k v) op) m w = absurd w.1
fresh_good (keyed s (build b) op) m w = absurd w.1
fresh_good (cells t op) m w = absurd m
fresh_good (groups s t) m w = good (w, entries_empty (HasValue s) (λ vs. AllAre (HasValue t) (values vs)))

numbers_good : (k : Kind) (vs : Values) → AllAre (HasValue (scalar k)) vs → Good (AllInRange k) (as_numbers vs)
numbers_good k no_values h = good tt
numbers_good k (and_value v vs) h = then_good _ (as_number_good k v h.0) (λ x r. map_good _ (numbers_good k vs h.1) (λ xs rs. (r, rs)))

total_start_good : (t : TypeTree) (op : MergeOp) (v : Value) → IsMergerType t → HasValue t v → Good (λ x. HasThing x (build (total t op))) (started_builder (total t op) (Some v))
total_start_good (scalar k) op v w h = map_good building (map_good _ (as_number_good k v h) (λ x r. (refl, refl, r))) (λ p g. (w, g))
total_start_good (vec t) op v w h = absurd w
total_start_good (tuple ts) op v w h = then_good _ (totals_form_good op ts w.1) (λ f g. started_totals op ts v f w h g)
total_start_good (mapping s t) op v w h = absurd w
total_start_good (build b) op v w h = absurd w

cells_start_good : (t : TypeTree) (op : MergeOp) (v : Value) → IsIntegerType t → HasValue (vec t) v → Good (λ x. HasThing x (build (cells t op))) (started_builder (cells t op) (Some v))
cells_start_good (scalar k) op v w h =
    map_good {P = λ p. HasPart p (cells (scalar k) op)} building (map_good _ (by_list (λ a. Good (AllInRange k) (as_number_list a)) (HasValue (scalar k)) v h (λ vs all. numbers_good k vs all)) (λ xs r. (refl, refl, r))) (λ p g. (w, g))
cells_start_good (vec t) op v w h = absurd w
cells_start_good (tuple ts) op v w h = absurd w
cells_start_good (mapping s t) op v w h = absurd w
cells_start_good (build b) op v w h = absurd w

pub started_good : (b : BuildTree) (u : TypeTree) (v : Value) → IsWellFormedBuild b → StartHas b u → HasValue u v → Good (λ x. HasThing x (build b)) (started_builder b (Some v))
started_good (list_of t) u v w s h = absurd s
started_good (total t op) u v w s h = total_start_good t op v w (subst (λ x. HasValue x v) s h)
started_good (keyed k t op) u v w s h = absurd s
started_good (cells t op) u v w s h = cells_start_good t op v w (subst (λ x. HasValue x v) s h)
started_good (groups k t) u v w s h = absurd s

-- ---- merging

cell_good : (k : Kind) (xs : List ℤ) (i : ℕ) → AllInRange k xs → Good (InRange k) (or_fault (slice_get xs i))
cell_good k [] i h = good_fault
cell_good k (x ∷ xs) zero h = good h.0
cell_good k (x ∷ xs) (suc i) h = cell_good k xs i h.1

set_in_range : (k : Kind) (xs : List ℤ) (i : ℕ) (z : ℤ) → AllInRange k xs → InRange k z → AllInRange k (slice_set xs i z)
set_in_range k [] i z h r = tt
set_in_range k (x ∷ xs) zero z h r = (r, h.1)
set_in_range k (x ∷ xs) (suc i) z h r = (h.0, set_in_range k xs i z h.1 r)

merge_cell_good : (op : MergeOp) (k : Kind) (xs : List ℤ) (i y : ℤ) → AllInRange k xs → InRange k y → Good (AllInRange k) (merge_cell op k xs i y)
merge_cell_good op k xs (pos i) y h r = map_good _ (cell_good k xs i h) (λ x s. set_in_range k xs i _ h (InRange-combination op k x y s r))
merge_cell_good op k xs (negsuc i) y h r = good_fault

-- the fields of a pair
by_pair : (C : Value → Type 0) (s t : TypeTree) (v : Value) → HasValue (pair_of s t) v → ((x y : Value) → HasValue s x → HasValue t y → C (struct (and_value x (and_value y no_values)))) → C v
by_pair C s t v h c = by_struct C (HaveValues (more_types s (more_types t no_types))) v h by
  where
    by : (vs : Values) → HaveValues (more_types s (more_types t no_types)) vs → C (struct vs)
    by no_values h = absurd h
    by (and_value x no_values) h = absurd h.1
    by (and_value x (and_value y no_values)) h = c x y h.0 h.1.0
    by (and_value x (and_value y (and_value z vs))) h = absurd h.1.1

cells_merge_good : (op o : MergeOp) (k : Kind) (xs : List ℤ) (t : TypeTree) (v : Value) → HasPart (cells_part op k xs) (cells t o) → HasValue (pair_of place_type t) v → Good (λ q. HasPart q (cells t o)) (merge_part (cells_part op k xs) v)
cells_merge_good op o k xs t v h g = by_pair (λ a. Good (λ q. HasPart q (cells t o)) (merge_part (cells_part op k xs) a)) place_type t v g (λ i y p q.
    then_good {P = InRange kinds.I64} _ (as_number_good kinds.I64 i p) (λ n r. then_good _ (as_number_good k y (subst (λ u. HasValue u y) h.1 q)) (λ m s. map_good (cells_part op k) (merge_cell_good op k xs n m h.2 s) (λ ys all. (h.0, h.1, all)))))

combined_in_range : (op : MergeOp) (k : Kind) (m : Option ℤ) (y : ℤ) → MayHave (InRange k) m → InRange k y → InRange k (combined op k m y)
combined_in_range op k None y h r = r
combined_in_range op k (Some x) y h r = InRange-combination op k x y h r

keyed_merge_good : IsTotalOrder value_cmp → (op o : MergeOp) (k : Kind) (m : ValueMap ℤ) (s t : TypeTree) (v : Value) → HasPart (keyed_part op k m) (keyed s t o) → HasValue (pair_of s t) v → Good (λ q. HasPart q (keyed s t o)) (merge_part (keyed_part op k m) v)
keyed_merge_good law op o k m s t v h g = by_pair (λ a. Good (λ q. HasPart q (keyed s t o)) (merge_part (keyed_part op k m) a)) s t v g (λ x y p q.
    map_good _ (as_number_good k y (subst (λ u. HasValue u y) h.1 q)) (λ n r.
    (h.0, h.1, entries_insert (HasValue s) (InRange k) law m x _ h.2 p (combined_in_range op k (finite.get m x) n (get_has (HasValue s) (InRange k) m x h.2) r))))

appended_all : (P : Value → Type 0) (m : Option (List Value)) (y : Value) → MayHave (λ vs. AllAre P (values vs)) m → P y → AllAre P (values (appended m (y ∷ [])))
appended_all P None y h p = (p, tt)
appended_all P (Some xs) y h p = all_append P xs (y ∷ []) h (p, tt)

groups_merge_good : IsTotalOrder value_cmp → (m : ValueMap (List Value)) (s t : TypeTree) (v : Value) → HasPart (groups_part m) (groups s t) → HasValue (pair_of s t) v → Good (λ q. HasPart q (groups s t)) (merge_part (groups_part m) v)
groups_merge_good law m s t v h g = by_pair (λ a. Good (λ q. HasPart q (groups s t)) (merge_part (groups_part m) a)) s t v g (λ x y p q.
    good (entries_insert (HasValue s) (λ vs. AllAre (HasValue t) (values vs)) law m x _ h p (appended_all (HasValue t) (finite.get m x) y (get_has (HasValue s) (λ vs. AllAre (HasValue t) (values vs)) m x h) q)))

merge_totals_good : (op : MergeOp) (xs : Totals) (ts : TypeTrees) (ys : List ℤ) → TotalsFit xs ts → AreFor xs ys → Good (λ zs. TotalsFit zs ts) (merge_totals op xs ys)
merge_totals_good op [] no_types [] f h = good tt
merge_totals_good op [] no_types (y ∷ ys) f h = absurd h
merge_totals_good op [] (more_types t ts) ys f h = absurd f
merge_totals_good op (x ∷ xs) no_types ys f h = absurd f
merge_totals_good op (x ∷ xs) (more_types t ts) [] f h = absurd h
merge_totals_good op (x ∷ xs) (more_types t ts) (y ∷ ys) f h =
    map_good _ (merge_totals_good op xs ts ys f.2 h.1) (λ zs g. (f.0, InRange-combination op x.0 x.1 y f.1 h.0, g))

totals_merge_good : (op o : MergeOp) (xs : Totals) (t : TypeTree) (v : Value) → HasPart (totals_part op xs) (total t o) → HasValue t v → Good (λ q. HasPart q (total t o)) (merge_part (totals_part op xs) v)
totals_merge_good op o xs (tuple ts) v h g =
    then_good _ (struct_good xs ts v h.1 g) (λ ys r. map_good (totals_part op) (merge_totals_good op xs ts ys h.1 r) (λ zs f. (h.0, f)))
totals_merge_good op o xs (scalar k) v h g = absurd h.1
totals_merge_good op o xs (vec t) v h g = absurd h.1
totals_merge_good op o xs (mapping s t) v h g = absurd h.1
totals_merge_good op o xs (build b) v h g = absurd h.1

pub merge_good : IsTotalOrder value_cmp → (p : Part) (b : BuildTree) (v : Value) → HasPart p b → HasValue (takes b) v → Good (λ q. HasPart q b) (merge_part p v)
merge_good law (list_part vs) (list_of t) v h g = good (all_append (HasValue t) vs (v ∷ []) h (g, tt))
merge_good law (list_part vs) _ v h g = absurd h
merge_good law (total_part op k x) (total t o) v h g =
    map_good _ (as_number_good k v (subst (λ u. HasValue u v) h.1 g)) (λ y r. (h.0, h.1, InRange-combination op k x y h.2 r))
merge_good law (total_part op k x) _ v h g = absurd h
merge_good law (totals_part op xs) (total t o) v h g = totals_merge_good op o xs t v h g
merge_good law (totals_part op xs) _ v h g = absurd h
merge_good law (cells_part op k xs) (cells t o) v h g = cells_merge_good op o k xs t v h g
merge_good law (cells_part op k xs) _ v h g = absurd h
merge_good law (keyed_part op k m) (keyed s t o) v h g = keyed_merge_good law op o k m s t v h g
merge_good law (keyed_part op k m) _ v h g = absurd h
merge_good law (groups_part m) (groups s t) v h g = groups_merge_good law m s t v h g
merge_good law (groups_part m) _ v h g = absurd h

-- ---- results

numbers_have : (k : Kind) (xs : List ℤ) → AllInRange k xs → AllAre (HasValue (scalar k)) (values (map (number k) xs))
numbers_have k [] h = tt
numbers_have k (x ∷ xs) h = ((refl, h.0), numbers_have k xs h.1)

totals_have : (xs : Totals) (ts : TypeTrees) → TotalsFit xs ts → HaveValues ts (values (map (λ (x : Kind × ℤ). number x.0 x.1) xs))
totals_have [] no_types h = tt
totals_have [] (more_types t ts) h = absurd h
totals_have (x ∷ xs) no_types h = absurd h
totals_have (x ∷ xs) (more_types t ts) h = (subst (λ u. HasValue u (number x.0 x.1)) (sym h.0) (refl, h.1), totals_have xs ts h.2)

totals_result : (op : MergeOp) (xs : Totals) (t : TypeTree) → AreTotals xs t → HasValue t (result_of (totals_part op xs))
totals_result op xs (tuple ts) h = totals_have xs ts h
totals_result op xs (scalar k) h = absurd h
totals_result op xs (vec t) h = absurd h
totals_result op xs (mapping s t) h = absurd h
totals_result op xs (build b) h = absurd h

pub result_has : KeyLaws → (p : Part) (b : BuildTree) → IsWellFormedBuild b → HasPart p b → HasValue (gives b) (result_of p)
result_has laws (list_part vs) (list_of t) w h = h
result_has laws (list_part vs) _ w h = absurd h
result_has laws (total_part op k x) (total t o) w h = subst (λ u. HasValue u (number k x)) (sym h.1) (refl, h.2)
result_has laws (total_part op k x) _ w h = absurd h
result_has laws (totals_part op xs) (total t o) w h = totals_result op xs t h.1
result_has laws (totals_part op xs) _ w h = absurd h
result_has laws (cells_part op k xs) (cells t o) w h = subst (λ u. HasValue (vec u) (list (values (map (number k) xs)))) (sym h.1) (numbers_have k xs h.2)
result_has laws (cells_part op k xs) _ w h = absurd h
result_has laws (keyed_part op k m) (keyed s t o) w h =
    subst (λ u. HasValue (mapping s u) (result_of (keyed_part op k m))) (sym h.1) (dictionary_has laws s (scalar k) w.0 (InRange k) (number k) (λ x r. (refl, r)) m h.2)
result_has laws (keyed_part op k m) _ w h = absurd h
result_has laws (groups_part m) (groups s t) w h = dictionary_has laws s (vec t) w.0 (λ vs. AllAre (HasValue t) (values vs)) (λ vs. list (values vs)) (λ vs all. all) m h
result_has laws (groups_part m) _ w h = absurd h

-- ---- builders that have nothing merged

repeated_in_range : (k : Kind) (x : ℤ) (n : ℕ) → InRange k x → AllInRange k (repeated x n)
repeated_in_range k x zero r = tt
repeated_in_range k x (suc n) r = (r, repeated_in_range k x n r)

neutral_totals_fit : (op : MergeOp) (xs : Totals) (ts : TypeTrees) → TotalsFit xs ts → TotalsFit (neutral_totals op (kinds_of xs)) ts
neutral_totals_fit op [] no_types h = tt
neutral_totals_fit op [] (more_types t ts) h = absurd h
neutral_totals_fit op (x ∷ xs) no_types h = absurd h
neutral_totals_fit op (x ∷ xs) (more_types t ts) h = (h.0, start_in_range op x.0, neutral_totals_fit op xs ts h.2)

neutral_totals_are : (op : MergeOp) (xs : Totals) (t : TypeTree) → AreTotals xs t → AreTotals (neutral_totals op (kinds_of xs)) t
neutral_totals_are op xs (tuple ts) h = neutral_totals_fit op xs ts h
neutral_totals_are op xs (scalar k) h = absurd h
neutral_totals_are op xs (vec t) h = absurd h
neutral_totals_are op xs (mapping s t) h = absurd h
neutral_totals_are op xs (build b) h = absurd h

pub bare_has : (p : Part) (b : BuildTree) → HasPart p b → HasPart (bare p) b
bare_has (list_part vs) (list_of t) h = tt
bare_has (list_part vs) _ h = absurd h
bare_has (total_part op k x) (total t o) h = (h.0, h.1, start_in_range op k)
bare_has (total_part op k x) _ h = absurd h
bare_has (totals_part op xs) (total t o) h = (h.0, neutral_totals_are op xs t h.1)
bare_has (totals_part op xs) _ h = absurd h
bare_has (cells_part op k xs) (cells t o) h = (h.0, h.1, repeated_in_range k (start_of op k) (length xs) (start_in_range op k))
bare_has (cells_part op k xs) _ h = absurd h
bare_has (keyed_part op k m) (keyed s t o) h = (h.0, h.1, entries_empty (HasValue s) (InRange k))
bare_has (keyed_part op k m) _ h = absurd h
bare_has (groups_part m) (groups s t) h = entries_empty (HasValue s) (λ vs. AllAre (HasValue t) (values vs))
bare_has (groups_part m) _ h = absurd h
