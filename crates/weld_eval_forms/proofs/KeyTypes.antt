-- Values of a type that keys may have are keys of one key type.
use Rattle.std.proofs.Common.{List, [], ◌∷◌}
use Rattle.std.proofs.lemmas.List.Elements.{All-cons, All-nil}
use Rattle.weld_data.specs.declared.kind.Kind.{Kind}
use Rattle.weld_data.specs.Order.{AreNumbers, IsKey as IsKeyValue, IsKeyFor, SameKeyType, FieldType, number_of, list_of, KeyType, one_field, fields, HasFieldType, HaveFieldTypes, HasKeyType}
use Rattle.weld_data.specs.Value.{Value, number, list, struct, dict, Values, no_values, and_value, Entries, no_entries, and_entry, list_of_entries}
use Rattle.weld_data.proofs.Keys.{key_types_agree, key_of_type}
use Rattle.weld_tree.specs.TypeTree.{TypeTree, TypeTrees, scalar, vec, struct as tuple, dict as mapping, build, no_types, more_types}
use Rattle.weld_tree.specs.Types.{IsKeyField, AreKeyFields, IsKey}
use Rattle.weld_tree.specs.HasValue.{HasValue, HaveValues, AllAre, AllEntriesAre}

numbers_are : (k : Kind) (vs : Values) → AllAre (HasValue (scalar k)) vs → AreNumbers k vs
numbers_are k no_values h = tt
numbers_are k (and_value (number m x) vs) h = (h.0.0, numbers_are k vs h.1)
numbers_are k (and_value (list xs) vs) h = absurd h.0
numbers_are k (and_value (struct xs) vs) h = absurd h.0
numbers_are k (and_value (dict es) vs) h = absurd h.0

number_typed : (k : Kind) (x : Value) → HasValue (scalar k) x → HasFieldType (number_of k) x
number_typed k (number m x) h = h.0
number_typed k (list xs) h = absurd h
number_typed k (struct xs) h = absurd h
number_typed k (dict es) h = absurd h

list_typed : (k : Kind) (x : Value) → HasValue (vec (scalar k)) x → HasFieldType (list_of k) x
list_typed k (number m x) h = absurd h
list_typed k (list xs) h = numbers_are k xs h
list_typed k (struct xs) h = absurd h
list_typed k (dict es) h = absurd h

field_type : (t : TypeTree) → IsKeyField t → (f : FieldType) × ((x : Value) → HasValue t x → HasFieldType f x)
field_type (scalar k) s = (number_of k, number_typed k)
field_type (vec (scalar k)) s = (list_of k, list_typed k)
field_type (vec (vec t)) s = absurd s
field_type (vec (tuple ts)) s = absurd s
field_type (vec (mapping k v)) s = absurd s
field_type (vec (build b)) s = absurd s
field_type (tuple ts) s = absurd s
field_type (mapping k v) s = absurd s
field_type (build b) s = absurd s

all_fields : (t : TypeTree) (ts : TypeTrees) (f : FieldType) (fs : List FieldType) → ((x : Value) → HasValue t x → HasFieldType f x) → ((xs : Values) → HaveValues ts xs → HaveFieldTypes fs xs)
    → (xs : Values) → HaveValues (more_types t ts) xs → HaveFieldTypes (f ∷ fs) xs
all_fields t ts f fs p q no_values h = absurd h
all_fields t ts f fs p q (and_value x xs) h = (p x h.0, q xs h.1)

none_typed : (xs : Values) → HaveValues no_types xs → HaveFieldTypes [] xs
none_typed no_values h = tt
none_typed (and_value x xs) h = absurd h

field_types : (ts : TypeTrees) → AreKeyFields ts → (fs : List FieldType) × ((xs : Values) → HaveValues ts xs → HaveFieldTypes fs xs)
field_types no_types s = ([], none_typed)
field_types (more_types t ts) s =
    let f = field_type t s.0 in
    let fs = field_types ts s.1 in
    (f.0 ∷ fs.0, all_fields t ts f.0 fs.0 f.1 fs.1)

struct_typed : (ts : TypeTrees) (f : FieldType) (fs : List FieldType) → ((xs : Values) → HaveValues ts xs → HaveFieldTypes (f ∷ fs) xs) → (x : Value) → HasValue (tuple ts) x → HasKeyType (fields f fs) x
struct_typed ts f fs p (number k x) h = absurd h
struct_typed ts f fs p (list xs) h = absurd h
struct_typed ts f fs p (struct xs) h = p xs h
struct_typed ts f fs p (dict es) h = absurd h

key_type : (t : TypeTree) → IsKey t → (k : KeyType) × ((x : Value) → HasValue t x → HasKeyType k x)
key_type (scalar k) s = (one_field (number_of k), number_typed k)
key_type (vec t) s = let f = field_type (vec t) s in (one_field f.0, f.1)
key_type (tuple no_types) s = absurd s.0
key_type (tuple (more_types t ts)) s =
    let f = field_type t s.1.0 in
    let fs = field_types ts s.1.1 in
    (fields f.0 fs.0, struct_typed (more_types t ts) f.0 fs.0 (all_fields t ts f.0 fs.0 f.1 fs.1))
key_type (mapping k v) s = absurd s
key_type (build b) s = absurd s

pub is_key : (t : TypeTree) (x : Value) → IsKey t → HasValue t x → IsKeyValue x
is_key t x s h = let k = key_type t s in key_of_type k.0 x (k.1 x h)

pub same_keys : (t : TypeTree) (x y : Value) → IsKey t → HasValue t x → HasValue t y → SameKeyType x y
same_keys t x y s h g = let k = key_type t s in key_types_agree k.0 x y (k.1 x h) (k.1 y g)

pub key_for : (k v : TypeTree) (es : Entries) (x : Value) → IsKey k → AllEntriesAre (HasValue k) (HasValue v) es → HasValue k x → IsKeyFor (list_of_entries es) x
key_for k v no_entries x s h g = All-nil (λ (e : Value × Value). SameKeyType e.0 x)
key_for k v (and_entry a b es) x s h g =
    All-cons (λ (e : Value × Value). SameKeyType e.0 x) (a, b) (list_of_entries es) (same_keys k a x s h.0 g) (key_for k v es x s h.2 g)
