-- Numbers by keys in the code.
use Rattle.std.specs.Prelude.{◌≡◌, Bool, ℤ, Option, Some, None, List, [], ◌∷◌, map, AllPairs, refl}
use Rattle.indexmap.specs.IndexMap.{insert_entry}
use Rattle.std.specs.Map.{lookup, keys_of}
use Rattle.std.specs.Ordering.{eq_by_cmp}
use Rattle.std.specs.List.{AllByRecursion}
use Rattle.weld_pieces.specs.Kept.{IsKeptKey}
use Rattle.std.specs.Coded.{Coded, code_by, coded×, coded_option, coded_ℤ}
use Rattle.std.specs.FinMap as finite
use Rattle.weld_data.specs.declared.kind.Kind.{Kind}
use Rattle.weld_data.specs.contracts.kind.Kind as kind_type
use Rattle.weld_data.specs.declared.op.MergeOp.{MergeOp}
use Rattle.weld_data.specs.contracts.op.MergeOp as op_type
use Rattle.weld_data.specs.Value.{Value}
use Rattle.weld_data.specs.ValueCode.{coded_value}
use Rattle.weld_data.specs.Order.{SameKeyType, KeyType, HasKeyType}
use Rattle.weld_builders.specs.ValueOrder.{ValueMap, value_cmp}
use Rattle.weld_builders.specs.Part.{Part, keyed_part, merge_key, join_maps}

-- how its keys are kept, its operator and kind, and the numbers
pub record Keyed : Type 0 where
  pub key : Option Kind
  pub op : MergeOp
  pub kind : Kind
  pub numbers : ValueMap ℤ

abbrev pub part_of_keyed : Keyed → Part
part_of_keyed k = keyed_part k.op k.kind k.numbers

abbrev pub coded_kind : Coded Kind
coded_kind = (kind_type.the_row).coded

abbrev pub coded_op : Coded MergeOp
coded_op = (op_type.the_row).coded

abbrev pub coded_keyed : Coded Keyed
coded_keyed =
    code_by (Option Kind × (MergeOp × (Kind × ValueMap ℤ))) (coded× (coded_option coded_kind) (coded× coded_op (coded× coded_kind (finite.code coded_value coded_ℤ))))
    (λ k. (k.key, (k.op, (k.kind, k.numbers)))) (λ p. record { key = p.0; op = p.1.0; kind = p.1.1.0; numbers = p.1.1.1 }) (λ _. refl)

-- the keys are of one type
abbrev pub HasOneKeyType : {X : Type 0} → ValueMap X → Type 0
HasOneKeyType m = AllPairs (λ (a b : Value × _). SameKeyType a.0 b.0) (finite.entries m)

-- ---- entries in the order in which their keys came

-- what may be there at the key, and the new, put together
abbrev pub entry_with : {K X : Type 0} → (K → K → Bool) → (Option X → X → X) → List (K × X) → K → X → List (K × X)
entry_with eq f es k x = insert_entry eq es k (f (lookup (eq k) es) x)

-- so for one entry after another
abbrev pub entries_with : {K X : Type 0} → (K → K → Bool) → (Option X → X → X) → List (K × X) → List (K × X) → List (K × X)
entries_with eq f es [] = es
entries_with eq f es (d ∷ ds) = entries_with eq f (entry_with eq f es d.0 d.1) ds

-- entries as a map from values
abbrev pub map_of : {K X : Type 0} → (K → Value) → List (K × X) → ValueMap X
map_of key es = finite.from_entries (map (λ (e : _ × _). (key e.0, e.1)) es)

-- entries with their keys as values
abbrev pub by_value : {K X : Type 0} → (K → Value) → List (K × X) → List (Value × X)
by_value key es = map (λ (e : _ × _). (key e.0, e.1)) es

-- entries merged into a map, one after another
abbrev pub merged_from : {X : Type 0} → (Option X → X → X) → ValueMap X → List (Value × X) → ValueMap X
merged_from f m [] = m
merged_from f m (e ∷ es) = merged_from f (merge_key f m e.0 e.1) es

-- seen as maps from values, in whatever way equal keys are equal values, the last entries are the join of the first and the second
abbrev pub JoinsAs : {K X : Type 0} → (K → K → Bool) → (Option X → X → X) → List (K × X) → List (K × X) → List (K × X) → Type 0
JoinsAs {K} eq f es later ds = (key : K → Value) → ((a b : K) → eq a b ≡ eq_by_cmp value_cmp (key a) (key b)) → map_of key ds ≡ join_maps f (map_of key es) (map_of key later)

-- a key that is a value shows as it is
abbrev pub itself : Value → Value
itself v = v

-- keys that are kept as the second says may be kept as the first says: alike, or as values
abbrev pub CanKeep : Option Kind → Option Kind → Type 0
CanKeep None kind = Unit {0}
CanKeep (Some k) kind = kind ≡ Some k

-- each key is one that a part takes whose keys are kept so
abbrev pub KeysAreKept : {X : Type 0} → Option Kind → ValueMap X → Type 0
KeysAreKept key m = AllByRecursion (IsKeptKey key) (keys_of (finite.entries m))

-- each key is one of the type
abbrev pub KeysAreOf : {X : Type 0} → KeyType → ValueMap X → Type 0
KeysAreOf t m = AllByRecursion (HasKeyType t) (keys_of (finite.entries m))

-- entries as those of a dictionary
abbrev pub shown : {K X : Type 0} → (K → Value) → (X → Value) → List (K × X) → List (Value × Value)
shown key value es = map (λ (e : _ × _). (key e.0, value e.1)) es
