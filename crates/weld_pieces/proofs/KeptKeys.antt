-- Which keys a map has after merges and joins.
use Rattle.std.proofs.Common.{◌≡◌, ℕ, zero, suc, ◌<◌, Option, Some, None, List, [], ◌∷◌, length, slice_index_or, Ordering, Less, Equal, Greater, sym, subst, ◌∙◌, arith}
use Rattle.std.specs.List.{AllByRecursion}
use Rattle.std.specs.Map.{keys_of}
use Rattle.std.specs.FinMap as finite
use Rattle.std.specs.FinMap.Entries as entries_module
use Rattle.weld_data.specs.declared.kind.Kind.{Kind}
use Rattle.weld_data.specs.Value.{Value, number, list, struct, dict}
use Rattle.weld_data.specs.Order.{SameKeyType, IsKey, KeyType, HasKeyType}
use Rattle.weld_builders.specs.ValueOrder.{value_cmp, ValueMap}
use Rattle.weld_builders.specs.Part.{merge_key, join_entries, join_maps}
use Rattle.weld_builders.proofs.Order.{value_cmp_total}
use Rattle.weld_pieces.specs.Kept.{IsKeptKey}
use Rattle.weld_pieces.specs.Keyed.{KeysAreKept, KeysAreOf, HasOneKeyType}

put_keeps : {X : Type 0} (P : Value → Type 0) (k : Value) (x : X) (es : List (Value × X)) → AllByRecursion P (keys_of es) → P k → AllByRecursion P (keys_of (finite.put value_cmp k x es))
put_keeps P k x [] h p = (p, tt)
put_keeps {X} P k x (e ∷ es) h p = by (put_keeps P k x es h.1 p) (value_cmp k e.0)
  where
    by : AllByRecursion P (keys_of (finite.put value_cmp k x es)) → (o : Ordering) → AllByRecursion P (keys_of (entries_module.by_order o ((k, x) ∷ e ∷ es) ((e.0, x) ∷ es) (e ∷ finite.put value_cmp k x es)))
    by r Less = (p, h)
    by r Equal = h
    by r Greater = (h.0, r)

insert_keeps : {X : Type 0} (P : Value → Type 0) (m : ValueMap X) (k : Value) (x : X) → AllByRecursion P (keys_of (finite.entries m)) → P k → AllByRecursion P (keys_of (finite.entries (finite.insert m k x)))
insert_keeps P m k x h p =
    subst (λ es. AllByRecursion P (keys_of es)) (sym (finite.entries-insert value_cmp_total m k x)) (put_keeps P k x (finite.entries m) h p)

-- what holds of a new key and of each key that is there holds of each key of a map, after a merge and after a join
pub start_holds : (X : Type 0) (P : Value → Type 0) → AllByRecursion P (keys_of (finite.entries (finite.empty {X = X} {R = value_cmp})))
start_holds X P = none (finite.entries (finite.empty {X = X} {R = value_cmp})) (sym (finite.len-entries (finite.empty {X = X} {R = value_cmp})) ∙ finite.len-empty value_cmp X)
  where
    none : (es : List (Value × X)) → length es ≡ 0 → AllByRecursion P (keys_of es)
    none [] e = tt
    none (d ∷ es) e = absurd (omega arith)

pub merge_holds : {X : Type 0} (P : Value → Type 0) (f : Option X → X → X) (m : ValueMap X) (k : Value) (x : X) → AllByRecursion P (keys_of (finite.entries m)) → P k → AllByRecursion P (keys_of (finite.entries (merge_key f m k x)))
merge_holds P f m k x h p = insert_keeps P m k _ h p

entries_keep : {X : Type 0} (P : Value → Type 0) (f : Option X → X → X) (s : ValueMap X) (es : List (Value × X)) → AllByRecursion P (keys_of (finite.entries s)) → AllByRecursion P (keys_of es) → AllByRecursion P (keys_of (finite.entries (join_entries f s es)))
entries_keep P f s [] h g = h
entries_keep P f s (e ∷ es) h g = insert_keeps P (join_entries f s es) e.0 _ (entries_keep P f s es h g.1) g.0

pub join_holds : {X : Type 0} (P : Value → Type 0) (f : Option X → X → X) (s m : ValueMap X) → AllByRecursion P (keys_of (finite.entries s)) → AllByRecursion P (keys_of (finite.entries m)) → AllByRecursion P (keys_of (finite.entries (join_maps f s m)))
join_holds P f s m h g = entries_keep P f s (finite.entries m) h g

-- ---- keys that are kept so

pub kept_at_start : (X : Type 0) (key : Option Kind) → KeysAreKept {X = X} key finite.empty
kept_at_start X key = start_holds X (IsKeptKey key)

pub kept_after_merge : {X : Type 0} (key : Option Kind) (f : Option X → X → X) (m : ValueMap X) (k : Value) (x : X) → KeysAreKept key m → IsKeptKey key k → KeysAreKept key (merge_key f m k x)
kept_after_merge key f m k x h p = merge_holds (IsKeptKey key) f m k x h p

pub kept_after_join : {X : Type 0} (key : Option Kind) (f : Option X → X → X) (s m : ValueMap X) → KeysAreKept key s → KeysAreKept key m → KeysAreKept key (join_maps f s m)
kept_after_join key f s m h g = join_holds (IsKeptKey key) f s m h g

-- ---- keys of one type

pub typed_at_start : (X : Type 0) (t : KeyType) → KeysAreOf {X = X} t finite.empty
typed_at_start X t = start_holds X (HasKeyType t)

pub typed_after_merge : {X : Type 0} (t : KeyType) (f : Option X → X → X) (m : ValueMap X) (k : Value) (x : X) → KeysAreOf t m → HasKeyType t k → KeysAreOf t (merge_key f m k x)
typed_after_merge t f m k x h p = merge_holds (HasKeyType t) f m k x h p

pub typed_after_join : {X : Type 0} (t : KeyType) (f : Option X → X → X) (s m : ValueMap X) → KeysAreOf t s → KeysAreOf t m → KeysAreOf t (join_maps f s m)
typed_after_join t f s m h g = join_holds (HasKeyType t) f s m h g

same_number_type : (kind : Kind) (a b : Value) → IsKeptKey (Some kind) a → IsKeptKey (Some kind) b → SameKeyType a b
same_number_type kind (number k x) (number m y) h g = h.0 ∙ sym g.0
same_number_type kind (number k x) (list ys) h g = absurd g
same_number_type kind (number k x) (struct ys) h g = absurd g
same_number_type kind (number k x) (dict ys) h g = absurd g
same_number_type kind (list xs) b h g = absurd h
same_number_type kind (struct xs) b h g = absurd h
same_number_type kind (dict xs) b h g = absurd h

key_at : {X : Type 0} (P : Value → Type 0) (es : List (Value × X)) (i : ℕ) (d : Value × X) → AllByRecursion P (keys_of es) → i < length es → P (slice_index_or es i d).0
key_at P [] i d h l = absurd (omega arith)
key_at P (e ∷ es) zero d h l = h.0
key_at P (e ∷ es) (suc i) d h l = key_at P es i d h.1 (omega arith)

-- keys of which each two are of one type
agree : {X : Type 0} (P : Value → Type 0) → ((a b : Value) → P a → P b → SameKeyType a b) → (m : ValueMap X) → AllByRecursion P (keys_of (finite.entries m)) → HasOneKeyType m
agree P same m h i j d l n =
    same _ _ (key_at P (finite.entries m) i d h (omega arith)) (key_at P (finite.entries m) j d h n)

pub numbers_have_one_type : {X : Type 0} (kind : Kind) (m : ValueMap X) → KeysAreKept (Some kind) m → HasOneKeyType m
numbers_have_one_type kind m h = agree (IsKeptKey (Some kind)) (same_number_type kind) m h

-- the two laws of keys, given those of key types
pub typed_keys_agree : {X : Type 0} → ((t : KeyType) (x y : Value) → HasKeyType t x → HasKeyType t y → SameKeyType x y) → (t : KeyType) (m : ValueMap X) → KeysAreOf t m → HasOneKeyType m
typed_keys_agree same t m h = agree (HasKeyType t) (same t) m h

pub typed_keys_are_kept : {X : Type 0} → ((t : KeyType) (x : Value) → HasKeyType t x → IsKey x) → (t : KeyType) (m : ValueMap X) → KeysAreOf t m → KeysAreKept None m
typed_keys_are_kept keys t m h = go (keys_of (finite.entries m)) h
  where
    go : (ks : List Value) → AllByRecursion (HasKeyType t) ks → AllByRecursion (IsKeptKey None) ks
    go [] h = tt
    go (k ∷ ks) h = (keys t k h.0, go ks h.1)
