-- Keys that can be kept, and joins with nothing.
use Rattle.std.proofs.Common.{◌≡◌, ℤ, Option, Some, None, List, [], ◌∷◌, Result, Ok, Err, OnOk, OnErr, refl, sym, subst}
use Rattle.std.specs.FinMap as finite
use Rattle.std.specs.List.{AllByRecursion}
use Rattle.std.specs.Map.{keys_of}
use Rattle.weld_data.specs.declared.kind.Kind.{Kind}
use Rattle.weld_data.specs.declared.op.MergeOp.{MergeOp}
use Rattle.weld_data.specs.Kind.{InRange}
use Rattle.weld_data.specs.Order.{IsKey}
use Rattle.weld_data.specs.Value.{Value, number, list, struct, dict}
use Rattle.weld_builders.specs.Part.{combined, appended, merge_key, join_maps}
use Rattle.weld_builders.specs.ValueOrder.{ValueMap}
use Rattle.weld_builders.proofs.Maps.{combined-IsMerging, appended-IsMerging, join_maps-empty, empty-join_maps}
use Rattle.weld_pieces.specs.Kept.{IsKeptKey}
use Rattle.weld_pieces.specs.Keyed.{KeysAreKept, CanKeep}
use Rattle.weld_pieces.proofs.KeptKeys.{kept_at_start, kept_after_merge, kept_after_join}
use Rattle.weld_built.specs.State.{AreKeys}

pub none_are_keys : {X : Type 0} (key : Option Kind) (m : ValueMap X) → m ≡ finite.empty → AreKeys key m
none_are_keys {X} key m e = subst (AreKeys key) (sym e) (record { kept = kept_at_start X key })

as_value : (key : Option Kind) (v : Value) → IsKeptKey key v → IsKey v
as_value (Some kind) (number k x) h = tt
as_value (Some kind) (list vs) h = absurd h
as_value (Some kind) (struct vs) h = absurd h
as_value (Some kind) (dict es) h = absurd h
as_value None v h = h

pub keys_as_values : {X : Type 0} (key : Option Kind) (m : ValueMap X) → AreKeys key m → AreKeys None m
keys_as_values key m h = record { kept = go (keys_of (finite.entries m)) h.kept }
  where
    go : (ks : List Value) → AllByRecursion (IsKeptKey key) ks → AllByRecursion IsKey ks
    go [] h = tt
    go (k ∷ ks) h = (as_value key k h.0, go ks h.1)

pub number_is_kept : (key : Option Kind) (kind : Kind) (x : ℤ) → key ≡ Some kind → InRange kind x → IsKeptKey key (number kind x)
number_is_kept key kind x e h = subst (λ o. IsKeptKey o (number kind x)) (sym e) (refl, h)

-- a merge at a key that can be kept, or none
pub merged_keys : {X T E : Type 0} (r : Result T E) (f : Option X → X → X) (key new_key : Option Kind) (m new : ValueMap X) (k : Value) (x : X) → AreKeys key m → IsKeptKey key k
    → OnOk r (new ≡ merge_key f m k x) → OnErr r (new ≡ m) → new_key ≡ key → AreKeys new_key new
merged_keys (Ok t) f key new_key m new k x h kept ok err same =
    subst (λ o. AreKeys o new) (sym same) (subst (AreKeys key) (sym ok) (record { kept = kept_after_merge key f m k x h.kept kept }))
merged_keys (Err e) f key new_key m new k x h kept ok err same = subst (λ o. AreKeys o new) (sym same) (subst (AreKeys key) (sym err) h)

pub joined_keys : {X : Type 0} (f : Option X → X → X) (key other new_key : Option Kind) (s m new : ValueMap X) → AreKeys key s → AreKeys other m → key ≡ other → new_key ≡ key → new ≡ join_maps f s m → AreKeys new_key new
joined_keys f key other new_key s m new h g e same is =
    subst (λ o. AreKeys o new) (sym same) (subst (AreKeys key) (sym is) (record { kept = kept_after_join key f s m h.kept (subst (λ o. KeysAreKept o m) (sym e) g.kept) }))

-- ---- joins with nothing

pub joined_to_none : (op : MergeOp) (kind : Kind) (s m : ValueMap ℤ) → s ≡ finite.empty → m ≡ join_maps (combined op kind) s m
joined_to_none op kind s m e = sym (subst (λ r. join_maps (combined op kind) r m ≡ m) (sym e) (empty-join_maps (combined-IsMerging op kind) m))

pub none_joined : (op : MergeOp) (kind : Kind) (s m : ValueMap ℤ) → m ≡ finite.empty → s ≡ join_maps (combined op kind) s m
none_joined op kind s m e = sym (subst (λ r. join_maps (combined op kind) s r ≡ s) (sym e) (join_maps-empty (combined-IsMerging op kind) s))

pub lists_to_none : (s m : ValueMap (List Value)) → s ≡ finite.empty → m ≡ join_maps appended s m
lists_to_none s m e = sym (subst (λ r. join_maps appended r m ≡ m) (sym e) (empty-join_maps appended-IsMerging m))

pub no_lists_joined : (s m : ValueMap (List Value)) → m ≡ finite.empty → s ≡ join_maps appended s m
no_lists_joined s m e = sym (subst (λ r. join_maps appended s r ≡ s) (sym e) (join_maps-empty appended-IsMerging s))

pub keeps_alike : (key : Option Kind) → CanKeep key key
keeps_alike None = tt
keeps_alike (Some k) = refl
