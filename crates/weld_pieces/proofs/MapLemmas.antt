-- Entries of different keys, as a map from values.
use Rattle.std.proofs.Common.{◌≡◌, Result, Ok, Err, OnOk, suc, ◌+◌, slice_index_or, ℤ, Option, Some, None, List, [], ◌∷◌, map, Bool, true, false, true≢false, cond, T, ◌&&◌, Ordering, Less, Equal, Greater, int_cmp, ap, ap₂, sym, subst, refl, ◌∙◌, arith}
use Rattle.std.specs.Ordering.{eq_by_cmp, int_eq, is_eq, is_lt, is_gt, ordering_then, ordering_reverse}
use Rattle.std.specs.Cmp.{Equal-is, IsEquivalence, IsTotalOrder, int_cmp_total, tied_itself}
use Rattle.std.specs.List.{AllByRecursion, IsDistinct}
use Rattle.std.specs.List.Sorted.{IsSorted, IsStrictlySortedBy, IsPermutation}
use Rattle.std.specs.Map.{lookup, keys_of, values_of, IsKeyTest}
use Rattle.std.specs.Option.{IfSome}
use Rattle.std.proofs.lemmas.Cmp.{int_eq_equiv}
use Rattle.std.proofs.lemmas.List.Elements.{All-from_recursion, recursion_from_All}
use Rattle.std.proofs.lemmas.List.Sorted.{All-permutation, IsPermutation-map}
use Rattle.weld_pieces.specs.KeyLaws.{equivalence}
use Rattle.std.proofs.lemmas.Map.Keys.{sorted_head, sorted_tail, IsDistinct-head, IsDistinct-tail}
use Rattle.std.specs.FinMap as finite
use Rattle.std.specs.FinMap.Entries as entries_module
use Rattle.indexmap.specs.IndexMap.{insert_entry}
use Rattle.indexmap.proofs.MapLemmas.{lookup_permutation}
use Rattle.weld_data.specs.declared.kind.Kind.{Kind}
use Rattle.weld_data.specs.Kind.{InRange}
use Rattle.weld_data.specs.Value.{Value, number}
use Rattle.weld_builders.specs.Range.{AllInRange}
use Rattle.weld_builders.specs.ValueOrder.{value_cmp, ValueMap, kind_word}
use Rattle.weld_data.specs.declared.op.MergeOp.{MergeOp}
use Rattle.weld_data.proofs.Operations.{combination_comm}
use Rattle.weld_builders.specs.Part.{combined, merge_key, join_maps}
use Rattle.weld_builders.proofs.Order.{value_cmp_total, value_cmp-IsAntisymmetric}
use Rattle.weld_builders.proofs.Maps.{over, get-join_maps, get-merge_key, same_maps}
use Rattle.weld_builders.proofs.Steps.{value_cmp-numbers}
use Rattle.weld_pieces.specs.Keyed.{entry_with, entries_with, map_of, itself, by_value, merged_from, JoinsAs}

-- ---- maps from values

tied : {X : Type 0} (m : ValueMap X) (q k : Value) → eq_by_cmp value_cmp q k ≡ true → finite.get m k ≡ finite.get m q
tied m q k e = finite.get_tied value_cmp_total m q k ((Equal-is (value_cmp q k)).0 e)

-- a first entry of a later map is merged before the others
first_merged : {X : Type 0} (f : Option X → X → X) (s m : ValueMap X) (k : Value) (x : X) → finite.get m k ≡ None → join_maps f (merge_key f s k x) m ≡ join_maps f s (finite.insert m k x)
first_merged f s m k x none =
    same_maps _ _ (λ q. get-join_maps f (merge_key f s k x) m q
    ∙ (λ i. over f (get-merge_key f s k x q i) (finite.get m q))
    ∙ by q (eq_by_cmp value_cmp q k) refl
    ∙ sym (get-join_maps f s (finite.insert m k x) q ∙ ap (over f (finite.get s q)) (finite.get-insert value_cmp_total m k x q)))
  where
    by : (q : Value) (b : Bool) → eq_by_cmp value_cmp q k ≡ b → over f (cond b (Some (f (finite.get s k) x)) (finite.get s q)) (finite.get m q) ≡ over f (finite.get s q) (cond b (Some x) (finite.get m q))
    by q true t =
        ap (over f (Some (f (finite.get s k) x))) (sym (tied m q k t) ∙ none) ∙ ap (λ (o : Option _). Some (f o x)) (tied s q k t)
    by q false t = refl

-- ---- entries

-- keys that are equal as values are one
pub one : (x y : Value) → eq_by_cmp value_cmp x y ≡ true → x ≡ y
one x y e = value_cmp-IsAntisymmetric x y ((Equal-is (value_cmp x y)).0 e)

-- a key is equal to itself
pub own : (x y : Value) → x ≡ y → eq_by_cmp value_cmp x y ≡ true
own x y e = ap (eq_by_cmp value_cmp x) (sym e) ∙ ap is_eq (tied_itself value_cmp_total x)

over_one : {X : Type 0} (b : Bool) (v w : X) (o : Option X) → cond b (Some v) o ≡ cond b (Some v) (cond b (Some w) o)
over_one true v w o = refl
over_one false v w o = refl

-- keys are asked for by values
alike : {K : Type 0} (key : K → Value) (eq : K → K → Bool) → ((a b : K) → eq a b ≡ eq_by_cmp value_cmp (key a) (key b)) → (q : Value) → IsKeyTest eq (λ k. eq_by_cmp value_cmp q (key k))
alike key eq agree q x y t = ap (λ w. eq_by_cmp value_cmp w (key y)) (one q (key x) t) ∙ sym (agree x y)

module _ {K X : Type 0} (key : K → Value) (eq : K → K → Bool) (agree : (a b : K) → eq a b ≡ eq_by_cmp value_cmp (key a) (key b)) where
  abbrev shown : List (K × X) → List (Value × X)
  shown es = map (λ (e : K × X). (key e.0, e.1)) es

  find-insert : (es : List (K × X)) (k : K) (v : X) (q : Value) → finite.find value_cmp q (shown (insert_entry eq es k v)) ≡ cond (eq_by_cmp value_cmp q (key k)) (Some v) (finite.find value_cmp q (shown es))
  find-insert [] k v q = refl
  find-insert (e ∷ es) k v q = by (find-insert es k v q) (eq k e.0) refl
    where
      apart : eq k e.0 ≡ false → (b c : Bool) → eq_by_cmp value_cmp q (key e.0) ≡ b → eq_by_cmp value_cmp q (key k) ≡ c → finite.find value_cmp q (shown (insert_entry eq es k v)) ≡ cond c (Some v) (finite.find value_cmp q (shown es))
          → cond b (Some e.1) (finite.find value_cmp q (shown (insert_entry eq es k v))) ≡ cond c (Some v) (cond b (Some e.1) (finite.find value_cmp q (shown es)))
      apart f true true s t rest =
          absurd (true≢false (sym (agree k e.0 ∙ own (key k) (key e.0) (sym (one q (key k) t) ∙ one q (key e.0) s)) ∙ f))
      apart f true false s t rest = refl
      apart f false c s t rest = rest

      by : finite.find value_cmp q (shown (insert_entry eq es k v)) ≡ cond (eq_by_cmp value_cmp q (key k)) (Some v) (finite.find value_cmp q (shown es)) → (b : Bool) → eq k e.0 ≡ b
          → finite.find value_cmp q (shown (cond b ((e.0, v) ∷ es) (e ∷ insert_entry eq es k v))) ≡ cond (eq_by_cmp value_cmp q (key k)) (Some v) (cond (eq_by_cmp value_cmp q (key e.0)) (Some e.1) (finite.find value_cmp q (shown es)))
      by rest true t =
          over_one (eq_by_cmp value_cmp q (key e.0)) v e.1 (finite.find value_cmp q (shown es))
          ∙ ap (λ w. cond (eq_by_cmp value_cmp q w) (Some v) (cond (eq_by_cmp value_cmp q (key e.0)) (Some e.1) (finite.find value_cmp q (shown es)))) (sym (one (key k) (key e.0) (sym (agree k e.0) ∙ t)))
      by rest false t =
          apart t (eq_by_cmp value_cmp q (key e.0)) (eq_by_cmp value_cmp q (key k)) refl refl rest

  lookup_shown : (es : List (K × X)) (k : K) → lookup (eq k) es ≡ finite.find value_cmp (key k) (shown es)
  lookup_shown [] k = refl
  lookup_shown (e ∷ es) k = (λ i. cond (agree k e.0 i) (Some e.1) (lookup_shown es k i))

  lookup_by : (es : List (K × X)) (q : Value) → lookup (λ k. eq_by_cmp value_cmp q (key k)) es ≡ finite.find value_cmp q (shown es)
  lookup_by [] q = refl
  lookup_by (e ∷ es) q = ap (cond (eq_by_cmp value_cmp q (key e.0)) (Some e.1)) (lookup_by es q)

  get-map_of : (es : List (K × X)) (q : Value) → finite.get (map_of key es) q ≡ finite.find value_cmp q (shown es)
  get-map_of es q = finite.get-from_entries value_cmp_total (shown es) q

  pub lookup_is_get : (es : List (K × X)) (k : K) → lookup (eq k) es ≡ finite.get (map_of key es) (key k)
  lookup_is_get es k = lookup_shown es k ∙ sym (get-map_of es (key k))

  pub map_of-insert : (es : List (K × X)) (k : K) (v : X) → map_of key (insert_entry eq es k v) ≡ finite.insert (map_of key es) (key k) v
  map_of-insert es k v =
      same_maps _ _ (λ q. get-map_of (insert_entry eq es k v) q
      ∙ find-insert es k v q
      ∙ sym (finite.get-insert value_cmp_total (map_of key es) (key k) v q ∙ ap (cond (eq_by_cmp value_cmp q (key k)) (Some v)) (get-map_of es q)))

  pub map_of-entry_with : (f : Option X → X → X) (es : List (K × X)) (k : K) (x : X) → map_of key (entry_with eq f es k x) ≡ merge_key f (map_of key es) (key k) x
  map_of-entry_with f es k x =
      map_of-insert es k (f (lookup (eq k) es) x)
      ∙ ap (λ (o : Option X). finite.insert (map_of key es) (key k) (f o x)) (lookup_is_get es k)

  missing : (k : K) (es : List (K × X)) → AllByRecursion (λ y. eq k y ≡ false) (keys_of es) → finite.find value_cmp (key k) (shown es) ≡ None
  missing k [] h = refl
  missing k (e ∷ es) h =
      ap (λ b. cond b (Some e.1) (finite.find value_cmp (key k) (shown es))) (sym (agree k e.0) ∙ h.0) ∙ missing k es h.1

  pub map_of-entries_with : (f : Option X → X → X) (es ds : List (K × X)) → IsDistinct eq (keys_of ds) → map_of key (entries_with eq f es ds) ≡ join_maps f (map_of key es) (map_of key ds)
  map_of-entries_with f es [] h = same_maps _ _ (λ q. sym (get-join_maps f (map_of key es) (map_of key []) q ∙ ap (over f (finite.get (map_of key es) q)) (get-map_of [] q)))
  map_of-entries_with f es (d ∷ ds) h =
      map_of-entries_with f (entry_with eq f es d.0 d.1) ds (IsDistinct-tail eq d.0 (keys_of ds) h)
      ∙ ap (λ s. join_maps f s (map_of key ds)) (map_of-entry_with f es d.0 d.1)
      ∙ first_merged f (map_of key es) (map_of key ds) (key d.0) d.1 (get-map_of ds (key d.0) ∙ missing d.0 ds (IsDistinct-head eq d.0 (keys_of ds) h))

  -- entries of different keys, merged one after another, are joined
  pub merged_from-by_value : (f : Option X → X → X) (m : ValueMap X) (ds : List (K × X)) → IsDistinct eq (keys_of ds) → merged_from f m (by_value key ds) ≡ join_maps f m (map_of key ds)
  merged_from-by_value f m [] h = same_maps _ _ (λ q. sym (get-join_maps f m (map_of key []) q ∙ ap (over f (finite.get m q)) (get-map_of [] q)))
  merged_from-by_value f m (d ∷ ds) h =
      merged_from-by_value f (merge_key f m (key d.0) d.1) ds (IsDistinct-tail eq d.0 (keys_of ds) h)
      ∙ first_merged f m (map_of key ds) (key d.0) d.1 (get-map_of ds (key d.0) ∙ missing d.0 ds (IsDistinct-head eq d.0 (keys_of ds) h))

  -- entries of different keys are one map in any order
  pub map_of-permuted : IsEquivalence eq → (es ds : List (K × X)) → IsPermutation es ds → IsDistinct eq (keys_of ds) → map_of key ds ≡ map_of key es
  map_of-permuted laws es ds moves h =
      same_maps _ _ (λ q. get-map_of ds q
      ∙ sym (lookup_by ds q)
      ∙ lookup_permutation laws es ds moves h (λ k. eq_by_cmp value_cmp q (key k)) (alike key eq agree q)
      ∙ lookup_by es q
      ∙ sym (get-map_of es q))

-- ---- in the order of keys

module _ {K : Type 0} (cmp : K → K → Ordering) (total : IsTotalOrder cmp) where
  not_less : (x y : K) → is_lt (cmp y x) ≡ false → eq_by_cmp cmp x y ≡ false → cmp x y ≡ Less
  not_less x y l e = by (cmp x y) (cmp y x) (total.antisymm x y) l e
    where
      by : (o p : Ordering) → o ≡ ordering_reverse p → is_lt p ≡ false → is_eq o ≡ false → o ≡ Less
      by Less p r l e = refl
      by Equal p r l e = absurd (true≢false e)
      by Greater Less r l e = absurd (true≢false l)
      by Greater Equal r l e = absurd (true≢false (ap is_gt r))
      by Greater Greater r l e = absurd (true≢false (ap is_gt r))

  below_too : (k j : K) (ks : List K) → cmp k j ≡ Less → AllByRecursion (λ y. cmp j y ≡ Less) ks → AllByRecursion (λ y. cmp k y ≡ Less) ks
  below_too k j [] l h = tt
  below_too k j (i ∷ ks) l h = (total.trans k j i l h.0, below_too k j ks l h.1)

  tail_sorted : (k : K) (ks : List K) → IsSorted cmp (k ∷ ks) → IsSorted cmp ks
  tail_sorted k ks s i e l m =
      let next : suc i + 1 ≡ suc (i + 1) = omega arith in
      subst (λ n. is_lt (cmp (slice_index_or (k ∷ ks) n e) (slice_index_or (k ∷ ks) (suc i) e)) ≡ false) next (s (suc i) e (omega arith) (omega arith))

  -- different keys that don't fall rise
  pub strictly_sorted : (eq : K → K → Bool) → ((x y : K) → eq x y ≡ eq_by_cmp cmp x y) → (ks : List K) → IsSorted cmp ks → IsDistinct eq ks → IsStrictlySortedBy cmp ks
  unfolding IsStrictlySortedBy
  strictly_sorted eq ties [] s d = tt
  strictly_sorted eq ties (k ∷ []) s d = (tt, tt)
  strictly_sorted eq ties (k ∷ j ∷ ks) s d =
      let rest = strictly_sorted eq ties (j ∷ ks) (tail_sorted k (j ∷ ks) s) (IsDistinct-tail eq k (j ∷ ks) d) in
      let first = not_less k j (s 0 k (omega arith) (omega arith)) (sym (ties k j) ∙ (IsDistinct-head eq k (j ∷ ks) d).0) in
      ((first, below_too k j ks first (sorted_head cmp j ks rest)), rest)

module _ {K X : Type 0} (key : K → Value) (cmp : K → K → Ordering) (agree : (a b : K) → cmp a b ≡ value_cmp (key a) (key b)) where
  below : (k : K) (es : List (K × X)) → AllByRecursion (λ y. cmp k y ≡ Less) (keys_of es) → entries_module.below_all value_cmp (key k) (by_value key es) ≡ true
  below k [] h = refl
  below k (e ∷ es) h = ap₂ ◌&&◌ (ap is_lt (sym (agree k e.0) ∙ h.0)) (below k es h.1)

  in_order : (es : List (K × X)) → IsStrictlySortedBy cmp (keys_of es) → finite.is_sorted value_cmp (by_value key es) ≡ true
  in_order [] h = refl
  in_order (e ∷ es) h = ap₂ ◌&&◌ (below e.0 es (sorted_head cmp e.0 (keys_of es) h)) (in_order es (sorted_tail cmp e.0 (keys_of es) h))

  pub entries-map_of : (es : List (K × X)) → IsStrictlySortedBy cmp (keys_of es) → finite.entries (map_of key es) ≡ by_value key es
  entries-map_of es h =
      let t = subst T (sym (in_order es h)) tt in
      ap finite.entries (same_maps (map_of key es) (finite.from_sorted (by_value key es)) (λ q. finite.get-from_entries value_cmp_total (by_value key es) q ∙ sym (finite.get-from_sorted value_cmp (by_value key es) q t)))
      ∙ finite.entries-from_sorted value_cmp (by_value key es) t

-- numbers of one kind are in the order of all values as they are
pub numbers_agree : (k : Kind) (a b : ℤ) → int_cmp a b ≡ value_cmp (number k a) (number k b)
numbers_agree k a b =
    sym (value_cmp-numbers k k a b ∙ ap (λ o. ordering_then o (int_cmp a b)) (tied_itself int_cmp_total (kind_word k)))

pub values_agree : (a b : Value) → value_cmp a b ≡ value_cmp a b
values_agree a b = refl

-- and equal as they are
pub numbers_same : (k : Kind) (a b : ℤ) → int_eq a b ≡ eq_by_cmp value_cmp (number k a) (number k b)
numbers_same k a b = ap is_eq (numbers_agree k a b)

pub values_same : (a b : Value) → eq_by_cmp value_cmp a b ≡ eq_by_cmp value_cmp a b
values_same a b = refl

-- what holds of each value holds of each in any order
pub values_moved : {K X : Type 0} (P : X → Type 0) (es ds : List (K × X)) → IsPermutation es ds → AllByRecursion P (values_of es) → AllByRecursion P (values_of ds)
values_moved P es ds moves h =
    recursion_from_All P (values_of ds)
    (All-permutation P (values_of es) (values_of ds) (IsPermutation-map (λ (e : _ × _). e.1) es ds moves) (All-from_recursion P (values_of es) h))

-- entries of different keys that are numbers of a kind, or of others, are one map in any order
pub numbers_moved : {X : Type 0} (k : Kind) (es ds : List (ℤ × X)) → IsPermutation es ds → IsDistinct int_eq (keys_of ds) → map_of (number k) ds ≡ map_of (number k) es
numbers_moved k es ds moves h = map_of-permuted (number k) int_eq (numbers_same k) int_eq_equiv es ds moves h

pub values_reordered : {X : Type 0} (es ds : List (Value × X)) → IsPermutation es ds → IsDistinct (eq_by_cmp value_cmp) (keys_of ds) → map_of itself ds ≡ map_of itself es
values_reordered es ds moves h = map_of-permuted itself (eq_by_cmp value_cmp) values_same equivalence es ds moves h

-- ---- ranges of the values

pub lookup_in_range : {K : Type 0} (kind : Kind) (test : K → Bool) (es : List (K × ℤ)) → AllInRange kind (values_of es) → IfSome (lookup test es) (InRange kind)
lookup_in_range kind test [] h = tt
lookup_in_range kind test (e ∷ es) h = by (test e.0) (lookup_in_range kind test es h.1)
  where
    by : (b : Bool) → IfSome (lookup test es) (InRange kind) → IfSome (cond b (Some e.1) (lookup test es)) (InRange kind)
    by true r = h.0
    by false r = r

pub found_in_range : {K : Type 0} (kind : Kind) (test : K → Bool) (es : List (K × ℤ)) (o : Option ℤ) → AllInRange kind (values_of es) → o ≡ lookup test es → IfSome o (InRange kind)
found_in_range kind test es o h e = subst (λ p. IfSome p (InRange kind)) (sym e) (lookup_in_range kind test es h)

insert_in_range : {K : Type 0} (kind : Kind) (eq : K → K → Bool) (es : List (K × ℤ)) (k : K) (v : ℤ) → AllInRange kind (values_of es) → InRange kind v → AllInRange kind (values_of (insert_entry eq es k v))
insert_in_range kind eq [] k v h l = (l, tt)
insert_in_range kind eq (e ∷ es) k v h l = by (eq k e.0) (insert_in_range kind eq es k v h.1 l)
  where
    by : (b : Bool) → AllInRange kind (values_of (insert_entry eq es k v)) → AllInRange kind (values_of (cond b ((e.0, v) ∷ es) (e ∷ insert_entry eq es k v)))
    by true r = (l, h.1)
    by false r = (h.0, r)

pub inserted_in_range : {K : Type 0} (kind : Kind) (eq : K → K → Bool) (es ds : List (K × ℤ)) (k : K) (v : ℤ) → AllInRange kind (values_of es) → InRange kind v → ds ≡ insert_entry eq es k v → AllInRange kind (values_of ds)
inserted_in_range kind eq es ds k v h l e = subst (λ xs. AllInRange kind (values_of xs)) (sym e) (insert_in_range kind eq es k v h l)

-- ---- numbers by keys that are numbers of a kind, and by other values

pub numbers_merged : (k : Kind) (f : Option ℤ → ℤ → ℤ) (es ds : List (ℤ × ℤ)) (key x : ℤ) → ds ≡ entry_with int_eq f es key x → map_of (number k) ds ≡ merge_key f (map_of (number k) es) (number k key) x
numbers_merged k f es ds key x e = ap (map_of (number k)) e ∙ map_of-entry_with (number k) int_eq (numbers_same k) f es key x

pub values_merged : (f : Option ℤ → ℤ → ℤ) (es ds : List (Value × ℤ)) (key : Value) (x : ℤ) → ds ≡ entry_with (eq_by_cmp value_cmp) f es key x → map_of itself ds ≡ merge_key f (map_of itself es) key x
values_merged f es ds key x e =
    ap (map_of itself) e ∙ map_of-entry_with itself (eq_by_cmp value_cmp) values_same f es key x

-- ---- joins

-- numbers may be combined in either order
pub joined_either : (op : MergeOp) (kind : Kind) (s m : ValueMap ℤ) → join_maps (combined op kind) s m ≡ join_maps (combined op kind) m s
joined_either op kind s m =
    same_maps _ _ (λ q. get-join_maps (combined op kind) s m q
    ∙ by (finite.get s q) (finite.get m q)
    ∙ sym (get-join_maps (combined op kind) m s q))
  where
    by : (a b : Option ℤ) → over (combined op kind) a b ≡ over (combined op kind) b a
    by None None = refl
    by None (Some y) = refl
    by (Some x) None = refl
    by (Some x) (Some y) = ap Some (combination_comm op kind x y)

-- the smaller entries were merged into the larger, whichever came first
pub joined_small : {K : Type 0} (op : MergeOp) (kind : Kind) (eq : K → K → Bool) (es later ds : List (K × ℤ)) → IsDistinct eq (keys_of es) → ds ≡ entries_with eq (combined op kind) later es → JoinsAs eq (combined op kind) es later ds
joined_small op kind eq es later ds h e key agree =
    ap (map_of key) e
    ∙ map_of-entries_with key eq agree (combined op kind) later es h
    ∙ joined_either op kind (map_of key later) (map_of key es)

pub joined_all : {K X : Type 0} (f : Option X → X → X) (eq : K → K → Bool) (es later ds : List (K × X)) → IsDistinct eq (keys_of later) → ds ≡ entries_with eq f es later → JoinsAs eq f es later ds
joined_all f eq es later ds h e key agree = ap (map_of key) e ∙ map_of-entries_with key eq agree f es later h

pub on_ok : {T E P Q : Type 0} (r : Result T E) → OnOk r P → (P → Q) → OnOk r Q
on_ok (Ok x) p f = f p
on_ok (Err e) p f = tt
