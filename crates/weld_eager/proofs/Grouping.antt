-- Values merged at keys one after another, by two lists side by side.
use Rattle.std.proofs.Common.{◌≡◌, ℕ, zero, suc, ◌+◌, ◌<◌, ◌≤◌, ℤ, pos, List, [], ◌∷◌, map, map-id, drop, length, slice_index_or, slice_get, Option, Some, None, ap, sym, refl, subst, ◌∙◌, arith}
use Rattle.std.specs.FinMap as finite
use Rattle.std.specs.List.{AllByRecursion}
use Rattle.std.specs.Map.{keys_of}
use Rattle.weld_data.specs.declared.kind.Kind.{Kind}
use Rattle.weld_data.specs.declared.kind.Kind.TheVariants as kinds
use Rattle.weld_data.specs.declared.op.MergeOp.{MergeOp}
use Rattle.weld_data.specs.declared.op.MergeOp.TheVariants as merges
use Rattle.weld_data.specs.Kind.{InRange}
use Rattle.weld_data.specs.Wrapped.{wrapped}
use Rattle.weld_data.specs.Value.{Value, number, list, struct, dict, entries, Values, no_values, and_value, list_of_values}
use Rattle.weld_data.proofs.Wrapping.{wrapped-in_range}
use Rattle.weld_tree.specs.TypeTree.{TypeTree}
use Rattle.weld_tree.specs.HasValue.{HasValue, AllAre}
use Rattle.weld_eval.specs.Fits.{IsList}
use Rattle.weld_builders.specs.ValueOrder.{ValueMap}
use Rattle.weld_builders.specs.Outcome.{done, fault, map_out}
use Rattle.weld_builders.specs.Part.{merge_key, combined as combined_number, appended, dictionary}
use Rattle.weld_builders.specs.Range.{AllInRange}
use Rattle.weld_pieces.specs.Kept.{IsKeptKey}
use Rattle.weld_pieces.specs.Keyed.{KeysAreKept, HasOneKeyType, itself, shown}
use Rattle.weld_pieces.proofs.KeptKeys.{start_holds, merge_holds}
use Rattle.weld_eager.proofs.Words.{bits, bits_are, all_in_range_at}
use Rattle.weld_eval_forms.proofs.KeyTypes.{is_key, same_keys}
use Rattle.weld_calls.specs.Lists.{items, numbers, vector, paired, grouped, wrapped_sum}
use Rattle.weld_calls.specs.CallMeaning.{group_sum_meaning, group_list_meaning, group_count_meaning}
use Rattle.weld_calls.proofs.Groups.{merge_all, merged_by_keys, by_keys_same, chained, beside_itself}
use Rattle.weld_calls.proofs.Eaches.{map-map}
use Rattle.weld_calls.proofs.Outcomes.{map_out-map_out, map_out-same}
use Rattle.weld_calls.specs.Lists.{of_some, by_keys, beside, how_many}
use Rattle.weld_data.specs.Lookup.{same_value}
use Rattle.weld_groups.specs.Groups.{list_value}
use Rattle.weld_eager.specs.Reading.{IsKeyOf, AreKeys, IsKeyVector, AreGrouped, how_many_wrapped}
use Rattle.weld_eager.proofs.Combining.{left_from, paired_apart}
use Rattle.weld_eager.proofs.Keeping.{values_left}

-- ---- keys

key_there : (P : Value → Type 0) (vs : List Value) (i : ℕ) (v : Value) → AllByRecursion P vs → slice_get vs i ≡ Some v → P v
key_there P [] i v h e = let no : ⊥ = cc in absurd no
key_there P (u ∷ vs) zero v h e = let same : u ≡ v = cc in subst P same h.0
key_there P (u ∷ vs) (suc i) v h e = key_there P vs i v h.1 e

pub may_merge : (made : Option Kind) (vs : List Value) (i : ℕ) (v : Value) → made ≡ None → AreKeys vs → slice_get vs i ≡ Some v → IsKeptKey made v
may_merge made vs i v same h e =
    let k = key_there (IsKeyOf h.0) vs i v h.1 e in
    subst (λ o. IsKeptKey o v) (sym same) (is_key h.0 v k.1 k.0)

-- what holds of each of the keys holds of each key that is there
abbrev pub KeysSoFar : {X : Type 0} → List Value → ValueMap X → Type 0
KeysSoFar vs m = (t : TypeTree) → AllByRecursion (IsKeyOf t) vs → AllByRecursion (IsKeyOf t) (keys_of (finite.entries m))

pub keys_start : (X : Type 0) (vs : List Value) (m : ValueMap X) → m ≡ finite.empty → KeysSoFar vs m
keys_start X vs m e t h = subst (λ n. AllByRecursion (IsKeyOf t) (keys_of (finite.entries n))) (sym e) (start_holds X (IsKeyOf t))

pub keys_more : {X : Type 0} (vs : List Value) (i : ℕ) (v : Value) (f : Option X → X → X) (x : X) (m new : ValueMap X) → slice_get vs i ≡ Some v → new ≡ merge_key f m v x → KeysSoFar vs m → KeysSoFar vs new
keys_more vs i v f x m new e is so t h =
    subst (λ n. AllByRecursion (IsKeyOf t) (keys_of (finite.entries n))) (sym is) (merge_holds (IsKeyOf t) f m v x (so t h) (key_there (IsKeyOf t) vs i v h e))

all_kept : (t : TypeTree) (vs : List Value) → AllByRecursion (IsKeyOf t) vs → AllByRecursion (IsKeptKey None) vs
all_kept t [] h = tt
all_kept t (v ∷ vs) h = (is_key t v h.0.1 h.0.0, all_kept t vs h.1)

pub keys_kept : {X : Type 0} (made : Option Kind) (vs : List Value) (m : ValueMap X) → made ≡ None → AreKeys vs → KeysSoFar vs m → KeysAreKept made m
keys_kept made vs m same h so = subst (λ o. KeysAreKept o m) (sym same) (all_kept h.0 (keys_of (finite.entries m)) (so h.0 h.1))

key_at : {X : Type 0} (P : Value → Type 0) (es : List (Value × X)) (i : ℕ) (d : Value × X) → AllByRecursion P (keys_of es) → i < length es → P (slice_index_or es i d).0
key_at P [] i d h l = absurd (none i l)
  where
    none : (i : ℕ) → i < 0 → ⊥
    none i h = omega (arith, h)
key_at P (e ∷ es) zero d h l = h.0
key_at P (e ∷ es) (suc i) d h l = key_at P es i d h.1 (omega (arith, l))

pub keys_agree : {X : Type 0} (vs : List Value) (m : ValueMap X) → AreKeys vs → KeysSoFar vs m → HasOneKeyType m
keys_agree vs m h so = λ i j d l n.
    let p = so h.0 h.1 in
    let a = key_at (IsKeyOf h.0) (finite.entries m) i d p (omega (arith, l, n)) in
    let b = key_at (IsKeyOf h.0) (finite.entries m) j d p n in
    same_keys h.0 _ _ a.1 a.0 b.0

all_as : (P Q : Value → Type 0) (vs : Values) → ((v : Value) → P v → Q v) → AllAre P vs → AllByRecursion Q (list_of_values vs)
all_as P Q no_values f h = tt
all_as P Q (and_value v vs) f h = (f v h.0, all_as P Q vs f h.1)

vector_keys : (v : Value) → IsKeyVector v → AreKeys (items v)
vector_keys (list vs) h = (h.0, all_as (HasValue h.0) (IsKeyOf h.0) vs (λ v g. (g, h.1)) h.2)
vector_keys (number m x) h = absurd h.2
vector_keys (struct vs) h = absurd h.2
vector_keys (dict es) h = absurd h.2

pub key_column : (v : Value) (cs : List Value) → IsKeyVector v → items v ≡ cs → AreKeys cs
key_column v cs h e = subst AreKeys e (vector_keys v h)

pub keys_are_list : (v : Value) → IsKeyVector v → IsList v
keys_are_list (list vs) h = tt
keys_are_list (number m x) h = absurd h.2
keys_are_list (struct vs) h = absurd h.2
keys_are_list (dict es) h = absurd h.2

-- ---- what is left

module _ {A X : Type 0} (f : Option X → X → X) (w : A → X) where
  -- what the pairs come to behind a map
  abbrev pub merged_on : ValueMap X → List (Value × A) → ValueMap X
  merged_on m ps = merge_all f m (map (λ (p : Value × A). (p.0, w p.1)) ps)

  -- so far this map is there, and what is left is merged into it
  abbrev pub MergedSoFar : List Value → List A → ℕ → ValueMap X → Type 0
  MergedSoFar keys xs i m = map_out (merged_on finite.empty) (paired keys xs) ≡ map_out (merged_on m) (paired (drop i keys) (drop i xs))

  pub merged_start : (keys : List Value) (xs : List A) (m : ValueMap X) → m ≡ finite.empty → MergedSoFar keys xs 0 m
  merged_start keys xs m e = ap (λ n. map_out (merged_on n) (paired keys xs)) (sym e)

  pub merged_more : (keys : List Value) (xs : List A) (i : ℕ) (key : Value) (x : A) (y : X) (m new : ValueMap X) → slice_get keys i ≡ Some key → drop i xs ≡ x ∷ drop (i + 1) xs → y ≡ w x → new ≡ merge_key f m key y → MergedSoFar keys xs i m → MergedSoFar keys xs (i + 1) new
  merged_more keys xs i key x y m new e g h is so =
      so ∙ (λ j. map_out (merged_on m) (paired (values_left keys i key e j) (g j)))
      ∙ map_out-map_out (λ ps. (key, x) ∷ ps) (merged_on m) (paired (drop (i + 1) keys) (drop (i + 1) xs))
      ∙ ap (λ n. map_out (merged_on n) (paired (drop (i + 1) keys) (drop (i + 1) xs))) (ap (merge_key f m key) (sym h) ∙ sym is)

  pub merged_all : (rule : List A → X) (keys : List Value) (xs : List A) (i : ℕ) (m : ValueMap X) → ((ys : List A) → chained f None (map w ys) ≡ of_some rule ys) → length keys ≤ i → length xs ≤ i → MergedSoFar keys xs i m → AreGrouped rule keys xs m
  merged_all rule keys xs i m r l n so =
      map_out-same (paired keys xs) _ _ (λ ps. sym (merged_by_keys f w rule ps r))
      ∙ so ∙ (λ j. map_out (merged_on m) (paired (past keys i l j) (past xs i n j)))
    where
      past : {B : Type 0} (xs : List B) (i : ℕ) → length xs ≤ i → drop i xs ≡ []
      past [] zero h = refl
      past [] (suc i) h = refl
      past (x ∷ xs) zero h = absurd (omega (arith, h))
      past (x ∷ xs) (suc i) h = past xs i (omega (arith, h))

-- ---- sums

pub sums_more : (k m : Kind) (op : MergeOp) (keys : List Value) (xs : List ℤ) (i : ℕ) (key : Value) (old new : ValueMap ℤ) → AllInRange k xs → i < length xs → op ≡ merges.Add → m ≡ k → slice_get keys i ≡ Some key
    → new ≡ merge_key (combined_number op m) old key (bits (slice_index_or xs i (pos 0))) → MergedSoFar (combined_number merges.Add k) (wrapped k) keys xs i old → MergedSoFar (combined_number merges.Add k) (wrapped k) keys xs (i + 1) new
sums_more k m op keys xs i key old new f h o s e is so =
    let x = slice_index_or xs i (pos 0) in
    let there : InRange k x = all_in_range_at k xs i (pos 0) f h in
    merged_more (combined_number merges.Add k) (wrapped k) keys xs i key x (bits x) old new e (left_from xs i h) (bits_are k x there ∙ sym (wrapped-in_range k x there))
    (is ∙ (λ j. merge_key (combined_number (o j) (s j)) old key (bits x))) so

pub sums_apart : (k : Kind) (keys v : Value) (cs : List Value) (xs : List ℤ) → items keys ≡ cs → xs ≡ numbers v → (length cs ≡ length xs → ⊥) → group_sum_meaning k keys v ≡ fault
sums_apart k keys v cs xs e g ne =
    (λ j. map_out (λ (ps : List (Value × ℤ)). dictionary (number k) (grouped (wrapped_sum k) ps)) (paired (e j) (sym g j)))
    ∙ ap (map_out (λ (ps : List (Value × ℤ)). dictionary (number k) (grouped (wrapped_sum k) ps))) (paired_apart cs xs ne)

pub grouped_answer : {A X : Type 0} (view : X → Value) (rule : List A → X) (vs cs : List Value) (us xs : List A) (m : ValueMap X) → vs ≡ cs → us ≡ xs → AreGrouped rule cs xs m → map_out (λ (ps : List (Value × A)). dictionary view (grouped rule ps)) (paired vs us) ≡ done (dictionary view m)
grouped_answer view rule vs cs us xs m e g h =
    (λ j. map_out (λ (ps : List (Value × _)). dictionary view (grouped rule ps)) (paired (e j) (g j)))
    ∙ sym (map_out-map_out (grouped rule) (dictionary view) (paired cs xs)) ∙ ap (map_out (dictionary view)) h

pub sums_answer : (k m : Kind) (keys v : Value) (cs : List Value) (xs : List ℤ) (n : ValueMap ℤ) (es : List (Value × Value)) → m ≡ k → items keys ≡ cs → xs ≡ numbers v → AreGrouped (wrapped_sum k) cs xs n → es ≡ shown itself (number m) (finite.entries n) → group_sum_meaning k keys v ≡ done (dict (entries es))
sums_answer k m keys v cs xs n es s e g h is = grouped_answer (number k) (wrapped_sum k) (items keys) cs (numbers v) xs n e (sym g) h ∙ ap (λ o. done (dictionary (number o) n)) (sym s) ∙ ap (λ ds. done (dict (entries ds))) (sym is)

-- ---- counts

paired_itself : (vs : List Value) → paired vs vs ≡ done (map (λ (u : Value). (u, u)) vs)
paired_itself [] = refl
paired_itself (v ∷ vs) = ap (map_out (λ ps. (v, v) ∷ ps)) (paired_itself vs)

counted : (vs : List Value) → grouped how_many_wrapped (map (λ (u : Value). (u, u)) vs) ≡ by_keys (λ key. wrapped kinds.I64 (pos (how_many (λ k. same_value k key) vs))) vs
counted vs =
    ap (by_keys (λ key. wrapped kinds.I64 (pos (length (beside key (map (λ (u : Value). (u, u)) vs)))))) (map-map (λ (u : Value). (u, u)) (λ (p : Value × Value). p.0) vs ∙ map-id vs)
    ∙ by_keys_same _ _ vs (λ q. ap (λ n. wrapped kinds.I64 (pos n)) (beside_itself vs q))

pub counts_more : (k : Kind) (op : MergeOp) (vs : List Value) (i : ℕ) (key : Value) (old new : ValueMap ℤ) → op ≡ merges.Add → k ≡ kinds.I64 → slice_get vs i ≡ Some key
    → new ≡ merge_key (combined_number op k) old key (pos 1) → MergedSoFar (combined_number merges.Add kinds.I64) (λ (v : Value). pos 1) vs vs i old → MergedSoFar (combined_number merges.Add kinds.I64) (λ (v : Value). pos 1) vs vs (i + 1) new
counts_more k op vs i key old new o s e is so =
    merged_more (combined_number merges.Add kinds.I64) (λ (v : Value). pos 1) vs vs i key key (pos 1) old new e (values_left vs i key e) refl
    (is ∙ (λ j. merge_key (combined_number (o j) (s j)) old key (pos 1))) so

pub counts_answer : (k : Kind) (keys : Value) (cs : List Value) (n : ValueMap ℤ) (es : List (Value × Value)) → k ≡ kinds.I64 → items keys ≡ cs → AreGrouped how_many_wrapped cs cs n → es ≡ shown itself (number k) (finite.entries n) → group_count_meaning (items keys) ≡ done (dict (entries es))
counts_answer k keys cs n es s e h is =
    let same : done (grouped how_many_wrapped (map (λ (u : Value). (u, u)) cs)) ≡ done n = ap (map_out (grouped how_many_wrapped)) (sym (paired_itself cs)) ∙ h in
    ap group_count_meaning e ∙ ap (λ m. done (dictionary (number kinds.I64) m)) (sym (counted cs)) ∙ ap (map_out (dictionary (number kinds.I64))) same
    ∙ ap (λ o. done (dictionary (number o) n)) (sym s) ∙ ap (λ ds. done (dict (entries ds))) (sym is)

-- ---- lists

pub lists_more : (keys vs : List Value) (i : ℕ) (key v : Value) (old new : ValueMap (List Value)) → slice_get keys i ≡ Some key → slice_get vs i ≡ Some v
    → new ≡ merge_key appended old key (v ∷ []) → MergedSoFar appended (λ (u : Value). u ∷ []) keys vs i old → MergedSoFar appended (λ (u : Value). u ∷ []) keys vs (i + 1) new
lists_more keys vs i key v old new e g is so = merged_more appended (λ (u : Value). u ∷ []) keys vs i key v (v ∷ []) old new e (values_left vs i v g) refl is so

pub lists_apart : (keys v : Value) (cs vs : List Value) → items keys ≡ cs → items v ≡ vs → (length cs ≡ length vs → ⊥) → group_list_meaning keys v ≡ fault
lists_apart keys v cs vs e g ne =
    (λ j. map_out (λ (ps : List (Value × Value)). dictionary vector (grouped (λ us. us) ps)) (paired (e j) (g j)))
    ∙ ap (map_out (λ (ps : List (Value × Value)). dictionary vector (grouped (λ us. us) ps))) (paired_apart cs vs ne)

pub lists_answer : (keys v : Value) (cs vs : List Value) (n : ValueMap (List Value)) (es : List (Value × Value)) → items keys ≡ cs → items v ≡ vs → AreGrouped (λ us. us) cs vs n → es ≡ shown itself list_value (finite.entries n) → group_list_meaning keys v ≡ done (dict (entries es))
lists_answer keys v cs vs n es e g h is = grouped_answer vector (λ us. us) (items keys) cs (items v) vs n e g h ∙ ap (λ ds. done (dict (entries ds))) (sym is)
