-- Values merged at keys one after another: what each key has is told by a filter of the whole list.
use Rattle.std.proofs.Common.{◌≡◌, ℤ, pos, ◌+ℤ◌, suc, append-nil, append_assoc, arith, Option, Some, None, List, [], ◌∷◌, ◌++◌, map, filter, length, Bool, true, false, cond, ap, sym, refl, ◌∙◌}
use Rattle.std.specs.FinMap as finite
use Rattle.std.proofs.lemmas.Int.{ints}
use Rattle.weld_data.specs.declared.kind.Kind.{Kind}
use Rattle.weld_data.specs.declared.kind.Kind.TheVariants as kinds
use Rattle.weld_data.specs.declared.op.MergeOp.TheVariants as merges
use Rattle.weld_data.specs.Wrapped.{wrapped}
use Rattle.weld_data.specs.Operation.{combination}
use Rattle.weld_data.proofs.Wrapping.{wrapped-add_left}
use Rattle.weld_data.specs.Value.{Value}
use Rattle.weld_data.specs.Lookup.{same_value}
use Rattle.weld_data.proofs.Lookups.{Decides-same_value}
use Rattle.weld_builders.specs.ValueOrder.{value_cmp, ValueMap}
use Rattle.weld_builders.specs.Part.{merge_key, combined as combined_number, appended}
use Rattle.weld_builders.proofs.Maps.{get-merge_key, same_maps}
use Rattle.weld_builders.proofs.GroupOrder.{ties_are_equal}
use Rattle.weld_calls.specs.Lists.{of_some, beside, by_keys, grouped, how_many, wrapped_sum}
use Rattle.weld_calls.proofs.Keys.{get-by_keys, keys_are_those}
use Rattle.weld_calls.specs.Folds.{combined_all}
use Rattle.weld_calls.proofs.Totals.{sum_from_wrapped, wrapped_one}

module _ {X : Type 0} (f : Option X → X → X) where
  -- values one after another behind what may be there
  abbrev pub chained : Option X → List X → Option X
  chained o [] = o
  chained o (x ∷ xs) = chained (Some (f o x)) xs

  abbrev pub merge_all : ValueMap X → List (Value × X) → ValueMap X
  merge_all m [] = m
  merge_all m (p ∷ ps) = merge_all (merge_key f m p.0 p.1) ps

  same_key : (m : ValueMap X) (p : Value × X) (q : Value) → finite.get (merge_key f m p.0 p.1) q ≡ cond (same_value p.0 q) (Some (f (finite.get m q) p.1)) (finite.get m q)
  same_key m p q =
      get-merge_key f m p.0 p.1 q ∙ ap (λ b. cond b (Some (f (finite.get m p.0) p.1)) (finite.get m q)) (ties_are_equal q p.0)
      ∙ by (same_value p.0 q) (λ e. (Decides-same_value p.0 q).0 e)
    where
      by : (b : Bool) → (b ≡ true → p.0 ≡ q) → cond b (Some (f (finite.get m p.0) p.1)) (finite.get m q) ≡ cond b (Some (f (finite.get m q) p.1)) (finite.get m q)
      by true e = ap (λ k. Some (f (finite.get m k) p.1)) (e refl)
      by false e = refl

  pub get-merge_all : (m : ValueMap X) (ps : List (Value × X)) (q : Value) → finite.get (merge_all m ps) q ≡ chained (finite.get m q) (beside q ps)
  get-merge_all m [] q = refl
  get-merge_all m (p ∷ ps) q =
      get-merge_all (merge_key f m p.0 p.1) ps q ∙ ap (λ o. chained o (beside q ps)) (same_key m p q) ∙ by (same_value p.0 q)
    where
      by : (b : Bool) → chained (cond b (Some (f (finite.get m q) p.1)) (finite.get m q)) (beside q ps) ≡ chained (finite.get m q) (map (λ (r : Value × X). r.1) (cond b (p ∷ filter (λ (r : Value × X). same_value r.0 q) ps) (filter (λ (r : Value × X). same_value r.0 q) ps)))
      by true = refl
      by false = refl

beside-map : {A X : Type 0} (w : A → X) (ps : List (Value × A)) (q : Value) → beside q (map (λ (p : Value × A). (p.0, w p.1)) ps) ≡ map w (beside q ps)
beside-map w [] q = refl
beside-map {A} {X} w (p ∷ ps) q = by (same_value p.0 q) (beside-map w ps q)
  where
    by : (b : Bool) → beside q (map (λ (r : Value × A). (r.0, w r.1)) ps) ≡ map w (beside q ps) → map (λ (r : Value × X). r.1) (cond b ((p.0, w p.1) ∷ filter (λ (r : Value × X). same_value r.0 q) (map (λ (r : Value × A). (r.0, w r.1)) ps)) (filter (λ (r : Value × X). same_value r.0 q) (map (λ (r : Value × A). (r.0, w r.1)) ps)))
        ≡ map w (map (λ (r : Value × A). r.1) (cond b (p ∷ filter (λ (r : Value × A). same_value r.0 q) ps) (filter (λ (r : Value × A). same_value r.0 q) ps)))
    by true h = ap (λ xs. w p.1 ∷ xs) h
    by false h = h

-- merged from nothing, each key has what the rule makes of the values beside it
pub merged_by_keys : {A X : Type 0} (f : Option X → X → X) (w : A → X) (rule : List A → X) (ps : List (Value × A)) → ((xs : List A) → chained f None (map w xs) ≡ of_some rule xs) → merge_all f finite.empty (map (λ (p : Value × A). (p.0, w p.1)) ps) ≡ grouped rule ps
merged_by_keys {A} f w rule ps h =
    same_maps _ _ (λ q. get-merge_all f finite.empty (map (λ (p : Value × A). (p.0, w p.1)) ps) q
    ∙ ap (λ o. chained f o (beside q (map (λ (p : Value × A). (p.0, w p.1)) ps))) (finite.get-empty value_cmp q)
    ∙ ap (chained f None) (beside-map w ps q)
    ∙ h (beside q ps) ∙ sym (keys_are_those rule ps q) ∙ sym (get-by_keys (λ key. rule (beside key ps)) (map (λ (p : Value × A). p.0) ps) q))

pub by_keys_same : {A : Type 0} (f g : Value → A) (keys : List Value) → ((q : Value) → f q ≡ g q) → by_keys f keys ≡ by_keys g keys
by_keys_same f g [] h = refl
by_keys_same f g (k ∷ keys) h = λ i. finite.insert (by_keys_same f g keys h i) k (h k i)

-- ---- the three rules

pub chained_sum : (k : Kind) (xs : List ℤ) → chained (combined_number merges.Add k) None (map (wrapped k) xs) ≡ of_some (wrapped_sum k) xs
chained_sum k [] = refl
chained_sum k (x ∷ xs) = chain (wrapped k x) (map (wrapped k) xs) ∙ ap Some (sum_from_wrapped k x xs)
  where
    chain : (a : ℤ) (ys : List ℤ) → chained (combined_number merges.Add k) (Some a) ys ≡ Some (combined_all merges.Add k a ys)
    chain a [] = refl
    chain a (y ∷ ys) = chain (combination merges.Add k a y) ys

pub chained_count : (xs : List Value) → chained (combined_number merges.Add kinds.I64) None (map (λ (v : Value). pos 1) xs) ≡ of_some (λ vs. wrapped kinds.I64 (pos (length vs))) xs
chained_count [] = refl
chained_count (x ∷ xs) = ap (λ o. chained (combined_number merges.Add kinds.I64) (Some o) (map (λ (v : Value). pos 1) xs)) (sym wrapped_one) ∙ chain (pos 1) xs ∙ ap (λ n. Some (wrapped kinds.I64 n)) (omega (arith, ints))
  where
    chain : (a : ℤ) (ys : List Value) → chained (combined_number merges.Add kinds.I64) (Some (wrapped kinds.I64 a)) (map (λ (v : Value). pos 1) ys) ≡ Some (wrapped kinds.I64 (a +ℤ pos (length ys)))
    chain a [] = ap (λ n. Some (wrapped kinds.I64 n)) (omega (arith, ints))
    chain a (y ∷ ys) =
        ap (λ o. chained (combined_number merges.Add kinds.I64) (Some o) (map (λ (v : Value). pos 1) ys)) (wrapped-add_left kinds.I64 a (pos 1))
        ∙ chain (a +ℤ pos 1) ys ∙ ap (λ n. Some (wrapped kinds.I64 n)) (omega (arith, ints))

pub chained_list : (xs : List Value) → chained appended None (map (λ (v : Value). v ∷ []) xs) ≡ of_some (λ vs. vs) xs
chained_list [] = refl
chained_list (x ∷ xs) = chain (x ∷ []) xs
  where
    chain : (vs ys : List Value) → chained appended (Some vs) (map (λ (v : Value). v ∷ []) ys) ≡ Some (vs ++ ys)
    chain vs [] = ap Some (sym (append-nil vs))
    chain vs (y ∷ ys) = chain (vs ++ y ∷ []) ys ∙ ap Some (append_assoc vs (y ∷ []) ys)

-- ---- a key by its places

pub beside_itself : (keys : List Value) (q : Value) → length (beside q (map (λ (k : Value). (k, k)) keys)) ≡ how_many (λ k. same_value k q) keys
beside_itself [] q = refl
beside_itself (k ∷ keys) q = by (same_value k q) (beside_itself keys q)
  where
    by : (b : Bool) → length (beside q (map (λ (r : Value). (r, r)) keys)) ≡ how_many (λ r. same_value r q) keys → length (map (λ (r : Value × Value). r.1) (cond b ((k, k) ∷ filter (λ (r : Value × Value). same_value r.0 q) (map (λ (r : Value). (r, r)) keys)) (filter (λ (r : Value × Value). same_value r.0 q) (map (λ (r : Value). (r, r)) keys))))
        ≡ length (cond b (k ∷ filter (λ r. same_value r q) keys) (filter (λ r. same_value r q) keys))
    by true h = ap suc h
    by false h = h
