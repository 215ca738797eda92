-- Lists by keys in a hashed map.
use Rattle.std.proofs.Common.{Result, Ok, Err, OnErr, ◌≡◌, ℤ, Option, Some, None, List, [], ◌∷◌, ◌++◌, Bool, true, false, true≢false, cond, is_some, length, arith, ap, sym, subst, refl, ◌∙◌}
use Rattle.std.specs.Ordering.{eq_by_cmp, int_eq}
use Rattle.std.specs.List.{IsDistinct}
use Rattle.std.specs.List.Sorted.{IsPermutation}
use Rattle.std.specs.Map.{lookup, set_value, keys_of, values_of}
use Rattle.std.specs.Option.{option_map, IfSome}
use Rattle.std.proofs.lemmas.List.Sorted.{IsPermutation-map}
use Rattle.indexmap.specs.IndexMap.{insert_entry}
use Rattle.weld_data.specs.declared.kind.Kind.{Kind}
use Rattle.weld_data.specs.Value.{Value, number}
use Rattle.weld_builders.specs.Part.{appended, merge_key, join_maps}
use Rattle.weld_builders.specs.ValueOrder.{value_cmp}
use Rattle.weld_builders.proofs.Maps.{appended-IsMerging, empty-join_maps}
use Rattle.weld_pieces.specs.declared.list.ListPart.{ListPart}
use Rattle.weld_pieces.specs.Items.{items_of_list, kind_of_items}
use Rattle.weld_pieces.specs.Keyed.{entry_with, map_of, itself, JoinsAs}
use Rattle.weld_pieces.proofs.MapLemmas.{map_of-entry_with, numbers_same, values_same, numbers_moved, values_reordered}
use Rattle.weld_groups.specs.Groups.{lists_in, AreListsOf}

lookup-lists_in : {K : Type 0} (test : K → Bool) (es : List (K × ListPart)) → lookup test (lists_in es) ≡ option_map items_of_list (lookup test es)
lookup-lists_in test [] = refl
lookup-lists_in test (e ∷ es) = by (test e.0) (lookup-lists_in test es)
  where
    by : (b : Bool) → lookup test (lists_in es) ≡ option_map items_of_list (lookup test es) → cond b (Some (items_of_list e.1)) (lookup test (lists_in es)) ≡ option_map items_of_list (cond b (Some e.1) (lookup test es))
    by true r = refl
    by false r = r

module _ {K : Type 0} (eq : K → K → Bool) where
  lists_in-insert : (es : List (K × ListPart)) (k : K) (w : ListPart) → lists_in (insert_entry eq es k w) ≡ insert_entry eq (lists_in es) k (items_of_list w)
  lists_in-insert [] k w = refl
  lists_in-insert (e ∷ es) k w = by (eq k e.0) (lists_in-insert es k w)
    where
      by : (b : Bool) → lists_in (insert_entry eq es k w) ≡ insert_entry eq (lists_in es) k (items_of_list w)
          → lists_in (cond b ((e.0, w) ∷ es) (e ∷ insert_entry eq es k w))
          ≡ cond b ((e.0, items_of_list w) ∷ lists_in es) ((e.0, items_of_list e.1) ∷ insert_entry eq (lists_in es) k (items_of_list w))
      by true r = refl
      by false r = ap (λ ds. (e.0, items_of_list e.1) ∷ ds) r

  -- items written behind those of a list that is there
  pub found_appended : (es ds : List (K × ListPart)) (k : K) (l w : ListPart) (xs : List Value) → Some l ≡ lookup (eq k) es → ds ≡ insert_entry eq es k w → items_of_list w ≡ items_of_list l ++ xs
      → lists_in ds ≡ entry_with eq appended (lists_in es) k xs
  found_appended es ds k l w xs found is so =
      ap lists_in is
      ∙ lists_in-insert es k w
      ∙ ap (insert_entry eq (lists_in es) k) so
      ∙ ap (λ (o : Option (List Value)). insert_entry eq (lists_in es) k (appended o xs)) (sym (lookup-lists_in (eq k) es ∙ ap (option_map items_of_list) (sym found)))

  -- a value written at a key that is there stands where an insert puts it
  pub set_is_insert : {X : Type 0} (es : List (K × X)) (k : K) (l w : X) → Some l ≡ lookup (eq k) es → set_value (eq k) es w ≡ insert_entry eq es k w
  set_is_insert [] k l w found = absurd (true≢false (ap is_some found))
  set_is_insert {X} (e ∷ es) k l w found = by (set_is_insert es k l w) (eq k e.0) found
    where
      by : (Some l ≡ lookup (eq k) es → set_value (eq k) es w ≡ insert_entry eq es k w) → (b : Bool) → Some l ≡ cond b (Some e.1) (lookup (eq k) es)
          → cond b ((e.0, w) ∷ es) (e ∷ set_value (eq k) es w) ≡ cond b ((e.0, w) ∷ es) (e ∷ insert_entry eq es k w)
      by rest true f = refl
      by rest false f = ap (λ ds. e ∷ ds) (rest f)

  -- a list for a key that isn't there
  pub new_appended : (es ds : List (K × ListPart)) (k : K) (w : ListPart) (xs : List Value) → None ≡ lookup (eq k) es → ds ≡ insert_entry eq es k w → items_of_list w ≡ xs
      → lists_in ds ≡ entry_with eq appended (lists_in es) k xs
  new_appended es ds k w xs none is so =
      ap lists_in is
      ∙ lists_in-insert es k w
      ∙ ap (insert_entry eq (lists_in es) k) so
      ∙ ap (λ (o : Option (List Value)). insert_entry eq (lists_in es) k (appended o xs)) (sym (lookup-lists_in (eq k) es ∙ ap (option_map items_of_list) (sym none)))

  insert_same : {X : Type 0} (es : List (K × X)) (k : K) (x : X) → Some x ≡ lookup (eq k) es → insert_entry eq es k x ≡ es
  insert_same [] k x found = absurd (true≢false (ap is_some found))
  insert_same {X} (e ∷ es) k x found = by (insert_same es k x) (eq k e.0) found
    where
      by : (Some x ≡ lookup (eq k) es → insert_entry eq es k x ≡ es) → (b : Bool) → Some x ≡ cond b (Some e.1) (lookup (eq k) es) → cond b ((e.0, x) ∷ es) (e ∷ insert_entry eq es k x) ≡ e ∷ es
      by rest true f = let same : x ≡ e.1 = cc in ap (λ y. (e.0, y) ∷ es) same
      by rest false f = ap (λ ds. e ∷ ds) (rest f)

  -- the same items written leave the lists as they were
  pub same_written : (es ds : List (K × ListPart)) (k : K) (l w : ListPart) → Some l ≡ lookup (eq k) es → ds ≡ insert_entry eq es k w → items_of_list w ≡ items_of_list l → lists_in ds ≡ lists_in es
  same_written es ds k l w found is so =
      ap lists_in is
      ∙ lists_in-insert es k w
      ∙ ap (insert_entry eq (lists_in es) k) so
      ∙ insert_same (lists_in es) k (items_of_list l) (sym (lookup-lists_in (eq k) es ∙ ap (option_map items_of_list) (sym found)))

  -- ---- how items are kept

  pub inserted_lists : (kind : Option Kind) (es ds : List (K × ListPart)) (k : K) (w : ListPart) → AreListsOf kind (values_of es) → kind_of_items w ≡ kind → ds ≡ insert_entry eq es k w → AreListsOf kind (values_of ds)
  inserted_lists kind es ds k w h l is = subst (λ xs. AreListsOf kind (values_of xs)) (sym is) (insert es h)
    where
      insert : (es : List (K × ListPart)) → AreListsOf kind (values_of es) → AreListsOf kind (values_of (insert_entry eq es k w))
      insert [] h = (l, tt)
      insert (e ∷ es) h = by (eq k e.0) (insert es h.1)
        where
          by : (b : Bool) → AreListsOf kind (values_of (insert_entry eq es k w)) → AreListsOf kind (values_of (cond b ((e.0, w) ∷ es) (e ∷ insert_entry eq es k w)))
          by true r = (l, h.1)
          by false r = (h.0, r)

pub found_list : {K : Type 0} (kind : Option Kind) (test : K → Bool) (es : List (K × ListPart)) (l : ListPart) → AreListsOf kind (values_of es) → Some l ≡ lookup test es → kind_of_items l ≡ kind
found_list {K} kind test es l h found = subst (λ o. IfSome o (λ (p : ListPart). kind_of_items p ≡ kind)) (sym found) (at es h)
  where
    at : (es : List (K × ListPart)) → AreListsOf kind (values_of es) → IfSome (lookup test es) (λ (p : ListPart). kind_of_items p ≡ kind)
    at [] h = tt
    at (e ∷ es) h = by (test e.0) (at es h.1)
      where
        by : (b : Bool) → IfSome (lookup test es) (λ (p : ListPart). kind_of_items p ≡ kind) → IfSome (cond b (Some e.1) (lookup test es)) (λ (p : ListPart). kind_of_items p ≡ kind)
        by true r = h.0
        by false r = r

pub on_err : {T E P Q : Type 0} (r : Result T E) → OnErr r P → (P → Q) → OnErr r Q
on_err (Ok x) p f = tt
on_err (Err e) p f = f p

pub keys_of-lists_in : {K : Type 0} (es : List (K × ListPart)) → keys_of (lists_in es) ≡ keys_of es
keys_of-lists_in [] = refl
keys_of-lists_in (e ∷ es) = ap (λ ks. e.0 ∷ ks) (keys_of-lists_in es)

pub distinct_lists : {K : Type 0} (eq : K → K → Bool) (es : List (K × ListPart)) → IsDistinct eq (keys_of es) → IsDistinct eq (keys_of (lists_in es))
distinct_lists eq es h = subst (IsDistinct eq) (sym (keys_of-lists_in es)) h

none_long : {X : Type 0} (xs : List X) → length xs ≡ 0 → xs ≡ []
none_long [] n = refl
none_long (x ∷ xs) n = absurd (omega arith)

-- the later lists come to no lists as they are
pub joined_whole : {K : Type 0} (eq : K → K → Bool) (es later : List (K × ListPart)) → length es ≡ 0 → JoinsAs eq appended (lists_in es) (lists_in later) (lists_in later)
joined_whole eq es later none key agree =
    sym (ap (λ ds. join_maps appended (map_of key (lists_in ds)) (map_of key (lists_in later))) (none_long es none) ∙ empty-join_maps appended-IsMerging (map_of key (lists_in later)))

-- ---- in any order

pub numbers_sorted : (k : Kind) (es ds : List (ℤ × ListPart)) → IsPermutation es ds → IsDistinct int_eq (keys_of ds) → map_of (number k) (lists_in ds) ≡ map_of (number k) (lists_in es)
numbers_sorted k es ds moves h =
    numbers_moved k (lists_in es) (lists_in ds) (IsPermutation-map (λ (e : ℤ × ListPart). (e.0, items_of_list e.1)) es ds moves) (distinct_lists int_eq ds h)

pub values_sorted : (es ds : List (Value × ListPart)) → IsPermutation es ds → IsDistinct (eq_by_cmp value_cmp) (keys_of ds) → map_of itself (lists_in ds) ≡ map_of itself (lists_in es)
values_sorted es ds moves h =
    values_reordered (lists_in es) (lists_in ds) (IsPermutation-map (λ (e : Value × ListPart). (e.0, items_of_list e.1)) es ds moves) (distinct_lists (eq_by_cmp value_cmp) ds h)

-- ---- as maps from values

pub numbers_appended : (k : Kind) (es ds : List (ℤ × ListPart)) (key : ℤ) (xs : List Value) → lists_in ds ≡ entry_with int_eq appended (lists_in es) key xs → map_of (number k) (lists_in ds) ≡ merge_key appended (map_of (number k) (lists_in es)) (number k key) xs
numbers_appended k es ds key xs e = ap (map_of (number k)) e ∙ map_of-entry_with (number k) int_eq (numbers_same k) appended (lists_in es) key xs

pub values_appended : (es ds : List (Value × ListPart)) (key : Value) (xs : List Value) → lists_in ds ≡ entry_with (eq_by_cmp value_cmp) appended (lists_in es) key xs → map_of itself (lists_in ds) ≡ merge_key appended (map_of itself (lists_in es)) key xs
values_appended es ds key xs e =
    ap (map_of itself) e ∙ map_of-entry_with itself (eq_by_cmp value_cmp) values_same appended (lists_in es) key xs
