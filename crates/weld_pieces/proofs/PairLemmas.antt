-- Entries in the order of their keys, as a dictionary.
use Rattle.std.proofs.Common.{◌≡◌, Bool, true, false, true≢false, cond, is_some, Option, ℕ, zero, suc, ◌<◌, ℤ, ◌<ℤ◌, Some, None, List, [], ◌∷◌, ◌++◌, map, length, slice_index_or, AllPairs, Less, int_cmp, append_assoc, append-nil, ap, sym, subst, refl, ◌∙◌, arith}
use Rattle.std.specs.Ordering.{MatchOrdering, eq_by_cmp}
use Rattle.std.specs.Cmp.{int_ranks}
use Rattle.std.specs.List.{All, AllByRecursion}
use Rattle.std.specs.List.Sorted.{IsStrictlySortedBy}
use Rattle.std.specs.Map.{keys_of}
use Rattle.std.proofs.lemmas.Map.Keys.{sorted_head, sorted_tail}
use Rattle.std.proofs.lemmas.List.{map-append}
use Rattle.std.specs.FinMap as finite
use Rattle.weld_data.specs.declared.kind.Kind.{Kind}
use Rattle.weld_data.specs.declared.value.Pair.{Pair}
use Rattle.weld_data.specs.View.{view_pair}
use Rattle.weld_data.specs.Value.{Value, number}
use Rattle.weld_data.specs.Order.{IsKey, KeyLess, KeyStands, SameKeyType, KeyPrecedes, Rises}
use Rattle.weld_builders.specs.ValueOrder.{value_cmp}
use Rattle.weld_builders.specs.Range.{AllInRange}
use Rattle.weld_builders.proofs.Order.{value_cmp_total}
use Rattle.weld_builders.proofs.Steps.{keys_stand}
use Rattle.weld_pieces.specs.Keyed.{map_of, by_value, itself, KeysAreKept, HasOneKeyType, shown}
use Rattle.weld_pieces.specs.Kept.{IsKeptKey}
use Rattle.weld_pieces.proofs.MapLemmas.{one, own, entries-map_of, numbers_agree, values_agree}

-- ---- rising keys, entry by entry

abbrev PrecedesAll : Value → List (Value × Value) → Type 0
PrecedesAll k [] = Unit {0}
PrecedesAll k (e ∷ es) = KeyPrecedes k e.0 × PrecedesAll k es

abbrev InTurn : List (Value × Value) → Type 0
InTurn [] = Unit {0}
InTurn (e ∷ es) = PrecedesAll e.0 es × InTurn es

first_precedes : (k : Value) (es : List (Value × Value)) (j : ℕ) (d : Value × Value) → PrecedesAll k es → j < length es → KeyPrecedes k (slice_index_or es j d).0
first_precedes k [] j d h l = absurd (omega arith)
first_precedes k (e ∷ es) zero d h l = h.0
first_precedes k (e ∷ es) (suc j) d h l = first_precedes k es j d h.1 (omega arith)

strictly : (es : List (Value × Value)) → InTurn es → AllPairs (λ (a b : Value × Value). KeyPrecedes a.0 b.0) es
strictly [] h i j d l m = absurd (omega arith)
strictly (e ∷ es) h i zero d l m = absurd (omega arith)
strictly (e ∷ es) h zero (suc j) d l m = first_precedes e.0 es j d h.0 (omega arith)
strictly (e ∷ es) h (suc i) (suc j) d l m = strictly es h.1 i j d (omega arith) (omega arith)

each_key : (es : List (Value × Value)) → AllByRecursion IsKey (keys_of es) → All (λ (e : Value × Value). IsKey e.0) es
each_key [] h i d l = absurd (omega arith)
each_key (e ∷ es) h zero d l = h.0
each_key (e ∷ es) h (suc i) d l = each_key es h.1 i d (omega arith)

rises : (es : List (Value × Value)) → AllByRecursion IsKey (keys_of es) → InTurn es → Rises es
rises es k h = record { keys = each_key es k; rise = strictly es h }

less_number : (x y : ℤ) → int_cmp x y ≡ Less → x <ℤ y
less_number x y e = subst (λ o. MatchOrdering o (x <ℤ y) (x ≡ y) (y <ℤ x)) e (int_ranks x y)

less_value : (x y : Value) → SameKeyType x y → value_cmp x y ≡ Less → KeyLess x y
less_value x y s e = subst (λ o. KeyStands o x y) e (keys_stand x y s)

module _ {X : Type 0} (value : X → Value) where
  -- ---- keys that are numbers of a kind

  number_precedes : (kk : Kind) (x : ℤ) (es : List (ℤ × X)) → AllByRecursion (λ y. int_cmp x y ≡ Less) (keys_of es) → PrecedesAll (number kk x) (shown (number kk) value es)
  number_precedes kk x [] h = tt
  number_precedes kk x (e ∷ es) h = (record { same_type = refl; less = less_number x e.0 h.0 }, number_precedes kk x es h.1)

  numbers_in_turn : (kk : Kind) (es : List (ℤ × X)) → IsStrictlySortedBy int_cmp (keys_of es) → InTurn (shown (number kk) value es)
  numbers_in_turn kk [] h = tt
  numbers_in_turn kk (e ∷ es) h = (number_precedes kk e.0 es (sorted_head int_cmp e.0 (keys_of es) h), numbers_in_turn kk es (sorted_tail int_cmp e.0 (keys_of es) h))

  numbers_are_keys : (kk : Kind) (es : List (ℤ × X)) → AllByRecursion IsKey (keys_of (shown (number kk) value es))
  numbers_are_keys kk [] = tt
  numbers_are_keys kk (e ∷ es) = (tt, numbers_are_keys kk es)

  pub numbers_rise : (kk : Kind) (es : List (ℤ × X)) → IsStrictlySortedBy int_cmp (keys_of es) → Rises (shown (number kk) value es)
  numbers_rise kk es h = rises _ (numbers_are_keys kk es) (numbers_in_turn kk es h)

  -- ---- keys that are kept as values

  abbrev plain : List (Value × X) → List (Value × X)
  plain es = map (λ (e : Value × X). (itself e.0, e.1)) es

  -- the first key is of one type with each later one, and so on
  abbrev OfOneType : Value → List (Value × X) → Type 0
  OfOneType k [] = Unit {0}
  OfOneType k (e ∷ es) = SameKeyType k e.0 × OfOneType k es

  one_type_with : (k : Value) (v : X) (es : List (Value × X)) → ((j : ℕ) (d : Value × X) → j < length (plain es) → SameKeyType k (slice_index_or (plain es) j d).0) → OfOneType k es
  one_type_with k v [] h = tt
  one_type_with k v (e ∷ es) h = (h 0 e (omega arith), one_type_with k v es (λ j d l. h (suc j) d (omega arith)))

  value_precedes : (x : Value) (es : List (Value × X)) → OfOneType x es → AllByRecursion (λ y. value_cmp x y ≡ Less) (keys_of es) → PrecedesAll x (shown itself value es)
  value_precedes x [] t h = tt
  value_precedes x (e ∷ es) t h = (record { same_type = t.0; less = less_value x e.0 t.0 h.0 }, value_precedes x es t.1 h.1)

  values_in_turn : (es : List (Value × X)) → AllPairs (λ (a b : Value × X). SameKeyType a.0 b.0) (plain es) → IsStrictlySortedBy value_cmp (keys_of es) → InTurn (shown itself value es)
  values_in_turn [] t h = tt
  values_in_turn (e ∷ es) t h = (
    value_precedes e.0 es (one_type_with e.0 e.1 es (λ j d l. t 0 (suc j) d (omega arith) (omega arith))) (sorted_head value_cmp e.0 (keys_of es) h),
    values_in_turn es (λ i j d l m. t (suc i) (suc j) d (omega arith) (omega arith)) (sorted_tail value_cmp e.0 (keys_of es) h),
  )

  values_are_keys : (es : List (Value × X)) → AllByRecursion IsKey (keys_of (plain es)) → AllByRecursion IsKey (keys_of (shown itself value es))
  values_are_keys [] h = tt
  values_are_keys (e ∷ es) h = (h.0, values_are_keys es h.1)

  pub values_rise : (es : List (Value × X)) → KeysAreKept None (map_of itself es) → HasOneKeyType (map_of itself es) → IsStrictlySortedBy value_cmp (keys_of es) → Rises (shown itself value es)
  values_rise es a t h =
      rises _ (values_are_keys es (subst (λ ds. AllByRecursion IsKey (keys_of ds)) (entries-map_of itself value_cmp values_agree es h) a)) (values_in_turn es (subst (AllPairs (λ (a b : Value × X). SameKeyType a.0 b.0)) (entries-map_of itself value_cmp values_agree es h) t) h)

  -- ---- the entries of the map

  shown_again : {K : Type 0} (key : K → Value) (es : List (K × X)) → shown key value es ≡ shown itself value (map (λ (e : K × X). (key e.0, e.1)) es)
  shown_again key [] = refl
  shown_again key (e ∷ es) = ap (λ ds. (key e.0, value e.1) ∷ ds) (shown_again key es)

  pub numbers_shown : (kk : Kind) (es : List (ℤ × X)) → IsStrictlySortedBy int_cmp (keys_of es) → shown (number kk) value es ≡ shown itself value (finite.entries (map_of (number kk) es))
  numbers_shown kk es h = shown_again (number kk) es ∙ ap (shown itself value) (sym (entries-map_of (number kk) int_cmp (numbers_agree kk) es h))

  pub values_shown : (es : List (Value × X)) → IsStrictlySortedBy value_cmp (keys_of es) → shown itself value es ≡ shown itself value (finite.entries (map_of itself es))
  values_shown es h = shown_again itself es ∙ ap (shown itself value) (sym (entries-map_of itself value_cmp values_agree es h))

-- ---- what holds of each key of the map holds of each key of the entries

found_holds : {X : Type 0} (P : Value → Type 0) (es : List (Value × X)) (q : Value) → AllByRecursion P (keys_of es) → is_some (finite.find value_cmp q es) ≡ true → P q
found_holds P [] q h s = absurd (true≢false (sym s))
found_holds {X} P (e ∷ es) q h s =
    by (found_holds P es q h.1) (eq_by_cmp value_cmp q e.0) refl s
  where
    by : (is_some (finite.find value_cmp q es) ≡ true → P q) → (b : Bool) → eq_by_cmp value_cmp q e.0 ≡ b → is_some (cond b (Some e.1) (finite.find value_cmp q es)) ≡ true → P q
    by rest true t s = subst P (sym (one q e.0 t)) h.0
    by rest false t s = rest s

still_found : {X : Type 0} (b : Bool) (x : X) (o : Option X) → is_some o ≡ true → is_some (cond b (Some x) o) ≡ true
still_found true x o s = refl
still_found false x o s = s

module _ {K X : Type 0} (key : K → Value) (P : Value → Type 0) (all : List (K × X)) (h : AllByRecursion P (keys_of (finite.entries (map_of key all)))) where
  each_found : (es : List (K × X)) → ((q : Value) → is_some (finite.find value_cmp q (by_value key es)) ≡ true → is_some (finite.find value_cmp q (by_value key all)) ≡ true) → AllByRecursion (λ k. P (key k)) (keys_of es)
  each_found [] w = tt
  each_found (e ∷ es) w =
      let first : is_some (finite.find value_cmp (key e.0) (by_value key (e ∷ es))) ≡ true = ap (λ b. is_some (cond b (Some e.1) (finite.find value_cmp (key e.0) (by_value key es)))) (own (key e.0) (key e.0) refl) in
      let there : finite.find value_cmp (key e.0) (finite.entries (map_of key all)) ≡ finite.find value_cmp (key e.0) (by_value key all) = sym (finite.get-entries (map_of key all) (key e.0)) ∙ finite.get-from_entries value_cmp_total (by_value key all) (key e.0) in (
        found_holds P (finite.entries (map_of key all)) (key e.0) h (ap is_some there ∙ w (key e.0) first),
        each_found es (λ q s. w q (still_found (eq_by_cmp value_cmp q (key e.0)) e.1 _ s)),
      )

all_in_range : (kk : Kind) (ks : List ℤ) → AllByRecursion (λ k. IsKeptKey (Some kk) (number kk k)) ks → AllInRange kk ks
all_in_range kk [] h = tt
all_in_range kk (k ∷ ks) h = (h.0.1, all_in_range kk ks h.1)

pub keys_in_range : {X : Type 0} (kk : Kind) (es : List (ℤ × X)) → KeysAreKept (Some kk) (map_of (number kk) es) → AllInRange kk (keys_of es)
keys_in_range kk es h =
    all_in_range kk (keys_of es) (each_found (number kk) (IsKeptKey (Some kk)) es h es (λ q s. s))

-- ---- a loop that pushes them

pub all_pushed : {K X : Type 0} (key : K → Value) (value : X → Value) (pairs : List Pair) (es : List (K × X)) → map view_pair pairs ++ shown key value [] ≡ shown key value es → map view_pair pairs ≡ shown key value es
all_pushed key value pairs es e = sym (append-nil (map view_pair pairs)) ∙ e

pub one_pushed : {K X : Type 0} (key : K → Value) (value : X → Value) (pairs new : List Pair) (p : Pair) (es rest : List (K × X)) (e : K × X) → new ≡ pairs ++ p ∷ [] → view_pair p ≡ (key e.0, value e.1)
    → map view_pair pairs ++ shown key value (e ∷ rest) ≡ shown key value es → map view_pair new ++ shown key value rest ≡ shown key value es
one_pushed key value pairs new p es rest e is pair so =
    ap (λ ps. map view_pair ps ++ shown key value rest) is
    ∙ ap (λ ps. ps ++ shown key value rest) (map-append view_pair pairs (p ∷ []))
    ∙ append_assoc (map view_pair pairs) (view_pair p ∷ []) (shown key value rest)
    ∙ ap (λ q. map view_pair pairs ++ (q ∷ shown key value rest)) pair
    ∙ so
