-- `same_value` decides whether two values are equal, and a key of a dictionary is found at its one place.
use Rattle.std.proofs.Common.{◌≡◌, ◌≢◌, ◌⊎◌, inl, inr, ⊎_elim, ℕ, ◌+◌, ◌<◌, ◌≤◌, ltb, ltb-true, ltb-false, eq-or-lt_of_le, zero, suc, Bool, true, false, cond, ℤ, List, [], ◌∷◌, slice_get, slice_index_or, Option, Some, None, unwrap_or, Decides, ap, ap₂, sym, subst, subst₂, refl, ◌∙◌, true≢false, arith}
use Rattle.std.proofs.lemmas.Option.{slice_get_within, unwrap_or-slice_get}
use Rattle.std.proofs.lemmas.Bool.Decides.{Decides-and, Decides-like, Decides-int_eq}
use Rattle.weld_data.specs.declared.kind.Kind.{Kind}
use Rattle.weld_data.specs.declared.kind.Kind.TheVariants as kinds
use Rattle.weld_data.specs.Value.{Value, number, list, struct, dict, Values, no_values, and_value, Entries, no_entries, and_entry}
use Rattle.weld_data.specs.Order.{KeyLess, SameKeyType, KeyPrecedes, Rises, IsKeyFor}
use Rattle.weld_data.specs.Lookup.{same_kind, same_value, same_values, same_entries, value_of_key}
use Rattle.weld_data.proofs.Keys.{KeyLess_irrefl, KeyLess_trans}

never : {P : Type 0} → (P → ⊥) → Decides false P
never f = (λ e. absurd (true≢false (sym e)), λ p. absurd (f p))

Decides-same_kind : (k m : Kind) → Decides (same_kind k m) (k ≡ m)
Decides-same_kind kinds.Bool kinds.Bool = (λ _. refl, λ _. refl)
Decides-same_kind kinds.I8 kinds.I8 = (λ _. refl, λ _. refl)
Decides-same_kind kinds.I16 kinds.I16 = (λ _. refl, λ _. refl)
Decides-same_kind kinds.I32 kinds.I32 = (λ _. refl, λ _. refl)
Decides-same_kind kinds.I64 kinds.I64 = (λ _. refl, λ _. refl)
Decides-same_kind kinds.U8 kinds.U8 = (λ _. refl, λ _. refl)
Decides-same_kind kinds.U16 kinds.U16 = (λ _. refl, λ _. refl)
Decides-same_kind kinds.U32 kinds.U32 = (λ _. refl, λ _. refl)
Decides-same_kind kinds.U64 kinds.U64 = (λ _. refl, λ _. refl)
Decides-same_kind _ _ = never (λ e. cc)

number_kind : (k m : Kind) (x y : ℤ) → number k x ≡ number m y → k ≡ m
number_kind k m x y e = cc

number_size : (k m : Kind) (x y : ℤ) → number k x ≡ number m y → x ≡ y
number_size k m x y e = cc

list_parts : (xs ys : Values) → list xs ≡ list ys → xs ≡ ys
list_parts xs ys e = cc

struct_parts : (xs ys : Values) → struct xs ≡ struct ys → xs ≡ ys
struct_parts xs ys e = cc

dict_parts : (es fs : Entries) → dict es ≡ dict fs → es ≡ fs
dict_parts es fs e = cc

values_parts : (x y : Value) (xs ys : Values) → and_value x xs ≡ and_value y ys → (x ≡ y) × (xs ≡ ys)
values_parts x y xs ys e = (cc, cc)

entries_parts : (k l v w : Value) (es fs : Entries) → and_entry k v es ≡ and_entry l w fs → (k ≡ l) × ((v ≡ w) × (es ≡ fs))
entries_parts k l v w es fs e = (cc, (cc, cc))

entries_from : (k l v w : Value) (es fs : Entries) → k ≡ l → v ≡ w → es ≡ fs → and_entry k v es ≡ and_entry l w fs
entries_from k l v w es fs p q r = λ i. and_entry (p i) (q i) (r i)

mutual
  pub Decides-same_value : (x y : Value) → Decides (same_value x y) (x ≡ y)
  Decides-same_value (number k x) (number m y) =
      Decides-like _ (λ p. ap₂ number p.0 p.1) (λ e. (number_kind k m x y e, number_size k m x y e)) (Decides-and _ _ (Decides-same_kind k m) (Decides-int_eq x y))
  Decides-same_value (list xs) (list ys) = Decides-like _ (λ e. ap list e) (λ e. list_parts xs ys e) (Decides-same_values xs ys)
  Decides-same_value (struct xs) (struct ys) = Decides-like _ (λ e. ap struct e) (λ e. struct_parts xs ys e) (Decides-same_values xs ys)
  Decides-same_value (dict es) (dict fs) = Decides-like _ (λ e. ap dict e) (λ e. dict_parts es fs e) (Decides-same_entries es fs)
  Decides-same_value _ _ = never (λ e. cc)

  pub Decides-same_values : (xs ys : Values) → Decides (same_values xs ys) (xs ≡ ys)
  Decides-same_values no_values no_values = (λ _. refl, λ _. refl)
  Decides-same_values (and_value x xs) (and_value y ys) =
      Decides-like _ (λ p. ap₂ and_value p.0 p.1) (λ e. values_parts x y xs ys e) (Decides-and _ _ (Decides-same_value x y) (Decides-same_values xs ys))
  Decides-same_values _ _ = never (λ e. cc)

  pub Decides-same_entries : (es fs : Entries) → Decides (same_entries es fs) (es ≡ fs)
  Decides-same_entries no_entries no_entries = (λ _. refl, λ _. refl)
  Decides-same_entries (and_entry k v es) (and_entry l w fs) =
      Decides-like _ (λ p. entries_from k l v w es fs p.0 p.1.0 p.1.1) (λ e. entries_parts k l v w es fs e) (Decides-and _ _ (Decides-same_value k l) (Decides-and _ _ (Decides-same_value v w) (Decides-same_entries es fs)))
  Decides-same_entries _ _ = never (λ e. cc)

-- ---- a dictionary

slice_index_or-get : {X : Type 0} (xs : List X) (i : ℕ) (x d : X) → slice_get xs i ≡ Some x → slice_index_or xs i d ≡ x
slice_index_or-get xs i x d p = sym (unwrap_or-slice_get xs i d) ∙ ap (λ o. unwrap_or o d) p

-- the first entry decides
first : (e : Value × Value) (es : List (Value × Value)) (key : Value) (r : Option Value) → (e.0 ≡ key → Some e.1 ≡ r) → (e.0 ≢ key → value_of_key es key ≡ r) → value_of_key (e ∷ es) key ≡ r
first e es key r f g = by (same_value e.0 key) (Decides-same_value e.0 key)
  where
    by : (b : Bool) → Decides b (e.0 ≡ key) → cond b (Some e.1) (value_of_key es key) ≡ r
    by true d = f (d.0 refl)
    by false d = g (λ h. true≢false (sym (d.1 h)))

-- no entry has the key
pub value_of_key-none : (es : List (Value × Value)) (key : Value) → ((i : ℕ) (e : Value × Value) → slice_get es i ≡ Some e → e.0 ≢ key) → value_of_key es key ≡ None
value_of_key-none [] key h = refl
value_of_key-none (e ∷ es) key h =
    first e es key None (λ q. absurd (h 0 e refl q)) (λ _. value_of_key-none es key (λ i. h (suc i)))

-- each key is less than each later one
pub KeyLess-rises : (es : List (Value × Value)) (i j : ℕ) (d e : Value × Value) → Rises es → i < j → slice_get es i ≡ Some d → slice_get es j ≡ Some e → KeyPrecedes d.0 e.0
KeyLess-rises es i j d e r h p q = subst₂ (λ (a b : Value × Value). KeyPrecedes a.0 b.0) (slice_index_or-get es i d d p) (slice_index_or-get es j e d q) (r.rise i j d h (slice_get_within es j e q))

Rises-tail : (e : Value × Value) (es : List (Value × Value)) → Rises (e ∷ es) → Rises es
Rises-tail e es r = record {
  keys = λ i d h. r.keys (suc i) d (omega arith);
  rise = λ i j d h l. r.rise (suc i) (suc j) d (omega arith) (omega arith);
}

-- the keys rise, so no earlier entry has the key
pub value_of_key-at : (es : List (Value × Value)) (key : Value) (i : ℕ) (e : Value × Value) → Rises es → slice_get es i ≡ Some e → e.0 ≡ key → value_of_key es key ≡ Some e.1
value_of_key-at [] key i e r p q = cc
value_of_key-at (d ∷ es) key zero e r p q =
    let de : d ≡ e = cc in first d es key (Some e.1) (λ _. ap (λ (x : Value × Value). Some x.1) de) (λ n. absurd (n (ap (λ (x : Value × Value). x.0) de ∙ q)))
value_of_key-at (d ∷ es) key (suc i) e r p q =
    first d es key (Some e.1)
    (λ h. absurd (KeyLess_irrefl key (subst₂ KeyLess h q (KeyLess-rises (d ∷ es) 0 (suc i) d e r (omega arith) refl p).less)))
    (λ _. value_of_key-at es key i e (Rises-tail d es r) p q)

order : (i m : ℕ) → (i < m) ⊎ (m ≤ i)
order i m = by (ltb i m) refl
  where
    by : (b : Bool) → ltb i m ≡ b → (i < m) ⊎ (m ≤ i)
    by true e = inl (ltb-true i m e)
    by false e = inr (ltb-false i m e)

-- where the key at the middle is less, all up to it are
pub less_below : (es : List (Value × Value)) (key : Value) (middle : ℕ) (m : Value × Value) → Rises es → slice_get es middle ≡ Some m → KeyLess m.0 key → (i : ℕ) (e : Value × Value) → i < middle + 1 → slice_get es i ≡ Some e → KeyLess e.0 key
less_below es key middle m r p l i e h q =
    ⊎_elim
    (λ below. KeyLess_trans e.0 m.0 key (KeyLess-rises es i middle e m r below q p).less l)
    (λ here. let is : Some m ≡ Some e = sym p ∙ ap (slice_get es) (sym here) ∙ q in let me : m ≡ e = cc in subst (λ (x : Value × Value). KeyLess x.0 key) me l)
    (⊎_elim inl (λ g. inr (omega arith)) (order i middle))

-- where it is greater, all from it on are
pub greater_above : (es : List (Value × Value)) (key : Value) (middle : ℕ) (m : Value × Value) → Rises es → slice_get es middle ≡ Some m → KeyLess key m.0 → (i : ℕ) (e : Value × Value) → middle ≤ i → slice_get es i ≡ Some e → KeyLess key e.0
greater_above es key middle m r p l i e h q =
    ⊎_elim
    (λ is. let same : Some m ≡ Some e = sym p ∙ ap (slice_get es) is ∙ q in let me : m ≡ e = cc in subst (λ (x : Value × Value). KeyLess key x.0) me l)
    (λ above. KeyLess_trans key m.0 e.0 l (KeyLess-rises es middle i m e r above p q).less)
    (eq-or-lt_of_le h)

-- a key that is greater than those below and less than those from there on isn't there
pub value_of_key-between : (es : List (Value × Value)) (key : Value) (low : ℕ) → ((i : ℕ) (e : Value × Value) → i < low → slice_get es i ≡ Some e → KeyLess e.0 key) → ((i : ℕ) (e : Value × Value) → low ≤ i → slice_get es i ≡ Some e → KeyLess key e.0) → value_of_key es key ≡ None
value_of_key-between es key low below above =
    value_of_key-none es key
    (λ i e p q. ⊎_elim (λ h. KeyLess_irrefl key (subst (λ x. KeyLess x key) q (below i e h p))) (λ h. KeyLess_irrefl key (subst (KeyLess key) q (above i e h p))) (order i low))

-- the key is of one type with the one at that place
pub IsKeyFor-at : (es : List (Value × Value)) (key : Value) (i : ℕ) (e : Value × Value) → IsKeyFor es key → slice_get es i ≡ Some e → SameKeyType e.0 key
IsKeyFor-at es key i e h p = subst (λ (x : Value × Value). SameKeyType x.0 key) (slice_index_or-get es i e e p) (h i e (slice_get_within es i e p))
