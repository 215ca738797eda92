-- A value as it was read settles to at most one value, and to one unless a dictionary in it has equal keys.
use Rattle.std.proofs.Common.{◌≡◌, ◌⊎◌, inl, inr, sym, ◌∙◌, ℕ, zero, suc, List, [], ◌∷◌, map, Option, Some, None, slice_get, refl, ap, subst, All}
use Rattle.std.proofs.lemmas.List.Elements.{All-nil, All-cons, All-head, All-tail}
use Rattle.std.proofs.lemmas.List.Sorted.{IsPermutation-sym}
use Rattle.std.specs.List.Sorted.{IsPermutation}
use Rattle.weld_data.specs.Value.{Value, Values, Entries, number, list, struct, dict, values, no_values, and_value, no_entries, and_entry, entries, list_of_entries, list_of_entries-entries}
use Rattle.weld_data.specs.Order.{Rises, HasKeyType}
use Rattle.weld_tree.specs.TypeTree.{TypeTree, TypeTrees, scalar, vec, struct as struct_of, dict as dict_of, build, no_types, more_types}
use Rattle.weld_sorted.specs.Repeats.{HaveOneKey, HaveOneKeyType}
use Rattle.weld_sorted.proofs.Counting.{repeats_before}
use Rattle.weld_values.specs.Tokens.{byte_at}
use Rattle.weld_values.specs.Grammar.{Part, More, Listed, Enclosed, AtEntry, AtField, AtStruct, At, Fields}
use Rattle.weld_values.specs.Reading.{RepeatsKey, SomeRepeatsKey, EntryRepeatsKey, Settles, SettleAll, SettleEntries}
use Rattle.weld_values.specs.Judging.{IsReadable, AreReadable, IsSpelled}
use Rattle.weld_values.proofs.Listings.{some_is, none_is}
use Rattle.weld_values.proofs.KeyTypes.{one_key_type}
use Rattle.weld_values.proofs.Readings.{NoDict, NoDicts, scalar_no_dict, bytes_no_dict}
use Rattle.weld_values.proofs.Vectors.{i8_of}
use Rattle.weld_values.proofs.Ascending.{Pairing, one_order, rising_apart, an_order}

-- ---- one value at most

mutual
  pub settles_one : (raw v w : Value) → Settles raw v → Settles raw w → v ≡ w
  settles_one (number k x) v w s u = s ∙ sym u
  settles_one (list vs) v w s u = s.1 ∙ ap list (settle_one vs s.0 u.0 s.2 u.2) ∙ sym u.1
  settles_one (struct vs) v w s u = s.1 ∙ ap struct (settle_one vs s.0 u.0 s.2 u.2) ∙ sym u.1
  settles_one (dict es) v w (fs, gs, e, s, p, r) (hs, is, f, u, q, t) =
      let same = settle_entries_one es fs hs s u in
      let order = one_order (list_of_entries fs) gs is p r (subst (λ (x : Entries). IsPermutation (list_of_entries x) is) (sym same) q) t in
      e ∙ ap (λ (x : List Pairing). dict (entries x)) order ∙ sym f

  settle_one : (vs ws xs : Values) → SettleAll vs ws → SettleAll vs xs → ws ≡ xs
  settle_one no_values ws xs s u = s ∙ sym u
  settle_one (and_value v vs) ws xs (x, more, e, s, rest) (y, others, f, u, t) =
      e ∙ ap (λ (z : Value). and_value z more) (settles_one v x y s u) ∙ ap (and_value y) (settle_one vs more others rest t) ∙ sym f

  settle_entries_one : (es fs gs : Entries) → SettleEntries es fs → SettleEntries es gs → fs ≡ gs
  settle_entries_one no_entries fs gs s u = s ∙ sym u
  settle_entries_one (and_entry k v es) fs gs (x, more, e, s, rest) (y, others, f, u, t) =
      e ∙ ap (λ (z : Value). and_entry k z more) (settles_one v x y s u) ∙ ap (and_entry k y) (settle_entries_one es more others rest t) ∙ sym f

-- ---- no equal keys where it settles

-- the keys stay at their places
abbrev HasKeyAt : List Pairing → ℕ → Value → Type 0
HasKeyAt es i key = (x : Pairing) × (slice_get es i ≡ Some x) × (x.0 ≡ key)

key_after : (es fs : Entries) → SettleEntries es fs → (i : ℕ) (e : Pairing) → slice_get (list_of_entries es) i ≡ Some e → HasKeyAt (list_of_entries fs) i e.0
key_after no_entries fs h i e s = absurd (none_is e s)
key_after (and_entry k v es) fs (x, more, is, h, rest) zero e s = subst (λ (gs : Entries). HasKeyAt (list_of_entries gs) zero e.0) (sym is) ((k, x), refl, ap (λ (q : Pairing). q.0) (some_is (k, v) e s))
key_after (and_entry k v es) fs (x, more, is, h, rest) (suc i) e s = subst (λ (gs : Entries). HasKeyAt (list_of_entries gs) (suc i) e.0) (sym is) (key_after es more rest i e s)

key_before_by : (k v x : Value) (es more : Entries) (e : Pairing) → ((i : ℕ) → slice_get (list_of_entries more) i ≡ Some e → HasKeyAt (list_of_entries es) i e.0) → (i : ℕ) → slice_get ((k, x) ∷ list_of_entries more) i ≡ Some e → HasKeyAt ((k, v) ∷ list_of_entries es) i e.0
key_before_by k v x es more e again zero s = ((k, v), refl, ap (λ (q : Pairing). q.0) (some_is (k, x) e s))
key_before_by k v x es more e again (suc i) s = again i s

key_before : (es fs : Entries) → SettleEntries es fs → (i : ℕ) (e : Pairing) → slice_get (list_of_entries fs) i ≡ Some e → HasKeyAt (list_of_entries es) i e.0
key_before no_entries fs h i e s = absurd (none_is e (subst (λ (gs : Entries). slice_get (list_of_entries gs) i ≡ Some e) h s))
key_before (and_entry k v es) fs (x, more, is, h, rest) i e s =
    key_before_by k v x es more e (λ j t. key_before es more rest j e t) i (subst (λ (gs : Entries). slice_get (list_of_entries gs) i ≡ Some e) is s)

one_key_moved : (es fs : List Pairing) → ((i : ℕ) (e : Pairing) → slice_get es i ≡ Some e → HasKeyAt fs i e.0) → HaveOneKey es → HaveOneKey fs
one_key_moved es fs moved (i, j, e, f, l, s, u, same) =
    let a = moved i e s in
    let b = moved j f u in
    (i, j, a.0, b.0, l, a.1, b.1, a.2 ∙ same ∙ sym b.2)

mutual
  pub settled_apart : (raw v : Value) → Settles raw v → RepeatsKey raw → ⊥
  settled_apart (number k x) v s h = h
  settled_apart (list vs) v s h = all_settled_apart vs s.0 s.2 h
  settled_apart (struct vs) v s h = all_settled_apart vs s.0 s.2 h
  settled_apart (dict es) v (fs, gs, e, s, p, r) (inl h) =
      rising_apart gs r (repeats_before gs (list_of_entries fs) (IsPermutation-sym (list_of_entries fs) gs p) (one_key_moved (list_of_entries es) (list_of_entries fs) (key_after es fs s) h))
  settled_apart (dict es) v (fs, gs, e, s, p, r) (inr h) = entries_settled_apart es fs s h

  all_settled_apart : (vs ws : Values) → SettleAll vs ws → SomeRepeatsKey vs → ⊥
  all_settled_apart no_values ws s h = h
  all_settled_apart (and_value v vs) ws s (inl h) = settled_apart v s.0 s.3 h
  all_settled_apart (and_value v vs) ws s (inr h) = all_settled_apart vs s.1 s.4 h

  entries_settled_apart : (es fs : Entries) → SettleEntries es fs → EntryRepeatsKey es → ⊥
  entries_settled_apart no_entries fs s h = h
  entries_settled_apart (and_entry k v es) fs s (inl h) = settled_apart v s.0 s.3 h
  entries_settled_apart (and_entry k v es) fs s (inr h) = entries_settled_apart es s.1 s.4 h

-- ---- one value at least

-- the keys of each dictionary are of one type
abbrev mutual
  KeysAgree : Value → Type 0
  KeysAgree (number k x) = Unit {0}
  KeysAgree (list vs) = AllKeysAgree vs
  KeysAgree (struct vs) = AllKeysAgree vs
  KeysAgree (dict es) = HaveOneKeyType (list_of_entries es) × EntryKeysAgree es

  AllKeysAgree : Values → Type 0
  AllKeysAgree no_values = Unit {0}
  AllKeysAgree (and_value v vs) = KeysAgree v × AllKeysAgree vs

  EntryKeysAgree : Entries → Type 0
  EntryKeysAgree no_entries = Unit {0}
  EntryKeysAgree (and_entry k v es) = KeysAgree v × EntryKeysAgree es

abbrev pub SettlesOrRepeats : Value → Type 0
SettlesOrRepeats raw = ((v : Value) × Settles raw v) ⊎ RepeatsKey raw

abbrev AllSettle : Values → Type 0
AllSettle vs = ((ws : Values) × SettleAll vs ws) ⊎ SomeRepeatsKey vs

abbrev EntriesSettle : Entries → Type 0
EntriesSettle es = ((fs : Entries) × SettleEntries es fs) ⊎ EntryRepeatsKey es

list_settles : (vs : Values) → AllSettle vs → SettlesOrRepeats (list vs)
list_settles vs (inl (ws, s)) = inl (list ws, (ws, refl, s))
list_settles vs (inr h) = inr h

struct_settles : (vs : Values) → AllSettle vs → SettlesOrRepeats (struct vs)
struct_settles vs (inl (ws, s)) = inl (struct ws, (ws, refl, s))
struct_settles vs (inr h) = inr h

value_more : (v : Value) (vs : Values) → SettlesOrRepeats v → AllSettle vs → AllSettle (and_value v vs)
value_more v vs (inl (x, s)) (inl (xs, t)) = inl (and_value x xs, (x, xs, refl, s, t))
value_more v vs (inl s) (inr h) = inr (inr h)
value_more v vs (inr h) rest = inr (inl h)

entry_more : (k v : Value) (es : Entries) → SettlesOrRepeats v → EntriesSettle es → EntriesSettle (and_entry k v es)
entry_more k v es (inl (x, s)) (inl (xs, t)) = inl (and_entry k x xs, (x, xs, refl, s, t))
entry_more k v es (inl s) (inr h) = inr (inr h)
entry_more k v es (inr h) rest = inr (inl h)

type_after : (es fs : Entries) → SettleEntries es fs → (P : Value → Type 0) → All (λ (e : Pairing). P e.0) (list_of_entries es) → All (λ (e : Pairing). P e.0) (list_of_entries fs)
type_after no_entries fs h P all = subst (λ (gs : Entries). All (λ (e : Pairing). P e.0) (list_of_entries gs)) (sym h) all
type_after (and_entry k v es) fs (x, more, is, h, rest) P all = subst (λ (gs : Entries). All (λ (e : Pairing). P e.0) (list_of_entries gs)) (sym is)
    (All-cons (λ (e : Pairing). P e.0) (k, x) (list_of_entries more) (All-head (λ (e : Pairing). P e.0) (k, v) (list_of_entries es) all)
    (type_after es more rest P (All-tail (λ (e : Pairing). P e.0) (k, v) (list_of_entries es) all)))

dict_by : (es fs : Entries) → SettleEntries es fs → ((gs : List Pairing) × IsPermutation (list_of_entries fs) gs × Rises gs) ⊎ HaveOneKey (list_of_entries fs) → SettlesOrRepeats (dict es)
dict_by es fs s (inl (gs, p, r)) = inl (dict (entries gs), (fs, gs, refl, s, p, r))
dict_by es fs s (inr h) = inr (inl (one_key_moved (list_of_entries fs) (list_of_entries es) (key_before es fs s) h))

dict_settles : (es : Entries) → HaveOneKeyType (list_of_entries es) → EntriesSettle es → SettlesOrRepeats (dict es)
dict_settles es t (inl (fs, s)) = dict_by es fs s (an_order (list_of_entries fs) (t.0, type_after es fs s (HasKeyType t.0) t.1))
dict_settles es t (inr h) = inr (inr h)

mutual
  settles_by : (raw : Value) → KeysAgree raw → SettlesOrRepeats raw
  settles_by (number k x) a = inl (number k x, refl)
  settles_by (list vs) a = list_settles vs (all_settle_by vs a)
  settles_by (struct vs) a = struct_settles vs (all_settle_by vs a)
  settles_by (dict es) a = dict_settles es a.0 (entries_settle_by es a.1)

  all_settle_by : (vs : Values) → AllKeysAgree vs → AllSettle vs
  all_settle_by no_values a = inl (no_values, refl)
  all_settle_by (and_value v vs) a = value_more v vs (settles_by v a.0) (all_settle_by vs a.1)

  entries_settle_by : (es : Entries) → EntryKeysAgree es → EntriesSettle es
  entries_settle_by no_entries a = inl (no_entries, refl)
  entries_settle_by (and_entry k v es) a = entry_more k v es (settles_by v a.0) (entries_settle_by es a.1)

-- ---- what a text spells has keys of one type

mutual
  free_agree : (v : Value) → NoDict v → KeysAgree v
  free_agree (number k x) n = tt
  free_agree (list vs) n = all_free_agree vs n
  free_agree (struct vs) n = all_free_agree vs n
  free_agree (dict es) n = absurd n

  all_free_agree : (vs : Values) → NoDicts vs → AllKeysAgree vs
  all_free_agree no_values n = tt
  all_free_agree (and_value v vs) n = (free_agree v n.0, all_free_agree vs n.1)

abbrev Agrees : Part Value → Type 0
Agrees R = (v : Value) (text r : List ℕ) → R v text r → KeysAgree v

-- what holds of each part that stands somewhere holds of all in brackets
abbrev Each : {A : Type 0} → (A → Type 0) → List A → Type 0
Each P [] = Unit {0}
Each P (x ∷ xs) = P x × Each P xs

abbrev Holds : {A : Type 0} → Part A → (A → Type 0) → Type 0
Holds {A} R P = (x : A) (text r : List ℕ) → R x text r → P x

more_each : {A : Type 0} (R : Part A) (P : A → Type 0) → Holds R P → (xs : List A) (text r : List ℕ) → More R xs text r → Each P xs
more_each R P one [] text r h = tt
more_each R P one (x ∷ xs) text r (start, e, (mid, h, more)) = (one x start mid h, more_each R P one xs mid r more)

listed_each : {A : Type 0} (R : Part A) (P : A → Type 0) → Holds R P → (xs : List A) (text r : List ℕ) → Listed R xs text r → Each P xs
listed_each R P one [] text r h = tt
listed_each R P one (x ∷ xs) text r (mid, h, more) = (one x text mid h, more_each R P one xs mid r more)

enclosed_each : {A : Type 0} (R : Part A) (P : A → Type 0) → Holds R P → (c : ℕ) (o : Option (List ℕ)) (xs : List A) (text r : List ℕ) → Enclosed R c o xs text r → Each P xs
enclosed_each {A} R P one c (Some after) xs text r h = subst (λ (x : List A). Each P x) (sym h.0) tt
enclosed_each R P one c None xs text r (end, h, b) = listed_each R P one xs text end h

each_agree : (vs : List Value) → Each KeysAgree vs → AllKeysAgree (values vs)
each_agree [] h = tt
each_agree (v ∷ vs) h = (h.0, each_agree vs h.1)

vec_agrees : (t : TypeTree) → Agrees (At t) → Agrees (At (vec t))
vec_agrees t one v text r (inl (inner, vs, b, h, e)) = subst KeysAgree (sym e) (each_agree vs (enclosed_each (At t) KeysAgree one 93 (byte_at 93 inner) vs inner r h))
vec_agrees t one v text r (inr (i, (inner, bytes, b, h, e))) = subst KeysAgree (sym e) (all_free_agree (values (map i8_of bytes)) (bytes_no_dict bytes))

struct_agrees : (R : Part Values) → ((vs : Values) (text r : List ℕ) → R vs text r → AllKeysAgree vs) → Agrees (AtStruct R)
struct_agrees R one v text r (vs, end, h, b, e) = subst KeysAgree (sym e) (one vs text end h)

field_agrees : (lead : ℕ) (R : Part Value) (S : Part Values) → Agrees R → ((vs : Values) (text r : List ℕ) → S vs text r → AllKeysAgree vs) → (vs : Values) (text r : List ℕ) → AtField lead R S vs text r → AllKeysAgree vs
field_agrees lead R S one more vs text r (v, ws, start, mid, e, b, h, m) = subst AllKeysAgree (sym e) (one v start mid h, more ws mid r m)

abbrev EntryAgrees : TypeTree → Pairing → Type 0
EntryAgrees k e = IsSpelled k e.0 × KeysAgree e.1

entry_agrees : (k v : TypeTree) → Agrees (At v) → Holds (AtEntry (At k) (At v)) (EntryAgrees k)
entry_agrees k v one e text r (mid, start, h, b, m) = ((text, mid, h), one e.1 start r m)

keys_each : (k : TypeTree) (es : List Pairing) → Each (EntryAgrees k) es → All (λ (e : Pairing). IsSpelled k e.0) es
keys_each k [] h = All-nil (λ (e : Pairing). IsSpelled k e.0)
keys_each k (e ∷ es) h = All-cons (λ (x : Pairing). IsSpelled k x.0) e es h.0.0 (keys_each k es h.1)

values_each : (k : TypeTree) (es : List Pairing) → Each (EntryAgrees k) es → EntryKeysAgree (entries es)
values_each k [] h = tt
values_each k (e ∷ es) h = (h.0.1, values_each k es h.1)

dict_agrees : (k v : TypeTree) → IsReadable (dict_of k v) → Agrees (At v) → Agrees (At (dict_of k v))
dict_agrees k v p one raw text r (brace, inner, es, w, b, h, e) =
    let each = enclosed_each (AtEntry (At k) (At v)) (EntryAgrees k) (entry_agrees k v one) 125 (byte_at 125 inner) es inner r h in
    subst KeysAgree (sym e) (subst HaveOneKeyType (sym (list_of_entries-entries es)) (one_key_type k p.0 es (keys_each k es each)), values_each k es each)

mutual
  at_agrees : (t : TypeTree) → IsReadable t → Agrees (At t)
  at_agrees (scalar kind) p = λ v text r h. free_agree v (scalar_no_dict kind text v r h)
  at_agrees (vec t) p = vec_agrees t (at_agrees t p)
  at_agrees (struct_of ts) p = struct_agrees (Fields ts 123) (fields_agree ts 123 p)
  at_agrees (dict_of k v) p = dict_agrees k v p (at_agrees v p.1)
  at_agrees (build b) p = absurd p

  fields_agree : (ts : TypeTrees) (lead : ℕ) → AreReadable ts → (vs : Values) (text r : List ℕ) → Fields ts lead vs text r → AllKeysAgree vs
  fields_agree no_types lead p = λ vs text r h. subst AllKeysAgree (sym h.0) tt
  fields_agree (more_types t ts) lead p = field_agrees lead (At t) (Fields ts 44) (at_agrees t p.0) (fields_agree ts 44 p.1)

-- what stands at the front of a text settles, or a dictionary in it has equal keys
pub settles_or_repeats : (t : TypeTree) → IsReadable t → (raw : Value) (text r : List ℕ) → At t raw text r → SettlesOrRepeats raw
settles_or_repeats t p raw text r h = settles_by raw (at_agrees t p raw text r h)
