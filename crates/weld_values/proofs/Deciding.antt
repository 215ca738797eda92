-- Each text reads as a value of a type without builders, or has a reason not to.
use Rattle.std.proofs.Common.{◌≡◌, ◌⊎◌, inl, inr, sym, ◌∙◌, ℕ, zero, suc, ◌<◌, ◌==◌, false, List, [], ◌∷◌, length, Option, Some, None, refl, ap, subst, arith, map, pos, ℤ, ◌<ℤ◌, ◌≤ℤ◌, codes}
use Rattle.std.proofs.lemmas.Int.{by_lt_z, ints}
use Rattle.weld_data.specs.declared.kind.Kind.{Kind}
use Rattle.weld_data.specs.declared.kind.Kind.TheVariants.{I8}
use Rattle.weld_data.specs.Kind.{InRange, least, greatest}
use Rattle.weld_data.specs.Wrapped.{wrapped}
use Rattle.weld_data.specs.Value.{Value, Values, Entries, number, list, struct, dict, values, and_value, no_values, no_entries, and_entry, entries}
use Rattle.weld_tree.specs.TypeTree.{TypeTree, TypeTrees, scalar, vec, struct as struct_of, dict as dict_of, build, no_types, more_types}
use Rattle.weld_values.specs.declared.fault.DataFault.{DataFault}
use Rattle.weld_values.specs.declared.fault.DataFault.TheVariants.{Syntax, Range, Repeat, Memory}
use Rattle.weld_values.specs.Tokens.{after_blanks, after_byte, byte_at, after_word, item_at}
use Rattle.weld_values.specs.Grammar.{Part, Listed, Enclosed, Found, AtItems, AtString, AtEntry, AtDict, AtField, AtStruct, At, Fields, IsI8, scalar_at}
use Rattle.weld_values.specs.Reading.{Spells, ReadsAs, WhyNot, IsInRange, AreInRange, EntriesInRange}
use Rattle.weld_values.specs.Judging.{IsUnread, IsReadable, AreReadable}
use Rattle.weld_values.proofs.Listings.{Sole, some_is, none_is, after_one, after_comma, after_last, more_listed, no_first}
use Rattle.weld_values.proofs.EntryListings.{no_word, no_brace, dict_unread, no_key, no_colon, no_value}
use Rattle.weld_values.proofs.KeyTypes.{key_readable}
use Rattle.weld_values.proofs.Soles.{at_sole, fields_sole, entry_sole}
use Rattle.weld_values.proofs.Shrinks.{Shrinks, at_shrinks, entry_shrinks, item_shorter}
use Rattle.weld_values.proofs.Scalars.{byte_at_shorter}
use Rattle.weld_values.proofs.Strings.{stuck, next_only}
use Rattle.weld_values.proofs.Vectors.{string_unread, neither_read, list_unread}
use Rattle.weld_values.proofs.RoundTrip.{is_i8_or_not}
use Rattle.weld_values.proofs.Settling.{SettlesOrRepeats, settles_or_repeats}

-- such a part stands at the front of a text, or none does
abbrev Decided : {A : Type 0} → Part A → List ℕ → Type 0
Decided {A} R text = ((x : A) × (r : List ℕ) × R x text r) ⊎ IsUnread R text

-- of each text
abbrev Decides : {A : Type 0} → Part A → Type 0
Decides R = (text : List ℕ) → Decided R text

found_by : {A : Type 0} (at : List ℕ → Option (A × List ℕ)) (text : List ℕ) (o : Option (A × List ℕ)) → at text ≡ o → Decided (Found at) text
found_by at text (Some p) e = inl (p.0, p.1, e)
found_by at text None e = inr (λ x r h. none_is (x, r) (sym e ∙ h))

-- ---- one part or more, and the closing bracket

abbrev Closed : {A : Type 0} → Part A → ℕ → Part (List A)
Closed R c xs text rest = (end : List ℕ) × Listed R xs text end × (byte_at c end ≡ Some rest)

last_by : {A : Type 0} (R : Part A) → Sole R → (c : ℕ) (text mid : List ℕ) (x : A) → R x text mid → byte_at 44 mid ≡ None → (o : Option (List ℕ)) → byte_at c mid ≡ o → Decided (Closed R c) text
last_by R sole c text mid x h n (Some rest) b = inl (x ∷ [], rest, (mid, (mid, h, refl), b))
last_by R sole c text mid x h n None b = inr (λ ys r k.
    let a = after_one R sole text mid x h ys k.0 k.1 in
    let l = after_last R mid n a.0 k.0 a.2 in
    none_is r (sym b ∙ ap (byte_at c) l.1 ∙ k.2))

more_by : {A : Type 0} (R : Part A) → Sole R → (c : ℕ) → (44 == c) ≡ false → (text mid more : List ℕ) (x : A) → R x text mid → byte_at 44 mid ≡ Some more → Decided (Closed R c) more → Decided (Closed R c) text
more_by R sole c ne text mid more x h m (inl (xs, r, (end, l, b))) = inl (x ∷ xs, r, (end, more_listed R x text mid more h m xs end l, b))
more_by R sole c ne text mid more x h m (inr u) = inr (λ ys r k.
    let a = after_one R sole text mid x h ys k.0 k.1 in
    u a.0 r (k.0, after_comma R c ne mid more m a.0 k.0 r a.2 k.2, k.2))

-- each shorter text is decided
abbrev Shorter : {A : Type 0} → Part A → ℕ → Type 0
Shorter R n = (text : List ℕ) → length text < n → Decided R text

closed_next : {A : Type 0} (R : Part A) → Sole R → Shrinks R → (c : ℕ) → (44 == c) ≡ false → (n : ℕ) (text mid : List ℕ) (x : A) → length text < suc n → Shorter (Closed R c) n → R x text mid → (o : Option (List ℕ)) → byte_at 44 mid ≡ o → Decided (Closed R c) text
closed_next R sole less c ne n text mid x h again k None m = last_by R sole c text mid x k m (byte_at c mid) refl
closed_next R sole less c ne n text mid x h again k (Some more) m = more_by R sole c ne text mid more x k m (again more (omega (arith, h, less x text mid k, byte_at_shorter 44 mid more m)))

closed_first : {A : Type 0} (R : Part A) → Sole R → Shrinks R → (c : ℕ) → (44 == c) ≡ false → (n : ℕ) (text : List ℕ) → length text < suc n → Shorter (Closed R c) n → Decided R text → Decided (Closed R c) text
closed_first R sole less c ne n text h again (inr u) = inr (λ ys r k. no_first R text u ys k.0 k.1)
closed_first R sole less c ne n text h again (inl (x, mid, k)) = closed_next R sole less c ne n text mid x h again k (byte_at 44 mid) refl

closed_decided : {A : Type 0} (R : Part A) → Sole R → Shrinks R → (c : ℕ) → (44 == c) ≡ false → Decides R → (n : ℕ) (text : List ℕ) → length text < n → Decided (Closed R c) text
closed_decided R sole less c ne one zero text h = absurd (omega arith)
closed_decided R sole less c ne one (suc n) text h = closed_first R sole less c ne n text h (closed_decided R sole less c ne one n) (one text)

-- ---- what stands after an opening bracket

abbrev Inside : {A : Type 0} → Part A → ℕ → Part (List A)
Inside R c xs text rest = Enclosed R c (byte_at c text) xs text rest

abbrev InsideBy : {A : Type 0} → Part A → ℕ → Option (List ℕ) → List ℕ → Type 0
InsideBy {A} R c o text = ((xs : List A) × (r : List ℕ) × Enclosed R c o xs text r) ⊎ ((xs : List A) (r : List ℕ) → Enclosed R c o xs text r → ⊥)

inside_by : {A : Type 0} (R : Part A) (c : ℕ) (text : List ℕ) → Decided (Closed R c) text → (o : Option (List ℕ)) → InsideBy R c o text
inside_by R c text d (Some after) = inl ([], after, (refl, refl))
inside_by R c text (inl d) None = inl d
inside_by R c text (inr u) None = inr u

inside_decided : {A : Type 0} (R : Part A) → Sole R → Shrinks R → (c : ℕ) → (44 == c) ≡ false → Decides R → Decides (Inside R c)
inside_decided R sole less c ne one text = inside_by R c text (closed_decided R sole less c ne one (suc (length text)) text (omega arith)) (byte_at c text)

-- ---- strings

items_next : (n : ℕ) (text : List ℕ) → length text < suc n → Shorter AtItems n → after_byte 34 text ≡ None → (o : Option (ℕ × List ℕ)) → item_at text ≡ o → Decided AtItems text
items_next n text h again c None i = inr (λ bs r k. stuck text c i bs r k)
items_next n text h again c (Some (b, mid)) i = by (again mid (omega (arith, h, item_shorter text b mid i)))
  where
    by : Decided AtItems mid → Decided AtItems text
    by (inl (bs, r, k)) = inl (b ∷ bs, r, (mid, i, k))
    by (inr u) = inr (λ bs r k. let p = next_only text b mid c i bs r k in u p.0 r p.2)

items_first : (n : ℕ) (text : List ℕ) → length text < suc n → Shorter AtItems n → (o : Option (List ℕ)) → after_byte 34 text ≡ o → Decided AtItems text
items_first n text h again (Some rest) c = inl ([], rest, c)
items_first n text h again None c = items_next n text h again c (item_at text) refl

items_decided : (n : ℕ) (text : List ℕ) → length text < n → Decided AtItems text
items_decided zero text h = absurd (omega arith)
items_decided (suc n) text h = items_first n text h (items_decided n) (after_byte 34 text) refl

quoted_by : (text inner : List ℕ) → byte_at 34 text ≡ Some inner → Decided AtItems inner → Decided AtString text
quoted_by text inner b (inl (bs, r, k)) = inl (list (values (map (λ (x : ℕ). number I8 (wrapped I8 (pos x))) bs)), r, (inner, bs, b, k, refl))
quoted_by text inner b (inr u) = inr (λ v r k. u k.1 r (subst (λ (x : List ℕ). AtItems k.1 x r) (some_is k.0 inner (sym k.2 ∙ b)) k.3))

string_by : (text : List ℕ) (o : Option (List ℕ)) → byte_at 34 text ≡ o → Decided AtString text
string_by text None b = inr (λ v r k. none_is k.0 (sym b ∙ k.2))
string_by text (Some inner) b = quoted_by text inner b (items_decided (suc (length inner)) inner (omega arith))

-- ---- vectors

list_by : (t : TypeTree) (text inner : List ℕ) → byte_at 91 text ≡ Some inner → Decided (Inside (At t) 93) inner → Decided (At (vec t)) text
list_by t text inner b (inl (vs, r, k)) = inl (list (values vs), r, inl (inner, vs, b, k, refl))
list_by t text inner b (inr u) = inr (list_unread t text inner b u)

string_or : (t : TypeTree) (text : List ℕ) → byte_at 91 text ≡ None → IsI8 t → Decided AtString text → Decided (At (vec t)) text
string_or t text b i (inl (v, r, k)) = inl (v, r, inr (i, k))
string_or t text b i (inr u) = inr (string_unread t text b u)

no_list : (t : TypeTree) (text : List ℕ) → byte_at 91 text ≡ None → IsI8 t ⊎ (IsI8 t → ⊥) → Decided (At (vec t)) text
no_list t text b (inl i) = string_or t text b i (string_by text (byte_at 34 text) refl)
no_list t text b (inr n) = inr (neither_read t text b n)

vec_by : (t : TypeTree) → Decides (At t) → (text : List ℕ) (o : Option (List ℕ)) → byte_at 91 text ≡ o → Decided (At (vec t)) text
vec_by t one text (Some inner) b = list_by t text inner b (inside_decided (At t) (at_sole t) (at_shrinks t) 93 refl one inner)
vec_by t one text None b = no_list t text b (is_i8_or_not t)

-- ---- structs

field_last : (lead : ℕ) (R : Part Value) (S : Part Values) → Sole R → (text start mid : List ℕ) (v : Value) → byte_at lead text ≡ Some start → R v start mid → Decided S mid → Decided (AtField lead R S) text
field_last lead R S sole text start mid v b h (inl (ws, r, m)) = inl (and_value v ws, r, (v, ws, start, mid, refl, b, h, m))
field_last lead R S sole text start mid v b h (inr u) = inr (λ vs r k. by vs r k)
  where
    by : (vs : Values) (r : List ℕ) → AtField lead R S vs text r → ⊥
    by vs r (v', ws, start', mid', e, b', h', m) =
        let same : start' ≡ start = some_is start' start (sym b' ∙ b) in
        let first = sole v' v start mid' mid (subst (λ (x : List ℕ). R v' x mid') same h') h in
        u ws r (subst (λ (x : List ℕ). S ws x r) first.1 m)

field_next : (lead : ℕ) (R : Part Value) (S : Part Values) → Sole R → Decides S → (text start : List ℕ) → byte_at lead text ≡ Some start → Decided R start → Decided (AtField lead R S) text
field_next lead R S sole more text start b (inl (v, mid, h)) = field_last lead R S sole text start mid v b h (more mid)
field_next lead R S sole more text start b (inr u) = inr (λ vs r k. by vs r k)
  where
    by : (vs : Values) (r : List ℕ) → AtField lead R S vs text r → ⊥
    by vs r (v', ws, start', mid', e, b', h', m) = u v' mid' (subst (λ (x : List ℕ). R v' x mid') (some_is start' start (sym b' ∙ b)) h')

field_by : (lead : ℕ) (R : Part Value) (S : Part Values) → Sole R → Decides R → Decides S → (text : List ℕ) (o : Option (List ℕ)) → byte_at lead text ≡ o → Decided (AtField lead R S) text
field_by lead R S sole one more text None b = inr (λ vs r k. none_is k.2 (sym b ∙ k.5))
field_by lead R S sole one more text (Some start) b = field_next lead R S sole more text start b (one start)

struct_end : (R : Part Values) → Sole R → (text end : List ℕ) (vs : Values) → R vs text end → (o : Option (List ℕ)) → byte_at 125 end ≡ o → Decided (AtStruct R) text
struct_end R sole text end vs h (Some rest) b = inl (struct vs, rest, (vs, end, h, b, refl))
struct_end R sole text end vs h None b = inr (λ v r k. none_is r (sym b ∙ ap (byte_at 125) (sole vs k.0 text end k.1 h k.2).1 ∙ k.3))

struct_by : (R : Part Values) → Sole R → (text : List ℕ) → Decided R text → Decided (AtStruct R) text
struct_by R sole text (inl (vs, end, h)) = struct_end R sole text end vs h (byte_at 125 end) refl
struct_by R sole text (inr u) = inr (λ v r k. u k.0 k.1 k.2)

-- ---- dictionaries

value_by : (R S : Part Value) → Sole R → (text mid start : List ℕ) (key : Value) → R key text mid → byte_at 58 mid ≡ Some start → Decided S start → Decided (AtEntry R S) text
value_by R S sole text mid start key h b (inl (v, r, k)) = inl ((key, v), r, (mid, start, h, b, k))
value_by R S sole text mid start key h b (inr u) = inr (no_value R S sole text mid start key h b u)

colon_by : (R S : Part Value) → Sole R → Decides S → (text mid : List ℕ) (key : Value) → R key text mid → (o : Option (List ℕ)) → byte_at 58 mid ≡ o → Decided (AtEntry R S) text
colon_by R S sole two text mid key h None b = inr (no_colon R S sole text mid key h b)
colon_by R S sole two text mid key h (Some start) b = value_by R S sole text mid start key h b (two start)

key_by : (R S : Part Value) → Sole R → Decides S → (text : List ℕ) → Decided R text → Decided (AtEntry R S) text
key_by R S sole two text (inl (key, mid, h)) = colon_by R S sole two text mid key h (byte_at 58 mid) refl
key_by R S sole two text (inr u) = inr (no_key R S text u)

entries_by : (R S : Part Value) (text brace inner : List ℕ) → after_word (codes "dict") (after_blanks text) ≡ Some brace → byte_at 123 brace ≡ Some inner → Decided (Inside (AtEntry R S) 125) inner → Decided (AtDict R S) text
entries_by R S text brace inner w b (inl (es, r, k)) = inl (dict (entries es), r, (brace, inner, es, w, b, k, refl))
entries_by R S text brace inner w b (inr u) = inr (dict_unread R S text brace inner w b u)

brace_by : (R S : Part Value) → Decides (Inside (AtEntry R S) 125) → (text brace : List ℕ) → after_word (codes "dict") (after_blanks text) ≡ Some brace → (o : Option (List ℕ)) → byte_at 123 brace ≡ o → Decided (AtDict R S) text
brace_by R S inside text brace w None b = inr (no_brace R S text brace w b)
brace_by R S inside text brace w (Some inner) b = entries_by R S text brace inner w b (inside inner)

dict_by : (R S : Part Value) → Decides (Inside (AtEntry R S) 125) → (text : List ℕ) (o : Option (List ℕ)) → after_word (codes "dict") (after_blanks text) ≡ o → Decided (AtDict R S) text
dict_by R S inside text None w = inr (no_word R S text w)
dict_by R S inside text (Some brace) w = brace_by R S inside text brace w (byte_at 123 brace) refl

entries_decided : (k v : TypeTree) → Decides (At k) → Decides (At v) → Decides (Inside (AtEntry (At k) (At v)) 125)
entries_decided k v one two = inside_decided (AtEntry (At k) (At v)) (entry_sole (At k) (At v) (at_sole k) (at_sole v)) (entry_shrinks (At k) (At v) (at_shrinks k) (at_shrinks v)) 125 refl (λ text. key_by (At k) (At v) (at_sole k) two text (one text))

-- ---- all such types

mutual
  at_decided : (t : TypeTree) → IsReadable t → Decides (At t)
  at_decided (scalar kind) p = λ text. found_by (scalar_at kind) text (scalar_at kind text) refl
  at_decided (vec t) p = λ text. vec_by t (at_decided t p) text (byte_at 91 text) refl
  at_decided (struct_of ts) p = λ text. struct_by (Fields ts 123) (fields_sole ts 123) text (fields_decided ts 123 p text)
  at_decided (dict_of k v) p = λ text. dict_by (At k) (At v) (entries_decided k v (at_decided k (key_readable k p.0)) (at_decided v p.1)) text (after_word (codes "dict") (after_blanks text)) refl
  at_decided (build b) p = absurd p

  fields_decided : (ts : TypeTrees) (lead : ℕ) → AreReadable ts → Decides (Fields ts lead)
  fields_decided no_types lead p = λ text. inl (no_values, text, (refl, refl))
  fields_decided (more_types t ts) lead p = λ text. field_by lead (At t) (Fields ts 44) (at_sole t) (at_decided t p.0) (fields_decided ts 44 p.1) text (byte_at lead text) refl

-- ---- ranges

kind_holds : (k : Kind) (x : ℤ) → InRange k x ⊎ (InRange k x → ⊥)
kind_holds k x = by_lt_z x (least k) (λ l. inr (λ r. below l r.low)) (λ low. by_lt_z (greatest k) x (λ l. inr (λ r. below l r.high)) (λ high. inl (record { low = low; high = high })))
  where
    below : {a b : ℤ} → a <ℤ b → b ≤ℤ a → ⊥
    below l m = omega (arith, ints)

both_or_not : {P Q : Type 0} → P ⊎ (P → ⊥) → Q ⊎ (Q → ⊥) → (P × Q) ⊎ (P × Q → ⊥)
both_or_not (inl p) (inl q) = inl (p, q)
both_or_not (inl p) (inr n) = inr (λ h. n h.1)
both_or_not (inr n) q = inr (λ h. n h.0)

three_or_not : {P Q R : Type 0} → P ⊎ (P → ⊥) → Q ⊎ (Q → ⊥) → R ⊎ (R → ⊥) → (P × Q × R) ⊎ (P × Q × R → ⊥)
three_or_not (inl p) (inl q) (inl r) = inl (p, q, r)
three_or_not (inl p) (inl q) (inr n) = inr (λ h. n h.2)
three_or_not (inl p) (inr n) r = inr (λ h. n h.1)
three_or_not (inr n) q r = inr (λ h. n h.0)

mutual
  range_decided : (v : Value) → IsInRange v ⊎ (IsInRange v → ⊥)
  range_decided (number k x) = kind_holds k x
  range_decided (list vs) = ranges_decided vs
  range_decided (struct vs) = ranges_decided vs
  range_decided (dict es) = entry_ranges_decided es

  ranges_decided : (vs : Values) → AreInRange vs ⊎ (AreInRange vs → ⊥)
  ranges_decided no_values = inl tt
  ranges_decided (and_value v vs) = both_or_not (range_decided v) (ranges_decided vs)

  entry_ranges_decided : (es : Entries) → EntriesInRange es ⊎ (EntriesInRange es → ⊥)
  entry_ranges_decided no_entries = inl tt
  entry_ranges_decided (and_entry k v es) = three_or_not (range_decided k) (range_decided v) (entry_ranges_decided es)

-- ---- the whole text

abbrev ReadsOrNot : List ℕ → TypeTree → Type 0
ReadsOrNot text t = ((v : Value) × ReadsAs text t v) ⊎ ((f : DataFault) × WhyNot text t f × (f ≡ Memory → ⊥))

settled_by : (text : List ℕ) (t : TypeTree) (raw : Value) → Spells text t raw → IsInRange raw → SettlesOrRepeats raw → ReadsOrNot text t
settled_by text t raw s r (inl (v, settles)) = inl (v, record { raw = raw; spelled = s; in_range = r; settled = settles })
settled_by text t raw s r (inr repeats) = inr (Repeat, record { raw = raw; spelled = s; in_range = r; repeats = repeats }, λ e. cc)

spelled_by : (text : List ℕ) (t : TypeTree) → IsReadable t → (raw : Value) → Spells text t raw → IsInRange raw ⊎ (IsInRange raw → ⊥) → ReadsOrNot text t
spelled_by text t p raw s (inl r) = settled_by text t raw s r (settles_or_repeats t p raw text s.rest s.at)
spelled_by text t p raw s (inr o) = inr (Range, record { raw = raw; spelled = s; out = o }, λ e. cc)

whole_by : (text : List ℕ) (t : TypeTree) → IsReadable t → (raw : Value) (rest : List ℕ) → At t raw text rest → (left : List ℕ) → after_blanks rest ≡ left → ReadsOrNot text t
whole_by text t p raw rest h [] e = spelled_by text t p raw (record { rest = rest; at = h; ends = e }) (range_decided raw)
whole_by text t p raw rest h (byte ∷ bytes) e = inr (Syntax, (λ other s. by other s), λ e. cc)
  where
    by : (other : Value) → Spells text t other → ⊥
    by other s =
        let no : byte ∷ bytes ≡ [] = sym e ∙ ap after_blanks (at_sole t raw other text rest s.rest h s.at).1 ∙ s.ends in
        absurd (cc)

at_front : (text : List ℕ) (t : TypeTree) → IsReadable t → Decided (At t) text → ReadsOrNot text t
at_front text t p (inl (raw, rest, h)) = whole_by text t p raw rest h (after_blanks rest) refl
at_front text t p (inr u) = inr (Syntax, (λ raw s. u raw s.rest s.at), λ e. cc)

pub reads_or_not : (text : List ℕ) (t : TypeTree) → IsReadable t → ReadsOrNot text t
reads_or_not text t p = at_front text t p (at_decided t p text)
