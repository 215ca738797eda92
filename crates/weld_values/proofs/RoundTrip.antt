-- What is written of a value reads as it.
use Rattle.std.proofs.Common.{◌≡◌, ◌⊎◌, inl, inr, sym, ◌∙◌, ℕ, ◌<◌, Bool, true, false, ◌==◌, cond, IsTrue, List, [], ◌∷◌, ◌++◌, Option, Some, None, refl, ap, subst, map, arith, ℤ, pos, codes, append_assoc, append-nil}
use Rattle.std.specs.Int.{w8, cast_unsigned}
use Rattle.weld_data.specs.declared.kind.Kind.{Kind}
use Rattle.weld_data.specs.declared.kind.Kind.TheVariants as kinds
use Rattle.weld_data.specs.Kind.{InRange}
use Rattle.weld_data.specs.Wrapped.{wrapped}
use Rattle.std.proofs.lemmas.List.Sorted.{IsPermutation-refl}
use Rattle.weld_data.specs.Value.{Value, Values, Entries, number, list, struct, dict, values, no_values, and_value, no_entries, and_entry, entries, list_of_values, values-list_of_values, list_of_entries, entries-list_of_entries}
use Rattle.weld_tree.specs.TypeTree.{TypeTree, TypeTrees, scalar, vec, struct as struct_of, dict as dict_of, build, no_types, more_types}
use Rattle.weld_tree.specs.Types.{IsKey}
use Rattle.weld_tree.specs.HasValue.{HasValue, HaveValues, AllAre, AllEntriesAre}
use Rattle.weld_values.specs.Tokens.{is_blank, after_blanks, after_byte, byte_at, after_word, item_at}
use Rattle.weld_values.specs.Grammar.{More, Enclosed, AtList, AtItems, AtString, AtEntry, AtDict, AtStruct, At, Fields, IsI8, scalar_at}
use Rattle.weld_values.specs.Reading.{ReadsAs, IsInRange, AreInRange, EntriesInRange, Settles, SettleAll, SettleEntries}
use Rattle.weld_values.specs.Judging.{IsReadable, AreReadable}
use Rattle.weld_values.specs.Showing.{shown_number, shown_byte, led, shown_list, strung, shown_elements, led_entries, shown_entries, show, show_fields}
use Rattle.weld_values.proofs.Backs.{ends_number, Begins, Closes, differs, scalar_back, scalar_begins, byte_back}
use Rattle.weld_values.proofs.Vectors.{i8_of}
use Rattle.weld_values.proofs.KeyTypes.{key_readable}

-- ---- bytes

byte_same : (c : ℕ) → (c == c) ≡ true
byte_same c = grind arith

pub byte_here : (c : ℕ) (rest : List ℕ) → is_blank c ≡ false → byte_at c (c ∷ rest) ≡ Some rest
unfolding byte_at
byte_here c rest b = ap (λ (t : Bool). after_byte c (cond t (after_blanks rest) (c ∷ rest))) b ∙ ap (λ (t : Bool). cond t (Some rest) None) (byte_same c)

still_open : (close : ℕ) (text rest : List ℕ) → Begins close text → byte_at close (text ++ rest) ≡ None
unfolding byte_at
still_open close text rest b =
    ap (λ (t : List ℕ). after_byte close (after_blanks (t ++ rest))) b.parts
    ∙ ap (λ (t : Bool). after_byte close (cond t (after_blanks (b.more ++ rest)) (b.byte ∷ (b.more ++ rest)))) b.bare
    ∙ ap (λ (t : Bool). cond t (Some (b.more ++ rest)) None) b.open_still

-- what is written of the type's values reads as them, and how it begins
abbrev Back : TypeTree → Type 0
Back t = (v : Value) (rest : List ℕ) → HasValue t v → IsTrue (ends_number rest) → At t v (show t v ++ rest) rest

abbrev Starts : ℕ → TypeTree → Type 0
Starts close t = (v : Value) → HasValue t v → Begins close (show t v)

-- ---- lists

led_ends : (f : Value → List ℕ) (vs : List Value) (rest : List ℕ) → IsTrue (ends_number (led 44 f vs ++ (93 ∷ rest)))
led_ends f [] rest = refl
led_ends f (v ∷ vs) rest = refl

more_back : (t : TypeTree) → Back t → (vs : List Value) (rest : List ℕ) → AllAre (HasValue t) (values vs) → More (At t) vs (led 44 (show t) vs ++ (93 ∷ rest)) (93 ∷ rest)
more_back t back [] rest h = refl
more_back t back (v ∷ vs) rest h =
    let mid = led 44 (show t) vs ++ (93 ∷ rest) in
    let one : More (At t) (v ∷ vs) (44 ∷ (show t v ++ mid)) (93 ∷ rest) = (show t v ++ mid, byte_here 44 (show t v ++ mid) refl, (mid, back v mid h.0 (led_ends (show t) vs rest), more_back t back vs rest h.1)) in
    subst (λ (x : List ℕ). More (At t) (v ∷ vs) x (93 ∷ rest)) (sym (append_assoc (44 ∷ show t v) (led 44 (show t) vs) (93 ∷ rest))) one

list_back : (t : TypeTree) → Back t → Starts 93 t → (vs : List Value) (rest : List ℕ) → AllAre (HasValue t) (values vs) → AtList (At t) (list (values vs)) (shown_list (show t) vs ++ rest) rest
list_back t back starts [] rest h = (93 ∷ rest, [], byte_here 91 (93 ∷ rest) refl, subst (λ (o : Option (List ℕ)). Enclosed (At t) 93 o [] (93 ∷ rest) rest) (sym (byte_here 93 rest refl)) (refl, refl), refl)
list_back t back starts (v ∷ vs) rest h =
    let mid = led 44 (show t) vs ++ (93 ∷ rest) in
    let inner = show t v ++ mid in
    let closed : Enclosed (At t) 93 (byte_at 93 inner) (v ∷ vs) inner rest = subst (λ (o : Option (List ℕ)). Enclosed (At t) 93 o (v ∷ vs) inner rest) (sym (still_open 93 (show t v) mid (starts v h.0))) (93 ∷ rest, (mid, back v mid h.0 (led_ends (show t) vs rest), more_back t back vs rest h.1), byte_here 93 rest refl) in
    let whole : AtList (At t) (list (values (v ∷ vs))) (91 ∷ inner) rest = (inner, v ∷ vs, byte_here 91 inner refl, closed, refl) in
    subst (λ (x : List ℕ). AtList (At t) (list (values (v ∷ vs))) x rest) (sym (append_assoc (led 91 (show t) (v ∷ vs)) (codes "]") rest ∙ append_assoc (91 ∷ show t v) (led 44 (show t) vs) (93 ∷ rest))) whole

-- ---- strings

-- that a byte of a number of kind i8 is taken for that number again
abbrev pub BytesAreNumbers : Type 0
BytesAreNumbers = (x : ℤ) → InRange kinds.I8 x → (cast_unsigned w8 x < 256) × (wrapped kinds.I8 (pos (cast_unsigned w8 x)) ≡ x)

record ItemsBack (vs : List Value) (rest : List ℕ) : Type 0 where
  bytes : List ℕ
  at : AtItems bytes (strung vs ++ (34 ∷ rest)) rest
  numbers : vs ≡ map i8_of bytes

items_back_by : BytesAreNumbers → (x : ℤ) (vs : List Value) (rest : List ℕ) → InRange kinds.I8 x → ItemsBack vs rest → ItemsBack (number kinds.I8 x ∷ vs) rest
items_back_by w x vs rest r back = record {
  bytes = cast_unsigned w8 x ∷ back.bytes;
  at = (strung vs ++ (34 ∷ rest), ap item_at (append_assoc (shown_byte (cast_unsigned w8 x)) (strung vs) (34 ∷ rest)) ∙ byte_back (cast_unsigned w8 x) (strung vs ++ (34 ∷ rest)) (w x r).0, back.at);
  numbers = ap (λ (y : ℤ). number kinds.I8 y ∷ vs) (sym (w x r).1) ∙ ap (λ (ws : List Value). i8_of (cast_unsigned w8 x) ∷ ws) back.numbers;
}

items_back : BytesAreNumbers → (vs : List Value) (rest : List ℕ) → AllAre (HasValue (scalar kinds.I8)) (values vs) → ItemsBack vs rest
items_back w [] rest h = record { bytes = []; at = refl; numbers = refl }
items_back w (number k x ∷ vs) rest h =
    subst (λ (j : Kind). ItemsBack (number j x ∷ vs) rest) (sym h.0.0)
    (items_back_by w x vs rest h.0.1 (items_back w vs rest h.1))
items_back w (list us ∷ vs) rest h = absurd h.0
items_back w (struct us ∷ vs) rest h = absurd h.0
items_back w (dict es ∷ vs) rest h = absurd h.0

string_back : BytesAreNumbers → (vs : List Value) (rest : List ℕ) → AllAre (HasValue (scalar kinds.I8)) (values vs) → AtString (list (values vs)) ((codes "\"" ++ strung vs ++ codes "\"") ++ rest) rest
string_back w vs rest h =
    let back = items_back w vs rest h in
    let text : (codes "\"" ++ strung vs ++ codes "\"") ++ rest ≡ 34 ∷ (strung vs ++ (34 ∷ rest)) = append_assoc (34 ∷ strung vs) (codes "\"") rest in
    subst (λ (x : List ℕ). AtString (list (values vs)) x rest) (sym text) (strung vs ++ (34 ∷ rest), back.bytes, byte_here 34 (strung vs ++ (34 ∷ rest)) refl, back.at, ap (λ (ws : List Value). list (values ws)) back.numbers)

-- ---- vectors

-- elements that are no numbers of kind i8 stand in brackets
bracketed : (t : TypeTree) (f : Value → List ℕ) (vs : List Value) → (IsI8 t → ⊥) → shown_elements t f vs ≡ shown_list f vs
bracketed (scalar kinds.Bool) f vs n = refl
bracketed (scalar kinds.I8) f vs n = absurd (n tt)
bracketed (scalar kinds.I16) f vs n = refl
bracketed (scalar kinds.I32) f vs n = refl
bracketed (scalar kinds.I64) f vs n = refl
bracketed (scalar kinds.U8) f vs n = refl
bracketed (scalar kinds.U16) f vs n = refl
bracketed (scalar kinds.U32) f vs n = refl
bracketed (scalar kinds.U64) f vs n = refl
bracketed (vec t) f vs n = refl
bracketed (struct_of ts) f vs n = refl
bracketed (dict_of k v) f vs n = refl
bracketed (build b) f vs n = refl

-- and those that are in quotes
quoted : (t : TypeTree) (f : Value → List ℕ) (vs : List Value) → IsI8 t → shown_elements t f vs ≡ codes "\"" ++ strung vs ++ codes "\""
quoted (scalar kinds.Bool) f vs n = absurd n
quoted (scalar kinds.I8) f vs n = refl
quoted (scalar kinds.I16) f vs n = absurd n
quoted (scalar kinds.I32) f vs n = absurd n
quoted (scalar kinds.I64) f vs n = absurd n
quoted (scalar kinds.U8) f vs n = absurd n
quoted (scalar kinds.U16) f vs n = absurd n
quoted (scalar kinds.U32) f vs n = absurd n
quoted (scalar kinds.U64) f vs n = absurd n
quoted (vec t) f vs n = absurd n
quoted (struct_of ts) f vs n = absurd n
quoted (dict_of k v) f vs n = absurd n
quoted (build b) f vs n = absurd n

pub is_i8_or_not : (t : TypeTree) → IsI8 t ⊎ (IsI8 t → ⊥)
is_i8_or_not (scalar kinds.Bool) = inr (λ h. h)
is_i8_or_not (scalar kinds.I8) = inl tt
is_i8_or_not (scalar kinds.I16) = inr (λ h. h)
is_i8_or_not (scalar kinds.I32) = inr (λ h. h)
is_i8_or_not (scalar kinds.I64) = inr (λ h. h)
is_i8_or_not (scalar kinds.U8) = inr (λ h. h)
is_i8_or_not (scalar kinds.U16) = inr (λ h. h)
is_i8_or_not (scalar kinds.U32) = inr (λ h. h)
is_i8_or_not (scalar kinds.U64) = inr (λ h. h)
is_i8_or_not (vec t) = inr (λ h. h)
is_i8_or_not (struct_of ts) = inr (λ h. h)
is_i8_or_not (dict_of k v) = inr (λ h. h)
is_i8_or_not (build b) = inr (λ h. h)

i8_forth : (t : TypeTree) → IsI8 t → (vs : Values) → AllAre (HasValue t) vs → AllAre (HasValue (scalar kinds.I8)) vs
i8_forth (scalar kinds.Bool) n vs h = absurd n
i8_forth (scalar kinds.I8) n vs h = h
i8_forth (scalar kinds.I16) n vs h = absurd n
i8_forth (scalar kinds.I32) n vs h = absurd n
i8_forth (scalar kinds.I64) n vs h = absurd n
i8_forth (scalar kinds.U8) n vs h = absurd n
i8_forth (scalar kinds.U16) n vs h = absurd n
i8_forth (scalar kinds.U32) n vs h = absurd n
i8_forth (scalar kinds.U64) n vs h = absurd n
i8_forth (vec t) n vs h = absurd n
i8_forth (struct_of ts) n vs h = absurd n
i8_forth (dict_of k v) n vs h = absurd n
i8_forth (build b) n vs h = absurd n

elements_back : BytesAreNumbers → (t : TypeTree) → Back t → Starts 93 t → (vs : List Value) (rest : List ℕ) → IsI8 t ⊎ (IsI8 t → ⊥) → AllAre (HasValue t) (values vs) → At (vec t) (list (values vs)) (shown_elements t (show t) vs ++ rest) rest
elements_back w t back starts vs rest (inl n) h = inr (n, subst (λ (x : List ℕ). AtString (list (values vs)) (x ++ rest) rest) (sym (quoted t (show t) vs n)) (string_back w vs rest (i8_forth t n (values vs) h)))
elements_back w t back starts vs rest (inr n) h = inl (subst (λ (x : List ℕ). AtList (At t) (list (values vs)) (x ++ rest) rest) (sym (bracketed t (show t) vs n)) (list_back t back starts vs rest h))

vec_back : BytesAreNumbers → (t : TypeTree) → Back t → Starts 93 t → Back (vec t)
vec_back w t back starts (number k x) rest h e = absurd h
vec_back w t back starts (list us) rest h e =
    subst (λ (ws : Values). At (vec t) (list ws) (shown_elements t (show t) (list_of_values us) ++ rest) rest) (values-list_of_values us)
    (elements_back w t back starts (list_of_values us) rest (is_i8_or_not t) (subst (AllAre (HasValue t)) (sym (values-list_of_values us)) h))
vec_back w t back starts (struct us) rest h e = absurd h
vec_back w t back starts (dict es) rest h e = absurd h

list_begins : (close : ℕ) → Closes close → (f : Value → List ℕ) (vs : List Value) → Begins close (shown_list f vs)
list_begins close c f [] = record { byte = 91; more = codes "]"; parts = refl; bare = refl; open_still = differs 91 close c refl refl }
list_begins close c f (v ∷ vs) = record { byte = 91; more = (f v ++ led 44 f vs) ++ codes "]"; parts = refl; bare = refl; open_still = differs 91 close c refl refl }

elements_begin : (close : ℕ) → Closes close → (t : TypeTree) (f : Value → List ℕ) (vs : List Value) → IsI8 t ⊎ (IsI8 t → ⊥) → Begins close (shown_elements t f vs)
elements_begin close c t f vs (inl n) = subst (Begins close) (sym (quoted t f vs n)) (record { byte = 34; more = strung vs ++ codes "\""; parts = refl; bare = refl; open_still = differs 34 close c refl refl })
elements_begin close c t f vs (inr n) = subst (Begins close) (sym (bracketed t f vs n)) (list_begins close c f vs)

vec_starts : (close : ℕ) → Closes close → (t : TypeTree) → Starts close (vec t)
vec_starts close c t (number k x) h = absurd h
vec_starts close c t (list us) h = elements_begin close c t (show t) (list_of_values us) (is_i8_or_not t)
vec_starts close c t (struct us) h = absurd h
vec_starts close c t (dict es) h = absurd h

scalar_back_all : (k : Kind) → Back (scalar k)
scalar_back_all k (number j x) rest h e = subst (λ (i : Kind). scalar_at k (shown_number i x ++ rest) ≡ Some (number i x, rest)) (sym h.0) (scalar_back k x rest h.1 e)
scalar_back_all k (list us) rest h e = absurd h
scalar_back_all k (struct us) rest h e = absurd h
scalar_back_all k (dict es) rest h e = absurd h

scalar_starts : (close : ℕ) → Closes close → (k : Kind) → Starts close (scalar k)
scalar_starts close c k (number j x) h = subst (λ (i : Kind). Begins close (shown_number i x)) (sym h.0) (scalar_begins close c k x h.1)
scalar_starts close c k (list us) h = absurd h
scalar_starts close c k (struct us) h = absurd h
scalar_starts close c k (dict es) h = absurd h

-- ---- structs

abbrev BackFields : TypeTrees → ℕ → Type 0
BackFields ts lead = (us : Values) (rest : List ℕ) → HaveValues ts us → Fields ts lead us (show_fields ts lead us ++ (125 ∷ rest)) (125 ∷ rest)

fields_end : (ts : TypeTrees) (us : Values) (rest : List ℕ) → HaveValues ts us → IsTrue (ends_number (show_fields ts 44 us ++ (125 ∷ rest)))
fields_end no_types us rest h = refl
fields_end (more_types t ts) no_values rest h = absurd h
fields_end (more_types t ts) (and_value v ws) rest h = refl

none_back : (lead : ℕ) → BackFields no_types lead
none_back lead no_values rest h = (refl, refl)
none_back lead (and_value v ws) rest h = absurd h

field_back : (t : TypeTree) (ts : TypeTrees) (lead : ℕ) → is_blank lead ≡ false → Back t → BackFields ts 44 → BackFields (more_types t ts) lead
field_back t ts lead b back all no_values rest h = absurd h
field_back t ts lead b back all (and_value v ws) rest h =
    let mid = show_fields ts 44 ws ++ (125 ∷ rest) in
    let one : Fields (more_types t ts) lead (and_value v ws) (lead ∷ (show t v ++ mid)) (125 ∷ rest) = (v, ws, show t v ++ mid, mid, refl, byte_here lead (show t v ++ mid) b, back v mid h.0 (fields_end ts ws rest h.1), all ws rest h.1) in
    subst (λ (x : List ℕ). Fields (more_types t ts) lead (and_value v ws) x (125 ∷ rest)) (sym (append_assoc (lead ∷ show t v) (show_fields ts 44 ws) (125 ∷ rest))) one

struct_back : (ts : TypeTrees) → BackFields ts 123 → Back (struct_of ts)
struct_back ts all (number k x) rest h e = absurd h
struct_back ts all (list us) rest h e = absurd h
struct_back ts all (struct us) rest h e = subst (λ (x : List ℕ). AtStruct (Fields ts 123) (struct us) x rest) (sym (append_assoc (show_fields ts 123 us) (codes "}") rest)) (us, 125 ∷ rest, all us rest h, byte_here 125 rest refl, refl)
struct_back ts all (dict es) rest h e = absurd h

fields_begin : (ts : TypeTrees) (us : Values) → HaveValues ts us → Begins 93 (show_fields ts 123 us ++ codes "}")
fields_begin no_types us h = record { byte = 125; more = []; parts = refl; bare = refl; open_still = refl }
fields_begin (more_types t ts) no_values h = absurd h
fields_begin (more_types t ts) (and_value v ws) h = record { byte = 123; more = (show t v ++ show_fields ts 44 ws) ++ codes "}"; parts = refl; bare = refl; open_still = refl }

struct_starts : (ts : TypeTrees) → Starts 93 (struct_of ts)
struct_starts ts (number k x) h = absurd h
struct_starts ts (list us) h = absurd h
struct_starts ts (struct us) h = fields_begin ts us h
struct_starts ts (dict es) h = absurd h

-- ---- dictionaries

-- a key begins with something else than the closing brace
key_fields_begin : (t : TypeTree) (ts : TypeTrees) (us : Values) → HaveValues (more_types t ts) us → Begins 125 (show_fields (more_types t ts) 123 us ++ codes "}")
key_fields_begin t ts no_values h = absurd h
key_fields_begin t ts (and_value v ws) h = record { byte = 123; more = (show t v ++ show_fields ts 44 ws) ++ codes "}"; parts = refl; bare = refl; open_still = refl }

key_struct_starts : (t : TypeTree) (ts : TypeTrees) → Starts 125 (struct_of (more_types t ts))
key_struct_starts t ts (number k x) h = absurd h
key_struct_starts t ts (list us) h = absurd h
key_struct_starts t ts (struct us) h = key_fields_begin t ts us h
key_struct_starts t ts (dict es) h = absurd h

key_starts : (t : TypeTree) → IsKey t → Starts 125 t
key_starts (scalar kind) p = scalar_starts 125 (inr refl) kind
key_starts (vec t) p = vec_starts 125 (inr refl) t
key_starts (struct_of no_types) p = absurd p.0
key_starts (struct_of (more_types t ts)) p = key_struct_starts t ts
key_starts (dict_of k v) p = absurd p
key_starts (build b) p = absurd p

abbrev Pairing : Type 0
Pairing = Value × Value

led_entries_end : (f g : Value → List ℕ) (es : List Pairing) (rest : List ℕ) → IsTrue (ends_number (led_entries 44 f g es ++ (125 ∷ rest)))
led_entries_end f g [] rest = refl
led_entries_end f g (e ∷ es) rest = refl

-- an entry's text, up to what follows it
abbrev entry_text : TypeTree → TypeTree → Pairing → List ℕ → List ℕ
entry_text k u e after = show k e.0 ++ (58 ∷ (show u e.1 ++ after))

entry_back : (k u : TypeTree) → Back k → Back u → (e : Pairing) (after : List ℕ) → HasValue k e.0 → HasValue u e.1 → IsTrue (ends_number after) → AtEntry (At k) (At u) e (entry_text k u e after) after
entry_back k u one two e after h g s =
    let start = show u e.1 ++ after in
    (58 ∷ start, start, one e.0 (58 ∷ start) h refl, byte_here 58 start refl, two e.1 after g s)

entry_joined : (f g : Value → List ℕ) (lead : ℕ) (e : Pairing) (es : List Pairing) (after : List ℕ) → led_entries lead f g (e ∷ es) ++ after ≡ lead ∷ (f e.0 ++ (58 ∷ (g e.1 ++ (led_entries 44 f g es ++ after))))
entry_joined f g lead e es after = simp append_assoc

more_entries_back : (k u : TypeTree) → Back k → Back u → (es : List Pairing) (rest : List ℕ) → AllEntriesAre (HasValue k) (HasValue u) (entries es) → More (AtEntry (At k) (At u)) es (led_entries 44 (show k) (show u) es ++ (125 ∷ rest)) (125 ∷ rest)
more_entries_back k u one two [] rest h = refl
more_entries_back k u one two (e ∷ es) rest h =
    let after = led_entries 44 (show k) (show u) es ++ (125 ∷ rest) in
    let here : More (AtEntry (At k) (At u)) (e ∷ es) (44 ∷ entry_text k u e after) (125 ∷ rest) = (entry_text k u e after, byte_here 44 (entry_text k u e after) refl, (after, entry_back k u one two e after h.0 h.1 (led_entries_end (show k) (show u) es rest), more_entries_back k u one two es rest h.2)) in
    subst (λ (x : List ℕ). More (AtEntry (At k) (At u)) (e ∷ es) x (125 ∷ rest)) (sym (entry_joined (show k) (show u) 44 e es (125 ∷ rest))) here

dict_word : (rest : List ℕ) → after_word (codes "dict") (after_blanks (codes "dict" ++ rest)) ≡ Some rest
unfolding after_word
dict_word rest = refl

entries_back : (k u : TypeTree) → Back k → Back u → Starts 125 k → (es : List Pairing) (rest : List ℕ) → AllEntriesAre (HasValue k) (HasValue u) (entries es) → AtDict (At k) (At u) (dict (entries es)) (shown_entries (show k) (show u) es ++ rest) rest
entries_back k u one two starts [] rest h = (
  123 ∷ (125 ∷ rest),
  125 ∷ rest,
  [],
  dict_word (123 ∷ (125 ∷ rest)),
  byte_here 123 (125 ∷ rest) refl,
  subst (λ (o : Option (List ℕ)). Enclosed (AtEntry (At k) (At u)) 125 o [] (125 ∷ rest) rest) (sym (byte_here 125 rest refl)) (refl, refl),
  refl,
)
entries_back k u one two starts (e ∷ es) rest h =
    let after = led_entries 44 (show k) (show u) es ++ (125 ∷ rest) in
    let inner = entry_text k u e after in
    let closed : Enclosed (AtEntry (At k) (At u)) 125 (byte_at 125 inner) (e ∷ es) inner rest = subst (λ (o : Option (List ℕ)). Enclosed (AtEntry (At k) (At u)) 125 o (e ∷ es) inner rest) (sym (still_open 125 (show k e.0) (58 ∷ (show u e.1 ++ after)) (starts e.0 h.0)))
    (125 ∷ rest, (after, entry_back k u one two e after h.0 h.1 (led_entries_end (show k) (show u) es rest), more_entries_back k u one two es rest h.2), byte_here 125 rest refl) in
    let whole : AtDict (At k) (At u) (dict (entries (e ∷ es))) (codes "dict" ++ (123 ∷ inner)) rest = (123 ∷ inner, inner, e ∷ es, dict_word (123 ∷ inner), byte_here 123 inner refl, closed, refl) in
    subst (λ (x : List ℕ). AtDict (At k) (At u) (dict (entries (e ∷ es))) x rest) (sym (dict_joined (show k) (show u) e es rest)) whole
  where
    dict_joined : (f g : Value → List ℕ) (e : Pairing) (es : List Pairing) (rest : List ℕ) → shown_entries f g (e ∷ es) ++ rest ≡ codes "dict" ++ (123 ∷ (f e.0 ++ (58 ∷ (g e.1 ++ (led_entries 44 f g es ++ (125 ∷ rest))))))
    dict_joined f g e es rest = simp append_assoc

dict_back : (k u : TypeTree) → Back k → Back u → Starts 125 k → Back (dict_of k u)
dict_back k u one two starts (number j x) rest h s = absurd h
dict_back k u one two starts (list us) rest h s = absurd h
dict_back k u one two starts (struct us) rest h s = absurd h
dict_back k u one two starts (dict es) rest h s =
    subst (λ (x : Entries). AtDict (At k) (At u) (dict x) (shown_entries (show k) (show u) (list_of_entries es) ++ rest) rest) (entries-list_of_entries es)
    (entries_back k u one two starts (list_of_entries es) rest (subst (AllEntriesAre (HasValue k) (HasValue u)) (sym (entries-list_of_entries es)) h.0))

entries_begin : (f g : Value → List ℕ) (es : List Pairing) → Begins 93 (shown_entries f g es)
entries_begin f g [] = record { byte = 100; more = codes "ict{}"; parts = refl; bare = refl; open_still = refl }
entries_begin f g (e ∷ es) = record { byte = 100; more = codes "ict" ++ led_entries 123 f g (e ∷ es) ++ codes "}"; parts = refl; bare = refl; open_still = refl }

dict_starts : (k u : TypeTree) → Starts 93 (dict_of k u)
dict_starts k u (number j x) h = absurd h
dict_starts k u (list us) h = absurd h
dict_starts k u (struct us) h = absurd h
dict_starts k u (dict es) h = entries_begin (show k) (show u) (list_of_entries es)

-- ---- all such types

starts_of : (t : TypeTree) → IsReadable t → Starts 93 t
starts_of (scalar kind) p = scalar_starts 93 (inl refl) kind
starts_of (vec t) p = vec_starts 93 (inl refl) t
starts_of (struct_of ts) p = struct_starts ts
starts_of (dict_of k u) p = dict_starts k u
starts_of (build b) p = absurd p

mutual
  at_back : BytesAreNumbers → (t : TypeTree) → IsReadable t → Back t
  at_back w (scalar kind) p = scalar_back_all kind
  at_back w (vec t) p = vec_back w t (at_back w t p) (starts_of t p)
  at_back w (struct_of ts) p = struct_back ts (fields_back w ts 123 refl p)
  at_back w (dict_of k u) p = dict_back k u (at_back w k (key_readable k p.0)) (at_back w u p.1) (key_starts k p.0)
  at_back w (build b) p = absurd p

  fields_back : BytesAreNumbers → (ts : TypeTrees) (lead : ℕ) → is_blank lead ≡ false → AreReadable ts → BackFields ts lead
  fields_back w no_types lead b p = none_back lead
  fields_back w (more_types t ts) lead b p = field_back t ts lead b (at_back w t p.0) (fields_back w ts 44 refl p.1)

-- ---- whole texts

-- all numbers are in range, and the entries of each dictionary stand in order
abbrev pub Good : Value → Type 0
Good v = IsInRange v × Settles v v

all_good : (P : Value → Type 0) → ((v : Value) → P v → Good v) → (us : Values) → AllAre P us → AreInRange us × SettleAll us us
all_good P good no_values h = (tt, refl)
all_good P good (and_value u us) h =
    let one = good u h.0 in
    let rest = all_good P good us h.1 in
    ((one.0, rest.0), (u, us, refl, one.1, rest.1))

scalar_good : (k : Kind) (v : Value) → HasValue (scalar k) v → Good v
scalar_good k (number j x) h = (subst (λ (i : Kind). InRange i x) (sym h.0) h.1, refl)
scalar_good k (list us) h = absurd h
scalar_good k (struct us) h = absurd h
scalar_good k (dict es) h = absurd h

vec_good : (t : TypeTree) → ((v : Value) → HasValue t v → Good v) → (v : Value) → HasValue (vec t) v → Good v
vec_good t good (number k x) h = absurd h
vec_good t good (list us) h = let g = all_good (HasValue t) good us h in (g.0, (us, refl, g.1))
vec_good t good (struct us) h = absurd h
vec_good t good (dict es) h = absurd h

struct_good : (ts : TypeTrees) → ((us : Values) → HaveValues ts us → AreInRange us × SettleAll us us) → (v : Value) → HasValue (struct_of ts) v → Good v
struct_good ts good (number k x) h = absurd h
struct_good ts good (list us) h = absurd h
struct_good ts good (struct us) h = let g = good us h in (g.0, (us, refl, g.1))
struct_good ts good (dict es) h = absurd h

none_good : (us : Values) → HaveValues no_types us → AreInRange us × SettleAll us us
none_good no_values h = (tt, refl)
none_good (and_value u us) h = absurd h

field_good : (t : TypeTree) (ts : TypeTrees) → ((v : Value) → HasValue t v → Good v) → ((us : Values) → HaveValues ts us → AreInRange us × SettleAll us us) → (us : Values) → HaveValues (more_types t ts) us → AreInRange us × SettleAll us us
field_good t ts one all no_values h = absurd h
field_good t ts one all (and_value u us) h =
    let first = one u h.0 in
    let rest = all us h.1 in
    ((first.0, rest.0), (u, us, refl, first.1, rest.1))

entries_good : (k u : TypeTree) → ((v : Value) → HasValue k v → Good v) → ((v : Value) → HasValue u v → Good v) → (es : Entries) → AllEntriesAre (HasValue k) (HasValue u) es → EntriesInRange es × SettleEntries es es
entries_good k u one two no_entries h = (tt, refl)
entries_good k u one two (and_entry a v es) h =
    let key = one a h.0 in
    let value = two v h.1 in
    let rest = entries_good k u one two es h.2 in
    ((key.0, value.0, rest.0), (v, es, refl, value.1, rest.1))

dict_good : (k u : TypeTree) → ((v : Value) → HasValue k v → Good v) → ((v : Value) → HasValue u v → Good v) → (v : Value) → HasValue (dict_of k u) v → Good v
dict_good k u one two (number j x) h = absurd h
dict_good k u one two (list us) h = absurd h
dict_good k u one two (struct us) h = absurd h
dict_good k u one two (dict es) h =
    let g = entries_good k u one two es h.0 in
    (g.0, (es, list_of_entries es, ap dict (sym (entries-list_of_entries es)), g.1, IsPermutation-refl (list_of_entries es), h.1))

mutual
  pub typed_good : (t : TypeTree) → IsReadable t → (v : Value) → HasValue t v → Good v
  typed_good (scalar kind) p = scalar_good kind
  typed_good (vec t) p = vec_good t (typed_good t p)
  typed_good (struct_of ts) p = struct_good ts (all_typed_good ts p)
  typed_good (dict_of k u) p = dict_good k u (typed_good k (key_readable k p.0)) (typed_good u p.1)
  typed_good (build b) p = absurd p

  all_typed_good : (ts : TypeTrees) → AreReadable ts → (us : Values) → HaveValues ts us → AreInRange us × SettleAll us us
  all_typed_good no_types p = none_good
  all_typed_good (more_types t ts) p = field_good t ts (typed_good t p.0) (all_typed_good ts p.1)

-- what is written of a value reads as it
pub written_reads_by : BytesAreNumbers → (t : TypeTree) (v : Value) → IsReadable t → HasValue t v → ReadsAs (show t v) t v
written_reads_by w t v p h = record {
  raw = v;
  spelled = record { rest = []; at = subst (λ (x : List ℕ). At t v x []) (append-nil (show t v)) (at_back w t p v [] h refl); ends = refl };
  in_range = (typed_good t p v h).0;
  settled = (typed_good t p v h).1;
}
