-- The text of values, element by element and field by field.
use Rattle.std.proofs.Common.{◌≡◌, sym, ◌∙◌, ℕ, zero, suc, ◌+◌, ◌<◌, List, [], ◌∷◌, ◌++◌, length, drop, get_or, Some, None, refl, ap, subst, map, arith, add-one, codes, ℤ, append_assoc, append-nil, false, ◌==◌, ◌≤◌, Result, Ok, Err, OnOk}
use Rattle.std.specs.List.{slice_get}
use Rattle.std.proofs.Math.Seq.{drop-cons}
use Rattle.std.proofs.lemmas.Bool.{false≢true}
use Rattle.std.proofs.lemmas.List.{drop_all}
use Rattle.std.specs.Int.{w8, cast_unsigned}
use Rattle.weld_data.specs.declared.kind.Kind.{Kind}
use Rattle.weld_data.specs.declared.kind.Kind.TheVariants as kinds
use Rattle.weld_data.specs.Value.{Value, Values, number, list, struct, dict, values, list_of_values-values, entries, list_of_entries-entries}
use Rattle.weld_data.specs.Kind.{InRange}
use Rattle.weld_data.specs.Order.{IsNumber}
use Rattle.weld_tree.specs.TypeTree.{TypeTree, scalar, vec, struct as struct_of, dict as dict_of, build, pack}
use Rattle.weld_tree.specs.HasValue.{HasValue, HaveValues, AllAre, AllEntriesAre}
use Rattle.weld_write_value.specs.Showing.{IsI8}
use Rattle.weld_write_value.specs.Showing.{shown_scalar, led, shown_list, shown_byte, shown_item, strung, shown_elements, led_entries, shown_entries, show, show_fields}

pub some_is : {A : Type 0} (x y : A) → Some x ≡ Some y → x ≡ y
some_is x y e = cc

pub none_is : {A : Type 0} (x : A) → None ≡ Some x → ⊥
none_is x e = cc

-- a number of a type is shown as a scalar
pub number_shown : (t : TypeTree) (v : Value) → HasValue t v → IsNumber v → show t v ≡ shown_scalar v
number_shown (scalar k) v h n = refl
number_shown (vec t) (number k x) h n = absurd h
number_shown (vec t) (list vs) h n = absurd n
number_shown (vec t) (struct vs) h n = absurd n
number_shown (vec t) (dict es) h n = absurd n
number_shown (struct_of ts) (number k x) h n = absurd h
number_shown (struct_of ts) (list vs) h n = absurd n
number_shown (struct_of ts) (struct vs) h n = absurd n
number_shown (struct_of ts) (dict es) h n = absurd n
number_shown (dict_of t u) (number k x) h n = absurd h
number_shown (dict_of t u) (list vs) h n = absurd n
number_shown (dict_of t u) (struct vs) h n = absurd n
number_shown (dict_of t u) (dict es) h n = absurd n
number_shown (build b) v h n = absurd h

led_same : (t : TypeTree) (lead : ℕ) (vs : List Value) → AllAre (HasValue t) (values vs) → AllAre IsNumber (values vs) → led lead shown_scalar vs ≡ led lead (show t) vs
led_same t lead [] h n = refl
led_same t lead (v ∷ vs) h n = ap (λ (x : List ℕ). lead ∷ x ++ led 44 shown_scalar vs) (sym (number_shown t v h.0 n.0)) ∙ ap (λ (x : List ℕ). lead ∷ show t v ++ x) (led_same t 44 vs h.1 n.1)

list_same : (t : TypeTree) (vs : List Value) → AllAre (HasValue t) (values vs) → AllAre IsNumber (values vs) → shown_list shown_scalar vs ≡ shown_list (show t) vs
list_same t [] h n = refl
list_same t (v ∷ vs) h n = ap (λ (x : List ℕ). x ++ codes "]") (led_same t 91 (v ∷ vs) h n)

-- elements that are no numbers of kind i8 stand in brackets
pub bracketed : (t : TypeTree) (f : Value → List ℕ) (vs : List Value) → (IsI8 t → ⊥) → shown_elements t f vs ≡ shown_list f vs
bracketed (scalar kinds.Bool) f vs n = refl
bracketed (scalar kinds.I8) f vs n = absurd (n tt)
bracketed (scalar kinds.I16) f vs n = refl
bracketed (scalar kinds.I32) f vs n = refl
bracketed (scalar kinds.I64) f vs n = refl
bracketed (scalar kinds.U8) f vs n = refl
bracketed (scalar kinds.U16) f vs n = refl
bracketed (scalar kinds.U32) f vs n = refl
bracketed (scalar kinds.U64) f vs n = refl
bracketed (vec t) f vs n = refl
bracketed (struct_of ts) f vs n = refl
bracketed (dict_of k v) f vs n = refl
bracketed (build b) f vs n = refl

-- and those that are in quotes
pub quoted : (t : TypeTree) (f : Value → List ℕ) (vs : List Value) → IsI8 t → shown_elements t f vs ≡ codes "\"" ++ strung vs ++ codes "\""
quoted (scalar kinds.Bool) f vs n = absurd n
quoted (scalar kinds.I8) f vs n = refl
quoted (scalar kinds.I16) f vs n = absurd n
quoted (scalar kinds.I32) f vs n = absurd n
quoted (scalar kinds.I64) f vs n = absurd n
quoted (scalar kinds.U8) f vs n = absurd n
quoted (scalar kinds.U16) f vs n = absurd n
quoted (scalar kinds.U32) f vs n = absurd n
quoted (scalar kinds.U64) f vs n = absurd n
quoted (vec t) f vs n = absurd n
quoted (struct_of ts) f vs n = absurd n
quoted (dict_of k v) f vs n = absurd n
quoted (build b) f vs n = absurd n

all_numbers : {A : Type 0} (f : A → Value) → ((x : A) → IsNumber (f x)) → (xs : List A) → AllAre IsNumber (values (map f xs))
all_numbers f n [] = tt
all_numbers f n (x ∷ xs) = (n x, all_numbers f n xs)

pub cells_shown : {A : Type 0} (f : A → Value) → ((x : A) → IsNumber (f x)) → (t : TypeTree) (xs : List A) → (IsI8 t → ⊥) → AllAre (HasValue t) (values (map f xs)) → shown_list shown_scalar (map f xs) ≡ shown_elements t (show t) (map f xs)
cells_shown f n t xs i h = list_same t (map f xs) h (all_numbers f n xs) ∙ sym (bracketed t (show t) (map f xs) i)

pub i8_typed : (t : TypeTree) → IsI8 t → (vs : Values) → AllAre (HasValue t) vs → AllAre (HasValue (scalar kinds.I8)) vs
i8_typed (scalar kinds.Bool) n vs h = absurd n
i8_typed (scalar kinds.I8) n vs h = h
i8_typed (scalar kinds.I16) n vs h = absurd n
i8_typed (scalar kinds.I32) n vs h = absurd n
i8_typed (scalar kinds.I64) n vs h = absurd n
i8_typed (scalar kinds.U8) n vs h = absurd n
i8_typed (scalar kinds.U16) n vs h = absurd n
i8_typed (scalar kinds.U32) n vs h = absurd n
i8_typed (scalar kinds.U64) n vs h = absurd n
i8_typed (vec t) n vs h = absurd n
i8_typed (struct_of ts) n vs h = absurd n
i8_typed (dict_of k v) n vs h = absurd n
i8_typed (build b) n vs h = absurd n

-- what holds of all holds of the one at an index
pub all_at : (P : Value → Type 0) (vs : List Value) (i : ℕ) (d : Value) → i < length vs → AllAre P (values vs) → P (get_or vs i d)
all_at P [] i d l h = absurd (omega arith)
all_at P (v ∷ vs) zero d l h = h.0
all_at P (v ∷ vs) (suc i) d l h = all_at P vs i d (omega arith) h.1

-- a struct has as many values as fields
pub have_length : (ts : List TypeTree) (vs : List Value) → HaveValues (pack ts) (values vs) → length vs ≡ length ts
have_length [] [] h = refl
have_length [] (v ∷ vs) h = absurd h
have_length (t ∷ ts) [] h = absurd h
have_length (t ∷ ts) (v ∷ vs) h = omega (arith, have_length ts vs h.1)

-- the field at an index has its value
pub have_at : (ts : List TypeTree) (vs : List Value) (i : ℕ) (t : TypeTree) (d : Value) → i < length ts → HaveValues (pack ts) (values vs) → HasValue (get_or ts i t) (get_or vs i d)
have_at [] vs i t d l h = absurd (omega arith)
have_at (t ∷ ts) [] i u d l h = absurd h
have_at (t ∷ ts) (v ∷ vs) zero u d l h = h.0
have_at (t ∷ ts) (v ∷ vs) (suc i) u d l h = have_at ts vs i u d (omega arith) h.1

-- one field more is written
pub field_step : (ts : List TypeTree) (vs : List Value) (i lead : ℕ) (t : TypeTree) (d : Value) → i < length ts → length vs ≡ length ts → show_fields (pack (drop i ts)) lead (values (drop i vs)) ≡ (lead ∷ show (get_or ts i t) (get_or vs i d)) ++ show_fields (pack (drop (i + 1) ts)) 44 (values (drop (i + 1) vs))
field_step ts vs i lead t d h e =
    ap (λ (x : List TypeTree). show_fields (pack x) lead (values (drop i vs))) (drop-cons ts i t h)
    ∙ ap (λ (x : List Value). show_fields (pack (get_or ts i t ∷ drop (suc i) ts)) lead (values x)) (drop-cons vs i d (omega arith))
    ∙ ap (λ (k : ℕ). (lead ∷ show (get_or ts i t) (get_or vs i d)) ++ show_fields (pack (drop k ts)) 44 (values (drop k vs))) (sym (add-one i))

pub vec_shown : (t : TypeTree) (xs : List Value) → shown_elements t (show t) xs ≡ show (vec t) (list (values xs))
vec_shown t xs = ap (shown_elements t (show t)) (sym (list_of_values-values xs))

pub on_ok : {T E P Q : Type 0} (r : Result T E) → OnOk r P → (P → Q) → OnOk r Q
on_ok (Ok x) h f = f h
on_ok (Err e) h f = h

-- a number of kind i8 stands at each index
pub i8_at : (vs : List Value) (i : ℕ) → i < length vs → AllAre (HasValue (scalar kinds.I8)) (values vs) → (x : ℤ) × (slice_get vs i ≡ Some (number kinds.I8 x)) × InRange kinds.I8 x
i8_at [] i l h = absurd (omega arith)
i8_at (number k x ∷ vs) zero l h = (x, ap (λ (m : _). Some (number m x)) h.0.0, h.0.1)
i8_at (list us ∷ vs) zero l h = absurd h.0
i8_at (struct us ∷ vs) zero l h = absurd h.0
i8_at (dict es ∷ vs) zero l h = absurd h.0
i8_at (v ∷ vs) (suc i) l h = i8_at vs i (omega arith) h.1

pub at_index : (vs : List Value) (i : ℕ) (d x : Value) → i < length vs → slice_get vs i ≡ Some x → get_or vs i d ≡ x
at_index [] i d x l h = absurd (omega arith)
at_index (v ∷ vs) zero d x l h = cc
at_index (v ∷ vs) (suc i) d x l h = at_index vs i d x (omega arith) h

-- a byte, a text and what follows, appended one after another
pub appended : (out : List ℕ) (lead : ℕ) (text rest : List ℕ) → ((out ++ lead ∷ []) ++ text) ++ rest ≡ out ++ ((lead ∷ text) ++ rest)
appended out lead text rest = append_assoc (out ++ lead ∷ []) text rest ∙ append_assoc out (lead ∷ []) (text ++ rest)

-- a field more is written
pub field_written : (ts : List TypeTree) (vs : List Value) (i lead : ℕ) (t : TypeTree) (v : Value) (out pushed written whole : List ℕ) → i < length ts → length vs ≡ length ts → t ≡ get_or ts i t → slice_get vs i ≡ Some v → pushed ≡ out ++ lead ∷ [] → written ≡ pushed ++ show t v → out ++ show_fields (pack (drop i ts)) lead (values (drop i vs)) ≡ whole → written ++ show_fields (pack (drop (i + 1) ts)) 44 (values (drop (i + 1) vs)) ≡ whole
field_written ts vs i lead t v out pushed written whole l e it iv p w so =
    let rest = show_fields (pack (drop (i + 1) ts)) 44 (values (drop (i + 1) vs)) in
    ap (λ (x : List ℕ). x ++ rest) (w ∙ ap (λ (x : List ℕ). x ++ show t v) p)
    ∙ appended out lead (show t v) rest
    ∙ ap (λ (x : List ℕ). out ++ ((lead ∷ x) ++ rest)) (ap (λ (x : TypeTree). show x v) it ∙ ap (show (get_or ts i t)) (sym (at_index vs i v v (omega arith) iv)))
    ∙ ap (λ (x : List ℕ). out ++ x) (sym (field_step ts vs i lead t v l e))
    ∙ so

-- the requirements of the field's value
pub field_typed : (ts : List TypeTree) (vs : List Value) (i : ℕ) (t : TypeTree) (v : Value) → i < length ts → length vs ≡ length ts → t ≡ get_or ts i t → slice_get vs i ≡ Some v → HaveValues (pack ts) (values vs) → HasValue t v
field_typed ts vs i t v l e it iv h =
    subst (λ (x : TypeTree). HasValue x v) (sym it) (subst (HasValue (get_or ts i t)) (at_index vs i v v (omega arith) iv) (have_at ts vs i t v l h))

string_step : (vs : List Value) (i : ℕ) (v : Value) → i < length vs → slice_get vs i ≡ Some v → strung (drop i vs) ≡ shown_item v ++ strung (drop (i + 1) vs)
string_step vs i v l iv =
    ap strung (drop-cons vs i v l)
    ∙ ap (λ (y : Value). shown_item y ++ strung (drop (suc i) vs)) (at_index vs i v v l iv)
    ∙ ap (λ (k : ℕ). shown_item v ++ strung (drop k vs)) (sym (add-one i))

pub value_is : (j k : Kind) (x y : ℤ) → Some (number j x) ≡ Some (number k y) → x ≡ y
value_is j k x y h = cc

-- a number of a string more is written
pub number_written : (vs : List Value) (i : ℕ) (k : Kind) (x : ℤ) (b : ℕ) (out written whole : List ℕ) → i < length vs → slice_get vs i ≡ Some (number k x) → b ≡ cast_unsigned w8 x → written ≡ out ++ shown_byte b → out ++ strung (drop i vs) ≡ whole → written ++ strung (drop (i + 1) vs) ≡ whole
number_written vs i k x b out written whole l iv be w so =
    ap (λ (y : List ℕ). y ++ strung (drop (i + 1) vs)) (w ∙ ap (λ (y : ℕ). out ++ shown_byte y) be)
    ∙ append_assoc out (shown_byte (cast_unsigned w8 x)) (strung (drop (i + 1) vs))
    ∙ ap (λ (y : List ℕ). out ++ y) (sym (string_step vs i (number k x) l iv))
    ∙ so

-- ---- dictionaries

pub dict_shown : (k u : TypeTree) (es : List (Value × Value)) → shown_entries (show k) (show u) es ≡ show (dict_of k u) (dict (entries es))
dict_shown k u es = ap (shown_entries (show k) (show u)) (sym (list_of_entries-entries es))

pub entries_shown : (f g : Value → List ℕ) (es : List (Value × Value)) → 0 < length es → shown_entries f g es ≡ codes "dict" ++ led_entries 123 f g es ++ codes "}"
entries_shown f g [] h = absurd (omega arith)
entries_shown f g (e ∷ es) h = refl

pub entry_typed : (P Q : Value → Type 0) (es : List (Value × Value)) (i : ℕ) (e : Value × Value) → slice_get es i ≡ Some e → AllEntriesAre P Q (entries es) → P e.0 × Q e.1
entry_typed P Q [] i e s h = absurd (none_is e s)
entry_typed P Q (x ∷ es) zero e s h = (subst (λ (y : Value × Value). P y.0) (some_is x e s) h.0, subst (λ (y : Value × Value). Q y.1) (some_is x e s) h.1)
entry_typed P Q (x ∷ es) (suc i) e s h = entry_typed P Q es i e s h.2

entry_step : (f g : Value → List ℕ) (es : List (Value × Value)) (i lead : ℕ) (e : Value × Value) → slice_get es i ≡ Some e → led_entries lead f g (drop i es) ≡ lead ∷ f e.0 ++ codes ":" ++ g e.1 ++ led_entries 44 f g (drop (suc i) es)
entry_step f g [] i lead e s = absurd (none_is e s)
entry_step f g (x ∷ es) zero lead e s = ap (λ (y : Value × Value). lead ∷ f y.0 ++ codes ":" ++ g y.1 ++ led_entries 44 f g es) (some_is x e s)
entry_step f g (x ∷ es) (suc i) lead e s = entry_step f g es i lead e s

entry_appended : (out : List ℕ) (lead : ℕ) (a b rest : List ℕ) → ((((out ++ lead ∷ []) ++ a) ++ 58 ∷ []) ++ b) ++ rest ≡ out ++ (lead ∷ a ++ codes ":" ++ b ++ rest)
entry_appended out lead a b rest = simp append_assoc

pub entry_written : (f g : Value → List ℕ) (es : List (Value × Value)) (i lead : ℕ) (e : Value × Value) (out led_out keyed colon written whole : List ℕ) → slice_get es i ≡ Some e → led_out ≡ out ++ lead ∷ [] → keyed ≡ led_out ++ f e.0 → colon ≡ keyed ++ 58 ∷ [] → written ≡ colon ++ g e.1 → out ++ led_entries lead f g (drop i es) ≡ whole → written ++ led_entries 44 f g (drop (i + 1) es) ≡ whole
entry_written f g es i lead e out led_out keyed colon written whole s p q r w so =
    let rest = led_entries 44 f g (drop (i + 1) es) in
    ap (λ (x : List ℕ). x ++ rest) (w ∙ ap (λ (x : List ℕ). x ++ g e.1) (r ∙ ap (λ (x : List ℕ). x ++ 58 ∷ []) (q ∙ ap (λ (x : List ℕ). x ++ f e.0) p)))
    ∙ entry_appended out lead (f e.0) (g e.1) rest
    ∙ ap (λ (x : List ℕ). out ++ x) (sym (entry_step f g es i lead e s ∙ ap (λ (k : ℕ). lead ∷ f e.0 ++ codes ":" ++ g e.1 ++ led_entries 44 f g (drop k es)) (sym (add-one i))))
    ∙ so

dict_joined : (before led_text : List ℕ) → ((before ++ codes "dict") ++ led_text) ++ codes "}" ≡ before ++ (codes "dict" ++ led_text ++ codes "}")
dict_joined before led_text = simp append_assoc

some_entries : (es : List (Value × Value)) → (length es == 0) ≡ false → 0 < length es
some_entries [] h = absurd (false≢true (sym h))
some_entries (e ∷ es) h = omega arith

pub dict_end : (f g : Value → List ℕ) (es : List (Value × Value)) (i lead : ℕ) (out start before written : List ℕ) → length es ≤ i → (length es == 0) ≡ false → start ≡ before ++ codes "dict" → out ++ led_entries lead f g (drop i es) ≡ start ++ led_entries 123 f g es → written ≡ out ++ 125 ∷ [] → written ≡ before ++ shown_entries f g es
dict_end f g es i lead out start before written over some s so w =
    let out-is : out ≡ start ++ led_entries 123 f g es = sym (append-nil out) ∙ ap (λ (x : List (Value × Value)). out ++ led_entries lead f g x) (sym (drop_all i es over)) ∙ so in
    w ∙ ap (λ (x : List ℕ). x ++ 125 ∷ []) (out-is ∙ ap (λ (x : List ℕ). x ++ led_entries 123 f g es) s)
    ∙ dict_joined before (led_entries 123 f g es)
    ∙ ap (λ (x : List ℕ). before ++ x) (sym (entries_shown f g es (some_entries es some)))
