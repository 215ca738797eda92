-- What is spelled as a value of a type that keys may have is a key of one key type.
use Rattle.std.proofs.Common.{◌≡◌, inl, inr, sym, ℕ, ℤ, pos, codes, List, [], ◌∷◌, map, Option, Some, None, refl, ap, subst, All}
use Rattle.std.specs.Option.{option_map}
use Rattle.weld_data.specs.declared.kind.Kind.{Kind}
use Rattle.weld_data.specs.declared.kind.Kind.TheVariants as kinds
use Rattle.weld_data.specs.Value.{Value, Values, number, and_value, values}
use Rattle.weld_data.specs.Order.{AreNumbers, FieldType, number_of, list_of, KeyType, one_field, fields, HasFieldType, HaveFieldTypes, HasKeyType}
use Rattle.weld_tree.specs.TypeTree.{TypeTree, TypeTrees, scalar, vec, struct as struct_of, dict as dict_of, build, no_types, more_types}
use Rattle.weld_tree.specs.Types.{IsKey, IsKeyField, AreKeyFields}
use Rattle.weld_sorted.specs.Repeats.{HaveOneKeyType}
use Rattle.weld_values.specs.Tokens.{after_blanks, after_word, byte_at, integer_at}
use Rattle.weld_values.specs.Grammar.{At, Fields, More, Listed, Enclosed, IsI8, scalar_at, truth_at, or_else}
use Rattle.weld_values.specs.Judging.{IsPlain, ArePlain, IsReadable, AreReadable, IsSpelled}
use Rattle.weld_values.proofs.Listings.{some_is, none_is}
use Rattle.weld_values.proofs.Vectors.{i8_of}

abbrev IsOf : Kind → Value → Type 0
IsOf k v = HasFieldType (number_of k) v

number_kind : (k : Kind) (found : Option (ℤ × List ℕ)) (v : Value) (r : List ℕ) → option_map {U = Value × List ℕ} (λ (f : ℤ × List ℕ). (number k f.0, f.1)) found ≡ Some (v, r) → IsOf k v
number_kind k None v r h = absurd (none_is (v, r) h)
number_kind k (Some f) v r h = subst (IsOf k) (ap (λ (q : Value × List ℕ). q.0) (some_is (number k f.0, f.1) (v, r) h)) refl

truth_kind_by : (o p : Option (List ℕ)) (v : Value) (r : List ℕ) → or_else {A = Value × List ℕ} (option_map (λ rest. (number kinds.Bool (pos 1), rest)) o) (option_map (λ rest. (number kinds.Bool (pos 0), rest)) p) ≡ Some (v, r) → IsOf kinds.Bool v
truth_kind_by (Some rest) p v r h = subst (IsOf kinds.Bool) (ap (λ (q : Value × List ℕ). q.0) (some_is _ (v, r) h)) refl
truth_kind_by None (Some rest) v r h = subst (IsOf kinds.Bool) (ap (λ (q : Value × List ℕ). q.0) (some_is _ (v, r) h)) refl
truth_kind_by None None v r h = absurd (none_is (v, r) h)

truth_kind : (text : List ℕ) (v : Value) (r : List ℕ) → truth_at text ≡ Some (v, r) → IsOf kinds.Bool v
unfolding truth_at
truth_kind text v r h = truth_kind_by (after_word (codes "true") text) (after_word (codes "false") text) v r h

scalar_kind : (k : Kind) (text : List ℕ) (v : Value) (r : List ℕ) → scalar_at k text ≡ Some (v, r) → IsOf k v
unfolding scalar_at
scalar_kind kinds.Bool text v r h = truth_kind (after_blanks text) v r h
scalar_kind kinds.I8 text v r h = number_kind kinds.I8 (integer_at (after_blanks text)) v r h
scalar_kind kinds.I16 text v r h = number_kind kinds.I16 (integer_at (after_blanks text)) v r h
scalar_kind kinds.I32 text v r h = number_kind kinds.I32 (integer_at (after_blanks text)) v r h
scalar_kind kinds.I64 text v r h = number_kind kinds.I64 (integer_at (after_blanks text)) v r h
scalar_kind kinds.U8 text v r h = number_kind kinds.U8 (integer_at (after_blanks text)) v r h
scalar_kind kinds.U16 text v r h = number_kind kinds.U16 (integer_at (after_blanks text)) v r h
scalar_kind kinds.U32 text v r h = number_kind kinds.U32 (integer_at (after_blanks text)) v r h
scalar_kind kinds.U64 text v r h = number_kind kinds.U64 (integer_at (after_blanks text)) v r h

numbers_push : (k : Kind) (v : Value) (vs : Values) → IsOf k v → AreNumbers k vs → AreNumbers k (and_value v vs)
numbers_push k (number m x) vs h n = (h, n)
numbers_push k _ vs h n = absurd h

more_kind : (k : Kind) (vs : List Value) (text r : List ℕ) → More (At (scalar k)) vs text r → AreNumbers k (values vs)
more_kind k [] text r h = tt
more_kind k (v ∷ vs) text r (start, e, (mid, h, more)) = numbers_push k v (values vs) (scalar_kind k start v mid h) (more_kind k vs mid r more)

listed_kind : (k : Kind) (vs : List Value) (text r : List ℕ) → Listed (At (scalar k)) vs text r → AreNumbers k (values vs)
listed_kind k [] text r h = tt
listed_kind k (v ∷ vs) text r (mid, h, more) = numbers_push k v (values vs) (scalar_kind k text v mid h) (more_kind k vs mid r more)

enclosed_kind : (k : Kind) (c : ℕ) (o : Option (List ℕ)) (vs : List Value) (text r : List ℕ) → Enclosed (At (scalar k)) c o vs text r → AreNumbers k (values vs)
enclosed_kind k c (Some after) vs text r h = subst (λ (x : List Value). AreNumbers k (values x)) (sym h.0) tt
enclosed_kind k c None vs text r (end, h, b) = listed_kind k vs text end h

bytes_kind : (bytes : List ℕ) → AreNumbers kinds.I8 (values (map i8_of bytes))
bytes_kind [] = tt
bytes_kind (b ∷ bytes) = (refl, bytes_kind bytes)

i8_kind : (k : Kind) → IsI8 (scalar k) → (vs : Values) → AreNumbers kinds.I8 vs → AreNumbers k vs
i8_kind kinds.Bool n vs h = absurd n
i8_kind kinds.I8 n vs h = h
i8_kind kinds.I16 n vs h = absurd n
i8_kind kinds.I32 n vs h = absurd n
i8_kind kinds.I64 n vs h = absurd n
i8_kind kinds.U8 n vs h = absurd n
i8_kind kinds.U16 n vs h = absurd n
i8_kind kinds.U32 n vs h = absurd n
i8_kind kinds.U64 n vs h = absurd n

vec_kind : (k : Kind) (v : Value) (text r : List ℕ) → At (vec (scalar k)) v text r → HasFieldType (list_of k) v
vec_kind k v text r (inl (inner, vs, b, h, e)) = subst (HasFieldType (list_of k)) (sym e) (enclosed_kind k 93 (byte_at 93 inner) vs inner r h)
vec_kind k v text r (inr (i, (inner, bytes, b, h, e))) = subst (HasFieldType (list_of k)) (sym e) (i8_kind k i (values (map i8_of bytes)) (bytes_kind bytes))

abbrev item_type : TypeTree → FieldType
item_type (scalar k) = list_of k
item_type (vec t) = number_of kinds.Bool
item_type (struct_of ts) = number_of kinds.Bool
item_type (dict_of k v) = number_of kinds.Bool
item_type (build b) = number_of kinds.Bool

abbrev field_type : TypeTree → FieldType
field_type (scalar k) = number_of k
field_type (vec t) = item_type t
field_type (struct_of ts) = number_of kinds.Bool
field_type (dict_of k v) = number_of kinds.Bool
field_type (build b) = number_of kinds.Bool

abbrev field_types : TypeTrees → List FieldType
field_types no_types = []
field_types (more_types t ts) = field_type t ∷ field_types ts

field_fits : (t : TypeTree) → IsKeyField t → (v : Value) (text r : List ℕ) → At t v text r → HasFieldType (field_type t) v
field_fits (scalar k) p v text r h = scalar_kind k text v r h
field_fits (vec (scalar k)) p v text r h = vec_kind k v text r h
field_fits (vec (vec t)) p v text r h = absurd p
field_fits (vec (struct_of ts)) p v text r h = absurd p
field_fits (vec (dict_of k t)) p v text r h = absurd p
field_fits (vec (build b)) p v text r h = absurd p
field_fits (struct_of ts) p v text r h = absurd p
field_fits (dict_of k t) p v text r h = absurd p
field_fits (build b) p v text r h = absurd p

fields_fit : (ts : TypeTrees) (lead : ℕ) → AreKeyFields ts → (vs : Values) (text r : List ℕ) → Fields ts lead vs text r → HaveFieldTypes (field_types ts) vs
fields_fit no_types lead p vs text r h = subst (HaveFieldTypes []) (sym h.0) tt
fields_fit (more_types t ts) lead p vs text r (v, ws, start, mid, e, b, h, m) =
    subst (HaveFieldTypes (field_type t ∷ field_types ts)) (sym e) (field_fits t p.0 v start mid h, fields_fit ts 44 p.1 ws mid r m)

key_fits : (t : TypeTree) → IsKey t → (kt : KeyType) × ((v : Value) (text r : List ℕ) → At t v text r → HasKeyType kt v)
key_fits (scalar k) p = (one_field (number_of k), field_fits (scalar k) p)
key_fits (vec t) p = (one_field (field_type (vec t)), field_fits (vec t) p)
key_fits (struct_of no_types) p = absurd p.0
key_fits (struct_of (more_types t ts)) p = (fields (field_type t) (field_types ts), λ v text r h. subst (HasKeyType (fields (field_type t) (field_types ts))) (sym h.4) (fields_fit (more_types t ts) 123 p.1 h.0 text h.1 h.2))
key_fits (dict_of k v) p = absurd p
key_fits (build b) p = absurd p

pub one_key_type : (t : TypeTree) → IsKey t → (es : List (Value × Value)) → All (λ (e : Value × Value). IsSpelled t e.0) es → HaveOneKeyType es
one_key_type t p es all = let fits = key_fits t p in (fits.0, λ k d h. let s = all k d h in fits.1 _ s.0 s.1 s.2)

pub key_is : (t : TypeTree) → IsKey t → (v : Value) → IsSpelled t v → (kt : KeyType) × HasKeyType kt v
key_is t p v s = let fits = key_fits t p in (fits.0, fits.1 v s.0 s.1 s.2)

-- ---- such types are plain

field_plain : (t : TypeTree) → IsKeyField t → IsPlain t
field_plain (scalar k) p = tt
field_plain (vec (scalar k)) p = tt
field_plain (vec (vec t)) p = absurd p
field_plain (vec (struct_of ts)) p = absurd p
field_plain (vec (dict_of k t)) p = absurd p
field_plain (vec (build b)) p = absurd p
field_plain (struct_of ts) p = absurd p
field_plain (dict_of k t) p = absurd p
field_plain (build b) p = absurd p

fields_plain : (ts : TypeTrees) → AreKeyFields ts → ArePlain ts
fields_plain no_types p = tt
fields_plain (more_types t ts) p = (field_plain t p.0, fields_plain ts p.1)

pub key_plain : (t : TypeTree) → IsKey t → IsPlain t
key_plain (scalar k) p = tt
key_plain (vec t) p = field_plain (vec t) p
key_plain (struct_of ts) p = fields_plain ts p.1
key_plain (dict_of k v) p = absurd p
key_plain (build b) p = absurd p

mutual
  pub plain_readable : (t : TypeTree) → IsPlain t → IsReadable t
  plain_readable (scalar k) p = tt
  plain_readable (vec t) p = plain_readable t p
  plain_readable (struct_of ts) p = plain_all_readable ts p
  plain_readable (dict_of k v) p = absurd p
  plain_readable (build b) p = absurd p

  plain_all_readable : (ts : TypeTrees) → ArePlain ts → AreReadable ts
  plain_all_readable no_types p = tt
  plain_all_readable (more_types t ts) p = (plain_readable t p.0, plain_all_readable ts p.1)

pub key_readable : (t : TypeTree) → IsKey t → IsReadable t
key_readable t p = plain_readable t (key_plain t p)
