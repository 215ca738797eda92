-- A text spells at most one value; what it spells where no dictionary stands in the type stays as it is, and is of the type.
use Rattle.std.proofs.Common.{◌≡◌, inl, inr, sym, ◌∙◌, ℕ, List, [], ◌∷◌, Option, Some, None, refl, ap, subst, map, ℤ, pos, codes}
use Rattle.std.specs.Option.{option_map}
use Rattle.weld_data.specs.declared.kind.Kind.{Kind}
use Rattle.weld_data.specs.declared.kind.Kind.TheVariants as kinds
use Rattle.weld_data.specs.Value.{Value, Values, number, list, struct, dict, values, no_values, and_value}
use Rattle.weld_tree.specs.TypeTree.{TypeTree, TypeTrees, scalar, vec, struct as struct_of, dict as dict_of, build, no_types, more_types}
use Rattle.weld_tree.specs.HasValue.{HasValue, HaveValues, AllAre}
use Rattle.weld_values.specs.Tokens.{after_blanks, byte_at, after_word, integer_at}
use Rattle.weld_values.specs.Grammar.{Part, More, Listed, Enclosed, AtField, AtStruct, At, Fields, IsI8, or_else, truth_at, number_at, scalar_at}
use Rattle.weld_values.specs.Reading.{Spells, IsInRange, AreInRange, RepeatsKey, SomeRepeatsKey, Settles, SettleAll}
use Rattle.weld_values.specs.Judging.{IsPlain, ArePlain}
use Rattle.weld_values.proofs.Listings.{some_is, none_is}
use Rattle.weld_values.proofs.Shrinks.{map_some}
use Rattle.weld_values.proofs.Soles.{at_sole}
use Rattle.weld_values.proofs.Vectors.{i8_of}

-- no dictionary stands in the value
abbrev mutual
  pub NoDict : Value → Type 0
  NoDict (number k x) = Unit {0}
  NoDict (list vs) = NoDicts vs
  NoDict (struct vs) = NoDicts vs
  NoDict (dict es) = ⊥

  pub NoDicts : Values → Type 0
  NoDicts no_values = Unit {0}
  NoDicts (and_value v vs) = NoDict v × NoDicts vs

number_no_dict : (k : Kind) (text : List ℕ) (v : Value) (r : List ℕ) → number_at k text ≡ Some (v, r) → NoDict v
number_no_dict k text v r h =
    let m = map_some (λ (f : ℤ × List ℕ). (number k f.0, f.1)) (integer_at (after_blanks text)) (v, r) h in
    subst NoDict (ap (λ (p : Value × List ℕ). p.0) m.2) tt

truth_no_dict_by : (o p : Option (List ℕ)) (v : Value) (r : List ℕ) → or_else {A = Value × List ℕ} (option_map (λ rest. (number kinds.Bool (pos 1), rest)) o) (option_map (λ rest. (number kinds.Bool (pos 0), rest)) p) ≡ Some (v, r) → NoDict v
truth_no_dict_by (Some rest) p v r h = subst NoDict (ap (λ (q : Value × List ℕ). q.0) (some_is _ (v, r) h)) tt
truth_no_dict_by None (Some rest) v r h = subst NoDict (ap (λ (q : Value × List ℕ). q.0) (some_is _ (v, r) h)) tt
truth_no_dict_by None None v r h = absurd (none_is (v, r) h)

truth_no_dict : (text : List ℕ) (v : Value) (r : List ℕ) → truth_at text ≡ Some (v, r) → NoDict v
unfolding truth_at
truth_no_dict text v r h = truth_no_dict_by (after_word (codes "true") text) (after_word (codes "false") text) v r h

pub scalar_no_dict : (k : Kind) (text : List ℕ) (v : Value) (r : List ℕ) → scalar_at k text ≡ Some (v, r) → NoDict v
unfolding scalar_at
scalar_no_dict kinds.Bool text v r h = truth_no_dict (after_blanks text) v r h
scalar_no_dict kinds.I8 text v r h = number_no_dict kinds.I8 text v r h
scalar_no_dict kinds.I16 text v r h = number_no_dict kinds.I16 text v r h
scalar_no_dict kinds.I32 text v r h = number_no_dict kinds.I32 text v r h
scalar_no_dict kinds.I64 text v r h = number_no_dict kinds.I64 text v r h
scalar_no_dict kinds.U8 text v r h = number_no_dict kinds.U8 text v r h
scalar_no_dict kinds.U16 text v r h = number_no_dict kinds.U16 text v r h
scalar_no_dict kinds.U32 text v r h = number_no_dict kinds.U32 text v r h
scalar_no_dict kinds.U64 text v r h = number_no_dict kinds.U64 text v r h

abbrev Free : Part Value → Type 0
Free R = (v : Value) (text r : List ℕ) → R v text r → NoDict v

more_no_dict : (R : Part Value) → Free R → (vs : List Value) (text r : List ℕ) → More R vs text r → NoDicts (values vs)
more_no_dict R free [] text r h = tt
more_no_dict R free (v ∷ vs) text r (start, e, (mid, h, more)) = (free v start mid h, more_no_dict R free vs mid r more)

listed_no_dict : (R : Part Value) → Free R → (vs : List Value) (text r : List ℕ) → Listed R vs text r → NoDicts (values vs)
listed_no_dict R free [] text r h = tt
listed_no_dict R free (v ∷ vs) text r (mid, h, more) = (free v text mid h, more_no_dict R free vs mid r more)

enclosed_no_dict : (R : Part Value) → Free R → (c : ℕ) (o : Option (List ℕ)) (vs : List Value) (text r : List ℕ) → Enclosed R c o vs text r → NoDicts (values vs)
enclosed_no_dict R free c (Some after) vs text r h = subst (λ (x : List Value). NoDicts (values x)) (sym h.0) tt
enclosed_no_dict R free c None vs text r (end, h, b) = listed_no_dict R free vs text end h

pub bytes_no_dict : (bytes : List ℕ) → NoDicts (values (map i8_of bytes))
bytes_no_dict [] = tt
bytes_no_dict (b ∷ bytes) = (tt, bytes_no_dict bytes)

vec_no_dict : (t : TypeTree) → Free (At t) → Free (At (vec t))
vec_no_dict t free v text r (inl (inner, vs, b, h, e)) = subst NoDict (sym e) (enclosed_no_dict (At t) free 93 (byte_at 93 inner) vs inner r h)
vec_no_dict t free v text r (inr (i, (inner, bytes, b, h, e))) = subst NoDict (sym e) (bytes_no_dict bytes)

struct_no_dict : (R : Part Values) → ((vs : Values) (text r : List ℕ) → R vs text r → NoDicts vs) → Free (AtStruct R)
struct_no_dict R free v text r (vs, end, h, b, e) = subst NoDict (sym e) (free vs text end h)

field_no_dict : (lead : ℕ) (R : Part Value) (S : Part Values) → Free R → ((vs : Values) (text r : List ℕ) → S vs text r → NoDicts vs) → (vs : Values) (text r : List ℕ) → AtField lead R S vs text r → NoDicts vs
field_no_dict lead R S one more vs text r (v, ws, start, mid, e, b, h, m) = subst NoDicts (sym e) (one v start mid h, more ws mid r m)

mutual
  pub plain_no_dict : (t : TypeTree) → IsPlain t → Free (At t)
  plain_no_dict (scalar kind) p = λ v text r h. scalar_no_dict kind text v r h
  plain_no_dict (vec t) p = vec_no_dict t (plain_no_dict t p)
  plain_no_dict (struct_of ts) p = struct_no_dict (Fields ts 123) (plain_no_dicts ts 123 p)
  plain_no_dict (dict_of k v) p = absurd p
  plain_no_dict (build b) p = absurd p

  plain_no_dicts : (ts : TypeTrees) (lead : ℕ) → ArePlain ts → (vs : Values) (text r : List ℕ) → Fields ts lead vs text r → NoDicts vs
  plain_no_dicts no_types lead p = λ vs text r h. subst NoDicts (sym h.0) tt
  plain_no_dicts (more_types t ts) lead p = field_no_dict lead (At t) (Fields ts 44) (plain_no_dict t p.0) (plain_no_dicts ts 44 p.1)

mutual
  settles_same : (raw : Value) → NoDict raw → (v : Value) → Settles raw v → v ≡ raw
  settles_same (number k x) n v s = s
  settles_same (list vs) n v s = s.1 ∙ ap list (settle_same vs n s.0 s.2)
  settles_same (struct vs) n v s = s.1 ∙ ap struct (settle_same vs n s.0 s.2)
  settles_same (dict es) n v s = absurd n

  settle_same : (raws : Values) → NoDicts raws → (vs : Values) → SettleAll raws vs → vs ≡ raws
  settle_same no_values n vs s = s
  settle_same (and_value r raws) n vs s = s.2 ∙ ap (λ (x : Value). and_value x s.1) (settles_same r n.0 s.0 s.3) ∙ ap (and_value r) (settle_same raws n.1 s.1 s.4)

mutual
  no_repeat : (raw : Value) → NoDict raw → RepeatsKey raw → ⊥
  no_repeat (number k x) n h = h
  no_repeat (list vs) n h = no_repeats vs n h
  no_repeat (struct vs) n h = no_repeats vs n h
  no_repeat (dict es) n h = n

  no_repeats : (raws : Values) → NoDicts raws → SomeRepeatsKey raws → ⊥
  no_repeats no_values n h = h
  no_repeats (and_value r raws) n (inl h) = no_repeat r n.0 h
  no_repeats (and_value r raws) n (inr h) = no_repeats raws n.1 h

-- a value without dictionaries settles to itself, and no key repeats in it
pub plain_stays : (t : TypeTree) → IsPlain t → (raw : Value) (text r : List ℕ) → At t raw text r → (v : Value) → Settles raw v → v ≡ raw
plain_stays t p raw text r h v s = settles_same raw (plain_no_dict t p raw text r h) v s

pub plain_no_repeat : (t : TypeTree) → IsPlain t → (raw : Value) (text r : List ℕ) → At t raw text r → RepeatsKey raw → ⊥
plain_no_repeat t p raw text r h = no_repeat raw (plain_no_dict t p raw text r h)

-- a text is at most one value when ranges and equal keys are ignored
pub one_spelling : (text : List ℕ) (t : TypeTree) (v w : Value) → Spells text t v → Spells text t w → v ≡ w
one_spelling text t v w s u = (at_sole t v w text s.rest u.rest s.at u.at).0

-- ---- what reads is of the type

number_typed : (k : Kind) (text : List ℕ) (v : Value) (r : List ℕ) → number_at k text ≡ Some (v, r) → IsInRange v → HasValue (scalar k) v
number_typed k text v r h =
    let m = map_some (λ (f : ℤ × List ℕ). (number k f.0, f.1)) (integer_at (after_blanks text)) (v, r) h in
    subst (λ (w : Value). IsInRange w → HasValue (scalar k) w) (ap (λ (p : Value × List ℕ). p.0) m.2) (λ i. (refl, i))

truth_typed_by : (o p : Option (List ℕ)) (v : Value) (r : List ℕ) → or_else {A = Value × List ℕ} (option_map (λ rest. (number kinds.Bool (pos 1), rest)) o) (option_map (λ rest. (number kinds.Bool (pos 0), rest)) p) ≡ Some (v, r) → IsInRange v → HasValue (scalar kinds.Bool) v
truth_typed_by (Some rest) p v r h = subst (λ (w : Value). IsInRange w → HasValue (scalar kinds.Bool) w) (ap (λ (q : Value × List ℕ). q.0) (some_is _ (v, r) h)) (λ i. (refl, i))
truth_typed_by None (Some rest) v r h = subst (λ (w : Value). IsInRange w → HasValue (scalar kinds.Bool) w) (ap (λ (q : Value × List ℕ). q.0) (some_is _ (v, r) h)) (λ i. (refl, i))
truth_typed_by None None v r h = absurd (none_is (v, r) h)

truth_typed : (text : List ℕ) (v : Value) (r : List ℕ) → truth_at text ≡ Some (v, r) → IsInRange v → HasValue (scalar kinds.Bool) v
unfolding truth_at
truth_typed text v r h = truth_typed_by (after_word (codes "true") text) (after_word (codes "false") text) v r h

scalar_typed : (k : Kind) (text : List ℕ) (v : Value) (r : List ℕ) → scalar_at k text ≡ Some (v, r) → IsInRange v → HasValue (scalar k) v
unfolding scalar_at
scalar_typed kinds.Bool text v r h = truth_typed (after_blanks text) v r h
scalar_typed kinds.I8 text v r h = number_typed kinds.I8 text v r h
scalar_typed kinds.I16 text v r h = number_typed kinds.I16 text v r h
scalar_typed kinds.I32 text v r h = number_typed kinds.I32 text v r h
scalar_typed kinds.I64 text v r h = number_typed kinds.I64 text v r h
scalar_typed kinds.U8 text v r h = number_typed kinds.U8 text v r h
scalar_typed kinds.U16 text v r h = number_typed kinds.U16 text v r h
scalar_typed kinds.U32 text v r h = number_typed kinds.U32 text v r h
scalar_typed kinds.U64 text v r h = number_typed kinds.U64 text v r h

-- what such a part reads is such a value, if it is in range
abbrev Gives : Part Value → (Value → Type 0) → Type 0
Gives R P = (v : Value) (text r : List ℕ) → R v text r → IsInRange v → P v

more_typed : (R : Part Value) (P : Value → Type 0) → Gives R P → (vs : List Value) (text r : List ℕ) → More R vs text r → AreInRange (values vs) → AllAre P (values vs)
more_typed R P one [] text r h i = tt
more_typed R P one (v ∷ vs) text r (start, e, (mid, h, more)) i = (one v start mid h i.0, more_typed R P one vs mid r more i.1)

listed_typed : (R : Part Value) (P : Value → Type 0) → Gives R P → (vs : List Value) (text r : List ℕ) → Listed R vs text r → AreInRange (values vs) → AllAre P (values vs)
listed_typed R P one [] text r h i = tt
listed_typed R P one (v ∷ vs) text r (mid, h, more) i = (one v text mid h i.0, more_typed R P one vs mid r more i.1)

enclosed_typed : (R : Part Value) (P : Value → Type 0) → Gives R P → (c : ℕ) (o : Option (List ℕ)) (vs : List Value) (text r : List ℕ) → Enclosed R c o vs text r → AreInRange (values vs) → AllAre P (values vs)
enclosed_typed R P one c (Some after) vs text r h i = subst (λ (x : List Value). AllAre P (values x)) (sym h.0) tt
enclosed_typed R P one c None vs text r (end, h, b) i = listed_typed R P one vs text end h i

bytes_typed : (bytes : List ℕ) → AreInRange (values (map i8_of bytes)) → AllAre (HasValue (scalar kinds.I8)) (values (map i8_of bytes))
bytes_typed [] i = tt
bytes_typed (b ∷ bytes) i = ((refl, i.0), bytes_typed bytes i.1)

i8_back : (t : TypeTree) → IsI8 t → (vs : Values) → AllAre (HasValue (scalar kinds.I8)) vs → AllAre (HasValue t) vs
i8_back (scalar kinds.Bool) n vs h = absurd n
i8_back (scalar kinds.I8) n vs h = h
i8_back (scalar kinds.I16) n vs h = absurd n
i8_back (scalar kinds.I32) n vs h = absurd n
i8_back (scalar kinds.I64) n vs h = absurd n
i8_back (scalar kinds.U8) n vs h = absurd n
i8_back (scalar kinds.U16) n vs h = absurd n
i8_back (scalar kinds.U32) n vs h = absurd n
i8_back (scalar kinds.U64) n vs h = absurd n
i8_back (vec t) n vs h = absurd n
i8_back (struct_of ts) n vs h = absurd n
i8_back (dict_of k v) n vs h = absurd n
i8_back (build b) n vs h = absurd n

vec_typed : (t : TypeTree) → Gives (At t) (HasValue t) → Gives (At (vec t)) (HasValue (vec t))
vec_typed t one v text r (inl (inner, vs, b, h, e)) = subst (λ (w : Value). IsInRange w → HasValue (vec t) w) (sym e) (λ i. enclosed_typed (At t) (HasValue t) one 93 (byte_at 93 inner) vs inner r h i)
vec_typed t one v text r (inr (n, (inner, bytes, b, h, e))) = subst (λ (w : Value). IsInRange w → HasValue (vec t) w) (sym e) (λ i. i8_back t n (values (map i8_of bytes)) (bytes_typed bytes i))

abbrev GiveFields : Part Values → (Values → Type 0) → Type 0
GiveFields R P = (vs : Values) (text r : List ℕ) → R vs text r → AreInRange vs → P vs

struct_typed : (R : Part Values) (ts : TypeTrees) → GiveFields R (HaveValues ts) → Gives (AtStruct R) (HasValue (struct_of ts))
struct_typed R ts all v text r (vs, end, h, b, e) = subst (λ (w : Value). IsInRange w → HasValue (struct_of ts) w) (sym e) (λ i. all vs text end h i)

field_typed : (lead : ℕ) (t : TypeTree) (ts : TypeTrees) (S : Part Values) → Gives (At t) (HasValue t) → GiveFields S (HaveValues ts) → GiveFields (AtField lead (At t) S) (HaveValues (more_types t ts))
field_typed lead t ts S one all vs text r (v, ws, start, mid, e, b, h, m) = subst (λ (us : Values). AreInRange us → HaveValues (more_types t ts) us) (sym e) (λ i. (one v start mid h i.0, all ws mid r m i.1))

mutual
  at_typed : (t : TypeTree) → IsPlain t → Gives (At t) (HasValue t)
  at_typed (scalar kind) p = λ v text r h. scalar_typed kind text v r h
  at_typed (vec t) p = vec_typed t (at_typed t p)
  at_typed (struct_of ts) p = struct_typed (Fields ts 123) ts (fields_typed ts 123 p)
  at_typed (dict_of k v) p = absurd p
  at_typed (build b) p = absurd p

  fields_typed : (ts : TypeTrees) (lead : ℕ) → ArePlain ts → GiveFields (Fields ts lead) (HaveValues ts)
  fields_typed no_types lead p = λ vs text r h i. subst (HaveValues no_types) (sym h.0) tt
  fields_typed (more_types t ts) lead p = field_typed lead t ts (Fields ts 44) (at_typed t p.0) (fields_typed ts 44 p.1)

-- a value without dictionaries, settled
pub plain_typed : (t : TypeTree) → IsPlain t → (raw : Value) (text r : List ℕ) → At t raw text r → IsInRange raw → HasValue t raw
plain_typed t p raw text r h i = at_typed t p raw text r h i

pub plain_gives : (t : TypeTree) → IsPlain t → (raw : Value) (text r : List ℕ) → At t raw text r → IsInRange raw → (v : Value) → Settles raw v → HasValue t v
plain_gives t p raw text r h i v s = subst (HasValue t) (sym (plain_stays t p raw text r h v s)) (at_typed t p raw text r h i)
