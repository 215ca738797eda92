-- Structs whose numbers stand one after another.
use Rattle.std.proofs.Common.{◌≡◌, ℕ, zero, suc, ◌+◌, ◌*◌, ◌<◌, ◌≤◌, ℤ, List, [], ◌∷◌, ◌++◌, length, drop, map, slice_get, slice_index_or, Option, Some, refl, sym, ap, subst, ◌∙◌, arith, w64, of_z, to_z}
use Rattle.std.proofs.lemmas.List.{drop-drop, append-nil, length-map}
use Rattle.std.proofs.lemmas.Int.{to_z-of_z}
use Rattle.std.proofs.Math.Nat.{suc-mul}
use Rattle.weld_data.proofs.Ranges.{FitsSigned-kind}
use Rattle.weld_data.specs.declared.kind.Kind.{Kind}
use Rattle.weld_data.specs.declared.num.Num.{Num}
use Rattle.weld_data.specs.Kind.{InRange, IsNarrow}
use Rattle.weld_data.specs.Value.{Value, number, list, struct, dict, and_value, values, list_of_values, values-list_of_values}
use Rattle.weld_data.specs.Structs.{fields_in, structs_in, AreFields, AreStructs, AreKeptStructs, FieldAnswer, FitKinds, HasStructAt, StandsAt, value_there, kinds_of, numbers_of}

-- fields that fit, before further numbers
pub record AreTaken (ks : List Kind) (vs : List Value) (ys : List ℤ) : Type 0 where
  pub are : AreFields ks (numbers_of vs ++ ys)
  pub fields : fields_in ks (numbers_of vs ++ ys) ≡ values vs
  pub rest : drop (length ks) (numbers_of vs ++ ys) ≡ ys
  pub long : length (numbers_of vs) ≡ length ks

pub fit_taken : (ks : List Kind) (vs : List Value) (ys : List ℤ) → FitKinds ks vs → AreTaken ks vs ys
fit_taken [] [] ys h = record { are = tt; fields = refl; rest = refl; long = refl }
fit_taken [] (v ∷ vs) ys h = absurd h
fit_taken (k ∷ ks) [] ys h = absurd h
fit_taken (k ∷ ks) (number j x ∷ vs) ys h =
    let t = fit_taken ks vs ys h.3 in
    record {
      are = (h.1, h.2, t.are);
      fields = ap (and_value (number k x)) t.fields ∙ ap (λ m. and_value (number m x) (values vs)) (sym h.0);
      rest = t.rest;
      long = ap suc t.long;
    }
fit_taken (k ∷ ks) (list us ∷ vs) ys h = absurd h
fit_taken (k ∷ ks) (struct us ∷ vs) ys h = absurd h
fit_taken (k ∷ ks) (dict es ∷ vs) ys h = absurd h

-- fields before further numbers
pub record AreBefore (ks : List Kind) (xs ys : List ℤ) : Type 0 where
  pub are : AreFields ks (xs ++ ys)
  pub fields : fields_in ks (xs ++ ys) ≡ fields_in ks xs
  pub rest : drop (length ks) (xs ++ ys) ≡ drop (length ks) xs ++ ys

pub fields_before : (ks : List Kind) (xs ys : List ℤ) → AreFields ks xs → AreBefore ks xs ys
fields_before [] xs ys h = record { are = tt; fields = refl; rest = refl }
fields_before (k ∷ ks) [] ys h = absurd h
fields_before (k ∷ ks) (x ∷ xs) ys h =
    let t = fields_before ks xs ys h.2 in
    record { are = (h.0, h.1, t.are); fields = ap (and_value (number k x)) t.fields; rest = t.rest }

-- structs before further ones, so many in all
pub record AreJoined (p n m : ℕ) (ks : List Kind) (xs ys : List ℤ) : Type 0 where
  pub are : AreStructs p ks (xs ++ ys)
  pub structs : structs_in p ks (xs ++ ys) ≡ structs_in n ks xs ++ structs_in m ks ys

pub structs_joined : (p n m : ℕ) (ks : List Kind) (xs ys : List ℤ) → p ≡ n + m → AreStructs n ks xs → AreStructs m ks ys → AreJoined p n m ks xs ys
structs_joined p zero m ks xs ys e h g =
    let same : m ≡ p = omega (arith, e) in
    subst (λ q. AreJoined q zero m ks xs ys) same (record {
      are = subst (λ (zs : List ℤ). AreStructs m ks (zs ++ ys)) (sym h) g;
      structs = ap (λ zs. structs_in m ks (zs ++ ys)) h;
    })
structs_joined zero (suc n) m ks xs ys e h g = absurd (omega (arith, e))
structs_joined (suc p) (suc n) m ks xs ys e h g =
    let b = fields_before ks xs ys h.0 in
    let t = structs_joined p n m ks (drop (length ks) xs) ys (omega (arith, e)) h.1 g in
    record {
      are = (b.are, subst (AreStructs p ks) (sym b.rest) t.are);
      structs = ap (λ fs. struct fs ∷ structs_in p ks (drop (length ks) (xs ++ ys))) b.fields
          ∙ ap (λ zs. struct (fields_in ks xs) ∷ structs_in p ks zs) b.rest
          ∙ ap (λ vs. struct (fields_in ks xs) ∷ vs) t.structs;
    }

-- one struct alone
pub one_struct : (ks : List Kind) (vs : List Value) → FitKinds ks vs → AreStructs 1 ks (numbers_of vs)
one_struct ks vs h =
    let t = fit_taken ks vs [] h in
    let same : numbers_of vs ++ [] ≡ numbers_of vs = append-nil (numbers_of vs) in
    subst (AreStructs 1 ks) same (t.are, t.rest)

pub one_struct_is : (ks : List Kind) (vs : List Value) → FitKinds ks vs → structs_in 1 ks (numbers_of vs) ≡ struct (values vs) ∷ []
one_struct_is ks vs h =
    let t = fit_taken ks vs [] h in
    let same : numbers_of vs ++ [] ≡ numbers_of vs = append-nil (numbers_of vs) in
    ap (λ xs. structs_in 1 ks xs) (sym same) ∙ ap (λ fs. struct fs ∷ []) t.fields

-- each struct has a number at least
pub count_within : (n : ℕ) (ks : List Kind) (xs : List ℤ) → 0 < length ks → AreStructs n ks xs → n ≤ length xs
count_within zero ks xs some h = omega arith
count_within (suc n) ks xs some h =
    let rest = count_within n ks (drop (length ks) xs) some h.1 in
    let long = fields_long ks xs h.0 in
    omega (arith, rest, long, some)
  where
    fields_long : (ks : List Kind) (xs : List ℤ) → AreFields ks xs → length xs ≡ length ks + length (drop (length ks) xs)
    fields_long [] xs h = omega arith
    fields_long (k ∷ ks) [] h = absurd h
    fields_long (k ∷ ks) (x ∷ xs) h = let t = fields_long ks xs h.2 in omega (arith, t)

pub counted : (n : ℕ) (ks : List Kind) (xs : List ℤ) → length (structs_in n ks xs) ≡ n
counted zero ks xs = refl
counted (suc n) ks xs = ap suc (counted n ks (drop (length ks) xs))

-- ---- the struct of a place

pub fields_within : (ks : List Kind) (xs : List ℤ) → AreFields ks xs → length ks ≤ length xs
fields_within [] xs h = omega arith
fields_within (k ∷ ks) [] h = absurd h
fields_within (k ∷ ks) (x ∷ xs) h = let t = fields_within ks xs h.2 in omega (arith, t)

drop_drop : (a b c : ℕ) (xs : List ℤ) → c ≡ a + b → drop b (drop a xs) ≡ drop c xs
drop_drop a b c xs e = drop-drop b a xs ∙ ap (λ m. drop m xs) (sym e)

longer : (a b : ℕ) (xs : List ℤ) → a ≤ length xs → b ≤ length (drop a xs) → a + b ≤ length xs
longer zero b xs h g = omega (arith, g)
longer (suc a) b [] h g = absurd (omega (arith, h))
longer (suc a) b (x ∷ xs) h g = let t = longer a b xs (omega (arith, h)) g in omega (arith, t)

pub stands_at : (n place : ℕ) (ks : List Kind) (xs : List ℤ) → AreStructs n ks xs → place < n → StandsAt n place ks xs (place * length ks)
stands_at zero place ks xs h less = absurd (omega (arith, less))
stands_at (suc n) zero ks xs h less =
    let none : 0 ≡ zero * length ks = omega arith in
    subst (λ m. StandsAt (suc n) zero ks xs m) none (record { are = h.0; within = (let w = fields_within ks xs h.0 in omega (arith, w)); at = refl })
stands_at (suc n) (suc place) ks xs h less =
    let t = stands_at n place ks (drop (length ks) xs) h.1 (omega (arith, less)) in
    let step : suc place * length ks ≡ length ks + place * length ks = omega (arith, suc-mul place (length ks)) in
    let same = drop_drop (length ks) (place * length ks) (suc place * length ks) xs step in
    let first = fields_within ks xs h.0 in
    let long = longer (length ks) (place * length ks + length ks) xs first t.within in
    record {
      are = subst (AreFields ks) same t.are;
      within = omega (arith, long, step);
      at = t.at ∙ ap (λ ys. Some (struct (fields_in ks ys))) same;
    }

pub field_stands : (n place : ℕ) (ks : List Kind) (xs : List ℤ) (from field : ℕ) (r : Option Num) → StandsAt n place ks xs from → FieldAnswer r field (struct (fields_in ks (drop from xs))) → FieldAnswer r field (value_there (slice_get (structs_in n ks xs) place))
field_stands n place ks xs from field r h g = subst (FieldAnswer r field) (sym (ap value_there h.at)) g

-- the number of a field, and its kind
pub field_ranges : (ks : List Kind) (xs : List ℤ) (field : ℕ) (d : Kind) (e : ℤ) → AreFields ks xs → field < length ks → IsNarrow (slice_index_or ks field d) × InRange (slice_index_or ks field d) (slice_index_or xs field e)
field_ranges [] xs field d e h less = absurd (omega (arith, less))
field_ranges (j ∷ ks) [] field d e h less = absurd h
field_ranges (j ∷ ks) (y ∷ xs) zero d e h less = (h.0, h.1)
field_ranges (j ∷ ks) (y ∷ xs) (suc field) d e h less = field_ranges ks xs field d e h.2 (omega (arith, less))

pub field_is : (ks : List Kind) (xs : List ℤ) (field : ℕ) (d : Kind) (e : ℤ) → AreFields ks xs → field < length ks → slice_get (list_of_values (fields_in ks xs)) field ≡ Some (number (slice_index_or ks field d) (slice_index_or xs field e))
field_is [] xs field d e h less = absurd (omega (arith, less))
field_is (j ∷ ks) [] field d e h less = absurd h
field_is (j ∷ ks) (y ∷ xs) zero d e h less = refl
field_is (j ∷ ks) (y ∷ xs) (suc field) d e h less = field_is ks xs field d e h.2 (omega (arith, less))

-- such a number is read back from its bits
pub field_bits : (ks : List Kind) (xs : List ℤ) (field : ℕ) (d : Kind) (e : ℤ) → AreFields ks xs → field < length ks → to_z w64 (of_z w64 (slice_index_or xs field e)) ≡ slice_index_or xs field e
field_bits ks xs field d e h less =
    let r = field_ranges ks xs field d e h less in
    to_z-of_z w64 (slice_index_or xs field e) (FitsSigned-kind (slice_index_or ks field d) (slice_index_or xs field e) r.0 r.1)

pub fields_many : (ks : List Kind) (xs : List ℤ) → AreFields ks xs → length (list_of_values (fields_in ks xs)) ≡ length ks
fields_many [] xs h = refl
fields_many (k ∷ ks) [] h = absurd h
fields_many (k ∷ ks) (x ∷ xs) h = ap suc (fields_many ks xs h.2)

pub value_stands : (vs : List Value) (place : ℕ) → place < length vs → slice_get vs place ≡ Some (value_there (slice_get vs place))
value_stands [] place less = absurd (omega (arith, less))
value_stands (v ∷ vs) zero less = refl
value_stands (v ∷ vs) (suc place) less = value_stands vs place (omega (arith, less))

pub value_is : (vs : List Value) (place : ℕ) (v : Value) → slice_get vs place ≡ Some v → v ≡ value_there (slice_get vs place)
value_is vs place v e = sym (ap value_there e)

pub struct_stands : (n place : ℕ) (ks : List Kind) (xs : List ℤ) → place < length (structs_in n ks xs) → HasStructAt (structs_in n ks xs) place
struct_stands zero place ks xs less = absurd (omega (arith, less))
struct_stands (suc n) zero ks xs less = record { fields = fields_in ks xs; at = refl }
struct_stands (suc n) (suc place) ks xs less =
    let t = struct_stands n place ks (drop (length ks) xs) (omega (arith, less)) in
    record { fields = t.fields; at = t.at }

-- the values of all fields are the struct
pub fields_are : (n place : ℕ) (ks : List Kind) (xs : List ℤ) (from : ℕ) (vs : List Value) → StandsAt n place ks xs from → vs ≡ list_of_values (fields_in ks (drop from xs)) → slice_get (structs_in n ks xs) place ≡ Some (struct (values vs))
fields_are n place ks xs from vs h e = h.at ∙ ap (λ fs. Some (struct fs)) (sym (values-list_of_values (fields_in ks (drop from xs))) ∙ ap values (sym e))

-- what was kept and what has come to it
pub record AreGrown (n m : ℕ) (ks : List Kind) (xs zs : List ℤ) (more : List Value) : Type 0 where
  pub kept : AreKeptStructs (n + m) ks zs
  pub few : n + m ≤ length zs
  pub taken : structs_in (n + m) ks zs ≡ structs_in n ks xs ++ more

pub all_grown : (n m : ℕ) (ks js : List Kind) (xs ys zs : List ℤ) → ks ≡ js → AreKeptStructs n ks xs → AreKeptStructs m js ys → zs ≡ xs ++ ys → AreGrown n m ks xs zs (structs_in m js ys)
all_grown n m ks js xs ys zs same h g e =
    let t = structs_joined (n + m) n m ks xs ys refl h.structs (subst (λ is. AreStructs m is ys) (sym same) g.structs) in
    let are = subst (AreStructs (n + m) ks) (sym e) t.are in
    record {
      kept = record { some = h.some; structs = are };
      few = count_within (n + m) ks zs h.some are;
      taken = ap (structs_in (n + m) ks) e ∙ t.structs ∙ ap (λ is. structs_in n ks xs ++ structs_in m is ys) same;
    }

pub one_grown : (n : ℕ) (ks : List Kind) (xs zs : List ℤ) (vs : List Value) → AreKeptStructs n ks xs → FitKinds ks vs → zs ≡ xs ++ numbers_of vs → AreGrown n 1 ks xs zs (struct (values vs) ∷ [])
one_grown n ks xs zs vs h g e =
    let one : AreKeptStructs 1 ks (numbers_of vs) = record { some = h.some; structs = one_struct ks vs g } in
    let t = all_grown n 1 ks ks xs (numbers_of vs) zs refl h one e in
    record { kept = t.kept; few = t.few; taken = t.taken ∙ ap (λ us. structs_in n ks xs ++ us) (one_struct_is ks vs g) }

fit_long : (ks : List Kind) (vs : List Value) → FitKinds ks vs → length ks ≡ length vs
fit_long [] [] h = refl
fit_long [] (v ∷ vs) h = absurd h
fit_long (k ∷ ks) [] h = absurd h
fit_long (k ∷ ks) (number j x ∷ vs) h = ap suc (fit_long ks vs h.3)
fit_long (k ∷ ks) (list us ∷ vs) h = absurd h
fit_long (k ∷ ks) (struct us ∷ vs) h = absurd h
fit_long (k ∷ ks) (dict es ∷ vs) h = absurd h

-- no struct, and the kinds of such fields
pub none_kept : {A : Type 0} (view : A → Value) (items : List A) (ks : List Kind) (vs : List Value) → vs ≡ map view items → ks ≡ kinds_of vs → FitKinds (kinds_of vs) vs → 0 < length items → AreKeptStructs 0 ks []
none_kept view items ks vs is e h some =
    let long = fit_long (kinds_of vs) vs h in
    let all : length vs ≡ length items = ap length is ∙ length-map items view in
    let there : 0 < length (kinds_of vs) = omega (arith, long, all, some) in
    subst (λ is. AreKeptStructs 0 is []) (sym e) (record { some = there; structs = refl })
