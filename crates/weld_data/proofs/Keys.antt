-- Laws of the order of keys.
use Rattle.std.proofs.Common.{◌≡◌, ◌⊎◌, inl, inr, ⊎_elim, ℕ, ◌<◌, zero, suc, ℤ, ◌<ℤ◌, List, [], ◌∷◌, map, length, take, slice_get, Some, IfSome, Ordering, Less, Equal, Greater, int_cmp, nat_cmp, Bool, true, false, pos, min, take_all, ap, ap₂, sym, subst, subst₂, refl, ◌∙◌, arith}
use Rattle.std.proofs.lemmas.Int.{ints, by_lt_z}
use Rattle.std.specs.Ordering.{MatchOrdering, ordering_then, bool_cmp}
use Rattle.std.specs.Cmp.{ranks, int_ranks}
use Rattle.std.specs.Cmp.Lexicographic.{slice_cmp}
use Rattle.weld_data.specs.declared.kind.Kind.{Kind}
use Rattle.weld_data.specs.declared.num.Num.{Num}
use Rattle.weld_data.specs.declared.value.Val.{Val}
use Rattle.weld_data.specs.declared.value.Val.TheVariants as val
use Rattle.weld_data.specs.Operation.{truth}
use Rattle.weld_data.specs.Value.{Value, number, list, struct, dict, Values, no_values, and_value, values}
use Rattle.weld_data.specs.View.{view_val}
use Rattle.weld_data.specs.Order.{KeyLess, LexLess, KeyStands, ListStands, AreNumbers, IsNumber, IsKeyField, AreKeyFields, IsKey, SameFieldType, SameFieldTypes, SameKeyType, FieldType, number_of, list_of, KeyType, one_field, fields, HasFieldType, HaveFieldTypes, HasKeyType}

-- ---- a strict order

mutual
  pub KeyLess_irrefl : (x : Value) → ¬ (KeyLess x x)
  KeyLess_irrefl (number k x) h = omega (arith, ints)
  KeyLess_irrefl (list xs) h = LexLess_irrefl xs h
  KeyLess_irrefl (struct xs) h = LexLess_irrefl xs h
  KeyLess_irrefl (dict es) h = h

  pub LexLess_irrefl : (xs : Values) → ¬ (LexLess xs xs)
  LexLess_irrefl no_values h = h
  LexLess_irrefl (and_value x xs) h = ⊎_elim (KeyLess_irrefl x) (λ p. LexLess_irrefl xs p.1) h

mutual
  pub KeyLess_trans : (x y z : Value) → KeyLess x y → KeyLess y z → KeyLess x z
  KeyLess_trans (number k x) (number m y) (number n z) h g = omega (arith, ints)
  KeyLess_trans (number k x) (number m y) _ h g = absurd g
  KeyLess_trans (number k x) _ _ h g = absurd h
  KeyLess_trans (list xs) (list ys) (list zs) h g = LexLess_trans xs ys zs h g
  KeyLess_trans (list xs) (list ys) _ h g = absurd g
  KeyLess_trans (list xs) _ _ h g = absurd h
  KeyLess_trans (struct xs) (struct ys) (struct zs) h g = LexLess_trans xs ys zs h g
  KeyLess_trans (struct xs) (struct ys) _ h g = absurd g
  KeyLess_trans (struct xs) _ _ h g = absurd h
  KeyLess_trans (dict es) _ _ h g = absurd h

  pub LexLess_trans : (xs ys zs : Values) → LexLess xs ys → LexLess ys zs → LexLess xs zs
  LexLess_trans no_values no_values zs h g = absurd h
  LexLess_trans no_values (and_value y ys) no_values h g = absurd g
  LexLess_trans no_values (and_value y ys) (and_value z zs) h g = tt
  LexLess_trans (and_value x xs) no_values zs h g = absurd h
  LexLess_trans (and_value x xs) (and_value y ys) no_values h g = absurd g
  LexLess_trans (and_value x xs) (and_value y ys) (and_value z zs) h g =
      ⊎_elim
      (λ a. ⊎_elim (λ b. inl (KeyLess_trans x y z a b)) (λ q. inl (subst (KeyLess x) q.0 a)) g)
      (λ p. ⊎_elim (λ b. inl (subst (λ w. KeyLess w z) (sym p.0) b)) (λ q. inr (p.0 ∙ q.0, LexLess_trans xs ys zs p.1 q.1)) g)
      h

-- ---- total on keys of one type

-- how the fields or elements stand to each other
abbrev pub LexStands : Ordering → Values → Values → Type 0
LexStands r xs ys = MatchOrdering r (LexLess xs ys) (xs ≡ ys) (LexLess ys xs)

-- the first elements decide, and else the rest
pub LexStands-then : (r s : Ordering) (x y : Value) (xs ys : Values) → KeyStands r x y → LexStands s xs ys → LexStands (ordering_then r s) (and_value x xs) (and_value y ys)
LexStands-then Less s x y xs ys h g = inl h
LexStands-then Greater s x y xs ys h g = inl h
LexStands-then Equal Less x y xs ys h g = inr (h, g)
LexStands-then Equal Equal x y xs ys h g = ap₂ and_value h g
LexStands-then Equal Greater x y xs ys h g = inr (sym h, g)

abbrev pub Compares : Value → Value → Type 0
Compares x y = (r : Ordering) × KeyStands r x y

abbrev pub LexCompares : Values → Values → Type 0
LexCompares xs ys = (r : Ordering) × LexStands r xs ys

step : (x y : Value) (xs ys : Values) → Compares x y → LexCompares xs ys → LexCompares (and_value x xs) (and_value y ys)
step x y xs ys c d = (ordering_then c.0 d.0, LexStands-then c.0 d.0 x y xs ys c.1 d.1)

numbers_compare : (k m : Kind) (x y : ℤ) → k ≡ m → Compares (number k x) (number m y)
numbers_compare k m x y e =
    by_lt_z x y (λ h. (Less, h)) (λ a. by_lt_z y x (λ h. (Greater, h)) (λ b. (Equal, let s : x ≡ y = omega (arith, ints) in ap₂ number e s)))

lists_compare : (kind : Kind) (xs ys : Values) → AreNumbers kind xs → AreNumbers kind ys → LexCompares xs ys
lists_compare kind no_values no_values p q = (Equal, refl)
lists_compare kind no_values (and_value y ys) p q = (Less, tt)
lists_compare kind (and_value x xs) no_values p q = (Greater, tt)
lists_compare kind (and_value (number k x) xs) (and_value (number m y) ys) p q =
    step (number k x) (number m y) xs ys (numbers_compare k m x y (p.0 ∙ sym q.0)) (lists_compare kind xs ys p.1 q.1)
lists_compare kind (and_value (number k x) xs) (and_value _ ys) p q = absurd q
lists_compare kind (and_value _ xs) (and_value y ys) p q = absurd p

under_list : (r : Ordering) (xs ys : Values) → LexStands r xs ys → KeyStands r (list xs) (list ys)
under_list Less xs ys h = h
under_list Equal xs ys h = ap list h
under_list Greater xs ys h = h

under_struct : (r : Ordering) (xs ys : Values) → LexStands r xs ys → KeyStands r (struct xs) (struct ys)
under_struct Less xs ys h = h
under_struct Equal xs ys h = ap struct h
under_struct Greater xs ys h = h

field_compares : (x y : Value) → SameFieldType x y → Compares x y
field_compares (number k x) (number m y) s = numbers_compare k m x y s
field_compares (number k x) _ s = absurd s
field_compares (list xs) (list ys) s =
    let c = lists_compare s.0 xs ys s.1 s.2 in (c.0, under_list c.0 xs ys c.1)
field_compares (list xs) _ s = absurd s
field_compares (struct xs) _ s = absurd s
field_compares (dict es) _ s = absurd s

fields_compare : (xs ys : Values) → SameFieldTypes xs ys → LexCompares xs ys
fields_compare no_values no_values s = (Equal, refl)
fields_compare no_values (and_value y ys) s = absurd s
fields_compare (and_value x xs) no_values s = absurd s
fields_compare (and_value x xs) (and_value y ys) s =
    step x y xs ys (field_compares x y s.0) (fields_compare xs ys s.1)

-- keys of one type are structs whose fields are so, or else key fields of one type
pub by_key_type : {P : Type 0} (x y : Value) → SameKeyType x y → (SameFieldType x y → P) → ((xs ys : Values) → x ≡ struct xs → y ≡ struct ys → SameFieldTypes xs ys → P) → P
by_key_type (number k x) (number m y) s f g = f s
by_key_type (number k x) _ s f g = absurd s
by_key_type (list xs) (list ys) s f g = f s
by_key_type (list xs) _ s f g = absurd s
by_key_type (struct no_values) _ s f g = absurd s
by_key_type (struct (and_value x xs)) (struct (and_value y ys)) s f g = g (and_value x xs) (and_value y ys) refl refl s
by_key_type (struct (and_value x xs)) _ s f g = absurd s
by_key_type (dict es) _ s f g = absurd s

-- those that aren't structs both
pub key_fields : (x y : Value) → SameKeyType x y → ((xs ys : Values) → x ≡ struct xs → y ≡ struct ys → ⊥) → SameFieldType x y
key_fields x y s n = by_key_type x y s (λ h. h) (λ xs ys p q t. absurd (n xs ys p q))

keys_compare : (x y : Value) → SameKeyType x y → Compares x y
keys_compare x y s =
    by_key_type x y s (field_compares x y)
    (λ xs ys p q t. let c = fields_compare xs ys t in (c.0, subst₂ (KeyStands c.0) (sym p) (sym q) (under_struct c.0 xs ys c.1)))

pub KeyLess_total : (x y : Value) → SameKeyType x y → KeyLess x y ⊎ ((x ≡ y) ⊎ KeyLess y x)
KeyLess_total x y s = let c = keys_compare x y s in by c.0 c.1
  where
    by : (r : Ordering) → KeyStands r x y → KeyLess x y ⊎ ((x ≡ y) ⊎ KeyLess y x)
    by Less h = inl h
    by Equal h = inr (inl h)
    by Greater h = inr (inr h)

SameFieldType_sym : (x y : Value) → SameFieldType x y → SameFieldType y x
SameFieldType_sym (number k x) (number m y) s = sym s
SameFieldType_sym (number k x) _ s = absurd s
SameFieldType_sym (list xs) (list ys) s = (s.0, s.2, s.1)
SameFieldType_sym (list xs) _ s = absurd s
SameFieldType_sym (struct xs) _ s = absurd s
SameFieldType_sym (dict es) _ s = absurd s

SameFieldTypes_sym : (xs ys : Values) → SameFieldTypes xs ys → SameFieldTypes ys xs
SameFieldTypes_sym no_values no_values s = tt
SameFieldTypes_sym no_values (and_value y ys) s = absurd s
SameFieldTypes_sym (and_value x xs) no_values s = absurd s
SameFieldTypes_sym (and_value x xs) (and_value y ys) s = (SameFieldType_sym x y s.0, SameFieldTypes_sym xs ys s.1)

pub SameKeyType_sym : (x y : Value) → SameKeyType x y → SameKeyType y x
SameKeyType_sym (number k x) (number m y) s = sym s
SameKeyType_sym (number k x) _ s = absurd s
SameKeyType_sym (list xs) (list ys) s = (s.0, s.2, s.1)
SameKeyType_sym (list xs) _ s = absurd s
SameKeyType_sym (struct no_values) _ s = absurd s
SameKeyType_sym (struct (and_value x xs)) (struct (and_value y ys)) s = (SameFieldType_sym x y s.0, SameFieldTypes_sym xs ys s.1)
SameKeyType_sym (struct (and_value x xs)) _ s = absurd s
SameKeyType_sym (dict es) _ s = absurd s

-- ---- keys of one key type

field_types_agree : (t : FieldType) (x y : Value) → HasFieldType t x → HasFieldType t y → SameFieldType x y
field_types_agree (number_of kind) (number k x) (number m y) p q = p ∙ sym q
field_types_agree (number_of kind) (number k x) _ p q = absurd q
field_types_agree (number_of kind) _ _ p q = absurd p
field_types_agree (list_of kind) (list xs) (list ys) p q = (kind, p, q)
field_types_agree (list_of kind) (list xs) _ p q = absurd q
field_types_agree (list_of kind) _ _ p q = absurd p

all_field_types_agree : (ts : List FieldType) (xs ys : Values) → HaveFieldTypes ts xs → HaveFieldTypes ts ys → SameFieldTypes xs ys
all_field_types_agree [] no_values no_values p q = tt
all_field_types_agree [] no_values (and_value y ys) p q = absurd q
all_field_types_agree [] (and_value x xs) _ p q = absurd p
all_field_types_agree (t ∷ ts) no_values _ p q = absurd p
all_field_types_agree (t ∷ ts) (and_value x xs) no_values p q = absurd q
all_field_types_agree (t ∷ ts) (and_value x xs) (and_value y ys) p q =
    (field_types_agree t x y p.0 q.0, all_field_types_agree ts xs ys p.1 q.1)

from_fields : (x y : Value) → SameFieldType x y → SameKeyType x y
from_fields (number k x) (number m y) s = s
from_fields (number k x) _ s = absurd s
from_fields (list xs) (list ys) s = s
from_fields (list xs) _ s = absurd s
from_fields (struct xs) _ s = absurd s
from_fields (dict es) _ s = absurd s

pub key_types_agree : (t : KeyType) (x y : Value) → HasKeyType t x → HasKeyType t y → SameKeyType x y
key_types_agree (one_field t) x y p q = from_fields x y (field_types_agree t x y p q)
key_types_agree (fields t ts) (struct no_values) _ p q = absurd p
key_types_agree (fields t ts) (struct (and_value x xs)) (struct no_values) p q = absurd q
key_types_agree (fields t ts) (struct (and_value x xs)) (struct (and_value y ys)) p q =
    all_field_types_agree (t ∷ ts) (and_value x xs) (and_value y ys) p q
key_types_agree (fields t ts) (struct (and_value x xs)) _ p q = absurd q
key_types_agree (fields t ts) _ _ p q = absurd p

field_of_type : (t : FieldType) (x : Value) → HasFieldType t x → IsKeyField x
field_of_type (number_of kind) (number k x) p = tt
field_of_type (number_of kind) _ p = absurd p
field_of_type (list_of kind) (list xs) p = (kind, p)
field_of_type (list_of kind) _ p = absurd p

fields_of_types : (ts : List FieldType) (xs : Values) → HaveFieldTypes ts xs → AreKeyFields xs
fields_of_types [] no_values p = tt
fields_of_types [] (and_value x xs) p = absurd p
fields_of_types (t ∷ ts) no_values p = absurd p
fields_of_types (t ∷ ts) (and_value x xs) p = (field_of_type t x p.0, fields_of_types ts xs p.1)

key_of_field : (x : Value) → IsKeyField x → IsKey x
key_of_field (number k x) p = tt
key_of_field (list xs) p = p
key_of_field (struct xs) p = absurd p
key_of_field (dict es) p = absurd p

pub key_of_type : (t : KeyType) (x : Value) → HasKeyType t x → IsKey x
key_of_type (one_field t) x p = key_of_field x (field_of_type t x p)
key_of_type (fields t ts) (struct no_values) p = absurd p
key_of_type (fields t ts) (struct (and_value x xs)) p = fields_of_types (t ∷ ts) (and_value x xs) p
key_of_type (fields t ts) _ p = absurd p

-- a key has a key type
abbrev FieldTyped : Value → Type 0
FieldTyped x = (t : FieldType) × HasFieldType t x

field_typed : (x : Value) → IsKeyField x → FieldTyped x
field_typed (number k x) p = (number_of k, refl)
field_typed (list xs) p = (list_of p.0, p.1)
field_typed (struct xs) p = absurd p
field_typed (dict es) p = absurd p

fields_typed : (xs : Values) → AreKeyFields xs → (ts : List FieldType) × HaveFieldTypes ts xs
fields_typed no_values p = ([], tt)
fields_typed (and_value x xs) p =
    let a = field_typed x p.0 in let b = fields_typed xs p.1 in (a.0 ∷ b.0, (a.1, b.1))

pub key_typed : (x : Value) → IsKey x → (t : KeyType) × HasKeyType t x
key_typed (number k x) p = (one_field (number_of k), refl)
key_typed (list xs) p = (one_field (list_of p.0), p.1)
key_typed (struct no_values) p = absurd p
key_typed (struct (and_value x xs)) p =
    let a = field_typed x p.0 in let b = fields_typed xs p.1 in (fields a.0 b.0, (a.1, b.1))
key_typed (dict es) p = absurd p

-- ---- lists of the code

ListStands-then : (r s : Ordering) (x y : Value) (xs ys : List Value) → KeyStands r x y → ListStands s xs ys → ListStands (ordering_then r s) (x ∷ xs) (y ∷ ys)
ListStands-then Less s x y xs ys h g = inl h
ListStands-then Greater s x y xs ys h g = inl h
ListStands-then Equal Less x y xs ys h g = inr (h, g)
ListStands-then Equal Equal x y xs ys h g = ap₂ ◌∷◌ h g
ListStands-then Equal Greater x y xs ys h g = inr (sym h, g)

-- where a comparison of elements says how their values stand, the lexicographic one says how the lists stand
ListStands-slice_cmp : {T : Type 0} (cmp : T → T → Ordering) (f : T → Value) → ((x y : T) → KeyStands (cmp x y) (f x) (f y)) → (xs ys : List T) → ListStands (slice_cmp cmp xs ys) (map f xs) (map f ys)
ListStands-slice_cmp cmp f h [] [] = refl
ListStands-slice_cmp cmp f h [] (y ∷ ys) = tt
ListStands-slice_cmp cmp f h (x ∷ xs) [] = tt
ListStands-slice_cmp cmp f h (x ∷ xs) (y ∷ ys) =
    ListStands-then (cmp x y) (slice_cmp cmp xs ys) (f x) (f y) _ _ (h x y) (ListStands-slice_cmp cmp f h xs ys)

-- the same of two columns of one kind, as the code has them
pub columns_stand : {T : Type 0} (cmp : T → T → Ordering) (f : T → Value) → ((x y : T) → KeyStands (cmp x y) (f x) (f y)) → (xs ys ps qs : List T) (vs ws : List Value) (r : Ordering) → r ≡ slice_cmp cmp ps qs → ps ≡ xs → qs ≡ ys → vs ≡ map f xs → ws ≡ map f ys → ListStands r vs ws
columns_stand cmp f h xs ys ps qs vs ws r e p q v w =
    subst (λ (o : Ordering). ListStands o vs ws) (sym (e ∙ ap₂ (slice_cmp cmp) p q))
    (subst₂ (ListStands (slice_cmp cmp xs ys)) (sym v) (sym w) (ListStands-slice_cmp cmp f h xs ys))

pub ints_stand : (k m : Kind) (x y : ℤ) → k ≡ m → KeyStands (int_cmp x y) (number k x) (number m y)
ints_stand k m x y e = by (int_cmp x y) (int_ranks x y)
  where
    by : (r : Ordering) → MatchOrdering r (x <ℤ y) (x ≡ y) (y <ℤ x) → KeyStands r (number k x) (number m y)
    by Less h = h
    by Equal h = ap₂ number e h
    by Greater h = h

pub nats_stand : (k : Kind) (x y : ℕ) → KeyStands (nat_cmp x y) (number k (pos x)) (number k (pos y))
nats_stand k x y = by (nat_cmp x y) (ranks x y)
  where
    by : (r : Ordering) → MatchOrdering r (x < y) (x ≡ y) (y < x) → KeyStands r (number k (pos x)) (number k (pos y))
    by Less h = omega (arith, ints)
    by Equal h = ap (λ n. number k (pos n)) h
    by Greater h = omega (arith, ints)

pub bools_stand : (k : Kind) (x y : Bool) → KeyStands (bool_cmp x y) (number k (truth x)) (number k (truth y))
bools_stand k false false = refl
bools_stand k false true = omega (arith, ints)
bools_stand k true false = omega (arith, ints)
bools_stand k true true = refl

-- two lists that agree up to i, and what stands there
pub LexLess-at : (xs ys : List Value) (i : ℕ) (x y : Value) → slice_get xs i ≡ Some x → slice_get ys i ≡ Some y → take i xs ≡ take i ys → KeyLess x y → LexLess (values xs) (values ys)
LexLess-at [] ys i x y p q e h = cc
LexLess-at (a ∷ xs) [] i x y p q e h = cc
LexLess-at (a ∷ xs) (b ∷ ys) zero x y p q e h =
    let ax : a ≡ x = cc in let by : b ≡ y = cc in inl (subst (λ w. KeyLess w b) (sym ax) (subst (KeyLess x) (sym by) h))
LexLess-at (a ∷ xs) (b ∷ ys) (suc i) x y p q e h =
    let ab : a ≡ b = cc in let rest : take i xs ≡ take i ys = cc in inr (ab, LexLess-at xs ys i x y p q rest h)

-- a proper prefix
pub LexLess-prefix : (xs ys : List Value) → take (length xs) xs ≡ take (length xs) ys → length xs < length ys → LexLess (values xs) (values ys)
LexLess-prefix [] [] e h = absurd (omega arith)
LexLess-prefix [] (y ∷ ys) e h = tt
LexLess-prefix (x ∷ xs) [] e h = absurd (omega arith)
LexLess-prefix (x ∷ xs) (y ∷ ys) e h =
    let xy : x ≡ y = cc in let rest : take (length xs) xs ≡ take (length xs) ys = cc in inr (xy, LexLess-prefix xs ys rest (omega arith))

-- a loop over two lists stops where they differ
pub ListStands-at : (r : Ordering) (xs ys : List Value) (i : ℕ) (x y : Value) → slice_get xs i ≡ Some x → slice_get ys i ≡ Some y → take i xs ≡ take i ys → KeyStands r x y → (r ≡ Equal → ⊥) → ListStands r xs ys
ListStands-at Less xs ys i x y p q e h n = LexLess-at xs ys i x y p q e h
ListStands-at Equal xs ys i x y p q e h n = absurd (n refl)
ListStands-at Greater xs ys i x y p q e h n = LexLess-at ys xs i y x q p (sym e) h

-- or at the end of the shorter one
pub ListStands-end : (xs ys : List Value) (i : ℕ) → i ≡ min (length xs) (length ys) → take i xs ≡ take i ys → ListStands (nat_cmp (length xs) (length ys)) xs ys
ListStands-end xs ys i m e = by (nat_cmp (length xs) (length ys)) (ranks (length xs) (length ys))
  where
    by : (r : Ordering) → MatchOrdering r (length xs < length ys) (length xs ≡ length ys) (length ys < length xs) → ListStands r xs ys
    by Less h =
        let is : i ≡ length xs = omega arith in LexLess-prefix xs ys (subst (λ n. take n xs ≡ take n ys) is e) h
    by Equal h =
        let p = take_all i xs (omega arith) in let q = take_all i ys (omega arith) in sym p ∙ e ∙ q
    by Greater h =
        let is : i ≡ length ys = omega arith in LexLess-prefix ys xs (subst (λ n. take n ys ≡ take n xs) is (sym e)) h

-- one element more on which they agree
pub take-agree : (xs ys : List Value) (i : ℕ) (x y : Value) → slice_get xs i ≡ Some x → slice_get ys i ≡ Some y → x ≡ y → take i xs ≡ take i ys → take (suc i) xs ≡ take (suc i) ys
take-agree [] ys i x y p q s e = cc
take-agree (a ∷ xs) [] i x y p q s e = cc
take-agree (a ∷ xs) (b ∷ ys) zero x y p q s e = let ab : a ≡ b = cc in ap (λ w. w ∷ []) ab
take-agree (a ∷ xs) (b ∷ ys) (suc i) x y p q s e =
    let ab : a ≡ b = cc in let rest : take i xs ≡ take i ys = cc in ap₂ ◌∷◌ ab (take-agree xs ys i x y p q s rest)

pub fields_at : (xs ys : List Value) (i : ℕ) (x y : Value) → SameFieldTypes (values xs) (values ys) → slice_get xs i ≡ Some x → slice_get ys i ≡ Some y → SameFieldType x y
fields_at [] ys i x y s p q = cc
fields_at (a ∷ xs) [] i x y s p q = cc
fields_at (a ∷ xs) (b ∷ ys) zero x y s p q =
    let ax : a ≡ x = cc in let by : b ≡ y = cc in subst (λ w. SameFieldType w y) ax (subst (SameFieldType a) by s.0)
fields_at (a ∷ xs) (b ∷ ys) (suc i) x y s p q = fields_at xs ys i x y s.1 p q

pub length-fields : (xs ys : List Value) → SameFieldTypes (values xs) (values ys) → length xs ≡ length ys
length-fields [] [] s = refl
length-fields [] (y ∷ ys) s = absurd s
length-fields (x ∷ xs) [] s = absurd s
length-fields (x ∷ xs) (y ∷ ys) s = ap suc (length-fields xs ys s.1)

pub kind_at : (kind : Kind) (xs : List Value) (i : ℕ) (k : Kind) (x : ℤ) → AreNumbers kind (values xs) → slice_get xs i ≡ Some (number k x) → k ≡ kind
kind_at kind [] i k x a p = cc
kind_at kind (number m y ∷ xs) zero k x a p = let e : m ≡ k = cc in sym e ∙ a.0
kind_at kind (number m y ∷ xs) (suc i) k x a p = kind_at kind xs i k x a.1 p
kind_at kind (list ys ∷ xs) i k x a p = absurd a
kind_at kind (struct ys ∷ xs) i k x a p = absurd a
kind_at kind (dict es ∷ xs) i k x a p = absurd a

-- what stands in a list of numbers is a number
pub number_there : (kind : Kind) (xs : List Value) (i : ℕ) → AreNumbers kind (values xs) → IfSome (slice_get xs i) IsNumber
number_there kind [] i a = tt
number_there kind (number k x ∷ xs) zero a = tt
number_there kind (number k x ∷ xs) (suc i) a = number_there kind xs i a.1
number_there kind (list ys ∷ xs) i a = absurd a
number_there kind (struct ys ∷ xs) i a = absurd a
number_there kind (dict es ∷ xs) i a = absurd a

-- and is kept as one
pub number_is_num : (v : Val) → IsNumber (view_val v) → ((n : Num) → v ≡ val.Num n → ⊥) → ⊥
number_is_num (val.Num n) h f = f n refl
number_is_num (val.List c) h f = h
number_is_num (val.Struct c) h f = h
number_is_num (val.Dict c) h f = h

-- a list of numbers of one kind, as a typed column has it
pub AreNumbers-map : {T : Type 0} (kind : Kind) (f : T → ℤ) (xs : List T) → AreNumbers kind (values (map (λ (x : T). number kind (f x)) xs))
AreNumbers-map kind f [] = tt
AreNumbers-map kind f (x ∷ xs) = (refl, AreNumbers-map kind f xs)
