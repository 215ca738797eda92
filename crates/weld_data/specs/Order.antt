-- The order of keys, and which values are keys of one type.
use Rattle.std.specs.Prelude.{◌≡◌, ◌⊎◌, ◌<ℤ◌, List, [], ◌∷◌, All, AllPairs}
use Rattle.std.specs.Ordering.{MatchOrdering}
use Rattle.std.specs.declared.cmp.Ordering.{Ordering}
use Rattle.weld_data.specs.declared.kind.Kind.{Kind}
use Rattle.weld_data.specs.Value.{Value, number, list, struct, dict, Values, no_values, and_value, values}

abbrev mutual
  -- numbers by size, false before true; lists and structs lexicographically
  pub KeyLess : Value → Value → Type 0
  KeyLess (number k x) (number m y) = x <ℤ y
  KeyLess (list xs) (list ys) = LexLess xs ys
  KeyLess (struct xs) (struct ys) = LexLess xs ys
  KeyLess _ _ = ⊥

  -- at the first place where they differ the first is less, or it is a proper prefix
  pub LexLess : Values → Values → Type 0
  LexLess no_values no_values = ⊥
  LexLess no_values (and_value y ys) = Unit {0}
  LexLess (and_value x xs) no_values = ⊥
  LexLess (and_value x xs) (and_value y ys) = KeyLess x y ⊎ ((x ≡ y) × LexLess xs ys)

-- how the first key stands to the second: it is less, equal or greater
abbrev pub KeyStands : Ordering → Value → Value → Type 0
KeyStands order x y = MatchOrdering order (KeyLess x y) (x ≡ y) (KeyLess y x)

-- how the first list stands to the second
abbrev pub ListStands : Ordering → List Value → List Value → Type 0
ListStands order xs ys =
    MatchOrdering order (LexLess (values xs) (values ys)) (xs ≡ ys) (LexLess (values ys) (values xs))

-- each value is a number of the kind
abbrev pub AreNumbers : Kind → Values → Type 0
AreNumbers kind no_values = Unit {0}
AreNumbers kind (and_value (number k x) vs) = (k ≡ kind) × AreNumbers kind vs
AreNumbers kind (and_value (list xs) vs) = ⊥
AreNumbers kind (and_value (struct xs) vs) = ⊥
AreNumbers kind (and_value (dict es) vs) = ⊥

-- they are numbers of one kind
abbrev pub HaveOneKind : Values → Type 0
HaveOneKind vs = (kind : Kind) × AreNumbers kind vs

-- the value is a number
abbrev pub IsNumber : Value → Type 0
IsNumber (number k x) = Unit {0}
IsNumber (list xs) = ⊥
IsNumber (struct xs) = ⊥
IsNumber (dict es) = ⊥

-- both are lists of numbers of one kind
abbrev pub SameNumberKinds : Values → Values → Type 0
SameNumberKinds xs ys = (kind : Kind) × AreNumbers kind xs × AreNumbers kind ys

-- ---- keys

-- a key field: a number, or a list of numbers of one kind
abbrev pub IsKeyField : Value → Type 0
IsKeyField (number k x) = Unit {0}
IsKeyField (list xs) = HaveOneKind xs
IsKeyField (struct xs) = ⊥
IsKeyField (dict es) = ⊥

abbrev pub AreKeyFields : Values → Type 0
AreKeyFields no_values = Unit {0}
AreKeyFields (and_value x xs) = IsKeyField x × AreKeyFields xs

-- a key: a key field, or a struct of such, at least one
abbrev pub IsKey : Value → Type 0
IsKey (struct no_values) = ⊥
IsKey (struct (and_value x xs)) = IsKeyField x × AreKeyFields xs
IsKey v = IsKeyField v

-- both are key fields of one type: numbers of one kind, or lists of numbers of one kind
abbrev pub SameFieldType : Value → Value → Type 0
SameFieldType (number k x) (number m y) = k ≡ m
SameFieldType (list xs) (list ys) = SameNumberKinds xs ys
SameFieldType _ _ = ⊥

-- field by field
abbrev pub SameFieldTypes : Values → Values → Type 0
SameFieldTypes no_values no_values = Unit {0}
SameFieldTypes no_values (and_value y ys) = ⊥
SameFieldTypes (and_value x xs) no_values = ⊥
SameFieldTypes (and_value x xs) (and_value y ys) = SameFieldType x y × SameFieldTypes xs ys

-- both are keys of one type: key fields of one type, or structs of such, field by field, at least one
abbrev pub SameKeyType : Value → Value → Type 0
SameKeyType (struct (and_value x xs)) (struct (and_value y ys)) = SameFieldType x y × SameFieldTypes xs ys
SameKeyType x y = SameFieldType x y

-- ---- key types, as what a value may be

-- the type of a key field: a number of a kind, or a list of them
pub data FieldType : Type 0 where
  number_of : Kind → FieldType
  list_of : Kind → FieldType

-- the type of a key: that of a key field, or the types of a struct's fields, of which there is a first
pub data KeyType : Type 0 where
  one_field : FieldType → KeyType
  fields : FieldType → List FieldType → KeyType

abbrev pub HasFieldType : FieldType → Value → Type 0
HasFieldType (number_of kind) (number k x) = k ≡ kind
HasFieldType (list_of kind) (list xs) = AreNumbers kind xs
HasFieldType _ _ = ⊥

abbrev pub HaveFieldTypes : List FieldType → Values → Type 0
HaveFieldTypes [] no_values = Unit {0}
HaveFieldTypes [] (and_value x xs) = ⊥
HaveFieldTypes (t ∷ ts) no_values = ⊥
HaveFieldTypes (t ∷ ts) (and_value x xs) = HasFieldType t x × HaveFieldTypes ts xs

-- the value is a key of the type
abbrev pub HasKeyType : KeyType → Value → Type 0
HasKeyType (one_field t) v = HasFieldType t v
HasKeyType (fields t ts) (struct xs) = HaveFieldTypes (t ∷ ts) xs
HasKeyType (fields t ts) _ = ⊥

-- ---- dictionaries

-- the first key may stand before the second in one dictionary
pub record KeyPrecedes (a b : Value) : Type 0 where
  pub same_type : SameKeyType a b
  pub less : KeyLess a b

-- each key is one, and they strictly rise and are of one key type
pub record Rises (es : List (Value × Value)) : Type 0 where
  pub keys : All (λ (e : Value × Value). IsKey e.0) es
  pub rise : AllPairs (λ (a b : Value × Value). KeyPrecedes a.0 b.0) es

-- a key that may be appended: it comes after each that is there
pub record CanFollow (es : List (Value × Value)) (key : Value) : Type 0 where
  pub is_key : IsKey key
  pub follows : All (λ (e : Value × Value). KeyPrecedes e.0 key) es

-- a key that may be looked up: it is of one key type with each that is there
abbrev pub IsKeyFor : List (Value × Value) → Value → Type 0
IsKeyFor es key = All (λ (e : Value × Value). SameKeyType e.0 key) es
