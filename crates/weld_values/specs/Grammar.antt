-- The data grammar: which values stand at the front of a text, and what follows them. Blanks may stand before each part. Numbers may be out of their kind's range here, and the entries of a dictionary stand in the order of the text.
use Rattle.std.specs.Prelude.{◌≡◌, ◌⊎◌, ℕ, List, [], ◌∷◌, map, codes, Option, Some, None, pos}
use Rattle.std.specs.Option.{option_map}
use Rattle.weld_data.specs.declared.kind.Kind.{Kind}
use Rattle.weld_data.specs.declared.kind.Kind.TheVariants.{Bool, I8, I16, I32, I64, U8, U16, U32, U64}
use Rattle.weld_data.specs.Wrapped.{wrapped}
use Rattle.weld_data.specs.Value.{Value, number, list, struct, dict, Values, no_values, and_value, values, entries}
use Rattle.weld_tree.specs.TypeTree.{TypeTree, TypeTrees, scalar, vec, struct as struct_of, dict as dict_of, build, no_types, more_types}
pub use Rattle.weld_write_value.specs.Showing.{IsI8}
use Rattle.weld_values.specs.Tokens.{after_blanks, after_byte, byte_at, after_word, integer_at, item_at}

-- the first of the two that is there
abbrev pub or_else : {A : Type 0} → Option A → Option A → Option A
or_else None other = other
or_else (Some x) other = Some x

-- `true` or `false`, and what follows it
unfoldable pub truth_at : List ℕ → Option (Value × List ℕ)
truth_at text = or_else (option_map (λ rest. (number Bool (pos 1), rest)) (after_word (codes "true") text)) (option_map (λ rest. (number Bool (pos 0), rest)) (after_word (codes "false") text))

-- an integer as a number of the kind, whatever its range, and what follows it
abbrev pub number_at : Kind → List ℕ → Option (Value × List ℕ)
number_at kind text = option_map (λ found. (number kind found.0, found.1)) (integer_at (after_blanks text))

-- the scalar of the kind, and what follows it
unfoldable pub scalar_at : Kind → List ℕ → Option (Value × List ℕ)
scalar_at Bool text = truth_at (after_blanks text)
scalar_at I8 text = number_at I8 text
scalar_at I16 text = number_at I16 text
scalar_at I32 text = number_at I32 text
scalar_at I64 text = number_at I64 text
scalar_at U8 text = number_at U8 text
scalar_at U16 text = number_at U16 text
scalar_at U32 text = number_at U32 text
scalar_at U64 text = number_at U64 text

-- how one part stands at the front of a text, and what follows it
abbrev pub Part : Type 0 → Type 1
Part A = A → List ℕ → List ℕ → Type 0

-- parts with a comma before each
abbrev pub More : {A : Type 0} → Part A → Part (List A)
More R [] text rest = text ≡ rest
More R (x ∷ xs) text rest = (start : List ℕ) × (byte_at 44 text ≡ Some start) × ((mid : List ℕ) × R x start mid × More R xs mid rest)

-- one part or more with a comma between each two
abbrev pub Listed : {A : Type 0} → Part A → Part (List A)
Listed R [] text rest = ⊥
Listed R (x ∷ xs) text rest = (mid : List ℕ) × R x text mid × More R xs mid rest

-- what stands after an opening bracket: the closing one at once, or parts and then the closing one
abbrev pub Enclosed : {A : Type 0} → Part A → ℕ → Option (List ℕ) → Part (List A)
Enclosed R close (Some after) xs text rest = (xs ≡ []) × (after ≡ rest)
Enclosed R close None xs text rest = (end : List ℕ) × Listed R xs text end × (byte_at close end ≡ Some rest)

-- a part that a function finds at the front
abbrev pub Found : {A : Type 0} → (List ℕ → Option (A × List ℕ)) → Part A
Found at x text rest = at text ≡ Some (x, rest)

-- a list in brackets
abbrev pub AtList : Part Value → Part Value
AtList R v text rest = (inner : List ℕ) × (vs : List Value) × (byte_at 91 text ≡ Some inner) × Enclosed R 93 (byte_at 93 inner) vs inner rest × (v ≡ list (values vs))

-- the items of a string, up to the quote that ends it
abbrev pub AtItems : Part (List ℕ)
AtItems [] text rest = after_byte 34 text ≡ Some rest
AtItems (byte ∷ bytes) text rest = (mid : List ℕ) × (item_at text ≡ Some (byte, mid)) × AtItems bytes mid rest

-- a list of numbers of kind i8 as a string, whose bytes are taken modulo 256
abbrev pub AtString : Part Value
AtString v text rest = (inner : List ℕ) × (bytes : List ℕ) × (byte_at 34 text ≡ Some inner) × AtItems bytes inner rest × (v ≡ list (values (map (λ (b : ℕ). number I8 (wrapped I8 (pos b))) bytes)))

-- a key, a colon and its value
abbrev pub AtEntry : Part Value → Part Value → Part (Value × Value)
AtEntry R S e text rest = (mid : List ℕ) × (start : List ℕ) × R e.0 text mid × (byte_at 58 mid ≡ Some start) × S e.1 start rest

-- `dict` and the entries in braces
abbrev pub AtDict : Part Value → Part Value → Part Value
AtDict R S v text rest = (brace : List ℕ) × (inner : List ℕ) × (es : List (Value × Value)) × (after_word (codes "dict") (after_blanks text) ≡ Some brace) × (byte_at 123 brace ≡ Some inner) × Enclosed (AtEntry R S) 125 (byte_at 125 inner) es inner rest × (v ≡ dict (entries es))

-- no field is left
abbrev pub NoField : Part Values
NoField vs text rest = (vs ≡ no_values) × (text ≡ rest)

-- this byte, a field, and the fields after it
abbrev pub AtField : ℕ → Part Value → Part Values → Part Values
AtField lead R S vs text rest = (v : Value) × (ws : Values) × (start : List ℕ) × (mid : List ℕ) × (vs ≡ and_value v ws) × (byte_at lead text ≡ Some start) × R v start mid × S ws mid rest

-- a struct of these fields, up to the closing brace
abbrev pub AtStruct : Part Values → Part Value
AtStruct R v text rest = (vs : Values) × (end : List ℕ) × R vs text end × (byte_at 125 end ≡ Some rest) × (v ≡ struct vs)

abbrev mutual
  -- a value of the type
  pub At : TypeTree → Part Value
  At (scalar kind) = Found (scalar_at kind)
  At (vec t) = λ v text rest. AtList (At t) v text rest ⊎ (IsI8 t × AtString v text rest)
  At (struct_of ts) = AtStruct (Fields ts 123)
  At (dict_of k v) = AtDict (At k) (At v)
  At (build b) = λ v text rest. ⊥

  -- values of these types, the first after this byte and each further one after a comma
  pub Fields : TypeTrees → ℕ → Part Values
  Fields no_types lead = NoField
  Fields (more_types t ts) lead = AtField lead (At t) (Fields ts 44)
