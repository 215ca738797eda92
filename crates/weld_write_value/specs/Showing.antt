-- The text of a value.
use Rattle.std.specs.Prelude.{◌≡◌, ℕ, ◌/◌, ◌%◌, ◌+◌, ◌==◌, ◌&&◌, nat_le, nat_lt, if◌then◌else◌, List, [], ◌∷◌, ◌++◌, codes, ℤ, pos}
use Rattle.std.specs.Ordering.{int_eq}
use Rattle.std.specs.Fmt.{signed_decimal}
use Rattle.std.specs.Int.{w8, cast_unsigned}
use Rattle.weld_data.specs.declared.kind.Kind.{Kind}
use Rattle.weld_data.specs.declared.kind.Kind.TheVariants.{Bool, I8, I16, I32, I64, U8, U16, U32, U64}
use Rattle.weld_data.specs.Value.{Value, number, list, struct, dict, Values, no_values, and_value, list_of_values, list_of_entries}
use Rattle.weld_tree.specs.TypeTree.{TypeTree, TypeTrees, scalar, vec, struct as struct_of, dict as dict_of, build, no_types, more_types}

-- the type of a string's items
abbrev pub IsI8 : TypeTree → Type 0
IsI8 (scalar Bool) = ⊥
IsI8 (scalar I8) = Unit {0}
IsI8 (scalar I16) = ⊥
IsI8 (scalar I32) = ⊥
IsI8 (scalar I64) = ⊥
IsI8 (scalar U8) = ⊥
IsI8 (scalar U16) = ⊥
IsI8 (scalar U32) = ⊥
IsI8 (scalar U64) = ⊥
IsI8 (vec t) = ⊥
IsI8 (struct_of ts) = ⊥
IsI8 (dict_of k v) = ⊥
IsI8 (build b) = ⊥

-- a number of the kind: `true` or `false`, or decimal digits, with a minus where it is negative
abbrev pub shown_number : Kind → ℤ → List ℕ
shown_number Bool x = if int_eq x (pos 0) then codes "false" else codes "true"
shown_number I8 x = signed_decimal x
shown_number I16 x = signed_decimal x
shown_number I32 x = signed_decimal x
shown_number I64 x = signed_decimal x
shown_number U8 x = signed_decimal x
shown_number U16 x = signed_decimal x
shown_number U32 x = signed_decimal x
shown_number U64 x = signed_decimal x

abbrev pub shown_scalar : Value → List ℕ
shown_scalar (number k x) = shown_number k x
shown_scalar (list vs) = []
shown_scalar (struct vs) = []
shown_scalar (dict es) = []

-- each value's text with a byte before it: this one before the first, and a comma before each further one
abbrev pub led : ℕ → (Value → List ℕ) → List Value → List ℕ
led lead f [] = []
led lead f (v ∷ vs) = lead ∷ f v ++ led 44 f vs

-- the values in brackets, with a comma between each two
abbrev pub shown_list : (Value → List ℕ) → List Value → List ℕ
shown_list f [] = codes "[]"
shown_list f (v ∷ vs) = led 91 f (v ∷ vs) ++ codes "]"

-- a lower-case hexadecimal digit
abbrev pub hex_of : ℕ → ℕ
hex_of n = if nat_lt n 10 then n + 48 else n + 87

-- a byte of a string: from space to tilde it stands for itself, but `"` and `\` after a backslash; any other as `\x` and two digits
abbrev pub shown_byte : ℕ → List ℕ
shown_byte b =
    if b == 34 then codes "\\\""
    else if b == 92 then codes "\\\\"
    else if nat_le 32 b && nat_le b 126 then b ∷ []
    else codes "\\x" ++ (hex_of (b / 16) ∷ hex_of (b % 16) ∷ [])

-- the number of kind i8 as an item of a string: the byte of its value modulo 256
abbrev pub shown_item : Value → List ℕ
shown_item (number k x) = shown_byte (cast_unsigned w8 x)
shown_item (list vs) = []
shown_item (struct vs) = []
shown_item (dict es) = []

abbrev pub strung : List Value → List ℕ
strung [] = []
strung (v ∷ vs) = shown_item v ++ strung vs

-- a list of values of the type: numbers of kind i8 as a string, and else in brackets
abbrev pub shown_elements : TypeTree → (Value → List ℕ) → List Value → List ℕ
shown_elements (scalar I8) f vs = codes "\"" ++ strung vs ++ codes "\""
shown_elements (scalar Bool) f vs = shown_list f vs
shown_elements (scalar I16) f vs = shown_list f vs
shown_elements (scalar I32) f vs = shown_list f vs
shown_elements (scalar I64) f vs = shown_list f vs
shown_elements (scalar U8) f vs = shown_list f vs
shown_elements (scalar U16) f vs = shown_list f vs
shown_elements (scalar U32) f vs = shown_list f vs
shown_elements (scalar U64) f vs = shown_list f vs
shown_elements (vec t) f vs = shown_list f vs
shown_elements (struct_of ts) f vs = shown_list f vs
shown_elements (dict_of k v) f vs = shown_list f vs
shown_elements (build b) f vs = shown_list f vs

abbrev pub shown_vec : TypeTree → (Value → List ℕ) → Value → List ℕ
shown_vec t f (number k x) = []
shown_vec t f (list vs) = shown_elements t f (list_of_values vs)
shown_vec t f (struct vs) = []
shown_vec t f (dict es) = []

-- a byte, a field's text, and the fields after it
abbrev pub shown_field : ℕ → (Value → List ℕ) → (Values → List ℕ) → Values → List ℕ
shown_field lead f g no_values = []
shown_field lead f g (and_value v vs) = lead ∷ f v ++ g vs

abbrev pub shown_struct : (Values → List ℕ) → Value → List ℕ
shown_struct g (number k x) = []
shown_struct g (list vs) = []
shown_struct g (struct vs) = g vs ++ codes "}"
shown_struct g (dict es) = []

-- the entries by rising keys, as they stand: each key, a colon and its value, with a byte before it as above
abbrev pub led_entries : ℕ → (Value → List ℕ) → (Value → List ℕ) → List (Value × Value) → List ℕ
led_entries lead f g [] = []
led_entries lead f g (e ∷ es) = lead ∷ f e.0 ++ codes ":" ++ g e.1 ++ led_entries 44 f g es

abbrev pub shown_entries : (Value → List ℕ) → (Value → List ℕ) → List (Value × Value) → List ℕ
shown_entries f g [] = codes "dict{}"
shown_entries f g (e ∷ es) = codes "dict" ++ led_entries 123 f g (e ∷ es) ++ codes "}"

abbrev pub shown_dict : (Value → List ℕ) → (Value → List ℕ) → Value → List ℕ
shown_dict f g (number k x) = []
shown_dict f g (list vs) = []
shown_dict f g (struct vs) = []
shown_dict f g (dict es) = shown_entries f g (list_of_entries es)

abbrev mutual
  -- the text of a value of the type
  pub show : TypeTree → Value → List ℕ
  show (scalar kind) = shown_scalar
  show (vec t) = shown_vec t (show t)
  show (struct_of ts) = shown_struct (show_fields ts 123)
  show (dict_of k v) = shown_dict (show k) (show v)
  show (build b) = λ value. []

  pub show_fields : TypeTrees → ℕ → Values → List ℕ
  show_fields no_types lead = λ vs. []
  show_fields (more_types t ts) lead = shown_field lead (show t) (show_fields ts 44)

-- the text of a value of the type
abbrev pub ShowValue : Value → TypeTree → List ℕ → Type 0
ShowValue v t text = text ≡ show t v
