-- What numbers, fields and strings stand for.
use Rattle.std.specs.Prelude.{ℕ, ◌+◌, ◌*◌, ◌-◌, Bool, ◌&&◌, ◌==◌, nat_le, if◌then◌else◌, List, [], ◌∷◌, drop, ℤ, pos, neg_ℤ}
use Rattle.weld_grammar.specs.declared.terminals.class.Class.{Class}
use Rattle.weld_grammar.specs.declared.terminals.class.Class.TheVariants as classes
use Rattle.weld_tokens.specs.Bytes.{is_digit}

-- the number that the digits at the front write behind those of `before`
abbrev pub value_behind : ℕ → List ℕ → ℕ
value_behind before [] = before
value_behind before (b ∷ bs) = if is_digit b then value_behind (before * 10 + (b - 48)) bs else before

-- the number that a token of digits, with `L` or without, writes
abbrev pub number_value : List ℕ → ℕ
number_value word = value_behind 0 word

-- the number of a field
abbrev pub field_value : List ℕ → ℕ
field_value word = value_behind 0 (drop 1 word)

-- the greatest number that a literal of its class may write: of kind i64 with `L`, else of kind i32; under the `-` of a negative literal one more
abbrev pub greatest_literal : Bool → Class → ℕ
greatest_literal negative (classes.Long) = if negative then 9223372036854775808 else 9223372036854775807
greatest_literal negative _ = if negative then 2147483648 else 2147483647

-- the literal is in its range
abbrev pub is_in_range : Bool → Class → List ℕ → Bool
is_in_range negative class word = nat_le (number_value word) (greatest_literal negative class)

-- the value of a literal
abbrev pub literal_value : Bool → List ℕ → ℤ
literal_value negative word = if negative then neg_ℤ (pos (number_value word)) else pos (number_value word)

-- the value of a hexadecimal digit, of either case; 0 for another byte
abbrev pub hex_value : ℕ → ℕ
hex_value b = if is_digit b then b - 48 else if nat_le 65 b && nat_le b 70 then b - 55 else if nat_le 97 b && nat_le b 102 then b - 87 else 0

-- the byte that two hexadecimal digits stand for
abbrev pub byte_of : ℕ → ℕ → ℕ
byte_of high low = hex_value high * 16 + hex_value low

-- the byte that a byte behind `\` stands for
abbrev pub escaped : ℕ → ℕ
escaped b = if b == 110 then 10 else if b == 116 then 9 else b

-- the bytes that the items of a string stand for, up to the `"` that ends it
abbrev mutual
  pub items_value : List ℕ → List ℕ
  items_value [] = []
  items_value (b ∷ bs) = if b == 34 then [] else if b == 92 then escape_value bs else b ∷ items_value bs

  -- behind `\`
  pub escape_value : List ℕ → List ℕ
  escape_value [] = []
  escape_value (b ∷ bs) = if b == 120 then byte_value bs else escaped b ∷ items_value bs

  -- behind `\x`, and behind one hexadecimal digit more
  pub byte_value : List ℕ → List ℕ
  byte_value [] = []
  byte_value (b ∷ bs) = low_value b bs

  pub low_value : ℕ → List ℕ → List ℕ
  low_value high [] = []
  low_value high (b ∷ bs) = byte_of high b ∷ items_value bs

-- the bytes that a string stands for
abbrev pub string_value : List ℕ → List ℕ
string_value word = items_value (drop 1 word)
