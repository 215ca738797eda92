-- The parts of a value's text that are no values themselves: blanks, single bytes, words, numbers and the items of a string.
use Rattle.std.specs.Prelude.{ℕ, ◌+◌, ◌*◌, ◌-◌, Bool, ◌||◌, ◌&&◌, ◌==◌, nat_le, if◌then◌else◌, List, [], ◌∷◌, Option, Some, None, option_and_then, ℤ, pos, neg_ℤ}
use Rattle.std.specs.Option.{option_map}

-- space, tab, carriage return or line feed
abbrev pub is_blank : ℕ → Bool
is_blank byte = byte == 32 || (byte == 9 || (byte == 13 || byte == 10))

-- the text without the blanks at its front
abbrev pub after_blanks : List ℕ → List ℕ
after_blanks [] = []
after_blanks (byte ∷ bytes) = if is_blank byte then after_blanks bytes else byte ∷ bytes

-- what follows this byte at the front
abbrev pub after_byte : ℕ → List ℕ → Option (List ℕ)
after_byte byte [] = None
after_byte byte (first ∷ rest) = if first == byte then Some rest else None

-- what follows this byte, before which blanks may stand
unfoldable pub byte_at : ℕ → List ℕ → Option (List ℕ)
byte_at byte text = after_byte byte (after_blanks text)

-- what follows this word at the front
unfoldable pub after_word : List ℕ → List ℕ → Option (List ℕ)
after_word [] text = Some text
after_word (byte ∷ word) text = option_and_then (after_word word) (after_byte byte text)

-- a decimal digit
abbrev pub is_digit : ℕ → Bool
is_digit byte = nat_le 48 byte && nat_le byte 57

-- the digits at the front, as many as stand there, and what follows them
abbrev pub digit_run : List ℕ → List ℕ
digit_run [] = []
digit_run (byte ∷ bytes) = if is_digit byte then byte ∷ digit_run bytes else []

abbrev pub after_digits : List ℕ → List ℕ
after_digits [] = []
after_digits (byte ∷ bytes) = if is_digit byte then after_digits bytes else byte ∷ bytes

-- the number that digits write when they follow those of `before`
abbrev pub value_after : ℕ → List ℕ → ℕ
value_after before [] = before
value_after before (byte ∷ bytes) = value_after (before * 10 + (byte - 48)) bytes

-- the number that these digits write, if there are any, and what follows them
abbrev pub numeral_of : List ℕ → List ℕ → Option (ℕ × List ℕ)
numeral_of [] rest = None
numeral_of (digit ∷ digits) rest = Some (value_after 0 (digit ∷ digits), rest)

-- the number that the digits at the front write, and what follows them
unfoldable pub numeral_at : List ℕ → Option (ℕ × List ℕ)
numeral_at text = numeral_of (digit_run text) (after_digits text)

-- the same, with a minus where these digits follow one
abbrev pub signed_at : Option (List ℕ) → List ℕ → Option (ℤ × List ℕ)
signed_at (Some digits) text = option_map (λ found. (neg_ℤ (pos found.0), found.1)) (numeral_at digits)
signed_at None text = option_map (λ found. (pos found.0, found.1)) (numeral_at text)

-- the integer at the front: one or more digits, perhaps after a minus; and what follows it
unfoldable pub integer_at : List ℕ → Option (ℤ × List ℕ)
integer_at text = signed_at (after_byte 45 text) text

-- the value of a hexadecimal digit of either case
abbrev pub hex_digit : ℕ → Option ℕ
hex_digit byte =
    if nat_le 48 byte && nat_le byte 57 then Some (byte - 48)
    else if nat_le 97 byte && nat_le byte 102 then Some (byte - 87)
    else if nat_le 65 byte && nat_le byte 70 then Some (byte - 55)
    else None

-- the byte that two hexadecimal digits write, and what follows them
abbrev pub hex_byte : Option ℕ → Option ℕ → List ℕ → Option (ℕ × List ℕ)
hex_byte (Some high) (Some low) rest = Some (high * 16 + low, rest)
hex_byte (Some high) None rest = None
hex_byte None low rest = None

abbrev pub hex_at : List ℕ → Option (ℕ × List ℕ)
hex_at [] = None
hex_at (high ∷ []) = None
hex_at (high ∷ low ∷ rest) = hex_byte (hex_digit high) (hex_digit low) rest

-- the byte that an escape writes, after its backslash, and what follows it
abbrev pub escape_at : List ℕ → Option (ℕ × List ℕ)
escape_at [] = None
escape_at (byte ∷ rest) =
    if byte == 34 then Some (34, rest)
    else if byte == 92 then Some (92, rest)
    else if byte == 110 then Some (10, rest)
    else if byte == 116 then Some (9, rest)
    else if byte == 120 then hex_at rest
    else None

-- the byte that a string's item writes, and what follows it: a byte from space to tilde other than `"` and `\` stands
-- for itself, and else `\"`, `\\`, `\n`, `\t` or `\x` with two hexadecimal digits
unfoldable pub item_at : List ℕ → Option (ℕ × List ℕ)
item_at [] = None
item_at (byte ∷ rest) =
    if byte == 92 then escape_at rest
    else if byte == 34 then None
    else if nat_le 32 byte && nat_le byte 126 then Some (byte, rest)
    else None
