-- The bytes of one token, and its class.
use Rattle.std.specs.Prelude.{ℕ, Bool, true, false, ◌&&◌, ◌==◌, nat_le, if◌then◌else◌, List, [], ◌∷◌, length, Option, Some, None}
use Rattle.std.specs.Option.{option_map, is_some}
use Rattle.std.specs.Str.{bytes_eq}
use Rattle.weld_grammar.specs.declared.terminals.symbol.Symbol.{Symbol}
use Rattle.weld_grammar.specs.declared.terminals.symbol.Symbol.TheVariants.{LeftParen, RightParen, LeftBracket, RightBracket, LeftBrace, RightBrace, Comma, Semicolon, Colon, Dot, Bar, BarBar, AndAnd, Bang, Equals, EqualsEquals, BangEquals, Less, LessEquals, Greater, GreaterEquals, Plus, Minus, Star, Slash, Percent}
use Rattle.weld_grammar.specs.declared.terminals.reserved.Reserved.{Reserved}
use Rattle.weld_grammar.specs.declared.terminals.reserved.Reserved.TheVariants as words
use Rattle.weld_grammar.specs.declared.terminals.class.Class.{Class}
use Rattle.weld_grammar.specs.declared.terminals.class.Class.TheVariants as classes
use Rattle.weld_grammar.specs.ReservedWords.{reserved_text}
use Rattle.weld_tokens.specs.Bytes.{is_letter, is_digit, is_word_byte, is_hex, is_plain, is_escape, all_of}

-- all reserved words
abbrev pub all_reserved : List Reserved
all_reserved =
    words.Let ∷ words.If ∷ words.Select ∷ words.Lookup ∷ words.Keyexists ∷ words.Len ∷ words.Slice ∷ words.Merge ∷ words.Result ∷ words.For
    ∷ words.Iterate ∷ words.Zip ∷ words.Iter ∷ words.Vec ∷ words.Dict ∷ words.Bool ∷ words.I8 ∷ words.I16 ∷ words.I32 ∷ words.I64 ∷ words.U8
    ∷ words.U16 ∷ words.U32 ∷ words.U64 ∷ words.Vecbuilder ∷ words.Appender ∷ words.Merger ∷ words.Dictmerger ∷ words.Vecmerger
    ∷ words.Groupbuilder ∷ words.Groupmerger ∷ words.True ∷ words.False ∷ words.Min ∷ words.Max ∷ words.Macro ∷ []

-- the first of these that is written so
abbrev pub written_so : List ℕ → List Reserved → Option Reserved
written_so word [] = None
written_so word (r ∷ rs) = if bytes_eq (reserved_text r) word then Some r else written_so word rs

-- the class of a word: a reserved one, or a name
abbrev pub reserved_or_name : Option Reserved → Class
reserved_or_name None = classes.Name
reserved_or_name (Some r) = classes.Reserved r

unfoldable pub word_class : List ℕ → Class
word_class word = reserved_or_name (written_so word all_reserved)

-- no more bytes
abbrev pub is_over : List ℕ → Bool
is_over [] = true
is_over (b ∷ bs) = false

-- behind the first digit of a number: digits, and perhaps `L` at the end
abbrev pub number_class : List ℕ → Option Class
number_class [] = Some classes.Int
number_class (b ∷ bs) = if is_digit b then number_class bs else if b == 76 && is_over bs then Some classes.Long else None

-- behind the `$` of a field: one to nine digits
abbrev pub is_field : List ℕ → Bool
is_field bs = nat_le 1 (length bs) && nat_le (length bs) 9 && all_of is_digit bs

-- behind the first `"` of a string: bytes that stand for themselves, and `\"`, `\\`, `\n`, `\t`, `\xHH`, up to the `"` that ends it
abbrev mutual
  pub ends_string : List ℕ → Bool
  ends_string [] = false
  ends_string (b ∷ bs) = if b == 34 then is_over bs else if b == 92 then ends_escape bs else is_plain b && ends_string bs

  -- behind `\`
  pub ends_escape : List ℕ → Bool
  ends_escape [] = false
  ends_escape (b ∷ bs) = if b == 120 then ends_hex bs else is_escape b && ends_string bs

  -- behind `\x`, and behind one hexadecimal digit more
  pub ends_hex : List ℕ → Bool
  ends_hex [] = false
  ends_hex (b ∷ bs) = is_hex b && ends_last_hex bs

  pub ends_last_hex : List ℕ → Bool
  ends_last_hex [] = false
  ends_last_hex (b ∷ bs) = is_hex b && ends_string bs

-- the symbol of one byte
abbrev pub single : ℕ → Option Symbol
single b =
    if b == 40 then Some LeftParen
    else if b == 41 then Some RightParen
    else if b == 91 then Some LeftBracket
    else if b == 93 then Some RightBracket
    else if b == 123 then Some LeftBrace
    else if b == 125 then Some RightBrace
    else if b == 44 then Some Comma
    else if b == 59 then Some Semicolon
    else if b == 58 then Some Colon
    else if b == 46 then Some Dot
    else if b == 124 then Some Bar
    else if b == 33 then Some Bang
    else if b == 61 then Some Equals
    else if b == 60 then Some Less
    else if b == 62 then Some Greater
    else if b == 43 then Some Plus
    else if b == 45 then Some Minus
    else if b == 42 then Some Star
    else if b == 47 then Some Slash
    else if b == 37 then Some Percent
    else None

-- the symbol of two bytes
abbrev pub double : ℕ → ℕ → Option Symbol
double b c =
    if b == 124 && c == 124 then Some BarBar
    else if b == 38 && c == 38 then Some AndAnd
    else if b == 61 && c == 61 then Some EqualsEquals
    else if b == 33 && c == 61 then Some BangEquals
    else if b == 60 && c == 61 then Some LessEquals
    else if b == 62 && c == 61 then Some GreaterEquals
    else None

-- the symbol that bytes write: the first of them, and those behind it
abbrev pub symbol_of : ℕ → List ℕ → Option Symbol
symbol_of b [] = single b
symbol_of b (c ∷ []) = double b c
symbol_of b (c ∷ d ∷ bs) = None

-- the class of the token that these bytes are; none where they are no token, or more than one
unfoldable pub class_of : List ℕ → Option Class
class_of [] = None
class_of (b ∷ bs) =
    if is_letter b then (if all_of is_word_byte bs then Some (word_class (b ∷ bs)) else None)
    else if is_digit b then number_class bs
    else if b == 36 then (if is_field bs then Some classes.Field else None)
    else if b == 34 then (if ends_string bs then Some classes.Chars else None)
    else option_map classes.Symbol (symbol_of b bs)

-- the bytes are one token
unfoldable pub is_token : List ℕ → Bool
is_token word = is_some (class_of word)
