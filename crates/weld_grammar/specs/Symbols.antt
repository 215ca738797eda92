-- The symbols of Weld programs: how they are written.
use Rattle.std.specs.Prelude.{ℕ, Bool, ◌==◌, List, codes}
use Rattle.weld_grammar.specs.declared.terminals.symbol.Symbol.{Symbol}
use Rattle.weld_grammar.specs.declared.terminals.symbol.Symbol.TheVariants.{LeftParen, RightParen, LeftBracket, RightBracket, LeftBrace, RightBrace, Comma, Semicolon, Colon, Dot, Bar, BarBar, AndAnd, Bang, Equals, EqualsEquals, BangEquals, Less, LessEquals, Greater, GreaterEquals, Plus, Minus, Star, Slash, Percent}

-- the bytes of a symbol
abbrev pub symbol_text : Symbol → List ℕ
symbol_text LeftParen = codes "("
symbol_text RightParen = codes ")"
symbol_text LeftBracket = codes "["
symbol_text RightBracket = codes "]"
symbol_text LeftBrace = codes "{"
symbol_text RightBrace = codes "}"
symbol_text Comma = codes ","
symbol_text Semicolon = codes ";"
symbol_text Colon = codes ":"
symbol_text Dot = codes "."
symbol_text Bar = codes "|"
symbol_text BarBar = codes "||"
symbol_text AndAnd = codes "&&"
symbol_text Bang = codes "!"
symbol_text Equals = codes "="
symbol_text EqualsEquals = codes "=="
symbol_text BangEquals = codes "!="
symbol_text Less = codes "<"
symbol_text LessEquals = codes "<="
symbol_text Greater = codes ">"
symbol_text GreaterEquals = codes ">="
symbol_text Plus = codes "+"
symbol_text Minus = codes "-"
symbol_text Star = codes "*"
symbol_text Slash = codes "/"
symbol_text Percent = codes "%"

-- their numbers, in this order
abbrev pub symbol_number : Symbol → ℕ
symbol_number LeftParen = 0
symbol_number RightParen = 1
symbol_number LeftBracket = 2
symbol_number RightBracket = 3
symbol_number LeftBrace = 4
symbol_number RightBrace = 5
symbol_number Comma = 6
symbol_number Semicolon = 7
symbol_number Colon = 8
symbol_number Dot = 9
symbol_number Bar = 10
symbol_number BarBar = 11
symbol_number AndAnd = 12
symbol_number Bang = 13
symbol_number Equals = 14
symbol_number EqualsEquals = 15
symbol_number BangEquals = 16
symbol_number Less = 17
symbol_number LessEquals = 18
symbol_number Greater = 19
symbol_number GreaterEquals = 20
symbol_number Plus = 21
symbol_number Minus = 22
symbol_number Star = 23
symbol_number Slash = 24
symbol_number Percent = 25

-- they are one symbol
abbrev pub same_symbol : Symbol → Symbol → Bool
same_symbol a b = symbol_number a == symbol_number b
