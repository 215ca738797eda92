-- Each symbol and each reserved word is the token of its own bytes.
use Rattle.std.proofs.Common.{◌≡◌, Some, refl}
use Rattle.weld_grammar.specs.Symbols.{symbol_text}
use Rattle.weld_grammar.specs.ReservedWords.{reserved_text}
use Rattle.weld_grammar.specs.declared.terminals.symbol.Symbol.{Symbol}
use Rattle.weld_grammar.specs.declared.terminals.symbol.Symbol.TheVariants.{LeftParen, RightParen, LeftBracket, RightBracket, LeftBrace, RightBrace, Comma, Semicolon, Colon, Dot, Bar, BarBar, AndAnd, Bang, Equals, EqualsEquals, BangEquals, Less, LessEquals, Greater, GreaterEquals, Plus, Minus, Star, Slash, Percent}
use Rattle.weld_grammar.specs.declared.terminals.reserved.Reserved.{Reserved}
use Rattle.weld_grammar.specs.declared.terminals.reserved.Reserved.TheVariants.{Let, If, Select, Lookup, Keyexists, Len, Slice, Merge, Result, For, Iterate, Zip, Iter, Vec, Dict, Bool as BoolWord, I8, I16, I32, I64, U8, U16, U32, U64, Vecbuilder, Appender, Merger, Dictmerger, Vecmerger, Groupbuilder, Groupmerger, True, False, Min, Max, Macro}
use Rattle.weld_grammar.specs.declared.terminals.class.Class.TheVariants as classes
use Rattle.weld_tokens.specs.Words.{class_of, word_class}

pub spelled_symbol : (s : Symbol) → class_of (symbol_text s) ≡ Some (classes.Symbol s)
unfolding class_of
spelled_symbol LeftParen = refl
spelled_symbol RightParen = refl
spelled_symbol LeftBracket = refl
spelled_symbol RightBracket = refl
spelled_symbol LeftBrace = refl
spelled_symbol RightBrace = refl
spelled_symbol Comma = refl
spelled_symbol Semicolon = refl
spelled_symbol Colon = refl
spelled_symbol Dot = refl
spelled_symbol Bar = refl
spelled_symbol BarBar = refl
spelled_symbol AndAnd = refl
spelled_symbol Bang = refl
spelled_symbol Equals = refl
spelled_symbol EqualsEquals = refl
spelled_symbol BangEquals = refl
spelled_symbol Less = refl
spelled_symbol LessEquals = refl
spelled_symbol Greater = refl
spelled_symbol GreaterEquals = refl
spelled_symbol Plus = refl
spelled_symbol Minus = refl
spelled_symbol Star = refl
spelled_symbol Slash = refl
spelled_symbol Percent = refl

pub spelled_reserved : (r : Reserved) → class_of (reserved_text r) ≡ Some (classes.Reserved r)
unfolding class_of word_class
spelled_reserved Let = refl
spelled_reserved If = refl
spelled_reserved Select = refl
spelled_reserved Lookup = refl
spelled_reserved Keyexists = refl
spelled_reserved Len = refl
spelled_reserved Slice = refl
spelled_reserved Merge = refl
spelled_reserved Result = refl
spelled_reserved For = refl
spelled_reserved Iterate = refl
spelled_reserved Zip = refl
spelled_reserved Iter = refl
spelled_reserved Vec = refl
spelled_reserved Dict = refl
spelled_reserved BoolWord = refl
spelled_reserved I8 = refl
spelled_reserved I16 = refl
spelled_reserved I32 = refl
spelled_reserved I64 = refl
spelled_reserved U8 = refl
spelled_reserved U16 = refl
spelled_reserved U32 = refl
spelled_reserved U64 = refl
spelled_reserved Vecbuilder = refl
spelled_reserved Appender = refl
spelled_reserved Merger = refl
spelled_reserved Dictmerger = refl
spelled_reserved Vecmerger = refl
spelled_reserved Groupbuilder = refl
spelled_reserved Groupmerger = refl
spelled_reserved True = refl
spelled_reserved False = refl
spelled_reserved Min = refl
spelled_reserved Max = refl
spelled_reserved Macro = refl
