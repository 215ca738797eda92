-- Limits of programs that their tokens show: parameters, fields, legs and written types. They are read of tokens that derive a program.
use Rattle.std.specs.Prelude.{ℕ, ◌+◌, ◌-◌, Bool, true, false, ◌||◌, ◌&&◌, ◌==◌, nat_le, if◌then◌else◌, List, [], ◌∷◌, Option, Some, None}
use Rattle.weld_tree.specs.declared.place.Place.{Place}
use Rattle.weld_grammar.specs.declared.terminals.symbol.Symbol.TheVariants.{LeftParen, LeftBracket, LeftBrace, Comma, Colon, Bar}
use Rattle.weld_grammar.specs.declared.terminals.reserved.Reserved.TheVariants.{Zip, Vec, Dict, Bool as BoolWord, I8, I16, I32, I64, U8, U16, U32, U64, Vecbuilder, Appender, Merger, Dictmerger, Vecmerger, Groupbuilder, Groupmerger}
use Rattle.weld_grammar.specs.declared.terminals.class.Class.{Class}
use Rattle.weld_grammar.specs.declared.terminals.class.Class.TheVariants as classes
use Rattle.weld_grammar.specs.declared.terminals.token.Token.{Token}
use Rattle.weld_tokens.specs.TokenLimits.{is_opening, is_closing}
use Rattle.weld_tokens.specs.Depth.{earlier}

-- `,`, `|`, `:`, `(`, `[` and `{`
abbrev pub is_comma : Class → Bool
is_comma (classes.Symbol Comma) = true
is_comma _ = false

abbrev pub is_bar : Class → Bool
is_bar (classes.Symbol Bar) = true
is_bar _ = false

abbrev pub is_colon : Class → Bool
is_colon (classes.Symbol Colon) = true
is_colon _ = false

abbrev pub is_paren : Class → Bool
is_paren (classes.Symbol LeftParen) = true
is_paren _ = false

abbrev pub is_bracket : Class → Bool
is_bracket (classes.Symbol LeftBracket) = true
is_bracket _ = false

abbrev pub is_brace : Class → Bool
is_brace (classes.Symbol LeftBrace) = true
is_brace _ = false

-- the word `zip`
abbrev pub is_zip : Class → Bool
is_zip (classes.Reserved Zip) = true
is_zip _ = false

-- the word of a scalar type
abbrev pub is_kind : Class → Bool
is_kind (classes.Reserved BoolWord) = true
is_kind (classes.Reserved I8) = true
is_kind (classes.Reserved I16) = true
is_kind (classes.Reserved I32) = true
is_kind (classes.Reserved I64) = true
is_kind (classes.Reserved U8) = true
is_kind (classes.Reserved U16) = true
is_kind (classes.Reserved U32) = true
is_kind (classes.Reserved U64) = true
is_kind _ = false

-- the word of a builder of one type, or of two
abbrev pub builds_one : Class → Bool
builds_one (classes.Reserved Vecbuilder) = true
builds_one (classes.Reserved Appender) = true
builds_one (classes.Reserved Merger) = true
builds_one (classes.Reserved Vecmerger) = true
builds_one _ = false

abbrev pub builds_two : Class → Bool
builds_two (classes.Reserved Dictmerger) = true
builds_two (classes.Reserved Groupbuilder) = true
builds_two (classes.Reserved Groupmerger) = true
builds_two _ = false

-- the word of a vector or a dictionary
abbrev pub holds : Class → Bool
holds (classes.Reserved Vec) = true
holds (classes.Reserved Dict) = true
holds _ = false

-- how many brackets are open behind a token, of those that opened behind some place
abbrev pub open_behind : ℕ → Class → ℕ
open_behind brackets class = if is_opening class then brackets + 1 else if is_closing class then brackets - 1 else brackets

-- the list ends at this token: parameters at `|`, others at a bracket that closes
abbrev pub ends_list : Bool → Class → Bool
ends_list params class = if params then is_bar class else is_closing class

-- what stands in a list behind so many of its commas, from its first item on, where so many brackets are open; nothing where it has fewer
abbrev pub behind_commas : Bool → ℕ → ℕ → List Token → List Token
behind_commas params commas brackets [] = []
behind_commas params commas brackets (t ∷ ts) =
    if commas == 0 then t ∷ ts
    else if brackets == 0 && ends_list params t.class then []
    else if brackets == 0 && is_comma t.class then behind_commas params (commas - 1) 0 ts
    else behind_commas params commas (open_behind brackets t.class) ts

-- the place of the first of these tokens
abbrev pub first_place : List Token → Option Place
first_place [] = None
first_place (t ∷ ts) = Some t.place

-- M7: the place of the name of the 17th parameter
abbrev pub first_parameter_too_many : List Token → Option Place
first_parameter_too_many [] = None
first_parameter_too_many (t ∷ ts) = if is_bar t.class then first_place (behind_commas true 16 0 ts) else None

-- the place of the 17th item of the list that begins with the first of these tokens, the fields of a struct or the legs of a `zip`
abbrev pub legs_behind : List Token → Option Place
legs_behind [] = None
legs_behind (t ∷ ts) = if is_paren t.class then first_place (behind_commas false 16 0 ts) else None

abbrev pub item_too_many : List Token → Option Place
item_too_many [] = None
item_too_many (t ∷ ts) = if is_brace t.class then first_place (behind_commas false 16 0 ts) else if is_zip t.class then legs_behind ts else None

-- M8: the place of the first token of the first field or leg that is the 17th of its list; behind that found before
abbrev pub field_too_many : Option Place → List Token → Option Place
field_too_many found [] = found
field_too_many found (t ∷ ts) = field_too_many (earlier found (item_too_many (t ∷ ts))) ts

abbrev pub first_field_too_many : List Token → Option Place
first_field_too_many tokens = field_too_many None tokens

-- a type node begins with the token
abbrev pub begins_type : Class → Bool
begins_type class = is_kind class || holds class || builds_one class || builds_two class || is_brace class

-- a type ends with the token, where it has no open bracket
abbrev pub ends_type : Class → Bool
ends_type class = is_kind class || is_closing class

-- how many type nodes there are up to a token
abbrev pub nodes_at : ℕ → Class → ℕ
nodes_at nodes class = if begins_type class then nodes + 1 else nodes

-- the type that has had so many nodes, and has so many open brackets, has more than 256 nodes or is deeper than 16; a node within n brackets has depth n + 1
abbrev pub is_too_large : ℕ → ℕ → List Token → Bool
is_too_large nodes brackets [] = false
is_too_large nodes brackets (t ∷ ts) =
    (begins_type t.class && (nat_le 256 nodes || nat_le 16 brackets))
    || (if open_behind brackets t.class == 0 && ends_type t.class then false else is_too_large (nodes_at nodes t.class) (open_behind brackets t.class) ts)

-- the place of the type at the front, where it is too large
abbrev pub type_too_large : List Token → Option Place
type_too_large tokens = if is_too_large 0 0 tokens then first_place tokens else None

-- the first of two places
abbrev pub first_of : Option Place → Option Place → Option Place
first_of None q = q
first_of (Some p) q = Some p

-- the place of the first type in a builder's brackets that is too large, of one type or of two
abbrev pub in_brackets : Bool → List Token → Option Place
in_brackets two [] = None
in_brackets two (t ∷ ts) =
    if is_bracket t.class then first_of (type_too_large ts) (if two then type_too_large (behind_commas false 1 0 ts) else None) else None

-- the place of the first type that is written directly behind this token, where it is too large: behind `:`, or in the brackets of a builder
abbrev pub type_behind : Class → List Token → Option Place
type_behind class ts =
    if is_colon class then type_too_large ts
    else if builds_one class then in_brackets false ts
    else if builds_two class then in_brackets true ts
    else None

-- M6: the place of the first token of the first written type that is too large
abbrev pub first_type_too_large : List Token → Option Place
first_type_too_large [] = None
first_type_too_large (t ∷ ts) = first_of (type_behind t.class ts) (first_type_too_large ts)
