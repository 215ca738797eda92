-- What a line of a script says.
use Rattle.std.specs.Prelude.{◌≡◌, ◌<◌, ◌⊎◌, ℕ, Bool, ◌&&◌, if◌then◌else◌, nat_lt, List, [], ◌∷◌, length, codes, Option, Some, None, option_map, option_and_then, MatchOption, MatchBool}
use Rattle.std.specs.Str.{bytes_eq}
use Rattle.weld_tree.specs.declared.place.Place.{Place}
use Rattle.weld_tree.specs.TypeTree.{TypeTree}
use Rattle.weld_grammar.specs.declared.terminals.token.Token.{Token}
use Rattle.weld_grammar.specs.declared.terminals.symbol.Symbol.TheVariants.{LeftParen, Colon, Dot, Equals}
use Rattle.weld_grammar.specs.declared.terminal.Terminal.TheVariants.{Sign, Name}
use Rattle.weld_grammar.specs.Grammar.{is_of}
use Rattle.weld_tokens.specs.Tokens.{AreTokens, IsWrongAt}
use Rattle.weld_tokens.specs.TokenLimits.{first_long_name}
use Rattle.weld_calls.specs.CallTypes.{IsValueType}
use Rattle.weld_read_script.specs.declared.statements.statement.Argument.{Argument}
use Rattle.weld_read_script.specs.declared.statements.statement.Columns.{Columns}
use Rattle.weld_read_script.specs.declared.statements.statement.Statement.{Statement}
use Rattle.weld_read_script.specs.declared.statements.statement.Statement.TheVariants.{Input, Table, Call, Show}
use Rattle.weld_read_script.specs.declared.statements.statement.Saying.{Saying}
use Rattle.weld_read_script.specs.declared.statements.statement.Saying.TheVariants as sayings
use Rattle.weld_read_script.specs.Parts.{parts, before_close, all_read, is_call_word, name_of, TypeRead}
use Rattle.weld_read_script.specs.Arguments.{argument_of}
use Rattle.weld_read_script.specs.Columns.{ColumnsRead}

-- ---- the four forms, behind their first tokens

-- behind `input`: a name, `:`, and a type of values
abbrev pub SaysInput : Token → List Token → Option Statement → Type 0
SaysInput name [] said = said ≡ None
SaysInput name (colon ∷ ts) said =
    MatchBool (is_of Name name.class && is_of (Sign Colon) colon.class)
    ((found : Option TypeTree) × TypeRead IsValueType ts found × (said ≡ option_map (Input name.word) found)) (said ≡ None)

-- the table of these columns, 16 at most
abbrev pub SaysColumns : List ℕ → List (List Token) → Option Statement → Type 0
SaysColumns name ps said =
    MatchBool (nat_lt 16 (length ps)) (said ≡ None) ((columns : Option Columns) × ColumnsRead ps columns × (said ≡ option_map (Table name) columns))

-- behind `table`: a name, and columns in parentheses
abbrev pub SaysTable : Token → List Token → Option Statement → Type 0
SaysTable name [] said = said ≡ None
SaysTable name (paren ∷ ts) said =
    MatchBool (is_of Name name.class && is_of (Sign LeftParen) paren.class)
    (MatchOption (before_close ts) (said ≡ None) (λ inner. SaysColumns name.word (parts inner) said)) (said ≡ None)

-- arguments with commas between them, before the `)` that ends the line
abbrev pub arguments_of : List Token → Option (List Argument)
arguments_of ts = option_and_then (λ inner. all_read argument_of (parts inner)) (before_close ts)

-- behind `NAME =`: a library, `.`, a call, and arguments in parentheses
abbrev pub call_of : List ℕ → List Token → Option Statement
call_of name (library ∷ dot ∷ call ∷ paren ∷ ts) =
    if is_of Name library.class && is_of (Sign Dot) dot.class && is_call_word call.class && is_of (Sign LeftParen) paren.class
    then option_map (Call name library.word call.word) (arguments_of ts)
    else None
call_of name _ = None

-- behind `show`: names with commas between them
abbrev pub show_of : List Token → Option Statement
show_of ts = option_map Show (all_read name_of (parts ts))

-- ---- lines

abbrev pub is_written : List ℕ → Token → Bool
is_written text t = bytes_eq text t.word

-- what the first two tokens begin; a line whose second token is `=` is a call
abbrev pub SaysBehind : Token → Token → List Token → Option Statement → Type 0
SaysBehind t u ts said =
    MatchBool (is_of (Sign Equals) u.class) (said ≡ call_of t.word ts)
    (MatchBool (is_written (codes "input") t) (SaysInput u ts said)
    (MatchBool (is_written (codes "table") t) (SaysTable u ts said)
    (MatchBool (is_written (codes "show") t) (said ≡ show_of (u ∷ ts)) (said ≡ None))))

-- the statement of these tokens; None where they have none of the forms
abbrev pub SaysForm : List Token → Option Statement → Type 0
SaysForm (t ∷ u ∷ ts) said = MatchBool (is_of Name t.class) (SaysBehind t u ts said) (said ≡ None)
SaysForm _ said = said ≡ None

-- a word has 64 bytes at most
abbrev pub Says : List Token → Option Statement → Type 0
Says ts said = MatchOption (first_long_name ts) (SaysForm ts said) (λ place. said ≡ None)

-- what a line says: nothing, where it has no token; a statement; or nothing that has a form, where no token begins at some
-- byte or the tokens have no form
abbrev pub LineSays : List ℕ → Saying → Type 0
LineSays line sayings.Nothing = AreTokens line []
LineSays line (sayings.States statement) = (ts : List Token) × AreTokens line ts × Says ts (Some statement)
LineSays line sayings.NoForm =
    ((place : Place) × IsWrongAt line place) ⊎ ((ts : List Token) × AreTokens line ts × (0 < length ts) × Says ts None)
