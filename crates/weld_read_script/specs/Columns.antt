-- The columns of a table that a script declares, by their tokens.
use Rattle.std.specs.Prelude.{◌≡◌, ℕ, if◌then◌else◌, List, [], ◌∷◌, Option, Some, None, option_map, MatchOption, MatchBool}
use Rattle.weld_grammar.specs.declared.terminals.token.Token.{Token}
use Rattle.weld_grammar.specs.declared.terminals.symbol.Symbol.TheVariants.{Colon}
use Rattle.weld_grammar.specs.declared.terminal.Terminal.TheVariants.{Sign, Word, Chars}
use Rattle.weld_grammar.specs.Grammar.{is_of}
use Rattle.weld_tokens.specs.Literals.{string_value}
use Rattle.weld_tree.specs.TypeTree.{TypeTree}
use Rattle.weld_table.specs.Table.{IsCell}
use Rattle.weld_read_script.specs.declared.statements.statement.Column.{Column}
use Rattle.weld_read_script.specs.declared.statements.statement.Columns.{Columns}
use Rattle.weld_read_script.specs.Parts.{TypeRead}

-- the name of a column: a word, reserved or not, or a string
abbrev pub column_name : Token → Option (List ℕ)
column_name t =
    if is_of Word t.class then Some t.word
    else if is_of Chars t.class then Some (string_value t.word)
    else None

-- a column of that name, if there is one, whose cells have the type that the tokens spell
abbrev pub NamedColumn : Option (List ℕ) → List Token → Option Column → Type 0
NamedColumn None ts column = column ≡ None
NamedColumn (Some name) ts column =
    (cell : Option TypeTree) × TypeRead IsCell ts cell × (column ≡ option_map (λ t. record { name = name; cell = t }) cell)

-- a column: its name, `:`, and the type of its cells
abbrev pub ColumnRead : List Token → Option Column → Type 0
ColumnRead (t ∷ u ∷ ts) column = MatchBool (is_of (Sign Colon) u.class) (NamedColumn (column_name t) ts column) (column ≡ None)
ColumnRead _ column = column ≡ None

-- one column more before the others
abbrev pub with_first : Column → Columns → Columns
with_first c more = record { names = c.name ∷ more.names; cells = c.cell ∷ more.cells }

-- the columns, where each part is one
abbrev pub ColumnsRead : List (List Token) → Option Columns → Type 0
ColumnsRead [] columns = columns ≡ Some (record { names = []; cells = [] })
ColumnsRead (p ∷ ps) columns =
    (first : Option Column) × ColumnRead p first
    × MatchOption first (columns ≡ None) (λ c. (more : Option Columns) × ColumnsRead ps more × (columns ≡ option_map (with_first c) more))
