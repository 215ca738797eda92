-- The arguments of a call of a script, by their tokens.
use Rattle.std.specs.Prelude.{Bool, true, false, ◌&&◌, if◌then◌else◌, List, [], ◌∷◌, Option, Some, None, pos}
use Rattle.weld_data.specs.declared.kind.Kind.{Kind}
use Rattle.weld_data.specs.declared.kind.Kind.TheVariants as kinds
use Rattle.weld_grammar.specs.declared.terminals.class.Class.{Class}
use Rattle.weld_grammar.specs.declared.terminals.class.Class.TheVariants as classes
use Rattle.weld_grammar.specs.declared.terminals.token.Token.{Token}
use Rattle.weld_grammar.specs.declared.terminals.symbol.Symbol.TheVariants.{Minus}
use Rattle.weld_grammar.specs.declared.terminals.reserved.Reserved.TheVariants as words
use Rattle.weld_grammar.specs.declared.terminal.Terminal.TheVariants.{Sign, Number}
use Rattle.weld_grammar.specs.Grammar.{is_of}
use Rattle.weld_tokens.specs.Literals.{is_in_range, literal_value, string_value}
use Rattle.weld_read_script.specs.declared.statements.statement.Argument.{Argument}
use Rattle.weld_read_script.specs.declared.statements.statement.Argument.TheVariants.{Name, Literal, OutOfRange, Chars}

-- the kind of a number: i64 with `L`, else i32
abbrev pub number_kind : Class → Kind
number_kind classes.Long = kinds.I64
number_kind _ = kinds.I32

-- a number, behind a `-` or not
abbrev pub number_read : Bool → Token → Argument
number_read negative t =
    if is_in_range negative t.class t.word then Literal (number_kind t.class) (literal_value negative t.word) else OutOfRange

-- an argument of one token
abbrev pub one_token : Class → Token → Option Argument
one_token classes.Name t = Some (Name t.word)
one_token classes.Int t = Some (number_read false t)
one_token classes.Long t = Some (number_read false t)
one_token (classes.Reserved words.False) t = Some (Literal kinds.Bool (pos 0))
one_token (classes.Reserved words.True) t = Some (Literal kinds.Bool (pos 1))
one_token classes.Chars t = Some (Chars (string_value t.word))
one_token _ t = None

-- an argument: a name, a number with a `-` or without, `true`, `false` or a string
abbrev pub argument_of : List Token → Option Argument
argument_of (t ∷ []) = one_token t.class t
argument_of (t ∷ u ∷ []) = if is_of (Sign Minus) t.class && is_of Number u.class then Some (number_read true u) else None
argument_of _ = None
