-- The first refusal of a text, by what its bytes, its tokens and their grammar show. What the grammar finds is a parameter.
use Rattle.std.specs.Prelude.{ℕ, Bool, true, false, not, ◌&&◌, if◌then◌else◌, List, [], ◌∷◌, Option, Some, None}
use Rattle.std.specs.Option.{option_map}
use Rattle.weld_tree.specs.declared.place.Place.{Place}
use Rattle.weld_tree.specs.declared.code.Code.{Code}
use Rattle.weld_tree.specs.declared.code.Code.TheVariants.{X2, X3, M3, M4, M5, M6, M7, M8, M9}
use Rattle.weld_tree.specs.declared.refusal.Refusal.{Refusal}
use Rattle.weld_tree.specs.declared.refusal.Refusal.TheVariants.{At, Size}
use Rattle.weld_grammar.specs.declared.terminals.symbol.Symbol.TheVariants.{RightParen, RightBracket, RightBrace, Minus}
use Rattle.weld_grammar.specs.declared.terminals.reserved.Reserved.TheVariants.{True as TrueWord, False as FalseWord}
use Rattle.weld_grammar.specs.declared.terminals.class.Class.{Class}
use Rattle.weld_grammar.specs.declared.terminals.class.Class.TheVariants as classes
use Rattle.weld_grammar.specs.declared.terminals.token.Token.{Token}
use Rattle.weld_tokens.specs.declared.order.Findings.{Findings}
use Rattle.weld_tokens.specs.Literals.{is_in_range}
use Rattle.weld_tokens.specs.TokenLimits.{has_too_many_tokens, first_long_name}

-- a number that its kind doesn't have, where `negative` says that it is that of a negative literal
abbrev pub out_of_range : Class → Bool → List ℕ → Bool
out_of_range (classes.Int) negative word = not (is_in_range negative classes.Int word)
out_of_range (classes.Long) negative word = not (is_in_range negative classes.Long word)
out_of_range _ negative word = false

-- X3: the place of the first number out of its range; each token with whether it is the number of a negative literal
abbrev pub first_out_of_range : List Bool → List Token → Option Place
first_out_of_range [] ts = None
first_out_of_range (n ∷ ns) [] = None
first_out_of_range (n ∷ ns) (t ∷ ts) = if out_of_range t.class n t.word then Some t.place else first_out_of_range ns ts

-- an operand ends with the token, so that a `-` behind it stands between two operands
abbrev pub ends_operand : Class → Bool
ends_operand classes.Name = true
ends_operand classes.Int = true
ends_operand classes.Long = true
ends_operand classes.Field = true
ends_operand classes.Chars = true
ends_operand (classes.Reserved TrueWord) = true
ends_operand (classes.Reserved FalseWord) = true
ends_operand (classes.Symbol RightParen) = true
ends_operand (classes.Symbol RightBracket) = true
ends_operand (classes.Symbol RightBrace) = true
ends_operand _ = false

abbrev pub is_minus : Class → Bool
is_minus (classes.Symbol Minus) = true
is_minus _ = false

-- which of these tokens stand right behind a `-` that has no operand before it, as the number of a negative literal does. The first of them
-- stands so where `behind` says it, and behind an operand where `operand` does
abbrev pub behind_signs : Bool → Bool → List Token → List Bool
behind_signs operand behind [] = []
behind_signs operand behind (t ∷ ts) = behind ∷ behind_signs (ends_operand t.class) (is_minus t.class && not operand) ts

-- X3 of the tokens of a program
abbrev pub first_number_out_of_range : List Token → Option Place
first_number_out_of_range tokens = first_out_of_range (behind_signs false false tokens) tokens

-- a refusal by a code at a place, and one of the whole
abbrev pub at : Code → Option Place → Option Refusal
at code place = option_map (At code) place

abbrev pub whole : Code → Bool → Option Refusal
whole code refused = if refused then Some (Size code) else None

-- a name that no binder in scope bears, or a reserved word in the place of one
abbrev pub named : Option (Code × Place) → Option Refusal
named found = option_map (λ f. At f.0 f.1) found

-- the first of these
abbrev pub or_else : Option Refusal → Option Refusal → Option Refusal
or_else None other = other
or_else (Some refusal) other = Some refusal

-- the first refusal behind X1, by the tokens and what their grammar finds
abbrev pub first_refusal : List Token → Findings → Option Refusal
first_refusal tokens found =
    or_else (whole M3 (has_too_many_tokens tokens))
    (or_else (at X2 found.ungrammatical)
    (or_else (at X3 found.out_of_range)
    (or_else (at M4 found.too_deep)
    (or_else (whole M5 found.too_many_lets)
    (or_else (at M6 found.too_large_type)
    (or_else (at M7 found.too_many_parameters)
    (or_else (at M8 found.too_many_fields)
    (or_else (at M9 (first_long_name tokens))
    (named found.misnamed)))))))))
