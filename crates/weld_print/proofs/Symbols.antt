-- The symbols of printed text.
use Rattle.std.proofs.Common.{◌≡◌, ℕ, false, ◌==◌, List, [], ◌∷◌, refl, ap, ◌∙◌, arith, Some, None}
use Rattle.std.specs.Option.{option_map}
use Rattle.weld_grammar.specs.declared.terminals.symbol.Symbol.{Symbol}
use Rattle.weld_grammar.specs.declared.terminals.symbol.Symbol.TheVariants.{LeftParen, RightParen, LeftBracket, RightBracket, LeftBrace, RightBrace, Comma, Semicolon, Colon, Dot, Bar, BarBar, AndAnd, Bang, Equals, EqualsEquals, BangEquals, Less, LessEquals, Greater, GreaterEquals, Plus, Minus, Star, Slash, Percent}
use Rattle.weld_grammar.specs.declared.terminals.class.Class.TheVariants as classes
use Rattle.weld_tokens.specs.Bytes.{is_letter, is_digit}
use Rattle.weld_tokens.specs.Words.{class_of, single, double, symbol_of}
use Rattle.weld_tokens.specs.Tokens.{gap_len}
use Rattle.weld_print.proofs.Longest.{Lexeme, NoneLonger, lexeme}

-- no symbol of two bytes stands here
abbrev pub Follows : ℕ → List ℕ → Type 0
Follows b [] = Unit {0}
Follows b (d ∷ ds) = double b d ≡ None

-- a byte that begins no word, number, field or string
record IsOther (b : ℕ) : Type 0 where
  letter : is_letter b ≡ false
  digit : is_digit b ≡ false
  dollar : (b == 36) ≡ false
  quote : (b == 34) ≡ false

other_class : (b : ℕ) (bs : List ℕ) → IsOther b → class_of (b ∷ bs) ≡ option_map classes.Symbol (symbol_of b bs)
unfolding class_of
other_class b bs o = rw (o.letter, o.digit, o.dollar, o.quote) refl

two_none : (b d : ℕ) (more : List ℕ) → IsOther b → double b d ≡ None → class_of (b ∷ d ∷ more) ≡ None
two_none b d [] o none = other_class b (d ∷ []) o ∙ ap (option_map classes.Symbol) none
two_none b d (c ∷ cs) o none = other_class b (d ∷ c ∷ cs) o

single_none : (b : ℕ) (rest : List ℕ) → IsOther b → Follows b rest → NoneLonger (b ∷ []) rest
single_none b [] o f = tt
single_none b (d ∷ ds) o f = λ more. two_none b d more o f

double_none : (b c : ℕ) (rest : List ℕ) → IsOther b → NoneLonger (b ∷ c ∷ []) rest
double_none b c [] o = tt
double_none b c (d ∷ ds) o = λ more. other_class b (c ∷ d ∷ more) o

single_lexeme : (b : ℕ) (s : Symbol) (rest : List ℕ) → IsOther b → single b ≡ Some s → Follows b rest → gap_len (b ∷ rest) ≡ 0 → Lexeme (b ∷ []) (classes.Symbol s) rest
single_lexeme b s rest o is f gap = lexeme (b ∷ []) rest (classes.Symbol s) (omega arith) (other_class b [] o ∙ ap (option_map classes.Symbol) is) (single_none b rest o f) gap

double_lexeme : (b c : ℕ) (s : Symbol) (rest : List ℕ) → IsOther b → double b c ≡ Some s → gap_len (b ∷ c ∷ rest) ≡ 0 → Lexeme (b ∷ c ∷ []) (classes.Symbol s) rest
double_lexeme b c s rest o is gap = lexeme (b ∷ c ∷ []) rest (classes.Symbol s) (omega arith) (other_class b (c ∷ []) o ∙ ap (option_map classes.Symbol) is) (double_none b c rest o) gap

pub left_paren : (rest : List ℕ) → Lexeme (40 ∷ []) (classes.Symbol LeftParen) rest
left_paren rest = single_lexeme 40 LeftParen rest (record { letter = refl; digit = refl; dollar = refl; quote = refl }) refl (follows rest) refl
  where
    follows : (rest : List ℕ) → Follows 40 rest
    follows [] = tt
    follows (d ∷ ds) = refl

pub right_paren : (rest : List ℕ) → Lexeme (41 ∷ []) (classes.Symbol RightParen) rest
right_paren rest = single_lexeme 41 RightParen rest (record { letter = refl; digit = refl; dollar = refl; quote = refl }) refl (follows rest) refl
  where
    follows : (rest : List ℕ) → Follows 41 rest
    follows [] = tt
    follows (d ∷ ds) = refl

pub left_bracket : (rest : List ℕ) → Lexeme (91 ∷ []) (classes.Symbol LeftBracket) rest
left_bracket rest = single_lexeme 91 LeftBracket rest (record { letter = refl; digit = refl; dollar = refl; quote = refl }) refl (follows rest) refl
  where
    follows : (rest : List ℕ) → Follows 91 rest
    follows [] = tt
    follows (d ∷ ds) = refl

pub right_bracket : (rest : List ℕ) → Lexeme (93 ∷ []) (classes.Symbol RightBracket) rest
right_bracket rest = single_lexeme 93 RightBracket rest (record { letter = refl; digit = refl; dollar = refl; quote = refl }) refl (follows rest) refl
  where
    follows : (rest : List ℕ) → Follows 93 rest
    follows [] = tt
    follows (d ∷ ds) = refl

pub left_brace : (rest : List ℕ) → Lexeme (123 ∷ []) (classes.Symbol LeftBrace) rest
left_brace rest = single_lexeme 123 LeftBrace rest (record { letter = refl; digit = refl; dollar = refl; quote = refl }) refl (follows rest) refl
  where
    follows : (rest : List ℕ) → Follows 123 rest
    follows [] = tt
    follows (d ∷ ds) = refl

pub right_brace : (rest : List ℕ) → Lexeme (125 ∷ []) (classes.Symbol RightBrace) rest
right_brace rest = single_lexeme 125 RightBrace rest (record { letter = refl; digit = refl; dollar = refl; quote = refl }) refl (follows rest) refl
  where
    follows : (rest : List ℕ) → Follows 125 rest
    follows [] = tt
    follows (d ∷ ds) = refl

pub comma : (rest : List ℕ) → Lexeme (44 ∷ []) (classes.Symbol Comma) rest
comma rest = single_lexeme 44 Comma rest (record { letter = refl; digit = refl; dollar = refl; quote = refl }) refl (follows rest) refl
  where
    follows : (rest : List ℕ) → Follows 44 rest
    follows [] = tt
    follows (d ∷ ds) = refl

pub semicolon : (rest : List ℕ) → Lexeme (59 ∷ []) (classes.Symbol Semicolon) rest
semicolon rest = single_lexeme 59 Semicolon rest (record { letter = refl; digit = refl; dollar = refl; quote = refl }) refl (follows rest) refl
  where
    follows : (rest : List ℕ) → Follows 59 rest
    follows [] = tt
    follows (d ∷ ds) = refl

pub colon : (rest : List ℕ) → Lexeme (58 ∷ []) (classes.Symbol Colon) rest
colon rest = single_lexeme 58 Colon rest (record { letter = refl; digit = refl; dollar = refl; quote = refl }) refl (follows rest) refl
  where
    follows : (rest : List ℕ) → Follows 58 rest
    follows [] = tt
    follows (d ∷ ds) = refl

pub dot : (rest : List ℕ) → Lexeme (46 ∷ []) (classes.Symbol Dot) rest
dot rest = single_lexeme 46 Dot rest (record { letter = refl; digit = refl; dollar = refl; quote = refl }) refl (follows rest) refl
  where
    follows : (rest : List ℕ) → Follows 46 rest
    follows [] = tt
    follows (d ∷ ds) = refl

pub plus : (rest : List ℕ) → Lexeme (43 ∷ []) (classes.Symbol Plus) rest
plus rest = single_lexeme 43 Plus rest (record { letter = refl; digit = refl; dollar = refl; quote = refl }) refl (follows rest) refl
  where
    follows : (rest : List ℕ) → Follows 43 rest
    follows [] = tt
    follows (d ∷ ds) = refl

pub minus : (rest : List ℕ) → Lexeme (45 ∷ []) (classes.Symbol Minus) rest
minus rest = single_lexeme 45 Minus rest (record { letter = refl; digit = refl; dollar = refl; quote = refl }) refl (follows rest) refl
  where
    follows : (rest : List ℕ) → Follows 45 rest
    follows [] = tt
    follows (d ∷ ds) = refl

pub star : (rest : List ℕ) → Lexeme (42 ∷ []) (classes.Symbol Star) rest
star rest = single_lexeme 42 Star rest (record { letter = refl; digit = refl; dollar = refl; quote = refl }) refl (follows rest) refl
  where
    follows : (rest : List ℕ) → Follows 42 rest
    follows [] = tt
    follows (d ∷ ds) = refl

pub slash : (rest : List ℕ) → Lexeme (47 ∷ []) (classes.Symbol Slash) rest
slash rest = single_lexeme 47 Slash rest (record { letter = refl; digit = refl; dollar = refl; quote = refl }) refl (follows rest) refl
  where
    follows : (rest : List ℕ) → Follows 47 rest
    follows [] = tt
    follows (d ∷ ds) = refl

pub percent : (rest : List ℕ) → Lexeme (37 ∷ []) (classes.Symbol Percent) rest
percent rest = single_lexeme 37 Percent rest (record { letter = refl; digit = refl; dollar = refl; quote = refl }) refl (follows rest) refl
  where
    follows : (rest : List ℕ) → Follows 37 rest
    follows [] = tt
    follows (d ∷ ds) = refl

pub bar : (rest : List ℕ) → Follows 124 rest → Lexeme (124 ∷ []) (classes.Symbol Bar) rest
bar rest f = single_lexeme 124 Bar rest (record { letter = refl; digit = refl; dollar = refl; quote = refl }) refl f refl

pub bang : (rest : List ℕ) → Follows 33 rest → Lexeme (33 ∷ []) (classes.Symbol Bang) rest
bang rest f = single_lexeme 33 Bang rest (record { letter = refl; digit = refl; dollar = refl; quote = refl }) refl f refl

pub equals : (rest : List ℕ) → Follows 61 rest → Lexeme (61 ∷ []) (classes.Symbol Equals) rest
equals rest f = single_lexeme 61 Equals rest (record { letter = refl; digit = refl; dollar = refl; quote = refl }) refl f refl

pub less : (rest : List ℕ) → Follows 60 rest → Lexeme (60 ∷ []) (classes.Symbol Less) rest
less rest f = single_lexeme 60 Less rest (record { letter = refl; digit = refl; dollar = refl; quote = refl }) refl f refl

pub greater : (rest : List ℕ) → Follows 62 rest → Lexeme (62 ∷ []) (classes.Symbol Greater) rest
greater rest f = single_lexeme 62 Greater rest (record { letter = refl; digit = refl; dollar = refl; quote = refl }) refl f refl

pub bar_bar : (rest : List ℕ) → Lexeme (124 ∷ 124 ∷ []) (classes.Symbol BarBar) rest
bar_bar rest = double_lexeme 124 124 BarBar rest (record { letter = refl; digit = refl; dollar = refl; quote = refl }) refl refl

pub and_and : (rest : List ℕ) → Lexeme (38 ∷ 38 ∷ []) (classes.Symbol AndAnd) rest
and_and rest = double_lexeme 38 38 AndAnd rest (record { letter = refl; digit = refl; dollar = refl; quote = refl }) refl refl

pub equals_equals : (rest : List ℕ) → Lexeme (61 ∷ 61 ∷ []) (classes.Symbol EqualsEquals) rest
equals_equals rest = double_lexeme 61 61 EqualsEquals rest (record { letter = refl; digit = refl; dollar = refl; quote = refl }) refl refl

pub bang_equals : (rest : List ℕ) → Lexeme (33 ∷ 61 ∷ []) (classes.Symbol BangEquals) rest
bang_equals rest = double_lexeme 33 61 BangEquals rest (record { letter = refl; digit = refl; dollar = refl; quote = refl }) refl refl

pub less_equals : (rest : List ℕ) → Lexeme (60 ∷ 61 ∷ []) (classes.Symbol LessEquals) rest
less_equals rest = double_lexeme 60 61 LessEquals rest (record { letter = refl; digit = refl; dollar = refl; quote = refl }) refl refl

pub greater_equals : (rest : List ℕ) → Lexeme (62 ∷ 61 ∷ []) (classes.Symbol GreaterEquals) rest
greater_equals rest = double_lexeme 62 61 GreaterEquals rest (record { letter = refl; digit = refl; dollar = refl; quote = refl }) refl refl
