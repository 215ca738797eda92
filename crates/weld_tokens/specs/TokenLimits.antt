-- The limits of a text that its bytes and its tokens show.
use Rattle.std.specs.Prelude.{ℕ, ◌+◌, ◌-◌, Bool, true, false, ◌||◌, ◌&&◌, nat_lt, if◌then◌else◌, List, [], ◌∷◌, length, Option, Some, None}
use Rattle.weld_tree.specs.declared.place.Place.{Place}
use Rattle.weld_grammar.specs.declared.terminals.symbol.Symbol.TheVariants.{LeftParen, RightParen, LeftBracket, RightBracket, LeftBrace, RightBrace, Bang, Minus}
use Rattle.weld_grammar.specs.declared.terminals.class.Class.{Class}
use Rattle.weld_grammar.specs.declared.terminals.class.Class.TheVariants as classes
use Rattle.weld_grammar.specs.declared.terminals.token.Token.{Token}

-- M2: the text has too many bytes
abbrev pub has_too_many_bytes : List ℕ → Bool
has_too_many_bytes text = nat_lt 262144 (length text)

-- a bracket that opens, or one that closes, of whatever shape
abbrev pub is_opening : Class → Bool
is_opening (classes.Symbol LeftParen) = true
is_opening (classes.Symbol LeftBracket) = true
is_opening (classes.Symbol LeftBrace) = true
is_opening _ = false

abbrev pub is_closing : Class → Bool
is_closing (classes.Symbol RightParen) = true
is_closing (classes.Symbol RightBracket) = true
is_closing (classes.Symbol RightBrace) = true
is_closing _ = false

-- `-` or `!`
abbrev pub is_sign : Class → Bool
is_sign (classes.Symbol Minus) = true
is_sign (classes.Symbol Bang) = true
is_sign _ = false

-- how many brackets are open at a token, from how many were before it; an opening one is open at its own token
abbrev pub open_at : ℕ → Class → ℕ
open_at brackets class = if is_opening class then brackets + 1 else if is_closing class then brackets - 1 else brackets

-- how long the run of signs is that ends at a token, from that of the token before it
abbrev pub run_at : ℕ → Class → ℕ
run_at run class = if is_sign class then run + 1 else 0

-- the nesting at a token: the open brackets, and the run of signs that ends at it or directly before it
abbrev pub nesting_at : ℕ → ℕ → Class → ℕ
nesting_at brackets run class = open_at brackets class + (if is_sign class then run + 1 else run)

-- some token nests deeper than 100, where so many brackets are open and so many signs stand before these tokens
abbrev pub nests_too_deep : ℕ → ℕ → List Token → Bool
nests_too_deep brackets run [] = false
nests_too_deep brackets run (t ∷ ts) = nat_lt 100 (nesting_at brackets run t.class) || nests_too_deep (open_at brackets t.class) (run_at run t.class) ts

-- M3: there are too many tokens, or some token nests too deep
abbrev pub has_too_many_tokens : List Token → Bool
has_too_many_tokens tokens = nat_lt 16384 (length tokens) || nests_too_deep 0 0 tokens

-- a name of more than 64 bytes
abbrev pub is_name : Class → Bool
is_name (classes.Name) = true
is_name _ = false

abbrev pub is_long_name : Token → Bool
is_long_name t = is_name t.class && nat_lt 64 (length t.word)

-- M9: the place of the first name that is too long
abbrev pub first_long_name : List Token → Option Place
first_long_name [] = None
first_long_name (t ∷ ts) = if is_long_name t then Some t.place else first_long_name ts
