-- The tokens of a text by longest match, with their places, and where no token begins.
use Rattle.std.specs.Prelude.{◌≡◌, ◌≢◌, ℕ, suc, zero, ◌+◌, ◌<◌, Bool, ◌==◌, if◌then◌else◌, List, [], ◌∷◌, length, take, drop, Some}
use Rattle.weld_tree.specs.declared.place.Place.{Place}
use Rattle.weld_tree.specs.declared.refusal.Refusal.{Refusal}
use Rattle.weld_tree.specs.declared.refusal.Refusal.TheVariants.{At, Memory}
use Rattle.weld_tree.specs.declared.code.Code.TheVariants.{X1}
use Rattle.weld_grammar.specs.declared.terminals.token.Token.{Token}
use Rattle.weld_tokens.specs.Bytes.{is_blank}
use Rattle.weld_tokens.specs.Words.{class_of, is_token}

-- the greatest number up to this one that passes the test; 0 where none above 0 does
abbrev pub greatest : (ℕ → Bool) → ℕ → ℕ
greatest test zero = zero
greatest test (suc n) = if test (suc n) then suc n else greatest test n

-- how many bytes the longest token at the front of a text has; 0 where no token begins there
unfoldable pub longest_token : List ℕ → ℕ
longest_token text = greatest (λ n. is_token (take n text)) (length text)

-- how many bytes of blanks and comments stand at the front of a text; a comment goes from `#` up to the end of its line
abbrev mutual
  pub gap_len : List ℕ → ℕ
  gap_len [] = 0
  gap_len (b ∷ bs) = if is_blank b then 1 + gap_len bs else if b == 35 then 1 + comment_len bs else 0

  -- the same within a comment
  pub comment_len : List ℕ → ℕ
  comment_len [] = 0
  comment_len (b ∷ bs) = if b == 10 then 1 + gap_len bs else 1 + comment_len bs

-- the text from its first token on
abbrev pub after_gap : List ℕ → List ℕ
after_gap text = drop (gap_len text) text

-- the bytes of the text's first token, and what follows them
abbrev pub first_word : List ℕ → List ℕ
first_word text = take (longest_token (after_gap text)) (after_gap text)

abbrev pub after_word : List ℕ → List ℕ
after_word text = drop (longest_token (after_gap text)) (after_gap text)

-- the place after a byte: LF begins a line, any other byte is one column
abbrev pub next_place : Place → ℕ → Place
next_place place b = if b == 10 then record { line = place.line + 1; column = 1 } else record { line = place.line; column = place.column + 1 }

-- the place after some bytes
abbrev pub place_after : Place → List ℕ → Place
place_after place [] = place
place_after place (b ∷ bs) = place_after (next_place place b) bs

-- the place where a text begins
abbrev pub start : Place
start = record { line = 1; column = 1 }

-- the place behind the last byte of a text
abbrev pub end_of : List ℕ → Place
end_of text = place_after start text

-- the place of the first token of a text that stands at this place, and the place behind that token
abbrev pub word_place : Place → List ℕ → Place
word_place place text = place_after place (take (gap_len text) text)

abbrev pub place_behind : Place → List ℕ → Place
place_behind place text = place_after (word_place place text) (first_word text)

-- the token is the first of a text that stands at this place
pub record IsFirst (place : Place) (text : List ℕ) (token : Token) : Type 0 where
  pub some : 0 < longest_token (after_gap text)
  pub class_is : class_of (first_word text) ≡ Some token.class
  pub word_is : token.word ≡ first_word text
  pub place_is : token.place ≡ word_place place text

-- these are the first tokens of a text that stands at a place; behind them, at the place `here`, `rest` is left
abbrev pub Begins : Place → List ℕ → List Token → Place → List ℕ → Type 0
Begins place text [] here rest = (here ≡ place) × (rest ≡ text)
Begins place text (token ∷ tokens) here rest = IsFirst place text token × Begins (place_behind place text) (after_word text) tokens here rest

-- these are all the tokens of the text
pub record AreTokens (text : List ℕ) (tokens : List Token) : Type 0 where
  pub here : Place
  pub rest : List ℕ
  pub begins : Begins start text tokens here rest
  -- nothing but blanks and comments follows
  pub over : after_gap rest ≡ []

-- the first byte of the text, behind some tokens, where no token begins stands at this place: X1
pub record IsWrongAt (text : List ℕ) (place : Place) : Type 0 where
  pub tokens : List Token
  pub here : Place
  pub rest : List ℕ
  pub begins : Begins start text tokens here rest
  pub some : after_gap rest ≢ []
  pub none : longest_token (after_gap rest) ≡ 0
  pub place_is : place ≡ word_place here rest

-- why a text isn't read as tokens: by X1 at a place, or for want of memory
abbrev pub IsRefused : List ℕ → Refusal → Type 0
IsRefused text (At X1 place) = IsWrongAt text place
IsRefused text Memory = Unit {0}
IsRefused text _ = ⊥
