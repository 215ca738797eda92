-- Reading the tokens of a text, one after another.
use Rattle.std.proofs.Common.{◌≡◌, ◌≢◌, ℕ, suc, ◌+◌, ◌≤◌, Bool, false, List, [], ◌∷◌, ◌++◌, length, take, drop, refl, sym, ap, subst, ◌∙◌, arith, Option, Some, None}
use Rattle.weld_tree.specs.declared.place.Place.{Place}
use Rattle.weld_grammar.specs.declared.terminals.token.Token.{Token}
use Rattle.std.specs.Option.{is_some}
use Rattle.std.proofs.lemmas.List.{take_all}
use Rattle.weld_grammar.specs.declared.terminals.class.Class.{Class}
use Rattle.weld_tokens.specs.Words.{class_of, is_token}
use Rattle.weld_tokens.specs.Tokens.{start, greatest, longest_token, gap_len, place_after, word_place, place_behind, after_gap, first_word, after_word, IsFirst, Begins}
use Rattle.weld_tokens.specs.Scanning.{IsLongest}
use Rattle.weld_tokens.proofs.Greatest.{greatest-max, greatest-le}

-- the place after so many of the bytes
pub record Advanced (place here : Place) (bytes : List ℕ) (i : ℕ) : Type 0 where
  pub value : place_after place bytes ≡ place_after here (drop i bytes)
  pub line : here.line ≤ place.line + i
  pub column : here.column ≤ place.column + i
  pub first : 1 ≤ here.column

-- one token more
pub begins-next : (place : Place) (text : List ℕ) (tokens : List Token) (here : Place) (rest : List ℕ) (token : Token) → Begins place text tokens here rest → IsFirst here rest token
    → Begins place text (tokens ++ token ∷ []) (place_behind here rest) (after_word rest)
begins-next place text [] here rest token begins first =
    let first2 : IsFirst place text token = subst (λ (p : Place). IsFirst p text token) begins.0 (subst (λ (r : List ℕ). IsFirst here r token) begins.1 first) in
    (first2, (ap (λ (p : Place). place_behind p rest) begins.0 ∙ ap (λ (r : List ℕ). place_behind place r) begins.1, ap after_word begins.1))
begins-next place text (t ∷ tokens) here rest token begins first = (begins.0, begins-next (place_behind place text) (after_word text) tokens here rest token begins.1 first)

-- these tokens are read, and the rest stands at this place
pub record SoFar (text : List ℕ) (tokens : List Token) (here : Place) (rest : List ℕ) : Type 0 where
  pub begins : Begins start text tokens here rest
  pub line : here.line + length rest ≤ 262145
  pub column : here.column + length rest ≤ 262145
  pub first : 1 ≤ here.column

-- a token read at the front
pub is_first : (place : Place) (rest : List ℕ) (n : ℕ) (class : Class) (token : Token) → IsLongest (after_gap rest) n class → token.class ≡ class → token.word ≡ take n (after_gap rest)
    → token.place ≡ word_place place rest → IsFirst place rest token
is_first place rest n class token l class_is word_is place_is = record {
  some = rw l.longest l.some;
  class_is = rw l.longest (l.class_is ∙ ap (λ (k : Class). Some k) (sym class_is));
  word_is = rw l.longest word_is;
  place_is = place_is;
}

pub SoFar-next : (text : List ℕ) (tokens more_tokens : List Token) (place : Place) (rest gap front : List ℕ) (here : Place) (n : ℕ) (class : Class) (token : Token) (word more : List ℕ) (place2 : Place)
    → SoFar text tokens place rest → gap ≡ take (gap_len rest) rest → front ≡ after_gap rest → here ≡ place_after place gap → IsLongest front n class
    → token.class ≡ class → token.word ≡ word → token.place ≡ here → word ≡ take n front → more ≡ drop n front → place2 ≡ place_after here word
    → more_tokens ≡ tokens ++ token ∷ []
    → place2.line + length more ≤ 262145 → place2.column + length more ≤ 262145 → 1 ≤ place2.column
    → SoFar text more_tokens place2 more
SoFar-next text tokens more_tokens place rest gap front here n class token word more place2 so gap_is front_is here_is l class_is word_is place_is words mores place2_is tokens_is line column first =
    let l2 : IsLongest (after_gap rest) n class = subst (λ (f : List ℕ). IsLongest f n class) front_is l in
    let at : here ≡ word_place place rest = here_is ∙ ap (place_after place) gap_is in
    let word2 : word ≡ first_word rest = words ∙ ap (take n) front_is ∙ ap (λ (k : ℕ). take k (after_gap rest)) (sym l2.longest) in
    let more2 : more ≡ after_word rest = mores ∙ ap (drop n) front_is ∙ ap (λ (k : ℕ). drop k (after_gap rest)) (sym l2.longest) in
    let place3 : place2 ≡ place_behind place rest = place2_is ∙ ap (λ (p : Place). place_after p word) at ∙ ap (place_after (word_place place rest)) word2 in
    let is : IsFirst place rest token = is_first place rest n class token l2 class_is (word_is ∙ words ∙ ap (take n) front_is) (place_is ∙ at) in
    let next = begins-next start text tokens place rest token so.begins is in
    record {
      begins = rw (tokens_is, place3, more2) next;
      line = line;
      column = column;
      first = first;
    }

-- ---- the class of a whole text

pub class_of-nil : class_of [] ≡ None
unfolding class_of
class_of-nil = refl

none-of : (o : Option Class) → is_some o ≡ false → o ≡ None
none-of None e = refl
none-of (Some c) e = cc

pub class_of-more : (text : List ℕ) (n : ℕ) → longest_token text ≡ n → n ≢ length text → class_of text ≡ None
unfolding longest_token is_token
class_of-more text n is ne =
    let test : ℕ → Bool = λ m. is_some (class_of (take m text)) in
    let most : greatest test (length text) ≤ length text = greatest-le test (length text) in
    let no : is_some (class_of (take (length text) text)) ≡ false = greatest-max test (length text) (length text) (omega (arith, ne)) (omega arith) in
    let whole : take (length text) text ≡ text = take_all (length text) text (omega arith) in
    none-of (class_of text) (rw whole at no)

pub class_of-none : (text : List ℕ) → longest_token text ≡ 0 → class_of text ≡ None
class_of-none [] is = class_of-nil
class_of-none (b ∷ bs) is = class_of-more (b ∷ bs) 0 is (λ (e : 0 ≡ suc (length bs)). absurd (omega arith))
