-- Tokens one after another, with their places.
use Rattle.std.proofs.Common.{◌≡◌, ℕ, suc, ◌+◌, ◌<◌, List, [], ◌∷◌, ◌++◌, length, take, drop, refl, sym, ap, subst, ◌∙◌, arith, Some}
use Rattle.std.proofs.Math.Seq.{take-append_seam, drop-append_seam}
use Rattle.weld_tree.specs.declared.place.Place.{Place}
use Rattle.weld_grammar.specs.declared.terminals.class.Class.{Class}
use Rattle.weld_grammar.specs.declared.terminals.token.Token.{Token}
use Rattle.weld_tokens.specs.Words.{class_of}
use Rattle.weld_tokens.specs.Tokens.{longest_token, gap_len, after_gap, first_word, after_word, place_after, next_place, word_place, place_behind, IsFirst, Begins}
use Rattle.weld_print.proofs.Longest.{Lexeme}

-- the token of a word
abbrev pub token : List ℕ → Class → Place → Token
token word class at = record { class = class; word = word; place = at }

-- the word is the first token of a text that stands at a place, and these bytes follow it
pub record Took (place : Place) (text word : List ℕ) (class : Class) (rest : List ℕ) : Type 0 where
  pub at : Place
  pub first : IsFirst place text (token word class at)
  pub behind : after_word text ≡ rest

-- the same, by what stands behind a gap
took_by : (place : Place) (text word : List ℕ) (class : Class) (rest : List ℕ) → Lexeme word class rest → after_gap text ≡ word ++ rest → Took place text word class rest
took_by place text word class rest l gap =
    let word_is : first_word text ≡ word = ap (λ (t : List ℕ). take (longest_token t) t) gap ∙ ap (λ (n : ℕ). take n (word ++ rest)) l.longest ∙ take-append_seam word rest in
    let size : longest_token (after_gap text) ≡ length word = ap longest_token gap ∙ l.longest in
    record {
      at = word_place place text;
      first = record {
        some = omega (arith, size, l.some);
        class_is = ap class_of word_is ∙ l.class_is;
        word_is = sym word_is;
        place_is = refl;
      };
      behind = ap (λ (t : List ℕ). drop (longest_token t) t) gap ∙ ap (λ (n : ℕ). drop n (word ++ rest)) l.longest ∙ drop-append_seam word rest;
    }

pub took : (place : Place) {word : List ℕ} {class : Class} {rest : List ℕ} → Lexeme word class rest → Took place (word ++ rest) word class rest
took place {word} {class} {rest} l = took_by place (word ++ rest) word class rest l (ap (λ (n : ℕ). drop n (word ++ rest)) l.gapless)

-- behind a space
pub took_spaced : (place : Place) {word : List ℕ} {class : Class} {rest : List ℕ} → Lexeme word class rest → Took place (32 ∷ (word ++ rest)) word class rest
took_spaced place {word} {class} {rest} l = took_by place (32 ∷ (word ++ rest)) word class rest l (ap (λ (n : ℕ). drop (1 + n) (32 ∷ (word ++ rest))) l.gapless)

-- these are the first tokens of a text that stands at a place, and behind them, at the place `here`, these bytes are left
pub record Run (place : Place) (text : List ℕ) (ts : List Token) (here : Place) (rest : List ℕ) : Type 0 where
  pub is : Begins place text ts here rest

pub none : {place : Place} {text : List ℕ} → Run place text [] place text
none = record { is = (refl, refl) }

pub step : (place : Place) (text word : List ℕ) (class : Class) (rest : List ℕ) (ts : List Token) (here : Place) (last : List ℕ) → (t : Took place text word class rest) → Run (place_behind place text) rest ts here last
    → Run place text (token word class t.at ∷ ts) here last
step place text word class rest ts here last t more = record { is = (t.first, subst (λ (r : List ℕ). Begins (place_behind place text) r ts here last) (sym t.behind) more.is) }

begins_join : (place : Place) (text : List ℕ) (ts us : List Token) (mid : Place) (rest : List ℕ) (here : Place) (last : List ℕ) → Begins place text ts mid rest → Begins mid rest us here last → Begins place text (ts ++ us) here last
begins_join place text [] us mid rest here last a b =
    subst (λ (p : Place). Begins p text us here last) a.0 (subst (λ (r : List ℕ). Begins mid r us here last) a.1 b)
begins_join place text (t ∷ ts) us mid rest here last a b = (a.0, begins_join (place_behind place text) (after_word text) ts us mid rest here last a.1 b)

pub join : (place : Place) (text : List ℕ) (ts us : List Token) (mid : Place) (rest : List ℕ) (here : Place) (last : List ℕ) → Run place text ts mid rest → Run mid rest us here last → Run place text (ts ++ us) here last
join place text ts us mid rest here last a b = record { is = begins_join place text ts us mid rest here last a.is b.is }

-- one token
pub record OneToken (place : Place) (word : List ℕ) (class : Class) (text rest : List ℕ) : Type 0 where
  pub at : Place
  pub here : Place
  pub begins : Run place text (token word class at ∷ []) here rest

pub one_token : (place : Place) {word : List ℕ} {class : Class} {rest : List ℕ} → Lexeme word class rest → OneToken place word class (word ++ rest) rest
one_token place {word} {class} {rest} l =
    let t = took place l in
    let here = place_behind place (word ++ rest) in
    record { at = t.at; here = here; begins = step place (word ++ rest) word class rest [] here rest t none }

-- one token behind a space
pub one_spaced : (place : Place) {word : List ℕ} {class : Class} {rest : List ℕ} → Lexeme word class rest → OneToken place word class (32 ∷ (word ++ rest)) rest
one_spaced place {word} {class} {rest} l =
    let t = took_spaced place l in
    let here = place_behind place (32 ∷ (word ++ rest)) in
    record { at = t.at; here = here; begins = step place (32 ∷ (word ++ rest)) word class rest [] here rest t none }

-- there is some token
abbrev pub AreSome : List Token → Type 0
AreSome [] = ⊥
AreSome (t ∷ ts) = Unit {0}

drop_more : (n : ℕ) (x : ℕ) (xs : List ℕ) → drop (1 + n) (x ∷ xs) ≡ drop n xs
drop_more n x xs = let e : 1 + n ≡ suc n = omega arith in ap (λ (k : ℕ). drop k (x ∷ xs)) e

take_more : (n : ℕ) (x : ℕ) (xs : List ℕ) → take (1 + n) (x ∷ xs) ≡ x ∷ take n xs
take_more n x xs = let e : 1 + n ≡ suc n = omega arith in ap (λ (k : ℕ). take k (x ∷ xs)) e

-- tokens behind a space
spaced_tokens : (place : Place) (text : List ℕ) (t : Token) (ts : List Token) (here : Place) (rest : List ℕ) → Begins (next_place place 32) text (t ∷ ts) here rest → Begins place (32 ∷ text) (t ∷ ts) here rest
spaced_tokens place text t ts here rest b =
    let gap : after_gap (32 ∷ text) ≡ after_gap text = drop_more (gap_len text) 32 text in
    let stands : word_place place (32 ∷ text) ≡ word_place (next_place place 32) text = ap (place_after place) (take_more (gap_len text) 32 text) in
    let f = b.0 in (
      record {
        some = subst (λ (x : List ℕ). 0 < longest_token x) (sym gap) f.some;
        class_is = subst (λ (x : List ℕ). class_of (take (longest_token x) x) ≡ Some t.class) (sym gap) f.class_is;
        word_is = f.word_is ∙ sym (ap (λ (x : List ℕ). take (longest_token x) x) gap);
        place_is = f.place_is ∙ sym stands;
      },
      subst (λ (p : Place). Begins (place_after p (take (longest_token (after_gap (32 ∷ text))) (after_gap (32 ∷ text)))) (drop (longest_token (after_gap (32 ∷ text))) (after_gap (32 ∷ text))) ts here rest) (sym stands)
          (subst (λ (x : List ℕ). Begins (place_after (word_place (next_place place 32) text) (take (longest_token x) x)) (drop (longest_token x) x) ts here rest) (sym gap) b.1),
    )

-- some tokens behind a space
pub tokens_spaced : (place : Place) (text : List ℕ) (ts : List Token) (here : Place) (rest : List ℕ) → AreSome ts → Run (next_place place 32) text ts here rest → Run place (32 ∷ text) ts here rest
tokens_spaced place text [] here rest some b = absurd some
tokens_spaced place text (t ∷ ts) here rest some b = record { is = spaced_tokens place text t ts here rest b.is }
