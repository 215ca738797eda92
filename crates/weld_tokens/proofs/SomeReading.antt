-- Each text has a reading: its tokens, or a place where none begins.
use Rattle.std.proofs.Common.{◌≡◌, ◌⊎◌, inl, inr, ℕ, zero, suc, ◌<◌, ◌≤◌, true, List, [], ◌∷◌, ◌++◌, length, take, refl, arith, Option, Some, None, length-drop}
use Rattle.std.specs.Option.{is_some}
use Rattle.weld_tree.specs.declared.place.Place.{Place}
use Rattle.weld_grammar.specs.declared.terminals.class.Class.{Class}
use Rattle.weld_grammar.specs.declared.terminals.token.Token.{Token}
use Rattle.weld_tokens.specs.Words.{class_of, is_token}
use Rattle.weld_tokens.specs.Tokens.{start, longest_token, gap_len, word_place, place_behind, after_gap, first_word, after_word, IsFirst, Begins, AreTokens, IsWrongAt}
use Rattle.weld_tokens.proofs.Greatest.{greatest-passes}
use Rattle.weld_tokens.proofs.Reading.{begins-next}

abbrev HasReading : List ℕ → Type 0
HasReading text = ((tokens : List Token) × AreTokens text tokens) ⊎ ((place : Place) × IsWrongAt text place)

-- bytes that are a token have a class
record HasClass (word : List ℕ) : Type 0 where
  pub class : Class
  pub is : class_of word ≡ Some class

some-class : (word : List ℕ) (o : Option Class) → class_of word ≡ o → is_some o ≡ true → HasClass word
some-class word None is e = absurd (cc)
some-class word (Some c) is e = record { class = c; is = is }

longest-class : (text : List ℕ) → 0 < longest_token text → HasClass (take (longest_token text) text)
unfolding longest_token is_token
longest-class text some = some-class _ (class_of (take (longest_token text) text)) refl (greatest-passes (λ n. is_token (take n text)) (length text) some)

next-token : (here : Place) (rest : List ℕ) → HasClass (first_word rest) → Token
next-token here rest h = record { class = h.class; word = first_word rest; place = word_place here rest }

next-first : (here : Place) (rest : List ℕ) (h : HasClass (first_word rest)) → 0 < longest_token (after_gap rest) → IsFirst here rest (next-token here rest h)
unfolding next-token
next-first here rest h some = record { some = some; class_is = h.is; word_is = refl; place_is = refl }

shorter : (rest : List ℕ) (b : ℕ) (bs : List ℕ) → after_gap rest ≡ b ∷ bs → 0 < longest_token (after_gap rest) → length (after_word rest) < length rest
shorter rest b bs e some =
    let gap : length (after_gap rest) ≡ suc (length bs) = rw e refl in
    omega (arith, length-drop (gap_len rest) rest, length-drop (longest_token (after_gap rest)) (after_gap rest))

-- one step: nothing is left, no token begins, or one does
step : (text rest : List ℕ) (here : Place) (front : List Token) → Begins start text front here rest
    → ((left : List ℕ) (there : Place) (tokens : List Token) → length left < length rest → Begins start text tokens there left → HasReading text)
    → (g : List ℕ) → after_gap rest ≡ g → (n : ℕ) → longest_token (after_gap rest) ≡ n → HasReading text
step text rest here front begins more [] e n l = inl (front, record { here = here; rest = rest; begins = begins; over = e })
step text rest here front begins more (b ∷ bs) e zero l =
    inr (word_place here rest, record { tokens = front; here = here; rest = rest; begins = begins; some = λ none. absurd (cc); none = l; place_is = refl })
step text rest here front begins more (b ∷ bs) e (suc n) l =
    let some : 0 < longest_token (after_gap rest) = omega arith in
    let h = longest-class (after_gap rest) some in
    let token = next-token here rest h in
    more (after_word rest) (place_behind here rest) (front ++ token ∷ []) (shorter rest b bs e some) (begins-next start text front here rest token begins (next-first here rest h some))

reading : (fuel : ℕ) (text rest : List ℕ) (here : Place) (front : List Token) → length rest ≤ fuel → Begins start text front here rest → HasReading text
reading zero text [] here front fits begins = inl (front, record { here = here; rest = []; begins = begins; over = refl })
reading zero text (b ∷ bs) here front fits begins = absurd (omega arith)
reading (suc fuel) text rest here front fits begins =
    step text rest here front begins (λ left there tokens less next. reading fuel text left there tokens (omega arith) next) (after_gap rest) refl (longest_token (after_gap rest)) refl

pub some-reading : (text : List ℕ) → ((tokens : List Token) × AreTokens text tokens) ⊎ ((place : Place) × IsWrongAt text place)
some-reading text = reading (length text) text text start [] (omega arith) (refl, refl)
