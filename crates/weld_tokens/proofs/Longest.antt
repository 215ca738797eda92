-- The longest token at the front of a text, by what it begins with.
use Rattle.std.proofs.Common.{◌≡◌, ℕ, zero, suc, ◌+◌, ◌<◌, ◌≤◌, min, Bool, true, false, ◌&&◌, cond, eqb, leb, List, [], ◌∷◌, length, take, refl, sym, ap, ◌∙◌, add-one, arith, Option, Some, None}
use Rattle.std.proofs.lemmas.Bool.Decides.{nat_tests}
use Rattle.std.specs.Prelude.{option_and_then}
use Rattle.std.proofs.lemmas.List.{length-take-le}
use Rattle.std.specs.Option.{option_map, is_some}
use Rattle.weld_grammar.specs.declared.terminals.symbol.Symbol.{Symbol}
use Rattle.weld_grammar.specs.declared.terminals.class.Class.{Class}
use Rattle.weld_grammar.specs.declared.terminals.class.Class.TheVariants as classes
use Rattle.weld_tokens.specs.Bytes.{is_letter, is_digit, is_word_byte, is_plain, is_escape, is_hex, all_of}
use Rattle.weld_tokens.specs.Words.{class_of, is_token, word_class, number_class, is_field, is_over, ends_string, ends_escape, ends_hex, ends_last_hex, single, double, symbol_of}
use Rattle.weld_tokens.specs.Tokens.{longest_token}
use Rattle.weld_tokens.specs.Scanning.{run_len, number_end, longer_number, end_in, next_part, is_item, IsLongest, IsOther}
use Rattle.weld_tokens.specs.declared.scan.Part.{Part}
use Rattle.weld_tokens.specs.declared.scan.Part.TheVariants.{Item, Escape, Hex, LastHex}
use Rattle.weld_tokens.proofs.Greatest.{greatest-at}

-- a token of n bytes at the front, and none that is longer
pub longest-at : (b : ℕ) (bs : List ℕ) (n : ℕ) (class : Class) → n ≤ length bs → class_of (take (suc n) (b ∷ bs)) ≡ Some class
    → ((m : ℕ) → n < m → m ≤ length bs → class_of (b ∷ take m bs) ≡ None) → IsLongest (b ∷ bs) (suc n) class
unfolding longest_token is_token
longest-at b bs n class h here above =
    let text = b ∷ bs in
    let none : (m : ℕ) → suc n < m → m ≤ length text → is_some (class_of (take m text)) ≡ false =
    λ m. elim m as (λ m. suc n < m → m ≤ length text → is_some (class_of (take m text)) ≡ false) [
      | zero ↦ λ low high. absurd (omega arith)
      | suc m ↦ λ low high. ap is_some (above m (omega arith) (omega arith))
    ] in
    record {
      some = omega arith;
      within = omega arith;
      longest = greatest-at (λ m. is_some (class_of (take m text))) (length text) (suc n) (omega arith) (λ _. ap is_some here) none;
      class_is = here;
    }

-- no token at the front
pub longest-none : (b : ℕ) (bs : List ℕ) → ((m : ℕ) → m ≤ length bs → class_of (b ∷ take m bs) ≡ None) → longest_token (b ∷ bs) ≡ 0
unfolding longest_token is_token
longest-none b bs none =
    let text = b ∷ bs in
    greatest-at (λ m. is_some (class_of (take m text))) (length text) 0 (omega arith) (λ (h : 0 < 0). absurd (omega arith))
    (λ m. elim m as (λ m. 0 < m → m ≤ length text → is_some (class_of (take m text)) ≡ false) [
      | zero ↦ λ low high. absurd (omega arith)
      | suc m ↦ λ low high. ap is_some (none m (omega arith))
    ])

-- ---- runs

pub run-within : (test : ℕ → Bool) (bs : List ℕ) → run_len test bs ≤ length bs
run-within test [] = omega arith
run-within test (b ∷ bs) =
    elim (test b) as (λ t. cond t (1 + run_len test bs) 0 ≤ suc (length bs)) [
      | true ↦ let h = run-within test bs in omega arith
      | false ↦ omega arith
    ]

pub run-passes : (test : ℕ → Bool) (bs : List ℕ) (n : ℕ) → n ≤ run_len test bs → all_of test (take n bs) ≡ true
run-passes test [] zero h = refl
run-passes test [] (suc n) h = absurd (omega arith)
run-passes test (b ∷ bs) zero h = refl
run-passes test (b ∷ bs) (suc n) h =
    let step : (t : Bool) → suc n ≤ cond t (1 + run_len test bs) 0 → (t && all_of test (take n bs)) ≡ true =
    λ t. elim t as (λ t. suc n ≤ cond t (1 + run_len test bs) 0 → (t && all_of test (take n bs)) ≡ true) [
      | true ↦ λ low. run-passes test bs n (omega arith)
      | false ↦ λ low. absurd (omega arith)
    ] in
    step (test b) h

pub run-stops : (test : ℕ → Bool) (bs : List ℕ) (n : ℕ) → run_len test bs < n → n ≤ length bs → all_of test (take n bs) ≡ false
run-stops test [] n h fits = absurd (omega arith)
run-stops test (b ∷ bs) zero h fits = absurd (omega arith)
run-stops test (b ∷ bs) (suc n) h fits =
    let step : (t : Bool) → cond t (1 + run_len test bs) 0 < suc n → (t && all_of test (take n bs)) ≡ false =
    λ t. elim t as (λ t. cond t (1 + run_len test bs) 0 < suc n → (t && all_of test (take n bs)) ≡ false) [
      | true ↦ λ low. run-stops test bs n (omega arith) (omega arith)
      | false ↦ λ low. refl
    ] in
    step (test b) h

-- ---- words

pub longest-word : (b : ℕ) (bs : List ℕ) → is_letter b ≡ true
    → IsLongest (b ∷ bs) (suc (run_len is_word_byte bs)) (word_class (take (suc (run_len is_word_byte bs)) (b ∷ bs)))
unfolding class_of
longest-word b bs letter =
    let n = run_len is_word_byte bs in
    longest-at b bs n _ (run-within is_word_byte bs)
    (rw (letter, run-passes is_word_byte bs n (omega arith)) refl)
    (λ m low high. let no : all_of is_word_byte (take m bs) ≡ false = run-stops is_word_byte bs m low high in rw (letter, no) refl)

-- ---- numbers

-- where a number ends, by its next byte
abbrev ends_at : Bool → Bool → List ℕ → ℕ × Class
ends_at digit long bs = cond {A = ℕ × Class} digit (longer_number (number_end bs)) (cond {A = ℕ × Class} long (1, classes.Long) (0, classes.Int))

pub number-within : (bs : List ℕ) → (number_end bs).0 ≤ length bs
number-within [] = omega arith
number-within (b ∷ bs) =
    let e = number-within bs in
    elim (is_digit b) as (λ t. (ends_at t (eqb b 76) bs).0 ≤ suc (length bs)) [
      | true ↦ omega arith
      | false ↦
          elim (eqb b 76) as (λ t. (ends_at false t bs).0 ≤ suc (length bs)) [
            | true ↦ omega arith
            | false ↦ omega arith
          ]
    ]

-- bytes end where none is taken
over-take : (bs : List ℕ) (n : ℕ) → 0 < n → n ≤ length bs → is_over (take n bs) ≡ false
over-take bs zero low high = absurd (omega arith)
over-take [] (suc n) low high = absurd (omega arith)
over-take (b ∷ bs) (suc n) low high = refl

pub number-passes : (bs : List ℕ) → number_class (take (number_end bs).0 bs) ≡ Some (number_end bs).1
number-passes [] = refl
number-passes (b ∷ bs) =
    let long : (u : Bool) → eqb b 76 ≡ u → is_digit b ≡ false → number_class (take (ends_at false u bs).0 (b ∷ bs)) ≡ Some (ends_at false u bs).1 =
    λ u. elim u as (λ u. eqb b 76 ≡ u → is_digit b ≡ false → number_class (take (ends_at false u bs).0 (b ∷ bs)) ≡ Some (ends_at false u bs).1) [
      | true ↦ λ e d. rw (d, e) refl
      | false ↦ λ e d. refl
    ] in
    let step : (t : Bool) → is_digit b ≡ t → number_class (take (ends_at t (eqb b 76) bs).0 (b ∷ bs)) ≡ Some (ends_at t (eqb b 76) bs).1 =
    λ t. elim t as (λ t. is_digit b ≡ t → number_class (take (ends_at t (eqb b 76) bs).0 (b ∷ bs)) ≡ Some (ends_at t (eqb b 76) bs).1) [
      | true ↦ λ d. rw d (number-passes bs)
      | false ↦ λ d. long (eqb b 76) refl d
    ] in
    step (is_digit b) refl

pub number-stops : (bs : List ℕ) (n : ℕ) → (number_end bs).0 < n → n ≤ length bs → number_class (take n bs) ≡ None
number-stops [] n low high = absurd (omega arith)
number-stops (b ∷ bs) zero low high = absurd (omega arith)
number-stops (b ∷ bs) (suc n) low high =
    let long : (u : Bool) → (ends_at false u bs).0 < suc n → cond (u && is_over (take n bs)) (Some classes.Long) None ≡ None =
    λ u. elim u as (λ u. (ends_at false u bs).0 < suc n → cond (u && is_over (take n bs)) (Some classes.Long) None ≡ None) [
      | true ↦ λ low. let no : is_over (take n bs) ≡ false = over-take bs n (omega arith) (omega arith) in rw no refl
      | false ↦ λ low. refl
    ] in
    let step : (t : Bool) → (ends_at t (eqb b 76) bs).0 < suc n → cond t (number_class (take n bs)) (cond (eqb b 76 && is_over (take n bs)) (Some classes.Long) None) ≡ None =
    λ t. elim t as (λ t. (ends_at t (eqb b 76) bs).0 < suc n → cond t (number_class (take n bs)) (cond (eqb b 76 && is_over (take n bs)) (Some classes.Long) None) ≡ None) [
      | true ↦ λ low. number-stops bs n (omega arith) (omega arith)
      | false ↦ λ low. long (eqb b 76) low
    ] in
    step (is_digit b) low

pub longest-number : (b : ℕ) (bs : List ℕ) → is_letter b ≡ false → is_digit b ≡ true → IsLongest (b ∷ bs) (suc (number_end bs).0) (number_end bs).1
unfolding class_of
longest-number b bs letter digit =
    longest-at b bs (number_end bs).0 (number_end bs).1 (number-within bs)
    (rw (letter, digit) (number-passes bs))
    (λ m low high. rw (letter, digit) (number-stops bs m low high))

and-false : (a : Bool) → (a && false) ≡ false
and-false true = refl
and-false false = refl

and-false-left : (a b : Bool) → (a && false && b) ≡ false
and-false-left true b = refl
and-false-left false b = refl

-- ---- fields

pub field-passes : (bs : List ℕ) (n : ℕ) → 0 < n → n ≤ 9 → n ≤ run_len is_digit bs → is_field (take n bs) ≡ true
field-passes bs n some most run =
    let fits : n ≤ length bs = omega (arith, run-within is_digit bs) in
    let size : length (take n bs) ≡ n = length-take-le n bs fits in
    let digits : all_of is_digit (take n bs) ≡ true = run-passes is_digit bs n run in
    rw (size, digits) (grind (arith, nat_tests))

pub field-stops : (bs : List ℕ) (n : ℕ) → min (run_len is_digit bs) 9 < n → n ≤ length bs → is_field (take n bs) ≡ false
field-stops bs n low fits =
    let size : length (take n bs) ≡ n = length-take-le n bs fits in
    let digits : run_len is_digit bs < n → all_of is_digit (take n bs) ≡ false = λ more. run-stops is_digit bs n more fits in
    rw size
    (elim (leb n 9) as (λ t. leb n 9 ≡ t → (leb 1 n && t && all_of is_digit (take n bs)) ≡ false) [
      | true ↦ λ e. let few : n ≤ 9 = grind (arith, nat_tests) in let no = digits (omega arith) in rw no (and-false (leb 1 n && true))
      | false ↦ λ e. and-false-left (leb 1 n) (all_of is_digit (take n bs))
    ] refl)

pub longest-field : (bs : List ℕ) (n : ℕ) → n ≡ min (run_len is_digit bs) 9 → 0 < n → IsLongest (36 ∷ bs) (suc n) classes.Field
unfolding class_of
longest-field bs n is some =
    let fits : n ≤ length bs = omega (arith, run-within is_digit bs) in
    let here : is_field (take n bs) ≡ true = field-passes bs n some (omega arith) (omega arith) in
    longest-at 36 bs n classes.Field fits (rw here refl)
    (λ m low high. let no : is_field (take m bs) ≡ false = field-stops bs m (omega arith) high in rw no refl)

pub longest-no_field : (bs : List ℕ) → run_len is_digit bs ≡ 0 → longest_token (36 ∷ bs) ≡ 0
unfolding class_of
longest-no_field bs none =
    longest-none 36 bs (λ m.
    elim m as (λ m. m ≤ length bs → class_of (36 ∷ take m bs) ≡ None) [
      | zero ↦ λ fits. refl
      | suc m ↦ λ fits. let no : is_field (take (suc m) bs) ≡ false = field-stops bs (suc m) (omega arith) fits in rw no refl
    ])

-- ---- strings

-- the bytes end a string, where this is awaited
abbrev ends : Part → List ℕ → Bool
ends Item bs = ends_string bs
ends Escape bs = ends_escape bs
ends Hex bs = ends_hex bs
ends LastHex bs = ends_last_hex bs

-- the numbers are one
abbrev same : ℕ → ℕ → Bool
same zero zero = true
same zero (suc m) = false
same (suc n) zero = false
same (suc n) (suc m) = same n m

same-refl : (n : ℕ) → same n n ≡ true
same-refl zero = refl
same-refl (suc n) = same-refl n

same-less : (n m : ℕ) → n < m → same n m ≡ false
same-less zero zero h = absurd (omega arith)
same-less zero (suc m) h = refl
same-less (suc n) zero h = absurd (omega arith)
same-less (suc n) (suc m) h = same-less n m (omega arith)

-- the end is at this place
abbrev is_at : Option ℕ → ℕ → Bool
is_at None m = false
is_at (Some n) m = same n m

abbrev longer : Option ℕ → Option ℕ
longer o = option_map (λ n. suc n) o

is_at-next : (o : Option ℕ) (m : ℕ) → is_at (longer o) (suc m) ≡ is_at o m
is_at-next None m = refl
is_at-next (Some n) m = refl

is_at-zero : (t : Bool) (f : Part → Option ℕ) (o : Option Part) → is_at (cond t (Some 1) (option_and_then (λ next. longer (f next)) o)) 0 ≡ false
is_at-zero true f o = refl
is_at-zero false f None = refl
is_at-zero false f (Some part) =
    elim (f part) as (λ o. is_at (longer o) 0 ≡ false) [
      | None ↦ refl
      | Some n ↦ refl
    ]

ends-nil : (part : Part) → ends part [] ≡ false
ends-nil Item = refl
ends-nil Escape = refl
ends-nil Hex = refl
ends-nil LastHex = refl

take-nil : (m : ℕ) → take {A = ℕ} m [] ≡ []
take-nil zero = refl
take-nil (suc m) = refl

over-is : (bs : List ℕ) (m : ℕ) → m ≤ length bs → is_over (take m bs) ≡ same 1 (suc m)
over-is bs zero h = refl
over-is [] (suc m) h = absurd (omega arith)
over-is (b ∷ bs) (suc m) h = refl

pub string-is : (part : Part) (bs : List ℕ) (m : ℕ) → m ≤ length bs → ends part (take m bs) ≡ is_at (end_in part bs) m
string-is part [] m h = ap (ends part) (take-nil m) ∙ ends-nil part
string-is part (b ∷ bs) zero h =
    ends-nil part ∙ sym (is_at-zero (is_item part && eqb b 34) (λ next. end_in next bs) (next_part part b))
string-is Item (b ∷ bs) (suc m) h =
    let fits : m ≤ length bs = omega arith in
    let after : Option Part → Bool = λ o. is_at (option_and_then (λ next. longer (end_in next bs)) o) (suc m) in
    elim (eqb b 34) as (λ t. cond t (is_over (take m bs)) (cond (eqb b 92) (ends_escape (take m bs)) (is_plain b && ends_string (take m bs))) ≡ is_at (cond t (Some 1) (option_and_then (λ next. longer (end_in next bs)) (cond (eqb b 92) (Some Escape) (cond (is_plain b) (Some Item) None)))) (suc m)) [
      | true ↦ over-is bs m fits
      | false ↦
          elim (eqb b 92) as (λ t. cond t (ends_escape (take m bs)) (is_plain b && ends_string (take m bs)) ≡ after (cond t (Some Escape) (cond (is_plain b) (Some Item) None))) [
            | true ↦ string-is Escape bs m fits ∙ sym (is_at-next (end_in Escape bs) m)
            | false ↦
                elim (is_plain b) as (λ t. (t && ends_string (take m bs)) ≡ after (cond t (Some Item) None)) [
                  | true ↦ string-is Item bs m fits ∙ sym (is_at-next (end_in Item bs) m)
                  | false ↦ refl
                ]
          ]
    ]
string-is Escape (b ∷ bs) (suc m) h =
    let fits : m ≤ length bs = omega arith in
    let after : Option Part → Bool = λ o. is_at (option_and_then (λ next. longer (end_in next bs)) o) (suc m) in
    elim (eqb b 120) as (λ t. cond t (ends_hex (take m bs)) (is_escape b && ends_string (take m bs)) ≡ after (cond t (Some Hex) (cond (is_escape b) (Some Item) None))) [
      | true ↦ string-is Hex bs m fits ∙ sym (is_at-next (end_in Hex bs) m)
      | false ↦
          elim (is_escape b) as (λ t. (t && ends_string (take m bs)) ≡ after (cond t (Some Item) None)) [
            | true ↦ string-is Item bs m fits ∙ sym (is_at-next (end_in Item bs) m)
            | false ↦ refl
          ]
    ]
string-is Hex (b ∷ bs) (suc m) h =
    let fits : m ≤ length bs = omega arith in
    let after : Option Part → Bool = λ o. is_at (option_and_then (λ next. longer (end_in next bs)) o) (suc m) in
    elim (is_hex b) as (λ t. (t && ends_last_hex (take m bs)) ≡ after (cond t (Some LastHex) None)) [
      | true ↦ string-is LastHex bs m fits ∙ sym (is_at-next (end_in LastHex bs) m)
      | false ↦ refl
    ]
string-is LastHex (b ∷ bs) (suc m) h =
    let fits : m ≤ length bs = omega arith in
    let after : Option Part → Bool = λ o. is_at (option_and_then (λ next. longer (end_in next bs)) o) (suc m) in
    elim (is_hex b) as (λ t. (t && ends_string (take m bs)) ≡ after (cond t (Some Item) None)) [
      | true ↦ string-is Item bs m fits ∙ sym (is_at-next (end_in Item bs) m)
      | false ↦ refl
    ]

end-longer : (part : Part) (bs : List ℕ) (n : ℕ) (o : Option ℕ) → ((k : ℕ) → end_in part bs ≡ Some k → k ≤ length bs) → end_in part bs ≡ o → longer o ≡ Some n → n ≤ suc (length bs)
end-longer part bs n None ih is e = cc
end-longer part bs n (Some k) ih is e = let h = ih k is in let one : suc k ≡ n = cc in omega arith

pub end-within : (part : Part) (bs : List ℕ) (n : ℕ) → end_in part bs ≡ Some n → n ≤ length bs
end-within part [] n h = cc
end-within part (b ∷ bs) n h =
    let rest : (o : Option Part) → option_and_then (λ next. longer (end_in next bs)) o ≡ Some n → n ≤ suc (length bs) =
    λ o. elim o as (λ o. option_and_then (λ next. longer (end_in next bs)) o ≡ Some n → n ≤ suc (length bs)) [
      | None ↦ λ e. cc
      | Some next ↦ λ e. end-longer next bs n (end_in next bs) (λ k is. end-within next bs k is) refl e
    ] in
    elim (is_item part && eqb b 34) as (λ t. cond t (Some 1) (option_and_then (λ next. longer (end_in next bs)) (next_part part b)) ≡ Some n → n ≤ suc (length bs)) [
      | true ↦ λ e. let one : 1 ≡ n = cc in omega arith
      | false ↦ λ e. rest (next_part part b) e
    ] h

pub longest-string : (bs : List ℕ) (n : ℕ) → end_in Item bs ≡ Some n → IsLongest (34 ∷ bs) (suc n) classes.Chars
unfolding class_of
longest-string bs n is =
    let fits : n ≤ length bs = end-within Item bs n is in
    let at : (m : ℕ) → m ≤ length bs → ends_string (take m bs) ≡ same n m = λ m h. string-is Item bs m h ∙ ap (λ o. is_at o m) is in
    let here : ends_string (take n bs) ≡ true = at n fits ∙ same-refl n in
    longest-at 34 bs n classes.Chars fits (rw here refl)
    (λ m low high. let no : ends_string (take m bs) ≡ false = at m high ∙ same-less n m low in rw no refl)

pub longest-no_string : (bs : List ℕ) → end_in Item bs ≡ None → longest_token (34 ∷ bs) ≡ 0
unfolding class_of
longest-no_string bs is =
    longest-none 34 bs (λ m h. let no : ends_string (take m bs) ≡ false = string-is Item bs m h ∙ ap (λ o. is_at o m) is in rw no refl)

-- ---- symbols

other-class : (b : ℕ) (bs : List ℕ) → IsOther b → class_of (b ∷ bs) ≡ option_map classes.Symbol (symbol_of b bs)
unfolding class_of
other-class b bs o = rw (o.letter, o.digit, o.dollar, o.quote) refl

pub longest-double : (b c : ℕ) (bs : List ℕ) (s : Symbol) → IsOther b → double b c ≡ Some s → IsLongest (b ∷ c ∷ bs) 2 (classes.Symbol s)
longest-double b c bs s o is =
    longest-at b (c ∷ bs) 1 (classes.Symbol s) (omega arith)
    (other-class b (c ∷ []) o ∙ ap (option_map classes.Symbol) is)
    (λ m low high. elim m as (λ m. 1 < m → m ≤ suc (length bs) → class_of (b ∷ take m (c ∷ bs)) ≡ None) [
      | zero ↦ λ low high. absurd (omega arith)
      | suc m ↦ λ low high. longer-none m bs (omega arith) (omega arith)
    ] low high)
  where
    longer-none : (m : ℕ) (bs : List ℕ) → 0 < m → m ≤ length bs → class_of (b ∷ c ∷ take m bs) ≡ None
    longer-none zero bs low high = absurd (omega arith)
    longer-none (suc m) [] low high = absurd (omega arith)
    longer-none (suc m) (d ∷ bs) low high = other-class b (c ∷ d ∷ take m bs) o

no-third : (b : ℕ) (bs : List ℕ) (m : ℕ) → IsOther b → ((c : ℕ) (cs : List ℕ) → bs ≡ c ∷ cs → double b c ≡ None) → 0 < m → m ≤ length bs → class_of (b ∷ take m bs) ≡ None
no-third b bs zero o none low high = absurd (omega arith)
no-third b [] (suc m) o none low high = absurd (omega arith)
no-third b (c ∷ cs) (suc zero) o none low high = other-class b (c ∷ []) o ∙ ap (option_map classes.Symbol) (none c cs refl)
no-third b (c ∷ []) (suc (suc m)) o none low high = absurd (omega arith)
no-third b (c ∷ d ∷ cs) (suc (suc m)) o none low high = other-class b (c ∷ d ∷ take m cs) o

pub longest-single : (b : ℕ) (bs : List ℕ) (s : Symbol) → IsOther b → ((c : ℕ) (cs : List ℕ) → bs ≡ c ∷ cs → double b c ≡ None) → single b ≡ Some s
    → IsLongest (b ∷ bs) 1 (classes.Symbol s)
longest-single b bs s o none is =
    longest-at b bs 0 (classes.Symbol s) (omega arith) (other-class b [] o ∙ ap (option_map classes.Symbol) is)
    (λ m low high. no-third b bs m o none low high)

pub longest-no_symbol : (b : ℕ) (bs : List ℕ) → IsOther b → ((c : ℕ) (cs : List ℕ) → bs ≡ c ∷ cs → double b c ≡ None) → single b ≡ None → longest_token (b ∷ bs) ≡ 0
longest-no_symbol b bs o none is =
    longest-none b bs (λ m.
    elim m as (λ m. m ≤ length bs → class_of (b ∷ take m bs) ≡ None) [
      | zero ↦ λ high. other-class b [] o ∙ ap (option_map classes.Symbol) is
      | suc m ↦ λ high. no-third b bs (suc m) o none (omega arith) high
    ])

pub longest-nil : longest_token [] ≡ 0
unfolding longest_token
longest-nil = refl

pub longest-double-of : (b : ℕ) (bs : List ℕ) (s : Symbol) → IsOther b → (c : ℕ) (cs : List ℕ) → bs ≡ c ∷ cs → double b c ≡ Some s → IsLongest (b ∷ bs) 2 (classes.Symbol s)
longest-double-of b bs s o c cs is two = rw is (longest-double b c cs s o two)

pub longest-word-of : (text : List ℕ) (b : ℕ) (bs : List ℕ) (n : ℕ) (class : Class) → text ≡ b ∷ bs → is_letter b ≡ true → n ≡ run_len is_word_byte bs
    → class ≡ word_class (take (n + 1) text) → IsLongest text (n + 1) class
longest-word-of text b bs n class is letter run class_is =
    let e : n + 1 ≡ suc (run_len is_word_byte bs) = omega arith in
    let c : class ≡ word_class (take (suc (run_len is_word_byte bs)) (b ∷ bs)) = class_is ∙ ap (λ (k : ℕ). word_class (take k text)) e ∙ ap (λ (t : List ℕ). word_class (take (suc (run_len is_word_byte bs)) t)) is in
    rw (is, e, c) (longest-word b bs letter)

pub longest-number-of : (text : List ℕ) (b : ℕ) (bs : List ℕ) (found : ℕ × Class) → text ≡ b ∷ bs → is_letter b ≡ false → is_digit b ≡ true → found ≡ number_end bs
    → IsLongest text (found.0 + 1) found.1
longest-number-of text b bs found is letter digit end =
    rw (is, end, add-one) (longest-number b bs letter digit)
