-- The number that digits write.
use Rattle.std.proofs.Common.{◌≡◌, ℕ, zero, suc, inl, inr, ◌&&◌, eqb, Option, Some, None, ◌+◌, ◌*◌, ◌-◌, ◌<◌, ◌≤◌, true, false, cond, List, [], ◌∷◌, length, drop, get_or, ap, ◌∙◌, arith, refl}
use Rattle.std.proofs.Math.Seq.{drop-cons}
use Rattle.std.proofs.Math.Nat.{le-suc_iff, mul-le-mul_left, mul-le-mul_right, mul_assoc}
use Rattle.std.proofs.lemmas.Bool.Decides.{nat_tests}
use Rattle.std.specs.Option.{option_map}
use Rattle.weld_grammar.specs.declared.terminals.symbol.Symbol.{Symbol}
use Rattle.weld_grammar.specs.declared.terminals.reserved.Reserved.{Reserved}
use Rattle.weld_grammar.specs.declared.terminals.class.Class.{Class}
use Rattle.weld_grammar.specs.declared.terminals.class.Class.TheVariants as classes
use Rattle.weld_tokens.specs.Words.{class_of, word_class, reserved_or_name, written_so, all_reserved, number_class, is_over, is_field, ends_string, symbol_of}
use Rattle.weld_tokens.specs.Bytes.{is_digit, is_letter, is_word_byte, all_of}
use Rattle.weld_tokens.specs.Literals.{number_value, field_value, value_behind, items_value, escape_value, byte_value, low_value}
use Rattle.weld_tokens.specs.declared.scan.Part.{Part}
use Rattle.weld_tokens.specs.declared.scan.Part.TheVariants.{Item, Escape, Hex, LastHex}

-- it grows with each digit
pub behind-grows : (before : ℕ) (bs : List ℕ) → before ≤ value_behind before bs
behind-grows before [] = omega arith
behind-grows before (b ∷ bs) =
    let h = behind-grows (before * 10 + (b - 48)) bs in
    elim (is_digit b) as (λ t. before ≤ cond t (value_behind (before * 10 + (b - 48)) bs) before) [
      | true ↦ omega arith
      | false ↦ omega arith
    ]

-- the next digit
pub behind-step : (before : ℕ) (bs : List ℕ) (i : ℕ) → i < length bs
    → value_behind before (drop i bs) ≡ cond (is_digit (get_or bs i 0)) (value_behind (before * 10 + (get_or bs i 0 - 48)) (drop (i + 1) bs)) before
behind-step before bs i h = let e : suc i ≡ i + 1 = omega arith in ap (value_behind before) (drop-cons bs i 0 h ∙ ap (λ n. get_or bs i 0 ∷ drop n bs) e)

-- once it is too great, it stays so
pub past : (most value : ℕ) (bs : List ℕ) (i : ℕ) → i < length bs → is_digit (get_or bs i 0) ≡ true → most < value * 10 + (get_or bs i 0 - 48) → number_value bs ≡ value_behind value (drop i bs)
    → most < number_value bs
past most value bs i within digit more so =
    let step = behind-step value bs i within in
    let grows = behind-grows (value * 10 + (get_or bs i 0 - 48)) (drop (i + 1) bs) in
    let e : number_value bs ≡ value_behind (value * 10 + (get_or bs i 0 - 48)) (drop (i + 1) bs) = so ∙ rw digit at step in
    omega (arith, e, grows, more)

-- what is left of a string, by what is awaited
abbrev pub left_of : Part → ℕ → List ℕ → List ℕ
left_of Item high bs = items_value bs
left_of Escape high bs = escape_value bs
left_of Hex high bs = byte_value bs
left_of LastHex high bs = low_value high bs

-- ---- fields

abbrev tens : ℕ → ℕ
tens zero = 1
tens (suc n) = 10 * tens n

tens-mono : (n m : ℕ) → n ≤ m → tens n ≤ tens m
tens-mono n zero h = let e : n ≡ 0 = omega arith in rw e (omega arith)
tens-mono n (suc m) h =
    elim (le-suc_iff.0 h) [
      | inl less ↦ let ih : tens n ≤ tens m = tens-mono n m less in omega arith
      | inr same ↦ rw same (omega arith)
    ]

-- digits write a number of no more digits
behind-small : (before : ℕ) (bs : List ℕ) → value_behind before bs < (before + 1) * tens (length bs)
behind-small before [] = omega arith
behind-small before (b ∷ bs) =
    let t = tens (length bs) in
    let digit : is_digit b ≡ true → value_behind (before * 10 + (b - 48)) bs < (before + 1) * (10 * t) =
    λ d.
    let few : b ≤ 57 = grind (arith, nat_tests) in
    let ih : value_behind (before * 10 + (b - 48)) bs < (before * 10 + (b - 48) + 1) * t = behind-small (before * 10 + (b - 48)) bs in
    let more : (before * 10 + (b - 48) + 1) * t ≤ (before + 1) * 10 * t = mul-le-mul_right t (omega arith) in
    let same : (before + 1) * 10 * t ≡ (before + 1) * (10 * t) = mul_assoc (before + 1) 10 t in
    omega (arith, ih, more, same)
    in
    let none : before < (before + 1) * (10 * t) =
    let one : 1 ≤ 10 * t = let h : tens 0 ≤ tens (length bs) = tens-mono 0 (length bs) (omega arith) in omega arith in
    let more : (before + 1) * 1 ≤ (before + 1) * (10 * t) = mul-le-mul_left (before + 1) one in
    omega (arith, more)
    in
    elim (is_digit b) as (λ c. is_digit b ≡ c → cond c (value_behind (before * 10 + (b - 48)) bs) before < (before + 1) * (10 * t)) [
      | true ↦ λ e. digit e
      | false ↦ λ e. none
    ] refl

number_no_field : (bs : List ℕ) → number_class bs ≡ Some classes.Field → ⊥
number_no_field [] e = cc
number_no_field (b ∷ bs) e =
    elim (is_digit b) as (λ t. cond t (number_class bs) (cond (eqb b 76 && is_over bs) (Some classes.Long) None) ≡ Some classes.Field → ⊥) [
      | true ↦ λ e. number_no_field bs e
      | false ↦ λ e.
          elim (eqb b 76 && is_over bs) as (λ t. cond t (Some classes.Long) None ≡ Some classes.Field → ⊥) [
            | true ↦ λ e. cc
            | false ↦ λ e. cc
          ] e
    ] e

word_no_field : (o : Option Reserved) → Some (reserved_or_name o) ≡ Some classes.Field → ⊥
word_no_field None e = cc
word_no_field (Some r) e = cc

symbol_no_field : (o : Option Symbol) → option_map classes.Symbol o ≡ Some classes.Field → ⊥
symbol_no_field None e = cc
symbol_no_field (Some s) e = cc

-- a field's number has nine digits at most
pub field-small : (word : List ℕ) → class_of word ≡ Some classes.Field → field_value word ≤ 999999999
unfolding class_of word_class
field-small [] e = cc
field-small (b ∷ bs) e =
    let field : is_field bs ≡ true → value_behind 0 bs ≤ 999999999 =
    λ is.
    let few : length bs ≤ 9 = grind (arith, nat_tests) in
    let small : value_behind 0 bs < 1 * tens (length bs) = behind-small 0 bs in
    let most : tens (length bs) ≤ tens 9 = tens-mono (length bs) 9 few in
    omega (arith, small, most)
    in
    let P : Option Class → Type 0 = λ o. o ≡ Some classes.Field → value_behind 0 bs ≤ 999999999 in
    elim (is_letter b) as (λ t. P (cond t (cond (all_of is_word_byte bs) (Some (reserved_or_name (written_so (b ∷ bs) all_reserved))) None) (cond (is_digit b) (number_class bs) (cond (eqb b 36) (cond (is_field bs) (Some classes.Field) None) (cond (eqb b 34) (cond (ends_string bs) (Some classes.Chars) None) (option_map classes.Symbol (symbol_of b bs))))))) [
      | true ↦
          elim (all_of is_word_byte bs) as (λ t. P (cond t (Some (reserved_or_name (written_so (b ∷ bs) all_reserved))) None)) [
            | true ↦ λ e. absurd (word_no_field (written_so (b ∷ bs) all_reserved) e)
            | false ↦ λ e. cc
          ]
      | false ↦
          elim (is_digit b) as (λ t. P (cond t (number_class bs) (cond (eqb b 36) (cond (is_field bs) (Some classes.Field) None) (cond (eqb b 34) (cond (ends_string bs) (Some classes.Chars) None) (option_map classes.Symbol (symbol_of b bs)))))) [
            | true ↦ λ e. absurd (number_no_field bs e)
            | false ↦
                elim (eqb b 36) as (λ t. P (cond t (cond (is_field bs) (Some classes.Field) None) (cond (eqb b 34) (cond (ends_string bs) (Some classes.Chars) None) (option_map classes.Symbol (symbol_of b bs))))) [
                  | true ↦
                      elim (is_field bs) as (λ t. is_field bs ≡ t → P (cond t (Some classes.Field) None)) [
                        | true ↦ λ is e. field is
                        | false ↦ λ is e. cc
                      ] refl
                  | false ↦
                      elim (eqb b 34) as (λ t. P (cond t (cond (ends_string bs) (Some classes.Chars) None) (option_map classes.Symbol (symbol_of b bs)))) [
                        | true ↦
                            elim (ends_string bs) as (λ t. P (cond t (Some classes.Chars) None)) [
                              | true ↦ λ e. cc
                              | false ↦ λ e. cc
                            ]
                        | false ↦ λ e. absurd (symbol_no_field (symbol_of b bs) e)
                      ]
                ]
          ]
    ] e

pub no-class : (word : List ℕ) → length word ≡ 0 → class_of word ≡ None
unfolding class_of
no-class [] h = refl
no-class (b ∷ bs) h = absurd (omega arith)
