-- The tokens of printed text.
use Rattle.std.proofs.Common.{◌≡◌, ℕ, ◌+◌, ◌*◌, ◌-◌, ◌<◌, ◌≤◌, ◌^◌, Bool, true, false, ◌&&◌, ◌||◌, ◌==◌, cond, nat_le, List, [], ◌∷◌, ◌++◌, length, refl, ap, ◌∙◌, arith, Some, None, rules}
use Rattle.std.specs.Fmt.{decimal}
use Rattle.std.proofs.lemmas.Fmt.{digits_decimal, digits_value-decimal, decimal_nonempty, length-decimal-le}
use Rattle.std.proofs.lemmas.Str.Parse.{IsNumeralModel, numerals_by_fold}
use Rattle.std.proofs.lemmas.Bool.{and_parts}
use Rattle.std.proofs.lemmas.Bool.Decides.{nat_tests}
use Rattle.weld_grammar.specs.declared.terminals.reserved.Reserved.{Reserved}
use Rattle.weld_grammar.specs.declared.terminals.reserved.Reserved.TheVariants.{Let, If, Select, Lookup, Keyexists, Len, Slice, Merge, Result, For, Iterate, Zip, Iter, Vec, Dict, Bool as BoolWord, I8, I16, I32, I64, U8, U16, U32, U64, Vecbuilder, Appender, Merger, Dictmerger, Vecmerger, Groupbuilder, Groupmerger, True, False, Min, Max, Macro}
use Rattle.weld_grammar.specs.declared.terminals.class.Class.{Class}
use Rattle.weld_grammar.specs.declared.terminals.class.Class.TheVariants as classes
use Rattle.weld_grammar.specs.ReservedWords.{reserved_text}
use Rattle.weld_tokens.specs.Bytes.{is_blank, is_letter, is_digit, is_word_byte, all_of}
use Rattle.weld_tokens.specs.Words.{class_of, word_class, number_class}
use Rattle.weld_tokens.specs.Tokens.{gap_len}
use Rattle.weld_tokens.specs.Literals.{value_behind}
use Rattle.weld_print.proofs.Longest.{Lexeme, NoneLonger, lexeme}

-- no byte of a word follows
abbrev pub Stops : List ℕ → Type 0
Stops [] = Unit {0}
Stops (b ∷ bs) = is_word_byte b ≡ false

and-false : (a : Bool) → (a && false) ≡ false
and-false true = refl
and-false false = refl

or-false : (a b : Bool) → (a || b) ≡ false → (a ≡ false) × (b ≡ false)
or-false true b h = absurd (let bad : true ≡ false = h in cc)
or-false false b h = (refl, h)

all_stops : (test : ℕ → Bool) (bs : List ℕ) (d : ℕ) (more : List ℕ) → test d ≡ false → all_of test (bs ++ (d ∷ more)) ≡ false
all_stops test [] d more h = ap (λ (t : Bool). t && all_of test more) h
all_stops test (b ∷ bs) d more h = ap (λ (t : Bool). test b && t) (all_stops test bs d more h) ∙ and-false (test b)

-- ---- words

letter_gapless : (b : ℕ) (bs : List ℕ) → is_letter b ≡ true → gap_len (b ∷ bs) ≡ 0
letter_gapless b bs h =
    let blank : is_blank b ≡ false = grind (arith, nat_tests) in
    let hash : (b == 35) ≡ false = grind (arith, nat_tests) in
    rw (blank, hash) refl

pub word_lexeme : (b : ℕ) (bs rest : List ℕ) (class : Class) → is_letter b ≡ true → class_of (b ∷ bs) ≡ Some class → Stops rest → Lexeme (b ∷ bs) class rest
unfolding class_of
word_lexeme b bs rest class letter is stops = lexeme (b ∷ bs) rest class (omega arith) is (none rest stops) (letter_gapless b (bs ++ rest) letter)
  where
    none : (rest : List ℕ) → Stops rest → NoneLonger (b ∷ bs) rest
    none [] s = tt
    none (d ∷ ds) s = λ more. let no : all_of is_word_byte (bs ++ (d ∷ more)) ≡ false = all_stops is_word_byte bs d more s in rw (letter, no) refl

pub reserved_lexeme : (w : Reserved) (rest : List ℕ) → Stops rest → Lexeme (reserved_text w) (classes.Reserved w) rest
unfolding class_of word_class
reserved_lexeme Let rest s = word_lexeme 108 (101 ∷ 116 ∷ []) rest (classes.Reserved Let) refl refl s
reserved_lexeme If rest s = word_lexeme 105 (102 ∷ []) rest (classes.Reserved If) refl refl s
reserved_lexeme Select rest s = word_lexeme 115 (101 ∷ 108 ∷ 101 ∷ 99 ∷ 116 ∷ []) rest (classes.Reserved Select) refl refl s
reserved_lexeme Lookup rest s = word_lexeme 108 (111 ∷ 111 ∷ 107 ∷ 117 ∷ 112 ∷ []) rest (classes.Reserved Lookup) refl refl s
reserved_lexeme Keyexists rest s = word_lexeme 107 (101 ∷ 121 ∷ 101 ∷ 120 ∷ 105 ∷ 115 ∷ 116 ∷ 115 ∷ []) rest (classes.Reserved Keyexists) refl refl s
reserved_lexeme Len rest s = word_lexeme 108 (101 ∷ 110 ∷ []) rest (classes.Reserved Len) refl refl s
reserved_lexeme Slice rest s = word_lexeme 115 (108 ∷ 105 ∷ 99 ∷ 101 ∷ []) rest (classes.Reserved Slice) refl refl s
reserved_lexeme Merge rest s = word_lexeme 109 (101 ∷ 114 ∷ 103 ∷ 101 ∷ []) rest (classes.Reserved Merge) refl refl s
reserved_lexeme Result rest s = word_lexeme 114 (101 ∷ 115 ∷ 117 ∷ 108 ∷ 116 ∷ []) rest (classes.Reserved Result) refl refl s
reserved_lexeme For rest s = word_lexeme 102 (111 ∷ 114 ∷ []) rest (classes.Reserved For) refl refl s
reserved_lexeme Iterate rest s = word_lexeme 105 (116 ∷ 101 ∷ 114 ∷ 97 ∷ 116 ∷ 101 ∷ []) rest (classes.Reserved Iterate) refl refl s
reserved_lexeme Zip rest s = word_lexeme 122 (105 ∷ 112 ∷ []) rest (classes.Reserved Zip) refl refl s
reserved_lexeme Iter rest s = word_lexeme 105 (116 ∷ 101 ∷ 114 ∷ []) rest (classes.Reserved Iter) refl refl s
reserved_lexeme Vec rest s = word_lexeme 118 (101 ∷ 99 ∷ []) rest (classes.Reserved Vec) refl refl s
reserved_lexeme Dict rest s = word_lexeme 100 (105 ∷ 99 ∷ 116 ∷ []) rest (classes.Reserved Dict) refl refl s
reserved_lexeme BoolWord rest s = word_lexeme 98 (111 ∷ 111 ∷ 108 ∷ []) rest (classes.Reserved BoolWord) refl refl s
reserved_lexeme I8 rest s = word_lexeme 105 (56 ∷ []) rest (classes.Reserved I8) refl refl s
reserved_lexeme I16 rest s = word_lexeme 105 (49 ∷ 54 ∷ []) rest (classes.Reserved I16) refl refl s
reserved_lexeme I32 rest s = word_lexeme 105 (51 ∷ 50 ∷ []) rest (classes.Reserved I32) refl refl s
reserved_lexeme I64 rest s = word_lexeme 105 (54 ∷ 52 ∷ []) rest (classes.Reserved I64) refl refl s
reserved_lexeme U8 rest s = word_lexeme 117 (56 ∷ []) rest (classes.Reserved U8) refl refl s
reserved_lexeme U16 rest s = word_lexeme 117 (49 ∷ 54 ∷ []) rest (classes.Reserved U16) refl refl s
reserved_lexeme U32 rest s = word_lexeme 117 (51 ∷ 50 ∷ []) rest (classes.Reserved U32) refl refl s
reserved_lexeme U64 rest s = word_lexeme 117 (54 ∷ 52 ∷ []) rest (classes.Reserved U64) refl refl s
reserved_lexeme Vecbuilder rest s = word_lexeme 118 (101 ∷ 99 ∷ 98 ∷ 117 ∷ 105 ∷ 108 ∷ 100 ∷ 101 ∷ 114 ∷ []) rest (classes.Reserved Vecbuilder) refl refl s
reserved_lexeme Appender rest s = word_lexeme 97 (112 ∷ 112 ∷ 101 ∷ 110 ∷ 100 ∷ 101 ∷ 114 ∷ []) rest (classes.Reserved Appender) refl refl s
reserved_lexeme Merger rest s = word_lexeme 109 (101 ∷ 114 ∷ 103 ∷ 101 ∷ 114 ∷ []) rest (classes.Reserved Merger) refl refl s
reserved_lexeme Dictmerger rest s = word_lexeme 100 (105 ∷ 99 ∷ 116 ∷ 109 ∷ 101 ∷ 114 ∷ 103 ∷ 101 ∷ 114 ∷ []) rest (classes.Reserved Dictmerger) refl refl s
reserved_lexeme Vecmerger rest s = word_lexeme 118 (101 ∷ 99 ∷ 109 ∷ 101 ∷ 114 ∷ 103 ∷ 101 ∷ 114 ∷ []) rest (classes.Reserved Vecmerger) refl refl s
reserved_lexeme Groupbuilder rest s = word_lexeme 103 (114 ∷ 111 ∷ 117 ∷ 112 ∷ 98 ∷ 117 ∷ 105 ∷ 108 ∷ 100 ∷ 101 ∷ 114 ∷ []) rest (classes.Reserved Groupbuilder) refl refl s
reserved_lexeme Groupmerger rest s = word_lexeme 103 (114 ∷ 111 ∷ 117 ∷ 112 ∷ 109 ∷ 101 ∷ 114 ∷ 103 ∷ 101 ∷ 114 ∷ []) rest (classes.Reserved Groupmerger) refl refl s
reserved_lexeme True rest s = word_lexeme 116 (114 ∷ 117 ∷ 101 ∷ []) rest (classes.Reserved True) refl refl s
reserved_lexeme False rest s = word_lexeme 102 (97 ∷ 108 ∷ 115 ∷ 101 ∷ []) rest (classes.Reserved False) refl refl s
reserved_lexeme Min rest s = word_lexeme 109 (105 ∷ 110 ∷ []) rest (classes.Reserved Min) refl refl s
reserved_lexeme Max rest s = word_lexeme 109 (97 ∷ 120 ∷ []) rest (classes.Reserved Max) refl refl s
reserved_lexeme Macro rest s = word_lexeme 109 (97 ∷ 99 ∷ 114 ∷ 111 ∷ []) rest (classes.Reserved Macro) refl refl s

or-true : (a : Bool) → (a || true) ≡ true
or-true true = refl
or-true false = refl

digits_are_words : (ds : List ℕ) → all_of is_digit ds ≡ true → all_of is_word_byte ds ≡ true
digits_are_words [] h = refl
digits_are_words (d ∷ ds) h =
    let p = and_parts (is_digit d) (all_of is_digit ds) h in
    let one : is_word_byte d ≡ true = ap (λ (t : Bool). is_letter d || t) p.0 ∙ or-true (is_letter d) in
    rw (one, digits_are_words ds p.1) refl

-- `x` and decimal digits are a name
name_class : (ds : List ℕ) → all_of is_digit ds ≡ true → class_of (120 ∷ ds) ≡ Some classes.Name
unfolding class_of word_class
name_class ds h = rw (digits_are_words ds h) refl

-- ---- decimal digits

-- the number that digits write behind another
abbrev read_on : ℕ → List ℕ → ℕ
read_on before [] = before
read_on before (b ∷ bs) = read_on (before * 10 + (b - 48)) bs

own : IsNumeralModel (λ ds. all_of is_digit ds ≡ true) (read_on 0)
own = numerals_by_fold _ (search rules) read_on (search rules)

value_read : (before : ℕ) (ds : List ℕ) → all_of is_digit ds ≡ true → value_behind before ds ≡ read_on before ds
value_read before [] h = refl
value_read before (d ∷ ds) h =
    let p = and_parts (is_digit d) (all_of is_digit ds) h in
    ap (λ (t : Bool). cond t (value_behind (before * 10 + (d - 48)) ds) before) p.0 ∙ value_read (before * 10 + (d - 48)) ds p.1

-- what stands behind the digits isn't read
value_stops : (before : ℕ) (ds : List ℕ) (d : ℕ) (more : List ℕ) → all_of is_digit ds ≡ true → is_digit d ≡ false → value_behind before (ds ++ (d ∷ more)) ≡ read_on before ds
value_stops before [] d more h n = ap (λ (t : Bool). cond t (value_behind (before * 10 + (d - 48)) more) before) n
value_stops before (c ∷ ds) d more h n =
    let p = and_parts (is_digit c) (all_of is_digit ds) h in
    ap (λ (t : Bool). cond t (value_behind (before * 10 + (c - 48)) (ds ++ (d ∷ more))) before) p.0 ∙ value_stops (before * 10 + (c - 48)) ds d more p.1 n

pub digits_of_decimal : (n : ℕ) → n < 2 ^ 64 → all_of is_digit (decimal n) ≡ true
digits_of_decimal n h = digits_decimal own n h

pub value_of_decimal : (n : ℕ) → n < 2 ^ 64 → value_behind 0 (decimal n) ≡ n
value_of_decimal n h = value_read 0 (decimal n) (digits_of_decimal n h) ∙ digits_value-decimal own n h

pub value_of_long : (n : ℕ) → n < 2 ^ 64 → value_behind 0 (decimal n ++ (76 ∷ [])) ≡ n
value_of_long n h = value_stops 0 (decimal n) 76 [] (digits_of_decimal n h) refl ∙ digits_value-decimal own n h

pub name_lexeme : (n : ℕ) (rest : List ℕ) → n < 2 ^ 64 → Stops rest → Lexeme (120 ∷ decimal n) classes.Name rest
name_lexeme n rest h s = word_lexeme 120 (decimal n) rest classes.Name refl (name_class (decimal n) (digits_of_decimal n h)) s

-- ---- numbers

stops_digit : (d : ℕ) → is_word_byte d ≡ false → (is_digit d ≡ false) × ((d == 76) ≡ false)
stops_digit d h = ((or-false (is_letter d) (is_digit d) h).1, no_long)
  where
    no_long : (d == 76) ≡ false
    no_long = grind (arith, nat_tests)

digit_not_letter : (d : ℕ) → is_digit d ≡ true → is_letter d ≡ false
digit_not_letter d h = grind (arith, nat_tests)

digit_gapless : (b : ℕ) (bs : List ℕ) → is_digit b ≡ true → gap_len (b ∷ bs) ≡ 0
digit_gapless b bs h =
    let blank : is_blank b ≡ false = grind (arith, nat_tests) in
    let hash : (b == 35) ≡ false = grind (arith, nat_tests) in
    rw (blank, hash) refl

int_class : (ds : List ℕ) → all_of is_digit ds ≡ true → number_class ds ≡ Some classes.Int
int_class [] h = refl
int_class (d ∷ ds) h = let p = and_parts (is_digit d) (all_of is_digit ds) h in rw p.0 (int_class ds p.1)

long_class : (ds : List ℕ) → all_of is_digit ds ≡ true → number_class (ds ++ (76 ∷ [])) ≡ Some classes.Long
long_class [] h = refl
long_class (d ∷ ds) h = let p = and_parts (is_digit d) (all_of is_digit ds) h in rw p.0 (long_class ds p.1)

int_ends : (ds : List ℕ) (d : ℕ) (more : List ℕ) → all_of is_digit ds ≡ true → is_word_byte d ≡ false → number_class (ds ++ (d ∷ more)) ≡ None
int_ends [] d more h s = let p = stops_digit d s in rw (p.0, p.1) refl
int_ends (c ∷ ds) d more h s = let p = and_parts (is_digit c) (all_of is_digit ds) h in rw p.0 (int_ends ds d more p.1 s)

long_ends : (ds : List ℕ) (d : ℕ) (more : List ℕ) → all_of is_digit ds ≡ true → number_class ((ds ++ (76 ∷ [])) ++ (d ∷ more)) ≡ None
long_ends [] d more h = refl
long_ends (c ∷ ds) d more h = let p = and_parts (is_digit c) (all_of is_digit ds) h in rw p.0 (long_ends ds d more p.1)

number_by : (b : ℕ) (bs rest : List ℕ) (class : Class) → is_digit b ≡ true → number_class bs ≡ Some class → ((d : ℕ) (more : List ℕ) → is_word_byte d ≡ false → number_class (bs ++ (d ∷ more)) ≡ None) → Stops rest → Lexeme (b ∷ bs) class rest
unfolding class_of
number_by b bs rest class digit is ends s = lexeme (b ∷ bs) rest class (omega arith) (here digit is) (none rest s) (digit_gapless b (bs ++ rest) digit)
  where
    here : is_digit b ≡ true → number_class bs ≡ Some class → class_of (b ∷ bs) ≡ Some class
    here digit is = rw (digit_not_letter b digit, digit) is

    none : (rest : List ℕ) → Stops rest → NoneLonger (b ∷ bs) rest
    none [] s = tt
    none (d ∷ ds) s = λ more. rw (digit_not_letter b digit, digit) (ends d more s)

int_by : (ds rest : List ℕ) → 0 < length ds → all_of is_digit ds ≡ true → Stops rest → Lexeme ds classes.Int rest
int_by [] rest some h s = absurd (omega arith)
int_by (b ∷ bs) rest some h s =
    let p = and_parts (is_digit b) (all_of is_digit bs) h in
    number_by b bs rest classes.Int p.0 (int_class bs p.1) (λ d more e. int_ends bs d more p.1 e) s

long_by : (ds rest : List ℕ) → 0 < length ds → all_of is_digit ds ≡ true → Stops rest → Lexeme (ds ++ (76 ∷ [])) classes.Long rest
long_by [] rest some h s = absurd (omega arith)
long_by (b ∷ bs) rest some h s =
    let p = and_parts (is_digit b) (all_of is_digit bs) h in
    number_by b (bs ++ (76 ∷ [])) rest classes.Long p.0 (long_class bs p.1) (λ d more e. long_ends bs d more p.1) s

pub int_lexeme : (n : ℕ) (rest : List ℕ) → n < 2 ^ 64 → Stops rest → Lexeme (decimal n) classes.Int rest
int_lexeme n rest h s = int_by (decimal n) rest (decimal_nonempty n h) (digits_of_decimal n h) s

pub long_lexeme : (n : ℕ) (rest : List ℕ) → n < 2 ^ 64 → Stops rest → Lexeme (decimal n ++ (76 ∷ [])) classes.Long rest
long_lexeme n rest h s = long_by (decimal n) rest (decimal_nonempty n h) (digits_of_decimal n h) s

-- ---- fields

field_here : (ds : List ℕ) → 0 < length ds → length ds ≤ 9 → all_of is_digit ds ≡ true → class_of (36 ∷ ds) ≡ Some classes.Field
unfolding class_of
field_here ds some few h =
    let low : nat_le 1 (length ds) ≡ true = grind (arith, nat_tests) in
    let high : nat_le (length ds) 9 ≡ true = grind (arith, nat_tests) in
    rw (low, high, h) refl

field_none : (ds : List ℕ) (d : ℕ) (more : List ℕ) → is_word_byte d ≡ false → class_of ((36 ∷ ds) ++ (d ∷ more)) ≡ None
unfolding class_of
field_none ds d more s =
    let digit : is_digit d ≡ false = (or-false (is_letter d) (is_digit d) s).1 in
    let no : all_of is_digit (ds ++ (d ∷ more)) ≡ false = all_stops is_digit ds d more digit in
    let size = nat_le 1 (length (ds ++ (d ∷ more))) && nat_le (length (ds ++ (d ∷ more))) 9 in
    ap (λ (t : Bool). cond (size && t) (Some classes.Field) None) no ∙ ap (λ (t : Bool). cond t (Some classes.Field) None) (and-false size)

pub field_lexeme : (n : ℕ) (rest : List ℕ) → n < 10 ^ 9 → Stops rest → Lexeme (36 ∷ decimal n) classes.Field rest
field_lexeme n rest h s =
    let small : n < 2 ^ 64 = omega arith in
    lexeme (36 ∷ decimal n) rest classes.Field (omega arith)
    (field_here (decimal n) (decimal_nonempty n small) (length-decimal-le 9 n (omega arith) h small) (digits_of_decimal n small))
    (none rest s) refl
  where
    none : (rest : List ℕ) → Stops rest → NoneLonger (36 ∷ decimal n) rest
    none [] s = tt
    none (d ∷ ds) s = λ more. field_none (decimal n) d more s
