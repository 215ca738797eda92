-- What fields and strings of a text stand for: field numbers have nine digits at most, strings are of bytes.
use Rattle.std.proofs.Common.{◌≡◌, ℕ, suc, zero, ◌+◌, ◌*◌, ◌-◌, ◌<◌, ◌≤◌, ◌^◌, Bool, true, false, ◌&&◌, ◌==◌, cond, nat_le, List, [], ◌∷◌, length, Option, Some, None, refl, arith}
use Rattle.std.specs.Option.{option_map}
use Rattle.std.proofs.lemmas.Bool.{and_parts}
use Rattle.std.proofs.lemmas.Bool.Decides.{nat_tests}
use Rattle.weld_grammar.specs.declared.terminals.class.Class.{Class}
use Rattle.weld_grammar.specs.declared.terminals.class.Class.TheVariants as classes
use Rattle.weld_grammar.specs.declared.terminals.symbol.Symbol.{Symbol}
use Rattle.weld_grammar.specs.declared.terminals.reserved.Reserved.{Reserved}
use Rattle.weld_tokens.specs.Bytes.{is_letter, is_digit, is_word_byte, is_hex, is_plain, is_escape, all_of}
use Rattle.weld_tokens.specs.Words.{class_of, word_class, reserved_or_name, written_so, all_reserved, number_class, is_over, is_field, ends_string, ends_escape, ends_hex, ends_last_hex, symbol_of}
use Rattle.weld_tokens.specs.Literals.{field_value, value_behind, string_value, items_value, escape_value, byte_value, low_value, hex_value, escaped, byte_of}
use Rattle.weld_print.specs.Spellable.{AreBytes}

-- ---- the class of a word decides its first byte

no_word : (o : Option Reserved) → Some (reserved_or_name o) ≡ Some classes.Field → ⊥
no_word None e = cc
no_word (Some r) e = cc

no_chars : (o : Option Reserved) → Some (reserved_or_name o) ≡ Some classes.Chars → ⊥
no_chars None e = cc
no_chars (Some r) e = cc

number_field : (bs : List ℕ) → number_class bs ≡ Some classes.Field → ⊥
number_field [] e = cc
number_field (b ∷ bs) e = by (is_digit b) (b == 76 && is_over bs) (number_class bs) (λ k. number_field bs k) e
  where
    by : (d l : Bool) (o : Option Class) → (o ≡ Some classes.Field → ⊥) → cond d o (cond l (Some classes.Long) None) ≡ Some classes.Field → ⊥
    by true l o f k = f k
    by false true o f k = cc
    by false false o f k = cc

number_chars : (bs : List ℕ) → number_class bs ≡ Some classes.Chars → ⊥
number_chars [] e = cc
number_chars (b ∷ bs) e = by (is_digit b) (b == 76 && is_over bs) (number_class bs) (λ k. number_chars bs k) e
  where
    by : (d l : Bool) (o : Option Class) → (o ≡ Some classes.Chars → ⊥) → cond d o (cond l (Some classes.Long) None) ≡ Some classes.Chars → ⊥
    by true l o f k = f k
    by false true o f k = cc
    by false false o f k = cc

symbol_field : (o : Option Symbol) → option_map classes.Symbol o ≡ Some classes.Field → ⊥
symbol_field None e = cc
symbol_field (Some s) e = cc

symbol_chars : (o : Option Symbol) → option_map classes.Symbol o ≡ Some classes.Chars → ⊥
symbol_chars None e = cc
symbol_chars (Some s) e = cc

-- behind the `$` of a field stand its digits
by_field : (l a d k f q s : Bool) (o : Option Reserved) (bs : List ℕ) (sign : Option Symbol)
    → cond l (cond a (Some (reserved_or_name o)) None) (cond d (number_class bs) (cond k (cond f (Some classes.Field) None) (cond q (cond s (Some classes.Chars) None) (option_map classes.Symbol sign)))) ≡ Some classes.Field → f ≡ true
by_field true true d k f q s o bs sign e = absurd (no_word o e)
by_field true false d k f q s o bs sign e = absurd (cc)
by_field false a true k f q s o bs sign e = absurd (number_field bs e)
by_field false a false true true q s o bs sign e = refl
by_field false a false true false q s o bs sign e = absurd (cc)
by_field false a false false f true true o bs sign e = absurd (cc)
by_field false a false false f true false o bs sign e = absurd (cc)
by_field false a false false f false s o bs sign e = absurd (symbol_field sign e)

-- behind the first `"` of a string stand its items
by_chars : (l a d k f q s : Bool) (o : Option Reserved) (bs : List ℕ) (sign : Option Symbol)
    → cond l (cond a (Some (reserved_or_name o)) None) (cond d (number_class bs) (cond k (cond f (Some classes.Field) None) (cond q (cond s (Some classes.Chars) None) (option_map classes.Symbol sign)))) ≡ Some classes.Chars → s ≡ true
by_chars true true d k f q s o bs sign e = absurd (no_chars o e)
by_chars true false d k f q s o bs sign e = absurd (cc)
by_chars false a true k f q s o bs sign e = absurd (number_chars bs e)
by_chars false a false true true q s o bs sign e = absurd (cc)
by_chars false a false true false q s o bs sign e = absurd (cc)
by_chars false a false false f true true o bs sign e = refl
by_chars false a false false f true false o bs sign e = absurd (cc)
by_chars false a false false f false s o bs sign e = absurd (symbol_chars sign e)

-- ---- fields

-- the greatest number that so many digits write behind those of another
abbrev most : ℕ → ℕ → ℕ
most before zero = before
most before (suc k) = most (before * 10 + 9) k

most_more : (a b k : ℕ) → a ≤ b → most a k ≤ most b k
most_more a b zero h = h
most_more a b (suc k) h = most_more (a * 10 + 9) (b * 10 + 9) k (omega arith)

most_from : (a k : ℕ) → a ≤ most a k
most_from a zero = omega arith
most_from a (suc k) = let h : a * 10 + 9 ≤ most (a * 10 + 9) k = most_from (a * 10 + 9) k in omega arith

most_longer : (a k n : ℕ) → k ≤ n → most a k ≤ most a n
most_longer a zero n h = most_from a n
most_longer a (suc k) zero h = absurd (omega arith)
most_longer a (suc k) (suc n) h = most_longer (a * 10 + 9) k n (omega arith)

digits_most : (before : ℕ) (bs : List ℕ) → all_of is_digit bs ≡ true → value_behind before bs ≤ most before (length bs)
digits_most before [] h = omega arith
digits_most before (b ∷ bs) h =
    let p = and_parts (is_digit b) (all_of is_digit bs) h in
    let digit : is_digit b ≡ true = p.0 in
    let small : before * 10 + (b - 48) ≤ before * 10 + 9 = grind (arith, nat_tests) in
    let more : value_behind (before * 10 + (b - 48)) bs ≤ most (before * 10 + (b - 48)) (length bs) = digits_most (before * 10 + (b - 48)) bs p.1 in
    let top : most (before * 10 + (b - 48)) (length bs) ≤ most (before * 10 + 9) (length bs) = most_more (before * 10 + (b - 48)) (before * 10 + 9) (length bs) small in
    rw (digit) omega arith

nine_digits : (bs : List ℕ) → is_field bs ≡ true → value_behind 0 bs < 10 ^ 9
nine_digits bs h =
    let p = and_parts (nat_le 1 (length bs) && nat_le (length bs) 9) (all_of is_digit bs) h in
    let q = and_parts (nat_le 1 (length bs)) (nat_le (length bs) 9) p.0 in
    let short : length bs ≤ 9 = let e : nat_le (length bs) 9 ≡ true = q.1 in grind (arith, nat_tests) in
    let value : value_behind 0 bs ≤ most 0 (length bs) = digits_most 0 bs p.1 in
    let top : most 0 (length bs) ≤ 999999999 = most_longer 0 (length bs) 9 short in
    omega arith

pub field_small : (word : List ℕ) → class_of word ≡ Some classes.Field → field_value word < 10 ^ 9
unfolding class_of word_class
field_small [] e = absurd (cc)
field_small (b ∷ bs) e = nine_digits bs (by_field (is_letter b) (all_of is_word_byte bs) (is_digit b) (b == 36) (is_field bs) (b == 34) (ends_string bs) (written_so (b ∷ bs) all_reserved) bs (symbol_of b bs) e)

-- ---- strings

hex_small : (b : ℕ) → hex_value b < 16
hex_small b = grind (arith, nat_tests)

byte_small : (high low : ℕ) → byte_of high low < 256
byte_small high low = let h : hex_value high < 16 = hex_small high in let l : hex_value low < 16 = hex_small low in omega arith

plain_small : (b : ℕ) → is_plain b ≡ true → b < 256
plain_small b h = grind (arith, nat_tests)

escape_small : (b : ℕ) → is_escape b ≡ true → escaped b < 256
escape_small b h = grind (arith, nat_tests)

by_item : (q s : Bool) (b : ℕ) (bs : List ℕ) → cond q (is_over bs) (cond s (ends_escape bs) (is_plain b && ends_string bs)) ≡ true
    → (ends_escape bs ≡ true → AreBytes (escape_value bs)) → (ends_string bs ≡ true → AreBytes (items_value bs)) → AreBytes (cond q [] (cond s (escape_value bs) (b ∷ items_value bs)))
by_item true s b bs e f g = tt
by_item false true b bs e f g = f e
by_item false false b bs e f g = let p = and_parts (is_plain b) (ends_string bs) e in (plain_small b p.0, g p.1)

by_escape : (x : Bool) (b : ℕ) (bs : List ℕ) → cond x (ends_hex bs) (is_escape b && ends_string bs) ≡ true
    → (ends_hex bs ≡ true → AreBytes (byte_value bs)) → (ends_string bs ≡ true → AreBytes (items_value bs)) → AreBytes (cond x (byte_value bs) (escaped b ∷ items_value bs))
by_escape true b bs e f g = f e
by_escape false b bs e f g = let p = and_parts (is_escape b) (ends_string bs) e in (escape_small b p.0, g p.1)

mutual
  items_bytes : (bs : List ℕ) → ends_string bs ≡ true → AreBytes (items_value bs)
  items_bytes [] e = tt
  items_bytes (b ∷ bs) e = by_item (b == 34) (b == 92) b bs e (λ k. escape_bytes bs k) (λ k. items_bytes bs k)

  escape_bytes : (bs : List ℕ) → ends_escape bs ≡ true → AreBytes (escape_value bs)
  escape_bytes [] e = tt
  escape_bytes (b ∷ bs) e = by_escape (b == 120) b bs e (λ k. hex_bytes bs k) (λ k. items_bytes bs k)

  hex_bytes : (bs : List ℕ) → ends_hex bs ≡ true → AreBytes (byte_value bs)
  hex_bytes [] e = tt
  hex_bytes (b ∷ bs) e = low_bytes b bs (and_parts (is_hex b) (ends_last_hex bs) e).1

  low_bytes : (high : ℕ) (bs : List ℕ) → ends_last_hex bs ≡ true → AreBytes (low_value high bs)
  low_bytes high [] e = tt
  low_bytes high (b ∷ bs) e = (byte_small high b, items_bytes bs (and_parts (is_hex b) (ends_string bs) e).1)

pub string_bytes : (word : List ℕ) → class_of word ≡ Some classes.Chars → AreBytes (string_value word)
unfolding class_of word_class
string_bytes [] e = absurd (cc)
string_bytes (b ∷ bs) e = items_bytes bs (by_chars (is_letter b) (all_of is_word_byte bs) (is_digit b) (b == 36) (is_field bs) (b == 34) (ends_string bs) (written_so (b ∷ bs) all_reserved) bs (symbol_of b bs) e)
