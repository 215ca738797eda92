-- What is written of a scalar or of a string's byte reads as it.
use Rattle.std.proofs.Common.{◌≡◌, ◌⊎◌, inl, inr, sym, ◌∙◌, ℕ, zero, suc, ◌+◌, ◌/◌, ◌%◌, ◌<◌, ◌≤◌, ◌^◌, Bool, true, false, ◌==◌, ◌&&◌, not, cond, nat_le, nat_lt, IsTrue, List, [], ◌∷◌, ◌++◌, length, Option, Some, None, refl, ap, subst, arith, rules, ℤ, pos, negsuc, neg_ℤ, ◌≤ℤ◌, codes}
use Rattle.std.specs.Option.{option_map}
use Rattle.std.specs.Fmt.{decimal, signed_decimal}
use Rattle.std.proofs.lemmas.Fmt.{digits_decimal, digits_value-decimal, decimal_nonempty}
use Rattle.std.proofs.lemmas.Str.Parse.{IsNumeralModel, numerals_by_fold}
use Rattle.std.proofs.lemmas.Bool.{and_parts, eqb-true, not-true}
use Rattle.std.proofs.lemmas.Bool.Decides.{nat_tests}
use borrow.Author.Tests.{ltb-true, ltb-false}
use Rattle.std.proofs.lemmas.Int.{ints}
use Rattle.weld_data.specs.declared.kind.Kind.{Kind}
use Rattle.weld_data.specs.declared.kind.Kind.TheVariants as kinds
use Rattle.weld_data.specs.Kind.{InRange}
use Rattle.weld_data.specs.Value.{number}
use Rattle.weld_values.specs.Tokens.{is_blank, after_blanks, after_byte, after_word, is_digit, digit_run, after_digits, value_after, numeral_of, numeral_at, signed_at, integer_at, hex_digit, hex_byte, escape_at, item_at}
use Rattle.weld_values.specs.Grammar.{truth_at, number_at, scalar_at}
use Rattle.weld_values.specs.Showing.{shown_number, shown_byte, hex_of}

-- nothing but digits
abbrev pub all_digits : List ℕ → Bool
all_digits [] = true
all_digits (byte ∷ bytes) = is_digit byte && all_digits bytes

own : IsNumeralModel (λ ds. all_digits ds ≡ true) (value_after 0)
own = numerals_by_fold _ (search rules) value_after (search rules)

-- no digit stands at the front
abbrev pub ends_number : List ℕ → Bool
ends_number [] = true
ends_number (byte ∷ bytes) = not (is_digit byte)

run_none : (rest : List ℕ) → IsTrue (ends_number rest) → digit_run rest ≡ []
run_none [] h = refl
run_none (byte ∷ bytes) h = ap (λ (b : Bool). cond b (byte ∷ digit_run bytes) []) (not-true _ h)

after_none : (rest : List ℕ) → IsTrue (ends_number rest) → after_digits rest ≡ rest
after_none [] h = refl
after_none (byte ∷ bytes) h = ap (λ (b : Bool). cond b (after_digits bytes) (byte ∷ bytes)) (not-true _ h)

run_there : (digits rest : List ℕ) → IsTrue (all_digits digits) → IsTrue (ends_number rest) → digit_run (digits ++ rest) ≡ digits
run_there [] rest h e = run_none rest e
run_there (byte ∷ digits) rest h e =
    let p = and_parts (is_digit byte) (all_digits digits) h in
    ap (λ (b : Bool). cond b (byte ∷ digit_run (digits ++ rest)) []) p.0 ∙ ap (λ (t : List ℕ). byte ∷ t) (run_there digits rest p.1 e)

after_there : (digits rest : List ℕ) → IsTrue (all_digits digits) → IsTrue (ends_number rest) → after_digits (digits ++ rest) ≡ rest
after_there [] rest h e = after_none rest e
after_there (byte ∷ digits) rest h e =
    let p = and_parts (is_digit byte) (all_digits digits) h in
    ap (λ (b : Bool). cond b (after_digits (digits ++ rest)) (byte ∷ digits ++ rest)) p.0 ∙ after_there digits rest p.1 e

of_there : (digits rest : List ℕ) → 0 < length digits → numeral_of digits rest ≡ Some (value_after 0 digits, rest)
of_there [] rest h = absurd (omega arith)
of_there (d ∷ ds) rest h = refl

decimal_back : (n : ℕ) (rest : List ℕ) → n < 2 ^ 64 → IsTrue (ends_number rest) → numeral_at (decimal n ++ rest) ≡ Some (n, rest)
unfolding numeral_at
decimal_back n rest h e =
    let digits = digits_decimal own n h in
    ap (λ (ds : List ℕ). numeral_of ds (after_digits (decimal n ++ rest))) (run_there (decimal n) rest digits e)
    ∙ ap (numeral_of (decimal n)) (after_there (decimal n) rest digits e)
    ∙ of_there (decimal n) rest (decimal_nonempty n h)
    ∙ ap (λ (v : ℕ). Some (v, rest)) (digits_value-decimal own n h)

-- the first of some digits
no_minus : (byte : ℕ) → is_digit byte ≡ true → (byte == 45) ≡ false
no_minus byte d = grind arith

digits_no_minus : (digits rest : List ℕ) → 0 < length digits → IsTrue (all_digits digits) → after_byte 45 (digits ++ rest) ≡ None
digits_no_minus [] rest l h = absurd (omega arith)
digits_no_minus (d ∷ ds) rest l h = ap (λ (b : Bool). cond b (Some (ds ++ rest)) None) (no_minus d (and_parts (is_digit d) (all_digits ds) h).0)

-- a number that some kind may have
record IsOfSome (x : ℤ) : Type 0 where
  pub low : neg_ℤ (pos (2 ^ 63)) ≤ℤ x
  pub high : x ≤ℤ pos 18446744073709551615

of_some : (k : Kind) (x : ℤ) → InRange k x → IsOfSome x
of_some kinds.Bool x r = record { low = omega (arith, ints, r.low); high = omega (arith, ints, r.high) }
of_some kinds.I8 x r = record { low = omega (arith, ints, r.low); high = omega (arith, ints, r.high) }
of_some kinds.I16 x r = record { low = omega (arith, ints, r.low); high = omega (arith, ints, r.high) }
of_some kinds.I32 x r = record { low = omega (arith, ints, r.low); high = omega (arith, ints, r.high) }
of_some kinds.I64 x r = record { low = omega (arith, ints, r.low); high = omega (arith, ints, r.high) }
of_some kinds.U8 x r = record { low = omega (arith, ints, r.low); high = omega (arith, ints, r.high) }
of_some kinds.U16 x r = record { low = omega (arith, ints, r.low); high = omega (arith, ints, r.high) }
of_some kinds.U32 x r = record { low = omega (arith, ints, r.low); high = omega (arith, ints, r.high) }
of_some kinds.U64 x r = record { low = omega (arith, ints, r.low); high = omega (arith, ints, r.high) }

integer_back : (x : ℤ) (rest : List ℕ) → IsOfSome x → IsTrue (ends_number rest) → integer_at (signed_decimal x ++ rest) ≡ Some (x, rest)
unfolding integer_at
integer_back (pos n) rest r e =
    let small : n < 2 ^ 64 = omega (arith, ints, r.high) in
    ap (λ (o : Option (List ℕ)). signed_at o (decimal n ++ rest)) (digits_no_minus (decimal n) rest (decimal_nonempty n small) (digits_decimal own n small))
    ∙ ap (λ (o : Option (ℕ × List ℕ)). option_map (λ (f : ℕ × List ℕ). (pos f.0, f.1)) o) (decimal_back n rest small e)
integer_back (negsuc n) rest r e =
    let small : suc n < 2 ^ 64 = omega (arith, ints, r.low) in
    ap (λ (o : Option (ℕ × List ℕ)). option_map (λ (f : ℕ × List ℕ). (neg_ℤ (pos f.0), f.1)) o) (decimal_back (suc n) rest small e)

-- the byte closes a list or a dictionary
abbrev pub Closes : ℕ → Type 0
Closes close = (close ≡ 93) ⊎ (close ≡ 125)

-- a text that begins with a byte other than a blank and the closing byte
pub record Begins (close : ℕ) (text : List ℕ) : Type 0 where
  pub byte : ℕ
  pub more : List ℕ
  pub parts : text ≡ byte ∷ more
  pub bare : is_blank byte ≡ false
  pub open_still : (byte == close) ≡ false

pub differs : (byte close : ℕ) → Closes close → (byte == 93) ≡ false → (byte == 125) ≡ false → (byte == close) ≡ false
differs byte close (inl e) a b = subst (λ (c : ℕ). (byte == c) ≡ false) (sym e) a
differs byte close (inr e) a b = subst (λ (c : ℕ). (byte == c) ≡ false) (sym e) b

digit_bare : (byte : ℕ) → is_digit byte ≡ true → is_blank byte ≡ false
digit_bare byte d = grind arith

digit_no_bracket : (byte : ℕ) → is_digit byte ≡ true → (byte == 93) ≡ false
digit_no_bracket byte d = grind arith

digit_no_brace : (byte : ℕ) → is_digit byte ≡ true → (byte == 125) ≡ false
digit_no_brace byte d = grind arith

digits_begin : (close : ℕ) → Closes close → (digits : List ℕ) → 0 < length digits → IsTrue (all_digits digits) → Begins close digits
digits_begin close c [] l h = absurd (omega arith)
digits_begin close c (d ∷ ds) l h =
    let p = (and_parts (is_digit d) (all_digits ds) h).0 in
    record { byte = d; more = ds; parts = refl; bare = digit_bare d p; open_still = differs d close c (digit_no_bracket d p) (digit_no_brace d p) }

integer_begins : (close : ℕ) → Closes close → (x : ℤ) → IsOfSome x → Begins close (signed_decimal x)
integer_begins close c (pos n) r = let small : n < 2 ^ 64 = omega (arith, ints, r.high) in digits_begin close c (decimal n) (decimal_nonempty n small) (digits_decimal own n small)
integer_begins close c (negsuc n) r = record { byte = 45; more = decimal (suc n); parts = refl; bare = refl; open_still = differs 45 close c refl refl }

pub begins_bare : (close : ℕ) (text rest : List ℕ) → Begins close text → after_blanks (text ++ rest) ≡ text ++ rest
begins_bare close text rest b =
    ap (λ (t : List ℕ). after_blanks (t ++ rest)) b.parts ∙ ap (λ (c : Bool). cond c (after_blanks (b.more ++ rest)) (b.byte ∷ b.more ++ rest)) b.bare ∙ ap (λ (t : List ℕ). t ++ rest) (sym b.parts)

number_back : (k : Kind) (x : ℤ) (rest : List ℕ) → InRange k x → IsTrue (ends_number rest) → number_at k (signed_decimal x ++ rest) ≡ Some (number k x, rest)
number_back k x rest r e =
    ap (λ (t : List ℕ). option_map (λ (f : ℤ × List ℕ). (number k f.0, f.1)) (integer_at t)) (begins_bare 93 (signed_decimal x) rest (integer_begins 93 (inl refl) x (of_some k x r)))
    ∙ ap (λ (o : Option (ℤ × List ℕ)). option_map (λ (f : ℤ × List ℕ). (number k f.0, f.1)) o) (integer_back x rest (of_some k x r) e)

-- a truth value is 0 or 1
zero_or_one : (x : ℤ) → InRange kinds.Bool x → (x ≡ pos 0) ⊎ (x ≡ pos 1)
zero_or_one (pos zero) r = inl refl
zero_or_one (pos (suc zero)) r = inr refl
zero_or_one (pos (suc (suc n))) r = absurd (omega (arith, ints, r.high))
zero_or_one (negsuc n) r = absurd (omega (arith, ints, r.low))

truth_back : (x : ℤ) (rest : List ℕ) → (x ≡ pos 0) ⊎ (x ≡ pos 1) → truth_at (after_blanks (shown_number kinds.Bool x ++ rest)) ≡ Some (number kinds.Bool x, rest)
unfolding truth_at after_word
truth_back x rest (inl e) = ap (λ (y : ℤ). truth_at (after_blanks (shown_number kinds.Bool y ++ rest))) e ∙ ap (λ (y : ℤ). Some (number kinds.Bool y, rest)) (sym e)
truth_back x rest (inr e) = ap (λ (y : ℤ). truth_at (after_blanks (shown_number kinds.Bool y ++ rest))) e ∙ ap (λ (y : ℤ). Some (number kinds.Bool y, rest)) (sym e)

pub scalar_back : (k : Kind) (x : ℤ) (rest : List ℕ) → InRange k x → IsTrue (ends_number rest) → scalar_at k (shown_number k x ++ rest) ≡ Some (number k x, rest)
unfolding scalar_at
scalar_back kinds.Bool x rest r e = truth_back x rest (zero_or_one x r)
scalar_back kinds.I8 x rest r e = number_back kinds.I8 x rest r e
scalar_back kinds.I16 x rest r e = number_back kinds.I16 x rest r e
scalar_back kinds.I32 x rest r e = number_back kinds.I32 x rest r e
scalar_back kinds.I64 x rest r e = number_back kinds.I64 x rest r e
scalar_back kinds.U8 x rest r e = number_back kinds.U8 x rest r e
scalar_back kinds.U16 x rest r e = number_back kinds.U16 x rest r e
scalar_back kinds.U32 x rest r e = number_back kinds.U32 x rest r e
scalar_back kinds.U64 x rest r e = number_back kinds.U64 x rest r e

truth_begins : (close : ℕ) → Closes close → (x : ℤ) → (x ≡ pos 0) ⊎ (x ≡ pos 1) → Begins close (shown_number kinds.Bool x)
truth_begins close c x (inl e) = subst (λ (y : ℤ). Begins close (shown_number kinds.Bool y)) (sym e) (record { byte = 102; more = codes "alse"; parts = refl; bare = refl; open_still = differs 102 close c refl refl })
truth_begins close c x (inr e) = subst (λ (y : ℤ). Begins close (shown_number kinds.Bool y)) (sym e) (record { byte = 116; more = codes "rue"; parts = refl; bare = refl; open_still = differs 116 close c refl refl })

pub scalar_begins : (close : ℕ) → Closes close → (k : Kind) (x : ℤ) → InRange k x → Begins close (shown_number k x)
scalar_begins close c kinds.Bool x r = truth_begins close c x (zero_or_one x r)
scalar_begins close c kinds.I8 x r = integer_begins close c x (of_some kinds.I8 x r)
scalar_begins close c kinds.I16 x r = integer_begins close c x (of_some kinds.I16 x r)
scalar_begins close c kinds.I32 x r = integer_begins close c x (of_some kinds.I32 x r)
scalar_begins close c kinds.I64 x r = integer_begins close c x (of_some kinds.I64 x r)
scalar_begins close c kinds.U8 x r = integer_begins close c x (of_some kinds.U8 x r)
scalar_begins close c kinds.U16 x r = integer_begins close c x (of_some kinds.U16 x r)
scalar_begins close c kinds.U32 x r = integer_begins close c x (of_some kinds.U32 x r)
scalar_begins close c kinds.U64 x r = integer_begins close c x (of_some kinds.U64 x r)

-- ---- strings

hex_back_by : (n : ℕ) → n < 16 → (t : Bool) → nat_lt n 10 ≡ t → hex_digit (cond t (n + 48) (n + 87)) ≡ Some n
hex_back_by n h true e = let l : n < 10 = ltb-true n 10 e in grind (arith, nat_tests)
hex_back_by n h false e = let l : 10 ≤ n = ltb-false n 10 e in grind (arith, nat_tests)

hex_back : (n : ℕ) → n < 16 → hex_digit (hex_of n) ≡ Some n
hex_back n h = hex_back_by n h (nat_lt n 10) refl

byte_back_by : (b : ℕ) (rest : List ℕ) (p q r : Bool) → b < 256 → (b == 34) ≡ p → (b == 92) ≡ q → (nat_le 32 b && nat_le b 126) ≡ r → item_at (cond p (codes "\\\"") (cond q (codes "\\\\") (cond r (b ∷ []) (codes "\\x" ++ (hex_of (b / 16) ∷ hex_of (b % 16) ∷ [])))) ++ rest) ≡ Some (b, rest)
unfolding item_at
byte_back_by b rest true q r small e f g = ap (λ (n : ℕ). Some (n, rest)) (sym (eqb-true b 34 e))
byte_back_by b rest false true r small e f g = ap (λ (n : ℕ). Some (n, rest)) (sym (eqb-true b 92 f))
byte_back_by b rest false false true small e f g =
    ap (λ (t : Bool). cond t (escape_at rest) (cond (b == 34) None (cond (nat_le 32 b && nat_le b 126) (Some (b, rest)) None))) f
    ∙ ap (λ (t : Bool). cond t None (cond (nat_le 32 b && nat_le b 126) (Some (b, rest)) None)) e
    ∙ ap (λ (t : Bool). cond t (Some (b, rest)) None) g
byte_back_by b rest false false false small e f g =
    ap (λ (o : Option ℕ). hex_byte o (hex_digit (hex_of (b % 16))) rest) (hex_back (b / 16) (omega arith))
    ∙ ap (λ (o : Option ℕ). hex_byte (Some (b / 16)) o rest) (hex_back (b % 16) (omega arith))
    ∙ ap (λ (n : ℕ). Some (n, rest)) (omega arith)

pub byte_back : (b : ℕ) (rest : List ℕ) → b < 256 → item_at (shown_byte b ++ rest) ≡ Some (b, rest)
byte_back b rest small = byte_back_by b rest (b == 34) (b == 92) (nat_le 32 b && nat_le b 126) small refl refl refl
