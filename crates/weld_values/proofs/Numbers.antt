-- The steps of reading numbers.
use Rattle.std.proofs.Common.{◌≡◌, ◌⊎◌, inl, inr, sym, ◌∙◌, ℕ, ◌+◌, ◌*◌, ◌-◌, ◌^◌, ◌<◌, ◌≤◌, true, List, [], ◌∷◌, length, drop, Bool, false, Some, None, refl, ap, arith, if◌then◌else◌}
use Rattle.std.proofs.lemmas.Bool.{cases_lt}
use Rattle.weld_values.specs.Tokens.{value_after, is_digit, digit_run, after_digits, numeral_of, numeral_at}

-- a number grows with each digit more
pub value_grows : (before : ℕ) (digits : List ℕ) → before ≤ value_after before digits
value_grows before [] = omega arith
value_grows before (digit ∷ digits) = omega (arith, value_grows (before * 10 + (digit - 48)) digits)

-- one digit more is read
pub digit_step : (digit : ℕ) (rest : List ℕ) (value : ℕ) → is_digit digit ≡ true → value_after value (digit_run (digit ∷ rest)) ≡ value_after (value * 10 + (digit - 48)) (digit_run rest)
digit_step digit rest value h = ap (λ b. value_after value (if b then digit ∷ digit_run rest else [])) h

of_some : (run rest : List ℕ) → 0 < length run → numeral_of run rest ≡ Some (value_after 0 run, rest)
of_some [] rest l = absurd (omega arith)
of_some (d ∷ ds) rest l = refl

of_empty : (run rest : List ℕ) → length run ≡ 0 → numeral_of run rest ≡ None
of_empty [] rest h = refl
of_empty (d ∷ ds) rest h = absurd (omega arith)

pub no_digit : (text : List ℕ) → length (digit_run text) ≡ 0 → numeral_at text ≡ None
unfolding numeral_at
no_digit text h = of_empty (digit_run text) (after_digits text) h

pub numeral_is : (text : List ℕ) → 0 < length (digit_run text) → numeral_at text ≡ Some (value_after 0 (digit_run text), after_digits text)
unfolding numeral_at
numeral_is text l = of_some (digit_run text) (after_digits text) l

capped_by : (digit : ℕ) (rest : List ℕ) (value next n : ℕ) → is_digit digit ≡ true → (value ≤ 18446744073709551615 → next ≡ value * 10 + (digit - 48)) → (18446744073709551615 < value → 2 ^ 64 ≤ next) → value_after value (digit_run (digit ∷ rest)) ≡ n → (18446744073709551615 < value) ⊎ (value ≤ 18446744073709551615) → (value_after next (digit_run rest) ≡ n) ⊎ ((2 ^ 64 ≤ next) × (2 ^ 64 ≤ n))
capped_by digit rest value next n d exact great e (inl h) = let grows = value_grows value (digit_run (digit ∷ rest)) in inr (great h, omega arith)
capped_by digit rest value next n d exact great e (inr h) = inl (ap (λ v. value_after v (digit_run rest)) (exact h) ∙ sym (digit_step digit rest value d) ∙ e)

-- one digit more keeps that the number so far and the digits that are left make up the number
pub capped_step : (digit : ℕ) (text rest : List ℕ) (value next n : ℕ) → text ≡ digit ∷ rest → is_digit digit ≡ true → (value ≤ 18446744073709551615 → next ≡ value * 10 + (digit - 48)) → (18446744073709551615 < value → 2 ^ 64 ≤ next) → (value_after value (digit_run text) ≡ n) ⊎ ((2 ^ 64 ≤ value) × (2 ^ 64 ≤ n)) → (value_after next (digit_run rest) ≡ n) ⊎ ((2 ^ 64 ≤ next) × (2 ^ 64 ≤ n))
capped_step digit text rest value next n t d exact great (inl e) = capped_by digit rest value next n d exact great (ap (λ (x : List ℕ). value_after value (digit_run x)) (sym t) ∙ e) (cases_lt 18446744073709551615 value)
capped_step digit text rest value next n t d exact great (inr p) = inr (great (omega arith), p.1)

-- the same where one digit more fits
pub exact_step : (digit : ℕ) (text rest : List ℕ) (value next n : ℕ) → text ≡ digit ∷ rest → is_digit digit ≡ true → next ≡ value * 10 + (digit - 48) → value_after value (digit_run text) ≡ n → value_after next (digit_run rest) ≡ n
exact_step digit text rest value next n t d h e = ap (λ v. value_after v (digit_run rest)) h ∙ sym (digit_step digit rest value d) ∙ ap (λ (x : List ℕ). value_after value (digit_run x)) (sym t) ∙ e

pub after_step : (digit : ℕ) (text rest : List ℕ) → text ≡ digit ∷ rest → is_digit digit ≡ true → after_digits rest ≡ after_digits text
after_step digit text rest t d = sym (ap after_digits t ∙ ap (λ b. if b then after_digits rest else digit ∷ rest) d)

pub run_step : (digit : ℕ) (text rest : List ℕ) → text ≡ digit ∷ rest → is_digit digit ≡ true → length (digit_run text) ≡ length (digit_run rest) + 1
run_step digit text rest t d = ap (λ (x : List ℕ). length (digit_run x)) t ∙ ap (λ b. length (if b then digit ∷ digit_run rest else [])) d ∙ omega arith

after_by : (byte : ℕ) (bytes : List ℕ) (b : Bool) → after_digits bytes ≡ drop (length (digit_run bytes)) bytes → (if b then after_digits bytes else byte ∷ bytes) ≡ drop (length (if b then byte ∷ digit_run bytes else [])) (byte ∷ bytes)
after_by byte bytes true h = h
after_by byte bytes false h = refl

-- what follows digits is what is left when they are dropped
pub after_is_drop : (text : List ℕ) → after_digits text ≡ drop (length (digit_run text)) text
after_is_drop [] = refl
after_is_drop (byte ∷ bytes) = after_by byte bytes (is_digit byte) (after_is_drop bytes)

count_by : (byte : ℕ) (bytes : List ℕ) (b : Bool) → length (after_digits bytes) + length (digit_run bytes) ≡ length bytes → length (if b then after_digits bytes else byte ∷ bytes) + length (if b then byte ∷ digit_run bytes else []) ≡ length (byte ∷ bytes)
count_by byte bytes true h = omega arith
count_by byte bytes false h = omega arith

pub digits_count : (text : List ℕ) → length (after_digits text) + length (digit_run text) ≡ length text
digits_count [] = refl
digits_count (byte ∷ bytes) = count_by byte bytes (is_digit byte) (digits_count bytes)
