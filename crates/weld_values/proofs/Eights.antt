-- Eight bytes of text as one word.
use Rattle.std.proofs.Common.{◌≡◌, sym, ◌∙◌, ap, ap₂, ℕ, zero, suc, ◌+◌, ◌*◌, ◌-◌, ◌/◌, ◌%◌, ◌^◌, ◌≤◌, ◌<◌, Bool, true, false, not, cond, leb, List, [], ◌∷◌, ◌++◌, map, length, length-take, take, nat_le, ◌&&◌, replicate, Fits, w8, slice_index_or, pow-suc, add-mul, mul_assoc, mul_comm, mul-le-mul_left, lt_of_lt_of_le, subst, refl, arith, if◌then◌else◌}
use Rattle.std.proofs.lemmas.Bool.{agree_below, agree_below_at, leb-true}
use Rattle.std.proofs.lemmas.List.{length-map}
use Rattle.std.proofs.lemmas.Simd.{zip2_splat_left, map-map, mask_l-mod}
use Rattle.std.specs.List.{prefix_len}
use lib.Bits.{bit_and, and_block, and_mask}
use lib.Lanes.{zip2, mask_l, top, Each1}
use Rattle.weld_values.proofs.Numbers.{digits_count}
use Rattle.weld_values.specs.Eights.{word_of, AreSmall}
use Rattle.weld_values.specs.Tokens.{is_digit, value_after, digit_run, after_digits}

-- ---- which bytes are digits

abbrev pub at_most : ℕ → ℕ → ℕ
at_most a b = cond (leb a b) 255 0

-- a splat compared with what was computed lane by lane
pub from_splat : (h : ℕ → ℕ → ℕ) (f : ℕ → ℕ) (y n : ℕ) (v : List ℕ) {a : List ℕ} → length v ≡ n → a ≡ map f v → zip2 h (replicate n y) a ≡ map (λ x. h y (f x)) v
from_splat h f y n v long p = ap (zip2 h (replicate n y)) p ∙ zip2_splat_left h y n (map f v) (length-map v f ∙ long) ∙ map-map (h y) f v

each_byte : (f : ℕ → ℕ) (p : ℕ → Bool) (v : List ℕ) → Each1 (Fits w8) v → agree_below (λ x. top 7 (f x)) p 256 ≡ true → map (λ x. top 7 (f x)) v ≡ map p v
each_byte f p [] fits all = refl
each_byte f p (x ∷ xs) fits all = ap₂ (λ a b. a ∷ b) (agree_below_at (λ y. top 7 (f y)) p 256 x all fits.0.fits) (each_byte f p xs fits.1 all)

-- the mask of lanes that are computed from bytes, held to a predicate at each of the 256
pub masked : (f : ℕ → ℕ) (p : ℕ → Bool) (v z : List ℕ) → length v ≤ 64 → Each1 (Fits w8) v → z ≡ map f v → agree_below (λ x. top 7 (f x)) p 256 ≡ true → mask_l (map (top 7) z) % 2 ^ 64 ≡ mask_l (map p v)
masked f p v z short fits e all =
    ap (λ l. mask_l l % 2 ^ 64) (ap (map (top 7)) e ∙ map-map (top 7) f v ∙ each_byte f p v fits all) ∙ mask_l-mod (map p v) 64 (omega (arith, length-map v p))

run_by : (byte n : ℕ) (run : List ℕ) (b : Bool) → n ≡ length run → cond (not (not b)) (1 + n) 0 ≡ length (if b then byte ∷ run else [])
run_by byte n run true h = omega (arith, h)
run_by byte n run false h = refl

-- the digits at the front are the lanes before the first other byte
pub run_is : (bytes : List ℕ) → prefix_len (λ x. not (not (is_digit x))) bytes ≡ length (digit_run bytes)
run_is [] = refl
run_is (byte ∷ bytes) = run_by byte (prefix_len (λ x. not (not (is_digit x))) bytes) (digit_run bytes) (is_digit byte) (run_is bytes)

-- ---- digits moved to the end of a word

-- the bytes are digits
abbrev pub AreDigits : List ℕ → Type 0
AreDigits [] = Unit {0}
AreDigits (digit ∷ digits) = (48 ≤ digit) × (digit ≤ 57) × AreDigits digits

digits_by : (byte : ℕ) (run : List ℕ) (low high : Bool) → nat_le 48 byte ≡ low → nat_le byte 57 ≡ high → AreDigits run → AreDigits (if low && high then byte ∷ run else [])
digits_by byte run true true l h are = (leb-true 48 byte l, leb-true byte 57 h, are)
digits_by byte run true false l h are = tt
digits_by byte run false high l h are = tt

pub run_digits : (bytes : List ℕ) → AreDigits (digit_run bytes)
run_digits [] = tt
run_digits (byte ∷ bytes) = digits_by byte (digit_run bytes) (nat_le 48 byte) (nat_le byte 57) refl refl (run_digits bytes)

parts_by : (byte : ℕ) (bytes : List ℕ) (b : Bool) → bytes ≡ digit_run bytes ++ after_digits bytes → byte ∷ bytes ≡ (if b then byte ∷ digit_run bytes else []) ++ (if b then after_digits bytes else byte ∷ bytes)
parts_by byte bytes true e = ap (λ (x : List ℕ). byte ∷ x) e
parts_by byte bytes false e = refl

pub parts : (bytes : List ℕ) → bytes ≡ digit_run bytes ++ after_digits bytes
parts [] = refl
parts (byte ∷ bytes) = parts_by byte bytes (is_digit byte) (parts bytes)

-- a word without its zeros, shifted so that of its first bytes, so many, the last is the last
abbrev pub moved : ℕ → ℕ → ℕ
moved word count = (((word + 14974415777481871312) % 2 ^ 64 * 2 ^ (32 - 4 * count)) % 2 ^ 64 * 2 ^ (32 - 4 * count)) % 2 ^ 64

abbrev pub numbers : List ℕ → List ℕ
numbers run = replicate (8 - length run) 0 ++ map (λ digit. digit - 48) run

moved_eight : (word rest a b c d e f g h : ℕ) → a ≤ 9 → b ≤ 9 → c ≤ 9 → d ≤ 9 → e ≤ 9 → f ≤ 9 → g ≤ 9 → h ≤ 9 → word ≡ a + 48 + 256 * (b + 48 + 256 * (c + 48 + 256 * (d + 48 + 256 * (e + 48 + 256 * (f + 48 + 256 * (g + 48 + 256 * (h + 48 + 256 * rest))))))) → moved word 8 ≡ a + 256 * (b + 256 * (c + 256 * (d + 256 * (e + 256 * (f + 256 * (g + 256 * (h + 256 * 0)))))))
moved_eight word rest a b c d e f g h a9 b9 c9 d9 e9 f9 g9 h9 w = omega arith

zeroed : (digit : ℕ) → 48 ≤ digit → digit ≡ digit - 48 + 48
zeroed digit h = omega arith

small : (digit : ℕ) → digit ≤ 57 → digit - 48 ≤ 9
small digit h = omega arith

pub moved_run : (run rest : List ℕ) (word count : ℕ) → AreDigits run → length run ≡ count → count ≤ 8 → word ≡ word_of (run ++ rest) → moved word count ≡ word_of (numbers run)
moved_run [] rest word count are n few w = ap (moved word) (sym n) ∙ omega (arith, w)
moved_run (a ∷ []) rest word count are n few w = ap (moved word) (sym n) ∙ omega (arith, are.0, are.1, w)
moved_run (a ∷ b ∷ []) rest word count are n few w = ap (moved word) (sym n) ∙ omega (arith, are.0, are.1, are.2.0, are.2.1, w)
moved_run (a ∷ b ∷ c ∷ []) rest word count are n few w = ap (moved word) (sym n) ∙ omega (arith, are.0, are.1, are.2.0, are.2.1, are.2.2.0, are.2.2.1, w)
moved_run (a ∷ b ∷ c ∷ d ∷ []) rest word count are n few w = ap (moved word) (sym n) ∙ omega (arith, are.0, are.1, are.2.0, are.2.1, are.2.2.0, are.2.2.1, are.2.2.2.0, are.2.2.2.1, w)
moved_run (a ∷ b ∷ c ∷ d ∷ e ∷ []) rest word count are n few w = ap (moved word) (sym n) ∙ omega (arith, are.0, are.1, are.2.0, are.2.1, are.2.2.0, are.2.2.1, are.2.2.2.0, are.2.2.2.1, are.2.2.2.2.0, are.2.2.2.2.1, w)
moved_run (a ∷ b ∷ c ∷ d ∷ e ∷ f ∷ []) rest word count are n few w = ap (moved word) (sym n) ∙ omega (arith, are.0, are.1, are.2.0, are.2.1, are.2.2.0, are.2.2.1, are.2.2.2.0, are.2.2.2.1, are.2.2.2.2.0, are.2.2.2.2.1, are.2.2.2.2.2.0, are.2.2.2.2.2.1, w)
moved_run (a ∷ b ∷ c ∷ d ∷ e ∷ f ∷ g ∷ []) rest word count are n few w = ap (moved word) (sym n) ∙ omega (arith, are.0, are.1, are.2.0, are.2.1, are.2.2.0, are.2.2.1, are.2.2.2.0, are.2.2.2.1, are.2.2.2.2.0, are.2.2.2.2.1, are.2.2.2.2.2.0, are.2.2.2.2.2.1, are.2.2.2.2.2.2.0, are.2.2.2.2.2.2.1, w)
moved_run (a ∷ b ∷ c ∷ d ∷ e ∷ f ∷ g ∷ h ∷ []) rest word count are n few w = ap (moved word) (sym n) ∙ moved_eight word (word_of rest) (a - 48) (b - 48) (c - 48) (d - 48) (e - 48) (f - 48) (g - 48) (h - 48) (small a are.1) (small b are.2.1) (small c are.2.2.1) (small d are.2.2.2.1) (small e are.2.2.2.2.1) (small f are.2.2.2.2.2.1) (small g are.2.2.2.2.2.2.1) (small h are.2.2.2.2.2.2.2.1) (w ∙ (λ i. zeroed a are.0 i + 256 * (zeroed b are.2.0 i + 256 * (zeroed c are.2.2.0 i + 256 * (zeroed d are.2.2.2.0 i + 256 * (zeroed e are.2.2.2.2.0 i + 256 * (zeroed f are.2.2.2.2.2.0 i + 256 * (zeroed g are.2.2.2.2.2.2.0 i + 256 * (zeroed h are.2.2.2.2.2.2.2.0 i + 256 * word_of rest)))))))))
moved_run (a ∷ b ∷ c ∷ d ∷ e ∷ f ∷ g ∷ h ∷ i ∷ run) rest word count are n few w = absurd (omega (arith, n, few))

-- ---- eight digits as a number

even_bytes : (low high rest mask : ℕ) → low < 256 → high < 256 → bit_and (low + 256 * (high + 256 * rest)) (255 + 65536 * mask) ≡ low + 65536 * bit_and rest mask
even_bytes low high rest mask l h =
    let word : low + 256 * (high + 256 * rest) ≡ rest * 2 ^ 16 + (low + 256 * high) = omega arith in
    let masks : 255 + 65536 * mask ≡ mask * 2 ^ 16 + 255 = omega arith in
    let kept : bit_and (low + 256 * high) 255 ≡ low = and_mask (low + 256 * high) 8 ∙ omega arith in
    (λ i. bit_and (word i) (masks i)) ∙ and_block 16 rest mask (low + 256 * high) 255 (omega arith) (omega arith) ∙ omega (arith, kept)

even_words : (low high rest mask : ℕ) → low < 65536 → high < 65536 → bit_and (low + 65536 * (high + 65536 * rest)) (65535 + 4294967296 * mask) ≡ low + 4294967296 * bit_and rest mask
even_words low high rest mask l h =
    let word : low + 65536 * (high + 65536 * rest) ≡ rest * 2 ^ 32 + (low + 65536 * high) = omega arith in
    let masks : 65535 + 4294967296 * mask ≡ mask * 2 ^ 32 + 65535 = omega arith in
    let kept : bit_and (low + 65536 * high) 65535 ≡ low = and_mask (low + 65536 * high) 16 ∙ omega arith in
    (λ i. bit_and (word i) (masks i)) ∙ and_block 32 rest mask (low + 65536 * high) 65535 (omega arith) (omega arith) ∙ omega (arith, kept)

last_bytes : (low high : ℕ) → low < 256 → bit_and (low + 256 * high) 255 ≡ low
last_bytes low high l = and_mask (low + 256 * high) 8 ∙ omega arith

-- the first, third, fifth and seventh of eight bytes
four_bytes : (a b c d e f g h : ℕ) → a < 256 → b < 256 → c < 256 → d < 256 → e < 256 → f < 256 → g < 256 → bit_and (a + 256 * (b + 256 * (c + 256 * (d + 256 * (e + 256 * (f + 256 * (g + 256 * h))))))) 71777214294589695 ≡ a + 65536 * (c + 65536 * (e + 65536 * g))
four_bytes a b c d e f g h a1 b1 c1 d1 e1 f1 g1 =
    even_bytes a b (c + 256 * (d + 256 * (e + 256 * (f + 256 * (g + 256 * h))))) 1095233372415 a1 b1
    ∙ ap (λ n. a + 65536 * n) (even_bytes c d (e + 256 * (f + 256 * (g + 256 * h))) 16711935 c1 d1
    ∙ ap (λ n. c + 65536 * n) (even_bytes e f (g + 256 * h) 255 e1 f1 ∙ ap (λ n. e + 65536 * n) (last_bytes g h g1)))

-- the first and third of four parts of sixteen bits
two_words : (a b c d : ℕ) → a < 65536 → b < 65536 → c < 65536 → bit_and (a + 65536 * (b + 65536 * (c + 65536 * d))) 281470681808895 ≡ a + 4294967296 * c
two_words a b c d a1 b1 c1 =
    even_words a b (c + 65536 * d) 65535 a1 b1 ∙ ap (λ n. a + 4294967296 * n) (and_mask (c + 65536 * d) 16 ∙ omega arith)

abbrev pub added : ℕ → ℕ → ℕ → ℕ
added factor part word = (word * factor % 2 ^ 64 + word / part) % 2 ^ 64

pairs : (a b c d e f g h : ℕ) → a ≤ 9 → b ≤ 9 → c ≤ 9 → d ≤ 9 → e ≤ 9 → f ≤ 9 → g ≤ 9 → h ≤ 9
    → added 10 256 (a + 256 * (b + 256 * (c + 256 * (d + 256 * (e + 256 * (f + 256 * (g + 256 * h)))))))
    ≡ (10 * a + b) + 256 * ((10 * b + c) + 256 * ((10 * c + d) + 256 * ((10 * d + e) + 256 * ((10 * e + f) + 256 * ((10 * f + g) + 256 * ((10 * g + h) + 256 * (10 * h)))))))
pairs a b c d e f g h a9 b9 c9 d9 e9 f9 g9 h9 = omega arith

fours : (a b c d : ℕ) → a < 100 → b < 100 → c < 100 → d < 100
    → added 100 65536 (a + 65536 * (b + 65536 * (c + 65536 * d)))
    ≡ (100 * a + b) + 65536 * ((100 * b + c) + 65536 * ((100 * c + d) + 65536 * (100 * d)))
fours a b c d a1 b1 c1 d1 = omega arith

eights : (a b : ℕ) → a < 10000 → b < 10000 → bit_and (added 10000 4294967296 (a + 4294967296 * b)) 4294967295 ≡ 10000 * a + b
eights a b a1 b1 = and_mask (added 10000 4294967296 (a + 4294967296 * b)) 32 ∙ omega arith

pub joined : (a b c d e f g h word : ℕ) → AreSmall (a ∷ b ∷ c ∷ d ∷ e ∷ f ∷ g ∷ h ∷ []) → word ≡ word_of (a ∷ b ∷ c ∷ d ∷ e ∷ f ∷ g ∷ h ∷ [])
    → bit_and (added 10000 4294967296 (bit_and (added 100 65536 (bit_and (added 10 256 word) 71777214294589695)) 281470681808895)) 4294967295
    ≡ a * 10000000 + b * 1000000 + c * 100000 + d * 10000 + e * 1000 + f * 100 + g * 10 + h
joined a b c d e f g h word (a9, (b9, (c9, (d9, (e9, (f9, (g9, (h9, _)))))))) w =
    let whole : word ≡ a + 256 * (b + 256 * (c + 256 * (d + 256 * (e + 256 * (f + 256 * (g + 256 * h)))))) = omega (arith, w) in
    let two = ap (λ n. bit_and (added 10 256 n) 71777214294589695) whole
    ∙ ap (λ n. bit_and n 71777214294589695) (pairs a b c d e f g h a9 b9 c9 d9 e9 f9 g9 h9)
    ∙ four_bytes (10 * a + b) (10 * b + c) (10 * c + d) (10 * d + e) (10 * e + f) (10 * f + g) (10 * g + h) (10 * h) (omega arith) (omega arith) (omega arith) (omega arith) (omega arith) (omega arith) (omega arith) in
    let four = ap (λ n. bit_and (added 100 65536 n) 281470681808895) two
    ∙ ap (λ n. bit_and n 281470681808895) (fours (10 * a + b) (10 * c + d) (10 * e + f) (10 * g + h) (omega arith) (omega arith) (omega arith) (omega arith))
    ∙ two_words (100 * (10 * a + b) + (10 * c + d)) (100 * (10 * c + d) + (10 * e + f)) (100 * (10 * e + f) + (10 * g + h)) (100 * (10 * g + h)) (omega arith) (omega arith) (omega arith) in
    ap (λ n. bit_and (added 10000 4294967296 n) 4294967295) four
    ∙ eights (100 * (10 * a + b) + (10 * c + d)) (100 * (10 * e + f) + (10 * g + h)) (omega arith) (omega arith)
    ∙ omega arith

-- ---- the number that digits write

pub value_split : (before : ℕ) (run : List ℕ) → value_after before run ≡ before * 10 ^ length run + value_after 0 run
value_split before [] = omega arith
value_split before (digit ∷ run) =
    let power = pow-suc 10 (length run) in
    let n = 10 ^ length run in
    let moved_ten : (before * 10 + (digit - 48)) * n ≡ before * (n * 10) + (digit - 48) * n = add-mul (before * 10) (digit - 48) n ∙ ap (λ m. m + (digit - 48) * n) (mul_assoc before 10 n ∙ ap (λ m. before * m) (mul_comm 10 n)) in
    value_split (before * 10 + (digit - 48)) run ∙ ap (λ m. m + value_after 0 run) (moved_ten ∙ ap (λ m. before * m + (digit - 48) * n) (sym power)) ∙ omega (arith, value_split (0 * 10 + (digit - 48)) run)

horner : (a b c d e f g h : ℕ) → a * 10000000 + b * 1000000 + c * 100000 + d * 10000 + e * 1000 + f * 100 + g * 10 + h
    ≡ (((((((0 * 10 + a) * 10 + b) * 10 + c) * 10 + d) * 10 + e) * 10 + f) * 10 + g) * 10 + h
horner a b c d e f g h = omega arith

-- what a word of digits joins to
abbrev pub Joins : ℕ → ℕ → Type 0
Joins word number = (a b c d e f g h : ℕ) → AreSmall (a ∷ b ∷ c ∷ d ∷ e ∷ f ∷ g ∷ h ∷ []) → word ≡ word_of (a ∷ b ∷ c ∷ d ∷ e ∷ f ∷ g ∷ h ∷ [])
    → number ≡ a * 10000000 + b * 1000000 + c * 100000 + d * 10000 + e * 1000 + f * 100 + g * 10 + h

none : 0 ≤ 9
none = omega arith

pub number_run : (run : List ℕ) (word number : ℕ) → AreDigits run → length run ≤ 8 → word ≡ word_of (numbers run) → Joins word number → number ≡ value_after 0 run
number_run [] word number are few w joins = joins 0 0 0 0 0 0 0 0 (none, (none, (none, (none, (none, (none, (none, (none, tt)))))))) w ∙ horner 0 0 0 0 0 0 0 0
number_run (a ∷ []) word number are few w joins = joins 0 0 0 0 0 0 0 (a - 48) (none, (none, (none, (none, (none, (none, (none, (small a are.1, tt)))))))) w ∙ horner 0 0 0 0 0 0 0 (a - 48)
number_run (a ∷ b ∷ []) word number are few w joins = joins 0 0 0 0 0 0 (a - 48) (b - 48) (none, (none, (none, (none, (none, (none, (small a are.1, (small b are.2.1, tt)))))))) w ∙ horner 0 0 0 0 0 0 (a - 48) (b - 48)
number_run (a ∷ b ∷ c ∷ []) word number are few w joins = joins 0 0 0 0 0 (a - 48) (b - 48) (c - 48) (none, (none, (none, (none, (none, (small a are.1, (small b are.2.1, (small c are.2.2.1, tt)))))))) w ∙ horner 0 0 0 0 0 (a - 48) (b - 48) (c - 48)
number_run (a ∷ b ∷ c ∷ d ∷ []) word number are few w joins = joins 0 0 0 0 (a - 48) (b - 48) (c - 48) (d - 48) (none, (none, (none, (none, (small a are.1, (small b are.2.1, (small c are.2.2.1, (small d are.2.2.2.1, tt)))))))) w ∙ horner 0 0 0 0 (a - 48) (b - 48) (c - 48) (d - 48)
number_run (a ∷ b ∷ c ∷ d ∷ e ∷ []) word number are few w joins = joins 0 0 0 (a - 48) (b - 48) (c - 48) (d - 48) (e - 48) (none, (none, (none, (small a are.1, (small b are.2.1, (small c are.2.2.1, (small d are.2.2.2.1, (small e are.2.2.2.2.1, tt)))))))) w ∙ horner 0 0 0 (a - 48) (b - 48) (c - 48) (d - 48) (e - 48)
number_run (a ∷ b ∷ c ∷ d ∷ e ∷ f ∷ []) word number are few w joins = joins 0 0 (a - 48) (b - 48) (c - 48) (d - 48) (e - 48) (f - 48) (none, (none, (small a are.1, (small b are.2.1, (small c are.2.2.1, (small d are.2.2.2.1, (small e are.2.2.2.2.1, (small f are.2.2.2.2.2.1, tt)))))))) w ∙ horner 0 0 (a - 48) (b - 48) (c - 48) (d - 48) (e - 48) (f - 48)
number_run (a ∷ b ∷ c ∷ d ∷ e ∷ f ∷ g ∷ []) word number are few w joins = joins 0 (a - 48) (b - 48) (c - 48) (d - 48) (e - 48) (f - 48) (g - 48) (none, (small a are.1, (small b are.2.1, (small c are.2.2.1, (small d are.2.2.2.1, (small e are.2.2.2.2.1, (small f are.2.2.2.2.2.1, (small g are.2.2.2.2.2.2.1, tt)))))))) w ∙ horner 0 (a - 48) (b - 48) (c - 48) (d - 48) (e - 48) (f - 48) (g - 48)
number_run (a ∷ b ∷ c ∷ d ∷ e ∷ f ∷ g ∷ h ∷ []) word number are few w joins = joins (a - 48) (b - 48) (c - 48) (d - 48) (e - 48) (f - 48) (g - 48) (h - 48) (small a are.1, (small b are.2.1, (small c are.2.2.1, (small d are.2.2.2.1, (small e are.2.2.2.2.1, (small f are.2.2.2.2.2.1, (small g are.2.2.2.2.2.2.1, (small h are.2.2.2.2.2.2.2.1, tt)))))))) w ∙ horner (a - 48) (b - 48) (c - 48) (d - 48) (e - 48) (f - 48) (g - 48) (h - 48)
number_run (a ∷ b ∷ c ∷ d ∷ e ∷ f ∷ g ∷ h ∷ i ∷ run) word number are few w joins = absurd (omega (arith, few))

abbrev pub powers : List ℕ
powers = 1 ∷ 10 ∷ 100 ∷ 1000 ∷ 10000 ∷ 100000 ∷ 1000000 ∷ 10000000 ∷ 100000000 ∷ []

power_of : (run : List ℕ) → length run ≤ 8 → slice_index_or powers (length run) 0 ≡ 10 ^ length run
power_of [] few = refl
power_of (a ∷ []) few = refl
power_of (a ∷ b ∷ []) few = refl
power_of (a ∷ b ∷ c ∷ []) few = refl
power_of (a ∷ b ∷ c ∷ d ∷ []) few = refl
power_of (a ∷ b ∷ c ∷ d ∷ e ∷ []) few = refl
power_of (a ∷ b ∷ c ∷ d ∷ e ∷ f ∷ []) few = refl
power_of (a ∷ b ∷ c ∷ d ∷ e ∷ f ∷ g ∷ []) few = refl
power_of (a ∷ b ∷ c ∷ d ∷ e ∷ f ∷ g ∷ h ∷ []) few = refl
power_of (a ∷ b ∷ c ∷ d ∷ e ∷ f ∷ g ∷ h ∷ i ∷ run) few = absurd (omega (arith, few))

pub written : (run : List ℕ) (before count word number : ℕ) → AreDigits run → length run ≡ count → count ≤ 8 → word ≡ word_of (numbers run) → Joins word number
    → before * slice_index_or powers count 0 + number ≡ value_after before run
written run before count word number are n few w joins =
    let short : length run ≤ 8 = omega (arith, n, few) in
    let power : slice_index_or powers count 0 ≡ 10 ^ length run = ap (λ k. slice_index_or powers k 0) (sym n) ∙ power_of run short in
    (λ i. before * power i + number_run run word number are short w joins i) ∙ sym (value_split before run)

ten_more : (n before : ℕ) → 10 ^ n * (10 * before) ≡ 10 ^ suc n * before
ten_more n before = sym (mul_assoc (10 ^ n) 10 before) ∙ ap (λ m. m * before) (sym (pow-suc 10 n))

grown : (n value before after : ℕ) → value < 10 ^ n * before → before ≤ 10 * after → value < 10 ^ suc n * after
grown n value before after less le = subst (λ m. value < m) (ten_more n after) (lt_of_lt_of_le less (mul-le-mul_left (10 ^ n) le))

pub written_small : (n : ℕ) (run : List ℕ) (before : ℕ) → AreDigits run → length run ≤ n → value_after before run < 10 ^ n * (before + 1)
written_small zero [] before are few = omega arith
written_small zero (digit ∷ run) before are few = absurd (omega (arith, few))
written_small (suc n) [] before are few = grown n before (before + 1) (before + 1) (written_small n [] before tt (omega arith)) (omega arith)
written_small (suc n) (digit ∷ run) before are few =
    grown n (value_after (before * 10 + (digit - 48)) run) (before * 10 + (digit - 48) + 1) (before + 1) (written_small n run (before * 10 + (digit - 48)) are.2 (omega (arith, few))) (omega (arith, small digit are.1))

run_le : (bytes : List ℕ) → length (digit_run bytes) ≤ length bytes
run_le bytes = omega (arith, digits_count bytes)

pub run_short : (text : List ℕ) → length (digit_run (take 8 text)) ≤ 8
run_short text = omega (arith, run_le (take 8 text), length-take 8 text)
