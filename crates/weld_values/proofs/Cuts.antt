-- What stands at the front of a text stands there too where more text follows it, if that begins with a byte that is no digit.
use Rattle.std.proofs.Common.{◌≡◌, ◌∙◌, ℕ, Bool, true, false, ◌==◌, cond, List, [], ◌∷◌, ◌++◌, Option, Some, None, refl, ap, codes, pos, neg_ℤ, ℤ, arith}
use Rattle.std.proofs.lemmas.Bool.{eqb-true}
use Rattle.std.specs.Option.{option_map, option_and_then}
use Rattle.weld_data.specs.declared.kind.Kind.{Kind}
use Rattle.weld_data.specs.declared.kind.Kind.TheVariants.{Bool as BoolKind, I8, I16, I32, I64, U8, U16, U32, U64}
use Rattle.weld_data.specs.Value.{Value, number}
use Rattle.weld_values.specs.Tokens.{is_blank, is_digit, after_blanks, after_byte, byte_at, after_word, digit_run, after_digits, value_after, numeral_of, numeral_at, signed_at, integer_at}
use Rattle.weld_values.specs.Grammar.{Part, More, Listed, Found, or_else, truth_at, number_at, scalar_at}
use Rattle.weld_values.specs.Pieces.{Separated}
use Rattle.weld_values.proofs.Listings.{some_is, none_is}
use Rattle.weld_values.proofs.Shrinks.{map_some}

-- ---- blanks and bytes

blanks_by : (c : ℕ) (cs w : List ℕ) (t : Bool) → (after_blanks cs ≡ [] → after_blanks (cs ++ w) ≡ after_blanks w) → cond t (after_blanks cs) (c ∷ cs) ≡ [] → cond t (after_blanks (cs ++ w)) (c ∷ (cs ++ w)) ≡ after_blanks w
blanks_by c cs w true h e = h e
blanks_by c cs w false h e = cc

-- text of blanks alone plays no part
pub after_blank : (text w : List ℕ) → after_blanks text ≡ [] → after_blanks (text ++ w) ≡ after_blanks w
after_blank [] w e = refl
after_blank (c ∷ cs) w e = blanks_by c cs w (is_blank c) (after_blank cs w) e

bare_by : (c b : ℕ) (cs bs w : List ℕ) (t : Bool) → (after_blanks cs ≡ b ∷ bs → after_blanks (cs ++ w) ≡ b ∷ (bs ++ w)) → cond t (after_blanks cs) (c ∷ cs) ≡ b ∷ bs → cond t (after_blanks (cs ++ w)) (c ∷ (cs ++ w)) ≡ b ∷ (bs ++ w)
bare_by c b cs bs w true h e = h e
bare_by c b cs bs w false h e = ap (λ (x : List ℕ). x ++ w) e

pub after_bare : (text w : List ℕ) (b : ℕ) (bs : List ℕ) → after_blanks text ≡ b ∷ bs → after_blanks (text ++ w) ≡ b ∷ (bs ++ w)
after_bare [] w b bs e = cc
after_bare (c ∷ cs) w b bs e = bare_by c b cs bs w (is_blank c) (after_bare cs w b bs) e

byte_by : (c : ℕ) (cs rest w : List ℕ) (t : Bool) → cond t (Some cs) None ≡ Some rest → cond t (Some (cs ++ w)) None ≡ Some (rest ++ w)
byte_by c cs rest w true e = ap (λ (x : List ℕ). Some (x ++ w)) (some_is cs rest e)
byte_by c cs rest w false e = absurd (none_is rest e)

pub byte_carried : (byte : ℕ) (text rest w : List ℕ) → after_byte byte text ≡ Some rest → after_byte byte (text ++ w) ≡ Some (rest ++ w)
byte_carried byte [] rest w e = absurd (none_is rest e)
byte_carried byte (c ∷ cs) rest w e = byte_by c cs rest w (c == byte) e

byte_at_by : (byte : ℕ) (text rest w bare : List ℕ) → after_blanks text ≡ bare → after_byte byte bare ≡ Some rest → after_byte byte (after_blanks (text ++ w)) ≡ Some (rest ++ w)
byte_at_by byte text rest w [] e h = absurd (none_is rest h)
byte_at_by byte text rest w (b ∷ bs) e h = ap (after_byte byte) (after_bare text w b bs e) ∙ byte_carried byte (b ∷ bs) rest w h

pub byte_at_carried : (byte : ℕ) (text rest w : List ℕ) → byte_at byte text ≡ Some rest → byte_at byte (text ++ w) ≡ Some (rest ++ w)
unfolding byte_at
byte_at_carried byte text rest w h = byte_at_by byte text rest w (after_blanks text) refl h

-- a byte after blanks alone
pub byte_at_end : (byte : ℕ) (text rest : List ℕ) → is_blank byte ≡ false → after_blanks text ≡ [] → byte_at byte (text ++ byte ∷ rest) ≡ Some rest
unfolding byte_at
byte_at_end byte text rest b e =
    ap (after_byte byte) (after_blank text (byte ∷ rest) e ∙ ap (λ (t : Bool). cond t (after_blanks rest) (byte ∷ rest)) b)
    ∙ ap (λ (t : Bool). cond t (Some rest) None) (same_byte byte)
  where
    same_byte : (c : ℕ) → (c == c) ≡ true
    same_byte c = grind arith

-- ---- integers

run_by : (c s : ℕ) (cs q : List ℕ) (t : Bool) → digit_run (cs ++ s ∷ q) ≡ digit_run cs → cond t (c ∷ digit_run (cs ++ s ∷ q)) [] ≡ cond t (c ∷ digit_run cs) []
run_by c s cs q true h = ap (λ (x : List ℕ). c ∷ x) h
run_by c s cs q false h = refl

pub run_carried : (text : List ℕ) (s : ℕ) (q : List ℕ) → is_digit s ≡ false → digit_run (text ++ s ∷ q) ≡ digit_run text
run_carried [] s q n = ap (λ (t : Bool). cond t (s ∷ digit_run q) []) n
run_carried (c ∷ cs) s q n = run_by c s cs q (is_digit c) (run_carried cs s q n)

digits_by : (c s : ℕ) (cs q : List ℕ) (t : Bool) → after_digits (cs ++ s ∷ q) ≡ after_digits cs ++ s ∷ q → cond t (after_digits (cs ++ s ∷ q)) (c ∷ (cs ++ s ∷ q)) ≡ cond t (after_digits cs) (c ∷ cs) ++ s ∷ q
digits_by c s cs q true h = h
digits_by c s cs q false h = refl

pub digits_carried : (text : List ℕ) (s : ℕ) (q : List ℕ) → is_digit s ≡ false → after_digits (text ++ s ∷ q) ≡ after_digits text ++ s ∷ q
digits_carried [] s q n = ap (λ (t : Bool). cond t (after_digits q) (s ∷ q)) n
digits_carried (c ∷ cs) s q n = digits_by c s cs q (is_digit c) (digits_carried cs s q n)

numeral_by : (run rest w : List ℕ) (n : ℕ) (r : List ℕ) → numeral_of run rest ≡ Some (n, r) → numeral_of run (rest ++ w) ≡ Some (n, r ++ w)
numeral_by [] rest w n r e = absurd (none_is (n, r) e)
numeral_by (d ∷ ds) rest w n r e = ap (λ (p : ℕ × List ℕ). Some (p.0, p.1 ++ w)) (some_is (value_after 0 (d ∷ ds), rest) (n, r) e)

numeral_carried : (text : List ℕ) (s : ℕ) (q : List ℕ) (n : ℕ) (r : List ℕ) → is_digit s ≡ false → numeral_at text ≡ Some (n, r) → numeral_at (text ++ s ∷ q) ≡ Some (n, r ++ s ∷ q)
unfolding numeral_at
numeral_carried text s q n r d e =
    ap (λ (run : List ℕ). numeral_of run (after_digits (text ++ s ∷ q))) (run_carried text s q d)
    ∙ ap (numeral_of (digit_run text)) (digits_carried text s q d)
    ∙ numeral_by (digit_run text) (after_digits text) (s ∷ q) n r e

abbrev pub with_sign : (ℕ → ℤ) → ℕ × List ℕ → ℤ × List ℕ
with_sign f found = (f found.0, found.1)

abbrev pub with_kind : Kind → ℤ × List ℕ → Value × List ℕ
with_kind k found = (number k found.0, found.1)

abbrev pub with_truth : ℤ → List ℕ → Value × List ℕ
with_truth z rest = (number BoolKind z, rest)

signed_carried : (f : ℕ → ℤ) (text : List ℕ) (s : ℕ) (q : List ℕ) (z : ℤ) (r : List ℕ) → is_digit s ≡ false → option_map (with_sign f) (numeral_at text) ≡ Some (z, r) → option_map (with_sign f) (numeral_at (text ++ s ∷ q)) ≡ Some (z, r ++ s ∷ q)
signed_carried f text s q z r d e =
    let m = map_some (with_sign f) (numeral_at text) (z, r) e in
    ap (option_map (with_sign f)) (numeral_carried text s q m.0.0 m.0.1 d m.1)
    ∙ ap (λ (p : ℤ × List ℕ). Some (p.0, p.1 ++ s ∷ q)) m.2

integer_by : (c : ℕ) (cs : List ℕ) (s : ℕ) (q : List ℕ) (z : ℤ) (r : List ℕ) (t : Bool) → is_digit s ≡ false → signed_at (cond t (Some cs) None) (c ∷ cs) ≡ Some (z, r) → signed_at (cond t (Some (cs ++ s ∷ q)) None) (c ∷ (cs ++ s ∷ q)) ≡ Some (z, r ++ s ∷ q)
integer_by c cs s q z r true d e = signed_carried (λ (n : ℕ). neg_ℤ (pos n)) cs s q z r d e
integer_by c cs s q z r false d e = signed_carried pos (c ∷ cs) s q z r d e

pub no_integer : (z : ℤ) (r : List ℕ) → integer_at [] ≡ Some (z, r) → ⊥
unfolding integer_at numeral_at
no_integer z r e = none_is (z, r) e

integer_carried : (c : ℕ) (cs : List ℕ) (s : ℕ) (q : List ℕ) (z : ℤ) (r : List ℕ) → is_digit s ≡ false → integer_at (c ∷ cs) ≡ Some (z, r) → integer_at (c ∷ (cs ++ s ∷ q)) ≡ Some (z, r ++ s ∷ q)
unfolding integer_at
integer_carried c cs s q z r d e = integer_by c cs s q z r (c == 45) d e

number_by : (k : Kind) (text : List ℕ) (s : ℕ) (q bare : List ℕ) (v : Value) (r : List ℕ) → is_digit s ≡ false → after_blanks text ≡ bare → option_map (with_kind k) (integer_at bare) ≡ Some (v, r) → option_map (with_kind k) (integer_at (after_blanks (text ++ s ∷ q))) ≡ Some (v, r ++ s ∷ q)
number_by k text s q [] v r d b e =
    let m = map_some (with_kind k) (integer_at []) (v, r) e in
    absurd (no_integer m.0.0 m.0.1 m.1)
number_by k text s q (c ∷ cs) v r d b e =
    let m = map_some (with_kind k) (integer_at (c ∷ cs)) (v, r) e in
    ap (λ (x : List ℕ). option_map (with_kind k) (integer_at x)) (after_bare text (s ∷ q) c cs b)
    ∙ ap (option_map (with_kind k)) (integer_carried c cs s q m.0.0 m.0.1 d m.1)
    ∙ ap (λ (p : Value × List ℕ). Some (p.0, p.1 ++ s ∷ q)) m.2

number_carried : (k : Kind) (text : List ℕ) (s : ℕ) (q : List ℕ) (v : Value) (r : List ℕ) → is_digit s ≡ false → number_at k text ≡ Some (v, r) → number_at k (text ++ s ∷ q) ≡ Some (v, r ++ s ∷ q)
number_carried k text s q v r d e = number_by k text s q (after_blanks text) v r d refl e

-- ---- truth values

word_by : (w c : ℕ) (word cs rest : List ℕ) (t : Bool) → (c == w) ≡ t → ((text : List ℕ) → after_word word text ≡ Some rest → text ≡ word ++ rest) → option_and_then (after_word word) (cond t (Some cs) None) ≡ Some rest → c ∷ cs ≡ (w ∷ word) ++ rest
word_by w c word cs rest true e h k = ap (λ (x : ℕ). x ∷ cs) (eqb-true c w e) ∙ ap (λ (x : List ℕ). w ∷ x) (h cs k)
word_by w c word cs rest false e h k = absurd (none_is rest k)

-- the text that begins with a word
pub word_front : (word text rest : List ℕ) → after_word word text ≡ Some rest → text ≡ word ++ rest
unfolding after_word
word_front [] text rest e = some_is text rest e
word_front (w ∷ word) [] rest e = absurd (none_is rest e)
word_front (w ∷ word) (c ∷ cs) rest e = word_by w c word cs rest (c == w) refl (λ text. word_front word text rest) e

pub true_here : (rest : List ℕ) → truth_at (codes "true" ++ rest) ≡ Some (number BoolKind (pos 1), rest)
unfolding truth_at after_word
true_here rest = refl

pub false_here : (rest : List ℕ) → truth_at (codes "false" ++ rest) ≡ Some (number BoolKind (pos 0), rest)
unfolding truth_at after_word
false_here rest = refl

truth_by : (text w : List ℕ) (v : Value) (r : List ℕ) (t f : Option (List ℕ)) → after_word (codes "true") text ≡ t → after_word (codes "false") text ≡ f → or_else (option_map (with_truth (pos 1)) t) (option_map (with_truth (pos 0)) f) ≡ Some (v, r) → truth_at (text ++ w) ≡ Some (v, r ++ w)
truth_by text w v r (Some x) f a b e =
    let same = some_is (number BoolKind (pos 1), x) (v, r) e in
    ap (λ (y : List ℕ). truth_at (y ++ w)) (word_front (codes "true") text x a)
    ∙ true_here (x ++ w)
    ∙ ap (λ (p : Value × List ℕ). Some (p.0, p.1 ++ w)) same
truth_by text w v r None (Some x) a b e =
    let same = some_is (number BoolKind (pos 0), x) (v, r) e in
    ap (λ (y : List ℕ). truth_at (y ++ w)) (word_front (codes "false") text x b)
    ∙ false_here (x ++ w)
    ∙ ap (λ (p : Value × List ℕ). Some (p.0, p.1 ++ w)) same
truth_by text w v r None None a b e = absurd (none_is (v, r) e)

truth_here : (text w : List ℕ) (v : Value) (r : List ℕ) → truth_at text ≡ Some (v, r) → truth_at (text ++ w) ≡ Some (v, r ++ w)
unfolding truth_at
truth_here text w v r e = truth_by text w v r (after_word (codes "true") text) (after_word (codes "false") text) refl refl e

pub no_truth : (v : Value) (r : List ℕ) → truth_at [] ≡ Some (v, r) → ⊥
unfolding truth_at after_word
no_truth v r e = none_is (v, r) e

truth_bare : (text w bare : List ℕ) (v : Value) (r : List ℕ) → after_blanks text ≡ bare → truth_at bare ≡ Some (v, r) → truth_at (after_blanks (text ++ w)) ≡ Some (v, r ++ w)
truth_bare text w [] v r b e = absurd (no_truth v r e)
truth_bare text w (c ∷ cs) v r b e = ap truth_at (after_bare text w c cs b) ∙ truth_here (c ∷ cs) w v r e

-- ---- scalars and lists of them

pub scalar_carried : (k : Kind) (text : List ℕ) (s : ℕ) (q : List ℕ) (v : Value) (r : List ℕ) → is_digit s ≡ false → scalar_at k text ≡ Some (v, r) → scalar_at k (text ++ s ∷ q) ≡ Some (v, r ++ s ∷ q)
unfolding scalar_at
scalar_carried BoolKind text s q v r d e = truth_bare text (s ∷ q) (after_blanks text) v r refl e
scalar_carried I8 text s q v r d e = number_carried I8 text s q v r d e
scalar_carried I16 text s q v r d e = number_carried I16 text s q v r d e
scalar_carried I32 text s q v r d e = number_carried I32 text s q v r d e
scalar_carried I64 text s q v r d e = number_carried I64 text s q v r d e
scalar_carried U8 text s q v r d e = number_carried U8 text s q v r d e
scalar_carried U16 text s q v r d e = number_carried U16 text s q v r d e
scalar_carried U32 text s q v r d e = number_carried U32 text s q v r d e
scalar_carried U64 text s q v r d e = number_carried U64 text s q v r d e

more_carried : (k : Kind) (vs : List Value) (text end : List ℕ) (s : ℕ) (q : List ℕ) → is_digit s ≡ false → More (Found (scalar_at k)) vs text end → More (Found (scalar_at k)) vs (text ++ s ∷ q) (end ++ s ∷ q)
more_carried k [] text end s q d h = ap (λ (x : List ℕ). x ++ s ∷ q) h
more_carried k (v ∷ vs) text end s q d (start, c, (mid, r, more)) = (start ++ s ∷ q, byte_at_carried 44 text start (s ∷ q) c, (mid ++ s ∷ q, scalar_carried k start s q v mid d r, more_carried k vs mid end s q d more))

pub listed_carried : (k : Kind) (vs : List Value) (text end : List ℕ) (s : ℕ) (q : List ℕ) → is_digit s ≡ false → Listed (Found (scalar_at k)) vs text end → Listed (Found (scalar_at k)) vs (text ++ s ∷ q) (end ++ s ∷ q)
listed_carried k [] text end s q d h = elim h [ ]
listed_carried k (v ∷ vs) text end s q d (mid, r, more) = (mid ++ s ∷ q, scalar_carried k text s q v mid d r, more_carried k vs mid end s q d more)

more_then : {A : Type 0} (R : Part A) (xs ys : List A) (text mid start end : List ℕ) → More R xs text mid → byte_at 44 mid ≡ Some start → Listed R ys start end → More R (xs ++ ys) text end
more_then R [] [] text mid start end h c l = elim l [ ]
more_then R [] (y ∷ ys) text mid start end h c l = (start, ap (byte_at 44) h ∙ c, l)
more_then R (x ∷ xs) ys text mid start end (from, e, (next, r, more)) c l = (from, e, (next, r, more_then R xs ys next mid start end more c l))

pub listed_then : {A : Type 0} (R : Part A) (xs ys : List A) (text mid start end : List ℕ) → Listed R xs text mid → byte_at 44 mid ≡ Some start → Listed R ys start end → Listed R (xs ++ ys) text end
listed_then R [] ys text mid start end h c l = elim h [ ]
listed_then R (x ∷ xs) ys text mid start end (next, r, more) c l = (next, r, more_then R xs ys next mid start end more c l)

-- two texts of scalars with a comma between them
pub joined_separated : (k : Kind) (p q : List ℕ) (vs ws : List Value) → Separated (Found (scalar_at k)) vs p → Separated (Found (scalar_at k)) ws q → Separated (Found (scalar_at k)) (vs ++ ws) (p ++ 44 ∷ q)
joined_separated k p q vs ws (mid, h, blank) (end, l, last) =
    (end, listed_then (Found (scalar_at k)) vs ws (p ++ 44 ∷ q) (mid ++ 44 ∷ q) q end (listed_carried k vs p mid 44 q refl h) (byte_at_end 44 mid q refl blank) l, last)
