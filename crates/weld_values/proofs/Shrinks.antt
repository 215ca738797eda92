-- A value takes a byte or more of its text.
use Rattle.std.proofs.Common.{◌≡◌, ◌⊎◌, inl, inr, ℕ, ◌+◌, ◌*◌, ◌<◌, ◌≤◌, Bool, true, false, ◌==◌, ◌&&◌, nat_le, cond, List, [], ◌∷◌, length, Option, Some, None, refl, ap, arith, ℤ, pos, neg_ℤ, codes}
use Rattle.std.specs.Option.{option_map, option_and_then}
use Rattle.weld_data.specs.declared.kind.Kind.{Kind}
use Rattle.weld_data.specs.declared.kind.Kind.TheVariants as kinds
use Rattle.weld_data.specs.Value.{Value, Values, number}
use Rattle.weld_tree.specs.TypeTree.{TypeTree, TypeTrees, scalar, vec, struct as struct_of, dict as dict_of, build, no_types, more_types}
use Rattle.weld_values.specs.Tokens.{is_digit, hex_digit, hex_byte, after_blanks, after_byte, byte_at, after_word, digit_run, after_digits, numeral_of, numeral_at, signed_at, integer_at, hex_at, escape_at, item_at}
use Rattle.weld_values.specs.Grammar.{Part, More, Listed, Enclosed, Found, AtList, AtItems, AtString, AtEntry, AtDict, AtField, AtStruct, At, Fields, or_else, truth_at, number_at, scalar_at}
use Rattle.weld_values.proofs.Listings.{some_is, none_is}
use Rattle.weld_values.proofs.Scalars.{byte_shorter, byte_at_shorter, blanks_no_longer}

abbrev pub Shrinks : {A : Type 0} → Part A → Type 0
Shrinks {A} R = (x : A) (text r : List ℕ) → R x text r → length r < length text

pub map_some : {A B : Type 0} (f : A → B) (o : Option A) (y : B) → option_map f o ≡ Some y → (x : A) × (o ≡ Some x) × (f x ≡ y)
map_some f None y h = absurd (none_is y h)
map_some f (Some x) y h = (x, refl, some_is (f x) y h)

-- ---- scalars

run_by : (byte : ℕ) (bytes : List ℕ) (b : Bool) → length (after_digits bytes) + length (digit_run bytes) ≡ length bytes → length (cond b (after_digits bytes) (byte ∷ bytes)) + length (cond b (byte ∷ digit_run bytes) []) ≡ length (byte ∷ bytes)
run_by byte bytes true h = omega arith
run_by byte bytes false h = omega arith

run_length : (text : List ℕ) → length (after_digits text) + length (digit_run text) ≡ length text
run_length [] = refl
run_length (byte ∷ bytes) = run_by byte bytes (is_digit byte) (run_length bytes)

numeral_by : (run rest : List ℕ) (n : ℕ) (r : List ℕ) → numeral_of run rest ≡ Some (n, r) → (0 < length run) × (rest ≡ r)
numeral_by [] rest n r h = absurd (none_is (n, r) h)
numeral_by (d ∷ ds) rest n r h = (omega arith, ap (λ (p : ℕ × List ℕ). p.1) (some_is _ (n, r) h))

numeral_shorter : (text : List ℕ) (n : ℕ) (r : List ℕ) → numeral_at text ≡ Some (n, r) → length r < length text
unfolding numeral_at
numeral_shorter text n r h =
    let p = numeral_by (digit_run text) (after_digits text) n r h in
    omega (arith, run_length text, p.0, ap length p.1)

signed_shorter : (text : List ℕ) (o : Option (List ℕ)) (z : ℤ) (r : List ℕ) → after_byte 45 text ≡ o → signed_at o text ≡ Some (z, r) → length r < length text
signed_shorter text None z r e h =
    let m = map_some (λ (f : ℕ × List ℕ). (pos f.0, f.1)) (numeral_at text) (z, r) h in
    omega (arith, numeral_shorter text m.0.0 m.0.1 m.1, ap (λ (p : ℤ × List ℕ). length p.1) m.2)
signed_shorter text (Some digits) z r e h =
    let m = map_some (λ (f : ℕ × List ℕ). (neg_ℤ (pos f.0), f.1)) (numeral_at digits) (z, r) h in
    omega (arith, numeral_shorter digits m.0.0 m.0.1 m.1, ap (λ (p : ℤ × List ℕ). length p.1) m.2, byte_shorter 45 text digits e)

integer_shorter : (text : List ℕ) (z : ℤ) (r : List ℕ) → integer_at text ≡ Some (z, r) → length r < length text
unfolding integer_at
integer_shorter text z r h = signed_shorter text (after_byte 45 text) z r refl h

number_shorter : (k : Kind) (text : List ℕ) (v : Value) (r : List ℕ) → number_at k text ≡ Some (v, r) → length r < length text
number_shorter k text v r h =
    let m = map_some (λ (f : ℤ × List ℕ). (number k f.0, f.1)) (integer_at (after_blanks text)) (v, r) h in
    omega (arith, integer_shorter (after_blanks text) m.0.0 m.0.1 m.1, ap (λ (p : Value × List ℕ). length p.1) m.2, blanks_no_longer text)

word_by : (byte : ℕ) (word text : List ℕ) (o : Option (List ℕ)) (r : List ℕ) → after_byte byte text ≡ o → option_and_then (after_word word) o ≡ Some r → ((t : List ℕ) → after_word word t ≡ Some r → length r ≤ length t) → length r < length text
word_by byte word text None r e h again = absurd (none_is r h)
word_by byte word text (Some rest) r e h again = omega (arith, byte_shorter byte text rest e, again rest h)

word_no_longer : (word text r : List ℕ) → after_word word text ≡ Some r → length r ≤ length text
unfolding after_word
word_no_longer [] text r h = omega (arith, ap length (some_is text r h))
word_no_longer (byte ∷ word) text r h = let less = word_by byte word text (after_byte byte text) r refl h (λ t. word_no_longer word t r) in omega arith

pub word_shorter : (byte : ℕ) (word text r : List ℕ) → after_word (byte ∷ word) text ≡ Some r → length r < length text
unfolding after_word
word_shorter byte word text r h = word_by byte word text (after_byte byte text) r refl h (λ t. word_no_longer word t r)

truth_by : (text : List ℕ) (o p : Option (List ℕ)) (v : Value) (r : List ℕ) → after_word (codes "true") text ≡ o → after_word (codes "false") text ≡ p → or_else {A = Value × List ℕ} (option_map (λ rest. (number kinds.Bool (pos 1), rest)) o) (option_map (λ rest. (number kinds.Bool (pos 0), rest)) p) ≡ Some (v, r) → length r < length text
truth_by text (Some rest) p v r e f h = omega (arith, word_shorter 116 (codes "rue") text rest e, ap (λ (q : Value × List ℕ). length q.1) (some_is _ (v, r) h))
truth_by text None (Some rest) v r e f h = omega (arith, word_shorter 102 (codes "alse") text rest f, ap (λ (q : Value × List ℕ). length q.1) (some_is _ (v, r) h))
truth_by text None None v r e f h = absurd (none_is (v, r) h)

truth_shorter : (text : List ℕ) (v : Value) (r : List ℕ) → truth_at text ≡ Some (v, r) → length r < length text
unfolding truth_at
truth_shorter text v r h = truth_by text (after_word (codes "true") text) (after_word (codes "false") text) v r refl refl h

pub scalar_shrinks : (k : Kind) → Shrinks (Found (scalar_at k))
unfolding scalar_at
scalar_shrinks kinds.Bool v text r h = omega (arith, truth_shorter (after_blanks text) v r h, blanks_no_longer text)
scalar_shrinks kinds.I8 v text r h = number_shorter kinds.I8 text v r h
scalar_shrinks kinds.I16 v text r h = number_shorter kinds.I16 text v r h
scalar_shrinks kinds.I32 v text r h = number_shorter kinds.I32 text v r h
scalar_shrinks kinds.I64 v text r h = number_shorter kinds.I64 text v r h
scalar_shrinks kinds.U8 v text r h = number_shorter kinds.U8 text v r h
scalar_shrinks kinds.U16 v text r h = number_shorter kinds.U16 text v r h
scalar_shrinks kinds.U32 v text r h = number_shorter kinds.U32 text v r h
scalar_shrinks kinds.U64 v text r h = number_shorter kinds.U64 text v r h

-- ---- lists

more_no_longer : {A : Type 0} (R : Part A) → Shrinks R → (xs : List A) (text r : List ℕ) → More R xs text r → length r ≤ length text
more_no_longer R less [] text r h = omega (arith, ap length h)
more_no_longer R less (x ∷ xs) text r (start, e, (mid, h, more)) = omega (arith, byte_at_shorter 44 text start e, less x start mid h, more_no_longer R less xs mid r more)

listed_shrinks : {A : Type 0} (R : Part A) → Shrinks R → (xs : List A) (text r : List ℕ) → Listed R xs text r → length r < length text
listed_shrinks R less [] text r h = elim h [ ]
listed_shrinks R less (x ∷ xs) text r (mid, h, more) = omega (arith, less x text mid h, more_no_longer R less xs mid r more)

pub enclosed_shrinks : {A : Type 0} (R : Part A) → Shrinks R → (c : ℕ) (o : Option (List ℕ)) (xs : List A) (text r : List ℕ) → byte_at c text ≡ o → Enclosed R c o xs text r → length r < length text
enclosed_shrinks R less c (Some after) xs text r e h = omega (arith, byte_at_shorter c text after e, ap length h.1)
enclosed_shrinks R less c None xs text r e (end, h, b) = omega (arith, listed_shrinks R less xs text end h, byte_at_shorter c end r b)

pub list_shrinks : (R : Part Value) → Shrinks R → Shrinks (AtList R)
list_shrinks R less v text r (inner, vs, b, h, e) = omega (arith, byte_at_shorter 91 text inner b, enclosed_shrinks R less 93 (byte_at 93 inner) vs inner r refl h)

-- ---- strings

either : {A : Type 0} (b : Bool) (x y z : A) → cond b x y ≡ z → (x ≡ z) ⊎ (y ≡ z)
either true x y z h = inl h
either false x y z h = inr h

hex_by : (high low : ℕ) (rest : List ℕ) (o p : Option ℕ) (b : ℕ) (r : List ℕ) → hex_byte o p rest ≡ Some (b, r) → length r ≤ length (high ∷ low ∷ rest)
hex_by high low rest (Some h) (Some l) b r e = omega (arith, ap (λ (q : ℕ × List ℕ). length q.1) (some_is (h * 16 + l, rest) (b, r) e))
hex_by high low rest (Some h) None b r e = absurd (none_is (b, r) e)
hex_by high low rest None p b r e = absurd (none_is (b, r) e)

hex_no_longer : (text : List ℕ) (b : ℕ) (r : List ℕ) → hex_at text ≡ Some (b, r) → length r ≤ length text
hex_no_longer [] b r h = absurd (none_is (b, r) h)
hex_no_longer (high ∷ []) b r h = absurd (none_is (b, r) h)
hex_no_longer (high ∷ low ∷ rest) b r h = hex_by high low rest (hex_digit high) (hex_digit low) b r h

one_no_longer : (a : ℕ) (rest : List ℕ) (b : ℕ) (r : List ℕ) → ◌≡◌ {A = Option (ℕ × List ℕ)} (Some (a, rest)) (Some (b, r)) → length r ≤ length rest
one_no_longer a rest b r h = omega (arith, ap (λ (p : ℕ × List ℕ). length p.1) (some_is (a, rest) (b, r) h))

escape_by : (byte : ℕ) (rest : List ℕ) (b : ℕ) (r : List ℕ) → escape_at (byte ∷ rest) ≡ Some (b, r) → length r ≤ length rest
escape_by byte rest b r h =
    elim (either (byte == 34) (Some (34, rest)) _ (Some (b, r)) h) [
      | inl e ↦ one_no_longer 34 rest b r e
      | inr e1 ↦
          elim (either (byte == 92) (Some (92, rest)) _ (Some (b, r)) e1) [
            | inl e ↦ one_no_longer 92 rest b r e
            | inr e2 ↦
                elim (either (byte == 110) (Some (10, rest)) _ (Some (b, r)) e2) [
                  | inl e ↦ one_no_longer 10 rest b r e
                  | inr e3 ↦
                      elim (either (byte == 116) (Some (9, rest)) _ (Some (b, r)) e3) [
                        | inl e ↦ one_no_longer 9 rest b r e
                        | inr e4 ↦
                            elim (either (byte == 120) (hex_at rest) None (Some (b, r)) e4) [ inl e ↦ hex_no_longer rest b r e | inr e5 ↦ absurd (none_is (b, r) e5) ]
                      ]
                ]
          ]
    ]

escape_no_longer : (text : List ℕ) (b : ℕ) (r : List ℕ) → escape_at text ≡ Some (b, r) → length r ≤ length text
escape_no_longer [] b r h = absurd (none_is (b, r) h)
escape_no_longer (byte ∷ rest) b r h = omega (arith, escape_by byte rest b r h)

pub item_shorter : (text : List ℕ) (b : ℕ) (r : List ℕ) → item_at text ≡ Some (b, r) → length r < length text
unfolding item_at
item_shorter [] b r h = absurd (none_is (b, r) h)
item_shorter (byte ∷ rest) b r h =
    elim (either (byte == 92) (escape_at rest) _ (Some (b, r)) h) [
      | inl e ↦ omega (arith, escape_no_longer rest b r e)
      | inr e1 ↦
          elim (either (byte == 34) None _ (Some (b, r)) e1) [
            | inl e ↦ absurd (none_is (b, r) e)
            | inr e2 ↦
                elim (either (nat_le 32 byte && nat_le byte 126) (Some (byte, rest)) None (Some (b, r)) e2) [ inl e ↦ omega (arith, one_no_longer byte rest b r e) | inr e3 ↦ absurd (none_is (b, r) e3) ]
          ]
    ]

items_shrink : (bytes text r : List ℕ) → AtItems bytes text r → length r < length text
items_shrink [] text r h = byte_shorter 34 text r h
items_shrink (b ∷ bytes) text r (mid, e, h) = omega (arith, item_shorter text b mid e, items_shrink bytes mid r h)

pub string_shrinks : Shrinks AtString
string_shrinks v text r (inner, bytes, b, h, e) = omega (arith, byte_at_shorter 34 text inner b, items_shrink bytes inner r h)

-- ---- all types

vec_shrinks : (t : TypeTree) → Shrinks (At t) → Shrinks (At (vec t))
vec_shrinks t less v text r (inl h) = list_shrinks (At t) less v text r h
vec_shrinks t less v text r (inr h) = string_shrinks v text r h.1

struct_shrinks : (R : Part Values) → ((vs : Values) (text r : List ℕ) → R vs text r → length r ≤ length text) → Shrinks (AtStruct R)
struct_shrinks R less v text r (vs, end, h, b, e) = omega (arith, less vs text end h, byte_at_shorter 125 end r b)

pub entry_shrinks : (R S : Part Value) → Shrinks R → Shrinks S → Shrinks (AtEntry R S)
entry_shrinks R S one two x text r (mid, start, h, b, m) = omega (arith, one x.0 text mid h, byte_at_shorter 58 mid start b, two x.1 start r m)

dict_shrinks : (R S : Part Value) → Shrinks R → Shrinks S → Shrinks (AtDict R S)
dict_shrinks R S one two v text r (brace, inner, es, w, b, h, e) = omega (arith, blanks_no_longer text, word_shorter 100 (codes "ict") (after_blanks text) brace w, byte_at_shorter 123 brace inner b, enclosed_shrinks (AtEntry R S) (entry_shrinks R S one two) 125 (byte_at 125 inner) es inner r refl h)

field_no_longer : (lead : ℕ) (R : Part Value) (S : Part Values) → Shrinks R → ((vs : Values) (text r : List ℕ) → S vs text r → length r ≤ length text) → (vs : Values) (text r : List ℕ) → AtField lead R S vs text r → length r ≤ length text
field_no_longer lead R S one more vs text r (v, ws, start, mid, e, b, h, m) = omega (arith, byte_at_shorter lead text start b, one v start mid h, more ws mid r m)

mutual
  pub at_shrinks : (t : TypeTree) → Shrinks (At t)
  at_shrinks (scalar kind) = scalar_shrinks kind
  at_shrinks (vec t) = vec_shrinks t (at_shrinks t)
  at_shrinks (struct_of ts) = struct_shrinks (Fields ts 123) (fields_no_longer ts 123)
  at_shrinks (dict_of k v) = dict_shrinks (At k) (At v) (at_shrinks k) (at_shrinks v)
  at_shrinks (build b) = λ v text r h. absurd h

  pub fields_no_longer : (ts : TypeTrees) (lead : ℕ) (vs : Values) (text r : List ℕ) → Fields ts lead vs text r → length r ≤ length text
  fields_no_longer no_types lead = λ vs text r h. omega (arith, ap length h.1)
  fields_no_longer (more_types t ts) lead = field_no_longer lead (At t) (Fields ts 44) (at_shrinks t) (fields_no_longer ts 44)
