-- Totals of fields, one after another.
use Rattle.std.proofs.Common.{◌≡◌, ℕ, zero, suc, ◌+◌, ◌-◌, ◌<◌, ◌≤◌, ℤ, pos, List, [], ◌∷◌, ◌++◌, length, take, drop, slice_index_or, slice_set, ap, sym, subst, refl, ◌∙◌, arith, add-one}
use Rattle.std.proofs.Math.ListN.{get_or-map}
use Rattle.std.proofs.lemmas.List.{length-map, take_more, take_all, map-append, map-set}
use Rattle.weld_data.specs.declared.kind.Kind.{Kind}
use Rattle.weld_data.specs.declared.num.Num.{Num}
use Rattle.weld_data.specs.declared.op.MergeOp.{MergeOp}
use Rattle.weld_data.specs.Kind.{IsInteger, IsNarrow, InRange}
use Rattle.weld_data.specs.Operation.{combination, start_of}
use Rattle.weld_data.specs.Structs.{AreFields, AreStructs}
use Rattle.weld_builders.specs.Part.{Totals, kinds_of, neutral_totals, join_totals}
use Rattle.weld_pieces.proofs.CellLemmas.{bits, bits_are}
use Rattle.weld_pieces.specs.Totals.{total_in, totals_in, kinded, rows_joined, AreIntegers}

-- the first so many combined, the others as they were
abbrev pub partly : MergeOp → Totals → Totals → ℕ → Totals
partly op [] ys i = []
partly op (x ∷ xs) ys zero = x ∷ xs
partly op (x ∷ xs) [] (suc i) = x ∷ xs
partly op (x ∷ xs) (y ∷ ys) (suc i) = (y.0, combination op y.0 x.1 y.1) ∷ partly op xs ys i

partly_none : (op : MergeOp) (xs ys : Totals) → partly op xs ys 0 ≡ xs
partly_none op [] ys = refl
partly_none op (x ∷ xs) ys = refl

pub none_yet : (op : MergeOp) (ns ms : List Num) → totals_in ns ≡ partly op (totals_in ns) (totals_in ms) 0
none_yet op ns ms = sym (partly_none op (totals_in ns) (totals_in ms))

partly_all : (op : MergeOp) (xs ys : Totals) (i : ℕ) → kinds_of xs ≡ kinds_of ys → length xs ≤ i → partly op xs ys i ≡ join_totals op xs ys
partly_all op [] [] i e l = refl
partly_all op [] (y ∷ ys) i e l = cc
partly_all op (x ∷ xs) [] i e l = cc
partly_all op (x ∷ xs) (y ∷ ys) zero e l = absurd (omega arith)
partly_all op (x ∷ xs) (y ∷ ys) (suc i) e l =
    let k : kinds_of xs ≡ kinds_of ys = cc in
    ap (λ zs. (y.0, combination op y.0 x.1 y.1) ∷ zs) (partly_all op xs ys i k (omega arith))

pub all_done : (op : MergeOp) (old now later : List Num) (i : ℕ) → kinds_of (totals_in old) ≡ kinds_of (totals_in later) → length old ≤ i → totals_in now ≡ partly op (totals_in old) (totals_in later) i → totals_in now ≡ join_totals op (totals_in old) (totals_in later)
all_done op old now later i e l is = is ∙ partly_all op (totals_in old) (totals_in later) i e (let n = length-map old total_in in omega arith)

-- ---- kinds

kinds_long : (xs : Totals) → length (kinds_of xs) ≡ length xs
kinds_long [] = refl
kinds_long (x ∷ xs) = ap suc (kinds_long xs)

pub later_there : (old later : List Num) (i : ℕ) → kinds_of (totals_in old) ≡ kinds_of (totals_in later) → i < length old → i < length later
later_there old later i e l =
    let a = kinds_long (totals_in old) in let b = kinds_long (totals_in later) in let c = length-map old total_in in let d = length-map later total_in in
    omega (arith, ap length e)

pub integer_at : (ns : List Num) (i : ℕ) (d : Num) → AreIntegers (kinds_of (totals_in ns)) → i < length ns → IsInteger (slice_index_or ns i d).kind
integer_at [] i d h l = absurd (omega arith)
integer_at (n ∷ ns) zero d h l = h.0
integer_at (n ∷ ns) (suc i) d h l = integer_at ns i d h.1 (omega arith)

kind_at : (ns ms : List Num) (i : ℕ) (d e : Num) → kinds_of (totals_in ns) ≡ kinds_of (totals_in ms) → i < length ms → (slice_index_or ns i d).kind ≡ (slice_index_or ms i e).kind
kind_at ns [] i d e k l = absurd (omega arith)
kind_at [] (m ∷ ms) i d e k l = cc
kind_at (n ∷ ns) (m ∷ ms) zero d e k l = cc
kind_at (n ∷ ns) (m ∷ ms) (suc i) d e k l = let more : kinds_of (totals_in ns) ≡ kinds_of (totals_in ms) = cc in kind_at ns ms i d e more (omega arith)

partly_kinds : (op : MergeOp) (xs ys : Totals) (i : ℕ) → kinds_of xs ≡ kinds_of ys → kinds_of (partly op xs ys i) ≡ kinds_of xs
partly_kinds op [] ys i e = refl
partly_kinds op (x ∷ xs) ys zero e = refl
partly_kinds op (x ∷ xs) [] (suc i) e = refl
partly_kinds op (x ∷ xs) (y ∷ ys) (suc i) e =
    let k : x.0 ≡ y.0 = cc in let more : kinds_of xs ≡ kinds_of ys = cc in λ j. sym k j ∷ partly_kinds op xs ys i more j

pub integer_later : (old later : List Num) (i : ℕ) (y : Num) → AreIntegers (kinds_of (totals_in old)) → kinds_of (totals_in old) ≡ kinds_of (totals_in later) → i < length later → y ≡ slice_index_or later i y → IsInteger y.kind
integer_later old later i y h e l is =
    subst (λ (n : Num). IsInteger n.kind) (sym is) (integer_at later i y (subst AreIntegers e h) l)

pub same_kind_there : (op : MergeOp) (old now later : List Num) (i : ℕ) (x y : Num) → kinds_of (totals_in old) ≡ kinds_of (totals_in later) → i < length later → totals_in now ≡ partly op (totals_in old) (totals_in later) i
    → x ≡ slice_index_or now i x → y ≡ slice_index_or later i y → x.kind ≡ y.kind
same_kind_there op old now later i x y e l is xs ys =
    let same : kinds_of (totals_in now) ≡ kinds_of (totals_in later) = ap kinds_of is ∙ partly_kinds op (totals_in old) (totals_in later) i e ∙ e in
    ap (λ (n : Num). n.kind) xs ∙ kind_at now later i x y same l ∙ ap (λ (n : Num). n.kind) (sym ys)

-- ---- one more is combined

partly_step : (op : MergeOp) (xs ys : Totals) (i : ℕ) (x y t : Kind × ℤ) → i < length xs → kinds_of xs ≡ kinds_of ys → x ≡ slice_index_or (partly op xs ys i) i x → y ≡ slice_index_or ys i y
    → t ≡ (y.0, combination op y.0 x.1 y.1) → slice_set (partly op xs ys i) i t ≡ partly op xs ys (suc i)
partly_step op [] ys i x y t l e p q r = absurd (omega arith)
partly_step op (a ∷ xs) [] i x y t l e p q r = cc
partly_step op (a ∷ xs) (b ∷ ys) zero x y t l e p q r =
    let is : t ≡ (b.0, combination op b.0 a.1 b.1) = r ∙ ap (λ (s : (Kind × ℤ) × (Kind × ℤ)). (s.1.0, combination op s.1.0 s.0.1 s.1.1)) (λ j. (p j, q j)) in
    λ j. is j ∷ sym (partly_none op xs ys) j
partly_step op (a ∷ xs) (b ∷ ys) (suc i) x y t l e p q r =
    let more : kinds_of xs ≡ kinds_of ys = cc in
    ap (λ zs. (b.0, combination op b.0 a.1 b.1) ∷ zs) (partly_step op xs ys i x y t (omega arith) more p q r)

pub combine_step : (op : MergeOp) (old now later : List Num) (i : ℕ) (x y r : Num) → i < length old → kinds_of (totals_in old) ≡ kinds_of (totals_in later) → totals_in now ≡ partly op (totals_in old) (totals_in later) i
    → x ≡ slice_index_or now i x → y ≡ slice_index_or later i y → r.kind ≡ y.kind → r.value ≡ combination op y.kind x.value y.value → totals_in (slice_set now i r) ≡ partly op (totals_in old) (totals_in later) (i + 1)
combine_step op old now later i x y r l e is p q k v =
    let long : i < length (totals_in old) = let n = length-map old total_in in omega arith in
    let px : total_in x ≡ slice_index_or (partly op (totals_in old) (totals_in later) i) i (total_in x) = ap total_in p ∙ sym (get_or-map total_in now i x) ∙ ap (λ zs. slice_index_or zs i (total_in x)) is in
    let qy : total_in y ≡ slice_index_or (totals_in later) i (total_in y) = ap total_in q ∙ sym (get_or-map total_in later i y) in
    let tr : total_in r ≡ (y.kind, combination op y.kind x.value y.value) = λ j. (k j, v j) in
    rw add-one
    (map-set total_in now i r ∙ ap (λ zs. slice_set zs i (total_in r)) is ∙ partly_step op (totals_in old) (totals_in later) i (total_in x) (total_in y) (total_in r) long e px qy tr)

-- ---- neutral numbers

abbrev neutral_for : MergeOp → List Num → Totals
neutral_for op ns = neutral_totals op (kinds_of (totals_in ns))

neutral_append : (op : MergeOp) (ns ms : List Num) → neutral_for op (ns ++ ms) ≡ neutral_for op ns ++ neutral_for op ms
neutral_append op [] ms = refl
neutral_append op (n ∷ ns) ms = λ j. (n.kind, start_of op n.kind) ∷ neutral_append op ns ms j

pub neutral_step : (op : MergeOp) (ts out new : List Num) (i : ℕ) (x n : Num) → i < length ts → n.kind ≡ (slice_index_or ts i x).kind → n.value ≡ start_of op (slice_index_or ts i x).kind → new ≡ out ++ n ∷ []
    → totals_in out ≡ neutral_for op (take i ts) → totals_in new ≡ neutral_for op (take (i + 1) ts)
neutral_step op ts out new i x n l k v e is =
    let y = slice_index_or ts i x in
    let one : total_in n ≡ (y.kind, start_of op y.kind) = λ j. (k j, v j) in
    ap totals_in e ∙ map-append total_in out (n ∷ []) ∙ ap (λ zs. zs ++ totals_in (n ∷ [])) is ∙ ap (λ z. neutral_for op (take i ts) ++ z ∷ []) one
    ∙ sym (ap (neutral_for op) (take_more ts i x l) ∙ neutral_append op (take i ts) (y ∷ []))

kinds_of-neutral : (op : MergeOp) (ks : List Kind) → kinds_of (neutral_totals op ks) ≡ ks
kinds_of-neutral op [] = refl
kinds_of-neutral op (k ∷ ks) = λ j. k ∷ kinds_of-neutral op ks j

pub neutral_integers : (op : MergeOp) (ts out : List Num) (i : ℕ) → length ts ≤ i → AreIntegers (kinds_of (totals_in ts)) → totals_in out ≡ neutral_for op (take i ts) → AreIntegers (kinds_of (totals_in out))
neutral_integers op ts out i l h e =
    subst AreIntegers (sym (ap kinds_of (e ∙ ap (neutral_for op) (take_all i ts l)) ∙ kinds_of-neutral op (kinds_of (totals_in ts)))) h

-- ---- what is combined stays of its kinds

pub integers_stay : (op : MergeOp) (old now later : List Num) (i : ℕ) → AreIntegers (kinds_of (totals_in old)) → kinds_of (totals_in old) ≡ kinds_of (totals_in later) → totals_in now ≡ partly op (totals_in old) (totals_in later) i → AreIntegers (kinds_of (totals_in now))
integers_stay op old now later i h e is =
    subst AreIntegers (sym (ap kinds_of is ∙ partly_kinds op (totals_in old) (totals_in later) i e)) h

-- ---- a row of words is combined

-- the words as totals of the kinds of these
abbrev pub row_of : List Num → List ℤ → Totals
row_of ns ms = kinded (kinds_of (totals_in ns)) ms

row_within : (ks : List Kind) (ms : List ℤ) → AreFields ks ms → length ks ≤ length ms
row_within [] ms h = omega arith
row_within (k ∷ ks) [] h = absurd h
row_within (k ∷ ks) (m ∷ ms) h = let t = row_within ks ms h.2 in omega arith

row_ranges : (ks : List Kind) (ms : List ℤ) (i : ℕ) (d : Kind) (e : ℤ) → AreFields ks ms → i < length ks → IsNarrow (slice_index_or ks i d) × InRange (slice_index_or ks i d) (slice_index_or ms i e)
row_ranges [] ms i d e h l = absurd (omega arith)
row_ranges (k ∷ ks) [] i d e h l = absurd h
row_ranges (k ∷ ks) (m ∷ ms) zero d e h l = (h.0, h.1)
row_ranges (k ∷ ks) (m ∷ ms) (suc i) d e h l = row_ranges ks ms i d e h.2 (omega arith)

kinded_kinds : (ks : List Kind) (ms : List ℤ) → AreFields ks ms → kinds_of (kinded ks ms) ≡ ks
kinded_kinds [] ms h = refl
kinded_kinds (k ∷ ks) [] h = absurd h
kinded_kinds (k ∷ ks) (m ∷ ms) h = ap (λ is. k ∷ is) (kinded_kinds ks ms h.2)

pub row_kinds_stay : (op : MergeOp) (xs : Totals) (ms : List ℤ) → AreFields (kinds_of xs) ms → kinds_of (join_totals op xs (kinded (kinds_of xs) ms)) ≡ kinds_of xs
row_kinds_stay op [] ms h = refl
row_kinds_stay op (x ∷ xs) [] h = absurd h
row_kinds_stay op (x ∷ xs) (m ∷ ms) h = ap (λ is. x.0 ∷ is) (row_kinds_stay op xs ms h.2)

pub no_word_yet : (op : MergeOp) (ns : List Num) (ms : List ℤ) → totals_in ns ≡ partly op (totals_in ns) (row_of ns ms) 0
no_word_yet op ns ms = sym (partly_none op (totals_in ns) (row_of ns ms))

pub word_there : (ns : List Num) (ms : List ℤ) (i : ℕ) → AreFields (kinds_of (totals_in ns)) ms → i < length ns → i < length ms
word_there ns ms i h l =
    let a = kinds_long (totals_in ns) in let b = length-map ns total_in in let c = row_within (kinds_of (totals_in ns)) ms h in
    omega arith

words_kinds : (op : MergeOp) (old now : List Num) (ms : List ℤ) (i : ℕ) → AreFields (kinds_of (totals_in old)) ms → totals_in now ≡ partly op (totals_in old) (row_of old ms) i → kinds_of (totals_in now) ≡ kinds_of (totals_in old)
words_kinds op old now ms i h is = ap kinds_of is ∙ partly_kinds op (totals_in old) (row_of old ms) i (sym (kinded_kinds (kinds_of (totals_in old)) ms h))

kind_there : (ns : List Num) (i : ℕ) (d : Num) (e : Kind) → i < length ns → slice_index_or (kinds_of (totals_in ns)) i e ≡ (slice_index_or ns i d).kind
kind_there [] i d e l = absurd (omega arith)
kind_there (n ∷ ns) zero d e l = refl
kind_there (n ∷ ns) (suc i) d e l = kind_there ns i d e (omega arith)

long_still : (ns ms : List Num) → kinds_of (totals_in ns) ≡ kinds_of (totals_in ms) → length ns ≡ length ms
long_still ns ms e =
    let a = kinds_long (totals_in ns) in let b = kinds_long (totals_in ms) in let c = length-map ns total_in in let d = length-map ms total_in in
    omega (arith, ap length e)

pub integer_now : (op : MergeOp) (old now : List Num) (ms : List ℤ) (i : ℕ) (x : Num) → AreIntegers (kinds_of (totals_in old)) → AreFields (kinds_of (totals_in old)) ms → i < length old → totals_in now ≡ partly op (totals_in old) (row_of old ms) i
    → x ≡ slice_index_or now i x → IsInteger x.kind
integer_now op old now ms i x g h l is p =
    let same = words_kinds op old now ms i h is in
    let long = long_still now old same in
    subst (λ (n : Num). IsInteger n.kind) (sym p) (integer_at now i x (subst AreIntegers (sym same) g) (omega (arith, long)))

-- a word that is read by its bits
pub word_bits : (old : List Num) (ms : List ℤ) (i : ℕ) (d : Kind) → AreFields (kinds_of (totals_in old)) ms → i < length old → bits (slice_index_or ms i (pos 0)) ≡ slice_index_or ms i (pos 0)
word_bits old ms i d h l =
    let ks = kinds_of (totals_in old) in
    let many = kinds_long (totals_in old) in
    let all = length-map old total_in in
    let r = row_ranges ks ms i d (pos 0) h (omega arith) in
    bits_are (slice_index_or ks i d) (slice_index_or ms i (pos 0)) r.0 r.1

pub word_in_range : (op : MergeOp) (old now : List Num) (ms : List ℤ) (i : ℕ) (x : Num) → AreFields (kinds_of (totals_in old)) ms → i < length old → totals_in now ≡ partly op (totals_in old) (row_of old ms) i
    → x ≡ slice_index_or now i x → InRange x.kind (bits (slice_index_or ms i (pos 0)))
word_in_range op old now ms i x h l is p =
    let ks = kinds_of (totals_in old) in
    let same = words_kinds op old now ms i h is in
    let long = long_still now old same in
    let many = kinds_long (totals_in old) in
    let all = length-map old total_in in
    let r = row_ranges ks ms i x.kind (pos 0) h (omega arith) in
    let kind : slice_index_or ks i x.kind ≡ x.kind = ap (λ (is : List Kind). slice_index_or is i x.kind) (sym same) ∙ kind_there now i x x.kind (omega (arith, long)) ∙ ap (λ (n : Num). n.kind) (sym p) in
    subst (λ (k : Kind). InRange k (bits (slice_index_or ms i (pos 0)))) kind (subst (λ (z : ℤ). InRange (slice_index_or ks i x.kind) z) (sym (word_bits old ms i x.kind h l)) r.1)

kinded_at : (ks : List Kind) (ms : List ℤ) (i : ℕ) (k : Kind) (m : ℤ) → AreFields ks ms → i < length ks → k ≡ slice_index_or ks i k → m ≡ slice_index_or ms i m → (k, m) ≡ slice_index_or (kinded ks ms) i (k, m)
kinded_at [] ms i k m h l p q = absurd (omega arith)
kinded_at (j ∷ ks) [] i k m h l p q = absurd h
kinded_at (j ∷ ks) (n ∷ ms) zero k m h l p q = λ t. (p t, q t)
kinded_at (j ∷ ks) (n ∷ ms) (suc i) k m h l p q = kinded_at ks ms i k m h.2 (omega arith) p q

there_as : (ms : List ℤ) (i : ℕ) (d e : ℤ) → i < length ms → slice_index_or ms i d ≡ slice_index_or ms i e
there_as [] i d e l = absurd (omega arith)
there_as (m ∷ ms) zero d e l = refl
there_as (m ∷ ms) (suc i) d e l = there_as ms i d e (omega arith)

pub word_step : (op : MergeOp) (old now : List Num) (ms : List ℤ) (i : ℕ) (x r : Num) → i < length old → AreFields (kinds_of (totals_in old)) ms → totals_in now ≡ partly op (totals_in old) (row_of old ms) i
    → x ≡ slice_index_or now i x → r.kind ≡ x.kind → r.value ≡ combination op x.kind x.value (bits (slice_index_or ms i (pos 0))) → totals_in (slice_set now i r) ≡ partly op (totals_in old) (row_of old ms) (i + 1)
word_step op old now ms i x r l h is p k v =
    let ks = kinds_of (totals_in old) in
    let m = bits (slice_index_or ms i (pos 0)) in
    let q : m ≡ slice_index_or ms i m = word_bits old ms i x.kind h l ∙ there_as ms i (pos 0) m (word_there old ms i h l) in
    let same = words_kinds op old now ms i h is in
    let now_long = long_still now old same in
    let many = kinds_long (totals_in old) in
    let all = length-map old total_in in
    let long : i < length (totals_in old) = omega arith in
    let kind : x.kind ≡ slice_index_or ks i x.kind = ap (λ (n : Num). n.kind) p ∙ sym (kind_there now i x x.kind (omega (arith, now_long))) ∙ ap (λ (is : List Kind). slice_index_or is i x.kind) same in
    let px : total_in x ≡ slice_index_or (partly op (totals_in old) (row_of old ms) i) i (total_in x) = ap total_in p ∙ sym (get_or-map total_in now i x) ∙ ap (λ zs. slice_index_or zs i (total_in x)) is in
    let qy : (x.kind, m) ≡ slice_index_or (row_of old ms) i (x.kind, m) = kinded_at ks ms i x.kind m h (omega arith) kind q in
    let tr : total_in r ≡ (x.kind, combination op x.kind x.value m) = λ j. (k j, v j) in
    rw add-one
    (map-set total_in now i r ∙ ap (λ zs. slice_set zs i (total_in r)) is ∙ partly_step op (totals_in old) (row_of old ms) i (total_in x) (x.kind, m) (total_in r) long (sym (kinded_kinds ks ms h)) px qy tr)

pub all_words : (op : MergeOp) (old now : List Num) (ms : List ℤ) (i : ℕ) → AreFields (kinds_of (totals_in old)) ms → length old ≤ i → totals_in now ≡ partly op (totals_in old) (row_of old ms) i → totals_in now ≡ join_totals op (totals_in old) (row_of old ms)
all_words op old now ms i h l is = is ∙ partly_all op (totals_in old) (row_of old ms) i (sym (kinded_kinds (kinds_of (totals_in old)) ms h)) (let n = length-map old total_in in omega arith)

pub words_integers : (op : MergeOp) (old now : List Num) (ms : List ℤ) (i : ℕ) → AreIntegers (kinds_of (totals_in old)) → AreFields (kinds_of (totals_in old)) ms → totals_in now ≡ partly op (totals_in old) (row_of old ms) i → AreIntegers (kinds_of (totals_in now))
words_integers op old now ms i g h is = subst AreIntegers (sym (words_kinds op old now ms i h is)) g

-- ---- rows of words are combined

pub rows_there : (ns : List Num) (ms : List ℤ) (n i : ℕ) → i < n → AreStructs (n - i) (kinds_of (totals_in ns)) ms → length ns ≤ length ms
rows_there ns ms n i l h =
    let a = kinds_long (totals_in ns) in let b = length-map ns total_in in
    let one : n - i ≡ suc (n - suc i) = omega arith in
    let c = row_within (kinds_of (totals_in ns)) ms (subst (λ m. AreStructs m (kinds_of (totals_in ns)) ms) one h).0 in
    omega arith

pub first_row : (ns : List Num) (ms : List ℤ) (n i : ℕ) → i < n → AreStructs (n - i) (kinds_of (totals_in ns)) ms → AreFields (kinds_of (totals_in ns)) ms
first_row ns ms n i l h =
    let one : n - i ≡ suc (n - suc i) = omega arith in
    (subst (λ m. AreStructs m (kinds_of (totals_in ns)) ms) one h).0

-- a row more
pub row_step : (op : MergeOp) (whole : Totals) (now new : List Num) (ms rest : List ℤ) (n i : ℕ) → i < n → rest ≡ drop (length now) ms → totals_in new ≡ join_totals op (totals_in now) (row_of now ms)
    → (whole ≡ rows_joined op (totals_in now) ms (n - i)) × AreStructs (n - i) (kinds_of (totals_in now)) ms
    → (whole ≡ rows_joined op (totals_in new) rest (n - (i + 1))) × AreStructs (n - (i + 1)) (kinds_of (totals_in new)) rest
row_step op whole now new ms rest n i l e is h =
    let ks = kinds_of (totals_in now) in
    let a = kinds_long (totals_in now) in let b = length-map now total_in in
    let one : n - i ≡ suc (n - (i + 1)) = omega arith in
    let here : AreStructs (suc (n - (i + 1))) ks ms = subst (λ m. AreStructs m ks ms) one h.1 in
    let long : length ks ≡ length now = omega arith in
    let left : drop (length ks) ms ≡ rest = ap (λ m. drop m ms) long ∙ sym e in
    let same : kinds_of (totals_in new) ≡ ks = ap kinds_of is ∙ row_kinds_stay op (totals_in now) ms here.0 in (
      h.0 ∙ ap (rows_joined op (totals_in now) ms) one
          ∙ ap (λ (us : List ℤ). rows_joined op (join_totals op (totals_in now) (row_of now ms)) us (n - (i + 1))) left
          ∙ ap (λ (xs : Totals). rows_joined op xs rest (n - (i + 1))) (sym is),
      subst (λ (is : List Kind). AreStructs (n - (i + 1)) is rest) (sym same) (subst (λ (us : List ℤ). AreStructs (n - (i + 1)) ks us) left here.1),
    )
