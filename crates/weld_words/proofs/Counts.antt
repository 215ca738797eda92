-- How often each name stands among parts.
use Rattle.std.proofs.Common.{◌≡◌, ◌∙◌, ◌≤◌, ◌<◌, ◌+◌, ℕ, zero, suc, Bool, cond, true, false, refl, sym, ap, ap₂, subst, List, [], ◌∷◌, ◌++◌, map, length, Option, Some, None, arith, append_assoc}
use Rattle.std.specs.Prelude.{◌||◌, codes, option_and_then, slice_get, find}
use Rattle.std.specs.Str.{bytes_eq}
use Rattle.std.proofs.lemmas.Slice.Eq.{bytes_eq-Decides}
use Rattle.clap.specs.Walk.{Row, has_row, first_of}
use Rattle.weld_words.specs.Words.{Text, Name, workers, cut, seed, rows, name_text, Part, word, valued, report, words_in, value_of, values_of, reports_in}
use Rattle.weld_words.proofs.Rows.{id_of, value_in, row_for, rows_for, add}

-- the texts of the parts of a name
abbrev pub text_at : Text → Part → List Text
text_at id p = cond (bytes_eq (id_of p) id) (value_in p ∷ []) []

abbrev pub texts_at : Text → List Part → List Text
texts_at id [] = []
texts_at id (p ∷ ps) = text_at id p ++ texts_at id ps

abbrev pub Once : List Part → Type 0
Once ps = (r : Part) → length (texts_at (id_of r) ps) ≤ 1

pub texts_append : (id : Text) (ps qs : List Part) → texts_at id (ps ++ qs) ≡ texts_at id ps ++ texts_at id qs
texts_append id [] qs = refl
texts_append id (p ∷ ps) qs = ap (λ (ts : List Text). text_at id p ++ ts) (texts_append id ps qs) ∙ sym (append_assoc (text_at id p) (texts_at id ps) (texts_at id qs))

length_append : (xs ys : List Text) → length (xs ++ ys) ≡ length xs + length ys
length_append [] ys = omega arith
length_append (x ∷ xs) ys = let h : length (xs ++ ys) ≡ length xs + length ys = length_append xs ys in omega arith

pub texts_length : (id : Text) (ps qs : List Part) → length (texts_at id (ps ++ qs)) ≡ length (texts_at id ps) + length (texts_at id qs)
texts_length id ps qs = ap length (texts_append id ps qs) ∙ length_append (texts_at id ps) (texts_at id qs)

-- ---- a row is there exactly where a text is

pub has_none : (id : Text) (ps : List Part) → has_row id (rows_for ps) ≡ false → texts_at id ps ≡ []
has_none id [] h = refl
has_none id (p ∷ ps) h = go (has_none id ps) (bytes_eq (id_of p) id) h
  where
    go : (has_row id (rows_for ps) ≡ false → texts_at id ps ≡ []) → (b : Bool) → (b || has_row id (rows_for ps)) ≡ false → cond b (value_in p ∷ []) [] ++ texts_at id ps ≡ []
    go ih true e = absurd (let no : true ≡ false = e in cc)
    go ih false e = ih e

pub has_some : (id : Text) (ps : List Part) → has_row id (rows_for ps) ≡ true → 1 ≤ length (texts_at id ps)
has_some id [] h = absurd (let no : false ≡ true = h in cc)
has_some id (p ∷ ps) h = go (has_some id ps) (bytes_eq (id_of p) id) h
  where
    go : (has_row id (rows_for ps) ≡ true → 1 ≤ length (texts_at id ps)) → (b : Bool) → (b || has_row id (rows_for ps)) ≡ true → 1 ≤ length (cond b (value_in p ∷ []) [] ++ texts_at id ps)
    go ih true e = omega arith
    go ih false e = ih e

pub first_at : (id : Text) (ps : List Part) → first_of id (rows_for ps) ≡ slice_get (texts_at id ps) 0
first_at id [] = refl
first_at id (p ∷ ps) = go (first_at id ps) (bytes_eq (id_of p) id)
  where
    go : first_of id (rows_for ps) ≡ slice_get (texts_at id ps) 0 → (b : Bool) → option_and_then (λ (r : Row). slice_get r.values 0) (cond b (Some (row_for p)) (find (λ (r : Row). bytes_eq r.id id) (rows_for ps))) ≡ slice_get (cond b (value_in p ∷ []) [] ++ texts_at id ps) 0
    go ih true = refl
    go ih false = ih

-- ---- what is added

pub added : (p : Part) (ps qs : List Part) → add p ps ≡ Some qs → (qs ≡ ps ++ p ∷ []) × (has_row (id_of p) (rows_for ps) ≡ false)
added p ps qs e = go (has_row (id_of p) (rows_for ps)) e
  where
    go : (b : Bool) → cond b None (Some (ps ++ p ∷ [])) ≡ Some qs → (qs ≡ ps ++ p ∷ []) × (b ≡ false)
    go true e = cc
    go false e = (let f : ps ++ p ∷ [] ≡ qs = cc in sym f, refl)

one_at : (id : Text) (p : Part) → length (text_at id p) ≤ 1
one_at id p = go (bytes_eq (id_of p) id)
  where
    go : (b : Bool) → length (cond b (value_in p ∷ []) []) ≤ 1
    go true = omega arith
    go false = omega arith

-- where nothing of the name is there, or nothing of the name is added
once_more : (p : Part) (ps : List Part) → has_row (id_of p) (rows_for ps) ≡ false → Once ps → Once (ps ++ p ∷ [])
once_more p ps h o r = go (id_of r) (o r) (bytes_eq (id_of p) (id_of r)) refl
  where
    go : (id : Text) → length (texts_at id ps) ≤ 1 → (b : Bool) → bytes_eq (id_of p) id ≡ b → length (texts_at id (ps ++ p ∷ [])) ≤ 1
    go id old true e =
        let same : id_of p ≡ id = (bytes_eq-Decides (id_of p) id).0 e in
        let none : texts_at id ps ≡ [] = has_none id ps (ap (λ (i : Text). has_row i (rows_for ps)) (sym same) ∙ h) in
        let none_length : length (texts_at id ps) ≡ 0 = ap length none in
        let one : length (text_at id p) ≤ 1 = one_at id p in
        let more : length (text_at id p ++ []) ≡ length (text_at id p) + 0 = length_append (text_at id p) [] in
        let all : length (texts_at id (ps ++ p ∷ [])) ≡ length (texts_at id ps) + length (text_at id p ++ []) = texts_length id ps (p ∷ []) in
        omega arith
    go id old false e =
        let none : length (text_at id p ++ []) ≡ 0 = ap (λ (b : Bool). length (cond b (value_in p ∷ []) [] ++ [])) e in
        let all : length (texts_at id (ps ++ p ∷ [])) ≡ length (texts_at id ps) + length (text_at id p ++ []) = texts_length id ps (p ∷ []) in
        omega arith

pub once_added : (p : Part) (ps qs : List Part) → add p ps ≡ Some qs → Once ps → Once qs
once_added p ps qs e o = let a : (qs ≡ ps ++ p ∷ []) × (has_row (id_of p) (rows_for ps) ≡ false) = added p ps qs e in subst Once (sym a.0) (once_more p ps a.1 o)

own_text : (p : Part) → length (text_at (id_of p) p) ≡ 1
own_text p = ap (λ (b : Bool). length (cond b (value_in p ∷ []) [])) ((bytes_eq-Decides (id_of p) (id_of p)).1 refl)

-- a part that stands once is added
pub adds : (ps : List Part) (p : Part) (qs : List Part) → Once (ps ++ p ∷ qs) → add p ps ≡ Some (ps ++ p ∷ [])
adds ps p qs o = go (has_row (id_of p) (rows_for ps)) refl
  where
    go : (b : Bool) → has_row (id_of p) (rows_for ps) ≡ b → cond b None (Some (ps ++ p ∷ [])) ≡ Some (ps ++ p ∷ [])
    go true e =
        let some : 1 ≤ length (texts_at (id_of p) ps) = has_some (id_of p) ps e in
        let own : length (text_at (id_of p) p) ≡ 1 = own_text p in
        let all : length (texts_at (id_of p) (ps ++ p ∷ qs)) ≡ length (texts_at (id_of p) ps) + length (text_at (id_of p) p ++ texts_at (id_of p) qs) = texts_length (id_of p) ps (p ∷ qs) in
        let two : length (text_at (id_of p) p ++ texts_at (id_of p) qs) ≡ length (text_at (id_of p) p) + length (texts_at (id_of p) qs) = length_append (text_at (id_of p) p) (texts_at (id_of p) qs) in
        let once : length (texts_at (id_of p) (ps ++ p ∷ qs)) ≤ 1 = o p in
        absurd (omega arith)
    go false e = refl

-- ---- the same in the words of the form

pub words_are : (ps : List Part) → words_in ps ≡ texts_at (codes "command") ps
words_are [] = refl
words_are (word w ∷ ps) = ap (λ (ts : List Text). w ∷ ts) (words_are ps)
words_are (valued workers t ∷ ps) = words_are ps
words_are (valued cut t ∷ ps) = words_are ps
words_are (valued seed t ∷ ps) = words_are ps
words_are (valued rows t ∷ ps) = words_are ps
words_are (report ∷ ps) = words_are ps

value_is : (n m : Name) (t : Text) → value_of n m t ≡ text_at (name_text n) (valued m t)
value_is workers workers t = refl
value_is workers cut t = refl
value_is workers seed t = refl
value_is workers rows t = refl
value_is cut workers t = refl
value_is cut cut t = refl
value_is cut seed t = refl
value_is cut rows t = refl
value_is seed workers t = refl
value_is seed cut t = refl
value_is seed seed t = refl
value_is seed rows t = refl
value_is rows workers t = refl
value_is rows cut t = refl
value_is rows seed t = refl
value_is rows rows t = refl

word_no_value : (n : Name) (w : Text) → text_at (name_text n) (word w) ≡ []
word_no_value workers w = refl
word_no_value cut w = refl
word_no_value seed w = refl
word_no_value rows w = refl

report_no_value : (n : Name) → text_at (name_text n) report ≡ []
report_no_value workers = refl
report_no_value cut = refl
report_no_value seed = refl
report_no_value rows = refl

pub values_are : (n : Name) (ps : List Part) → values_of n ps ≡ texts_at (name_text n) ps
values_are n [] = refl
values_are n (word w ∷ ps) = values_are n ps ∙ sym (ap (λ (ts : List Text). ts ++ texts_at (name_text n) ps) (word_no_value n w))
values_are n (valued m t ∷ ps) = ap₂ (λ (a b : List Text). a ++ b) (value_is n m t) (values_are n ps)
values_are n (report ∷ ps) = values_are n ps ∙ sym (ap (λ (ts : List Text). ts ++ texts_at (name_text n) ps) (report_no_value n))

pub reports_are : (ps : List Part) → reports_in ps ≡ length (texts_at (codes "report") ps)
reports_are [] = refl
reports_are (word w ∷ ps) = reports_are ps
reports_are (valued workers t ∷ ps) = reports_are ps
reports_are (valued cut t ∷ ps) = reports_are ps
reports_are (valued seed t ∷ ps) = reports_are ps
reports_are (valued rows t ∷ ps) = reports_are ps
reports_are (report ∷ ps) = ap suc (reports_are ps)
