-- The rows that clap has of parts, and what becomes of them when an argument is used.
use Rattle.std.proofs.Common.{◌≡◌, ◌∙◌, ℕ, Bool, cond, true, false, refl, sym, ap, subst, List, [], ◌∷◌, ◌++◌, map, Option, Some, None}
use Rattle.std.specs.Prelude.{◌||◌, ◌&&◌, not, codes}
use Rattle.std.specs.Str.{bytes_eq}
use Rattle.clap.specs.Walk.{Held, Rule, Row, Text, at_row, has_row, more_values, with_values, without, used, settled_rows, nothing_held}
use Rattle.clap.specs.Takes.{is_refused}
use Rattle.clap.specs.Faults.{use_fault, settle_fault}
use Rattle.clap.specs.Kinds.{Kinds, or_else}
use Rattle.clap.specs.declared.builder.value_parser.Reading.{Reading}
use Rattle.clap.specs.declared.builder.value_parser.Reading.TheVariants as readings
use Rattle.clap.specs.declared.parser.matches.ValueSource.{ValueSource}
use Rattle.clap.specs.declared.parser.matches.ValueSource.TheVariants.{DefaultValue, CommandLine}
use Rattle.weld_words.specs.Words.{Name, workers, cut, seed, rows, name_text, Part, word, valued, report}
use Rattle.weld_words.proofs.Built.{filled_value, filled_word, filled_option, filled_report, rules, by_name}

-- ---- rows of parts

abbrev pub id_of : Part → Text
id_of (word w) = codes "command"
id_of (valued n t) = name_text n
id_of report = codes "report"

abbrev pub value_in : Part → Text
value_in (word w) = w
value_in (valued n t) = t
value_in report = codes "true"

abbrev pub row_with : ValueSource → Text → Text → Row
row_with source id t = record { id = id; values = t ∷ []; count = None; source = Some source; reading = readings.AsWritten }

abbrev pub row_for : Part → Row
row_for p = row_with CommandLine (id_of p) (value_in p)

abbrev pub rows_for : List Part → List Row
rows_for ps = map row_for ps

-- the part behind the others, where there is none of its name
abbrev pub add : Part → List Part → Option (List Part)
add p ps = cond (has_row (id_of p) (rows_for ps)) None (Some (ps ++ p ∷ []))

-- ---- use of an argument that has no row yet

missing_row : (id : Text) (change : Row → List Row) (m rs : List Row) → has_row id rs ≡ false → at_row id change m rs ≡ rs ++ m
missing_row id change m [] h = refl
missing_row id change m (r ∷ rs) h = go (bytes_eq r.id id) h (missing_row id change m rs)
  where
    go : (b : Bool) → (b || has_row id rs) ≡ false → (has_row id rs ≡ false → at_row id change m rs ≡ rs ++ m) → cond b (change r ++ rs) (r ∷ at_row id change m rs) ≡ r ∷ (rs ++ m)
    go true h ih = absurd (no h)
      where
        no : true ≡ false → ⊥
        no e = cc
    go false h ih = ap (λ xs. r ∷ xs) (ih h)

nothing_more : (rs : List Row) → rs ++ [] ≡ rs
nothing_more [] = refl
nothing_more (r ∷ rs) = ap (λ xs. r ∷ xs) (nothing_more rs)

pub fresh : (source : ValueSource) (id t : Text) (rs : List Row) → has_row id rs ≡ false → with_values id readings.AsWritten source (t ∷ []) rs ≡ rs ++ row_with source id t ∷ []
fresh source id t rs h = missing_row id (more_values source (t ∷ [])) (row_with source id t ∷ []) rs h

pub fresh_use : (id t : Text) (rs : List Row) → has_row id rs ≡ false → with_values id readings.AsWritten CommandLine (t ∷ []) (without id rs) ≡ rs ++ row_with CommandLine id t ∷ []
fresh_use id t rs h =
    let none : without id rs ≡ rs = missing_row id (λ (_ : Row). []) [] rs h ∙ nothing_more rs in
    ap (with_values id readings.AsWritten CommandLine (t ∷ [])) none ∙ fresh CommandLine id t rs h

pub rows_more : (ps : List Part) (p : Part) → rows_for ps ++ row_for p ∷ [] ≡ rows_for (ps ++ p ∷ [])
rows_more [] p = refl
rows_more (q ∷ ps) p = ap (λ xs. row_for q ∷ xs) (rows_more ps p)

-- ---- one use

-- the use adds a part, or is a fault where there is none
abbrev pub Uses : Option (List Part) → List Row → Rule → List Text → Type 0
Uses None rs a vs = use_fault false a vs rs ≡ [] → ⊥
Uses (Some ps) rs a vs = (use_fault false a vs rs ≡ []) × (used a vs rs ≡ rows_for ps)

value_use : (id : Text) (long : Option Text) (index : Option ℕ) (p : Part) (ps : List Part) → id_of p ≡ id → (b : Bool) → has_row id (rows_for ps) ≡ b
    → Uses (cond b None (Some (ps ++ p ∷ []))) (rows_for ps) (filled_value id long index) (value_in p ∷ [])
value_use id long index p ps e true h = λ f. no f
  where
    no : use_fault false (filled_value id long index) (value_in p ∷ []) (rows_for ps) ≡ [] → ⊥
    no f = let g = rw h at f in cc
value_use id long index p ps e false h = (
  rw h refl,
  fresh_use id (value_in p) (rows_for ps) h ∙ ap (λ (i : Text). rows_for ps ++ row_with CommandLine i (value_in p) ∷ []) (sym e) ∙ rows_more ps p,
)

pub word_use : (w : Text) (ps : List Part) → Uses (add (word w) ps) (rows_for ps) filled_word (w ∷ [])
word_use w ps = value_use (codes "command") None (Some 1) (word w) ps refl (has_row (codes "command") (rows_for ps)) refl

pub option_use : (n : Name) (t : Text) (ps : List Part) → Uses (add (valued n t) ps) (rows_for ps) (filled_option n) (t ∷ [])
option_use n t ps = value_use (name_text n) (Some (name_text n)) None (valued n t) ps refl (has_row (name_text n) (rows_for ps)) refl

pub report_use : (ps : List Part) → Uses (add report ps) (rows_for ps) filled_report []
report_use ps = go (has_row (codes "report") (rows_for ps)) refl
  where
    go : (b : Bool) → has_row (codes "report") (rows_for ps) ≡ b → Uses (cond b None (Some (ps ++ report ∷ []))) (rows_for ps) filled_report []
    go true h = λ f. no f
      where
        no : use_fault false filled_report [] (rows_for ps) ≡ [] → ⊥
        no f = let g = rw h at f in cc
    go false h = (rw h refl, fresh_use (codes "report") (codes "true") (rows_for ps) h ∙ rows_more ps report)

pub empty_use : (n : Name) (rs : List Row) → use_fault false (filled_option n) [] rs ≡ [] → ⊥
empty_use n rs f = cc
