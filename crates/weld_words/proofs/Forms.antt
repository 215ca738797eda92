-- What is read, in the words of the form.
use Rattle.std.proofs.Common.{inl, inr, ◌≡◌, ◌∙◌, ◌≤◌, ◌+◌, ℕ, zero, suc, pos, Bool, cond, true, false, refl, sym, ap, ap₂, subst, List, [], ◌∷◌, ◌++◌, length, Option, Some, None, arith}
use Rattle.std.specs.Prelude.{◌⊎◌, ◌||◌, codes, option_and_then, option_map, slice_get, find}
use Rattle.std.specs.Str.{bytes_eq}
use Rattle.clap.specs.Walk.{Row, has_row, first_of, one_of, row_text, rows_of}
use Rattle.clap.specs.Faults.{fault_of}
use Rattle.clap.specs.Simple.{matches_of}
use Rattle.clap.specs.Matches.{found_of, first_value, one_text}
use Rattle.clap.specs.declared.parser.matches.ArgMatches.{ArgMatches}
use Rattle.clap.specs.declared.parser.matches.ValueSource.TheVariants.{DefaultValue}
use Rattle.clap.proofs.WalkLemmas.{first_value-rows, one_text-rows}
use Rattle.weld_words.specs.declared.options.Command.{Command}
use Rattle.weld_words.specs.declared.options.Command.TheVariants as commands
use Rattle.weld_words.specs.declared.options.Options.{Options}
use Rattle.weld_words.specs.Line.{line}
use Rattle.weld_words.specs.Words.{Text, Name, workers, cut, seed, rows, name_text, Part, word, valued, report, AreWritten, words_in, values_of, reports_in, text_of, IsNumber, IsAsked, IsReported, IsForm}
use Rattle.weld_words.specs.Found.{IsOnly, Finds, Names, Asks, AllOf}
use Rattle.weld_words.proofs.Rows.{id_of, rows_for, row_with}
use Rattle.weld_words.proofs.Reading.{read, with_report, Reads, reads}
use Rattle.weld_words.proofs.Lexing.{AllMay, written_stand}
use Rattle.weld_words.proofs.Standing.{all_stand}
use Rattle.weld_words.proofs.Counts.{texts_at, Once, has_none, has_some, first_at, words_are, values_are, reports_are}
use Rattle.weld_words.proofs.Spelling.{reads_written}
use Rattle.weld_words.proofs.Complete.{written_reads}

-- ---- each name once

asked_once : (least most d n : ℕ) (ts : List Text) → IsAsked least most d ts n → length ts ≤ 1
asked_once least most d n [] h = omega arith
asked_once least most d n (t ∷ []) h = omega arith
asked_once least most d n (t ∷ u ∷ ts) h = absurd h

reported_once : (n : ℕ) (b : Bool) → IsReported n b → n ≤ 1
reported_once zero b h = omega arith
reported_once (suc zero) b h = omega arith
reported_once (suc (suc n)) b h = absurd h

abbrev Counted : List Part → Type 0
Counted ps = (length (words_in ps) ≤ 1) × ((n : Name) → length (values_of n ps) ≤ 1) × (reports_in ps ≤ 1)

counted_once : (ps : List Part) → Counted ps → Once ps
counted_once ps h (word w) = subst (λ (ts : List Text). length ts ≤ 1) (words_are ps) h.0
counted_once ps h (valued n t) = subst (λ (ts : List Text). length ts ≤ 1) (values_are n ps) (h.1 n)
counted_once ps h report = subst (λ (k : ℕ). k ≤ 1) (reports_are ps) h.2

form_counted : (ws : List Text) (o : Options) (f : IsForm ws o) → Counted f.parts
form_counted ws o f = (one, values, reported_once (reports_in f.parts) o.report f.report)
  where
    one : length (words_in f.parts) ≤ 1
    one = let e : length (words_in f.parts) ≡ 1 = ap length f.command in omega arith

    values : (n : Name) → length (values_of n f.parts) ≤ 1
    values workers = asked_once 1 64 4 o.workers (values_of workers f.parts) f.workers
    values cut = asked_once 1 2147483647 4096 o.cut (values_of cut f.parts) f.cut
    values seed = asked_once 0 2147483647 1 o.seed (values_of seed f.parts) f.seed
    values rows = asked_once 0 1000000 1000 o.rows (values_of rows f.parts) f.rows

-- words in form are read as their parts
form_read : (ws : List Text) (o : Options) (f : IsForm ws o) → read ws ≡ Some f.parts
form_read ws o f = written_reads f.parts ws f.written (counted_once f.parts (form_counted ws o f))

some_is : {X : Type 0} (a b : X) → Some a ≡ Some b → a ≡ b
some_is a b e = cc

-- ---- one reading

-- the command of a word, which shows that two commands are never one word
abbrev named : Text → Option Command
named t =
    cond (bytes_eq t (codes "run")) (Some commands.Run) (cond (bytes_eq t (codes "check")) (Some commands.Check)
    (cond (bytes_eq t (codes "show")) (Some commands.Show) (cond (bytes_eq t (codes "session")) (Some commands.Session) (Some commands.Soak))))

named_text : (c : Command) → named (text_of c) ≡ Some c
named_text commands.Run = refl
named_text commands.Check = refl
named_text commands.Show = refl
named_text commands.Session = refl
named_text commands.Soak = refl

head_is : (t u : Text) → t ∷ [] ≡ u ∷ [] → t ≡ u
head_is t u e = cc

one_command : (c d : Command) → text_of c ≡ text_of d → c ≡ d
one_command c d e = some_is c d (sym (named_text c) ∙ (ap named e ∙ named_text d))

pos_is : (n m : ℕ) → pos n ≡ pos m → n ≡ m
pos_is n m e = cc

one_number : (least most d n m : ℕ) (ts : List Text) → IsAsked least most d ts n → IsAsked least most d ts m → n ≡ m
one_number least most d n m [] h g = h ∙ sym g
one_number least most d n m (t ∷ []) h g = pos_is n m (sym h.value ∙ g.value)
one_number least most d n m (t ∷ u ∷ ts) h g = absurd h

one_report : (k : ℕ) (b c : Bool) → IsReported k b → IsReported k c → b ≡ c
one_report zero b c h g = h ∙ sym g
one_report (suc zero) b c h g = h ∙ sym g
one_report (suc (suc k)) b c h g = absurd h

abbrev options : Command → ℕ → ℕ → ℕ → ℕ → Bool → Options
options c w u s r b = record { command = c; workers = w; cut = u; report = b; seed = s; rows = r }

same_options : (o p : Options) → o.command ≡ p.command → o.workers ≡ p.workers → o.cut ≡ p.cut → o.seed ≡ p.seed → o.rows ≡ p.rows → o.report ≡ p.report → o ≡ p
same_options o p a b c d e f =
    ap (λ (x : Command). options x o.workers o.cut o.seed o.rows o.report) a
    ∙ (ap (λ (x : ℕ). options p.command x o.cut o.seed o.rows o.report) b
    ∙ (ap (λ (x : ℕ). options p.command p.workers x o.seed o.rows o.report) c
    ∙ (ap (λ (x : ℕ). options p.command p.workers p.cut x o.rows o.report) d
    ∙ (ap (λ (x : ℕ). options p.command p.workers p.cut p.seed x o.report) e
    ∙ ap (λ (x : Bool). options p.command p.workers p.cut p.seed p.rows x) f))))

pub one_form : (ws : List Text) (o p : Options) → IsForm ws o → IsForm ws p → o ≡ p
one_form ws o p f g =
    let parts : g.parts ≡ f.parts = some_is g.parts f.parts (sym (form_read ws p g) ∙ form_read ws o f) in
    same_options o p
    (one_command o.command p.command (head_is (text_of o.command) (text_of p.command) (sym f.command ∙ (ap words_in (sym parts) ∙ g.command))))
    (one_number 1 64 4 o.workers p.workers (values_of workers f.parts) f.workers (subst (λ (ps : List Part). IsAsked 1 64 4 (values_of workers ps) p.workers) parts g.workers))
    (one_number 1 2147483647 4096 o.cut p.cut (values_of cut f.parts) f.cut (subst (λ (ps : List Part). IsAsked 1 2147483647 4096 (values_of cut ps) p.cut) parts g.cut))
    (one_number 0 2147483647 1 o.seed p.seed (values_of seed f.parts) f.seed (subst (λ (ps : List Part). IsAsked 0 2147483647 1 (values_of seed ps) p.seed) parts g.seed))
    (one_number 0 1000000 1000 o.rows p.rows (values_of rows f.parts) f.rows (subst (λ (ps : List Part). IsAsked 0 1000000 1000 (values_of rows ps) p.rows) parts g.rows))
    (one_report (reports_in f.parts) o.report p.report f.report (subst (λ (ps : List Part). IsReported (reports_in ps) p.report) parts g.report))

-- ---- what clap finds

only : (ts : List Text) → length ts ≤ 1 → IsOnly ts (slice_get ts 0)
only [] h = refl
only (t ∷ []) h = refl
only (t ∷ u ∷ ts) h = absurd (omega arith)

first_before : (id : Text) (r : Row) (rs : List Row) → bytes_eq r.id id ≡ false → first_of id (rs ++ r ∷ []) ≡ first_of id rs
first_before id r [] e = ap (λ (b : Bool). option_and_then (λ (x : Row). slice_get x.values 0) (cond b (Some r) None)) e
first_before id r (q ∷ rs) e = go (first_before id r rs e) (bytes_eq q.id id)
  where
    go : first_of id (rs ++ r ∷ []) ≡ first_of id rs → (b : Bool)
        → option_and_then (λ (x : Row). slice_get x.values 0) (cond b (Some q) (find (λ (x : Row). bytes_eq x.id id) (rs ++ r ∷ []))) ≡ option_and_then (λ (x : Row). slice_get x.values 0) (cond b (Some q) (find (λ (x : Row). bytes_eq x.id id) rs))
    go ih true = refl
    go ih false = ih

abbrev default_row : Row
default_row = row_with DefaultValue (codes "report") (codes "false")

first_kept : (id : Text) (rs : List Row) → bytes_eq (codes "report") id ≡ false → first_of id (with_report rs) ≡ first_of id rs
first_kept id rs e = go (has_row (codes "report") rs)
  where
    go : (b : Bool) → first_of id (cond b rs (rs ++ default_row ∷ [])) ≡ first_of id rs
    go true = refl
    go false = first_before id default_row rs e

report_given : (ps : List Part) → has_row (codes "report") (rows_for ps) ≡ true → one_of (codes "report") (rows_for ps) ≡ Some (codes "true")
report_given [] h = absurd (let no : false ≡ true = h in cc)
report_given (word w ∷ ps) h = report_given ps h
report_given (valued workers t ∷ ps) h = report_given ps h
report_given (valued cut t ∷ ps) h = report_given ps h
report_given (valued seed t ∷ ps) h = report_given ps h
report_given (valued rows t ∷ ps) h = report_given ps h
report_given (report ∷ ps) h = refl

report_missing : (rs : List Row) → has_row (codes "report") rs ≡ false → one_of (codes "report") (rs ++ default_row ∷ []) ≡ Some (codes "false")
report_missing [] h = refl
report_missing (r ∷ rs) h = go (report_missing rs) (bytes_eq r.id (codes "report")) h
  where
    go : (has_row (codes "report") rs ≡ false → one_of (codes "report") (rs ++ default_row ∷ []) ≡ Some (codes "false")) → (b : Bool) → (b || has_row (codes "report") rs) ≡ false
        → option_and_then row_text (cond b (Some r) (find (λ (x : Row). bytes_eq x.id (codes "report")) (rs ++ default_row ∷ []))) ≡ Some (codes "false")
    go ih true e = absurd (let no : true ≡ false = e in cc)
    go ih false e = ih e

abbrev Reported : ℕ → Option Text → Type 0
Reported k t = ((k ≡ 1) × (t ≡ Some (codes "true"))) ⊎ ((k ≡ 0) × (t ≡ Some (codes "false")))

report_is : (ps : List Part) → Once ps → Reported (reports_in ps) (one_of (codes "report") (with_report (rows_for ps)))
report_is ps o = go (has_row (codes "report") (rows_for ps)) refl
  where
    go : (b : Bool) → has_row (codes "report") (rows_for ps) ≡ b → Reported (reports_in ps) (one_of (codes "report") (cond b (rows_for ps) (rows_for ps ++ default_row ∷ [])))
    go true h =
        let some : 1 ≤ length (texts_at (codes "report") ps) = has_some (codes "report") ps h in
        let once : length (texts_at (codes "report") ps) ≤ 1 = o report in
        let is : reports_in ps ≡ length (texts_at (codes "report") ps) = reports_are ps in
        inl (omega arith, report_given ps h)
    go false h = inr (reports_are ps ∙ ap length (has_none (codes "report") ps h), report_missing (rows_for ps) h)

value_found : (id : Text) (ps : List Part) (m : ArgMatches) → rows_of (found_of m) ≡ with_report (rows_for ps) → bytes_eq (codes "report") id ≡ false → length (texts_at id ps) ≤ 1 → IsOnly (texts_at id ps) (first_value (found_of m) id)
value_found id ps m e r h =
    let is : first_value (found_of m) id ≡ slice_get (texts_at id ps) 0 = first_value-rows (found_of m) id ∙ (ap (first_of id) e ∙ (first_kept id (rows_for ps) r ∙ first_at id ps)) in
    subst (IsOnly (texts_at id ps)) (sym is) (only (texts_at id ps) h)

not_report : (n : Name) → bytes_eq (codes "report") (name_text n) ≡ false
not_report workers = refl
not_report cut = refl
not_report seed = refl
not_report rows = refl

finds_parts : (ws : List Text) (ps : List Part) (m : ArgMatches) → AreWritten ps ws → Once ps → rows_of (found_of m) ≡ with_report (rows_for ps) → Finds ws m
finds_parts ws ps m h o e = record {
  parts = ps;
  written = h;
  word = subst (λ (ts : List Text). IsOnly ts (first_value (found_of m) (codes "command"))) (sym (words_are ps)) (value_found (codes "command") ps m e refl (o (word [])));
  value = λ n. subst (λ (ts : List Text). IsOnly ts (first_value (found_of m) (name_text n))) (sym (values_are n ps)) (value_found (name_text n) ps m e (not_report n) (o (valued n [])));
  report = subst (Reported (reports_in ps)) (sym (one_text-rows (found_of m) (codes "report") ∙ ap (one_of (codes "report")) e)) (report_is ps o);
}

pub finds : (ws : List Text) (m : ArgMatches) → AllMay ws → fault_of line ws ≡ [] → rows_of (found_of m) ≡ matches_of line ws → Finds ws m
finds ws m h f e = go (read ws) refl (reads ws (all_stand ws h))
  where
    go : (o : Option (List Part)) → read ws ≡ o → Reads o ws → Finds ws m
    go None r k = absurd (k f)
    go (Some ps) r k = let w : AreWritten ps ws × Once ps = reads_written ws (all_stand ws h) ps r in finds_parts ws ps m w.0 w.1 (e ∙ k.1)

-- words in form have no fault
pub form_has_no_fault : (ws : List Text) (o : Options) → IsForm ws o → fault_of line ws ≡ []
form_has_no_fault ws o f = go (read ws) (form_read ws o f) (reads ws (all_stand ws (written_stand f.parts ws f.written)))
  where
    go : (x : Option (List Part)) → x ≡ Some f.parts → Reads x ws → fault_of line ws ≡ []
    go None r k = cc
    go (Some ps) r k = k.0

pub form_stands : (ws : List Text) (o : Options) → IsForm ws o → AllMay ws
form_stands ws o f = written_stand f.parts ws f.written

-- ---- from what is found to the options

only_once : (ts : List Text) (t : Option Text) → IsOnly ts t → length ts ≤ 1
only_once ts None h = let e : length ts ≡ 0 = ap length h in omega arith
only_once ts (Some t) h = let e : length ts ≡ 1 = ap length h in omega arith

reported_count : (k : ℕ) (t : Option Text) → Reported k t → k ≤ 1
reported_count k t h = elim h [ inl e ↦ (let f : k ≡ 1 = e.0 in omega arith) | inr e ↦ (let f : k ≡ 0 = e.0 in omega arith) ]

found_counted : (ws : List Text) (m : ArgMatches) (f : Finds ws m) → Counted f.parts
found_counted ws m f = (only_once (words_in f.parts) (first_value (found_of m) (codes "command")) f.word, λ n. only_once (values_of n f.parts) (first_value (found_of m) (name_text n)) (f.value n), reported_count (reports_in f.parts) (one_text (found_of m) (codes "report")) f.report)

same_parts : (ws : List Text) (m : ArgMatches) (o : Options) (f : Finds ws m) (g : IsForm ws o) → f.parts ≡ g.parts
same_parts ws m o f g = some_is f.parts g.parts (sym (written_reads f.parts ws f.written (counted_once f.parts (found_counted ws m f))) ∙ form_read ws o g)

asked : (least most d n : ℕ) (ts : List Text) (t : Option Text) → IsOnly ts t → Asks least most d t (Some n) → IsAsked least most d ts n
asked least most d n ts None h a = subst (λ (x : List Text). IsAsked least most d x n) (sym h) a
asked least most d n ts (Some t) h a = subst (λ (x : List Text). IsAsked least most d x n) (sym h) a

not_asked : (least most d n : ℕ) (ts : List Text) (t : Option Text) → IsOnly ts t → Asks least most d t None → IsAsked least most d ts n → ⊥
not_asked least most d n ts None h a g = a
not_asked least most d n ts (Some t) h a g = a n (subst (λ (x : List Text). IsAsked least most d x n) h g)

word_asked : (ts : List Text) (t : Option Text) (c : Command) → IsOnly ts t → t ≡ Some (text_of c) → ts ≡ text_of c ∷ []
word_asked ts None c h e = cc
word_asked ts (Some t) c h e = h ∙ ap (λ (u : Text). u ∷ []) (some_is t (text_of c) e)

word_is : (ts : List Text) (t : Option Text) (c : Command) → IsOnly ts t → ts ≡ text_of c ∷ [] → t ≡ Some (text_of c)
word_is ts None c h e = absurd (let no : [] ≡ text_of c ∷ [] = sym h ∙ e in cc)
word_is ts (Some t) c h e = ap Some (head_is t (text_of c) (sym h ∙ e))

reported : (k : ℕ) (t : Option Text) (b : Bool) → Reported k t → (t ≡ Some (codes "true") → b ≡ true) → (t ≡ Some (codes "false") → b ≡ false) → IsReported k b
reported k t b h on off = elim h [
  | inl e ↦ subst (λ (n : ℕ). IsReported n b) (sym e.0) (on e.1)
  | inr e ↦ subst (λ (n : ℕ). IsReported n b) (sym e.0) (off e.1)
]

abbrev pub Value : ArgMatches → Name → Option Text
Value m n = first_value (found_of m) (name_text n)

pub formed : (ws : List Text) (m : ArgMatches) (o : Options) → Finds ws m → Names (first_value (found_of m) (codes "command")) (Some o.command)
    → Asks 1 64 4 (Value m workers) (Some o.workers) → Asks 1 2147483647 4096 (Value m cut) (Some o.cut) → Asks 0 2147483647 1 (Value m seed) (Some o.seed) → Asks 0 1000000 1000 (Value m rows) (Some o.rows)
    → (one_text (found_of m) (codes "report") ≡ Some (codes "true") → o.report ≡ true) → (one_text (found_of m) (codes "report") ≡ Some (codes "false") → o.report ≡ false) → IsForm ws o
formed ws m o f c w u s r on off = record {
  parts = f.parts;
  written = f.written;
  command = word_asked (words_in f.parts) (first_value (found_of m) (codes "command")) o.command f.word c;
  workers = asked 1 64 4 o.workers (values_of workers f.parts) (Value m workers) (f.value workers) w;
  cut = asked 1 2147483647 4096 o.cut (values_of cut f.parts) (Value m cut) (f.value cut) u;
  seed = asked 0 2147483647 1 o.seed (values_of seed f.parts) (Value m seed) (f.value seed) s;
  rows = asked 0 1000000 1000 o.rows (values_of rows f.parts) (Value m rows) (f.value rows) r;
  report = reported (reports_in f.parts) (one_text (found_of m) (codes "report")) o.report f.report on off;
}

-- one of the five isn't as it must be
pub data Misses (m : ArgMatches) : Type 0 where
  misses_word : Names (first_value (found_of m) (codes "command")) None → Misses m
  misses_workers : Asks 1 64 4 (Value m workers) None → Misses m
  misses_cut : Asks 1 2147483647 4096 (Value m cut) None → Misses m
  misses_seed : Asks 0 2147483647 1 (Value m seed) None → Misses m
  misses_rows : Asks 0 1000000 1000 (Value m rows) None → Misses m

pub unformed : (ws : List Text) (m : ArgMatches) → Finds ws m → Misses m → (o : Options) → IsForm ws o → ⊥
unformed ws m f h o g = go h
  where
    parts : f.parts ≡ g.parts
    parts = same_parts ws m o f g

    go : Misses m → ⊥
    go (misses_word x) = x o.command (word_is (words_in f.parts) (first_value (found_of m) (codes "command")) o.command f.word (ap words_in parts ∙ g.command))
    go (misses_workers x) = not_asked 1 64 4 o.workers (values_of workers f.parts) (Value m workers) (f.value workers) x (subst (λ (ps : List Part). IsAsked 1 64 4 (values_of workers ps) o.workers) (sym parts) g.workers)
    go (misses_cut x) = not_asked 1 2147483647 4096 o.cut (values_of cut f.parts) (Value m cut) (f.value cut) x (subst (λ (ps : List Part). IsAsked 1 2147483647 4096 (values_of cut ps) o.cut) (sym parts) g.cut)
    go (misses_seed x) = not_asked 0 2147483647 1 o.seed (values_of seed f.parts) (Value m seed) (f.value seed) x (subst (λ (ps : List Part). IsAsked 0 2147483647 1 (values_of seed ps) o.seed) (sym parts) g.seed)
    go (misses_rows x) = not_asked 0 1000000 1000 o.rows (values_of rows f.parts) (Value m rows) (f.value rows) x (subst (λ (ps : List Part). IsAsked 0 1000000 1000 (values_of rows ps) o.rows) (sym parts) g.rows)

-- ---- all five together

pub missed : (m : ArgMatches) (c : Option Command) (w u s r : Option ℕ) (b : Bool) → AllOf c w u s r b None → Names (first_value (found_of m) (codes "command")) c
    → Asks 1 64 4 (Value m workers) w → Asks 1 2147483647 4096 (Value m cut) u → Asks 0 2147483647 1 (Value m seed) s → Asks 0 1000000 1000 (Value m rows) r → Misses m
missed m c w u s r b (inl e) hc hw hu hs hr = misses_word (subst (Names (first_value (found_of m) (codes "command"))) e hc)
missed m c w u s r b (inr (inl e)) hc hw hu hs hr = misses_workers (subst (Asks 1 64 4 (Value m workers)) e hw)
missed m c w u s r b (inr (inr (inl e))) hc hw hu hs hr = misses_cut (subst (Asks 1 2147483647 4096 (Value m cut)) e hu)
missed m c w u s r b (inr (inr (inr (inl e)))) hc hw hu hs hr = misses_seed (subst (Asks 0 2147483647 1 (Value m seed)) e hs)
missed m c w u s r b (inr (inr (inr (inr e)))) hc hw hu hs hr = misses_rows (subst (Asks 0 1000000 1000 (Value m rows)) e hr)

pub all_formed : (ws : List Text) (m : ArgMatches) (o : Options) (c : Option Command) (w u s r : Option ℕ) (b : Bool) → Finds ws m → AllOf c w u s r b (Some o) → Names (first_value (found_of m) (codes "command")) c
    → Asks 1 64 4 (Value m workers) w → Asks 1 2147483647 4096 (Value m cut) u → Asks 0 2147483647 1 (Value m seed) s → Asks 0 1000000 1000 (Value m rows) r
    → (one_text (found_of m) (codes "report") ≡ Some (codes "true") → b ≡ true) → (one_text (found_of m) (codes "report") ≡ Some (codes "false") → b ≡ false) → IsForm ws o
all_formed ws m o c w u s r b f a hc hw hu hs hr on off =
    formed ws m o f (subst (Names (first_value (found_of m) (codes "command"))) a.0 hc) (subst (Asks 1 64 4 (Value m workers)) a.1 hw) (subst (Asks 1 2147483647 4096 (Value m cut)) a.2 hu)
    (subst (Asks 0 2147483647 1 (Value m seed)) a.3 hs) (subst (Asks 0 1000000 1000 (Value m rows)) a.4 hr) (λ e. a.5 ∙ on e) (λ e. a.5 ∙ off e)
