-- From the parts of a job to its bytes.
use Rattle.std.proofs.Common.{◌≡◌, ℕ, ◌+◌, ◌<◌, ◌≤◌, ◌++◌, ◌∙◌, ap, append_assoc, codes, ◌&&◌, if◌then◌else◌, Bool, true, false, List, [], ◌∷◌, length, Option, Some, None, Result, Ok, Err, IfOk, IfSome, sym, subst, refl}
use Rattle.std.specs.Bool.{MatchBool}
use Rattle.std.specs.Fmt.{decimal}
use Rattle.weld_tree.specs.Code.{code_text}
use Rattle.weld_tree.specs.declared.code.Code.{Code}
use Rattle.weld_tree.specs.declared.code.Code.TheVariants.{M1}
use Rattle.weld_tree.specs.declared.place.Place.{Place}
use Rattle.std.proofs.lemmas.Bool.{le-ltb, lt-ltb}
use Rattle.std.specs.Io.KnownBytes.{IsAtEnd}
use Rattle.weld_job.specs.Blocks.{job_of}
use Rattle.weld_job.specs.Reading.{job_limit, TakesJust}
use Rattle.weld_job.specs.Job.{Job}
use Rattle.weld_tree.specs.TypeTree.{TypeTree}
use Rattle.weld_tree.specs.Program.{ProgramTree}
use Rattle.weld_tree.specs.declared.refusal.Refusal.{Refusal}
use Rattle.weld_tree.specs.declared.refusal.Refusal.TheVariants as refusals
use Rattle.weld_front.specs.Accepting.{Accepts, IsCheckedOf, Refuses, RefusesOr}
use Rattle.weld_front.specs.Answer.{Answers, AnswersParts, CommandAnswers, RunAnswers, CheckAnswers, ShowAnswers, IsShown, ProgramConcludes, RefusalAnswers, job_bytes, ProgramAnswers, is_too_long, IsOfJob, Extent}
use Rattle.weld_data.specs.Value.{Value}
use Rattle.weld_builders.specs.Outcome.{Outcome, done}
use Rattle.weld_tree.specs.Program.{loops}
use Rattle.weld_meaning.specs.Meaning.{meaning}
use Rattle.weld_share.specs.declared.note.RunNote.{RunNote}
use Rattle.weld_read_script.specs.declared.read.ScriptFault.TheVariants as faults
use Rattle.weld_front.specs.Texts.{ok_text, refusal_text, report_text, script_refusal_text, value_text}
use Rattle.weld_front.specs.Asking.{reads_a_job}
use Rattle.weld_front.specs.Concluding.{IsCounted, IsReport, IsTold, Concludes}
use Rattle.weld_session.specs.Answer.{shown_type, script_answer}
use Rattle.weld_script.specs.Soak.{soak_made, soak_shown, soak_table}
use Rattle.weld_front.specs.Sessions.{SessionAnswers, SoakAnswers, IsScriptReport, soak_script}
use Rattle.weld_front.proofs.Noted.{NotesKnown, spelled_answers, shown_spelled, told_so}
use Rattle.weld_front.specs.declared.answer.Answer.{Answer}
use Rattle.weld_words.specs.declared.options.Options.{Options}
use Rattle.weld_words.specs.declared.options.Command.{Command}
use Rattle.weld_words.specs.declared.options.Command.TheVariants.{Run, Check, Show, Session, Soak}
use Rattle.weld_check_types.specs.Unnoted.{IsSameButNotes}
use Rattle.weld_parse.specs.Parses.{Parses}
use Rattle.weld_print.specs.Texts.{TextSpells}
use Rattle.weld_front.specs.declared.status.Status.{Status}
use Rattle.weld_front.specs.declared.status.Status.TheVariants.{Done, Fault, Words, Refused, Unfit, Read, Write, Memory}

within_by : (b : Bool) (P Q : Type 0) → b ≡ false → Q → MatchBool b P Q
within_by true P Q e q = absurd cc
within_by false P Q e q = q

both_false : (b c : Bool) → c ≡ false → (b && c) ≡ false
both_false true c e = e
both_false false c e = refl

both_true : (b c : Bool) → b ≡ true → c ≡ true → (b && c) ≡ true
both_true true c e f = f
both_true false c e f = absurd cc

over_by : (b : Bool) (P Q : Type 0) → b ≡ true → P → MatchBool b P Q
over_by true P Q e p = p
over_by false P Q e p = absurd cc

-- a job that isn't too long has the answer of its parts
pub parts_answer : (o : Options) (left : Option (List ℕ)) (job : Job) (status : Status) (text : List ℕ) → IfSome left (λ bytes. job ≡ job_of bytes) → IfSome left (λ bytes. length bytes ≤ job_limit) → AnswersParts o job status text → IfSome left (λ bytes. Answers o bytes status text)
parts_answer o None job status text e l a = tt
parts_answer o (Some bytes) job status text e l a =
    within_by (reads_a_job o.command && is_too_long bytes) _ (AnswersParts o (job_of bytes) status text)
    (both_false (reads_a_job o.command) (is_too_long bytes) (le-ltb job_limit (length bytes) l)) (subst (λ (j : Job). AnswersParts o j status text) e a)

-- one that is too long is refused, where it is read
pub long_answer : {E : Type 0} (o : Options) (left : Option (List ℕ)) (r : Result Answer E) → reads_a_job o.command ≡ true → IfSome left (λ bytes. job_limit < length bytes)
    → IfOk r (λ a. a.status ≡ Refused) → IfOk r (λ a. a.text ≡ refusal_text (refusals.Size M1)) → IfOk r (λ a. IfSome left (λ bytes. Answers o bytes a.status a.text))
long_answer o left (Err e) reads l s x = tt
long_answer o None (Ok a) reads l s x = tt
long_answer o (Some bytes) (Ok a) reads l s x =
    over_by (reads_a_job o.command && is_too_long bytes) _ (AnswersParts o (job_of bytes) a.status a.text)
    (both_true (reads_a_job o.command) (is_too_long bytes) reads (lt-ltb job_limit (length bytes) l)) (s, x)

-- what is read is the job that is asked for
read_bytes_by : (o : Options) (b : Bool) (left : Option (List ℕ)) → b ≡ true → (if b then left else Some []) ≡ left
read_bytes_by o true left e = refl
read_bytes_by o false left e = absurd cc

pub read_bytes : {E : Type 0} (o : Options) (left : Option (List ℕ)) (r : Result Answer E) → reads_a_job o.command ≡ true → IfOk r (λ a. IfSome left (λ bytes. Answers o bytes a.status a.text)) → IfOk r (λ a. IfSome (job_bytes o left) (λ bytes. Answers o bytes a.status a.text))
read_bytes o left (Err e) reads h = tt
read_bytes o left (Ok a) reads h =
    subst (λ (l : Option (List ℕ)). IfSome l (λ bytes. Answers o bytes a.status a.text)) (sym (read_bytes_by o (reads_a_job o.command) left reads)) h

soak_parts : (c : Command) (o : Options) (job : Job) (status : Status) (text : List ℕ) → reads_a_job c ≡ false → SoakAnswers o status text → CommandAnswers c o job status text
soak_parts Run o job status text e h = absurd cc
soak_parts Check o job status text e h = absurd cc
soak_parts Show o job status text e h = absurd cc
soak_parts Session o job status text e h = absurd cc
soak_parts Soak o job status text e h = h

first_false : (b c : Bool) → b ≡ false → (b && c) ≡ false
first_false true c e = absurd cc
first_false false c e = refl

soak_answers : (o : Options) (bytes : List ℕ) (status : Status) (text : List ℕ) → reads_a_job o.command ≡ false → SoakAnswers o status text → Answers o bytes status text
soak_answers o bytes status text reads h =
    within_by (reads_a_job o.command && is_too_long bytes) _ (AnswersParts o (job_of bytes) status text)
    (first_false (reads_a_job o.command) (is_too_long bytes) reads) (soak_parts o.command o (job_of bytes) status text reads h)

if_some_all : (left : Option (List ℕ)) (P : List ℕ → Type 0) → ((bytes : List ℕ) → P bytes) → IfSome left P
if_some_all None P f = tt
if_some_all (Some bytes) P f = f bytes

pub soak_bytes : {E : Type 0} (o : Options) (left : Option (List ℕ)) (r : Result Answer E) → reads_a_job o.command ≡ false → IfOk r (λ a. SoakAnswers o a.status a.text) → IfOk r (λ a. IfSome (job_bytes o left) (λ bytes. Answers o bytes a.status a.text))
soak_bytes o left (Err e) reads h = tt
soak_bytes o left (Ok a) reads h = if_some_all (job_bytes o left) (λ bytes. Answers o bytes a.status a.text) (λ bytes. soak_answers o bytes a.status a.text reads h)

-- ---- the answers by the parts

-- a refusal that isn't want of memory
refuses_of : (text : List ℕ) (r : Refusal) → RefusesOr text r → (r ≡ refusals.Memory → ⊥) → Refuses text r
refuses_of text (refusals.At c p) h n = h
refuses_of text (refusals.Size c) h n = h
refuses_of text refusals.Memory h n = absurd (n refl)

refusal_answers : (job : Job) (refusal : Refusal) (text : List ℕ) → RefusesOr job.text refusal → (refusal ≡ refusals.Memory → ⊥) → text ≡ refusal_text refusal → RefusalAnswers job text
refusal_answers job refusal text r n t = (refusal, refuses_of job.text refusal r n, t)

pub run_refused : {E : Type 0} (o : Options) (job : Job) (refusal : Refusal) (r : Result Answer E) → RefusesOr job.text refusal → IfOk r (λ a. a.status ≡ Refused) → IfOk r (λ a. a.text ≡ refusal_text refusal) → IfOk r (λ a. refusal ≡ refusals.Memory → ⊥) → IfOk r (λ a. RunAnswers o job a.status a.text)
run_refused o job refusal (Err e) h s t n = tt
run_refused o job refusal (Ok a) h s t n = subst (λ (x : Status). RunAnswers o job x a.text) (sym s) (refusal_answers job refusal a.text h n t)

pub check_refused : {E : Type 0} (job : Job) (refusal : Refusal) (r : Result Answer E) → RefusesOr job.text refusal → IfOk r (λ a. a.status ≡ Refused) → IfOk r (λ a. a.text ≡ refusal_text refusal) → IfOk r (λ a. refusal ≡ refusals.Memory → ⊥) → IfOk r (λ a. CheckAnswers job a.status a.text)
check_refused job refusal (Err e) h s t n = tt
check_refused job refusal (Ok a) h s t n = subst (λ (x : Status). CheckAnswers job x a.text) (sym s) (refusal_answers job refusal a.text h n t)

run_by : (o : Options) (job : Job) (p : ProgramTree) (t : TypeTree) (status : Status) (text : List ℕ) → Accepts job.text p t → ProgramAnswers o p t job status text → RunAnswers o job status text
run_by o job p t Done text h a = (p, t, h, a)
run_by o job p t Fault text h a = (p, t, h, a)
run_by o job p t Unfit text h a = (p, t, h, a)
run_by o job p t Refused text h (vs, fits, none) = absurd none
run_by o job p t Words text h a = (p, t, h, a)
run_by o job p t Read text h a = (p, t, h, a)
run_by o job p t Write text h a = (p, t, h, a)
run_by o job p t Memory text h a = (p, t, h, a)

pub run_answers : {E : Type 0} (o : Options) (job : Job) (p : ProgramTree) (t : TypeTree) (r : Result Answer E) → NotesKnown → IsCheckedOf job.text p t → IfOk r (λ a. ProgramAnswers o p t job a.status a.text) → IfOk r (λ a. RunAnswers o job a.status a.text)
run_answers o job p t (Err e) known h a = tt
run_answers o job p t (Ok x) known h a = run_by o job h.spelled t x.status x.text h.accepts (spelled_answers known o p h.spelled t job x.status x.text h.same a)

-- what `show` answers
pub show_refused : {E : Type 0} (job : Job) (refusal : Refusal) (r : Result Answer E) → RefusesOr job.text refusal → IfOk r (λ a. a.status ≡ Refused) → IfOk r (λ a. a.text ≡ refusal_text refusal) → IfOk r (λ a. refusal ≡ refusals.Memory → ⊥) → IfOk r (λ a. ShowAnswers job a.status a.text)
show_refused job refusal (Err e) h s t n = tt
show_refused job refusal (Ok a) h s t n = subst (λ (x : Status). ShowAnswers job x a.text) (sym s) (refusal_answers job refusal a.text h n t)

pub text_spells : (text : List ℕ) (p : ProgramTree) → Parses text p → TextSpells text p
text_spells text p h = record { tokens = h.tokens; are_tokens = h.reads.tokens_of; spells = h.spells }

pub show_answers : {E : Type 0} (job : Job) (p : ProgramTree) (t : TypeTree) (r : Result Answer E) → NotesKnown → IsCheckedOf job.text p t → IfOk r (λ a. a.status ≡ Done)
    → IfOk r (λ a. (text : List ℕ) (s : ProgramTree) → TextSpells text s → IsSameButNotes s p → IsShown p a.text) → IfOk r (λ a. ShowAnswers job a.status a.text)
show_answers job p t (Err e) known h s x = tt
show_answers job p t (Ok a) known h s x =
    subst (λ (z : Status). ShowAnswers job z a.text) (sym s)
    (h.spelled, t, h.accepts, shown_spelled known p h.spelled a.text h.same (x job.text h.spelled (text_spells job.text h.spelled h.accepts.parses) (sym h.same)))

pub check_answers : {E : Type 0} (job : Job) (p : ProgramTree) (t : TypeTree) (r : Result Answer E) → IsCheckedOf job.text p t → IfOk r (λ a. a.status ≡ Done) → IfOk r (λ a. a.text ≡ ok_text t) → IfOk r (λ a. CheckAnswers job a.status a.text)
check_answers job p t (Err e) h s x = tt
check_answers job p t (Ok a) h s x = subst (λ (z : Status). CheckAnswers job z a.text) (sym s) (h.spelled, t, h.accepts, x)

-- a value, with its report where one is wanted
pub concluded_so : {E : Type 0} (o : Options) (p : ProgramTree) (t : TypeTree) (vs : List Value) (v : Value) (note : RunNote) (n : ℕ) (r : Result Answer E)
    → n ≡ loops p.body → meaning p vs ≡ done v → IsCounted p vs o.cut note → IfOk r (λ a. a.status ≡ Done)
    → IfOk r (λ a. IsTold o.report (λ lines. lines ≡ report_text n note) (value_text t v) a.text) → IfOk r (λ a. ProgramConcludes o p t vs a.status a.text)
concluded_so o p t vs v note n (Err e) k m c s x = tt
concluded_so o p t vs v note n (Ok a) k m c s x =
    subst (λ (z : Status). ProgramConcludes o p t vs z a.text) (sym s) (
      v,
      m,
      told_so o.report (λ lines. lines ≡ report_text n note) (IsReport p vs o.cut) (value_text t v) a.text
          (λ lines h. record { note = note; counted = c; told = h ∙ ap (λ (i : ℕ). report_text i note) k }) x,
    )

-- ---- statuses, and how far the input was read

run_of_job : (o : Options) (job : Job) (status : Status) (text : List ℕ) → RunAnswers o job status text → IsOfJob status
run_of_job o job Done text a = tt
run_of_job o job Fault text a = tt
run_of_job o job Refused text a = tt
run_of_job o job Unfit text a = tt
run_of_job o job Words text (p, t, h, (vs, f, none)) = none
run_of_job o job Read text (p, t, h, (vs, f, none)) = none
run_of_job o job Write text (p, t, h, (vs, f, none)) = none
run_of_job o job Memory text (p, t, h, (vs, f, none)) = none

check_of_job : (job : Job) (status : Status) (text : List ℕ) → CheckAnswers job status text → IsOfJob status
check_of_job job Done text a = tt
check_of_job job Fault text a = tt
check_of_job job Refused text a = tt
check_of_job job Unfit text a = tt
check_of_job job Words text a = a
check_of_job job Read text a = a
check_of_job job Write text a = a
check_of_job job Memory text a = a

show_of_job : (job : Job) (status : Status) (text : List ℕ) → ShowAnswers job status text → IsOfJob status
show_of_job job Done text a = tt
show_of_job job Fault text a = tt
show_of_job job Refused text a = tt
show_of_job job Unfit text a = tt
show_of_job job Words text a = a
show_of_job job Read text a = a
show_of_job job Write text a = a
show_of_job job Memory text a = a

concludes_of_job : (b : Bool) (P : List ℕ → Type 0) (t : TypeTree) (u : Outcome Value) (status : Status) (text : List ℕ) → Concludes b P t u status text → IsOfJob status
concludes_of_job b P t u Done text h = tt
concludes_of_job b P t u Fault text h = tt
concludes_of_job b P t u Refused text h = tt
concludes_of_job b P t u Unfit text h = tt
concludes_of_job b P t u Words text h = h
concludes_of_job b P t u Read text h = h
concludes_of_job b P t u Write text h = h
concludes_of_job b P t u Memory text h = h

session_of_job : (o : Options) (job : Job) (status : Status) (text : List ℕ) → SessionAnswers o job status text → IsOfJob status
session_of_job o job Done text a = tt
session_of_job o job Fault text a = tt
session_of_job o job Refused text a = tt
session_of_job o job Unfit text a = tt
session_of_job o job Words text (s, h, (vs, f, none)) = none
session_of_job o job Read text (s, h, (vs, f, none)) = none
session_of_job o job Write text (s, h, (vs, f, none)) = none
session_of_job o job Memory text (s, h, (vs, f, none)) = none

soak_status : (o : Options) (status : Status) (text : List ℕ) → SoakAnswers o status text → IsOfJob status
soak_status o status text h =
    let vs : List Value = soak_table o.seed o.rows ∷ [] in
    concludes_of_job o.report (IsScriptReport soak_script vs o.cut) (shown_type soak_made soak_shown) (script_answer soak_made soak_shown vs) status text h

pub soak_of_job : {E : Type 0} (o : Options) (r : Result Answer E) → IfOk r (λ a. SoakAnswers o a.status a.text) → IfOk r (λ a. IsOfJob a.status)
soak_of_job o (Err e) h = tt
soak_of_job o (Ok a) h = soak_status o a.status a.text h

command_of_job : (c : Command) (o : Options) (job : Job) (status : Status) (text : List ℕ) → CommandAnswers c o job status text → IsOfJob status
command_of_job Run o job status text a = run_of_job o job status text a
command_of_job Check o job status text a = check_of_job job status text a
command_of_job Show o job status text a = show_of_job job status text a
command_of_job Session o job status text a = session_of_job o job status text a
command_of_job Soak o job status text a = soak_status o status text a

pub parts_status : {E : Type 0} (o : Options) (job : Job) (r : Result Answer E) → IfOk r (λ a. AnswersParts o job a.status a.text) → IfOk r (λ a. IsOfJob a.status)
parts_status o job (Err e) h = tt
parts_status o job (Ok a) h = command_of_job o.command o job a.status a.text h

pub within_extent : (old new : Option (List ℕ)) → IfSome old (λ bytes. length bytes ≤ job_limit) → IfSome old (λ _. IsAtEnd new) → Extent old new
within_extent None new l e = tt
within_extent (Some bytes) new l e = within_by (is_too_long bytes) (TakesJust (job_limit + 1) (Some bytes) new) (IsAtEnd new) (le-ltb job_limit (length bytes) l) e

pub over_extent : (old new : Option (List ℕ)) → IfSome old (λ bytes. job_limit < length bytes) → TakesJust (job_limit + 1) old new → Extent old new
over_extent None new l e = tt
over_extent (Some bytes) new l e = over_by (is_too_long bytes) (TakesJust (job_limit + 1) (Some bytes) new) (IsAtEnd new) (lt-ltb job_limit (length bytes) l) e

-- seven parts, one behind the other
seven : (r l a n o m z : List ℕ) → (((((r ++ l) ++ a) ++ n) ++ o) ++ m) ++ z ≡ r ++ (l ++ (a ++ (n ++ (o ++ (m ++ z)))))
seven r l a n o m z =
    append_assoc ((((r ++ l) ++ a) ++ n) ++ o) m z
    ∙ append_assoc (((r ++ l) ++ a) ++ n) o (m ++ z)
    ∙ append_assoc ((r ++ l) ++ a) n (o ++ (m ++ z))
    ∙ append_assoc (r ++ l) a (n ++ (o ++ (m ++ z)))
    ∙ append_assoc r l (a ++ (n ++ (o ++ (m ++ z))))

-- a script's refusal with its line
six : (r l a n o z : List ℕ) → ((((r ++ l) ++ a) ++ n) ++ o) ++ z ≡ r ++ (l ++ (a ++ (n ++ (o ++ z))))
six r l a n o z =
    append_assoc (((r ++ l) ++ a) ++ n) o z
    ∙ append_assoc ((r ++ l) ++ a) n (o ++ z)
    ∙ append_assoc (r ++ l) a (n ++ (o ++ z))
    ∙ append_assoc r l (a ++ (n ++ (o ++ z)))

pub line_text : (code : Code) (number : ℕ) (letters text : List ℕ) → letters ≡ code_text code
    → text ≡ codes "refused " ++ (letters ++ (codes " at " ++ (decimal number ++ codes ":1\n")))
    → text ≡ script_refusal_text (faults.At code number)
line_text code number letters text e h =
    h ∙ sym (six (codes "refused ") letters (codes " at ") (decimal number) (codes ":1") (10 ∷ []))
    ∙ ap (λ (t : List ℕ). ((((codes "refused " ++ t) ++ codes " at ") ++ decimal number) ++ codes ":1") ++ 10 ∷ []) e

-- a refusal's text with its place
pub placed_text : (code : Code) (place : Place) (letters text : List ℕ) → letters ≡ code_text code
    → text ≡ codes "refused " ++ (letters ++ (codes " at " ++ (decimal place.line ++ (codes ":" ++ (decimal place.column ++ 10 ∷ [])))))
    → text ≡ refusal_text (refusals.At code place)
placed_text code place letters text e h =
    h ∙ sym (seven (codes "refused ") letters (codes " at ") (decimal place.line) (codes ":") (decimal place.column) (10 ∷ []))
    ∙ ap (λ (t : List ℕ). (((((codes "refused " ++ t) ++ codes " at ") ++ decimal place.line) ++ codes ":") ++ decimal place.column) ++ 10 ∷ []) e
