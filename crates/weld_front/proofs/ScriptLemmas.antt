-- What a script is answered with, from what its program comes to.
use Rattle.std.proofs.Common.{◌≡◌, ℕ, List, [], ◌∷◌, ◌∙◌, ap, sym, subst, refl, inl, inr, Option, Some, Result, Ok, Err, IfOk, MatchOption}
use Rattle.weld_data.specs.Value.{Value}
use Rattle.weld_builders.specs.Outcome.{done, fault}
use Rattle.weld_tree.specs.TypeTree.{TypeTree}
use Rattle.weld_tree.specs.Program.{ProgramTree, loops}
use Rattle.weld_job.specs.Job.{Job}
use Rattle.weld_meaning.specs.Meaning.{ArgumentsFit, meaning}
use Rattle.weld_check_types.specs.Unnoted.{IsSameButNotes}
use Rattle.weld_check_types.specs.Notes.{ProgramIsNoted}
use Rattle.weld_share.specs.Counts.{IsNote}
use Rattle.weld_share.specs.declared.note.RunNote.{RunNote}
use Rattle.weld_script.specs.Script.{PlainScript}
use Rattle.weld_read_script.specs.Reading.{IsRead}
use Rattle.weld_read_script.specs.declared.read.ScriptFault.{ScriptFault}
use Rattle.weld_read_script.specs.declared.read.ScriptFault.TheVariants as faults
use Rattle.weld_session.specs.Answer.{IsGathered, shown_type}
use Rattle.weld_words.specs.declared.options.Options.{Options}
use Rattle.weld_front.specs.Concluding.{IsCounted, IsTold}
use Rattle.weld_front.specs.Sessions.{IsPastSizes, IsCountedOf, IsScriptReport, ScriptConcludes, ScriptAnswers, SessionAnswers, SoakAnswers, soak_script}
use Rattle.weld_script.specs.Soak.{soak_made, soak_shown, soak_table}
use Rattle.weld_front.specs.Texts.{fault_text, report_text, script_refusal_text, value_text}
use Rattle.weld_front.specs.declared.answer.Answer.{Answer}
use Rattle.weld_front.specs.declared.status.Status.{Status}
use Rattle.weld_front.specs.declared.status.Status.TheVariants.{Done, Fault, Words, Refused, Unfit, Read, Write, Memory}
use Rattle.weld_front.proofs.Noted.{NotesKnown, optimised_spelled, told_so, fit_length}

-- what runs in the place of the program with notes stands for the program
pub counted_of : NotesKnown → (m p : ProgramTree) (given : List Value) (cut : ℕ) (note : RunNote) → IsSameButNotes m p → IsCounted m given cut note → IsCountedOf p given cut note
counted_of known m p given cut note same c = record { ran = c.ran; stands = inl (optimised_spelled known c.ran m p same c.optimised); counted = c.counted }

pub counted_itself : (p : ProgramTree) (given : List Value) (cut : ℕ) (note : RunNote) → IsPastSizes p → IsNote p given cut note → IsCountedOf p given cut note
counted_itself p given cut note past c = record { ran = p; stands = inr (refl, past); counted = c }

-- the program with notes is the same but for them
pub noted_of : (p : ProgramTree) (r : Option ProgramTree) (m : ProgramTree) → r ≡ Some m → MatchOption r (IsPastSizes p) (λ n. IsSameButNotes n p × ProgramIsNoted n) → IsSameButNotes m p
noted_of p r m e h = (subst (λ (o : Option ProgramTree). MatchOption o (IsPastSizes p) (λ n. IsSameButNotes n p × ProgramIsNoted n)) e h).0

pub run_counted : {A E : Type 0} → NotesKnown → (m p : ProgramTree) (given : List Value) (cut : ℕ) (r : Result (A × RunNote) E) → IsSameButNotes m p → IfOk r (λ x. IsCounted m given cut x.1) → IfOk r (λ x. IsCountedOf p given cut x.1)
run_counted known m p given cut (Err e) same c = tt
run_counted known m p given cut (Ok x) same c = counted_of known m p given cut x.1 same c

pub run_counted_itself : {A E : Type 0} (p : ProgramTree) (given : List Value) (cut : ℕ) (r : Result (A × RunNote) E) → IsPastSizes p → IfOk r (λ x. IsNote p given cut x.1) → IfOk r (λ x. IsCountedOf p given cut x.1)
run_counted_itself p given cut (Err e) past c = tt
run_counted_itself p given cut (Ok x) past c = counted_itself p given cut x.1 past c

pub meant_as : NotesKnown → (m p : ProgramTree) (given : List Value) → IsSameButNotes m p → ArgumentsFit p.params given → meaning p given ≡ meaning m given
meant_as known m p given same fit = known.meant p m given (known.same p m (sym same)) (fit_length p.params given fit)

-- a value, with the script's report where one is wanted
pub script_concluded : {E : Type 0} (o : Options) (s : PlainScript) (vs : List Value) (p : ProgramTree) (given : List Value) (t : TypeTree) (v : Value) (note : RunNote) (n : ℕ) (r : Result Answer E)
    → IsGathered p given t s.made s.shown vs → n ≡ loops p.body → meaning p given ≡ done v → IsCountedOf p given o.cut note → IfOk r (λ a. a.status ≡ Done)
    → IfOk r (λ a. IsTold o.report (λ lines. lines ≡ report_text n note) (value_text t v) a.text) → IfOk r (λ a. ScriptConcludes o s vs a.status a.text)
script_concluded o s vs p given t v note n (Err e) g k m c st x = tt
script_concluded o s vs p given t v note n (Ok a) g k m c st x =
    let moved : IsTold o.report (λ lines. lines ≡ report_text n note) (value_text (shown_type s.made s.shown) v) a.text =
    subst (λ (u : TypeTree). IsTold o.report (λ lines. lines ≡ report_text n note) (value_text u v) a.text) g.shows x in
    let shown : IsGathered p given (shown_type s.made s.shown) s.made s.shown vs = subst (λ (u : TypeTree). IsGathered p given u s.made s.shown vs) g.shows g in
    subst (λ (z : Status). ScriptConcludes o s vs z a.text) (sym st) (
      v,
      sym g.means ∙ m,
      told_so o.report (λ lines. lines ≡ report_text n note) (IsScriptReport s vs o.cut) (value_text (shown_type s.made s.shown) v) a.text
          (λ lines h. record { program = p; given = given; gathered = shown; note = note; counted = c; told = h ∙ ap (λ (i : ℕ). report_text i note) (k ∙ g.loops) }) moved,
    )

pub script_faulted : {E : Type 0} (o : Options) (s : PlainScript) (vs : List Value) (p : ProgramTree) (given : List Value) (t : TypeTree) (r : Result Answer E)
    → IsGathered p given t s.made s.shown vs → meaning p given ≡ fault → IfOk r (λ a. a.status ≡ Fault) → IfOk r (λ a. a.text ≡ fault_text) → IfOk r (λ a. ScriptConcludes o s vs a.status a.text)
script_faulted o s vs p given t (Err e) g m st x = tt
script_faulted o s vs p given t (Ok a) g m st x = subst (λ (z : Status). ScriptConcludes o s vs z a.text) (sym st) (sym g.means ∙ m, x)

-- ---- sessions

pub session_refused : {E : Type 0} (o : Options) (job : Job) (f : ScriptFault) (r : Result Answer E) → IsRead job.text (Err f) → IfOk r (λ a. a.status ≡ Refused)
    → IfOk r (λ a. a.text ≡ script_refusal_text f) → IfOk r (λ a. f ≡ faults.Memory → ⊥) → IfOk r (λ a. SessionAnswers o job a.status a.text)
session_refused o job f (Err e) h s t n = tt
session_refused o job f (Ok a) h s t n = subst (λ (z : Status). SessionAnswers o job z a.text) (sym s) (f, n, h, t)

session_by : (o : Options) (job : Job) (s : PlainScript) (status : Status) (text : List ℕ) → IsRead job.text (Ok s) → ScriptAnswers o s job status text → SessionAnswers o job status text
session_by o job s Done text h a = (s, h, a)
session_by o job s Fault text h a = (s, h, a)
session_by o job s Unfit text h a = (s, h, a)
session_by o job s Refused text h (vs, fits, none) = absurd none
session_by o job s Words text h a = (s, h, a)
session_by o job s Read text h a = (s, h, a)
session_by o job s Write text h a = (s, h, a)
session_by o job s Memory text h a = (s, h, a)

pub session_answers : {E : Type 0} (o : Options) (job : Job) (s : PlainScript) (r : Result Answer E) → IsRead job.text (Ok s) → IfOk r (λ a. ScriptAnswers o s job a.status a.text) → IfOk r (λ a. SessionAnswers o job a.status a.text)
session_answers o job s (Err e) h a = tt
session_answers o job s (Ok x) h a = session_by o job s x.status x.text h a

-- ---- the made script

pub soak_concluded : {E : Type 0} (o : Options) (s : PlainScript) (vs : List Value) (r : Result Answer E) → s.made ≡ soak_made → s.shown ≡ soak_shown → vs ≡ soak_table o.seed o.rows ∷ []
    → IfOk r (λ a. ScriptConcludes o s vs a.status a.text) → IfOk r (λ a. SoakAnswers o a.status a.text)
soak_concluded o s vs (Err e) m n v h = tt
soak_concluded o s vs (Ok a) m n v h =
    let same : s ≡ soak_script = λ i. record { made = m i; shown = n i } in
    subst (λ (us : List Value). ScriptConcludes o soak_script us a.status a.text) v (subst (λ (t : PlainScript). ScriptConcludes o t vs a.status a.text) same h)
