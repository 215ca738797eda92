-- Each list of bytes has an answer.
use Rattle.std.proofs.Common.{◌≡◌, ◌≢◌, ℕ, ◌≤◌, ◌⊎◌, ◌++◌, ◌&&◌, inl, inr, Bool, true, false, List, [], ◌∷◌, Option, Some, None, Ok, Err, sym, ap, subst, refl}
use Rattle.std.specs.Bool.{MatchBool}
use Rattle.weld_data.specs.Value.{Value}
use Rattle.weld_builders.specs.Outcome.{Outcome, done, fault, stuck}
use Rattle.weld_tree.specs.TypeTree.{TypeTree}
use Rattle.weld_tree.specs.Program.{ProgramTree, IsProgram, loops}
use Rattle.weld_tree.specs.declared.binder.Binder.{Binder}
use Rattle.weld_tree.specs.declared.code.Code.{Code}
use Rattle.weld_tree.specs.declared.code.Code.TheVariants as codes_of
use Rattle.weld_tree.specs.declared.place.Place.{Place}
use Rattle.weld_tree.specs.declared.refusal.Refusal.{Refusal}
use Rattle.weld_tree.specs.declared.refusal.Refusal.TheVariants.{At, Size}
use Rattle.weld_tree.specs.HasValue.{HasValue}
use Rattle.weld_types.specs.Walk.{Found, found, refused, refusal_of, program_type}
use Rattle.weld_meaning.specs.LinearWalk.{linear_refusal}
use Rattle.weld_meaning.specs.Accepted.{IsAccepted}
use Rattle.weld_meaning.specs.Typing.{ParamsFit, ProgramHas}
use Rattle.weld_meaning.specs.Meaning.{GivesOrFaults, ArgumentsFit, meaning}
use Rattle.weld_job.specs.Blocks.{job_of}
use Rattle.weld_job.specs.Job.{Job}
use Rattle.weld_parse.specs.Parses.{Parses, IsRefused}
use Rattle.weld_inputs.specs.Arguments.{Arguments, IsUnfit}
use Rattle.weld_script.specs.declared.made.Declared.{Declared}
use Rattle.weld_script.specs.declared.made.Made.{Made}
use Rattle.weld_script.specs.Script.{PlainScript, IsScript, AreMade, AreDeclared, AreInputs, declared_of}
use Rattle.weld_read_script.specs.Reading.{IsRead}
use Rattle.weld_read_script.specs.declared.read.ScriptFault.{ScriptFault}
use Rattle.weld_read_script.specs.declared.read.ScriptFault.TheVariants as faults
use Rattle.weld_inputs.specs.Inputs as of_script
use Rattle.weld_session.specs.Answer.{MayBeGathered, loops_from, reached, shown_type, script_answer}
use Rattle.weld_script.specs.Soak.{soak_made, soak_shown, soak_table}
use Rattle.weld_share.specs.declared.note.RunNote.{RunNote}
use Rattle.weld_front.specs.Accepting.{Accepts, Says, Refuses}
use Rattle.weld_words.specs.declared.options.Options.{Options}
use Rattle.weld_words.specs.declared.options.Command.{Command}
use Rattle.weld_words.specs.declared.options.Command.TheVariants.{Run, Check, Show, Session, Soak}
use Rattle.weld_front.specs.Concluding.{IsReport, IsTold}
use Rattle.weld_front.specs.Sessions.{IsCountedOf, IsScriptReport, ScriptConcludes, SessionAnswers, SoakAnswers, soak_script}
use Rattle.weld_front.specs.Answer.{Answers, AnswersParts, CommandAnswers, RunAnswers, CheckAnswers, ShowAnswers, is_too_long}
use Rattle.weld_front.specs.Asking.{reads_a_job}
use Rattle.weld_front.proofs.Noted.{NotesKnown, optimised_spelled, shown_spelled}
use Rattle.weld_front.proofs.Counting.{note_exists}
use Rattle.weld_passes.specs.Normal.{HasNormalForm, CanBeOptimised}
use Rattle.weld_print.specs.PrintText.{program_text}
use Rattle.weld_front.specs.Texts.{line, value_text, ok_text, fault_text, unfit_text, refusal_text, report_text, script_refusal_text}
use Rattle.weld_front.specs.declared.status.Status.{Status}
use Rattle.weld_front.specs.declared.status.Status.TheVariants.{Done, Fault, Refused, Unfit}

-- what is known of all texts, data and programs
pub record EachKnown : Type 0 where
  pub text : (text : List ℕ) → ((p : ProgramTree) × Parses text p) ⊎ ((r : Refusal) × IsRefused text r)
  pub typed : (text : List ℕ) (p : ProgramTree) (t : TypeTree) → Parses text p → program_type p ≡ found t → ProgramHas p t
  pub data_of : (ps : List Binder) (job : Job) → ParamsFit ps → ((vs : List Value) × Arguments ps job vs) ⊎ ((n : ℕ) × (c : Code) × IsUnfit ps job n c)
  pub fit : (ps : List Binder) (job : Job) (vs : List Value) → ParamsFit ps → Arguments ps job vs → ArgumentsFit ps vs
  pub notes : NotesKnown
  pub normal : (text : List ℕ) (p : ProgramTree) (t : TypeTree) → Accepts text p t → HasNormalForm p
  pub never_stuck : (p : ProgramTree) (t : TypeTree) (vs : List Value) → ProgramHas p t → ArgumentsFit p.params vs → GivesOrFaults (HasValue t) (meaning p vs)
  pub script : (text : List ℕ) → ((s : PlainScript) × IsRead text (Ok s)) ⊎ ((e : ScriptFault) × (e ≢ faults.Memory) × IsRead text (Err e))
  pub is_script : (text : List ℕ) (s : PlainScript) → IsRead text (Ok s) → IsScript s.made s.shown
  pub declared : (ms : List Made) → AreMade [] ms → AreDeclared (declared_of ms)
  pub inputs_of : (ds : List Declared) (job : Job) → AreDeclared ds → ((vs : List Value) × of_script.Inputs ds job vs) ⊎ ((n : ℕ) × (c : Code) × of_script.IsUnfit ds job n c)
  pub inputs_fit : (ds : List Declared) (job : Job) (vs : List Value) → AreDeclared ds → of_script.Inputs ds job vs → AreInputs ds vs
  pub gathered : (made : List Made) (shown : List ℕ) (inputs : List Value) → IsScript made shown → AreInputs (declared_of made) inputs → MayBeGathered made shown inputs
  pub optimisable : (p : ProgramTree) (t : TypeTree) → IsProgram p.params p.body → IsAccepted p → program_type p ≡ found t → CanBeOptimised p
  pub soak : IsScript soak_made soak_shown
  pub soak_fits : (seed rows : ℕ) → AreInputs (declared_of soak_made) (soak_table seed rows ∷ [])

-- a text is accepted, or refused for something
data Judged (text : List ℕ) : Type 0 where
  accepted : (p : ProgramTree) (t : TypeTree) → Accepts text p t → Judged text
  turned_down : (r : Refusal) → Refuses text r → Judged text

linear_judged : (text : List ℕ) (p : ProgramTree) (t : TypeTree) (o : Option (Code × Place)) → Parses text p → program_type p ≡ found t → linear_refusal p ≡ o → Judged text
linear_judged text p t None h e f = accepted p t (record { parses = h; typed = e; linear = f })
linear_judged text p t (Some at) h e f =
    turned_down (At at.0 at.1) (inr (inr (record { program = p; type = t; parses = h; typed = e; says = subst (λ (o : Option (Code × Place)). Says o (At at.0 at.1)) (sym f) refl })))

typed_judged : (text : List ℕ) (p : ProgramTree) (o : Found TypeTree) → Parses text p → program_type p ≡ o → Judged text
typed_judged text p (found t) h e = linear_judged text p t (linear_refusal p) h e refl
typed_judged text p (refused c place) h e =
    turned_down (At c place) (inr (inl (record { program = p; parses = h; says = subst (λ (o : Option (Code × Place)). Says o (At c place)) (sym (ap refusal_of e)) refl })))

judged : EachKnown → (text : List ℕ) → Judged text
judged known text = by (known.text text)
  where
    by : ((p : ProgramTree) × Parses text p) ⊎ ((r : Refusal) × IsRefused text r) → Judged text
    by (inl (p, h)) = typed_judged text p (program_type p) h refl
    by (inr (r, h)) = turned_down r (inl h)

-- ---- the answer

abbrev Answered : (Status → List ℕ → Type 0) → Type 0
Answered P = (status : Status) × (text : List ℕ) × P status text

-- the text with its report, where one is wanted
told_some : (b : Bool) (P : List ℕ → Type 0) (x : List ℕ) → (lines : List ℕ) × P lines → (text : List ℕ) × IsTold b P x text
told_some true P x (lines, h) = (x ++ lines, (lines, h, refl))
told_some false P x h = (x, refl)

-- a report of a run of the normal form
report_some : EachKnown → (text : List ℕ) (p : ProgramTree) (t : TypeTree) (vs : List Value) (cut : ℕ) → 1 ≤ cut → Accepts text p t → (lines : List ℕ) × IsReport p vs cut lines
report_some known text p t vs cut c a =
    let form = known.normal text p t a in
    let note = note_exists form.normal vs cut c in (
      report_text (loops p.body) note.0,
      record {
        note = note.0;
        counted = record { ran = form.normal; optimised = optimised_spelled known.notes form.normal form.noted p form.same form.optimised; counted = note.1 };
        told = refl;
      },
    )

concluded : EachKnown → (o : Options) (job : Job) (p : ProgramTree) (t : TypeTree) (vs : List Value) (u : Outcome Value) → 1 ≤ o.cut → Accepts job.text p t → Arguments p.params job vs → meaning p vs ≡ u → GivesOrFaults (HasValue t) u → Answered (RunAnswers o job)
concluded known o job p t vs (done v) c a d e g =
    let told = told_some o.report (IsReport p vs o.cut) (value_text t v) (report_some known job.text p t vs o.cut c a) in
    (Done, told.0, (p, t, a, (vs, d, (v, e, told.1))))
concluded known o job p t vs fault c a d e g = (Fault, fault_text, (p, t, a, (vs, d, (e, refl))))
concluded known o job p t vs stuck c a d e g = absurd g

program_answered : EachKnown → (o : Options) (job : Job) (p : ProgramTree) (t : TypeTree) → 1 ≤ o.cut → Accepts job.text p t → Answered (RunAnswers o job)
program_answered known o job p t c a =
    let has : ProgramHas p t = known.typed job.text p t a.parses a.typed in by has (known.data_of p.params job has.params)
  where
    by : ProgramHas p t → ((vs : List Value) × Arguments p.params job vs) ⊎ ((n : ℕ) × (c : Code) × IsUnfit p.params job n c) → Answered (RunAnswers o job)
    by has (inl (vs, d)) = concluded known o job p t vs (meaning p vs) c a d refl (known.never_stuck p t vs has (known.fit p.params job vs has.params d))
    by has (inr (n, k, u)) = (Unfit, unfit_text n k, (p, t, a, (n, k, u, refl)))

run_answered : EachKnown → (o : Options) (job : Job) → 1 ≤ o.cut → Judged job.text → Answered (RunAnswers o job)
run_answered known o job c (accepted p t a) = program_answered known o job p t c a
run_answered known o job c (turned_down f h) = (Refused, refusal_text f, (f, h, refl))

show_answered : EachKnown → (job : Job) → Judged job.text → Answered (ShowAnswers job)
show_answered known job (accepted p t a) =
    let form = known.normal job.text p t a in
    let text : List ℕ = line (program_text form.normal) in (
      Done,
      text,
      (
        p,
        t,
        a,
        shown_spelled known.notes form.noted p text form.same (record {
          shown = form.normal;
          optimised = form.optimised;
          told = refl;
          read = form.read;
          spelled = form.spelled;
          same = form.reads_back;
        }),
      ),
    )
show_answered known job (turned_down f h) = (Refused, refusal_text f, (f, h, refl))

check_answered : (job : Job) → Judged job.text → Answered (CheckAnswers job)
check_answered job (accepted p t a) = (Done, ok_text t, (p, t, a, refl))
check_answered job (turned_down r h) = (Refused, refusal_text r, (r, h, refl))

-- ---- scripts

-- a run of what stands for an accepted program
counted_by : EachKnown → (p : ProgramTree) (given : List Value) (cut : ℕ) → 1 ≤ cut → IsProgram p.params p.body → IsAccepted p → (r : Found TypeTree) → program_type p ≡ r → (note : RunNote) × IsCountedOf p given cut note
counted_by known p given cut c made is (found t) e =
    let form = known.optimisable p t made is e in
    let note = note_exists form.normal given cut c in
    (note.0, record { ran = form.normal; stands = inl (optimised_spelled known.notes form.normal form.noted p form.same form.optimised); counted = note.1 })
counted_by known p given cut c made is (refused code place) e =
    let note = note_exists p given cut c in (note.0, record { ran = p; stands = inr (refl, (code, place, e)); counted = note.1 })

script_report_some : EachKnown → (s : PlainScript) (vs : List Value) (cut : ℕ) → 1 ≤ cut → MayBeGathered s.made s.shown vs → (lines : List ℕ) × IsScriptReport s vs cut lines
script_report_some known s vs cut c g =
    let note = counted_by known g.program g.given cut c g.is_program g.accepted (program_type g.program) refl in (
      report_text (loops_from (reached s.made s.shown) 0 s.made) note.0,
      record { program = g.program; given = g.given; gathered = g.gathered; note = note.0; counted = note.1; told = refl },
    )

-- what follows from the one of both answers that a script has
script_concluded_by : EachKnown → (P : Status → List ℕ → Type 0) (o : Options) (s : PlainScript) (vs : List Value) (u : Outcome Value) → 1 ≤ o.cut → MayBeGathered s.made s.shown vs
    → ((text : List ℕ) → ScriptConcludes o s vs Done text → P Done text) → ((text : List ℕ) → ScriptConcludes o s vs Fault text → P Fault text)
    → script_answer s.made s.shown vs ≡ u → GivesOrFaults (HasValue (shown_type s.made s.shown)) u → Answered P
script_concluded_by known P o s vs (done v) c g on_value on_fault e gives =
    let told = told_some o.report (IsScriptReport s vs o.cut) (value_text (shown_type s.made s.shown) v) (script_report_some known s vs o.cut c g) in
    (Done, told.0, on_value told.0 (v, e, told.1))
script_concluded_by known P o s vs fault c g on_value on_fault e gives = (Fault, fault_text, on_fault fault_text (e, refl))
script_concluded_by known P o s vs stuck c g on_value on_fault e gives = absurd gives

script_concluded : EachKnown → (P : Status → List ℕ → Type 0) (o : Options) (s : PlainScript) (vs : List Value) → 1 ≤ o.cut → IsScript s.made s.shown → AreInputs (declared_of s.made) vs
    → ((text : List ℕ) → ScriptConcludes o s vs Done text → P Done text) → ((text : List ℕ) → ScriptConcludes o s vs Fault text → P Fault text) → Answered P
script_concluded known P o s vs c is fit on_value on_fault =
    let g = known.gathered s.made s.shown vs is fit in
    let gives : GivesOrFaults (HasValue (shown_type s.made s.shown)) (meaning g.program g.given) = known.never_stuck g.program (shown_type s.made s.shown) g.given g.gathered.typed g.gathered.arguments in
    script_concluded_by known P o s vs (script_answer s.made s.shown vs) c g on_value on_fault refl
    (subst (GivesOrFaults (HasValue (shown_type s.made s.shown))) g.gathered.means gives)

script_answered : EachKnown → (o : Options) (job : Job) (s : PlainScript) → 1 ≤ o.cut → IsRead job.text (Ok s) → Answered (SessionAnswers o job)
script_answered known o job s c r =
    let is : IsScript s.made s.shown = known.is_script job.text s r in
    let declared : AreDeclared (declared_of s.made) = known.declared s.made is.objects in by is declared (known.inputs_of (declared_of s.made) job declared)
  where
    by : IsScript s.made s.shown → AreDeclared (declared_of s.made) → ((vs : List Value) × of_script.Inputs (declared_of s.made) job vs) ⊎ ((n : ℕ) × (k : Code) × of_script.IsUnfit (declared_of s.made) job n k) → Answered (SessionAnswers o job)
    by is declared (inl (vs, i)) =
        script_concluded known (SessionAnswers o job) o s vs c is (known.inputs_fit (declared_of s.made) job vs declared i)
        (λ text h. (s, r, (vs, i, h))) (λ text h. (s, r, (vs, i, h)))
    by is declared (inr (n, k, u)) = (Unfit, unfit_text n k, (s, r, (n, k, u, refl)))

session_by : EachKnown → (o : Options) (job : Job) → 1 ≤ o.cut → ((s : PlainScript) × IsRead job.text (Ok s)) ⊎ ((e : ScriptFault) × (e ≢ faults.Memory) × IsRead job.text (Err e)) → Answered (SessionAnswers o job)
session_by known o job c (inl (s, r)) = script_answered known o job s c r
session_by known o job c (inr (e, m, r)) = (Refused, script_refusal_text e, (e, m, r, refl))

soak_answered : EachKnown → (o : Options) → 1 ≤ o.cut → Answered (SoakAnswers o)
soak_answered known o c =
    script_concluded known (SoakAnswers o) o soak_script (soak_table o.seed o.rows ∷ []) c known.soak (known.soak_fits o.seed o.rows) (λ text h. h) (λ text h. h)

-- ---- all commands

command_answered : EachKnown → (c : Command) (o : Options) (job : Job) → 1 ≤ o.cut → Answered (CommandAnswers c o job)
command_answered known Run o job cut = run_answered known o job cut (judged known job.text)
command_answered known Check o job cut = check_answered job (judged known job.text)
command_answered known Show o job cut = show_answered known job (judged known job.text)
command_answered known Session o job cut = session_by known o job cut (known.script job.text)
command_answered known Soak o job cut = soak_answered known o cut

pub answers_some : EachKnown → (o : Options) (bytes : List ℕ) → 1 ≤ o.cut → (status : Status) × (text : List ℕ) × Answers o bytes status text
answers_some known o bytes cut = by (reads_a_job o.command && is_too_long bytes) refl
  where
    within : Bool → Type 0
    within long = (status : Status) × (text : List ℕ) × MatchBool long ((status ≡ Refused) × (text ≡ refusal_text (Size codes_of.M1))) (AnswersParts o (job_of bytes) status text)

    by : (long : Bool) → (reads_a_job o.command && is_too_long bytes) ≡ long → within long
    by true e = (Refused, refusal_text (Size codes_of.M1), (refl, refl))
    by false e = command_answered known o.command o (job_of bytes) cut
