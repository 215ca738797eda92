-- What `weld session` and `weld soak` answer, by what a script comes to, call by call and by plain lists.
use Rattle.std.specs.Prelude.{◌≡◌, ◌≢◌, ◌⊎◌, ℕ, List, [], ◌∷◌, Ok, Err}
use Rattle.weld_data.specs.Value.{Value}
use Rattle.weld_tree.specs.Program.{ProgramTree}
use Rattle.weld_tree.specs.declared.code.Code.{Code}
use Rattle.weld_tree.specs.declared.place.Place.{Place}
use Rattle.weld_types.specs.Walk.{program_type, refused}
use Rattle.weld_job.specs.Job.{Job}
use Rattle.weld_passes.specs.Normal.{IsOptimised}
use Rattle.weld_share.specs.Counts.{IsNote}
use Rattle.weld_share.specs.declared.note.RunNote.{RunNote}
use Rattle.weld_script.specs.Script.{PlainScript, declared_of}
use Rattle.weld_read_script.specs.Reading.{IsRead}
use Rattle.weld_read_script.specs.declared.read.ScriptFault.{ScriptFault}
use Rattle.weld_read_script.specs.declared.read.ScriptFault.TheVariants as faults
use Rattle.weld_inputs.specs.Inputs.{Inputs, IsUnfit}
use Rattle.weld_session.specs.Answer.{IsGathered, loops_from, reached, script_answer, shown_type}
use Rattle.weld_script.specs.Soak.{soak_made, soak_shown, soak_table}
use Rattle.weld_words.specs.declared.options.Options.{Options}
use Rattle.weld_front.specs.Concluding.{Concludes}
use Rattle.weld_front.specs.Texts.{report_text, script_refusal_text, unfit_text}
use Rattle.weld_front.specs.declared.status.Status.{Status}
use Rattle.weld_front.specs.declared.status.Status.TheVariants.{Refused, Unfit}

-- ---- the report of a script

-- the walk over types refuses the program; of one that is typed this says that its types are larger than those of texts may be
abbrev pub IsPastSizes : ProgramTree → Type 0
IsPastSizes p = (code : Code) × (place : Place) × (program_type p ≡ refused code place)

-- what runs in the place of a script's program: an optimised one, or the program itself where its types are past the sizes
abbrev pub StandsFor : ProgramTree → ProgramTree → Type 0
StandsFor ran p = IsOptimised ran p ⊎ ((ran ≡ p) × IsPastSizes p)

-- this was counted of a run of what stands for the program, on its inputs, with tiles of so many rows at most
pub record IsCountedOf (p : ProgramTree) (given : List Value) (cut : ℕ) (note : RunNote) : Type 0 where
  pub ran : ProgramTree
  pub stands : StandsFor ran p
  pub counted : IsNote ran given cut note

-- the lines tell how many loops the libraries write for the reached calls, and what was counted of the run of the one program that
-- the script is gathered to
pub record IsScriptReport (s : PlainScript) (vs : List Value) (cut : ℕ) (lines : List ℕ) : Type 0 where
  pub program : ProgramTree
  pub given : List Value
  pub gathered : IsGathered program given (shown_type s.made s.shown) s.made s.shown vs
  pub note : RunNote
  pub counted : IsCountedOf program given cut note
  pub told : lines ≡ report_text (loops_from (reached s.made s.shown) 0 s.made) note

-- ---- the answers

-- what a script is answered with on the values of its declarations
abbrev pub ScriptConcludes : Options → PlainScript → List Value → Status → List ℕ → Type 0
ScriptConcludes o s vs status text = Concludes o.report (IsScriptReport s vs o.cut) (shown_type s.made s.shown) (script_answer s.made s.shown vs) status text

-- what it is answered with on the data of the job
abbrev pub ScriptAnswers : Options → PlainScript → Job → Status → List ℕ → Type 0
ScriptAnswers o s job Unfit text = (number : ℕ) × (code : Code) × IsUnfit (declared_of s.made) job number code × (text ≡ unfit_text number code)
ScriptAnswers o s job status text = (vs : List Value) × Inputs (declared_of s.made) job vs × ScriptConcludes o s vs status text

-- the text is no script, and refused for this
abbrev pub ScriptRefusalAnswers : Job → List ℕ → Type 0
ScriptRefusalAnswers job text = (fault : ScriptFault) × (fault ≢ faults.Memory) × IsRead job.text (Err fault) × (text ≡ script_refusal_text fault)

-- what `session` answers
abbrev pub SessionAnswers : Options → Job → Status → List ℕ → Type 0
SessionAnswers o job Refused text = ScriptRefusalAnswers job text
SessionAnswers o job status text = (s : PlainScript) × IsRead job.text (Ok s) × ScriptAnswers o s job status text

-- the fixed script of `soak`
abbrev pub soak_script : PlainScript
soak_script = record { made = soak_made; shown = soak_shown }

-- what `soak` answers: it reads no job
abbrev pub SoakAnswers : Options → Status → List ℕ → Type 0
SoakAnswers o status text = ScriptConcludes o soak_script (soak_table o.seed o.rows ∷ []) status text
