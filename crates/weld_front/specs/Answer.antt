-- What the program answers to a job: a status and a text.
use Rattle.std.specs.Prelude.{◌≡◌, ℕ, ◌+◌, ◌⊎◌, ◌&&◌, if◌then◌else◌, Bool, false, nat_lt, List, [], Option, Some, length, take, IfSome}
use Rattle.std.specs.Bool.{MatchBool}
use Rattle.std.specs.Io.KnownBytes.{Appends, IsAtEnd}
use Rattle.weld_data.specs.Value.{Value}
use Rattle.weld_tree.specs.TypeTree.{TypeTree}
use Rattle.weld_tree.specs.Blank.{AreSame}
use Rattle.weld_tree.specs.Program.{ProgramTree}
use Rattle.weld_tree.specs.declared.code.Code.{Code}
use Rattle.weld_tree.specs.declared.code.Code.TheVariants as codes_of
use Rattle.weld_tree.specs.declared.refusal.Refusal.{Refusal}
use Rattle.weld_tree.specs.declared.refusal.Refusal.TheVariants.{Size}
use Rattle.weld_job.specs.Blocks.{job_of}
use Rattle.weld_job.specs.Reading.{job_limit, TakesJust}
use Rattle.weld_job.specs.Job.{Job}
use Rattle.weld_inputs.specs.Arguments.{Arguments, IsUnfit}
use Rattle.weld_meaning.specs.Meaning.{meaning}
use Rattle.weld_print.specs.PrintText.{program_text}
use Rattle.weld_print.specs.Texts.{TextSpellsSoundly}
use Rattle.weld_passes.specs.Normal.{IsOptimised}
use Rattle.weld_front.specs.Accepting.{Accepts, Refuses}
use Rattle.weld_front.specs.Concluding.{IsReport, Concludes}
use Rattle.weld_front.specs.Sessions.{SessionAnswers, SoakAnswers}
use Rattle.weld_front.specs.Asking.{Asks, reads_a_job}
use Rattle.weld_front.specs.Texts.{line, ok_text, refusal_text, unfit_text}
use Rattle.weld_words.specs.declared.options.Options.{Options}
use Rattle.weld_words.specs.declared.options.Command.{Command}
use Rattle.weld_words.specs.declared.options.Command.TheVariants.{Run, Check, Show, Session, Soak}
use Rattle.weld_front.specs.declared.status.Status.{Status}
use Rattle.weld_front.specs.declared.status.Status.TheVariants.{Done, Fault, Refused, Unfit, Read, Write, Memory}

-- ---- the answer

-- what a program that no rule refuses, with values of this type, is answered with on arguments: its value, or its fault
abbrev pub ProgramConcludes : Options → ProgramTree → TypeTree → List Value → Status → List ℕ → Type 0
ProgramConcludes o p t vs status text = Concludes o.report (IsReport p vs o.cut) t (meaning p vs) status text

-- what it is answered with on the data of the job: they don't fit, or what it comes to on the arguments that they are
abbrev pub ProgramAnswers : Options → ProgramTree → TypeTree → Job → Status → List ℕ → Type 0
ProgramAnswers o p t job Unfit text = (number : ℕ) × (code : Code) × IsUnfit p.params job number code × (text ≡ unfit_text number code)
ProgramAnswers o p t job status text = (vs : List Value) × Arguments p.params job vs × ProgramConcludes o p t vs status text

-- the text is refused for this first
abbrev pub RefusalAnswers : Job → List ℕ → Type 0
RefusalAnswers job text = (refusal : Refusal) × Refuses job.text refusal × (text ≡ refusal_text refusal)

-- what `run` answers
abbrev pub RunAnswers : Options → Job → Status → List ℕ → Type 0
RunAnswers o job Refused text = RefusalAnswers job text
RunAnswers o job status text = (p : ProgramTree) × (t : TypeTree) × Accepts job.text p t × ProgramAnswers o p t job status text

-- what `check` answers: it ignores the data
abbrev pub CheckAnswers : Job → Status → List ℕ → Type 0
CheckAnswers job Done text = (p : ProgramTree) × (t : TypeTree) × Accepts job.text p t × (text ≡ ok_text t)
CheckAnswers job Refused text = RefusalAnswers job text
CheckAnswers job status text = ⊥

-- the text is the one printed spelling of an optimised program in the place of this one, and it reads back as that program
pub record IsShown (p : ProgramTree) (text : List ℕ) : Type 0 where
  pub shown : ProgramTree
  pub optimised : IsOptimised shown p
  pub told : text ≡ line (program_text shown)
  pub read : ProgramTree
  pub spelled : TextSpellsSoundly (program_text shown) read
  pub same : AreSame shown read

-- what `show` answers: it ignores the data
abbrev pub ShowAnswers : Job → Status → List ℕ → Type 0
ShowAnswers job Done text = (p : ProgramTree) × (t : TypeTree) × Accepts job.text p t × IsShown p text
ShowAnswers job Refused text = RefusalAnswers job text
ShowAnswers job status text = ⊥

-- the status and the text that a job has, by its parts
abbrev pub CommandAnswers : Command → Options → Job → Status → List ℕ → Type 0
CommandAnswers Run o job status text = RunAnswers o job status text
CommandAnswers Check o job status text = CheckAnswers job status text
CommandAnswers Show o job status text = ShowAnswers job status text
CommandAnswers Session o job status text = SessionAnswers o job status text
CommandAnswers Soak o job status text = SoakAnswers o status text

abbrev pub AnswersParts : Options → Job → Status → List ℕ → Type 0
AnswersParts o job status text = CommandAnswers o.command o job status text

-- more bytes than a job may have
abbrev pub is_too_long : List ℕ → Bool
is_too_long bytes = nat_lt job_limit (length bytes)

-- the status and the text that a job has, by its bytes; `soak` reads none, whatever they are
abbrev pub Answers : Options → List ℕ → Status → List ℕ → Type 0
Answers o bytes status text =
    MatchBool (reads_a_job o.command && is_too_long bytes)
    ((status ≡ Refused) × (text ≡ refusal_text (Size codes_of.M1)))
    (AnswersParts o (job_of bytes) status text)

-- ---- what a call does

-- the bytes of the job, where they are told; `soak` reads none
abbrev pub job_bytes : Options → Option (List ℕ) → Option (List ℕ)
job_bytes o left = if reads_a_job o.command then left else Some []

-- Where the source tells its bytes, they have an answer of this status, of which the sink took the whole text, where it tells what it holds
abbrev pub Delivers : Options → Option (List ℕ) → Option (List ℕ) → Option (List ℕ) → Status → Type 0
Delivers o left old new status =
    IfSome (job_bytes o left) (λ job. (text : List ℕ) × Answers o job status text × Appends old new text)

-- the words ask for something, whose answer is delivered so
abbrev pub DeliversFor : List (List ℕ) → Option (List ℕ) → Option (List ℕ) → Option (List ℕ) → Status → Type 0
DeliversFor words left old new status = (o : Options) × Asks words o × Delivers o left old new status

-- the sink took the front of this text, and no more
abbrev pub AppendsFront : Option (List ℕ) → Option (List ℕ) → List ℕ → Type 0
AppendsFront old new text = (count : ℕ) × Appends old new (take count text)

-- the same of the answer to the job, whichever it is
abbrev pub DeliversFront : Options → Option (List ℕ) → Option (List ℕ) → Option (List ℕ) → Type 0
DeliversFront o left old new =
    IfSome (job_bytes o left) (λ job. (status : Status) × (text : List ℕ) × Answers o job status text × AppendsFront old new text)

abbrev pub DeliversFrontFor : List (List ℕ) → Option (List ℕ) → Option (List ℕ) → Option (List ℕ) → Type 0
DeliversFrontFor words left old new = (o : Options) × Asks words o × DeliversFront o left old new

-- Of a job that is too long just one byte more than the limit is taken; any other is read to its end.
abbrev pub Extent : Option (List ℕ) → Option (List ℕ) → Type 0
Extent old new =
    IfSome old (λ bytes. MatchBool (is_too_long bytes) (TakesJust (job_limit + 1) old new) (IsAtEnd new))

-- the status is that of an answer to a job
abbrev pub IsOfJob : Status → Type 0
IsOfJob Done = Unit {0}
IsOfJob Fault = Unit {0}
IsOfJob Refused = Unit {0}
IsOfJob Unfit = Unit {0}
IsOfJob status = ⊥

-- an answer to the job was found, whether it was written or not
abbrev pub IsFound : Status → Type 0
IsFound Write = Unit {0}
IsFound status = IsOfJob status

-- where the source tells its bytes: the status is that of the job's answer, or memory was wanting
abbrev pub Completes : Options → Option (List ℕ) → Status → Type 0
Completes o left status =
    IfSome (job_bytes o left) (λ job. (status ≡ Memory) ⊎ ((text : List ℕ) × Answers o job status text))

abbrev pub CompletesFor : List (List ℕ) → Option (List ℕ) → Status → Type 0
CompletesFor words left status = (o : Options) × Asks words o × Completes o left status

-- The job alone tells the text of the answer: what `show` shows and what a report counts may be of any optimised program.
abbrev pub CommandHasOneText : Command → Bool → Type 0
CommandHasOneText Run report = report ≡ false
CommandHasOneText Check report = Unit {0}
CommandHasOneText Show report = ⊥
CommandHasOneText Session report = report ≡ false
CommandHasOneText Soak report = report ≡ false

abbrev pub HasOneText : Options → Type 0
HasOneText o = CommandHasOneText o.command o.report

-- the whole text of an answer was written
abbrev pub IsWritten : Status → Type 0
IsWritten Read = ⊥
IsWritten Write = ⊥
IsWritten Memory = ⊥
IsWritten status = Unit {0}

-- nothing was written
abbrev pub IsSilent : Status → Type 0
IsSilent Read = Unit {0}
IsSilent Memory = Unit {0}
IsSilent status = ⊥
