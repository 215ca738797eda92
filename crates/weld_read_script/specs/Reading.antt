-- Which script a text is, or the first line that is refused, with its code.
use Rattle.std.specs.Prelude.{◌≡◌, ◌==◌, ℕ, suc, if◌then◌else◌, List, [], ◌∷◌, length, Result, Ok, Err, MatchResult, true, false}
use Rattle.std.specs.List.{slice_split}
use Rattle.weld_tree.specs.declared.code.Code.{Code}
use Rattle.weld_tree.specs.declared.code.Code.TheVariants.{S1, S7, M2}
use Rattle.weld_tokens.specs.TokenLimits.{has_too_many_bytes}
use Rattle.weld_read_script.specs.declared.statements.statement.Saying.{Saying}
use Rattle.weld_read_script.specs.declared.statements.statement.Saying.TheVariants.{Nothing, NoForm, States}
use Rattle.weld_read_script.specs.Statements.{LineSays}
use Rattle.weld_script.specs.Script.{PlainScript}
use Rattle.weld_read_script.specs.declared.steps.known.Known.{Known}
use Rattle.weld_read_script.specs.declared.steps.known.LineFault.{LineFault}
use Rattle.weld_read_script.specs.declared.steps.known.LineFault.TheVariants as lines_end
use Rattle.weld_read_script.specs.declared.read.ScriptFault.{ScriptFault}
use Rattle.weld_read_script.specs.declared.read.ScriptFault.TheVariants as faults
use Rattle.weld_read_script.specs.Steps.{after, nothing_known, Steps}

-- the lines of a text: what stands between its LFs; a CR before an LF is a blank
abbrev pub lines : List ℕ → List (List ℕ)
lines text = slice_split (λ b. b == 10) text

-- what is known behind what a line says, or the code that refuses it
abbrev pub after_saying : Known → Saying → Result Known Code
after_saying k Nothing = Ok k
after_saying k NoForm = Err S1
after_saying k (States statement) = after k statement

-- a script, or a code at a line
pub data Answer : Type 0 where
  script : PlainScript → Answer
  refused : Code → ℕ → Answer

-- behind the last line, of that number: something was shown
abbrev pub at_end : ℕ → Known → Answer
at_end n k = if length k.shown == 0 then refused S7 n else script (record { made = k.made; shown = k.shown })

-- the answer of these lines, behind so many lines and what is known of them: the first line that is refused decides
abbrev pub Reads : ℕ → Known → List (List ℕ) → Answer → Type 0
Reads n k [] answer = answer ≡ at_end n k
Reads n k (line ∷ rest) answer =
    (said : Saying) × LineSays line said
    × MatchResult (after_saying k said) (λ next. Reads (suc n) next rest answer) (λ code. answer ≡ refused code (suc n))

-- the answer of a text
abbrev pub ReadsAs : List ℕ → Answer → Type 0
ReadsAs text answer = Reads 0 nothing_known (lines text) answer

-- what reading a text gives: the size limit comes first, and want of memory may come at any time
abbrev pub IsRead : List ℕ → Result PlainScript ScriptFault → Type 0
IsRead text (Ok s) = (has_too_many_bytes text ≡ false) × ReadsAs text (script s)
IsRead text (Err (faults.At code line)) = (has_too_many_bytes text ≡ false) × ReadsAs text (refused code line)
IsRead text (Err (faults.Size code)) = (has_too_many_bytes text ≡ true) × (code ≡ M2)
IsRead text (Err faults.Memory) = Unit {0}

-- ---- what the methods of the reader give

-- the step of a line as it is said, or its code, or want of memory
abbrev pub LineSteps : Known → List ℕ → Result (Unit {0}) LineFault → Known → Type 0
LineSteps k line (Err lines_end.Memory) next = Unit {0}
LineSteps k line result next = (said : Saying) × LineSays line said × Steps (after_saying k said) result next

-- the same at the end of the text
abbrev pub Ends : ℕ → Known → Result PlainScript ScriptFault → Type 0
Ends n k (Ok s) = script s ≡ at_end n k
Ends n k (Err (faults.At code line)) = refused code line ≡ at_end n k
Ends n k (Err (faults.Size code)) = ⊥
Ends n k (Err faults.Memory) = Unit {0}

-- the same of all lines
abbrev pub LinesRead : List (List ℕ) → Result PlainScript ScriptFault → Type 0
LinesRead ls (Ok s) = Reads 0 nothing_known ls (script s)
LinesRead ls (Err (faults.At code line)) = Reads 0 nothing_known ls (refused code line)
LinesRead ls (Err (faults.Size code)) = ⊥
LinesRead ls (Err faults.Memory) = Unit {0}
