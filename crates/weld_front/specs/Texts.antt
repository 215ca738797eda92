-- The texts that the program writes.
use Rattle.std.specs.Prelude.{ℕ, List, [], ◌∷◌, ◌++◌, codes}
use Rattle.std.specs.Fmt.{decimal}
use Rattle.weld_data.specs.Value.{Value}
use Rattle.weld_tree.specs.TypeTree.{TypeTree}
use Rattle.weld_tree.specs.Code.{code_text}
use Rattle.weld_tree.specs.declared.code.Code.{Code}
use Rattle.weld_tree.specs.declared.refusal.Refusal.{Refusal}
use Rattle.weld_tree.specs.declared.refusal.Refusal.TheVariants.{At, Size, Memory}
use Rattle.weld_values.specs.Showing.{show}
use Rattle.weld_print.specs.TypeText.{type_text}
use Rattle.weld_share.specs.declared.note.RunNote.{RunNote}
use Rattle.weld_read_script.specs.declared.read.ScriptFault.{ScriptFault}
use Rattle.weld_read_script.specs.declared.read.ScriptFault.TheVariants as faults

abbrev pub line : List ℕ → List ℕ
line text = text ++ 10 ∷ []

-- the value text of a value of the type
abbrev pub value_text : TypeTree → Value → List ℕ
value_text t v = line (show t v)

-- the type of a program that is accepted
abbrev pub ok_text : TypeTree → List ℕ
ok_text t = line (codes "ok " ++ type_text t)

abbrev pub fault_text : List ℕ
fault_text = line (codes "fault")

-- the code of a refusal, and its place where it has one
abbrev pub refusal_text : Refusal → List ℕ
refusal_text (At code place) = line (codes "refused " ++ code_text code ++ codes " at " ++ decimal place.line ++ codes ":" ++ decimal place.column)
refusal_text (Size code) = line (codes "refused " ++ code_text code)
refusal_text Memory = []

-- the code that a script is refused with, and its line
abbrev pub script_refusal_text : ScriptFault → List ℕ
script_refusal_text (faults.At code number) = line (codes "refused " ++ code_text code ++ codes " at " ++ decimal number ++ codes ":1")
script_refusal_text (faults.Size code) = line (codes "refused " ++ code_text code)
script_refusal_text faults.Memory = []

-- the parameter that data don't fit, and the code
abbrev pub unfit_text : ℕ → Code → List ℕ
unfit_text number code = line (codes "parameter " ++ decimal number ++ codes ": " ++ code_text code)

-- the loops of the program that was given and of the one that ran; of these, those that append to one list once a row and those that
-- ran by lanes; the tiles and the rows of all evaluations of its shared loops
abbrev pub loops_line : ℕ → ℕ → List ℕ
loops_line before after = line (codes "loops " ++ decimal before ++ codes " -> " ++ decimal after)

abbrev pub marks_line : ℕ → ℕ → List ℕ
marks_line sized lanes = line (codes "sized " ++ decimal sized ++ codes " lanes " ++ decimal lanes)

abbrev pub tiles_line : ℕ → ℕ → List ℕ
tiles_line tiles turns = line (codes "tiles " ++ decimal tiles ++ codes " turns " ++ decimal turns)

abbrev pub report_text : ℕ → RunNote → List ℕ
report_text before note = loops_line before note.loops ++ marks_line note.sized note.lanes ++ tiles_line note.tiles note.turns

abbrev pub usage_text : List ℕ
usage_text = line (codes "usage: weld run|check|show|session|soak [--workers N] [--cut N] [--report] [--seed N] [--rows N]")
