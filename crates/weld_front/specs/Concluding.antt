-- What is answered where something comes to a value or to a fault, and what a report tells.
use Rattle.std.specs.Prelude.{◌≡◌, ℕ, ◌++◌, Bool, true, false, List}
use Rattle.weld_data.specs.Value.{Value}
use Rattle.weld_builders.specs.Outcome.{Outcome, done, fault}
use Rattle.weld_tree.specs.TypeTree.{TypeTree}
use Rattle.weld_tree.specs.Program.{ProgramTree, loops}
use Rattle.weld_passes.specs.Normal.{IsOptimised}
use Rattle.weld_share.specs.Counts.{IsNote}
use Rattle.weld_share.specs.declared.note.RunNote.{RunNote}
use Rattle.weld_front.specs.Texts.{value_text, fault_text, report_text}
use Rattle.weld_front.specs.declared.status.Status.{Status}
use Rattle.weld_front.specs.declared.status.Status.TheVariants.{Done, Fault}

-- ---- the report

-- this was counted of a run of the program on arguments, with tiles of so many rows at most: an optimised program ran in its place
pub record IsCounted (p : ProgramTree) (vs : List Value) (cut : ℕ) (note : RunNote) : Type 0 where
  pub ran : ProgramTree
  pub optimised : IsOptimised ran p
  pub counted : IsNote ran vs cut note

-- the lines tell how many loops the program has, and what was counted of its run
pub record IsReport (p : ProgramTree) (vs : List Value) (cut : ℕ) (lines : List ℕ) : Type 0 where
  pub note : RunNote
  pub counted : IsCounted p vs cut note
  pub told : lines ≡ report_text (loops p.body) note

-- a text, with the lines of a report behind it where one is wanted
abbrev pub IsTold : Bool → (List ℕ → Type 0) → List ℕ → List ℕ → Type 0
IsTold true AreLines told text = (lines : List ℕ) × AreLines lines × (text ≡ told ++ lines)
IsTold false AreLines told text = text ≡ told

-- what is answered where something comes to this, a value of the type where it is one; its report has such lines, where one is wanted
abbrev pub Concludes : Bool → (List ℕ → Type 0) → TypeTree → Outcome Value → Status → List ℕ → Type 0
Concludes report AreLines t outcome Done text = (v : Value) × (outcome ≡ done v) × IsTold report AreLines (value_text t v) text
Concludes report AreLines t outcome Fault text = (outcome ≡ fault) × (text ≡ fault_text)
Concludes report AreLines t outcome status text = ⊥
