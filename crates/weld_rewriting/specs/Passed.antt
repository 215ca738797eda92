-- What each pass keeps of the program that it is handed.
use Rattle.std.specs.Prelude.{◌≡◌, ◌≤◌, ℕ, List}
use Rattle.weld_tree.specs.Blank.{AreSame}
use Rattle.weld_tree.specs.Program.{ProgramTree, loops}
use Rattle.weld_meaning.specs.Accepted.{IsAccepted}
use Rattle.weld_check_types.specs.Unnoted.{IsSameButNotes}
use Rattle.weld_check_types.specs.Notes.{ProgramIsNoted}
use Rattle.weld_print.specs.PrintText.{program_text}
use Rattle.weld_print.specs.Texts.{TextSpells, TextSpellsSoundly}
use Rattle.weld_rewriting.specs.Within.{legs}
use Rattle.weld_rewriting.specs.Rewriting.{SameMeaning}

-- the first program is accepted, noted, of the second's parameters, and means what it means on all arguments that fit, faults
-- included; where some text spells the second, noted types apart, the first's printed text spells it; and it has no more legs and
-- loops
pub record IsPassed (q p : ProgramTree) : Type 0 where
  pub accepted : IsAccepted q
  pub noted : ProgramIsNoted q
  pub params : q.params ≡ p.params
  pub same_meaning : SameMeaning q p
  pub spelled : (text : List ℕ) (s : ProgramTree) → TextSpells text s → IsSameButNotes s p
      → (r : ProgramTree) × TextSpellsSoundly (program_text q) r × AreSame q r
  pub no_more_legs : legs q.body ≤ legs p.body
  pub no_more_loops : loops q.body ≤ loops p.body
