-- Which texts are accepted, and what the others are refused for first.
use Rattle.std.specs.Prelude.{◌≡◌, ◌⊎◌, ℕ, Option, Some, None, List}
use Rattle.weld_tree.specs.TypeTree.{TypeTree}
use Rattle.weld_tree.specs.Program.{ProgramTree}
use Rattle.weld_tree.specs.declared.code.Code.{Code}
use Rattle.weld_tree.specs.declared.place.Place.{Place}
use Rattle.weld_tree.specs.declared.refusal.Refusal.{Refusal}
use Rattle.weld_tree.specs.declared.refusal.Refusal.TheVariants.{At, Memory}
use Rattle.weld_parse.specs.Parses.{Parses, IsRefused}
use Rattle.weld_types.specs.Walk.{program_type, typing_refusal, found}
use Rattle.weld_meaning.specs.LinearWalk.{linear_refusal}
use Rattle.weld_check_types.specs.Unnoted.{IsSameButNotes}

-- the text spells the program, no rule refuses it, and its value has the type
pub record Accepts (text : List ℕ) (p : ProgramTree) (t : TypeTree) : Type 0 where
  pub parses : Parses text p
  pub typed : program_type p ≡ found t
  pub linear : linear_refusal p ≡ None

-- the program is the one that the text spells, perhaps with types noted at its nodes, and accepted with this type
pub record IsCheckedOf (text : List ℕ) (p : ProgramTree) (t : TypeTree) : Type 0 where
  pub spelled : ProgramTree
  pub same : IsSameButNotes p spelled
  pub accepts : Accepts text spelled t

-- a rule with a place speaks first
abbrev pub Says : Option (Code × Place) → Refusal → Type 0
Says None refusal = ⊥
Says (Some at) refusal = refusal ≡ At at.0 at.1

-- the typing rules refuse the program that the text spells
pub record IsIllTyped (text : List ℕ) (refusal : Refusal) : Type 0 where
  pub program : ProgramTree
  pub parses : Parses text program
  pub says : Says (typing_refusal program) refusal

-- the program that the text spells has a type, and the rules on the use of builders refuse it
pub record IsNotLinear (text : List ℕ) (refusal : Refusal) : Type 0 where
  pub program : ProgramTree
  pub type : TypeTree
  pub parses : Parses text program
  pub typed : program_type program ≡ found type
  pub says : Says (linear_refusal program) refusal

-- what the text is refused for first: by its bytes, tokens, grammar, limits and names; by its types; by its use of builders
abbrev pub Refuses : List ℕ → Refusal → Type 0
Refuses text refusal = IsRefused text refusal ⊎ (IsIllTyped text refusal ⊎ IsNotLinear text refusal)

-- a refusal that a call answers: want of memory says nothing of the text
abbrev pub RefusesOr : List ℕ → Refusal → Type 0
RefusesOr text Memory = Unit {0}
RefusesOr text refusal = Refuses text refusal
