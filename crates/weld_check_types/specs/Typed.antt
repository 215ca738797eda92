-- Programs that have a type by the typing rules, with that type.
use Rattle.std.specs.Prelude.{refl}
use Rattle.std.specs.Coded.{Coded, code_by, coded×}
use Rattle.weld_meaning.specs.Typing.{ProgramHas}
use Rattle.weld_tree.specs.Program.{ProgramTree, coded_program}
use Rattle.weld_tree.specs.TypeCode.{coded_type}
use Rattle.weld_tree.specs.TypeTree.{TypeTree}
use Rattle.weld_types.specs.Sizes.{ProgramKeepsSize}
use Rattle.weld_check_types.specs.Notes.{ProgramIsNoted}

-- a program and its type
pub record TypedTree : Type 0 where
  pub program : ProgramTree
  pub ty : TypeTree

abbrev pub coded_typed : Coded TypedTree
coded_typed = code_by (ProgramTree × TypeTree) (coded× coded_program coded_type) (λ t. (t.program, t.ty)) (λ c. record { program = c.0; ty = c.1 }) (λ _. refl)

-- the program has the type by the rules, its types keep the limits, and each node of its body has its
-- type noted
pub record IsTyped (p : ProgramTree) (t : TypeTree) : Type 0 where
  pub has : ProgramHas p t
  pub keeps : ProgramKeepsSize p
  pub noted : ProgramIsNoted p
