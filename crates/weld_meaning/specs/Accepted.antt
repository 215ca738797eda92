-- Programs that are accepted: they have a type and use builders linearly.
use Rattle.std.specs.Prelude.{[]}
use Rattle.weld_tree.specs.TypeTree.{TypeTree}
use Rattle.weld_tree.specs.Program.{ProgramTree}
use Rattle.weld_meaning.specs.Typing.{ProgramHas}
use Rattle.weld_meaning.specs.Linear.{Keeps}
use Rattle.weld_meaning.specs.Available.{Splits}

-- parameters are values, and so is each name that stands in no list of origins
pub record IsAccepted (p : ProgramTree) : Type 0 where
  pub typed : (t : TypeTree) × ProgramHas p t
  pub keeps : Keeps p.body []
  pub splits : Splits p.body []
