use Rattle.weld_builders.proofs.Joins.{bare_before, bare_behind}
use Rattle.weld_builders.proofs.laws.bare_is_neutral.Goals as goal

pub returns : goal.returns
returns c = record { before = bare_before; behind = bare_behind }
