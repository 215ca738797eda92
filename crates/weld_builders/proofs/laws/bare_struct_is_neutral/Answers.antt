use Rattle.weld_builders.proofs.Structs.{builder_bare_before, builder_bare_behind}
use Rattle.weld_builders.proofs.laws.bare_struct_is_neutral.Goals as goal

pub returns : goal.returns
returns c = record { before = builder_bare_before; behind = builder_bare_behind }
