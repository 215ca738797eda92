use Rattle.std.proofs.Common.{take}
use Rattle.weld_blocks.specs.Structs.{AreChosenFields}
use Rattle.weld_blocks.proofs.structs.choose_columns.Given as goal

abbrev pub invariant-loop-field : goal.invariant-loop-field
invariant-loop-field l = AreChosenFields l.condition (take l.field l.then.items) (take l.field l.otherwise.items) l.columns.items l.count
