use Rattle.std.proofs.Common.{map, length}
use Rattle.weld_values.specs.Grammar.{scalar_at, Found}
use Rattle.weld_values.specs.Judging.{Gathered}
use Rattle.weld_values.proofs.column.read_some.Given as goal

abbrev pub invariant-loop-items : goal.invariant-loop-items
invariant-loop-items g l = Gathered (Found (scalar_at g.T.Cell.kind)) l.text l.rest l.flaw (map g.T.Cell.value l.items)

abbrev pub decreases-loop-items : goal.decreases-loop-items
decreases-loop-items g l = length l.rest
