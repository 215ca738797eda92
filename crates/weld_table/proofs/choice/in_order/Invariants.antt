use Rattle.std.proofs.Common.{length}
use Rattle.std.specs.List.{All}
use Rattle.weld_table.specs.Cells.{IsNew}
use Rattle.weld_table.proofs.Choosing.{ArePlaced}
use Rattle.weld_table.proofs.choice.in_order.Given as goal

abbrev pub invariant-loop-place : goal.invariant-loop-place
invariant-loop-place l = record {
  places : ArePlaced l.types l.place l.columns.items;
  fresh : All (IsNew (length l.types)) l.columns.items;
}
