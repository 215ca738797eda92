use Rattle.std.proofs.Common.{◌↔◌, drop}
use Rattle.weld_tiles.specs.Tiling.{IsRun, IsTiling}
use Rattle.weld_tiles.proofs.cut.is_tiling.Given as goal

abbrev pub invariant-loop-i : goal.invariant-loop-i
invariant-loop-i l = IsTiling l.list l.rows ↔ IsRun l.i l.next l.rows (drop l.i l.list)
