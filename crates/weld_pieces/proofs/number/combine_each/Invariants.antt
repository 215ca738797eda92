use Rattle.std.proofs.Common.{◌≡◌, drop}
use Rattle.weld_data.specs.Kind.{InRange}
use Rattle.weld_pieces.specs.Total.{combined_all}
use Rattle.weld_pieces.proofs.number.combine_each.Given as goal

abbrev pub invariant-loop-i : goal.invariant-loop-i
invariant-loop-i l = InRange l.kind l.total × (combined_all l.op l.kind l.x l.items ≡ combined_all l.op l.kind l.total (drop l.i l.items))
