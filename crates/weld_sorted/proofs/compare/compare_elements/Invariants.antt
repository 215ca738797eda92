use Rattle.std.proofs.Common.{◌≡◌, drop}
use Rattle.std.specs.Cmp.Lexicographic.{slice_cmp}
use Rattle.weld_data.specs.View.{view_column}
use Rattle.weld_builders.specs.ValueOrder.{value_cmp}
use Rattle.weld_sorted.proofs.compare.compare_elements.Given as goal

abbrev pub invariant-loop-i : goal.invariant-loop-i
invariant-loop-i l = slice_cmp value_cmp (view_column l.a) (view_column l.b) ≡ slice_cmp value_cmp (drop l.i (view_column l.a)) (drop l.i (view_column l.b))
