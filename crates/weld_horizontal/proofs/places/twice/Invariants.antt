use Rattle.std.proofs.Common.{◌≡◌, drop, map}
use Rattle.weld_tree.specs.ExprTree.{pack_legs}
use Rattle.weld_tree.specs.ExprView.{view_leg}
use Rattle.weld_horizontal.specs.Twice.{twice}
use Rattle.weld_horizontal.proofs.PlaceLemmas.{behind}
use Rattle.weld_horizontal.proofs.places.twice.Given as goal

abbrev pub invariant-loop-i : goal.invariant-loop-i
invariant-loop-i l = twice (pack_legs (map view_leg l.legs)) ≡ behind l.i (twice (pack_legs (map view_leg (drop l.i l.legs))))
