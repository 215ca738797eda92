use Rattle.std.proofs.Common.{◌≡◌, drop, map}
use Rattle.weld_tree.specs.ExprTree.{pack_legs}
use Rattle.weld_tree.specs.ExprView.{view_leg}
use Rattle.weld_horizontal.specs.Twice.{place_in}
use Rattle.weld_horizontal.proofs.PlaceLemmas.{shifted}
use Rattle.weld_horizontal.proofs.places.place_in.Given as goal

abbrev pub invariant-loop-i : goal.invariant-loop-i
invariant-loop-i l = place_in l.name.0 (pack_legs (map view_leg l.legs)) ≡ shifted l.i (place_in l.name.0 (pack_legs (map view_leg (drop l.i l.legs))))
