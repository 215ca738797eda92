use Rattle.std.proofs.Common.{◌≡◌, drop, map}
use Rattle.weld_tree.specs.ExprTree.{pack_legs}
use Rattle.weld_tree.specs.ExprView.{view_leg}
use Rattle.weld_vertical_zip.proofs.PlaceLemmas.{shifted}
use Rattle.weld_vertical_zip_held.specs.Rule.{place_each}
use Rattle.weld_vertical_zip_held.proofs.legs.place_each.Given as goal

abbrev pub invariant-loop-i : goal.invariant-loop-i
invariant-loop-i l = place_each (pack_legs (map view_leg l.legs)) ≡ shifted l.i (place_each (pack_legs (map view_leg (drop l.i l.legs))))
