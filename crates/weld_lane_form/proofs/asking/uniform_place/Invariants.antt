use Rattle.std.proofs.Common.{◌≡◌, map}
use Rattle.weld_tree.specs.declared.sym.Sym.{Sym}
use Rattle.weld_lane_form.specs.Lowering.{place_among}
use Rattle.weld_lane_form.proofs.Places.{place_from}
use Rattle.weld_lane_form.proofs.asking.uniform_place.Given as goal

abbrev pub invariant-loop-i : goal.invariant-loop-i
invariant-loop-i l = place_among (map (λ (m : Sym). m.0) l.names) l.name.0 ≡ place_from l.i l.names l.name.0
