use Rattle.std.proofs.Common.{◌≡◌, map, take}
use Rattle.std.specs.List.{fold}
use Rattle.weld_lanes.proofs.works.fold_all.Given as goal

abbrev pub invariant-loop-place : goal.invariant-loop-place
invariant-loop-place g l = record {
  come : g.L.Lane.number l.total ≡ fold g.W.Work.gives (g.L.Lane.number l.fn.start) (take l.place (map g.L.Lane.number l.x));
}
