use Rattle.std.proofs.Common.{◌≡◌, ◌≤◌, ◌++◌, List, length, map, drop}
use Rattle.weld_objects.specs.Objects.{Object}
use Rattle.weld_lazy.specs.View.{view_object}
use Rattle.weld_lazy.specs.Inputs.{picked}
use Rattle.weld_lazy.proofs.graph.Graph.into_inputs.Given as goal

abbrev pub invariant-loop-object : goal.invariant-loop-object
invariant-loop-object l = record {
  within : l.place ≤ length l.ids;
  count : l.id ≡ length l.yielded;
  left : (os : List Object) → picked 0 (map view_object l.yielded ++ os) l.ids ≡ l.values ++ picked l.id os (drop l.place l.ids);
}
