use Rattle.std.proofs.Common.{◌≡◌, ◌≤◌, ℕ, length, drop, map}
use Rattle.weld_objects.specs.Reached.{is_one_of, reached_from}
use Rattle.weld_lazy.specs.View.{view_object}
use Rattle.weld_lazy.specs.Lowering.{marks_of}
use Rattle.weld_lazy.proofs.marks.reach.Given as goal

abbrev pub decreases-loop-id : goal.decreases-loop-id
decreases-loop-id l = l.id

abbrev pub invariant-loop-id : goal.invariant-loop-id
invariant-loop-id l = record {
  within : l.id ≤ length l.objects;
  marked : (k : ℕ) → marks_of l.marks k ≡ reached_from l.id (drop l.id (map view_object l.objects)) (is_one_of l.shown) k;
}
