use Rattle.std.proofs.Common.{◌≡◌, ◌≤◌, ◌||◌, ℕ, length, drop}
use Rattle.weld_objects.specs.Reached.{is_one_of}
use Rattle.weld_lazy.specs.Lowering.{marks_of}
use Rattle.weld_lazy.proofs.marks.Marks.mark_all.Given as goal

abbrev pub decreases-loop-place : goal.decreases-loop-place
decreases-loop-place l = l.place

abbrev pub invariant-loop-place : goal.invariant-loop-place
invariant-loop-place l = record {
  within : l.place ≤ length l.ids;
  marked : (k : ℕ) → marks_of l.self k ≡ (is_one_of (drop l.place l.ids) k || marks_of l.initial.self k);
}
