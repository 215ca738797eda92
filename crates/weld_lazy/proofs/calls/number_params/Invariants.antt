use Rattle.std.proofs.Common.{◌≡◌, ◌≤◌, ℕ, length, drop, map}
use Rattle.weld_meaning.specs.Environment.{look_for}
use Rattle.weld_objects.specs.Numbering.{number_in}
use Rattle.weld_lazy.specs.Lowering.{param_number}
use Rattle.weld_lazy.proofs.calls.number_params.Given as goal

abbrev pub decreases-loop-place : goal.decreases-loop-place
decreases-loop-place l = l.place

abbrev pub invariant-loop-place : goal.invariant-loop-place
invariant-loop-place l = record {
  within : l.place ≤ length l.params;
  numbered : (s : ℕ) → look_for s l.renaming ≡ param_number (drop l.place l.params) (map (number_in l.numbers) (drop l.place l.deps)) s (look_for s l.initial.renaming);
}
