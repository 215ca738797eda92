use Rattle.std.proofs.Common.{◌≡◌, ◌+◌, ◌≤◌, ℕ, length, drop}
use Rattle.weld_meaning.specs.Environment.{look_for}
use Rattle.weld_lazy.specs.Lowering.{binder_number}
use Rattle.weld_lazy.proofs.calls.number_binders.Given as goal

abbrev pub decreases-loop-place : goal.decreases-loop-place
decreases-loop-place l = l.place

abbrev pub invariant-loop-place : goal.invariant-loop-place
invariant-loop-place l = record {
  within : l.place ≤ length l.binders;
  numbered : (s : ℕ) → look_for s l.renaming ≡ binder_number (l.base + l.place) (drop l.place l.binders) s;
}
