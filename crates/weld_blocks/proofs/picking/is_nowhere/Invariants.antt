use Rattle.std.proofs.Common.{◌≡◌, ℕ, ◌<◌}
use Rattle.weld_builders.specs.Outcome.{done}
use Rattle.weld_meaning.specs.Evaluation.{truth_of}
use Rattle.weld_blocks.specs.Numbers.{number_at}
use Rattle.weld_blocks.proofs.picking.is_nowhere.Given as goal

abbrev pub invariant-loop-place : goal.invariant-loop-place
invariant-loop-place l = (j : ℕ) → j < l.place → truth_of (number_at l.truths j) ≡ done l.truth → ⊥
