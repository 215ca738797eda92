use Rattle.std.proofs.Common.{◌≡◌, ℕ}
use Rattle.weld_rewriting.specs.Sweep.{swept_times}
use Rattle.weld_rewriting.specs.Weight.{weight}
use Rattle.weld_rewriting.proofs.rounds.rounds.sweep_until_still.Given as goal

abbrev pub invariant-rounds : goal.invariant-rounds
invariant-rounds g l = (n : ℕ) × (l.e ≡ swept_times n (g.R.Rule.rule l.rule) l.initial.e)

abbrev pub decreases-rounds : goal.decreases-rounds
decreases-rounds g l = weight l.e
