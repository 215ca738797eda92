use Rattle.std.proofs.Common.{◌≡◌, ℕ, ◌<◌}
use Rattle.weld_data.specs.declared.kind.Kind.TheVariants as kinds
use Rattle.weld_data.specs.Value.{number}
use Rattle.weld_turns.specs.CodeView.{slots_of}
use Rattle.weld_turns.specs.StepView.{words_of}
use Rattle.weld_turns.proofs.turns.show_words.Given as goal

abbrev pub invariant-loop-k : goal.invariant-loop-k
invariant-loop-k l = (j : ℕ) → j < l.k → slots_of l.slots j ≡ number kinds.I64 (words_of l.words j)
