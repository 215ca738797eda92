use Rattle.std.proofs.Common.{◌≡◌, ◌≤◌, length}
use Rattle.weld_values.specs.Tokens.{after_blanks}
use Rattle.weld_values.proofs.tokens.after_blanks.Given as goal

abbrev pub invariant-loop-rest : goal.invariant-loop-rest
invariant-loop-rest l = record {
  value : after_blanks l.rest ≡ after_blanks l.text;
  no_longer : length l.rest ≤ length l.text;
}

abbrev pub decreases-loop-rest : goal.decreases-loop-rest
decreases-loop-rest l = length l.rest
