use Rattle.std.proofs.Common.{◌≡◌, length}
use Rattle.weld_values.specs.Tokens.{value_after, digit_run, after_digits}
use Rattle.weld_values.proofs.digits.many_digits.Given as goal

-- the rest completes the number
abbrev pub invariant-loop-first : goal.invariant-loop-first
invariant-loop-first l = record {
  value : value_after l.value (digit_run l.rest) ≡ value_after l.before (digit_run l.text);
  after : after_digits l.rest ≡ after_digits l.text;
}

abbrev pub decreases-loop-first : goal.decreases-loop-first
decreases-loop-first l = length l.rest
