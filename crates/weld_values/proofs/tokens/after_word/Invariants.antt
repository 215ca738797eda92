use Rattle.std.proofs.Common.{◌≡◌, drop, length, ◌+◌, ◌≤◌}
use Rattle.weld_values.specs.Tokens.{after_word}
use Rattle.weld_values.proofs.tokens.after_word.Given as goal

abbrev pub invariant-loop-byte : goal.invariant-loop-byte
invariant-loop-byte l = record {
  word : after_word (drop l.byte-index l.word) l.rest ≡ after_word l.word l.text;
  less : length l.rest + l.byte-index ≤ length l.text;
}
