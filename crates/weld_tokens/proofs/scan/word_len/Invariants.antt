use Rattle.std.proofs.Common.{◌≡◌, ◌+◌, drop}
use Rattle.weld_tokens.specs.Bytes.{is_word_byte}
use Rattle.weld_tokens.specs.Scanning.{run_len}
use Rattle.weld_tokens.proofs.scan.word_len.Given as goal

abbrev pub invariant-loop-i : goal.invariant-loop-i
invariant-loop-i l = run_len is_word_byte l.text ≡ l.i + run_len is_word_byte (drop l.i l.text)
