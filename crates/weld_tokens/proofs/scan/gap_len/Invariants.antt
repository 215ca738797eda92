use Rattle.std.proofs.Common.{◌≡◌, ◌+◌, drop}
use Rattle.weld_tokens.specs.Tokens.{gap_len}
use Rattle.weld_tokens.proofs.Runs.{gap_left}
use Rattle.weld_tokens.proofs.scan.gap_len.Given as goal

abbrev pub invariant-loop-i : goal.invariant-loop-i
invariant-loop-i l = gap_len l.text ≡ l.i + gap_left l.in_comment (drop l.i l.text)
