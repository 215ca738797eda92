use Rattle.std.proofs.Common.{◌≡◌, ◌+◌, drop}
use Rattle.weld_tokens.specs.Bytes.{is_digit}
use Rattle.weld_tokens.specs.Scanning.{run_len}
use Rattle.weld_tokens.proofs.scan.digits_len.Given as goal

abbrev pub invariant-loop-i : goal.invariant-loop-i
invariant-loop-i l = run_len is_digit l.text ≡ l.i + run_len is_digit (drop l.i l.text)
