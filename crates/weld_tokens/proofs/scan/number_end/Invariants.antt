use Rattle.std.proofs.Common.{◌≡◌, ◌+◌, drop}
use Rattle.weld_tokens.specs.Scanning.{number_end}
use Rattle.weld_tokens.proofs.scan.number_end.Given as goal

abbrev pub invariant-loop-i : goal.invariant-loop-i
invariant-loop-i l = number_end l.text ≡ (l.i + (number_end (drop l.i l.text)).0, (number_end (drop l.i l.text)).1)
