use Rattle.std.proofs.Common.{◌≡◌, ◌+◌, ◌≤◌, drop}
use Rattle.weld_tokens.specs.TokenLimits.{nests_too_deep}
use Rattle.weld_tokens.proofs.limits.nests_too_deep.Given as goal

abbrev pub invariant-loop-token : goal.invariant-loop-token
invariant-loop-token l = (l.brackets + l.run ≤ 100) × (nests_too_deep 0 0 l.tokens ≡ nests_too_deep l.brackets l.run (drop l.token-index l.tokens))
