use Rattle.std.proofs.Common.{◌≡◌, drop}
use Rattle.weld_tokens.specs.TokenLimits.{first_long_name}
use Rattle.weld_tokens.proofs.limits.first_long_name.Given as goal

abbrev pub invariant-loop-token : goal.invariant-loop-token
invariant-loop-token l = first_long_name l.tokens ≡ first_long_name (drop l.token-index l.tokens)
