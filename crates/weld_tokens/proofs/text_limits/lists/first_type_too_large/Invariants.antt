use Rattle.std.proofs.Common.{◌≡◌, length}
use Rattle.weld_tokens.specs.Lists.{first_type_too_large}
use Rattle.weld_tokens.proofs.text_limits.lists.first_type_too_large.Given as goal

abbrev pub invariant-loop-first : goal.invariant-loop-first
invariant-loop-first l = first_type_too_large l.tokens ≡ first_type_too_large l.rest

abbrev pub decreases-loop-first : goal.decreases-loop-first
decreases-loop-first l = length l.rest
