use Rattle.std.proofs.Common.{◌≡◌, length, None}
use Rattle.weld_tokens.specs.Lists.{field_too_many}
use Rattle.weld_tokens.proofs.text_limits.lists.first_field_too_many.Given as goal

abbrev pub invariant-loop-more : goal.invariant-loop-more
invariant-loop-more l = field_too_many None l.tokens ≡ field_too_many l.found l.rest

abbrev pub decreases-loop-more : goal.decreases-loop-more
decreases-loop-more l = length l.rest
