use Rattle.std.proofs.Common.{◌≡◌, ◌+◌, ◌≤◌, length}
use Rattle.weld_tokens.specs.Lists.{behind_commas}
use Rattle.weld_tokens.proofs.text_limits.lists.behind_commas.Given as goal

abbrev pub invariant-loop-first : goal.invariant-loop-first
invariant-loop-first l = (l.brackets + length l.rest ≤ length l.tokens) × (behind_commas l.fn.params l.fn.commas 0 l.tokens ≡ behind_commas l.fn.params l.left l.brackets l.rest)

abbrev pub decreases-loop-first : goal.decreases-loop-first
decreases-loop-first l = length l.rest
