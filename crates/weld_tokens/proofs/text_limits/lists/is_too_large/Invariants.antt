use Rattle.std.proofs.Common.{◌≡◌, ◌≤◌, drop}
use Rattle.weld_tokens.specs.Lists.{is_too_large}
use Rattle.weld_tokens.proofs.text_limits.lists.is_too_large.Given as goal

abbrev pub invariant-loop-token : goal.invariant-loop-token
invariant-loop-token l = (l.nodes ≤ l.token-index) × (l.brackets ≤ l.token-index) × (is_too_large 0 0 l.tokens ≡ is_too_large l.nodes l.brackets (drop l.token-index l.tokens))
