use Rattle.weld_tokens.proofs.OneReading.{one-tokens, one-wrong, not-both}
use Rattle.weld_tokens.proofs.laws.one_reading.Goals as goal

pub returns-clause-tokens : goal.returns-clause-tokens
returns-clause-tokens c = one-tokens

pub returns-clause-wrong : goal.returns-clause-wrong
returns-clause-wrong c = one-wrong

pub returns-clause-not_both : goal.returns-clause-not_both
returns-clause-not_both c = not-both
