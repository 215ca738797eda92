use Rattle.weld_calls.proofs.Keys.{rule_at}
use Rattle.weld_calls.proofs.lists.each_key_has_its_rule.Goals as goal

pub returns : goal.returns
returns c = rule_at
