use Rattle.weld_linear.proofs.Arms.{arms_by_labels}
use Rattle.weld_linear.proofs.laws.arms_agree_whatever_stood_before.Goals as goal

pub returns : goal.returns
returns c = arms_by_labels
