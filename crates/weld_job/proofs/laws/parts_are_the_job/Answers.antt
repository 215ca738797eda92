use Rattle.weld_job.specs.Blocks.{data_lines}
use Rattle.weld_job.proofs.Whole.{joined-is, forms-lines}
use Rattle.weld_job.proofs.laws.parts_are_the_job.Goals as goal

pub returns-clause-whole : goal.returns-clause-whole
returns-clause-whole c = joined-is c.args.job.now

pub returns-clause-forms : goal.returns-clause-forms
returns-clause-forms c = forms-lines (data_lines c.args.job.now)
