use Rattle.weld_values.proofs.Scalars.{truth_read, truth_unread}
use Rattle.weld_values.proofs.cell.BoolCell.read.Goals as goal

pub returns-in-Some-clause-found : goal.returns-in-Some-clause-found
returns-in-Some-clause-found c = truth_read c.args.text.now c.after_blanks.result.now c.in-Some.rest.now c.in-Some.value c.after_blanks.ensures.value c.in-Some.ensures.value

pub returns-in-None-clause-none : goal.returns-in-None-clause-none
returns-in-None-clause-none c = truth_unread c.args.text.now c.after_blanks.result.now c.after_blanks.ensures.value c.in-None.ensures.value
