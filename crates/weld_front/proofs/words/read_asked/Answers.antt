use Rattle.std.proofs.Common.{ap, Err}
use Rattle.weld_front.proofs.words.read_asked.Goals as goal

pub returns-in-Err-Form-clause-none : goal.returns-in-Err-Form-clause-none
returns-in-Err-Form-clause-none c = λ served. c.in-Err-Form.ensures.form (ap Err c.in-Err-Form.field-0-is) served.0 served.1
