use Rattle.weld_front.proofs.Accepts.{by_text}
use Rattle.weld_front.proofs.accepting.accept_text.Goals as goal

pub returns-in-Err-clause-refused : goal.returns-in-Err-clause-refused
returns-in-Err-clause-refused c = by_text c.args.text.now c.in-Err.refusal c.in-Err.ensures.refused
