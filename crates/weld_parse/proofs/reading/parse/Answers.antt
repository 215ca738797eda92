use Rattle.std.proofs.Common.{sym, ◌∙◌}
use Rattle.weld_parse.proofs.Answering.{by_token}
use Rattle.weld_parse.proofs.reading.parse.Goals as goal

pub returns-in-Err-clause-refused : goal.returns-in-Err-clause-refused
returns-in-Err-clause-refused c = λ n. by_token c.args.text.now c.in-Err.refusal (sym c.has_too_many_bytes.ensures ∙ c.if-has_too_many_bytes.false) c.in-Err.ensures.refused n
