use Rattle.weld_parse.proofs.OneAnswer.{answered}
use Rattle.weld_parse.proofs.laws.parsed_or_refused.Goals as goal

pub returns : goal.returns
returns c = λ text. answered text (c.some_reading.ensures text) c.derived_or_broken.ensures c.programs_are_derived.ensures.spelled
