use Rattle.weld_parse.proofs.OneAnswer.{parsed_is_program}
use Rattle.weld_parse.proofs.laws.parsed_programs.Goals as goal

pub returns : goal.returns
returns c = parsed_is_program c.spelled_programs.ensures c.one_program.ensures
