use Rattle.weld_spell.proofs.Sound.{spelled-program}
use Rattle.weld_spell.proofs.programs.spelled_programs.Goals as goal

pub returns : goal.returns
returns c = λ tree h ranged named few. spelled-program c.binders_count_up.ensures.distinct tree h ranged named few
