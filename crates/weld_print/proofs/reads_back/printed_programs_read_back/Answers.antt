use Rattle.weld_print.proofs.Programs.{program_reads_back}
use Rattle.weld_print.proofs.reads_back.printed_programs_read_back.Goals as goal

pub returns-clause-made : goal.returns-clause-made
returns-clause-made c = program_reads_back c.distance_tells_binders_apart.ensures.apart c.distance_tells_binders_apart.ensures.bound

pub returns-clause-spelled : goal.returns-clause-spelled
returns-clause-spelled c = λ text p s is.
    program_reads_back c.distance_tells_binders_apart.ensures.apart c.distance_tells_binders_apart.ensures.bound p is (c.texts_spell_the_spellable.ensures text p s)
