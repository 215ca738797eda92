use Rattle.weld_libraries.proofs.Whole.{sound_call}
use Rattle.weld_libraries.proofs.fragments.laws.fragments_are_small.Goals as goal

pub returns-clause-few : goal.returns-clause-few
returns-clause-few c = λ call types o f v. (sound_call call types o (c.rows_are_a_table.ensures.table call types f) v).few
