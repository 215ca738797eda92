use Rattle.weld_calls.specs.CallTypes.{answer_of}
use Rattle.weld_calls.specs.CallPrograms.{fragment}
use Rattle.weld_libraries.proofs.Whole.{sound_call}
use Rattle.weld_libraries.proofs.fragments.laws.fragments_are_accepted.Goals as goal

pub returns-clause-program : goal.returns-clause-program
returns-clause-program c = λ call types o f v. (sound_call call types o (c.rows_are_a_table.ensures.table call types f) v).program

pub returns-clause-accepted : goal.returns-clause-accepted
returns-clause-accepted c = λ call types o f v.
    let s = sound_call call types o (c.rows_are_a_table.ensures.table call types f) v in
    let k = (c.the_walk_is_linear_use.ensures (fragment call types)).0 s.linear in
    record { typed = (answer_of call types, s.typed); keeps = k.0; splits = k.1 }

pub returns-clause-typed : goal.returns-clause-typed
returns-clause-typed c = λ call types o f v. (sound_call call types o (c.rows_are_a_table.ensures.table call types f) v).typed
