use Rattle.weld_reduce.proofs.Made.{few_derived, none_derived}
use Rattle.weld_reduce.proofs.laws.binders_are_few.Goals as goal

pub returns-clause-few : goal.returns-clause-few
returns-clause-few c = few_derived

pub returns-clause-none : goal.returns-clause-none
returns-clause-none c = none_derived
