use Rattle.weld_calls.proofs.EachCall.{each_call}
use Rattle.weld_calls.proofs.call_laws.each_call_means_its_list.Goals as goal

pub returns : goal.returns
returns c = λ call types vs operator fits arguments.
    each_call call types operator (c.rows_are_a_table.ensures.table call types fits) vs arguments
