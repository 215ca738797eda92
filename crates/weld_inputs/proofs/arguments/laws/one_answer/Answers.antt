use Rattle.weld_inputs.proofs.ArgumentsOneAnswer.{ReadsOnce, one_arguments, fit_or_unfit, one_unfit}
use Rattle.weld_inputs.proofs.arguments.laws.one_answer.Goals as goal

pub returns : goal.returns
returns c =
    let once : ReadsOnce = record { value = c.one_reading.ensures.value; no_reason = c.one_reading.ensures.no_reason; one_reason = c.one_reading.ensures.one_reason; table = c.one_table.ensures.value; no_table_reason = c.one_table.ensures.no_reason; one_table_reason = c.one_table.ensures.one_reason } in
    record { arguments = one_arguments once; fits = fit_or_unfit once; unfit = one_unfit once }
