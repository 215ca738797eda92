use Rattle.weld_inputs.proofs.ArgumentsOneAnswer.{fits_or_not}
use Rattle.weld_inputs.proofs.arguments.laws.each_job_fits_or_not.Goals as goal

pub returns : goal.returns
returns c = fits_or_not c.each_text_reads_or_not.ensures c.each_table_reads_or_not.ensures c.table_types_have_columns.ensures.cells c.well_formed_types_are_readable.ensures
