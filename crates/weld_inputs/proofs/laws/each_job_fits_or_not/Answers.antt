use Rattle.weld_inputs.proofs.OneAnswer.{fits_or_not}
use Rattle.weld_inputs.proofs.laws.each_job_fits_or_not.Goals as goal

pub returns : goal.returns
returns c = fits_or_not (record { text = c.each_text_reads_or_not.ensures; table = c.each_table_reads_or_not.ensures; readable = c.well_formed_types_are_readable.ensures })
