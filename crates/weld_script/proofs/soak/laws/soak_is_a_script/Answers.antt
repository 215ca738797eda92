use Rattle.weld_script.proofs.Fixed.{is_soak}
use Rattle.weld_script.proofs.Rows.{table_fits}
use Rattle.weld_script.proofs.soak.laws.soak_is_a_script.Goals as goal

pub returns-clause-script : goal.returns-clause-script
returns-clause-script c = is_soak

pub returns-clause-inputs : goal.returns-clause-inputs
returns-clause-inputs c = table_fits
