use Rattle.weld_libraries.proofs.Arguments.{few_arguments}
use Rattle.weld_libraries.proofs.fragments.make.fragment.Goals as goal

pub params_of-requires : goal.params_of-requires
params_of-requires c = few_arguments c.args.call c.args.types.now c.rows_are_short.ensures c.requires.fits
