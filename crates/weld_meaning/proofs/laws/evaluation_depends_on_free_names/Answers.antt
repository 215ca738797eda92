use Rattle.weld_meaning.proofs.Names.{eval_free}
use Rattle.weld_meaning.proofs.laws.evaluation_depends_on_free_names.Goals as goal

pub returns : goal.returns
returns c = eval_free
