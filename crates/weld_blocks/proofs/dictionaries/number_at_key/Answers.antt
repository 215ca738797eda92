use Rattle.weld_data.specs.View.{view_val}
use Rattle.weld_blocks.proofs.KeyLemmas.{found_number}
use Rattle.weld_blocks.proofs.dictionaries.number_at_key.Goals as goal

pub returns-in-Some : goal.returns-in-Some
returns-in-Some c = found_number c.number_of.result c.args.pairs.now (view_val c.args.key.now) (view_val c.in-Some.v.now) c.in-Some.ensures c.number_of.ensures
