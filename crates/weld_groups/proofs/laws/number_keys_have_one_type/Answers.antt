use Rattle.weld_pieces.proofs.KeptKeys.{numbers_have_one_type}
use Rattle.weld_groups.proofs.laws.number_keys_have_one_type.Goals as goal

pub returns : goal.returns
returns c = numbers_have_one_type
