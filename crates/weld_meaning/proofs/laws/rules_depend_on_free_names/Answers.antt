use Rattle.weld_meaning.proofs.FreeNames.{type_free, origin_free, keeps_free, taken_free, splits_free}
use Rattle.weld_meaning.proofs.laws.rules_depend_on_free_names.Goals as goal

pub returns : goal.returns
returns c = record { types = type_free; origins = origin_free; keeps = keeps_free; taken = taken_free; splits = splits_free }
