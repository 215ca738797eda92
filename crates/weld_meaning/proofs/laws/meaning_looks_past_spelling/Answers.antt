use Rattle.weld_meaning.proofs.Names.{meaning_same}
use Rattle.weld_meaning.proofs.laws.meaning_looks_past_spelling.Goals as goal

pub returns : goal.returns
returns c = meaning_same
