use Rattle.weld_grammar.proofs.Broken.{end_derives}
use Rattle.weld_grammar.proofs.laws.pending_is_derived.Goals as goal

pub returns : goal.returns
returns c = λ r xs s e h. end_derives r xs s e h
