use Rattle.weld_spell.proofs.Broken.{derived-or-broken}
use Rattle.weld_spell.proofs.programs.derived_or_broken.Goals as goal

pub returns : goal.returns
returns c = λ r xs. derived-or-broken c.pending_is_derived.ensures r xs
