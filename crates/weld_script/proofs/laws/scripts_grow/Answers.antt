use Rattle.std.proofs.Common.{[]}
use Rattle.weld_script.proofs.Growing.{made_grow, types_grow, declared_grow}
use Rattle.weld_script.proofs.laws.scripts_grow.Goals as goal

pub returns-clause-made : goal.returns-clause-made
returns-clause-made c = λ ms m old new. made_grow [] ms m old new

pub returns-clause-types : goal.returns-clause-types
returns-clause-types c = λ ms m. types_grow [] ms m

pub returns-clause-declared : goal.returns-clause-declared
returns-clause-declared c = declared_grow
