use Rattle.std.proofs.Common.{[]}
use Rattle.weld_grammar.specs.declared.rule.Rule.TheVariants.{Program}
use Rattle.weld_grammar.specs.declared.item.Item.TheVariants.{Part as OfRule}
use Rattle.weld_grammar.specs.Grammar.{item}
use Rattle.weld_spell.specs.Names.{none}
use Rattle.weld_spell.proofs.Standing.{stands}
use Rattle.weld_spell.proofs.names.misnamed_stands.Goals as goal

pub returns : goal.returns
returns c = λ tree refused e. stands none (item (OfRule Program)) tree [] refused e
