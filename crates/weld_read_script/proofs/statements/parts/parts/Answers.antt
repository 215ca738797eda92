use Rattle.std.proofs.Common.{rules}
use Rattle.std.proofs.lemmas.Iterator.Consumers.{map_from_collect}
use Rattle.std.proofs.lemmas.Iterator.Splits.{YieldsList-from_slice_split}
use Rattle.weld_grammar.specs.declared.terminals.symbol.Symbol.TheVariants.{Comma}
use Rattle.weld_grammar.specs.declared.terminal.Terminal.TheVariants.{Sign}
use Rattle.weld_grammar.specs.Grammar.{is_of}
use Rattle.weld_read_script.proofs.statements.parts.parts.Goals as goal

pub returns : goal.returns
returns c =
    map_from_collect _ c.collect.ensures.ran
    (YieldsList-from_slice_split _ (λ t. is_of (Sign Comma) t.class) c.args.tokens.now c.split.ensures.rest c.split.ensures.done c.split.ensures.closure (λ x b q k. search rules))
