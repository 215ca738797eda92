use Rattle.std.proofs.Common.{ℕ, sym, subst}
use Rattle.weld_grammar.specs.declared.rule.Rule.TheVariants.{Program}
use Rattle.weld_grammar.specs.Breaks.{BreaksAt}
use Rattle.weld_grammar.specs.Classes.{classes}
use Rattle.weld_parse.proofs.Answering.{stops_at}
use Rattle.weld_parse.proofs.program.read_program.Goals as goal

pub returns-in-Err-Break-clause-unread : goal.returns-in-Err-Break-clause-unread
returns-in-Err-Break-clause-unread c =
    let P : ℕ → Type 0 = BreaksAt Program (classes c.args.tokens.now) in
    subst P (sym c.in-Err-Break.number-is) (stops_at _ c.in-Err-Break.number _ c.in-Err-Break.field-0-is c.in-Err-Break.ensures.broken)
