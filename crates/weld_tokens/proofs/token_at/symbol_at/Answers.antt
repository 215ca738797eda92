use Rattle.std.proofs.Common.{sym, ◌∙◌}
use Rattle.weld_tokens.proofs.Longest.{longest-double-of, longest-single, longest-no_symbol}
use Rattle.weld_tokens.proofs.token_at.symbol_at.Goals as goal

pub returns-in-Some-clause-some : goal.returns-in-Some-clause-some
returns-in-Some-clause-some c =
    let found = c.in-Some.ensures.some in
    longest-double-of c.args.first c.args.rest.now c.in-Some.symbol c.requires found.0 found.1 found.2 found.3

pub returns-in-Some-single-clause-some : goal.returns-in-Some-single-clause-some
returns-in-Some-single-clause-some c =
    longest-single c.args.first c.args.rest.now _ c.requires c.in-None.ensures.none (sym c.single.ensures ∙ c.in-Some-single.is)

pub returns-in-None-single-clause-none : goal.returns-in-None-single-clause-none
returns-in-None-single-clause-none c =
    longest-no_symbol c.args.first c.args.rest.now c.requires c.in-None.ensures.none (sym c.single.ensures ∙ c.in-None-single.is)
