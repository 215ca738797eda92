use Rattle.std.proofs.Common.{add-one, sym}
use Rattle.weld_tokens.proofs.Longest.{longest-string, longest-no_string}
use Rattle.weld_tokens.proofs.token_at.string_at.Goals as goal

pub returns-in-Some-clause-some : goal.returns-in-Some-clause-some
returns-in-Some-clause-some c = rw add-one (longest-string c.args.rest.now c.in-Some.count (sym c.in-Some.ensures.value))

pub returns-in-None-clause-none : goal.returns-in-None-clause-none
returns-in-None-clause-none c = longest-no_string c.args.rest.now (sym c.in-None.ensures.value)
