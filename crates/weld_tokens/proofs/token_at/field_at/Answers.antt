use Rattle.std.proofs.Common.{add-one, arith}
use Rattle.weld_tokens.proofs.Longest.{longest-field, longest-no_field}
use Rattle.weld_tokens.proofs.token_at.field_at.Goals as goal

pub returns-then-count-eq0-clause-none : goal.returns-then-count-eq0-clause-none
returns-then-count-eq0-clause-none c = longest-no_field c.args.rest.now (omega arith)

pub returns-clause-some : goal.returns-clause-some
returns-clause-some c = rw add-one (longest-field c.args.rest.now c.min-count.result (omega arith) (omega arith))
