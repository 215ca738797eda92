use Rattle.std.proofs.Common.{rules}
use Rattle.weld_built.proofs.KeyLemmas.{joined_to_none}
use Rattle.weld_built.proofs.keyed.join_keyed.Goals as goal

pub returns-then-is_empty-clause-ok : goal.returns-then-is_empty-clause-ok
returns-then-is_empty-clause-ok c = search (rules, joined_to_none c.args.part.now.op c.args.part.now.kind c.args.part.now.numbers c.args.later.numbers)
