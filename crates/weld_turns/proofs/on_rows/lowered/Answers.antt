use Rattle.std.proofs.Common.{IfOk, subst}
use Rattle.weld_turns.specs.Lowering.{Lowers, Meaning}
use Rattle.weld_turns.proofs.on_rows.lowered.Goals as goal

pub returns : goal.returns
returns c = subst (λ (m : Meaning). IfOk c.lower.result (λ t. Lowers c.args.shape t m)) c.of_turn-whole.ensures c.lower.ensures.lowered
