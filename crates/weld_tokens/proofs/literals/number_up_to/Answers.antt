use Rattle.std.proofs.Common.{arith}
use Rattle.std.proofs.lemmas.Grind.{common_steps}
use Rattle.weld_tokens.proofs.Numbers.{past}
use Rattle.weld_tokens.proofs.literals.number_up_to.Goals as goal

pub returns-then-value-most-clause-none : goal.returns-then-value-most-clause-none
returns-then-value-most-clause-none c =
    past c.args.most c.loop-byte.value c.args.bytes.now c.loop-byte.byte-index (omega arith) (grind (arith, common_steps)) (omega arith) c.loop-byte.invariant.0

pub returns-then-next-most-clause-none : goal.returns-then-next-most-clause-none
returns-then-next-most-clause-none c =
    past c.args.most c.loop-byte.value c.args.bytes.now c.loop-byte.byte-index (omega arith) (grind (arith, common_steps)) (omega arith) c.loop-byte.invariant.0
