use Rattle.std.proofs.Common.{◌≡◌, drop}
use Rattle.weld_tokens.specs.Order.{first_out_of_range}
use Rattle.weld_tokens.proofs.order.first_out_of_range.Given as goal

abbrev pub invariant-loop-i : goal.invariant-loop-i
invariant-loop-i l = first_out_of_range l.negative l.tokens ≡ first_out_of_range (drop l.i l.negative) (drop l.i l.tokens)
