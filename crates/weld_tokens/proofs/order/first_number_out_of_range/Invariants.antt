use Rattle.std.proofs.Common.{◌≡◌, false, drop}
use Rattle.weld_tokens.specs.Order.{first_out_of_range, behind_signs}
use Rattle.weld_tokens.proofs.order.first_number_out_of_range.Given as goal

abbrev pub invariant-loop-token : goal.invariant-loop-token
invariant-loop-token l =
    first_out_of_range (behind_signs false false l.tokens) l.tokens
    ≡ first_out_of_range (behind_signs l.operand l.behind (drop l.token-index l.tokens)) (drop l.token-index l.tokens)
