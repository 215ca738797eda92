use Rattle.std.proofs.Common.{◌≤◌, length, rules}
use Rattle.weld_inputs.proofs.Claims.{all_read}
use Rattle.weld_inputs.proofs.claim.read_in_order.Goals as goal

pub returns-clause-values : goal.returns-clause-values
returns-clause-values g c =
    let over : length c.args.claims.now ≤ c.loop-claim.claim-index = search rules in
    all_read c.args.claims.now c.args.first c.loop-claim.claim-index c.loop-claim.number c.loop-claim.values over c.loop-claim.invariant
