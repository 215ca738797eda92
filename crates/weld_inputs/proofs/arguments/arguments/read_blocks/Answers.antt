use Rattle.std.proofs.Common.{◌≡◌, ◌+◌, ◌<◌, ◌≤◌, length, sym, subst, arith, rules}
use Rattle.std.specs.List.{All}
use Rattle.weld_inputs.specs.Arguments.{Tells}
use Rattle.weld_inputs.specs.Claims.{MayBeRead, ClaimsGive, ClaimsFail}
use Rattle.weld_inputs.proofs.ArgumentsBlocks.{may_be_read, unfit, missing, one_too_many, all_given}
use Rattle.weld_inputs.proofs.Owners.{whole, not_whole}
use Rattle.weld_inputs.proofs.arguments.arguments.read_blocks.Goals as goal

pub read_claims-requires-clause-may : goal.read_claims-requires-clause-may
read_claims-requires-clause-may g c κs within = subst (All MayBeRead) (sym c.as_slice.ensures.value) (may_be_read c.args.params.now c.args.job.now.blocks c.in-Ok.claims.items c.in-Ok.ensures.claimed)

pub returns-in-Err-clause-unfit : goal.returns-in-Err-clause-unfit
returns-in-Err-clause-unfit g c =
    unfit c.args.params.now c.args.job.now.blocks c.in-Ok.claims.items c.in-Err.stop c.in-Ok.ensures.claimed
    (subst (λ cs. Tells (ClaimsFail cs 1) c.in-Err.stop) c.as_slice.ensures.value c.in-Err.ensures.unfit)

pub returns-then-not-is_all-clause-unfit : goal.returns-then-not-is_all-clause-unfit
returns-then-not-is_all-clause-unfit g c =
    let cs = c.in-Ok.claims.items in
    let number : c.len.result + 1 ≡ 1 + length cs = omega (arith, c.len.ensures) in
    missing c.args.params.now c.args.job.now.blocks cs c.in-Ok-read_claims.arguments 1 (c.len.result + 1) number
    (not_whole (length (c.args.params.now)) (length cs) c.in-Ok.is_all c.if-not-is_all.true c.in-Ok.ensures.all)
    c.in-Ok.ensures.claimed (subst (λ ds. ClaimsGive ds c.in-Ok-read_claims.arguments) c.as_slice.ensures.value c.in-Ok-read_claims.ensures.values)

pub returns-then-len-block_count-clause-unfit : goal.returns-then-len-block_count-clause-unfit
returns-then-len-block_count-clause-unfit g c =
    let cs = c.in-Ok.claims.items in
    let number : c.len.result + 1 ≡ 1 + length cs = omega (arith, c.len.ensures) in
    let below : length cs < length c.args.job.now.blocks = search rules in
    one_too_many c.args.params.now c.args.job.now.blocks cs c.in-Ok-read_claims.arguments 1 (c.len.result + 1) number
    (whole (length (c.args.params.now)) (length cs) c.in-Ok.is_all c.if-not-is_all.false c.in-Ok.ensures.all) below
    c.in-Ok.ensures.claimed (subst (λ ds. ClaimsGive ds c.in-Ok-read_claims.arguments) c.as_slice.ensures.value c.in-Ok-read_claims.ensures.values)

pub returns-clause-arguments : goal.returns-clause-arguments
returns-clause-arguments g c =
    let cs = c.in-Ok.claims.items in
    let past : length c.args.job.now.blocks ≤ length cs = search rules in
    all_given c.args.params.now c.args.job.now.blocks cs c.in-Ok-read_claims.arguments
    (whole (length (c.args.params.now)) (length cs) c.in-Ok.is_all c.if-not-is_all.false c.in-Ok.ensures.all) past
    c.in-Ok.ensures.claimed (subst (λ ds. ClaimsGive ds c.in-Ok-read_claims.arguments) c.as_slice.ensures.value c.in-Ok-read_claims.ensures.values)
