use Rattle.std.proofs.Common.{◌≡◌, ◌+◌, ◌<◌, ◌≤◌, length, drop, sym, subst, rules}
use Rattle.std.proofs.lemmas.List.{drop_all}
use Rattle.std.specs.Prelude.{Some, None, slice_get}
use Rattle.weld_tree.specs.declared.binder.Binder.{Binder}
use Rattle.weld_job.specs.Extents.{block_of}
use Rattle.weld_meaning.specs.Typing.{ParamFits}
use Rattle.weld_inputs.specs.Claims.{IsOfParam}
use Rattle.weld_inputs.proofs.ArgumentsBlocks.{next_param, param_at}
use Rattle.weld_inputs.proofs.Owners.{one_claimed, no_more_claimed, all_claimed}
use Rattle.weld_inputs.proofs.arguments.arguments.claim_blocks.Goals as goal

pub returns-in_default-clause-claimed : goal.returns-in_default-clause-claimed
returns-in_default-clause-claimed c =
    let bs = c.args.params.now in
    let i = c.loop-param.param-index in
    let within : i < length bs = search rules in
    let count : c.len.result ≡ length c.loop-param.claims.items = search rules in
    no_more_claimed IsOfParam bs (drop i bs) (drop (i + 1) bs) c.args.job.now.blocks c.loop-param.claims.items c.param-item.result
    (next_param bs i c.param-item.result within c.param-item.is)
    (subst (λ n. None ≡ slice_get c.args.job.now.blocks n) count c.in_default.ensures)
    c.loop-param.invariant

pub claim_block-requires : goal.claim_block-requires
claim_block-requires c =
    let bs = c.args.params.now in
    let i = c.loop-param.param-index in
    let within : i < length bs = search rules in
    record { fits = subst (λ (b : Binder). ParamFits b.note) (sym c.param-item.is) (param_at bs i c.param-item.result within c.requires.fit) }

pub loop-param-preserved : goal.loop-param-preserved
loop-param-preserved c =
    let bs = c.args.params.now in
    let i = c.loop-param.param-index in
    let within : i < length bs = search rules in
    let count : c.len.result ≡ length c.loop-param.claims.items = search rules in
    one_claimed IsOfParam bs (drop i bs) (drop (i + 1) bs) c.args.job.now.blocks c.loop-param.claims.items c.push.new.self.items c.param-item.result (block_of c.in-Some.block) c.claim_block.result
    (next_param bs i c.param-item.result within c.param-item.is)
    (subst (λ n. Some (block_of c.in-Some.block) ≡ slice_get c.args.job.now.blocks n) count c.in-Some.ensures)
    c.claim_block.ensures c.in_ok-push.ensures.items c.loop-param.invariant

pub returns-clause-claimed : goal.returns-clause-claimed
returns-clause-claimed c =
    let bs = c.args.params.now in
    let over : length bs ≤ c.loop-param.param-index = search rules in
    all_claimed IsOfParam bs (drop c.loop-param.param-index bs) c.args.job.now.blocks c.loop-param.claims.items (drop_all c.loop-param.param-index bs over) c.loop-param.invariant
