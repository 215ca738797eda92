use Rattle.std.proofs.Common.{◌≡◌, ◌+◌, ◌<◌, ◌≤◌, length, drop, ap, subst, rules}
use Rattle.std.proofs.lemmas.List.{drop_all}
use Rattle.std.specs.Prelude.{Some, None, slice_get}
use Rattle.weld_job.specs.Extents.{block_of}
use Rattle.weld_script.specs.Script.{declared_of}
use Rattle.weld_inputs.specs.Claims.{IsOfDeclared}
use Rattle.weld_inputs.proofs.Blocks.{next_declared, first_may, others_may}
use Rattle.weld_inputs.proofs.Owners.{one_claimed, no_more_claimed, all_claimed}
use Rattle.weld_inputs.proofs.inputs.claim_blocks.Goals as goal

pub returns-in_default-block-clause-claimed : goal.returns-in_default-block-clause-claimed
returns-in_default-block-clause-claimed c =
    let ms = c.args.made.now in
    let i = c.loop-object.object-index in
    let within : i < length ms = search rules in
    let count : c.len.result ≡ length c.loop-object.claims.items = search rules in
    no_more_claimed IsOfDeclared (declared_of ms) (declared_of (drop i ms)) (declared_of (drop (i + 1) ms)) c.args.job.now.blocks c.loop-object.claims.items c.in-Declared.declared
    (next_declared ms i c.object-item.result c.in-Declared.declared c.in-Declared.is within c.object-item.is)
    (subst (λ n. None ≡ slice_get c.args.job.now.blocks n) count c.in_default-block.ensures)
    c.loop-object.invariant.0

pub claim_block-requires : goal.claim_block-requires
claim_block-requires c =
    let ms = c.args.made.now in
    let i = c.loop-object.object-index in
    let within : i < length ms = search rules in
    record {
      may = first_may c.in-Declared.declared (declared_of (drop i ms)) (declared_of (drop (i + 1) ms))
          (next_declared ms i c.object-item.result c.in-Declared.declared c.in-Declared.is within c.object-item.is) c.loop-object.invariant.1;
    }

pub loop-object-preserved : goal.loop-object-preserved
loop-object-preserved c =
    let ms = c.args.made.now in
    let i = c.loop-object.object-index in
    let within : i < length ms = search rules in
    let count : c.len.result ≡ length c.loop-object.claims.items = search rules in
    let next = next_declared ms i c.object-item.result c.in-Declared.declared c.in-Declared.is within c.object-item.is in (
      one_claimed IsOfDeclared (declared_of ms) (declared_of (drop i ms)) (declared_of (drop (i + 1) ms)) c.args.job.now.blocks c.loop-object.claims.items c.push.new.self.items
          c.in-Declared.declared (block_of c.in-Some.block) c.claim_block.result next
          (subst (λ n. Some (block_of c.in-Some.block) ≡ slice_get c.args.job.now.blocks n) count c.in-Some.ensures)
          c.claim_block.ensures c.in_ok-push.ensures.items c.loop-object.invariant.0,
      others_may c.in-Declared.declared (declared_of (drop i ms)) (declared_of (drop (i + 1) ms)) next c.loop-object.invariant.1,
    )

pub returns-clause-claimed : goal.returns-clause-claimed
returns-clause-claimed c =
    let ms = c.args.made.now in
    let over : length ms ≤ c.loop-object.object-index = search rules in
    all_claimed IsOfDeclared (declared_of ms) (declared_of (drop c.loop-object.object-index ms)) c.args.job.now.blocks c.loop-object.claims.items
    (ap declared_of (drop_all c.loop-object.object-index ms over)) c.loop-object.invariant.0
