use Rattle.std.proofs.Common.{◌≤◌, ◌+◌, length, map, arith}
use Rattle.weld_lanes.proofs.Meaning.{more_folded, all_folded}
use Rattle.weld_lanes.proofs.kernels.fold_rows.Goals as goal

pub loop-from-preserved : goal.loop-from-preserved
loop-from-preserved g c =
    let f = g.L.Lane.number in
    let count = c.min-count.result in
    let within : c.loop-from.from + count ≤ length c.args.first.now = omega (arith, c.min-count.ensures) in
    record {
      within = within;
      come = more_folded f g.L.Lane.kind c.args.op c.args.program.now.steps.items (map f c.args.uniforms.now) c.args.first.now c.args.second.now c.part-cells.result.now c.part-others.result.now c.loop-from.from count
          (f c.args.start) (f c.loop-from.total) (f c.fold_block-total.result)
          c.requires.second within c.part-cells.ensures.long c.part-others.ensures.long c.part-cells.ensures.each c.part-others.ensures.each c.loop-from.invariant.come c.fold_block-total.ensures;
    }

pub returns : goal.returns
returns g c =
    let f = g.L.Lane.number in
    all_folded f g.L.Lane.kind c.args.op c.args.program.now.steps.items (map f c.args.uniforms.now) c.args.first.now c.args.second.now c.loop-from.from (f c.args.start) (f c.loop-from.total)
    c.requires.second c.loop-from.invariant.within c.loop-from-test.false c.loop-from.invariant.come
