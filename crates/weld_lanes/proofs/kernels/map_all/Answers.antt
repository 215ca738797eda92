use Rattle.std.proofs.Common.{rules, ◌≡◌, ◌≤◌, length, map, ◌∙◌, arith}
use Rattle.weld_lanes.proofs.Meaning.{more_rows, all_rows}
use Rattle.weld_lanes.proofs.kernels.map_all.Goals as goal

pub loop-from-preserved : goal.loop-from-preserved
loop-from-preserved g c =
    let f = g.L.Lane.number in
    let count = c.min-count.result in
    let long : length c.loop-from.out ≡ length c.args.first.now = c.loop-from.auto.out ∙ c.requires.out in
    let within : c.loop-from.from ≤ length c.loop-from.out = omega (arith, long) in
    record {
      within = omega (arith, c.min-count.ensures);
      each = more_rows f g.L.Lane.kind c.args.program.now.steps.items (map f c.args.uniforms.now) c.args.first.now c.args.second.now c.part-cells.result.now c.part-others.result.now c.loop-from.out c.map_block.new.out _ c.loop-from.from count
          within (search rules) c.part-cells.ensures.long c.part-cells.ensures.each c.part-others.ensures.each c.map_block.ensures c.loop-from.invariant.each;
    }

pub returns : goal.returns
returns g c =
    let f = g.L.Lane.number in
    all_rows f g.L.Lane.kind c.args.program.now.steps.items (map f c.args.uniforms.now) c.args.first.now c.args.second.now c.loop-from.out c.loop-from.from
    c.requires.second (c.loop-from.auto.out ∙ c.requires.out) c.loop-from-test.false c.loop-from.invariant.each
