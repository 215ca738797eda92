use Rattle.std.proofs.Common.{rules, map, length, drop}
use Rattle.weld_lanes.proofs.Running.{answered_front}
use Rattle.weld_lanes.proofs.kernels.answer_into.Goals as goal

pub returns : goal.returns
returns g c =
    let f = g.L.Lane.number in
    let rows = c.args.rows.now in
    answered_front f g.L.Lane.kind rows.steps.now (map f rows.uniforms.now) (map f rows.first.now) (map f rows.second.now) c.args.step c.answer_step.new.out (drop (length rows.first.now) c.args.rest.now) (length rows.first.now) (search rules) c.answer_step.ensures
