use Rattle.std.proofs.Common.{rules, subst, sym, List, length, map, IsTrue}
use Rattle.weld_lanes.specs.declared.steps.LaneStep.{LaneStep}
use Rattle.weld_data.specs.declared.kind.Kind.{Kind}
use Rattle.weld_lanes.specs.Formed.{is_formed, are_formed}
use Rattle.weld_lanes.specs.Blocks.{IsAnswered, step_at}
use Rattle.weld_lanes.proofs.Running.{formed_at, one_more}
use Rattle.weld_lanes.proofs.kernels.answer_next.Goals as goal

pub answer_into-requires-clause-formed : goal.answer_into-requires-clause-formed
answer_into-requires-clause-formed g c =
    subst (λ (ss : List LaneStep). IsTrue (is_formed g.L.Lane.kind c.args.place (step_at ss c.args.place))) (sym c.as_slice-steps.ensures.value)
    (subst (λ (k : Kind). IsTrue (is_formed k c.args.place (step_at c.args.program.now.steps.items c.args.place))) c.requires.kind
    (formed_at c.args.program.now.kind c.args.program.now.steps.items c.args.place c.args.program.now.formed c.requires.there))

pub returns : goal.returns
returns g c =
    let ss = c.args.program.now.steps.items in
    let formed : IsTrue (are_formed g.L.Lane.kind 0 ss) = subst (λ (k : Kind). IsTrue (are_formed k 0 ss)) c.requires.kind c.args.program.now.formed in
    let us = map g.L.Lane.number c.args.uniforms.now in
    let cs = map g.L.Lane.number c.args.first.now in
    let ds = map g.L.Lane.number c.args.second.now in
    one_more g.L.Lane.number g.L.Lane.kind ss us cs ds c.args.room.now c.split_at_mut-before.result.0.now c.split_at_mut-before.result.1.now c.answer_into.new.rest _ c.args.place (length c.args.first.now)
    formed c.requires.there c.requires.small c.split_at_mut-before.ensures.front_len (search rules) c.split_at_mut-before.ensures.value (search rules) c.requires.answered
    (subst (λ (ts : List LaneStep). IsAnswered g.L.Lane.kind ts us cs ds (step_at ts c.args.place) (map g.L.Lane.number c.answer_into.new.rest) (length c.args.first.now)) c.as_slice-steps.ensures.value c.answer_into.ensures)
