use Rattle.std.proofs.Common.{subst, sym, ap, ◌∙◌, List, map, IsTrue}
use Rattle.weld_lanes.specs.declared.steps.LaneStep.{LaneStep}
use Rattle.weld_data.specs.declared.kind.Kind.{Kind}
use Rattle.weld_lanes.specs.Formed.{is_formed}
use Rattle.weld_lanes.specs.Blocks.{constant_of, step_at}
use Rattle.weld_lanes.proofs.Running.{formed_at}
use Rattle.weld_lanes.proofs.ConstantLemmas.{next_constants}
use Rattle.weld_lanes.proofs.constants.put_constant.Goals as goal

pub constant-requires : goal.constant-requires
constant-requires g c =
    subst (λ (ss : List LaneStep). IsTrue (is_formed g.L.Lane.kind c.args.place (step_at ss c.args.place))) (sym c.as_slice.ensures.value)
    (subst (λ (k : Kind). IsTrue (is_formed k c.args.place (step_at c.args.program.now.steps.items c.args.place))) c.requires.kind
    (formed_at c.args.program.now.kind c.args.program.now.steps.items c.args.place c.args.program.now.formed c.requires.there))

pub returns-clause-are : goal.returns-clause-are
returns-clause-are g c =
    let ss = c.args.program.now.steps.items in
    let us = map g.L.Lane.number c.args.uniforms.now in
    next_constants ss us (map g.L.Lane.number c.args.constants.now) (map g.L.Lane.number c.put_same.new.constants) (g.L.Lane.number c.constant.result) c.args.place c.requires.are c.put_same.ensures.same
    (c.constant.ensures ∙ ap (λ (ts : List LaneStep). constant_of us (step_at ts c.args.place)) c.as_slice.ensures.value)
