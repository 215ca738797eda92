use denote.Builtin.{unit}
use Rattle.std.proofs.Common.{◌≡◌, ◌++◌, sym, ap, ◌∙◌}
use Rattle.weld_meaning.specs.Evaluation.{Env}
use Rattle.weld_meaning.specs.Thing.{more_things}
use Rattle.weld_eval.specs.FrameView.{env_of}
use Rattle.weld_eval.specs.ThingView.{thing_of, things_of}
use Rattle.weld_exec.specs.Run.{scope, locals}
use Rattle.weld_exec.proofs.Tiling.{range_ready, range_answers}
use Rattle.weld_exec.proofs.tile.run_in.Goals as goal

pub over_pile-requires-clause-holds : goal.over_pile-requires-clause-holds
over_pile-requires-clause-holds c =
    let scoped : env_of c.within-frame.result ≡ scope c.args.plan.now c.args.env.now = c.within-frame.ensures ∙ ap (λ (e : Env). locals c.args.env.now ++ e) c.parameters-base.ensures in
    let stack : things_of c.args.env.now.stack ≡ more_things (thing_of c.in-And.field-0.value) (things_of c.deref.result.now) = ap things_of c.in-And.is ∙ ap (λ u. more_things (thing_of c.in-And.field-0.value) (things_of u)) (sym c.deref.ensures) in
    range_ready c.args.plan.now c.args.env.now c.loop_at-node.result.now (env_of c.within-frame.result) (thing_of c.in-And.field-0.value) (thing_of c.args.part.now) (things_of c.deref.result.now) c.args.tile.lo c.args.tile.hi c.loop_at-node.ensures scoped stack c.requires.holds

pub returns : goal.returns
returns c =
    let scoped : env_of c.within-frame.result ≡ scope c.args.plan.now c.args.env.now = c.within-frame.ensures ∙ ap (λ (e : Env). locals c.args.env.now ++ e) c.parameters-base.ensures in
    let stack : things_of c.args.env.now.stack ≡ more_things (thing_of c.in-And.field-0.value) (things_of c.deref.result.now) = ap things_of c.in-And.is ∙ ap (λ u. more_things (thing_of c.in-And.field-0.value) (things_of u)) (sym c.deref.ensures) in
    range_answers unit.Denot c.over_pile.result c.args.plan.now c.args.env.now c.loop_at-node.result.now (env_of c.within-frame.result) (thing_of c.in-And.field-0.value) (thing_of c.args.part.now) (thing_of c.over_pile.new.part) (things_of c.deref.result.now) c.args.tile.lo c.args.tile.hi c.loop_at-node.ensures scoped stack c.over_pile.ensures
