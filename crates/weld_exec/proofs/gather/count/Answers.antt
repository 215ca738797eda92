use Rattle.std.proofs.Common.{◌≡◌, ◌++◌, sym, ap, ◌∙◌}
use Rattle.weld_meaning.specs.Evaluation.{Env}
use Rattle.weld_meaning.specs.Meaning.{with_arguments}
use Rattle.weld_meaning.specs.Thing.{more_things}
use Rattle.weld_eval.specs.FrameView.{env_of}
use Rattle.weld_eval.specs.NamesView.{env_of_names}
use Rattle.weld_eval.specs.ThingView.{thing_of, things_of}
use Rattle.weld_exec.proofs.Looping.{count_some}
use Rattle.weld_exec.proofs.gather.count.Goals as goal

pub count_rows-requires-clause-some : goal.count_rows-requires-clause-some
count_rows-requires-clause-some c =
    let scoped : env_of c.within-frame.result ≡ env_of_names c.args.names.now ++ with_arguments c.args.program.now.params c.args.inputs.now = c.within-frame.ensures ∙ ap (λ (g : Env). env_of_names c.args.names.now ++ g) c.parameters-base.ensures in
    count_some c.args.node.now (env_of c.within-frame.result) (env_of_names c.args.names.now ++ with_arguments c.args.program.now.params c.args.inputs.now) (thing_of c.in-And.field-0.value) (things_of c.args.stack.now) (things_of c.deref.result.now) c.in-Ok.vectors.items c.deref-in-Ok.result.now c.requires.fit c.requires.at scoped
    (ap things_of c.in-And.is ∙ ap (λ u. more_things (thing_of c.in-And.field-0.value) (things_of u)) (sym c.deref.ensures)) c.in-Ok.ensures.lists c.deref-in-Ok.ensures.value
