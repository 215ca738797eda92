use Rattle.std.proofs.Common.{◌≡◌, ◌++◌, sym, ap, ◌∙◌, subst}
use Rattle.weld_builders.specs.Outcome.{Outcome}
use Rattle.weld_meaning.specs.Thing.{Thing}
use Rattle.weld_meaning.specs.Evaluation.{Env, eval}
use Rattle.weld_meaning.specs.Meaning.{with_arguments}
use Rattle.weld_eval.specs.Fit.{IsFit}
use Rattle.weld_eval.specs.FrameView.{env_of}
use Rattle.weld_eval.specs.NamesView.{env_of_names}
use Rattle.weld_eval.specs.ThingView.{thing_of, held_of}
use Rattle.weld_eval.specs.Answers.{Answers}
use Rattle.weld_eval_plain.proofs.Steps.{stops}
use Rattle.weld_exec.proofs.evaluate.compute.Goals as goal

pub evaluate-requires : goal.evaluate-requires
evaluate-requires c =
    let scoped : env_of c.within-frame.result ≡ env_of_names c.args.names.now ++ with_arguments c.args.program.now.params c.args.inputs.now = c.within-frame.ensures ∙ ap (λ (g : Env). env_of_names c.args.names.now ++ g) c.parameters-base.ensures in
    subst (λ (g : Env). IsFit c.args.e.now g) (sym scoped) c.requires

pub returns-in-Ok : goal.returns-in-Ok
returns-in-Ok c =
    let scoped : env_of c.within-frame.result ≡ env_of_names c.args.names.now ++ with_arguments c.args.program.now.params c.args.inputs.now = c.within-frame.ensures ∙ ap (λ (g : Env). env_of_names c.args.names.now ++ g) c.parameters-base.ensures in
    subst (λ (o : Outcome Thing). Answers thing_of c.owned.result o) (sym (ap (λ (g : Env). eval c.args.e.now g) (sym scoped) ∙ c.in-Ok.ensures)) c.owned.ensures

pub returns-in-Err : goal.returns-in-Err
returns-in-Err c =
    let scoped : env_of c.within-frame.result ≡ env_of_names c.args.names.now ++ with_arguments c.args.program.now.params c.args.inputs.now = c.within-frame.ensures ∙ ap (λ (g : Env). env_of_names c.args.names.now ++ g) c.parameters-base.ensures in
    stops held_of thing_of c.in-Err.stop (eval c.args.e.now (env_of c.within-frame.result)) (eval c.args.e.now (env_of_names c.args.names.now ++ with_arguments c.args.program.now.params c.args.inputs.now)) (λ q. ap (λ (g : Env). eval c.args.e.now g) (sym scoped) ∙ q) c.in-Err.ensures
