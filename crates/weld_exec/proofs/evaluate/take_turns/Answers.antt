use Rattle.std.proofs.Common.{◌≡◌, ◌++◌, sym, ap, ◌∙◌, subst}
use Rattle.weld_data.specs.View.{view_val}
use Rattle.weld_builders.specs.Outcome.{Outcome}
use Rattle.weld_meaning.specs.Thing.{Thing}
use Rattle.weld_meaning.specs.Evaluation.{Env, turn_limit}
use Rattle.weld_meaning.specs.Meaning.{with_arguments}
use Rattle.weld_eval.specs.FrameView.{env_of}
use Rattle.weld_eval.specs.NamesView.{env_of_names}
use Rattle.weld_eval.specs.ThingView.{thing_of, held_of}
use Rattle.weld_eval.specs.Answers.{Answers}
use Rattle.weld_eval_plain.specs.Turns.{HoldsState, turns_from}
use Rattle.weld_eval_plain.proofs.Steps.{stops}
use Rattle.weld_exec.proofs.evaluate.take_turns.Goals as goal

pub take_turns-requires-clause-state : goal.take_turns-requires-clause-state
take_turns-requires-clause-state c =
    let scoped : env_of c.within-frame.result ≡ env_of_names c.args.names.now ++ with_arguments c.args.program.now.params c.args.inputs.now = c.within-frame.ensures ∙ ap (λ (g : Env). env_of_names c.args.names.now ++ g) c.parameters-base.ensures in
    subst (λ (g : Env). HoldsState c.args.e.now g (view_val c.args.state)) (sym scoped) c.requires.state

pub returns-in-Ok : goal.returns-in-Ok
returns-in-Ok c =
    let scoped : env_of c.within-frame.result ≡ env_of_names c.args.names.now ++ with_arguments c.args.program.now.params c.args.inputs.now = c.within-frame.ensures ∙ ap (λ (g : Env). env_of_names c.args.names.now ++ g) c.parameters-base.ensures in
    subst (λ (o : Outcome Thing). Answers thing_of c.owned.result o) (sym (ap (λ (g : Env). turns_from c.args.e.now g turn_limit (view_val c.args.state)) (sym scoped) ∙ c.in-Ok.ensures)) c.owned.ensures

pub returns-in-Err : goal.returns-in-Err
returns-in-Err c =
    let scoped : env_of c.within-frame.result ≡ env_of_names c.args.names.now ++ with_arguments c.args.program.now.params c.args.inputs.now = c.within-frame.ensures ∙ ap (λ (g : Env). env_of_names c.args.names.now ++ g) c.parameters-base.ensures in
    stops held_of thing_of c.in-Err.stop (turns_from c.args.e.now (env_of c.within-frame.result) turn_limit (view_val c.args.state)) (turns_from c.args.e.now (env_of_names c.args.names.now ++ with_arguments c.args.program.now.params c.args.inputs.now) turn_limit (view_val c.args.state)) (λ q. ap (λ (g : Env). turns_from c.args.e.now g turn_limit (view_val c.args.state)) (sym scoped) ∙ q) c.in-Err.ensures
