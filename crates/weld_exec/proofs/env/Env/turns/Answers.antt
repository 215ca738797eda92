use Rattle.std.proofs.Common.{ap}
use Rattle.weld_data.specs.View.{view_val}
use Rattle.weld_eval.specs.ThingView.{thing_of, things_of}
use Rattle.weld_exec.specs.Run.{rest_left, arguments_of, locals, body_outcome}
use Rattle.weld_exec.proofs.Moving.{state_ready}
use Rattle.weld_exec.proofs.env.Env.turns.Goals as goal

pub take_turns-requires-clause-state : goal.take_turns-requires-clause-state
take_turns-requires-clause-state c =
    state_ready c.args.e.now (rest_left c.args.plan.now c.args.self.now) (arguments_of c.args.plan.now c.args.self.now) (locals c.args.self.now) (things_of c.args.self.now.stack) (body_outcome c.args.plan.now c.args.self.now) (thing_of c.pop.result) (view_val c.in-Value.v) c.requires.stands.leads c.pop.ensures.thing (ap thing_of c.in-Value.is)
