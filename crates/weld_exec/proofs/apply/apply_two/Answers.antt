use Rattle.std.proofs.Common.{ap, ◌∙◌}
use Rattle.weld_tree.specs.ExprView.{view_two}
use Rattle.weld_builders.specs.Outcome.{done, map_out}
use Rattle.weld_meaning.specs.Evaluation.{two_thing}
use Rattle.weld_eval.specs.ThingView.{thing_of, things_of, held_of}
use Rattle.weld_exec.specs.Stacked.{put_on, two_stack}
use Rattle.weld_exec.proofs.Applying.{put_answer, stop_answer, two_strict, two_ready, two_is}
use Rattle.weld_exec.proofs.apply.apply_two.Goals as goal

pub two-requires-clause-takes : goal.two-requires-clause-takes
two-requires-clause-takes c = two_ready (view_two c.args.form) (things_of c.args.stack.now) (things_of c.pop-y.new.stack) (thing_of c.pop-x.result) (thing_of c.pop-y.result) c.requires c.pop-y.ensures.thing c.pop-y.ensures.rest c.pop-x.ensures.thing

pub two-requires-clause-strict : goal.two-requires-clause-strict
two-requires-clause-strict c = two_strict (view_two c.args.form) (things_of c.args.stack.now) c.requires

pub returns-in-Ok : goal.returns-in-Ok
returns-in-Ok c =
    let is = two_is (view_two c.args.form) (things_of c.args.stack.now) (things_of c.pop-y.new.stack) (things_of c.pop-x.new.stack) (thing_of c.pop-x.result) (thing_of c.pop-y.result) c.requires c.pop-y.ensures.thing c.pop-y.ensures.rest c.pop-x.ensures.thing c.pop-x.ensures.rest in
    put_answer c.put.result (two_stack (view_two c.args.form) (things_of c.args.stack.now)) (held_of c.in-Ok.z) (things_of c.pop-x.new.stack) (things_of c.put.new.stack) (is ∙ ap (λ o. map_out (put_on (things_of c.pop-x.new.stack)) o) c.in-Ok.ensures) c.put.ensures.there c.put.ensures.memory

pub returns-in-Err : goal.returns-in-Err
returns-in-Err c =
    let is = two_is (view_two c.args.form) (things_of c.args.stack.now) (things_of c.pop-y.new.stack) (things_of c.pop-x.new.stack) (thing_of c.pop-x.result) (thing_of c.pop-y.result) c.requires c.pop-y.ensures.thing c.pop-y.ensures.rest c.pop-x.ensures.thing c.pop-x.ensures.rest in
    stop_answer (Unit {0}) held_of c.in-Err.stop (two_thing (view_two c.args.form) (thing_of c.pop-x.result) (done (thing_of c.pop-y.result))) (two_stack (view_two c.args.form) (things_of c.args.stack.now)) _ (λ q. is ∙ ap (λ o. map_out (put_on (things_of c.pop-x.new.stack)) o) q) c.in-Err.ensures
