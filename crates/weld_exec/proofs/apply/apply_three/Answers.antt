use Rattle.std.proofs.Common.{ap, ◌∙◌}
use Rattle.weld_tree.specs.ExprView.{view_three}
use Rattle.weld_builders.specs.Outcome.{done, map_out}
use Rattle.weld_meaning.specs.Evaluation.{three_thing}
use Rattle.weld_eval.specs.ThingView.{thing_of, things_of, held_of}
use Rattle.weld_exec.specs.Stacked.{put_on, three_stack}
use Rattle.weld_exec.proofs.Applying.{put_answer, stop_answer, three_left, three_ready, three_is}
use Rattle.weld_exec.proofs.apply.apply_three.Goals as goal

pub three-requires-clause-takes : goal.three-requires-clause-takes
three-requires-clause-takes c =
    three_ready (view_three c.args.form) (things_of c.args.stack.now) (things_of c.pop-z.new.stack) (things_of c.pop-y.new.stack) (thing_of c.pop-x.result) (thing_of c.pop-y.result) (thing_of c.pop-z.result) c.requires c.pop-z.ensures.thing c.pop-z.ensures.rest c.pop-y.ensures.thing c.pop-y.ensures.rest c.pop-x.ensures.thing

pub returns-in-Ok : goal.returns-in-Ok
returns-in-Ok c =
    let is = three_is (view_three c.args.form) (things_of c.args.stack.now) (things_of c.pop-z.new.stack) (things_of c.pop-y.new.stack) (things_of c.pop-x.new.stack) (thing_of c.pop-x.result) (thing_of c.pop-y.result) (thing_of c.pop-z.result) c.requires c.pop-z.ensures.thing c.pop-z.ensures.rest c.pop-y.ensures.thing c.pop-y.ensures.rest c.pop-x.ensures.thing c.pop-x.ensures.rest in
    put_answer c.put.result (three_stack (view_three c.args.form) (things_of c.args.stack.now)) (held_of c.in-Ok.answer) (things_of c.pop-x.new.stack) (things_of c.put.new.stack) (is ∙ ap (λ o. map_out (put_on (things_of c.pop-x.new.stack)) o) c.in-Ok.ensures) c.put.ensures.there c.put.ensures.memory

pub returns-in-Err : goal.returns-in-Err
returns-in-Err c =
    let is = three_is (view_three c.args.form) (things_of c.args.stack.now) (things_of c.pop-z.new.stack) (things_of c.pop-y.new.stack) (things_of c.pop-x.new.stack) (thing_of c.pop-x.result) (thing_of c.pop-y.result) (thing_of c.pop-z.result) c.requires c.pop-z.ensures.thing c.pop-z.ensures.rest c.pop-y.ensures.thing c.pop-y.ensures.rest c.pop-x.ensures.thing c.pop-x.ensures.rest in
    stop_answer (Unit {0}) held_of c.in-Err.stop (three_thing (view_three c.args.form) (thing_of c.pop-x.result) (done (thing_of c.pop-y.result)) (done (thing_of c.pop-z.result))) (three_stack (view_three c.args.form) (things_of c.args.stack.now)) _ (λ q. is ∙ ap (λ o. map_out (put_on (things_of c.pop-x.new.stack)) o) q) c.in-Err.ensures

pub pop-x-requires : goal.pop-x-requires
pop-x-requires c =
    three_left (view_three c.args.form) (things_of c.args.stack.now) (things_of c.pop-z.new.stack) (things_of c.pop-y.new.stack) c.requires c.pop-z.ensures.rest c.pop-y.ensures.rest
