use Rattle.weld_eval.specs.ThingView.{thing_of, things_of}
use Rattle.weld_eval_forms.specs.FormTakes.{all_of}
use Rattle.weld_exec.proofs.Applying.{gather_on}
use Rattle.weld_exec.proofs.apply.apply_many.Goals as goal

pub loop-place-preserved : goal.loop-place-preserved
loop-place-preserved c =
    gather_on c.args.count (things_of c.args.stack.now) (all_of c.loop-place.things.items) (all_of c.push_thing.new.things.items) c.loop-place._place (things_of c.loop-place.stack) (things_of c.pop-x.new.stack) (thing_of c.pop-x.result) c.loop-place-test.true c.pop-x.ensures.thing c.pop-x.ensures.rest c.in-Ok.ensures c.loop-place.invariant
