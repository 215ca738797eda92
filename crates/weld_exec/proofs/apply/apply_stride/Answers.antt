use Rattle.std.proofs.Common.{refl, sym, ap, ◌∙◌}
use Rattle.weld_builders.specs.Outcome.{done, map_out}
use Rattle.weld_meaning.specs.Thing.{more_things}
use Rattle.weld_eval.specs.ThingView.{thing_of, things_of, held_of}
use Rattle.weld_eval_forms.specs.Legs.{elements_in}
use Rattle.weld_exec.specs.Stacked.{stride_stack}
use Rattle.weld_exec.proofs.Applying.{put_answer, stride_ready, stride_is, leg_thing, as_leg}
use Rattle.weld_exec.proofs.Applying.{stride_something}
use Rattle.weld_exec.proofs.apply.apply_stride.Goals as goal

pub pop-v-requires : goal.pop-v-requires
pop-v-requires c = stride_something (things_of c.args.stack.now) (things_of c.pop-stride.new.stack) (things_of c.pop-end.new.stack) (things_of c.pop-start.new.stack) c.requires c.pop-stride.ensures.rest c.pop-end.ensures.rest c.pop-start.ensures.rest

pub strided-requires-clause-vector : goal.strided-requires-clause-vector
strided-requires-clause-vector c = (stride_ready (things_of c.args.stack.now) (things_of c.pop-stride.new.stack) (things_of c.pop-end.new.stack) (things_of c.pop-start.new.stack) (thing_of c.pop-v.result) (thing_of c.pop-start.result) (thing_of c.pop-end.result) (thing_of c.pop-stride.result) c.requires (record { first = c.pop-stride.ensures.thing; after_first = c.pop-stride.ensures.rest; second = c.pop-end.ensures.thing; after_second = c.pop-end.ensures.rest; third = c.pop-start.ensures.thing; after_third = c.pop-start.ensures.rest; fourth = c.pop-v.ensures.thing })).0

pub strided-requires-clause-start : goal.strided-requires-clause-start
strided-requires-clause-start c = (stride_ready (things_of c.args.stack.now) (things_of c.pop-stride.new.stack) (things_of c.pop-end.new.stack) (things_of c.pop-start.new.stack) (thing_of c.pop-v.result) (thing_of c.pop-start.result) (thing_of c.pop-end.result) (thing_of c.pop-stride.result) c.requires (record { first = c.pop-stride.ensures.thing; after_first = c.pop-stride.ensures.rest; second = c.pop-end.ensures.thing; after_second = c.pop-end.ensures.rest; third = c.pop-start.ensures.thing; after_third = c.pop-start.ensures.rest; fourth = c.pop-v.ensures.thing })).1

pub strided-requires-clause-end : goal.strided-requires-clause-end
strided-requires-clause-end c = (stride_ready (things_of c.args.stack.now) (things_of c.pop-stride.new.stack) (things_of c.pop-end.new.stack) (things_of c.pop-start.new.stack) (thing_of c.pop-v.result) (thing_of c.pop-start.result) (thing_of c.pop-end.result) (thing_of c.pop-stride.result) c.requires (record { first = c.pop-stride.ensures.thing; after_first = c.pop-stride.ensures.rest; second = c.pop-end.ensures.thing; after_second = c.pop-end.ensures.rest; third = c.pop-start.ensures.thing; after_third = c.pop-start.ensures.rest; fourth = c.pop-v.ensures.thing })).2

pub strided-requires-clause-stride : goal.strided-requires-clause-stride
strided-requires-clause-stride c = (stride_ready (things_of c.args.stack.now) (things_of c.pop-stride.new.stack) (things_of c.pop-end.new.stack) (things_of c.pop-start.new.stack) (thing_of c.pop-v.result) (thing_of c.pop-start.result) (thing_of c.pop-end.result) (thing_of c.pop-stride.result) c.requires (record { first = c.pop-stride.ensures.thing; after_first = c.pop-stride.ensures.rest; second = c.pop-end.ensures.thing; after_second = c.pop-end.ensures.rest; third = c.pop-start.ensures.thing; after_third = c.pop-start.ensures.rest; fourth = c.pop-v.ensures.thing })).3

pub returns-in-Ok : goal.returns-in-Ok
returns-in-Ok c =
    let is = stride_is (things_of c.args.stack.now) (things_of c.pop-stride.new.stack) (things_of c.pop-end.new.stack) (things_of c.pop-start.new.stack) (things_of c.pop-v.new.stack) (thing_of c.pop-v.result) (thing_of c.pop-start.result) (thing_of c.pop-end.result) (thing_of c.pop-stride.result) c.requires (record { first = c.pop-stride.ensures.thing; after_first = c.pop-stride.ensures.rest; second = c.pop-end.ensures.thing; after_second = c.pop-end.ensures.rest; third = c.pop-start.ensures.thing; after_third = c.pop-start.ensures.rest; fourth = c.pop-v.ensures.thing }) c.pop-v.ensures.rest in
    put_answer c.put.result (stride_stack (things_of c.args.stack.now)) (held_of c.in-Ok.leg) (things_of c.pop-v.new.stack) (things_of c.put.new.stack)
    (is ∙ ap (λ o. map_out (as_leg (things_of c.pop-v.new.stack)) o) c.in-Ok.ensures.elements ∙ ap (λ x. done (more_things x (things_of c.pop-v.new.stack))) (sym (leg_thing (held_of c.in-Ok.leg) (elements_in c.in-Ok.leg) c.in-Ok.ensures.vector refl))) c.put.ensures.there c.put.ensures.memory
