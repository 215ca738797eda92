use Rattle.std.proofs.Common.{drop, ◌∙◌}
use Rattle.std.proofs.lemmas.Iterator.Adapters.{YieldsList-from_vec}
use Rattle.std.proofs.lemmas.Iterator.Consumers.{YieldsList-end}
use Rattle.weld_lazy.proofs.Picking.{picked_all}
use Rattle.weld_lazy.proofs.graph.Graph.into_inputs.Goals as goal

pub returns : goal.returns
returns c =
    let h = c.into_iter-object-iterator.ensures.into_iter_gives in
    let seen = YieldsList-end (YieldsList-from_vec {s = c.into_iter-object-iterator.result} c.self.inside.objects.items h.0 (h.1 ∙ c.self.inside.objects.ok.0)) c.loop-object.yielded c.loop-object.object-iterator c.loop-object.yielded_by c.next.result c.next.new.self c.in-None.is c.next.ensures.steps in
    picked_all c.self.inside.objects.items c.loop-object.yielded c.args.self c.args.ids.now (drop c.loop-object.place c.args.ids.now) c.loop-object.values c.loop-object.id seen.0 c.self.view_is c.loop-object.invariant.left
