use Rattle.std.proofs.Common.{◌≡◌, ◌+◌, ◌<◌, length, ap, arith, sym}
use Rattle.std.proofs.lemmas.List.{length-map}
use Rattle.weld_lazy.specs.View.{view_object, view_ids}
use Rattle.weld_lazy.specs.declared.object.Object.TheVariants.{Call}
use Rattle.weld_lazy.proofs.Graphs.{graph_grows, names_fit, call_is}
use Rattle.weld_lazy.proofs.graph.Graph.push_call.Goals as goal

pub overflow_add-self : goal.overflow_add-self
overflow_add-self c =
    let l = length-map c.self.inside.objects.items view_object in
    let room : length c.self.inside.objects.items < 4294967295 = (let v = ap length c.self.view_is in omega (arith, l, v, c.requires.room)) in
    let h = names_fit c.self.inside.objects.items c.self.inside.names c.self.invariant room in
    let few = c.in_ok-count.ensures.few in
    omega (arith, h, few)

pub invariant_of-self-2 : goal.invariant_of-self-2
invariant_of-self-2 c =
    let l = length-map c.self.inside.objects.items view_object in
    let room : length c.self.inside.objects.items < 4294967295 = (let v = ap length c.self.view_is in omega (arith, l, v, c.requires.room)) in
    let count = c.in_ok-count.ensures.value in
    graph_grows c.self.inside.objects.items c.push.new.self.items (Call c.in_ok-ty.ty c.in_ok-ids.ids c.args.program) c.self.inside.names (c.self.inside.names + c.in_ok-count.count) c.objects_grow.ensures c.self.invariant room c.in_ok-push.ensures.items
    (call_is _ c.args.self.now c.in_ok-ty.ty c.in_ok-ids.ids (view_ids c.args.deps.now) c.args.program c.self.view_is c.in_ok-ids.ensures c.in_ok-count.ensures.program c.in_ok-count.ensures.accepted c.in_ok-ty.ensures c.requires.fits)
    (omega (arith, count))
