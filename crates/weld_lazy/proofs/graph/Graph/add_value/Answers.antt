use Rattle.std.proofs.Common.{◌≡◌, ◌+◌, ◌<◌, length, ap, arith, refl}
use Rattle.std.proofs.lemmas.List.{length-map}
use Rattle.weld_lazy.specs.View.{view_object}
use Rattle.weld_lazy.specs.declared.object.Object.TheVariants.{Given}
use Rattle.weld_lazy.proofs.Graphs.{graph_grows, names_fit}
use Rattle.weld_lazy.proofs.graph.Graph.add_value.Goals as goal

pub overflow_add-self : goal.overflow_add-self
overflow_add-self c =
    let l = length-map c.self.inside.objects.items view_object in
    let room : length c.self.inside.objects.items < 4294967295 = (let v = ap length c.self.view_is in omega (arith, l, v, c.requires.room)) in
    let h = names_fit c.self.inside.objects.items c.self.inside.names c.self.invariant room in
    omega (arith, h)

pub invariant_of-self-2 : goal.invariant_of-self-2
invariant_of-self-2 c =
    let l = length-map c.self.inside.objects.items view_object in
    let room : length c.self.inside.objects.items < 4294967295 = (let v = ap length c.self.view_is in omega (arith, l, v, c.requires.room)) in
    graph_grows c.self.inside.objects.items c.push.new.self.items (Given c.args.ty c.args.value) c.self.inside.names (c.self.inside.names + 1) c.objects_grow.ensures c.self.invariant room c.in_ok-push.ensures.items c.requires.fits refl
