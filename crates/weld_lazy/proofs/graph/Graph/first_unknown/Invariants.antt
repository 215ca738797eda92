use Rattle.std.proofs.Common.{◌≡◌, drop}
use Rattle.weld_objects.specs.Additions.{first_unknown}
use Rattle.weld_lazy.specs.View.{view_ids}
use Rattle.weld_lazy.proofs.graph.Graph.first_unknown.Given as goal

abbrev pub invariant-loop-id : goal.invariant-loop-id
invariant-loop-id l = first_unknown l.self (view_ids l.ids) ≡ first_unknown l.self (view_ids (drop l.id-index l.ids))
