use Rattle.std.proofs.Common.{◌≡◌, take}
use Rattle.weld_lazy.specs.View.{view_ids}
use Rattle.weld_lazy.proofs.ids.ids_of.Given as goal

abbrev pub invariant-loop-id : goal.invariant-loop-id
invariant-loop-id l = l.list ≡ view_ids (take l.id-index l.ids)
