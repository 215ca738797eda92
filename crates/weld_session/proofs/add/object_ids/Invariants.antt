use Rattle.std.proofs.Common.{◌≡◌, take}
use Rattle.weld_lazy.specs.View.{view_ids}
use Rattle.weld_session.proofs.add.object_ids.Given as goal

abbrev pub invariant-loop-id : goal.invariant-loop-id
invariant-loop-id l = view_ids l.list.items ≡ take l.id-index l.id-items
