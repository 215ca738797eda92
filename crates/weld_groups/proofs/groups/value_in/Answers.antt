use Rattle.std.proofs.Common.{◌∷◌, []}
use Rattle.weld_data.specs.View.{view_val}
use Rattle.weld_groups.proofs.GroupsLemmas.{value_done}
use Rattle.weld_groups.proofs.groups.value_in.Goals as goal

pub returns-in-Ok-clause-ok : goal.returns-in-Ok-clause-ok
returns-in-Ok-clause-ok c =
    value_done c.args.map.now c.in-Values.lists c.push_at.new.map.entries (view_val c.args.key) c.new.result (view_val c.args.item ∷ [])
    c.in-Values.is c.new.ensures c.in-Ok.ensures.ok
