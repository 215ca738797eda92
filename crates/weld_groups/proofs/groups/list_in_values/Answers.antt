use Rattle.weld_data.specs.View.{view_val}
use Rattle.weld_pieces.specs.Items.{items_of_list}
use Rattle.weld_groups.proofs.GroupsLemmas.{value_done}
use Rattle.weld_groups.proofs.groups.list_in_values.Goals as goal

pub returns-in-Ok-clause-ok : goal.returns-in-Ok-clause-ok
returns-in-Ok-clause-ok c =
    value_done c.args.map.now c.in-Values.lists c.append_at.new.map.entries (view_val c.args.key) c.new.result (items_of_list c.args.list)
    c.in-Values.is c.new.ensures c.in-Ok.ensures.ok
