use Rattle.std.proofs.Common.{w64}
use Rattle.std.proofs.lemmas.Int.{to_z-of_z}
use Rattle.weld_pieces.specs.Items.{items_of_list}
use Rattle.weld_groups.proofs.GroupsLemmas.{number_done}
use Rattle.weld_groups.proofs.groups.list_in_numbers.Goals as goal

pub returns-in-Ok-clause-ok : goal.returns-in-Ok-clause-ok
returns-in-Ok-clause-ok c =
    number_done c.args.map.now c.in-Numbers.field-0 c.args.key_kind c.in-Numbers.lists c.append_at.new.map.entries c.args.key (items_of_list c.args.list)
    c.in-Numbers.is c.requires.kept (to_z-of_z w64 c.args.key c.ranges.key) c.in-Ok.ensures.ok
