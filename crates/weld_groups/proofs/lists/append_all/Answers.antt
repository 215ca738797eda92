use Rattle.std.proofs.Common.{rules}
use Rattle.weld_builders.specs.Part.{appended}
use Rattle.weld_pieces.proofs.MapLemmas.{on_ok, joined_all}
use Rattle.weld_groups.specs.Groups.{lists_in}
use Rattle.weld_groups.proofs.ListLemmas.{joined_whole, distinct_lists}
use Rattle.weld_groups.proofs.lists.append_all.Goals as goal

pub returns-then-is_empty-clause-ok : goal.returns-then-is_empty-clause-ok
returns-then-is_empty-clause-ok g c =
    joined_whole g.K.PartialEq.eq c.args.map.now.entries c.args.later.entries (search rules)

pub returns-clause-ok : goal.returns-clause-ok
returns-clause-ok g c =
    on_ok c.append_each.result c.append_each.ensures.ok
    (joined_all appended g.K.PartialEq.eq (lists_in c.args.map.now.entries) (lists_in c.args.later.entries) (lists_in c.append_each.new.map.entries) (distinct_lists g.K.PartialEq.eq c.args.later.entries c.len-count.ensures.unique))
