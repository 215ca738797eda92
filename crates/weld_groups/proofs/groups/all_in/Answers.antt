use Rattle.weld_groups.proofs.GroupsLemmas.{numbers_done, values_done}
use Rattle.weld_groups.proofs.groups.all_in.Goals as goal

pub returns-in-Ok-clause-ok : goal.returns-in-Ok-clause-ok
returns-in-Ok-clause-ok c =
    numbers_done c.args.map.now c.args.later c.in-Numbers-Numbers.field-0-0 c.in-Numbers-Numbers.field-0-1 c.in-Numbers-Numbers.lists c.in-Numbers-Numbers.more c.append_all.new.map.entries
    c.in-Numbers-Numbers.is-0 c.in-Numbers-Numbers.is-1 c.requires.kept c.in-Ok.ensures.ok

pub returns-in-Ok-append_all-clause-ok : goal.returns-in-Ok-append_all-clause-ok
returns-in-Ok-append_all-clause-ok c =
    values_done c.args.map.now c.args.later c.in-Values-Values.lists c.in-Values-Values.more c.append_all-in-Values-Values.new.map.entries
    c.in-Values-Values.is-0 c.in-Values-Values.is-1 c.in-Ok-append_all.ensures.ok
