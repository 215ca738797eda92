use Rattle.std.proofs.Common.{rules, None, Some}
use Rattle.std.proofs.lemmas.Map.Text.{hash_map_updates_str}
use Rattle.weld_reduce.proofs.scope.uncover.Goals as goal

pub returns-in-None : goal.returns-in-None
returns-in-None c = rw c.in-None.is (hash_map_updates_str c.args.bytes.now c.args.newest.now c.remove.new.self None c.remove.ensures.updates)

pub returns-in-Some-get_mut : goal.returns-in-Some-get_mut
returns-in-Some-get_mut c =
    let new = c.get_mut.follows.lender c.in-Some.number in
    rw c.in-Some.is (hash_map_updates_str c.args.bytes.now c.args.newest.now new (Some c.in-Some.number) ((c.get_mut.follows.holds c.in-Some.number).3 (search rules)))
