use Rattle.std.specs.Map.{keys_of}
use Rattle.weld_pieces.proofs.MapLemmas.{strictly_sorted}
use Rattle.weld_pieces.proofs.key_map.in_order.Goals as goal

pub returns-in-Ok-clause-sorted : goal.returns-in-Ok-clause-sorted
returns-in-Ok-clause-sorted g c =
    strictly_sorted g.K.Ord.cmp g.met.K.Ord.total g.K.PartialEq.eq g.met.K.Ord.matches_eq (keys_of c.sort_unstable_keys.new.self.entries) c.in-Ok.ensures.sorted c.sort_unstable_keys.ensures.unique
