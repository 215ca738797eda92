use Rattle.weld_meaning.proofs.LoopLaw.{PartLaws}
use Rattle.weld_meaning.proofs.Programs.{law_of_accepted, loops_of_accepted}
use Rattle.weld_meaning.proofs.laws.loops_join_in_order.Goals as goal

pub returns : goal.returns
returns c =
    let laws : PartLaws = record {
      merges = c.merge_into_a_join.ensures;
      keys = record { total = c.values_are_ordered.ensures.total; alike = c.keys_are_ordered_alike.ensures };
      bare_shape = c.shapes_stay.ensures.bare;
      neutral = c.bare_is_neutral.ensures.behind;
    } in
    record { found = loops_of_accepted; law = law_of_accepted laws }
