use Rattle.weld_meaning.proofs.LoopLaw.{PartLaws}
use Rattle.weld_vertical_held.specs.Rule.{is_over_list, handed_over}
use Rattle.weld_vertical_held.proofs.ListRule.{answers_soundly, answers_lighter}
use Rattle.weld_vertical_held.proofs.laws.lists_may_be_handed_over.Goals as goal

pub returns : goal.returns
returns c =
    let laws : PartLaws = record {
      merges = c.merge_into_a_join.ensures;
      keys = record { total = c.values_are_ordered.ensures.total; alike = c.keys_are_ordered_alike.ensures };
      bare_shape = c.shapes_stay.ensures.bare;
      neutral = c.bare_is_neutral.ensures.behind;
    } in
    record {
      falls = c.rules_are_tests.ensures.falls is_over_list handed_over answers_lighter;
      sound = c.rules_are_tests.ensures.sound is_over_list handed_over (answers_soundly laws);
      still = c.rules_are_tests.ensures.still is_over_list handed_over;
    }
