use Rattle.weld_meaning.proofs.LoopLaw.{PartLaws}
use Rattle.weld_vertical_zip_held.specs.Rule.{is_over_each, zip_handed}
use Rattle.weld_vertical_zip_held.proofs.Picked.{lighter, handed_rewrites}
use Rattle.weld_vertical_zip_held.proofs.laws.zip_lists_may_be_handed_over.Goals as goal

pub returns : goal.returns
returns c =
    let laws : PartLaws = record {
      merges = c.merge_into_a_join.ensures;
      keys = record { total = c.values_are_ordered.ensures.total; alike = c.keys_are_ordered_alike.ensures };
      bare_shape = c.shapes_stay.ensures.bare;
      neutral = c.bare_is_neutral.ensures.behind;
    } in
    record {
      falls = c.rules_are_tests.ensures.falls is_over_each zip_handed (lighter c.fields_may_be_picked.ensures.never_heavier);
      sound = c.rules_are_tests.ensures.sound is_over_each zip_handed
          (handed_rewrites laws (record {
            picks = c.fields_may_be_picked.ensures.sound;
            rounds = c.rounds_rewrite.ensures;
            in_turn = c.rewriting_is_an_order.ensures.in_turn;
            within = c.tidiness_is_kept.ensures.within;
          }));
      still = c.rules_are_tests.ensures.still is_over_each zip_handed;
    }
