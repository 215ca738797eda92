use Rattle.weld_vertical_zip.specs.Zipping.{is_zipped}
use Rattle.weld_vertical_zip.specs.Zips.{spliced}
use Rattle.weld_vertical_zip.proofs.Falling.{lighter, spliced_rewrites}
use Rattle.weld_vertical_zip.proofs.laws.made_legs_may_be_spliced.Goals as goal

pub returns : goal.returns
returns c = record {
  falls = c.rules_are_tests.ensures.falls is_zipped spliced (lighter c.fields_may_be_picked.ensures.never_heavier);
  sound = c.rules_are_tests.ensures.sound is_zipped spliced
      (spliced_rewrites (record {
        splices = c.made_legs_are_spliced.ensures.rewrites;
        picks = c.fields_may_be_picked.ensures.sound;
        rounds = c.rounds_rewrite.ensures;
        in_turn = c.rewriting_is_an_order.ensures.in_turn;
        within = c.tidiness_is_kept.ensures.within;
      }));
  still = c.rules_are_tests.ensures.still is_zipped spliced;
}
