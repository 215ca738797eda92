use Rattle.weld_horizontal.specs.Doubles.{is_double, single}
use Rattle.weld_horizontal.proofs.Single.{lighter, single_rewrites}
use Rattle.weld_horizontal.proofs.laws.legs_may_stand_once.Goals as goal

pub returns : goal.returns
returns c = record {
  falls = c.rules_are_tests.ensures.falls is_double single lighter;
  sound = c.rules_are_tests.ensures.sound is_double single
      (single_rewrites (record {
        once_law = c.legs_stand_once.ensures;
        picks = c.fields_may_be_picked.ensures.sound;
        rounds = c.rounds_rewrite.ensures;
        in_turn = c.rewriting_is_an_order.ensures.in_turn;
        within = c.tidiness_is_kept.ensures.within;
      }));
  still = c.rules_are_tests.ensures.still is_double single;
}
