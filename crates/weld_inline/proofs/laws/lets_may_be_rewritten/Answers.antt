use Rattle.weld_substitution.specs.Redex.{is_redex}
use Rattle.weld_inline.specs.Inlining.{opened}
use Rattle.weld_inline.proofs.Falling.{lighter}
use Rattle.weld_inline.proofs.Sound.{rewrites}
use Rattle.weld_inline.proofs.laws.lets_may_be_rewritten.Goals as goal

pub returns : goal.returns
returns c = record {
  falls = c.rules_are_tests.ensures.falls is_redex opened lighter;
  sound = c.rules_are_tests.ensures.sound is_redex opened (rewrites (record { plain = c.lets_are_put_in_place.ensures.plain; once = c.lets_are_put_in_place.ensures.once }));
  still = c.rules_are_tests.ensures.still is_redex opened;
}
