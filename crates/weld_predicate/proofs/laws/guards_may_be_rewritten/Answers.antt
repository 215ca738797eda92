use Rattle.weld_predicate.specs.Guard.{is_guard, unguarded}
use Rattle.weld_predicate.proofs.Falling.{lighter}
use Rattle.weld_predicate.proofs.laws.guards_may_be_rewritten.Goals as goal

pub returns : goal.returns
returns c = record {
  falls = c.rules_are_tests.ensures.falls is_guard unguarded lighter;
  sound = c.rules_are_tests.ensures.sound is_guard unguarded (λ e tidy h. c.guarded_merges_may_always_merge.ensures e h);
  still = c.rules_are_tests.ensures.still is_guard unguarded;
}
