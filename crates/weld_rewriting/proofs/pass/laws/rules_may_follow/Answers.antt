use Rattle.weld_rewriting.proofs.Following.{followed_falls, followed_is_sound, followed_still}
use Rattle.weld_rewriting.proofs.pass.laws.rules_may_follow.Goals as goal

pub returns : goal.returns
returns c = record {
  falls = followed_falls;
  sound = followed_is_sound (record { itself = c.rewriting_is_an_order.ensures.itself; in_turn = c.rewriting_is_an_order.ensures.in_turn; within = c.tidiness_is_kept.ensures.within });
  still = followed_still;
}
