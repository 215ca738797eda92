use Rattle.weld_rewriting.proofs.Joined.{joined_fall, joined_are_sound, first_still, second_still}
use Rattle.weld_rewriting.proofs.pass.laws.rules_may_be_joined.Goals as goal

pub returns : goal.returns
returns c = record { falls = joined_fall; sound = joined_are_sound; first = first_still; second = second_still }
