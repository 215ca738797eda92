use Rattle.weld_horizontal.specs.Picked.{is_pick, picked}
use Rattle.weld_horizontal.proofs.Single.{picks_no_heavier}
use Rattle.weld_horizontal.proofs.laws.fields_may_be_picked.Goals as goal

pub returns : goal.returns
returns c = record {
  sound = c.rules_are_tests.ensures.sound is_pick picked (λ e tidy h. c.fields_are_picked.ensures e h);
  never_heavier = picks_no_heavier;
}
