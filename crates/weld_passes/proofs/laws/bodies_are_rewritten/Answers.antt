use Rattle.weld_passes.specs.Normal.{all_rules}
use Rattle.weld_passes.proofs.Bodies.{StepLaws, body_rewrites, body_fewer}
use Rattle.weld_passes.proofs.laws.bodies_are_rewritten.Goals as goal

pub returns : goal.returns
returns c =
    let laws : StepLaws = record {
      in_turn = c.rewriting_is_an_order.ensures.in_turn;
      within = c.tidiness_is_kept.ensures.within;
      first = c.chains_are_one_loop.ensures.rewrites;
      fewer = c.chains_are_one_loop.ensures.fewer;
      rounds = λ n e tidy. c.rounds_rewrite.ensures all_rules n e c.all_rules_may_be_tried.ensures.sound tidy;
    } in
    record { rewrites = body_rewrites laws; chain = body_fewer laws }
