use Rattle.weld_rewriting.proofs.Sound.{rounds_rewrite}
use Rattle.weld_rewriting.proofs.rounds.laws.rounds_rewrite.Goals as goal

pub returns : goal.returns
returns c = rounds_rewrite (record {
  itself = c.rewriting_is_an_order.ensures.itself;
  in_turn = c.rewriting_is_an_order.ensures.in_turn;
  through = c.rewriting_goes_through_every_node.ensures;
  parts = c.tidiness_is_kept.ensures.parts;
  within = c.tidiness_is_kept.ensures.within;
})
