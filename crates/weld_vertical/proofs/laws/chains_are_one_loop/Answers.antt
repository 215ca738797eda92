use Rattle.weld_vertical.proofs.Chains.{ChainLaws, chain_rewrites, chain_shorter}
use Rattle.weld_vertical.proofs.laws.chains_are_one_loop.Goals as goal

pub returns : goal.returns
returns c =
    let laws : ChainLaws = record {
      itself = c.rewriting_is_an_order.ensures.itself;
      in_turn = c.rewriting_is_an_order.ensures.in_turn;
      through = c.rewriting_goes_through_every_node.ensures;
      parts = c.tidiness_is_kept.ensures.parts;
      within = c.tidiness_is_kept.ensures.within;
      fuses = c.loops_over_loops_are_one.ensures.rewrites;
      one_less = c.loops_over_loops_are_one.ensures.one_loop_less;
    } in
    record { rewrites = chain_rewrites laws; fewer = chain_shorter laws }
