use Rattle.weld_tree.specs.ExprTree.{let_in}
use Rattle.weld_vertical_struct.proofs.Binding.{Puts}
use Rattle.weld_vertical_struct.proofs.Opening.{Laws, pairs_good, opened_good, producer_good}
use Rattle.weld_vertical_struct.proofs.parting.pairs_are_taken_apart.Goals as goal

pub returns : goal.returns
returns c =
    let laws : Laws = record {
      itself = c.rewriting_is_an_order.ensures.itself;
      in_turn = c.rewriting_is_an_order.ensures.in_turn;
      through = c.rewriting_goes_through_every_node.ensures;
      parts = c.tidiness_is_kept.ensures.parts;
      within = c.tidiness_is_kept.ensures.within;
    } in
    let puts : Puts = record {
      once = c.lets_are_put_in_place.ensures.once;
      sound = c.lets_may_be_rewritten.ensures.sound.rewrites;
      through_let = λ a b x d f h. laws.through.at_let a b x d x f (laws.itself x) h;
      body = λ a b v f h. (laws.parts (let_in a b v f) h).1;
      within = laws.within;
    } in
    record { at_a_let = pairs_good puts; down_a_body = opened_good laws puts; in_a_producer = producer_good laws puts }
