use Rattle.std.proofs.Common.{arith}
use Rattle.weld_vertical_struct.specs.Held.{opened_producer}
use Rattle.weld_vertical_struct.proofs.Weights.{producer_weighs}
use Rattle.weld_vertical_struct.proofs.laws.rules_may_be_tried_on_parts.Goals as goal

pub returns : goal.returns
returns c =
    let apart = c.pairs_are_taken_apart.ensures.in_a_producer in
    let fall = c.lets_may_be_rewritten.ensures.falls.lighter in
    record {
      falls = λ r f. record { lighter = λ e d h. omega (arith, f.lighter (opened_producer e) d h, producer_weighs fall e) };
      sound = λ r s. record {
        rewrites = λ e d tidy h.
            c.rewriting_is_an_order.ensures.in_turn d (opened_producer e) e
            (s.rewrites (opened_producer e) d (c.tidiness_is_kept.ensures.within (opened_producer e) e (apart e tidy).within tidy) h) (apart e tidy);
      };
    }
