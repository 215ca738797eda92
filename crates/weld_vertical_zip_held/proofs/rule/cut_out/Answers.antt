use Rattle.std.specs.Prelude.{IfSome}
use Rattle.std.proofs.Common.{◌<◌, List, map, length, ap, sym, subst, ◌∙◌, arith}
use Rattle.weld_tree.specs.ExprTree.{LegTree, pack_legs}
use Rattle.weld_tree.specs.ExprView.{view_leg}
use Rattle.weld_tree.specs.declared.expr.Leg.{Leg}
use Rattle.weld_vertical_zip_held.specs.Rule.{place_each}
use Rattle.weld_vertical_zip_held.proofs.Cutting.{cut_there, is_cut, some_place}
use Rattle.weld_vertical_zip_held.proofs.rule.cut_out.Goals as goal

pub unreachable-requires : goal.unreachable-requires
unreachable-requires c =
    some_place (pack_legs c.args.legs) c.requires
    (sym (ap (λ (ls : List LegTree). place_each (pack_legs ls)) (ap (map view_leg) c.as_slice.ensures.value ∙ c.into_vec-before.ensures)) ∙ sym c.in_ok-at.ensures.value ∙ c.in_default.is)

pub producer_of-producer-requires : goal.producer_of-producer-requires
producer_of-producer-requires c =
    (cut_there c.into_vec-before.result.items c.pop.new.self.items c.in_ok-after.after.items c.in-Some-pop.leg c.in-Some.at (omega (arith, subst (λ o. IfSome o (λ n. n < length c.as_slice.result.now)) c.in-Some.is c.in_ok-at.ensures.within, ap length c.as_slice.ensures.value))
    (sym c.in-Some-pop.ensures.items ∙ c.in_ok-after.ensures.items) c.in_ok-after.ensures.tail
    (sym c.in-Some.is ∙ c.in_ok-at.ensures.value ∙ ap (λ (ls : List Leg). place_each (pack_legs (map view_leg ls))) c.as_slice.ensures.value)).each

pub returns : goal.returns
returns c =
    is_cut c.into_vec-before.result.items c.pop.new.self.items c.in_ok-after.after.items c.args.legs c.in-Some-pop.leg c.in-Some.at c.producer_of-producer.result.value c.into_vec-before.ensures
    (omega (arith, subst (λ o. IfSome o (λ n. n < length c.as_slice.result.now)) c.in-Some.is c.in_ok-at.ensures.within, ap length c.as_slice.ensures.value)) (sym c.in-Some-pop.ensures.items ∙ c.in_ok-after.ensures.items) c.in_ok-after.ensures.tail
    (sym c.in-Some.is ∙ c.in_ok-at.ensures.value ∙ ap (λ (ls : List Leg). place_each (pack_legs (map view_leg ls))) c.as_slice.ensures.value) c.producer_of-producer.ensures
