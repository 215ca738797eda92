use Rattle.std.proofs.Common.{◌≡◌, List, map, ◌≤◌, refl, ap, subst, ◌∙◌, arith}
use Rattle.std.specs.List.{All}
use Rattle.weld_tree.specs.ExprTree.{LegTree, pack_legs}
use Rattle.weld_tree.specs.ExprFalls.{leg_nodes, legs_nodes}
use Rattle.weld_tree.specs.ExprView.{view_leg}
use Rattle.weld_tree.specs.Lending.{refill}
use Rattle.weld_tree.proofs.Parts.{refill-map, legs_parts}
use Rattle.weld_tree.proofs.expr.Legs.as_mut_slice.Goals as goal

pub returns : goal.returns
returns c =
    let same : map view_leg c.as_mut_slice.result.now ≡ c.args.self.now = ap (map view_leg) c.as_mut_slice.ensures.value ∙ c.self.view_is in (
      (refl, λ w. refill-map c.self.inside.items.len c.self.inside.items.items w (omega arith) ∙ ap (λ old. refill old (map view_leg w)) c.self.view_is),
      record {
        writes_back = tt;
        value = same;
        parts = subst (λ (ls : List LegTree). All (λ leg. leg_nodes (view_leg leg) ≤ legs_nodes (pack_legs ls)) c.as_mut_slice.result.now) same (legs_parts c.as_mut_slice.result.now);
      },
    )
