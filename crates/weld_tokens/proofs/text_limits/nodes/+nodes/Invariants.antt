use Rattle.std.proofs.Common.{◌≡◌, ◌+◌, ◌-◌, ◌^◌, ◌≤◌, min, drop, map}
use Rattle.weld_tree.specs.ExprTree.{pack_exprs, pack_legs}
use Rattle.weld_tree.specs.ExprView.{view_leg}
use Rattle.weld_tree.specs.ExprFalls.{expr_size}
use Rattle.weld_tokens.specs.Depth.{earlier, first_deep, first_deep_in, first_deep_in_legs}
use Rattle.weld_tokens.specs.Lets.{lets, lets_in, lets_in_legs}
use Rattle.weld_tokens.proofs.text_limits.nodes.+nodes.Given as goal

-- what was found so far and what is left make the whole; the sum, where it fits
abbrev pub invariant-nodes_in-loop-e : goal.invariant-nodes_in-loop-e
invariant-nodes_in-loop-e l = record {
  deep : first_deep_in l.levels l.fn.found.too_deep (pack_exprs l.e-items) ≡ first_deep_in l.levels l.first (pack_exprs (drop l.e-index l.e-items));
  fits : l.count ≤ 2 ^ 64 - 1;
  lets : min (l.count + lets_in (pack_exprs (drop l.e-index l.e-items))) (2 ^ 64 - 1) ≡ min (l.fn.found.lets + lets_in (pack_exprs l.e-items)) (2 ^ 64 - 1);
}

abbrev pub invariant-nodes_in_legs-loop-leg : goal.invariant-nodes_in_legs-loop-leg
invariant-nodes_in_legs-loop-leg l = record {
  deep : first_deep_in_legs l.levels l.fn.found.too_deep (pack_legs (map view_leg l.leg-items)) ≡ first_deep_in_legs l.levels l.first (pack_legs (map view_leg (drop l.leg-index l.leg-items)));
  fits : l.count ≤ 2 ^ 64 - 1;
  lets : min (l.count + lets_in_legs (pack_legs (map view_leg (drop l.leg-index l.leg-items)))) (2 ^ 64 - 1) ≡ min (l.fn.found.lets + lets_in_legs (pack_legs (map view_leg l.leg-items))) (2 ^ 64 - 1);
}

-- the earlier of what was found and of what is left is that of the whole, the count and what is left make the whole, where it
-- fits, and what is left is no larger
abbrev pub invariant-nodes_of-loop-rest : goal.invariant-nodes_of-loop-rest
invariant-nodes_of-loop-rest l = record {
  deep : first_deep l.levels l.e ≡ earlier l.found (first_deep l.left l.rest);
  fits : l.count ≤ 2 ^ 64 - 1;
  lets : min (l.count + lets l.rest) (2 ^ 64 - 1) ≡ min (lets l.e) (2 ^ 64 - 1);
  within : expr_size l.rest ≤ expr_size l.e;
}

abbrev pub decreases-nodes_of-loop-rest : goal.decreases-nodes_of-loop-rest
decreases-nodes_of-loop-rest l = expr_size l.rest
