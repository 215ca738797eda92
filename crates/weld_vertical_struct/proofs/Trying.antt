-- A rule tried once the pairs are taken apart.
use Rattle.std.proofs.Common.{◌≡◌, true, false, Option, Some, None, is_some, refl, ap}
use Rattle.weld_tree.specs.ExprTree.{ExprTree}
use Rattle.weld_rewriting.specs.Sweep.{RootRule, or_same, settled}
use Rattle.weld_vertical_struct.specs.Held.{opened_producer, opened_rule, producer_has_pair}
use Rattle.weld_vertical_struct.proofs.Weights.{producer_unopened}

-- where there is no pair, it is as it was
pub opened_is : (r : RootRule) (e : ExprTree) → producer_has_pair e ≡ false → opened_rule r e ≡ r e
opened_is r e h = ap r (producer_unopened e h)

pub opened_left : (r : RootRule) (e : ExprTree) → is_some (r (opened_producer e)) ≡ false → settled (opened_rule r) e ≡ e
opened_left r e h = by (r (opened_producer e)) h
  where
    by : (o : Option ExprTree) → is_some o ≡ false → or_same o e ≡ e
    by (Some d) k = let nothing : ⊥ = cc in absurd nothing
    by None k = refl

pub opened_matched : (r : RootRule) (e : ExprTree) → is_some (r (opened_producer e)) ≡ true → settled r (opened_producer e) ≡ settled (opened_rule r) e
opened_matched r e h = by (r (opened_producer e)) h
  where
    by : (o : Option ExprTree) → is_some o ≡ true → or_same o (opened_producer e) ≡ or_same o e
    by (Some d) k = refl
    by None k = let nothing : ⊥ = cc in absurd nothing
