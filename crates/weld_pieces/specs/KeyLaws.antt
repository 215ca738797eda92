-- The laws of comparisons and of hashes, of keys in the one order of all values.
use Rattle.std.proofs.Common.{◌≡◌, IsTrue, ap, refl}
use Rattle.std.specs.Ordering.{eq_by_cmp, as_partial_cmp}
use Rattle.std.specs.Cmp.{IsPartialEquivalence, IsEquivalence, IsPartialOrder, IsTotalOrder, Equal-is, partial_equiv_from_equiv, eq_by_cmp_equiv, po}
use Rattle.weld_builders.specs.ValueOrder.{value_cmp}
use Rattle.weld_data.specs.Value.{Value}
use Rattle.weld_builders.proofs.Order.{value_cmp_total, value_cmp-IsAntisymmetric}
use Rattle.weld_pieces.specs.KeyHash.{key_input}

pub equivalence : IsEquivalence (eq_by_cmp value_cmp)
equivalence = eq_by_cmp_equiv value_cmp_total

pub equal_laws : IsPartialEquivalence (eq_by_cmp value_cmp)
equal_laws = partial_equiv_from_equiv equivalence

pub partial_laws : IsPartialOrder (eq_by_cmp value_cmp) (as_partial_cmp value_cmp)
partial_laws = po value_cmp_total (λ x y. refl)

pub total_order : IsTotalOrder value_cmp
total_order = value_cmp_total

-- equal keys are hashed alike
pub alike : (x y : Value) → IsTrue (eq_by_cmp value_cmp x y) → key_input x ≡ key_input y
alike x y e = ap key_input (value_cmp-IsAntisymmetric x y ((Equal-is (value_cmp x y)).0 e))
