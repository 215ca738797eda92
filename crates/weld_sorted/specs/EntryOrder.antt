-- Entries in the falling order of their keys.
use Rattle.std.proofs.Common.{refl}
use Rattle.std.proofs.lemmas.Cmp.{back_total}
use Rattle.std.specs.Ordering.{eq_by_cmp, as_partial_cmp}
use Rattle.std.specs.declared.cmp.Ordering.{Ordering}
use Rattle.std.specs.Cmp.{IsPartialEquivalence, IsEquivalence, IsPartialOrder, IsTotalOrder, partial_equiv_from_equiv, eq_by_cmp_equiv, po}
use Rattle.weld_data.specs.Value.{Value}
use Rattle.weld_builders.specs.ValueOrder.{value_cmp}
use Rattle.weld_builders.proofs.Order.{value_cmp_total}

-- a key and its value
abbrev pub Entry : Type 0
Entry = Value × Value

-- how one entry stands to another: the greater key comes first
abbrev pub entry_cmp : Entry → Entry → Ordering
entry_cmp a b = value_cmp b.0 a.0

pub total_order : IsTotalOrder entry_cmp
total_order = let o = back_total value_cmp_total in record { antisymm = λ x y. o.antisymm x.0 y.0; trans = λ x y z. o.trans x.0 y.0 z.0; congr = λ x y z. o.congr x.0 y.0 z.0 }

pub equivalence : IsEquivalence (eq_by_cmp entry_cmp)
equivalence = eq_by_cmp_equiv total_order

pub equal_laws : IsPartialEquivalence (eq_by_cmp entry_cmp)
equal_laws = partial_equiv_from_equiv equivalence

pub partial_laws : IsPartialOrder (eq_by_cmp entry_cmp) (as_partial_cmp entry_cmp)
partial_laws = po total_order (λ x y. refl)
