-- Numbers of parts that lie in the range of their kind.
use Rattle.std.specs.Prelude.{ℤ, List, [], ◌∷◌}
use Rattle.weld_data.specs.declared.kind.Kind.{Kind}
use Rattle.weld_data.specs.Kind.{InRange}
use Rattle.weld_builders.specs.Part.{Part, Totals, list_part, total_part, totals_part, cells_part, keyed_part, groups_part}

abbrev pub AllInRange : Kind → List ℤ → Type 0
AllInRange k [] = Unit {0}
AllInRange k (x ∷ xs) = InRange k x × AllInRange k xs

-- each lies in the range of its kind
abbrev pub TotalsInRange : Totals → Type 0
TotalsInRange [] = Unit {0}
TotalsInRange (x ∷ xs) = InRange x.0 x.1 × TotalsInRange xs

-- a total, totals and cells lie in range: the neutral number is neutral to no others
abbrev pub IsInRange : Part → Type 0
IsInRange (list_part vs) = Unit {0}
IsInRange (total_part op k x) = InRange k x
IsInRange (totals_part op xs) = TotalsInRange xs
IsInRange (cells_part op k xs) = AllInRange k xs
IsInRange (keyed_part op k m) = Unit {0}
IsInRange (groups_part m) = Unit {0}
