-- Totals of the fields of a struct in the code.
use Rattle.std.specs.Prelude.{ℕ, zero, suc, ℤ, List, [], ◌∷◌, map, length, drop}
use Rattle.weld_data.specs.declared.kind.Kind.{Kind}
use Rattle.weld_data.specs.declared.num.Num.{Num}
use Rattle.weld_data.specs.declared.op.MergeOp.{MergeOp}
use Rattle.weld_data.specs.Kind.{IsInteger}
use Rattle.weld_data.specs.Value.{Value, number}
use Rattle.weld_builders.specs.Part.{Part, Totals, kinds_of, join_totals, totals_part}

-- an operator, and a number for each field
pub record FieldTotals : Type 0 where
  pub op : MergeOp
  pub totals : Totals

abbrev pub part_of_totals : FieldTotals → Part
part_of_totals t = totals_part t.op t.totals

-- a number with its kind
abbrev pub total_in : Num → Kind × ℤ
total_in n = (n.kind, n.value)

abbrev pub totals_in : List Num → Totals
totals_in ns = map total_in ns

-- a total as a value
abbrev pub number_in : Kind × ℤ → Value
number_in x = number x.0 x.1

-- each kind is one of integers
abbrev pub AreIntegers : List Kind → Type 0
AreIntegers [] = Unit {0}
AreIntegers (k ∷ ks) = IsInteger k × AreIntegers ks

-- numbers with kinds, one for each
abbrev pub kinded : List Kind → List ℤ → Totals
kinded [] ms = []
kinded (k ∷ ks) [] = []
kinded (k ∷ ks) (m ∷ ms) = (k, m) ∷ kinded ks ms

-- so many rows of numbers joined to totals, those of the first row first
abbrev pub rows_joined : MergeOp → Totals → List ℤ → ℕ → Totals
rows_joined op xs ms zero = xs
rows_joined op xs ms (suc n) = rows_joined op (join_totals op xs (kinded (kinds_of xs) ms)) (drop (length (kinds_of xs)) ms) n
