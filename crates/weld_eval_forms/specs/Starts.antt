-- Builders that start from values, in the code.
use Rattle.std.specs.Prelude.{◌≡◌, ℕ, zero, suc, ℤ, pos, List, [], ◌∷◌, Option, Some, None}
use Rattle.weld_data.specs.declared.kind.Kind.{Kind}
use Rattle.weld_data.specs.declared.kind.Kind.TheVariants as kinds
use Rattle.weld_data.specs.declared.num.Num.{Num}
use Rattle.weld_data.specs.declared.op.MergeOp.{MergeOp}
use Rattle.weld_data.specs.Operation.{start_of}
use Rattle.weld_data.specs.Value.{Value, number, list, struct, dict, Values, no_values, and_value}
use Rattle.weld_eval.specs.Fits.{IsIntegerNumber}
use Rattle.weld_builders.specs.Part.{Part, Totals, list_part, total_part, totals_part}

-- the number that a value is
abbrev pub number_in : Value → ℤ
number_in (number k x) = x
number_in (list vs) = pos 0
number_in (struct vs) = pos 0
number_in (dict es) = pos 0

abbrev pub numbers_in : List Value → List ℤ
numbers_in [] = []
numbers_in (v ∷ vs) = number_in v ∷ numbers_in vs

-- the numbers among fields, each with its kind
abbrev pub totals_among : Values → Totals
totals_among no_values = []
totals_among (and_value (number k x) vs) = (k, x) ∷ totals_among vs
totals_among (and_value (list ws) vs) = totals_among vs
totals_among (and_value (struct ws) vs) = totals_among vs
totals_among (and_value (dict es) vs) = totals_among vs

-- each field is a number of an integer kind
abbrev pub AreIntegerNumbers : Values → Type 0
AreIntegerNumbers no_values = Unit {0}
AreIntegerNumbers (and_value v vs) = IsIntegerNumber v × AreIntegerNumbers vs

-- a merger starts from the value: a number of an integer kind, or a struct of such
abbrev pub MayStartTotal : Value → Type 0
MayStartTotal (number k x) = IsIntegerNumber (number k x)
MayStartTotal (list vs) = ⊥
MayStartTotal (struct vs) = AreIntegerNumbers vs
MayStartTotal (dict es) = ⊥

-- the total that starts with the number, or the totals that start with the fields
abbrev pub total_from_value : MergeOp → Value → Part
total_from_value op (number k x) = total_part op k x
total_from_value op (list vs) = list_part []
total_from_value op (struct vs) = totals_part op (totals_among vs)
total_from_value op (dict es) = list_part []

-- the first so many numbers, and for the others the neutral one
abbrev pub filled : MergeOp → Kind → List ℤ → ℕ → List ℤ
filled op k [] n = []
filled op k (x ∷ xs) zero = start_of op k ∷ filled op k xs zero
filled op k (x ∷ xs) (suc n) = x ∷ filled op k xs n

-- two numbers as a struct
abbrev pub pair_value : Kind → ℤ → Kind → ℤ → Value
pair_value k x m y = struct (and_value (number k x) (and_value (number m y) no_values))

-- the place as a number of kind i64, which it is where it is below 2 ^ 63
abbrev pub PlaceNumber : Option Num → ℕ → Type 0
PlaceNumber (Some n) i = (n.kind ≡ kinds.I64) × (n.value ≡ pos i)
PlaceNumber None i = Unit {0}
