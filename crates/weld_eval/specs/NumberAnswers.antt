-- Numbers among values, as the code answers them.
use Rattle.std.specs.Prelude.{◌≡◌, Option, Some, None}
use Rattle.weld_data.specs.Order.{IsNumber}
use Rattle.weld_data.specs.Value.{Value}
use Rattle.weld_builders.specs.Outcome.{Outcome, done}
use Rattle.weld_built.specs.Pair.{pair}
use Rattle.weld_eval.specs.declared.short.Short.{Short}
use Rattle.weld_eval.specs.ShortView.{view_short}

-- the number that the value is; there is none where it isn't a number
abbrev pub NumberAnswer : Option Short → Value → Type 0
NumberAnswer (Some n) v = v ≡ view_short n
NumberAnswer None v = ¬ IsNumber v

-- the same of an element, which is there
abbrev pub ElementNumber : Option Short → Option Value → Type 0
ElementNumber (Some n) o = o ≡ Some (view_short n)
ElementNumber None o = (v : Value) × (o ≡ Some v) × (¬ IsNumber v)

-- the same of a field, which is there
abbrev pub FieldNumber : Option Short → Outcome Value → Type 0
FieldNumber (Some n) o = o ≡ done (view_short n)
FieldNumber None o = (v : Value) × (o ≡ done v) × (¬ IsNumber v)

-- the two numbers of which the value is a struct; there are none too where the code doesn't look for them
abbrev pub PairAnswer : Option (Short × Short) → Value → Type 0
PairAnswer (Some p) v = v ≡ pair (view_short p.0) (view_short p.1)
PairAnswer None v = Unit {0}
