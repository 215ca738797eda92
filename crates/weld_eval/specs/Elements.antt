-- What an element stands for, lent, a number or a struct of numbers.
use Rattle.std.specs.Prelude.{◌≡◌, ℕ, ◌<◌, ℤ, pos, Result, Ok, Err}
use Rattle.weld_data.specs.declared.stop.Stop.{Stop}
use Rattle.weld_data.specs.declared.stop.Stop.TheVariants.{Fault, Memory}
use Rattle.weld_data.specs.Value.{Value, number}
use Rattle.weld_builders.specs.Outcome.{done}
use Rattle.weld_builders.specs.Part.{as_number}
use Rattle.weld_pieces.specs.Answer.{IsOutside}
use Rattle.weld_data.specs.View.{view_val, view_packed}
use Rattle.weld_eval.specs.declared.values.element.Element.{Element}
use Rattle.weld_eval.specs.declared.values.element.Element.TheVariants as elements
use Rattle.weld_data.specs.declared.num.Num.{Num}

abbrev pub view_element : Element → Value
view_element (elements.Lent v) = view_val v.now
view_element (elements.Number n) = number n.kind n.value
view_element (elements.Packed p) = view_packed p

abbrev pub view_num : Num → Value
view_num n = number n.kind n.value

-- the place that a number is: it is one below the count, else there is a fault
abbrev pub PlaceAnswer : Result ℕ Stop → Value → ℕ → Type 0
PlaceAnswer (Ok i) v count = (as_number v ≡ done (pos i)) × (i < count)
PlaceAnswer (Err Fault) v count = (x : ℤ) × (as_number v ≡ done x) × IsOutside x count
PlaceAnswer (Err Memory) v count = ⊥
