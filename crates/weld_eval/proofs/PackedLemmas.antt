-- Structs of numbers where they stand in a list.
use Rattle.std.proofs.Common.{◌≡◌, ℕ, zero, suc, List, slice_get, Some, ap, arith, ◌∙◌}
use Rattle.weld_data.specs.Order.{IsNumber}
use Rattle.weld_data.specs.Structs.{HasAtMost, HasStructAt, HasThere}
use Rattle.weld_data.specs.Value.{Value, Values, no_values, and_value, number, list, struct, dict, list_of_values}
use Rattle.weld_builders.specs.Outcome.{done}
use Rattle.weld_built.specs.Pair.{pair}
use Rattle.weld_eval.specs.Fits.{HasField}
use Rattle.weld_meaning.specs.Thing.{value_at, value_field}

at_is : (vs : Values) (n : ℕ) (w : Value) → slice_get (list_of_values vs) n ≡ Some w → value_at n vs ≡ done w
at_is no_values n w e = let nothing : ⊥ = cc in absurd nothing
at_is (and_value v vs) zero w e = let same : v ≡ w = cc in ap done same
at_is (and_value v vs) (suc n) w e = at_is vs n w e

pub field_there : (n : ℕ) (v w : Value) → HasThere n w v → value_field n v ≡ done w
field_there n (number k x) w h = absurd h
field_there n (list vs) w h = absurd h
field_there n (struct vs) w h = at_is vs n w h
field_there n (dict es) w h = absurd h

pub field_ends : (n : ℕ) (v : Value) → HasAtMost n v → HasField n v → ⊥
field_ends n (number k x) h f = h
field_ends n (list vs) h f = h
field_ends n (struct vs) h f = omega (arith, h, f)
field_ends n (dict es) h f = h

-- no number stands there
pub no_number : (vs : List Value) (place : ℕ) → HasStructAt vs place → (v : Value) × (slice_get vs place ≡ Some v) × (¬ IsNumber v)
no_number vs place h = (struct h.fields, h.at, λ n. n)

pub two_there : (v a b : Value) → HasAtMost 2 v → HasThere 0 a v → HasThere 1 b v → v ≡ pair a b
two_there (number k x) a b n p q = absurd n
two_there (list vs) a b n p q = absurd n
two_there (struct no_values) a b n p q = let nothing : ⊥ = cc in absurd nothing
two_there (struct (and_value c no_values)) a b n p q = let nothing : ⊥ = cc in absurd nothing
two_there (struct (and_value c (and_value d no_values))) a b n p q = let one : c ≡ a = cc in let two : d ≡ b = cc in ap (λ u. pair u d) one ∙ ap (λ u. pair a u) two
two_there (struct (and_value c (and_value d (and_value e vs)))) a b n p q = absurd (omega (arith, n))
two_there (dict es) a b n p q = absurd n
