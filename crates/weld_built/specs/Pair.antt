-- The items of builders that take a number or a value at an index or a key.
use Rattle.std.specs.Prelude.{ℤ, List, map}
use Rattle.weld_data.specs.declared.kind.Kind.{Kind}
use Rattle.weld_data.specs.Value.{Value, number, struct, and_value, no_values}

-- a struct of two fields
abbrev pub pair : Value → Value → Value
pair a b = struct (and_value a (and_value b no_values))

-- such structs of two numbers of these kinds
abbrev pub number_pairs : Kind → Kind → List (ℤ × ℤ) → List Value
number_pairs key kind es = map (λ (e : ℤ × ℤ). pair (number key e.0) (number kind e.1)) es
