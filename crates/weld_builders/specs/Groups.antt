-- Values merged into groups one after another.
use Rattle.std.specs.Prelude.{if◌then◌else◌, Option, Some, None, List, [], ◌∷◌}
use Rattle.std.specs.FinMap as finite
use Rattle.weld_data.specs.Value.{Value}
use Rattle.weld_data.specs.Lookup.{same_value}
use Rattle.weld_builders.specs.Part.{appended, merge_key}
use Rattle.weld_builders.specs.ValueOrder.{ValueMap}

-- pairs of a key and a value, the first merged first
abbrev pub merge_pairs : ValueMap (List Value) → List (Value × Value) → ValueMap (List Value)
merge_pairs m [] = m
merge_pairs m (e ∷ es) = merge_pairs (merge_key appended m e.0 (e.1 ∷ [])) es

-- the values that have a key, in order
abbrev pub values_at : Value → List (Value × Value) → List Value
values_at key [] = []
values_at key (e ∷ es) = if same_value e.0 key then e.1 ∷ values_at key es else values_at key es

-- a list that may be there
abbrev pub or_none : Option (List Value) → List Value
or_none None = []
or_none (Some vs) = vs

-- the group of a key, empty where the key isn't there
abbrev pub group_at : ValueMap (List Value) → Value → List Value
group_at m key = or_none (finite.get m key)
