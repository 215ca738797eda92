-- What numbers by keys in the code stand for.
use Rattle.std.specs.Prelude.{ℤ, List}
use Rattle.std.specs.Map.{values_of}
use Rattle.weld_data.specs.declared.kind.Kind.{Kind}
use Rattle.weld_data.specs.Kind.{IsInteger}
use Rattle.weld_data.specs.Value.{number}
use Rattle.weld_builders.specs.ValueOrder.{ValueMap}
use Rattle.weld_builders.specs.Range.{AllInRange}
use Rattle.weld_pieces.specs.Keyed.{map_of, itself}
use Rattle.weld_pieces.specs.Kept.{IsNarrowKey}
use Rattle.weld_pieces.specs.KeyMapView.{kind_of_keys}
use Rattle.weld_pieces.specs.declared.key_map.KeyMap.{KeyMap}
use Rattle.weld_pieces.specs.declared.key_map.KeyMap.TheVariants as maps

abbrev pub numbers_in : KeyMap ℤ → ValueMap ℤ
numbers_in (maps.Numbers k m) = map_of (number k) m.entries
numbers_in (maps.Values m) = map_of itself m.entries

abbrev pub values_in : KeyMap ℤ → List ℤ
values_in (maps.Numbers k m) = values_of m.entries
values_in (maps.Values m) = values_of m.entries

-- the kind is one of integers, and the numbers lie in its range; keys that are numbers lie within an i64
pub record IsKeyed (kind : Kind) (m : KeyMap ℤ) : Type 0 where
  pub integer : IsInteger kind
  pub in_range : AllInRange kind (values_in m)
  pub narrow : IsNarrowKey (kind_of_keys m)
