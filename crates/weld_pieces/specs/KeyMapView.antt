-- What a map of keys in the code stands for.
use Rattle.std.specs.Prelude.{Option, Some, None, List}
use Rattle.weld_data.specs.declared.kind.Kind.{Kind}
use Rattle.weld_data.specs.Value.{Value, number}
use Rattle.weld_pieces.specs.Keyed.{by_value, itself}
use Rattle.weld_pieces.specs.declared.key_map.KeyMap.{KeyMap}
use Rattle.weld_pieces.specs.declared.key_map.KeyMap.TheVariants as maps

module _ {V : Type 0} where
  -- keys are numbers of a kind, or values
  abbrev pub kind_of_keys : KeyMap V → Option Kind
  kind_of_keys (maps.Numbers k m) = Some k
  kind_of_keys (maps.Values m) = None

  -- the entries, in the order in which their keys came
  abbrev pub entries_in : KeyMap V → List (Value × V)
  entries_in (maps.Numbers k m) = by_value (number k) m.entries
  entries_in (maps.Values m) = by_value itself m.entries
