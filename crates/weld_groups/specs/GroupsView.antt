-- What lists by keys in the code stand for.
use Rattle.std.specs.Prelude.{Option, List}
use Rattle.std.specs.Map.{values_of}
use Rattle.weld_data.specs.declared.kind.Kind.{Kind}
use Rattle.weld_data.specs.Value.{Value, number}
use Rattle.weld_builders.specs.ValueOrder.{ValueMap}
use Rattle.weld_pieces.specs.declared.list.ListPart.{ListPart}
use Rattle.weld_pieces.specs.Kept.{IsNarrowKey}
use Rattle.weld_pieces.specs.Keyed.{map_of, itself}
use Rattle.weld_groups.specs.Groups.{lists_in, AreListsOf}
use Rattle.weld_pieces.specs.KeyMapView.{kind_of_keys}
use Rattle.weld_pieces.specs.declared.key_map.KeyMap.{KeyMap}
use Rattle.weld_pieces.specs.declared.key_map.KeyMap.TheVariants as maps

abbrev pub groups_in : KeyMap ListPart → ValueMap (List Value)
groups_in (maps.Numbers k m) = map_of (number k) (lists_in m.entries)
groups_in (maps.Values m) = map_of itself (lists_in m.entries)

abbrev pub all_lists : KeyMap ListPart → List ListPart
all_lists (maps.Numbers k m) = values_of m.entries
all_lists (maps.Values m) = values_of m.entries

-- each list keeps its items so, and keys that are numbers lie within an i64
pub record AreGroupsOf (items : Option Kind) (m : KeyMap ListPart) : Type 0 where
  pub lists : AreListsOf items (all_lists m)
  pub narrow : IsNarrowKey (kind_of_keys m)
