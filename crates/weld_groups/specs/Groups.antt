-- Lists by keys in the code.
use Rattle.std.specs.Prelude.{◌≡◌, Option, List, map, refl}
use Rattle.std.specs.List.{AllByRecursion}
use Rattle.std.specs.Coded.{Coded, code_by, coded×, coded_option}
use Rattle.std.specs.FinMap as finite
use Rattle.weld_data.specs.declared.kind.Kind.{Kind}
use Rattle.weld_data.specs.Value.{Value, list, values}
use Rattle.weld_data.specs.ValueCode.{coded_value, coded_values}
use Rattle.weld_builders.specs.ValueOrder.{ValueMap}
use Rattle.weld_builders.specs.Part.{Part, groups_part}
use Rattle.weld_pieces.specs.declared.list.ListPart.{ListPart}
use Rattle.weld_pieces.specs.Items.{items_of_list, kind_of_items}
use Rattle.weld_pieces.specs.Keyed.{coded_kind, CanKeep}

-- how its keys are kept, how the items of its lists are, and the lists
pub record Groups : Type 0 where
  pub key : Option Kind
  pub items : Option Kind
  pub groups : ValueMap (List Value)

abbrev pub part_of_groups : Groups → Part
part_of_groups g = groups_part g.groups

abbrev pub coded_groups : Coded Groups
coded_groups =
    code_by (Option Kind × (Option Kind × ValueMap (List Value))) (coded× (coded_option coded_kind) (coded× (coded_option coded_kind) (finite.code coded_value coded_values)))
    (λ g. (g.key, (g.items, g.groups))) (λ p. record { key = p.0; items = p.1.0; groups = p.1.1 }) (λ _. refl)

-- entries whose values are lists in the code, as entries with the items
abbrev pub lists_in : {K : Type 0} → List (K × ListPart) → List (K × List Value)
lists_in es = map (λ (e : _ × ListPart). (e.0, items_of_list e.1)) es

-- each list keeps its items so
abbrev pub AreListsOf : Option Kind → List ListPart → Type 0
AreListsOf kind ls = AllByRecursion (λ (l : ListPart). kind_of_items l ≡ kind) ls

-- the items of a list as a value
abbrev pub list_value : List Value → Value
list_value vs = list (values vs)

-- the items of each list may be kept so
abbrev pub CanKeepEach : Option Kind → List ListPart → Type 0
CanKeepEach items ls = AllByRecursion (λ (l : ListPart). CanKeep items (kind_of_items l)) ls
