-- What builders in the code stand for.
use Rattle.std.specs.Prelude.{◌≡◌, Option, Result, Ok, Err}
use Rattle.weld_data.specs.declared.kind.Kind.{Kind}
use Rattle.weld_data.specs.declared.stop.Stop.{Stop}
use Rattle.weld_data.specs.declared.stop.Stop.TheVariants.{Fault, Memory}
use Rattle.weld_builders.specs.Outcome.{Outcome, done, fault}
use Rattle.weld_builders.specs.Part.{Part, list_part}
use Rattle.weld_builders.specs.ValueOrder.{ValueMap}
use Rattle.weld_pieces.specs.Items.{items_of_list}
use Rattle.weld_pieces.specs.Total.{part_of_total}
use Rattle.weld_pieces.specs.Totals.{part_of_totals}
use Rattle.weld_pieces.specs.Keyed.{part_of_keyed, KeysAreKept}
use Rattle.weld_groups.specs.Groups.{part_of_groups}
use Rattle.weld_built.specs.CellsState.{part_of_cells_state, AreFormed}
use Rattle.weld_built.specs.declared.built.State.{State}
use Rattle.weld_built.specs.declared.built.State.TheVariants as states

abbrev pub part_of_state : State → Part
part_of_state (states.Total t) = part_of_total t
part_of_state (states.Totals alloc t) = part_of_totals t
part_of_state (states.List alloc p) = list_part (items_of_list p)
part_of_state (states.Cells c) = part_of_cells_state c
part_of_state (states.Keyed alloc k) = part_of_keyed k
part_of_state (states.Groups alloc g) = part_of_groups g

-- the keys are such as can be kept so
pub record AreKeys {X : Type 0} (key : Option Kind) (m : ValueMap X) : Type 0 where
  pub kept : KeysAreKept key m

-- cells are of an integer kind, and keys are such as the part takes
abbrev pub IsState : State → Type 0
IsState (states.Total t) = Unit {0}
IsState (states.Totals alloc t) = Unit {0}
IsState (states.List alloc p) = Unit {0}
IsState (states.Cells c) = AreFormed c
IsState (states.Keyed alloc k) = AreKeys k.key k.numbers
IsState (states.Groups alloc g) = AreKeys g.key g.groups

-- what a merge answers: Ok, that it is done with what is there then; a fault, that it is one; want of memory says nothing
abbrev pub MergeAnswer : {T : Type 0} → Result T Stop → Outcome Part → Part → Type 0
MergeAnswer (Ok x) o new = o ≡ done new
MergeAnswer (Err Fault) o new = o ≡ fault
MergeAnswer (Err Memory) o new = Unit {0}
