-- What a tile makes may go to another thread.
use denote.Param.Send.{IsSend, view_send, sendable}
use denote.Param.SendFields.{declared_send, variants_send, as_row_send}
use denote.Struct.Field.{i128-field}
use Rattle.indexmap.proofs.map.IndexMap.TheSendSync as Maps
use Rattle.std.proofs.Crossing
use Rattle.weld_data.specs.contracts.value.Val as Val
use Rattle.weld_pieces.specs.contracts.list.ListPart as ListPart
use Rattle.weld_pieces.specs.contracts.key.Key as Key
use Rattle.weld_pieces.specs.contracts.key.Key.TheInside as KeyInside
use Rattle.weld_pieces.specs.contracts.keyed.KeyedPart.TheInside as KeyedInside
use Rattle.weld_pieces.specs.contracts.keyed.KeyedPart as KeyedPart
use Rattle.weld_pieces.specs.contracts.key_map.KeyMap as KeyMap
use Rattle.weld_pieces.specs.contracts.total.TotalPart as TotalPart
use Rattle.weld_pieces.specs.contracts.totals.TotalsPart as TotalsPart
use Rattle.weld_groups.specs.contracts.groups.GroupsPart as GroupsPart
use Rattle.weld_groups.specs.contracts.groups.GroupsPart.TheInside as GroupsInside
use Rattle.weld_built.specs.contracts.cells.Cells as CellsState
use Rattle.weld_built.specs.contracts.built.State as State
use Rattle.weld_built.specs.contracts.built.Built.TheInside as BuiltInside
use Rattle.std.proofs.alloc.Global.TheSendSync as Globals
use Rattle.weld_data.specs.contracts.value.Vals as Vals
use Rattle.weld_eval.specs.contracts.thing.Owned as Owned
use Rattle.weld_eval.proofs.thing.Fields.TheLaws.TheKnot as FieldsKnot
use Rattle.weld_built.specs.contracts.built.Built as Built
use Rattle.weld_data.proofs.kind.Kind.TheSendSync as Kinds
use Rattle.weld_data.proofs.op.MergeOp.TheSendSync as MergeOps
use Rattle.weld_data.proofs.num.Num.TheSendSync as Nums
use Rattle.weld_data.proofs.value.Pairs.TheLaws.TheKnot
use Rattle.std.specs.contracts.result.Result as Result
use Rattle.weld_data.specs.contracts.stop.Stop as Stop
use Rattle.weld_data.proofs.stop.Stop.TheSendSync as StopSends
use Rattle.weld_data.proofs.structs.Structs.TheSendSync as StructLists
use Rattle.weld_tiles.proofs.tile.Tile.TheSendSync as TileSends
use Rattle.weld_tile_parts.specs.contracts.piece.TilePart as TilePart
use Rattle.weld_tile_parts.proofs.mark.Mark.TheSendSync as MarkSends

val_send : IsSend Val.the_row
val_send = search (Crossing.crosses, TheKnot.crosses, StructLists.the_send, sendable) depth 60 fits 100000

vals_send : IsSend Vals.the_row
vals_send = search (Crossing.crosses, TheKnot.crosses, StructLists.the_send, sendable) depth 60 fits 100000

list_send : IsSend ListPart.the_row
list_send = search (Crossing.crosses, val_send, StructLists.the_send, sendable) depth 60 fits 100000

key_send : IsSend Key.the_row
key_send = view_send _ _ _ _ _ (declared_send KeyInside.the_type ((search sendable), (val_send, tt)))

keyed_map_send : IsSend (KeyMap.the_row i128-field.row)
keyed_map_send =
    variants_send (KeyMap.enum i128-field.row)
    ((Kinds.the_send, (search (Crossing.crosses, Maps.the_send, as_row_send, sendable) depth 60 fits 100000, tt)), ((search (Crossing.crosses, key_send, Maps.the_send, as_row_send, sendable) depth 60 fits 100000, tt), tt))

keyed_send : IsSend KeyedPart.the_row
keyed_send = view_send _ _ _ _ _ (declared_send KeyedInside.the_type (MergeOps.the_send, (Kinds.the_send, (keyed_map_send, tt))))

groups_map_send : IsSend (KeyMap.the_row ListPart.the_row)
groups_map_send =
    variants_send (KeyMap.enum ListPart.the_row)
    ((Kinds.the_send, (search (Crossing.crosses, list_send, Maps.the_send, as_row_send, sendable) depth 60 fits 100000, tt)), ((search (Crossing.crosses, key_send, list_send, Maps.the_send, as_row_send, sendable) depth 60 fits 100000, tt), tt))

groups_send : IsSend GroupsPart.the_row
groups_send =
    view_send _ _ _ _ _
    (declared_send GroupsInside.the_type (Globals.the_send, (search (Crossing.crosses, Kinds.the_send, sendable) depth 60 fits 100000, (groups_map_send, tt))))

total_send : IsSend TotalPart.the_row
total_send = search sendable depth 60 fits 100000

totals_send : IsSend TotalsPart.the_row
totals_send = search (Crossing.crosses, Nums.the_send, MergeOps.the_send, sendable) depth 60 fits 100000

cells_send : IsSend CellsState.the_row
cells_send = search (Crossing.crosses, sendable) depth 60 fits 100000

state_send : IsSend State.the_row
state_send =
    variants_send State.enum
    ((total_send, tt), ((Globals.the_send, (totals_send, tt)), ((Globals.the_send, (list_send, tt)), ((cells_send, tt), ((Globals.the_send, (keyed_send, tt)), ((Globals.the_send, (groups_send, tt)), tt))))))

built_send : IsSend Built.the_row
built_send = view_send _ _ _ _ _ (declared_send BuiltInside.the_type (state_send, tt))

pub owned_send : IsSend Owned.the_row
owned_send = search (Crossing.crosses, FieldsKnot.crosses, TheKnot.crosses, built_send, vals_send, StructLists.the_send, sendable) depth 60 fits 100000

pub part_send : IsSend TilePart.the_row
part_send = declared_send TilePart.the_type (TileSends.the_send, (owned_send, (MarkSends.the_send, tt)))

-- what a tile answers
pub answer_send : IsSend (Result.the_row TilePart.the_row Stop.the_row)
answer_send = search (Crossing.crosses, part_send, StopSends.the_send, sendable) depth 60 fits 20000
