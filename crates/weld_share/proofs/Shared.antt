-- Threads may share a plan, where its run stands, what runs the stretches of a loop, and these.
use denote.Ref.{NamedLft, ShrRef}
use denote.Struct.Field.{i128-field, shr_ref_field, row_field}
use denote.Param.Send.{IsSync, view_sync, shr_sync, sendable}
use denote.Param.SendFields.{declared_sync, variants_sync, as_row_sync}
use Rattle.indexmap.proofs.map.IndexMap.TheSendSync as Maps
use Rattle.std.proofs.Crossing
use Rattle.weld_data.specs.contracts.value.Val as Val
use Rattle.weld_pieces.specs.contracts.list.ListPart as ListPart
use Rattle.weld_pieces.specs.contracts.key.Key as Key
use Rattle.weld_pieces.specs.contracts.key.Key.TheInside as KeyInside
use Rattle.weld_pieces.specs.contracts.keyed.KeyedPart.TheInside as KeyedInside
use Rattle.weld_pieces.specs.contracts.keyed.KeyedPart as KeyedPart
use Rattle.weld_pieces.specs.contracts.key_map.KeyMap as KeyMap
use Rattle.weld_pieces.specs.contracts.total.TotalPart as TotalPart
use Rattle.weld_pieces.specs.contracts.totals.TotalsPart as TotalsPart
use Rattle.weld_groups.specs.contracts.groups.GroupsPart as GroupsPart
use Rattle.weld_groups.specs.contracts.groups.GroupsPart.TheInside as GroupsInside
use Rattle.weld_built.specs.contracts.cells.Cells as CellsState
use Rattle.weld_built.specs.contracts.built.State as State
use Rattle.weld_built.specs.contracts.built.Built.TheInside as BuiltInside
use Rattle.std.proofs.alloc.Global.TheSendSync as Globals
use Rattle.weld_data.specs.contracts.value.Vals as Vals
use Rattle.weld_eval.specs.contracts.thing.Owned as Owned
use Rattle.weld_eval.specs.contracts.thing.Fields as Fields
use Rattle.weld_eval.specs.contracts.names.Named as Named
use Rattle.weld_eval.specs.contracts.names.Names as Names
use Rattle.weld_exec.specs.contracts.env.Env as Env
use Rattle.weld_tree.proofs.sym.Sym.TheSendSync as Syms
use Rattle.weld_eval.proofs.thing.Fields.TheLaws.TheKnot as FieldsKnot
use Rattle.weld_built.specs.contracts.built.Built as Built
use Rattle.weld_data.proofs.kind.Kind.TheSendSync as Kinds
use Rattle.weld_data.proofs.op.MergeOp.TheSendSync as MergeOps
use Rattle.weld_data.proofs.value.Pairs.TheLaws.TheKnot
use denote.RattleType.{RattleType}
use Rattle.weld_share.specs.contracts.stretch.Stretch as Stretch
use Rattle.weld_share.specs.contracts.tiled.Tiled as Tiled
use Rattle.weld_share.specs.contracts.sharing.Batch as Batch
use Rattle.weld_tiles.proofs.tile.Tile.TheSendSync as TileSends
use Rattle.weld_data.proofs.op.BinOp.TheSendSync as BinOps
use Rattle.weld_data.proofs.num.Num.TheSendSync as Nums
use Rattle.weld_data.proofs.structs.Structs.TheSendSync as StructLists
use Rattle.weld_data.proofs.text.Text.TheSendSync as Texts
use Rattle.weld_data.proofs.items.Items.TheSendSync as ItemLists
use Rattle.weld_meaning.proofs.loop_id.LoopId.TheSendSync as LoopIds
use Rattle.weld_tree.proofs.expr.ManyForm.TheSendSync as Manys
use Rattle.weld_tree.proofs.expr.ThreeForm.TheSendSync as Threes
use Rattle.weld_tree.proofs.expr.TwoForm.TheSendSync as Twos
use Rattle.weld_tree.proofs.place.Place.TheSendSync as Places
use Rattle.weld_tree.specs.contracts.expr.Expr as Expr
use Rattle.weld_tree.specs.contracts.expr.OneForm as OneForm
use Rattle.weld_tree.specs.contracts.program.Program as Program
use Rattle.weld_plan.specs.contracts.step.Step as Step
use Rattle.weld_plan.specs.contracts.plan.Plan as Plan
use Rattle.weld_tree.proofs.expr.Expr.TheLaws.TheKnot as ExprKnot
use Rattle.weld_tree.proofs.ty.Ty.TheLaws.TheKnot as TypeKnot

val_sync : IsSync Val.the_row
val_sync = search (Crossing.crosses, TheKnot.crosses, StructLists.the_sync, sendable) depth 60 fits 100000

vals_sync : IsSync Vals.the_row
vals_sync = search (Crossing.crosses, TheKnot.crosses, StructLists.the_sync, sendable) depth 60 fits 100000

list_sync : IsSync ListPart.the_row
list_sync = search (Crossing.crosses, val_sync, StructLists.the_sync, sendable) depth 60 fits 100000

key_sync : IsSync Key.the_row
key_sync = view_sync _ _ _ _ _ (declared_sync KeyInside.the_type ((search sendable), (val_sync, tt)))

keyed_map_sync : IsSync (KeyMap.the_row i128-field.row)
keyed_map_sync =
    variants_sync (KeyMap.enum i128-field.row)
    ((Kinds.the_sync, (search (Crossing.crosses, Maps.the_sync, as_row_sync, sendable) depth 60 fits 100000, tt)), ((search (Crossing.crosses, key_sync, Maps.the_sync, as_row_sync, sendable) depth 60 fits 100000, tt), tt))

keyed_sync : IsSync KeyedPart.the_row
keyed_sync = view_sync _ _ _ _ _ (declared_sync KeyedInside.the_type (MergeOps.the_sync, (Kinds.the_sync, (keyed_map_sync, tt))))

groups_map_sync : IsSync (KeyMap.the_row ListPart.the_row)
groups_map_sync =
    variants_sync (KeyMap.enum ListPart.the_row)
    ((Kinds.the_sync, (search (Crossing.crosses, list_sync, Maps.the_sync, as_row_sync, sendable) depth 60 fits 100000, tt)), ((search (Crossing.crosses, key_sync, list_sync, Maps.the_sync, as_row_sync, sendable) depth 60 fits 100000, tt), tt))

groups_sync : IsSync GroupsPart.the_row
groups_sync =
    view_sync _ _ _ _ _
    (declared_sync GroupsInside.the_type (Globals.the_sync, (search (Crossing.crosses, Kinds.the_sync, sendable) depth 60 fits 100000, (groups_map_sync, tt))))

total_sync : IsSync TotalPart.the_row
total_sync = search sendable depth 60 fits 100000

totals_sync : IsSync TotalsPart.the_row
totals_sync = search (Crossing.crosses, Nums.the_sync, MergeOps.the_sync, sendable) depth 60 fits 100000

cells_sync : IsSync CellsState.the_row
cells_sync = search (Crossing.crosses, sendable) depth 60 fits 100000

state_sync : IsSync State.the_row
state_sync =
    variants_sync State.enum
    ((total_sync, tt), ((Globals.the_sync, (totals_sync, tt)), ((Globals.the_sync, (list_sync, tt)), ((cells_sync, tt), ((Globals.the_sync, (keyed_sync, tt)), ((Globals.the_sync, (groups_sync, tt)), tt))))))

built_sync : IsSync Built.the_row
built_sync = view_sync _ _ _ _ _ (declared_sync BuiltInside.the_type (state_sync, tt))

owned_sync : IsSync Owned.the_row
owned_sync = search (Crossing.crosses, FieldsKnot.crosses, TheKnot.crosses, built_sync, vals_sync, StructLists.the_sync, sendable) depth 60 fits 100000

fields_sync : IsSync Fields.the_row
fields_sync = search (Crossing.crosses, FieldsKnot.crosses, TheKnot.crosses, built_sync, vals_sync, StructLists.the_sync, sendable) depth 60 fits 100000

named_sync : IsSync Named.the_row
named_sync = declared_sync Named.the_type (Syms.the_sync, (owned_sync, tt))

names_sync : IsSync Names.the_row
names_sync = search (Crossing.crosses, named_sync, sendable) depth 60 fits 100000

env_sync : (ℓ : NamedLft) → IsSync (Env.the_row ℓ)
env_sync ℓ = declared_sync (Env.the_type ℓ) (as_row_sync (shr_ref_field ℓ Vals.the_row tt) (shr_sync _ _ _ vals_sync), (search sendable, (search sendable, (search sendable, (names_sync, (fields_sync, tt))))))

-- ---- plans

ruleset leaves = (BinOps.the_field_sync, BinOps.the_sync, MergeOps.the_field_sync, MergeOps.the_sync, Kinds.the_field_sync, Kinds.the_sync, Nums.the_field_sync, Nums.the_sync, Texts.the_sync, Manys.the_field_sync, Manys.the_sync, Threes.the_field_sync, Threes.the_sync, Twos.the_field_sync, Twos.the_sync, Places.the_field_sync, Places.the_sync, Syms.the_field_sync, Syms.the_sync, LoopIds.the_field_sync, LoopIds.the_sync, ItemLists.the_sync)

expr_sync : IsSync Expr.the_row
expr_sync = search (Crossing.crosses, ExprKnot.crosses, TypeKnot.crosses, leaves, sendable) depth 60 fits 100000

one_form_sync : IsSync OneForm.the_row
one_form_sync = search (Crossing.crosses, TypeKnot.crosses, leaves, sendable) depth 60 fits 100000

program_sync : IsSync Program.the_row
program_sync = search (Crossing.crosses, ExprKnot.crosses, TypeKnot.crosses, expr_sync, leaves, sendable) depth 60 fits 100000

step_sync : (ℓ : NamedLft) → IsSync (Step.the_row ℓ)
step_sync ℓ = search (Crossing.crosses, expr_sync, one_form_sync, leaves, sendable) depth 60 fits 100000

plan_sync : (ℓ : NamedLft) → IsSync (Plan.the_row ℓ)
plan_sync ℓ = search (Crossing.crosses, program_sync, step_sync, sendable) depth 60 fits 100000

-- any thread may run the stretches of a loop
pub tiled_sync : (ℓ κ : NamedLft) (G : RattleType) → IsSync G → IsSync (Tiled.the_row ℓ κ G)
tiled_sync ℓ κ G s =
    declared_sync (Tiled.the_type ℓ κ G)
    (Globals.the_sync, (as_row_sync (shr_ref_field ℓ (Plan.the_row κ) tt) (shr_sync _ _ _ (plan_sync κ)), (as_row_sync (shr_ref_field ℓ (Env.the_row κ) tt) (shr_sync _ _ _ (env_sync κ)), (as_row_sync (row_field (ShrRef ℓ.mir ℓ.lft G)) (shr_sync _ _ _ s), tt))))

-- and see them
pub stretch_sync : (ℓ : NamedLft) → IsSync (Stretch.the_row ℓ)
stretch_sync ℓ = search (Crossing.crosses, TileSends.the_field_sync, TileSends.the_sync, sendable) depth 60 fits 100000

-- a batch of stretches, whose jobs any thread may do
pub batch_sync : (ℓ κ μ : NamedLft) (G : RattleType) → IsSync G → IsSync (Batch.the_row ℓ κ μ G)
batch_sync ℓ κ μ G s =
    declared_sync (Batch.the_type ℓ κ μ G)
    (as_row_sync (shr_ref_field μ (Tiled.the_row ℓ κ G) tt) (shr_sync _ _ _ (tiled_sync ℓ κ G s)), (search (Crossing.crosses, stretch_sync, sendable) depth 60 fits 20000, tt))
