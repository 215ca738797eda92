-- What a list in the code stands for.
use Rattle.std.specs.Prelude.{ℕ, ◌-◌, pos, Bool, Option, Some, None, List, map}
use Rattle.std.specs.Vec.{vec_len, vec_capacity}
use Rattle.weld_data.specs.declared.kind.Kind.{Kind}
use Rattle.weld_data.specs.declared.kind.Kind.TheVariants as kinds
use Rattle.weld_data.specs.Operation.{truth}
use Rattle.weld_data.specs.Value.{Value, number}
use Rattle.weld_data.specs.View.{view_val}
use Rattle.weld_pieces.specs.declared.list.ListPart.{ListPart}
use Rattle.weld_pieces.specs.declared.list.ListPart.TheVariants as lists

-- how the items of a list are kept: as numbers of a kind, or as values
abbrev pub kind_of_items : ListPart → Option Kind
kind_of_items (lists.Bool v) = Some kinds.Bool
kind_of_items (lists.I8 v) = Some kinds.I8
kind_of_items (lists.I16 v) = Some kinds.I16
kind_of_items (lists.I32 v) = Some kinds.I32
kind_of_items (lists.I64 v) = Some kinds.I64
kind_of_items (lists.U8 v) = Some kinds.U8
kind_of_items (lists.U16 v) = Some kinds.U16
kind_of_items (lists.U32 v) = Some kinds.U32
kind_of_items (lists.U64 v) = Some kinds.U64
kind_of_items (lists.Structs s) = None
kind_of_items (lists.Nest v) = None

-- the items, however they are kept
abbrev pub items_of_list : ListPart → List Value
items_of_list (lists.Bool v) = map (λ (b : Bool). number kinds.Bool (truth b)) v.items
items_of_list (lists.I8 v) = map (number kinds.I8) v.items
items_of_list (lists.I16 v) = map (number kinds.I16) v.items
items_of_list (lists.I32 v) = map (number kinds.I32) v.items
items_of_list (lists.I64 v) = map (number kinds.I64) v.items
items_of_list (lists.U8 v) = map (λ (n : ℕ). number kinds.U8 (pos n)) v.items
items_of_list (lists.U16 v) = map (λ (n : ℕ). number kinds.U16 (pos n)) v.items
items_of_list (lists.U32 v) = map (λ (n : ℕ). number kinds.U32 (pos n)) v.items
items_of_list (lists.U64 v) = map (λ (n : ℕ). number kinds.U64 (pos n)) v.items
items_of_list (lists.Structs s) = s
items_of_list (lists.Nest v) = map view_val v.items

-- for how many more items there is room
abbrev pub spare_of_list : ListPart → ℕ
spare_of_list (lists.Bool v) = vec_capacity v - vec_len v
spare_of_list (lists.I8 v) = vec_capacity v - vec_len v
spare_of_list (lists.I16 v) = vec_capacity v - vec_len v
spare_of_list (lists.I32 v) = vec_capacity v - vec_len v
spare_of_list (lists.I64 v) = vec_capacity v - vec_len v
spare_of_list (lists.U8 v) = vec_capacity v - vec_len v
spare_of_list (lists.U16 v) = vec_capacity v - vec_len v
spare_of_list (lists.U32 v) = vec_capacity v - vec_len v
spare_of_list (lists.U64 v) = vec_capacity v - vec_len v
spare_of_list (lists.Structs s) = 0
spare_of_list (lists.Nest v) = vec_capacity v - vec_len v
