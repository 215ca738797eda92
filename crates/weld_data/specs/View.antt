-- What the code's values stand for.
use Rattle.std.specs.Prelude.{ℕ, pos, Bool, List, map, slice_get}
use Rattle.weld_data.specs.declared.kind.Kind.TheVariants as kinds
use Rattle.weld_data.specs.declared.value.Val.{Val}
use Rattle.weld_data.specs.declared.value.Val.TheVariants as val
use Rattle.weld_data.specs.declared.value.Column.{Column}
use Rattle.weld_data.specs.declared.value.Column.TheVariants as column
use Rattle.weld_data.specs.declared.value.Pair.{Pair}
use Rattle.weld_data.specs.declared.packed.Packed.{Packed}
use Rattle.weld_data.specs.Structs.{value_there}
use Rattle.weld_data.specs.Operation.{truth}
use Rattle.weld_data.specs.Value.{Value, number, list, struct, dict, values, entries}

-- a column of any kind is a list of values: how it is kept doesn't show
abbrev pub view_column : Column → List Value
view_column (column.Bool items) = map (λ (b : Bool). number kinds.Bool (truth b)) items
view_column (column.I8 items) = map (number kinds.I8) items
view_column (column.I16 items) = map (number kinds.I16) items
view_column (column.I32 items) = map (number kinds.I32) items
view_column (column.I64 items) = map (number kinds.I64) items
view_column (column.U8 items) = map (λ (n : ℕ). number kinds.U8 (pos n)) items
view_column (column.U16 items) = map (λ (n : ℕ). number kinds.U16 (pos n)) items
view_column (column.U32 items) = map (λ (n : ℕ). number kinds.U32 (pos n)) items
view_column (column.U64 items) = map (λ (n : ℕ). number kinds.U64 (pos n)) items
view_column (column.Structs items) = items
view_column (column.Nest items) = items

abbrev pub view_val : Val → Value
view_val (val.Num n) = number n.kind n.value
view_val (val.List items) = list (values (view_column items))
view_val (val.Struct fields) = struct (values fields)
view_val (val.Dict pairs) = dict (entries pairs)

-- a struct of numbers where it stands
abbrev pub view_packed : Packed → Value
view_packed p = value_there (slice_get p.list.now p.place)

abbrev pub view_pair : Pair → Value × Value
view_pair p = (view_val p.key, view_val p.value)
