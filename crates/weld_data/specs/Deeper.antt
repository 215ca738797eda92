-- A value is deeper than the lists and dictionaries in it.
use Rattle.std.specs.Prelude.{◌+◌, ◌≤◌, List, [], ◌∷◌, map}
use Rattle.std.proofs.Common.{arith}
use denote.Param.Weighed.{most}
use Rattle.weld_data.specs.declared.value.Val.{Val}
use Rattle.weld_data.specs.declared.value.Val.TheVariants as val
use Rattle.weld_data.specs.declared.value.Column.TheVariants as column
use Rattle.weld_data.specs.declared.value.Pair.{Pair}
use Rattle.weld_data.specs.declared.value.Pairs.TheDeep.{deep-Val, deep-Pair}
use Rattle.weld_data.specs.Depth.{depth, depth_of_list, depth_of_pairs}
use Rattle.weld_data.specs.View.{view_val, view_pair}

-- a value of the code is as deep as what it stands for
pub deep-Val-le : (v : Val) → deep-Val v ≤ depth (view_val v) + 1
deep-Val-le (val.Num n) = omega arith
deep-Val-le (val.List (column.Bool items)) = omega arith
deep-Val-le (val.List (column.I8 items)) = omega arith
deep-Val-le (val.List (column.I16 items)) = omega arith
deep-Val-le (val.List (column.I32 items)) = omega arith
deep-Val-le (val.List (column.I64 items)) = omega arith
deep-Val-le (val.List (column.U8 items)) = omega arith
deep-Val-le (val.List (column.U16 items)) = omega arith
deep-Val-le (val.List (column.U32 items)) = omega arith
deep-Val-le (val.List (column.U64 items)) = omega arith
deep-Val-le (val.List (column.Structs items)) = omega arith
deep-Val-le (val.List (column.Nest items)) = omega arith
deep-Val-le (val.Struct fields) = omega arith
deep-Val-le (val.Dict pairs) = omega arith

pub most_le-depth_vals : (items : List Val) → most deep-Val items ≤ depth_of_list (map view_val items)
most_le-depth_vals [] = omega arith
most_le-depth_vals (v ∷ vs) = let h = deep-Val-le v in let t = most_le-depth_vals vs in omega arith

pub most_le-depth_pairs : (items : List Pair) → most deep-Pair items ≤ depth_of_pairs (map view_pair items)
most_le-depth_pairs [] = omega arith
most_le-depth_pairs (p ∷ ps) =
    let k = deep-Val-le p.key in let v = deep-Val-le p.value in let t = most_le-depth_pairs ps in omega arith
