-- The program's types seen as plain data.
use Rattle.weld_tree.specs.TypeTree.{TypeTree, BuildTree, pack, scalar, vec, struct, dict, build, list, total, keyed, cells, groups}
use Rattle.weld_tree.specs.declared.ty.TyForm.{TyForm}
use Rattle.weld_tree.specs.declared.ty.TyForm.TheVariants.{Scalar, Vec, Struct, Dict, Build}
use Rattle.weld_tree.specs.declared.ty.BuildTy.{BuildTy}
use Rattle.weld_tree.specs.declared.ty.BuildTy.TheVariants.{List, Total, Keyed, Cells, Groups}

-- a builder as plain data
abbrev pub view_build : BuildTy → BuildTree
view_build (List t) = list t.value
view_build (Total t op) = total t.value op
view_build (Keyed k v op) = keyed k.value v.value op
view_build (Cells t op) = cells t.value op
view_build (Groups k v) = groups k.value v.value

-- a type as plain data
abbrev pub view_type : TyForm → TypeTree
view_type (Scalar k) = scalar k
view_type (Vec t) = vec t.value
view_type (Struct ts) = struct (pack ts)
view_type (Dict k v) = dict k.value v.value
view_type (Build b) = build (view_build b)
