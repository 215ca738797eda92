-- The one printed spelling of types: without spaces.
use Rattle.std.specs.Prelude.{◌≡◌, ℕ, List, [], ◌∷◌, ◌++◌, codes}
use Rattle.weld_data.specs.declared.kind.Kind.{Kind}
use Rattle.weld_data.specs.declared.kind.Kind.TheVariants.{Bool, I8, I16, I32, I64, U8, U16, U32, U64}
use Rattle.weld_data.specs.declared.op.MergeOp.{MergeOp}
use Rattle.weld_data.specs.declared.op.MergeOp.TheVariants.{Add, Mul, Min, Max}
use Rattle.weld_tree.specs.TypeTree.{TypeTree, BuildTree, TypeTrees, scalar, vec, struct, dict, build, list, total, keyed, cells, groups, no_types, more_types}

-- the word of a kind
abbrev pub kind_text : Kind → List ℕ
kind_text Bool = codes "bool"
kind_text I8 = codes "i8"
kind_text I16 = codes "i16"
kind_text I32 = codes "i32"
kind_text I64 = codes "i64"
kind_text U8 = codes "u8"
kind_text U16 = codes "u16"
kind_text U32 = codes "u32"
kind_text U64 = codes "u64"

-- an operator of a builder
abbrev pub op_text : MergeOp → List ℕ
op_text Add = codes "+"
op_text Mul = codes "*"
op_text Min = codes "min"
op_text Max = codes "max"

abbrev mutual
  -- a type
  pub type_text : TypeTree → List ℕ
  type_text (scalar k) = kind_text k
  type_text (vec t) = codes "vec[" ++ type_text t ++ codes "]"
  type_text (struct ts) = fields_text 123 ts ++ codes "}"
  type_text (dict k v) = codes "dict[" ++ type_text k ++ codes "," ++ type_text v ++ codes "]"
  type_text (build b) = build_text b

  -- a builder's type
  pub build_text : BuildTree → List ℕ
  build_text (list t) = codes "vecbuilder[" ++ type_text t ++ codes "]"
  build_text (total t op) = codes "merger[" ++ type_text t ++ codes "," ++ op_text op ++ codes "]"
  build_text (keyed k v op) = codes "dictmerger[" ++ type_text k ++ codes "," ++ type_text v ++ codes "," ++ op_text op ++ codes "]"
  build_text (cells t op) = codes "vecmerger[" ++ type_text t ++ codes "," ++ op_text op ++ codes "]"
  build_text (groups k v) = codes "groupbuilder[" ++ type_text k ++ codes "," ++ type_text v ++ codes "]"

  -- each field with a byte before it: this one before the first, and a comma before each further one
  pub fields_text : ℕ → TypeTrees → List ℕ
  fields_text lead no_types = []
  fields_text lead (more_types t ts) = lead ∷ type_text t ++ fields_text 44 ts

-- the text is the printed spelling of the type
abbrev pub PrintType : TypeTree → List ℕ → Type 0
PrintType t text = text ≡ type_text t
