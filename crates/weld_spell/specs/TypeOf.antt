-- The type that a tree of tokens spells: a clause for each alternative of the grammar's rule, in
-- its order.
use Rattle.weld_data.specs.declared.kind.Kind.{Kind}
use Rattle.weld_data.specs.declared.kind.Kind.TheVariants.{Bool, I8, I16, I32, I64, U8, U16, U32, U64}
use Rattle.weld_data.specs.declared.op.MergeOp.{MergeOp}
use Rattle.weld_data.specs.declared.op.MergeOp.TheVariants.{Add, Mul, Min, Max}
use Rattle.weld_grammar.specs.declared.terminals.token.Token.{Token}
use Rattle.weld_tree.specs.TypeTree.{TypeTree, TypeTrees, scalar, vec, struct, dict, build, list, total, keyed, cells, groups, no_types, more_types}
use Rattle.weld_grammar.specs.Derivation.{Tree, node, pair, here, there}

-- i8, i16, i32, i64, u8, u16, u32 or u64
abbrev pub int_kind_of : Tree Token → Kind
int_kind_of (node (here t)) = I8
int_kind_of (node (there (here t))) = I16
int_kind_of (node (there (there (here t)))) = I32
int_kind_of (node (there (there (there (here t))))) = I64
int_kind_of (node (there (there (there (there (here t)))))) = U8
int_kind_of (node (there (there (there (there (there (here t))))))) = U16
int_kind_of (node (there (there (there (there (there (there (here t)))))))) = U32
int_kind_of _ = U64

-- bool, or an integer kind
abbrev pub kind_of : Tree Token → Kind
kind_of (node (there (here t))) = int_kind_of t
kind_of _ = Bool

-- + * min or max
abbrev pub merge_op_of : Tree Token → MergeOp
merge_op_of (node (here t)) = Add
merge_op_of (node (there (here t))) = Mul
merge_op_of (node (there (there (here t)))) = Min
merge_op_of _ = Max

abbrev mutual
  -- a kind; vec[t]; {t, u..}; dict[t, u]; vecbuilder[t]; merger[t, o]; dictmerger[t, u, o]; vecmerger[t, o];
  -- groupbuilder[t, u]
  pub type_of : Tree Token → TypeTree
  type_of (node (here t)) = scalar (kind_of t)
  type_of (node (there (here (node (pair a (pair b (pair t rest))))))) = vec (type_of t)
  type_of (node (there (there (here (node (pair a (pair t (pair u rest)))))))) = struct (more_types (type_of t) (next_types_of u))
  type_of (node (there (there (there (here (node (pair a (pair b (pair t (pair c (pair u rest))))))))))) = dict (type_of t) (type_of u)
  type_of (node (there (there (there (there (here (node (pair a (pair b (pair t rest)))))))))) = build (list (type_of t))
  type_of (node (there (there (there (there (there (here (node (pair a (pair b (pair t (pair c (pair o rest))))))))))))) = build (total (type_of t) (merge_op_of o))
  type_of (node (there (there (there (there (there (there (here (node (pair a (pair b (pair t (pair c (pair u (pair d (pair o rest)))))))))))))))) = build (keyed (type_of t) (type_of u) (merge_op_of o))
  type_of (node (there (there (there (there (there (there (there (here (node (pair a (pair b (pair t (pair c (pair o rest))))))))))))))) = build (cells (type_of t) (merge_op_of o))
  type_of (node (there (there (there (there (there (there (there (there (here (node (pair a (pair b (pair t (pair c (pair u rest)))))))))))))))) = build (groups (type_of t) (type_of u))
  type_of _ = scalar Bool

  -- the further types of a struct, each behind its comma
  pub next_types_of : Tree Token → TypeTrees
  next_types_of (pair (node (pair a (pair t rest))) u) = more_types (type_of t) (next_types_of u)
  next_types_of _ = no_types
