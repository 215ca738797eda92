-- The neutral value of an operator, as an expression (which literals a text has).
use Rattle.std.specs.Prelude.{ℤ, pos, negsuc, false}
use Rattle.weld_data.specs.declared.kind.Kind.{Kind}
use Rattle.weld_data.specs.declared.kind.Kind.TheVariants.{Bool, I8, I16, I32, I64, U8, U16, U32, U64}
use Rattle.weld_data.specs.declared.op.MergeOp.{MergeOp}
use Rattle.weld_data.specs.declared.op.MergeOp.TheVariants.{Add, Mul, Min, Max}
use Rattle.weld_data.specs.Operation.{start_of}
use Rattle.weld_tree.specs.declared.known.Known.TheVariants.{Is}
use Rattle.weld_tree.specs.declared.place.Place.{Place}
use Rattle.weld_tree.specs.TypeTree.{TypeTree, TypeTrees, scalar, vec, struct, dict, build, no_types, more_types}
use Rattle.weld_tree.specs.ExprTree.{At, ExprTree, ExprTrees, leaf, one, many, no_exprs, more_exprs, int, truth, cast, make_struct}

-- a node at the place, with its type
abbrev pub node_of : Place → TypeTree → At
node_of place t = record { place = place; ty = Is t }

-- of the kinds whose greatest number isn't one of kind i32: a number of that kind that comes to the neutral one
abbrev pub below : MergeOp → ℤ
below Add = pos 0
below Mul = pos 1
below Min = negsuc 0
below Max = pos 0

-- the literal of which a cast is the neutral number
abbrev pub literal_for : MergeOp → Kind → ℤ
literal_for op Bool = start_of op Bool
literal_for op I8 = start_of op I8
literal_for op I16 = start_of op I16
literal_for op I32 = start_of op I32
literal_for op I64 = start_of op I64
literal_for op U8 = start_of op U8
literal_for op U16 = start_of op U16
literal_for op U32 = below op
literal_for op U64 = below op

abbrev pub cast_literal : Place → MergeOp → Kind → ExprTree
cast_literal place op k = one (node_of place (scalar k)) (cast k) (leaf (node_of place (scalar I32)) (int I32 (literal_for op k)))

-- the number that changes nothing under the operator: a literal of kind i32 or i64, or a cast of a literal of kind i32
abbrev pub neutral_number : Place → MergeOp → Kind → ExprTree
neutral_number place op Bool = cast_literal place op Bool
neutral_number place op I8 = cast_literal place op I8
neutral_number place op I16 = cast_literal place op I16
neutral_number place op I32 = leaf (node_of place (scalar I32)) (int I32 (start_of op I32))
neutral_number place op I64 = leaf (node_of place (scalar I64)) (int I64 (start_of op I64))
neutral_number place op U8 = cast_literal place op U8
neutral_number place op U16 = cast_literal place op U16
neutral_number place op U32 = cast_literal place op U32
neutral_number place op U64 = cast_literal place op U64

abbrev mutual
  -- the value that changes nothing under the operator: a number, or the struct of its fields' values. Of a type that no
  -- `merger` combines there is none, and a truth value stands there
  pub neutral : Place → MergeOp → TypeTree → ExprTree
  neutral place op (scalar k) = neutral_number place op k
  neutral place op (vec t) = leaf (node_of place (vec t)) (truth false)
  neutral place op (struct ts) = many (node_of place (struct ts)) make_struct (neutrals place op ts)
  neutral place op (dict k v) = leaf (node_of place (dict k v)) (truth false)
  neutral place op (build b) = leaf (node_of place (build b)) (truth false)

  pub neutrals : Place → MergeOp → TypeTrees → ExprTrees
  neutrals place op no_types = no_exprs
  neutrals place op (more_types t ts) = more_exprs (neutral place op t) (neutrals place op ts)
