-- What lies on the stack behind a rule that binds no names, from what lay on it before; none where it isn't of the
-- rule's form, or where a number is out of its range.
use Rattle.std.specs.Prelude.{ℕ, Bool, true, false, if◌then◌else◌, Option, Some, None, option_and_then, List, [], ◌∷◌, ◌++◌}
use Rattle.weld_data.specs.declared.kind.Kind.{Kind}
use Rattle.weld_data.specs.declared.kind.Kind.TheVariants as kinds
use Rattle.weld_data.specs.declared.op.BinOp.{BinOp}
use Rattle.weld_data.specs.declared.op.BinOp.TheVariants as ops
use Rattle.weld_data.specs.declared.op.MergeOp.{MergeOp}
use Rattle.weld_data.specs.declared.op.MergeOp.TheVariants as merge_ops
use Rattle.weld_grammar.specs.declared.terminals.class.Class.{Class}
use Rattle.weld_grammar.specs.declared.terminals.class.Class.TheVariants as classes
use Rattle.weld_grammar.specs.declared.terminals.symbol.Symbol.TheVariants as s
use Rattle.weld_grammar.specs.declared.terminals.reserved.Reserved.TheVariants as w
use Rattle.weld_grammar.specs.declared.terminals.token.Token.{Token}
use Rattle.weld_tokens.specs.Literals.{is_in_range, literal_value, field_value}
use Rattle.weld_tokens.specs.Words.{class_of}
use Rattle.weld_tree.specs.declared.place.Place.{Place}
use Rattle.weld_tree.specs.declared.known.Known.TheVariants.{Blank}
use Rattle.weld_tree.specs.TypeTree.{BuildTree, scalar, vec, struct, dict, build, list, total, keyed, cells, groups, pack}
use Rattle.weld_tree.specs.ExprTree.{ExprTree, LegTree, At, leaf as leaf_at, one, two, three, many, strided, pack_exprs, int, fresh, One, neg, not, cast, len, field as field_form, finish, started, Two, binary, and, or, look_up, key_exists, merge, Three, if_else, select, slice, Many, make_vec, make_struct}
use Rattle.weld_grammar.specs.declared.rule.Rule.{Rule}
use Rattle.weld_grammar.specs.declared.rule.Rule.TheVariants as r
use Rattle.weld_spell.specs.ProgramOf.{kind_of_class}
use Rattle.weld_reduce.specs.Values.{Value, token, expr, exprs, leg, legs, ty, types, op, Top, top_token, top_expr, top_exprs, top_leg, top_type, top_types, top_op}

-- the stack behind the rule
abbrev pub Reduced : Type 0
Reduced = Option (List Value)

-- a node at a place
abbrev pub at : Place → At
at place = record { place = place; ty = Blank }

-- ---- what words and symbols stand for

abbrev pub equality_op : Class → BinOp
equality_op (classes.Symbol s.EqualsEquals) = ops.Eq
equality_op _ = ops.Ne

abbrev pub relation_op : Class → BinOp
relation_op (classes.Symbol s.Less) = ops.Lt
relation_op (classes.Symbol s.LessEquals) = ops.Le
relation_op (classes.Symbol s.Greater) = ops.Gt
relation_op _ = ops.Ge

abbrev pub sum_op : Class → BinOp
sum_op (classes.Symbol s.Plus) = ops.Add
sum_op _ = ops.Sub

abbrev pub product_op : Class → BinOp
product_op (classes.Symbol s.Star) = ops.Mul
product_op (classes.Symbol s.Slash) = ops.Div
product_op _ = ops.Rem

abbrev pub merge_op : Class → MergeOp
merge_op (classes.Symbol s.Plus) = merge_ops.Add
merge_op (classes.Symbol s.Star) = merge_ops.Mul
merge_op (classes.Reserved w.Min) = merge_ops.Min
merge_op _ = merge_ops.Max

-- a kind's word
abbrev pub kind_of_word : Class → Kind
kind_of_word (classes.Reserved w.I8) = kinds.I8
kind_of_word (classes.Reserved w.I16) = kinds.I16
kind_of_word (classes.Reserved w.I32) = kinds.I32
kind_of_word (classes.Reserved w.I64) = kinds.I64
kind_of_word (classes.Reserved w.U8) = kinds.U8
kind_of_word (classes.Reserved w.U16) = kinds.U16
kind_of_word (classes.Reserved w.U32) = kinds.U32
kind_of_word (classes.Reserved w.U64) = kinds.U64
kind_of_word _ = kinds.Bool

-- ---- expressions

-- `e o f`
abbrev pub between : (Token → Two) → List Value → Reduced
between form vs = option_and_then (λ f. option_and_then (λ o. option_and_then (λ e. Some (expr (two (at o.0.place) (form o.0) e.0 f.0) ∷ e.1)) (top_expr o.1)) (top_token f.1)) (top_expr vs)

-- a word or a sign, and one expression
abbrev pub call_one : (Token → One) → List Value → Reduced
call_one form vs = option_and_then (λ e. option_and_then (λ t. Some (expr (one (at t.0.place) (form t.0) e.0) ∷ t.1)) (top_token e.1)) (top_expr vs)

-- a word, and two expressions
abbrev pub call_two : Two → List Value → Reduced
call_two form vs = option_and_then (λ f. option_and_then (λ e. option_and_then (λ t. Some (expr (two (at t.0.place) form e.0 f.0) ∷ t.1)) (top_token e.1)) (top_expr f.1)) (top_expr vs)

-- a word, and three expressions
abbrev pub call_three : Three → List Value → Reduced
call_three form vs = option_and_then (λ g. option_and_then (λ f. option_and_then (λ e. option_and_then (λ t. Some (expr (three (at t.0.place) form e.0 f.0 g.0) ∷ t.1)) (top_token e.1)) (top_expr f.1)) (top_expr g.1)) (top_expr vs)

-- a number that is in its range, at the place
abbrev pub literal : Bool → Place → Token → Option ExprTree
literal negative place t = if is_in_range negative t.class t.word then Some (leaf_at (at place) (int (kind_of_class t.class) (literal_value negative t.word))) else None

-- a number that stands by itself
abbrev pub number : List Value → Reduced
number (token k ∷ vs) = option_and_then (λ e. Some (expr e ∷ vs)) (literal false k.place k)
number vs = Some vs

-- a negative literal, or a negation
abbrev pub minus : List Value → Reduced
minus (token k ∷ vs) = option_and_then (λ t. option_and_then (λ e. Some (expr e ∷ t.1)) (literal true t.0.place k)) (top_token vs)
minus vs = call_one (λ t. neg) vs

-- a field's class
abbrev pub is_field : Option Class → Bool
is_field (Some classes.Field) = true
is_field _ = false

-- the number of a field's token; none where the token is no field
abbrev pub field_number : Token → Option ℕ
field_number t = if is_field (class_of t.word) then Some (field_value t.word) else None

-- `e . $k`
abbrev pub field : List Value → Reduced
field vs = option_and_then (λ k. option_and_then (λ d. option_and_then (λ e. option_and_then (λ n. Some (expr (one (at d.0.place) (field_form n) e.0) ∷ e.1)) (field_number k.0)) (top_expr d.1)) (top_token k.1)) (top_token vs)

-- one more expression of a list
abbrev pub next_expr : List Value → Reduced
next_expr vs = option_and_then (λ e. option_and_then (λ es. Some (exprs (es.0 ++ e.0 ∷ []) ∷ es.1)) (top_exprs e.1)) (top_expr vs)

-- a bracket, and the expressions of a list
abbrev pub listed : Many → List Value → Reduced
listed form vs = option_and_then (λ es. option_and_then (λ t. Some (expr (many (at t.0.place) form (pack_exprs es.0)) ∷ t.1)) (top_token es.1)) (top_exprs vs)

-- a token that says no more, under an expression
abbrev pub behind_token : List Value → Reduced
behind_token vs = option_and_then (λ e. option_and_then (λ t. Some (expr e.0 ∷ t.1)) (top_token e.1)) (top_expr vs)

-- ---- legs

-- `iter(t, u, v, x)`
abbrev pub iter : List Value → Reduced
iter vs = option_and_then (λ x. option_and_then (λ v. option_and_then (λ u. option_and_then (λ e. option_and_then (λ t. Some (leg (strided e.0 u.0 v.0 x.0) ∷ t.1)) (top_token e.1)) (top_expr u.1)) (top_expr v.1)) (top_expr x.1)) (top_expr vs)

-- the legs of a `zip` that isn't closed; else none yet
abbrev pub open_legs : List Value → List LegTree × List Value
open_legs (legs ls ∷ vs) = (ls, vs)
open_legs vs = ([], vs)

abbrev pub next_leg : List Value → Reduced
next_leg vs = option_and_then (λ l. Some (legs ((open_legs l.1).0 ++ l.0 ∷ []) ∷ (open_legs l.1).1)) (top_leg vs)

-- ---- types

-- a kind's word, or a type that is there already
abbrev pub any_type : List Value → Reduced
any_type (token k ∷ vs) = Some (ty k.place (scalar (kind_of_word k.class)) ∷ vs)
any_type vs = Some vs

-- `vec [ t`
abbrev pub vec_type : List Value → Reduced
vec_type vs = option_and_then (λ t. option_and_then (λ b. option_and_then (λ x. Some (ty x.0.place (vec t.0.1) ∷ x.1)) (top_token b.1)) (top_token t.1)) (top_type vs)

-- `dict [ t u`
abbrev pub dict_type : List Value → Reduced
dict_type vs = option_and_then (λ u. option_and_then (λ t. option_and_then (λ b. option_and_then (λ x. Some (ty x.0.place (dict t.0.1 u.0.1) ∷ x.1)) (top_token b.1)) (top_token t.1)) (top_type u.1)) (top_type vs)

-- one more type of a struct
abbrev pub next_type : List Value → Reduced
next_type vs = option_and_then (λ t. option_and_then (λ ts. Some (types (ts.0 ++ t.0.1 ∷ []) ∷ ts.1)) (top_types t.1)) (top_type vs)

-- `{ ts`
abbrev pub struct_type : List Value → Reduced
struct_type vs = option_and_then (λ ts. option_and_then (λ b. Some (ty b.0.place (struct (pack ts.0)) ∷ b.1)) (top_token ts.1)) (top_types vs)

abbrev pub merge_operator : List Value → Reduced
merge_operator vs = option_and_then (λ t. Some (op (merge_op t.0.class) ∷ t.1)) (top_token vs)

-- ---- builders, each with the place of its word

abbrev pub Builder : Type 0
Builder = Place × BuildTree

-- `word [`, under the builder of what stands in the brackets
abbrev pub built : BuildTree → List Value → Top Builder
built b vs = option_and_then (λ a. option_and_then (λ x. Some ((x.0.place, b), x.1)) (top_token a.1)) (top_token vs)

abbrev pub list_built : List Value → Top Builder
list_built vs = option_and_then (λ t. built (list t.0.1) t.1) (top_type vs)

abbrev pub total_built : List Value → Top Builder
total_built vs = option_and_then (λ o. option_and_then (λ t. built (total t.0.1 o.0) t.1) (top_type o.1)) (top_op vs)

abbrev pub keyed_built : List Value → Top Builder
keyed_built vs = option_and_then (λ o. option_and_then (λ u. option_and_then (λ t. built (keyed t.0.1 u.0.1 o.0) t.1) (top_type u.1)) (top_type o.1)) (top_op vs)

abbrev pub cells_built : List Value → Top Builder
cells_built vs = option_and_then (λ o. option_and_then (λ t. built (cells t.0.1 o.0) t.1) (top_type o.1)) (top_op vs)

abbrev pub groups_built : List Value → Top Builder
groups_built vs = option_and_then (λ u. option_and_then (λ t. built (groups t.0.1 u.0.1) t.1) (top_type u.1)) (top_type vs)

-- the builder as a type, as an expression, and from a starting value
abbrev pub as_type : Top Builder → Reduced
as_type top = option_and_then (λ b. Some (ty b.0.0 (build b.0.1) ∷ b.1)) top

abbrev pub as_fresh : Top Builder → Reduced
as_fresh top = option_and_then (λ b. Some (expr (leaf_at (at b.0.0) (fresh b.0.1)) ∷ b.1)) top

abbrev pub as_started : ExprTree → Top Builder → Reduced
as_started e top = option_and_then (λ b. Some (expr (one (at b.0.0) (started b.0.1) e) ∷ b.1)) top

-- a builder of one number, perhaps from a starting value
abbrev pub total_builder : List Value → Reduced
total_builder (expr e ∷ vs) = as_started e (total_built vs)
total_builder vs = as_fresh (total_built vs)

abbrev pub cells_builder : List Value → Reduced
cells_builder vs = option_and_then (λ e. as_started e.0 (cells_built e.1)) (top_expr vs)

-- ---- all rules that bind no names; most leave what is there

abbrev pub reduced : Rule → List Value → Reduced
reduced r.WithoutParams vs = behind_token vs
reduced r.OrPart vs = between (λ t. or) vs
reduced r.AndPart vs = between (λ t. and) vs
reduced r.EqualityPart vs = between (λ t. binary (equality_op t.class)) vs
reduced r.RelationPart vs = between (λ t. binary (relation_op t.class)) vs
reduced r.SumPart vs = between (λ t. binary (sum_op t.class)) vs
reduced r.ProductPart vs = between (λ t. binary (product_op t.class)) vs
reduced r.Minus vs = minus vs
reduced r.Not vs = call_one (λ t. not) vs
reduced r.FieldPart vs = field vs
reduced r.Primary vs = number vs
reduced r.MakeVec vs = listed make_vec vs
reduced r.MakeStruct vs = listed make_struct vs
reduced r.NextExpr vs = next_expr vs
reduced r.If vs = call_three if_else vs
reduced r.Select vs = call_three select vs
reduced r.LookUp vs = call_two look_up vs
reduced r.KeyExists vs = call_two key_exists vs
reduced r.Len vs = call_one (λ t. len) vs
reduced r.Slice vs = call_three slice vs
reduced r.Merge vs = call_two merge vs
reduced r.Finish vs = call_one (λ t. finish) vs
reduced r.Cast vs = call_one (λ t. cast (kind_of_word t.class)) vs
reduced r.Leg vs = next_leg vs
reduced r.Iter vs = iter vs
reduced r.ListBuild vs = as_fresh (list_built vs)
reduced r.TotalBuild vs = total_builder vs
reduced r.KeyedBuild vs = as_fresh (keyed_built vs)
reduced r.CellsBuild vs = cells_builder vs
reduced r.GroupsBuild vs = as_fresh (groups_built vs)
reduced r.AnyType vs = any_type vs
reduced r.VecType vs = vec_type vs
reduced r.StructType vs = struct_type vs
reduced r.NextType vs = next_type vs
reduced r.DictType vs = dict_type vs
reduced r.ListType vs = as_type (list_built vs)
reduced r.TotalType vs = as_type (total_built vs)
reduced r.KeyedType vs = as_type (keyed_built vs)
reduced r.CellsType vs = as_type (cells_built vs)
reduced r.GroupsType vs = as_type (groups_built vs)
reduced r.MergeOp vs = merge_operator vs
reduced _ vs = Some vs
