-- The program that a tree of tokens spells: a clause for each alternative of the grammar, in its order. Binders are
-- numbered in the order of the text, from 0; a name is the number of the newest binder in scope that bears it.
use Rattle.std.specs.Prelude.{ℕ, ◌+◌, true, false, if◌then◌else◌, Option, Some, None, List, [], ◌∷◌, bytes_eq}
use Rattle.weld_data.specs.declared.kind.Kind.{Kind}
use Rattle.weld_data.specs.declared.kind.Kind.TheVariants as kinds
use Rattle.weld_data.specs.declared.op.BinOp.{BinOp}
use Rattle.weld_data.specs.declared.op.BinOp.TheVariants as ops
use Rattle.weld_grammar.specs.declared.terminals.class.Class.{Class}
use Rattle.weld_grammar.specs.declared.terminals.class.Class.TheVariants as classes
use Rattle.weld_grammar.specs.declared.terminals.token.Token.{Token}
use Rattle.weld_tokens.specs.Literals.{literal_value, field_value, string_value}
use Rattle.weld_tree.specs.TypeTree.{TypeTree, BuildTree, list, total, keyed, cells, groups}
use Rattle.weld_tree.specs.ExprTree.{ExprTree, ExprTrees, LegTree, LegTrees, At, leaf as leaf_at, one, two, three, many, let_in, loop, iterate, no_exprs, more_exprs, no_legs, more_legs, whole, strided, int, truth, chars, name, fresh, neg, not, cast, len, field, finish, started, binary, and, or, look_up, key_exists, merge, if_else, select, slice, make_vec, make_struct}
use Rattle.weld_tree.specs.Program.{ProgramTree}
use Rattle.weld_tree.specs.declared.place.Place.{Place}
use Rattle.weld_tree.specs.declared.binder.Binder.{Binder}
use Rattle.weld_tree.specs.declared.known.Known.TheVariants.{Blank}
use Rattle.weld_grammar.specs.Derivation.{Tree, leaf, node, empty, pair, here, there, yield}
use Rattle.weld_spell.specs.TypeOf.{type_of, merge_op_of, int_kind_of}

-- a binder in scope: its name and its number
pub record Bound : Type 0 where
  pub bytes : List ℕ
  pub number : ℕ

-- the number of the newest binder of the name; 0 where none bears it
abbrev pub number_in : List Bound → List ℕ → ℕ
number_in [] bytes = 0
number_in (b ∷ scope) bytes = if bytes_eq b.bytes bytes then b.number else number_in scope bytes

abbrev pub first_of : List Token → Place
first_of [] = record { line = 0; column = 0 }
first_of (t ∷ ts) = t.place

-- a node at the first token of the tree
abbrev pub node_at : Tree Token → At
node_at t = record { place = first_of (yield t); ty = Blank }

-- a word
abbrev pub word_of : Tree Token → List ℕ
word_of (leaf t) = t.word
word_of _ = []

abbrev pub class_of : Tree Token → Class
class_of (leaf t) = t.class
class_of _ = classes.Name

-- plain numbers are of kind i32, those with `L` of kind i64
abbrev pub kind_of_class : Class → Kind
kind_of_class classes.Long = kinds.I64
kind_of_class _ = kinds.I32

-- the written type of a note, where one stands
abbrev pub note_of : Tree Token → Option TypeTree
note_of (here (node (pair c (pair t rest)))) = Some (type_of t)
note_of _ = None

-- where it begins; of no note nothing is said
abbrev pub note_place_of : Tree Token → Place
note_place_of (here (node (pair c (pair t rest)))) = first_of (yield t)
note_place_of _ = record { line = 0; column = 0 }

abbrev pub binder_of : Tree Token → Tree Token → ℕ → Binder
binder_of w note n = record { sym = record { 0 = n }; place = first_of (yield w); note = note_of note; note_place = note_place_of note }

abbrev pub bound_as : Tree Token → ℕ → Bound
bound_as w n = record { bytes = word_of w; number = n }

-- what is spelled, and the number of the next binder
pub record Spelled : Type 0 where
  pub expr : ExprTree
  pub next : ℕ

pub record SpelledList : Type 0 where
  pub exprs : ExprTrees
  pub next : ℕ

pub record SpelledLegs : Type 0 where
  pub legs : LegTrees
  pub next : ℕ

pub record SpelledLeg : Type 0 where
  pub leg : LegTree
  pub next : ℕ

abbrev pub nothing : ℕ → Spelled
nothing n = record { expr = leaf_at (record { place = record { line = 0; column = 0 }; ty = Blank }) (truth false); next = n }

abbrev pub equality_op_of : Tree Token → BinOp
equality_op_of (node (here t)) = ops.Eq
equality_op_of _ = ops.Ne

abbrev pub relation_op_of : Tree Token → BinOp
relation_op_of (node (here t)) = ops.Lt
relation_op_of (node (there (here t))) = ops.Le
relation_op_of (node (there (there (here t)))) = ops.Gt
relation_op_of _ = ops.Ge

abbrev pub sum_op_of : Tree Token → BinOp
sum_op_of (node (here t)) = ops.Add
sum_op_of _ = ops.Sub

abbrev pub product_op_of : Tree Token → BinOp
product_op_of (node (here t)) = ops.Mul
product_op_of (node (there (here t))) = ops.Div
product_op_of _ = ops.Rem

-- a builder without its starting value
abbrev pub build_of : Tree Token → BuildTree
build_of (node (here (node (pair w (pair b (pair t end)))))) = list (type_of t)
build_of (node (there (here (node (pair w (pair b (pair t (pair c (pair o end))))))))) = total (type_of t) (merge_op_of o)
build_of (node (there (there (here (node (pair w (pair b (pair t (pair c (pair u (pair d (pair o end)))))))))))) = keyed (type_of t) (type_of u) (merge_op_of o)
build_of (node (there (there (there (here (node (pair w (pair b (pair t (pair c (pair o end))))))))))) = cells (type_of t) (merge_op_of o)
build_of (node (there (there (there (there (here (node (pair w (pair b (pair t (pair c (pair u end)))))))))))) = groups (type_of t) (type_of u)
build_of _ = list (type_of empty)

-- field accesses behind an expression
abbrev pub fields_of : Tree Token → ExprTree → ExprTree
fields_of (pair (node (pair d (pair k end))) more) base = fields_of more (one (node_at d) (field (field_value (word_of k))) base)
fields_of _ base = base

abbrev mutual
  -- an expression: a `let`, or the operators
  pub expr_of : Tree Token → List Bound → ℕ → Spelled
  expr_of (node (here (node (pair l (pair w (pair note (pair q (pair v (pair m (pair b end)))))))))) scope n = let value = or_of v scope (n + 1) in let body = expr_of b (bound_as w n ∷ scope) value.next in record { expr = let_in (node_at l) (binder_of w note n) value.expr body.expr; next = body.next }
  expr_of (node (there (here t))) scope n = or_of t scope n
  expr_of _ scope n = nothing n

  -- operators of one line, to the left
  pub or_of : Tree Token → List Bound → ℕ → Spelled
  or_of (node (pair t (pair more end))) scope n = let first = and_of t scope n in or_parts_of more first.expr scope first.next
  or_of _ scope n = nothing n

  -- what goes on with it
  pub or_parts_of : Tree Token → ExprTree → List Bound → ℕ → Spelled
  or_parts_of (pair (node (pair o (pair t end))) more) left scope n = let right = and_of t scope n in or_parts_of more (two (node_at o) or left right.expr) scope right.next
  or_parts_of _ left scope n = record { expr = left; next = n }

  -- operators of one line, to the left
  pub and_of : Tree Token → List Bound → ℕ → Spelled
  and_of (node (pair t (pair more end))) scope n = let first = equality_of t scope n in and_parts_of more first.expr scope first.next
  and_of _ scope n = nothing n

  -- what goes on with it
  pub and_parts_of : Tree Token → ExprTree → List Bound → ℕ → Spelled
  and_parts_of (pair (node (pair o (pair t end))) more) left scope n = let right = equality_of t scope n in and_parts_of more (two (node_at o) and left right.expr) scope right.next
  and_parts_of _ left scope n = record { expr = left; next = n }

  -- operators of one line, to the left
  pub equality_of : Tree Token → List Bound → ℕ → Spelled
  equality_of (node (pair t (pair more end))) scope n = let first = relation_of t scope n in equality_parts_of more first.expr scope first.next
  equality_of _ scope n = nothing n

  -- what goes on with it
  pub equality_parts_of : Tree Token → ExprTree → List Bound → ℕ → Spelled
  equality_parts_of (pair (node (pair o (pair t end))) more) left scope n = let right = relation_of t scope n in equality_parts_of more (two (node_at o) (binary (equality_op_of o)) left right.expr) scope right.next
  equality_parts_of _ left scope n = record { expr = left; next = n }

  -- operators of one line, to the left
  pub relation_of : Tree Token → List Bound → ℕ → Spelled
  relation_of (node (pair t (pair more end))) scope n = let first = sum_of t scope n in relation_parts_of more first.expr scope first.next
  relation_of _ scope n = nothing n

  -- what goes on with it
  pub relation_parts_of : Tree Token → ExprTree → List Bound → ℕ → Spelled
  relation_parts_of (pair (node (pair o (pair t end))) more) left scope n = let right = sum_of t scope n in relation_parts_of more (two (node_at o) (binary (relation_op_of o)) left right.expr) scope right.next
  relation_parts_of _ left scope n = record { expr = left; next = n }

  -- operators of one line, to the left
  pub sum_of : Tree Token → List Bound → ℕ → Spelled
  sum_of (node (pair t (pair more end))) scope n = let first = product_of t scope n in sum_parts_of more first.expr scope first.next
  sum_of _ scope n = nothing n

  -- what goes on with it
  pub sum_parts_of : Tree Token → ExprTree → List Bound → ℕ → Spelled
  sum_parts_of (pair (node (pair o (pair t end))) more) left scope n = let right = product_of t scope n in sum_parts_of more (two (node_at o) (binary (sum_op_of o)) left right.expr) scope right.next
  sum_parts_of _ left scope n = record { expr = left; next = n }

  -- operators of one line, to the left
  pub product_of : Tree Token → List Bound → ℕ → Spelled
  product_of (node (pair t (pair more end))) scope n = let first = unary_of t scope n in product_parts_of more first.expr scope first.next
  product_of _ scope n = nothing n

  -- what goes on with it
  pub product_parts_of : Tree Token → ExprTree → List Bound → ℕ → Spelled
  product_parts_of (pair (node (pair o (pair t end))) more) left scope n = let right = unary_of t scope n in product_parts_of more (two (node_at o) (binary (product_op_of o)) left right.expr) scope right.next
  product_parts_of _ left scope n = record { expr = left; next = n }

  -- a negative literal, a negation, a `!`, or field accesses
  pub unary_of : Tree Token → List Bound → ℕ → Spelled
  unary_of (node (here (node (pair m (pair (node (here k)) end))))) scope n = record { expr = leaf_at (node_at m) (int (kind_of_class (class_of k)) (literal_value true (word_of k))); next = n }
  unary_of (node (here (node (pair m (pair (node (there (here t))) end))))) scope n = let inner = unary_of t scope n in record { expr = one (node_at m) neg inner.expr; next = inner.next }
  unary_of (node (there (here (node (pair m (pair t end)))))) scope n = let inner = unary_of t scope n in record { expr = one (node_at m) not inner.expr; next = inner.next }
  unary_of (node (there (there (here (node (pair t (pair more end))))))) scope n = let first = primary_of t scope n in record { expr = fields_of more first.expr; next = first.next }
  unary_of _ scope n = nothing n

  -- the forms that stand by themselves
  pub primary_of : Tree Token → List Bound → ℕ → Spelled
  primary_of (node (here t)) scope n = record { expr = leaf_at (node_at t) (int (kind_of_class (class_of t)) (literal_value false (word_of t))); next = n }
  primary_of (node (there (here t))) scope n = record { expr = leaf_at (node_at t) (chars (string_value (word_of t))); next = n }
  primary_of (node (there (there (here t)))) scope n = record { expr = leaf_at (node_at t) (truth true); next = n }
  primary_of (node (there (there (there (here t))))) scope n = record { expr = leaf_at (node_at t) (truth false); next = n }
  primary_of (node (there (there (there (there (here t)))))) scope n = record { expr = leaf_at (node_at t) (name (number_in scope (word_of t))); next = n }
  primary_of (node (there (there (there (there (there (here (node (pair a (pair t end)))))))))) scope n = expr_of t scope n
  primary_of (node (there (there (there (there (there (there (here (node (pair a (pair t (pair more end)))))))))))) scope n = let first = expr_of t scope n in let others = next_exprs_of more scope first.next in record { expr = many (node_at a) make_vec (more_exprs first.expr others.exprs); next = others.next }
  primary_of (node (there (there (there (there (there (there (there (here (node (pair a (pair t (pair more end))))))))))))) scope n = let first = expr_of t scope n in let others = next_exprs_of more scope first.next in record { expr = many (node_at a) make_struct (more_exprs first.expr others.exprs); next = others.next }
  primary_of (node (there (there (there (there (there (there (there (there (here (node (pair w (pair a (pair t (pair c (pair u (pair d (pair v end)))))))))))))))))) scope n = let e = expr_of t scope n in let f = expr_of u scope e.next in let g = expr_of v scope f.next in record { expr = three (node_at w) if_else e.expr f.expr g.expr; next = g.next }
  primary_of (node (there (there (there (there (there (there (there (there (there (here (node (pair w (pair a (pair t (pair c (pair u (pair d (pair v end))))))))))))))))))) scope n = let e = expr_of t scope n in let f = expr_of u scope e.next in let g = expr_of v scope f.next in record { expr = three (node_at w) select e.expr f.expr g.expr; next = g.next }
  primary_of (node (there (there (there (there (there (there (there (there (there (there (here (node (pair w (pair a (pair t (pair c (pair u end)))))))))))))))))) scope n = let e = expr_of t scope n in let f = expr_of u scope e.next in record { expr = two (node_at w) look_up e.expr f.expr; next = f.next }
  primary_of (node (there (there (there (there (there (there (there (there (there (there (there (here (node (pair w (pair a (pair t (pair c (pair u end))))))))))))))))))) scope n = let e = expr_of t scope n in let f = expr_of u scope e.next in record { expr = two (node_at w) key_exists e.expr f.expr; next = f.next }
  primary_of (node (there (there (there (there (there (there (there (there (there (there (there (there (here (node (pair w (pair a (pair t end)))))))))))))))))) scope n = let e = expr_of t scope n in record { expr = one (node_at w) len e.expr; next = e.next }
  primary_of (node (there (there (there (there (there (there (there (there (there (there (there (there (there (here (node (pair w (pair a (pair t (pair c (pair u (pair d (pair v end))))))))))))))))))))))) scope n = let e = expr_of t scope n in let f = expr_of u scope e.next in let g = expr_of v scope f.next in record { expr = three (node_at w) slice e.expr f.expr g.expr; next = g.next }
  primary_of (node (there (there (there (there (there (there (there (there (there (there (there (there (there (there (here (node (pair w (pair a (pair t (pair c (pair u end)))))))))))))))))))))) scope n = let e = expr_of t scope n in let f = expr_of u scope e.next in record { expr = two (node_at w) merge e.expr f.expr; next = f.next }
  primary_of (node (there (there (there (there (there (there (there (there (there (there (there (there (there (there (there (here (node (pair w (pair a (pair t end))))))))))))))))))))) scope n = let e = expr_of t scope n in record { expr = one (node_at w) finish e.expr; next = e.next }
  primary_of (node (there (there (there (there (there (there (there (there (there (there (there (there (there (there (there (there (here (node (pair w (pair a (pair l (pair c (pair t (pair d (pair i (pair (node (pair x (pair p end))) (pair j (pair (node (pair y (pair q end2))) (pair k (pair (node (pair z (pair r end3))) (pair m (pair b end4))))))))))))))))))))))))))))))))) scope n = let legs = rows_of l scope n in let builder = expr_of t scope legs.next in let body = expr_of b (bound_as z (builder.next + 2) ∷ bound_as y (builder.next + 1) ∷ bound_as x builder.next ∷ scope) (builder.next + 3) in record { expr = loop (node_at w) legs.legs builder.expr (binder_of x p builder.next) (binder_of y q (builder.next + 1)) (binder_of z r (builder.next + 2)) body.expr; next = body.next }
  primary_of (node (there (there (there (there (there (there (there (there (there (there (there (there (there (there (there (there (there (here (node (pair w (pair a (pair t (pair c (pair i (pair (node (pair x (pair p end))) (pair m (pair b end2)))))))))))))))))))))))))))) scope n = let state = expr_of t scope n in let body = expr_of b (bound_as x state.next ∷ scope) (state.next + 1) in record { expr = iterate (node_at w) state.expr (binder_of x p state.next) body.expr; next = body.next }
  primary_of (node (there (there (there (there (there (there (there (there (there (there (there (there (there (there (there (there (there (there (here (node (pair k (pair a (pair t end)))))))))))))))))))))))) scope n = let e = expr_of t scope n in record { expr = one (node_at k) (cast (int_kind_of k)) e.expr; next = e.next }
  primary_of (node (there (there (there (there (there (there (there (there (there (there (there (there (there (there (there (there (there (there (there (here b))))))))))))))))))))) scope n = builder_of b scope n
  primary_of _ scope n = nothing n

  -- a builder, perhaps from a starting value
  pub builder_of : Tree Token → List Bound → ℕ → Spelled
  builder_of (node (there (here (node (pair w (pair b (pair t (pair c (pair o (pair d (pair (here (node (pair a (pair e end)))) end2))))))))))) scope n = let start = expr_of e scope n in record { expr = one (node_at w) (started (total (type_of t) (merge_op_of o))) start.expr; next = start.next }
  builder_of (node (there (there (there (here (node (pair w (pair b (pair t (pair c (pair o (pair d (pair (node (pair a (pair e end))) end2))))))))))))) scope n = let start = expr_of e scope n in record { expr = one (node_at w) (started (cells (type_of t) (merge_op_of o))) start.expr; next = start.next }
  builder_of t scope n = record { expr = leaf_at (node_at t) (fresh (build_of t)); next = n }

  -- further expressions, each behind its comma
  pub next_exprs_of : Tree Token → List Bound → ℕ → SpelledList
  next_exprs_of (pair (node (pair c (pair t end))) more) scope n = let first = expr_of t scope n in let others = next_exprs_of more scope first.next in record { exprs = more_exprs first.expr others.exprs; next = others.next }
  next_exprs_of _ scope n = record { exprs = no_exprs; next = n }

  -- the legs of a loop: a `zip` of two or more, or one
  pub rows_of : Tree Token → List Bound → ℕ → SpelledLegs
  rows_of (node (here (node (pair w (pair a (pair t (pair c (pair u (pair more end))))))))) scope n = let first = leg_of t scope n in let second = leg_of u scope first.next in let others = next_legs_of more scope second.next in record { legs = more_legs first.leg (more_legs second.leg others.legs); next = others.next }
  rows_of (node (there (here t))) scope n = let first = leg_of t scope n in record { legs = more_legs first.leg no_legs; next = first.next }
  rows_of _ scope n = record { legs = no_legs; next = n }

  -- further legs
  pub next_legs_of : Tree Token → List Bound → ℕ → SpelledLegs
  next_legs_of (pair (node (pair c (pair t end))) more) scope n = let first = leg_of t scope n in let others = next_legs_of more scope first.next in record { legs = more_legs first.leg others.legs; next = others.next }
  next_legs_of _ scope n = record { legs = no_legs; next = n }

  -- a leg: elements of a vector, or a whole one
  pub leg_of : Tree Token → List Bound → ℕ → SpelledLeg
  leg_of (node (here (node (pair w (pair a (pair t (pair c (pair u (pair d (pair v (pair e (pair x end)))))))))))) scope n = let vector = expr_of t scope n in let start = expr_of u scope vector.next in let below = expr_of v scope start.next in let stride = expr_of x scope below.next in record { leg = strided vector.expr start.expr below.expr stride.expr; next = stride.next }
  leg_of (node (there (here t))) scope n = let vector = expr_of t scope n in record { leg = whole vector.expr; next = vector.next }
  leg_of _ scope n = record { leg = whole (nothing n).expr; next = n }

-- a parameter, with its number
abbrev pub param_of : Tree Token → ℕ → Binder
param_of (node (pair w (pair c (pair t rest)))) n = record { sym = record { 0 = n }; place = first_of (yield w); note = Some (type_of t); note_place = first_of (yield t) }
param_of t n = record { sym = record { 0 = n }; place = first_of (yield t); note = None; note_place = record { line = 0; column = 0 } }

-- its name
abbrev pub param_bound : Tree Token → ℕ → Bound
param_bound (node (pair w rest)) n = bound_as w n
param_bound t n = bound_as t n

-- further parameters, each behind its comma
abbrev pub next_params_of : Tree Token → ℕ → List Binder
next_params_of (pair (node (pair c (pair t rest))) more) n = param_of t n ∷ next_params_of more (n + 1)
next_params_of _ n = []

-- the scope that they make, the newest first
abbrev pub params_scope : Tree Token → List Bound → ℕ → List Bound
params_scope (pair (node (pair c (pair t rest))) more) scope n = params_scope more (param_bound t n ∷ scope) (n + 1)
params_scope _ scope n = scope

abbrev pub params_behind : Tree Token → ℕ → ℕ
params_behind (pair (node (pair c (pair t rest))) more) n = params_behind more (n + 1)
params_behind _ n = n

-- the program
abbrev pub program_of : Tree Token → ProgramTree
program_of (node (here (node (pair b (pair e end))))) = record { params = []; body = (expr_of e [] 0).expr }
program_of (node (there (here (node (pair a (pair p (pair more (pair b (pair e end))))))))) = record { params = param_of p 0 ∷ next_params_of more 1; body = (expr_of e (params_scope more (param_bound p 0 ∷ []) 1) (params_behind more 1)).expr }
program_of (node (there (there (here e)))) = record { params = []; body = (expr_of e [] 0).expr }
program_of _ = record { params = []; body = (nothing 0).expr }
