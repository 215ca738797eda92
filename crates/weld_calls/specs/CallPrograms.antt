-- The program that a call stands for. Its binders are numbered from 0 in the order of the text, so its
-- parameters come first.
use Rattle.std.specs.Prelude.{ℕ, suc, ◌+◌, pos, List, [], ◌∷◌, Option, Some, None}
use Rattle.weld_data.specs.declared.kind.Kind.TheVariants as kinds
use Rattle.weld_data.specs.declared.op.BinOp.{BinOp}
use Rattle.weld_data.specs.declared.op.BinOp.TheVariants as ops
use Rattle.weld_data.specs.declared.op.MergeOp.{MergeOp}
use Rattle.weld_data.specs.declared.op.MergeOp.TheVariants as merges
use Rattle.weld_tree.specs.declared.binder.Binder.{Binder}
use Rattle.weld_tree.specs.TypeTree.{TypeTree, BuildTree, list, total, keyed, cells, groups}
use Rattle.weld_tree.specs.ExprTree.{ExprTree, leaf, one, two, three, many, loop, no_exprs, more_exprs, whole, LegTrees, no_legs, more_legs, int, name, fresh, field, finish, started, binary, look_up, merge, if_else, select, slice, make_struct}
use Rattle.weld_tree.specs.Program.{ProgramTree}
use Rattle.weld_tree.specs.Blank.{blank_place, blank_at}
use Rattle.weld_calls.specs.declared.call.Call.{Call}
use Rattle.weld_calls.specs.declared.call.Call.TheVariants.{Add, Sub, Mul, Scale, Where, Dot, Sum, Min, Max, Slice, Take, Histogram, RowsDot, Column, Filter, Compare, Arith, Count, GroupSum, GroupList, GroupCount}
use Rattle.weld_calls.specs.CallTypes.{argument, item, truth_type, place_type}

-- ---- parts

abbrev pub new_binder : ℕ → Option TypeTree → Binder
new_binder s note = record { sym = record { 0 = s }; place = blank_place; note = note; note_place = blank_place }

-- parameters of these types, from that number on
abbrev pub params_from : ℕ → List TypeTree → List Binder
params_from n [] = []
params_from n (t ∷ ts) = new_binder n (Some t) ∷ params_from (suc n) ts

abbrev pub use_of : ℕ → ExprTree
use_of s = leaf blank_at (name s)

-- the number of kind i64
abbrev pub literal : ℕ → ExprTree
literal n = leaf blank_at (int kinds.I64 (pos n))

abbrev pub field_of : ℕ → ExprTree → ExprTree
field_of n e = one blank_at (field n) e

abbrev pub between : BinOp → ExprTree → ExprTree → ExprTree
between op e f = two blank_at (binary op) e f

abbrev pub pair : ExprTree → ExprTree → ExprTree
pair e f = many blank_at make_struct (more_exprs e (more_exprs f no_exprs))

abbrev pub merged : ExprTree → ExprTree → ExprTree
merged b e = two blank_at merge b e

abbrev pub selected : ExprTree → ExprTree → ExprTree → ExprTree
selected c e f = three blank_at select c e f

-- a builder without a starting value
abbrev pub fresh_builder : BuildTree → ExprTree
fresh_builder b = leaf blank_at (fresh b)

-- the names of whole vectors, as legs of a loop
abbrev pub legs_of : List ℕ → LegTrees
legs_of [] = no_legs
legs_of (s ∷ ss) = more_legs (whole (use_of s)) (legs_of ss)

-- the result of a loop over the legs, whose lambda binds the builder b, the row number n and the row x
abbrev pub gathered : LegTrees → ExprTree → ℕ → ℕ → ℕ → ExprTree → ExprTree
gathered legs builder b n x body = one blank_at finish (loop blank_at legs builder (new_binder b None) (new_binder n None) (new_binder x None) body)

-- each row is merged as an item; the binders are numbered from b
abbrev pub merging : List ℕ → ExprTree → ℕ → ExprTree → ExprTree
merging legs builder b e = gathered (legs_of legs) builder b (b + 1) (b + 2) (merged (use_of b) e)

-- ---- the shapes

-- each row becomes an element of type t
abbrev pub mapped : List ℕ → TypeTree → ℕ → ExprTree → ExprTree
mapped legs t b e = merging legs (fresh_builder (list t)) b e

-- each row becomes a number of type t, and these are combined
abbrev pub combined : List ℕ → TypeTree → MergeOp → ℕ → ExprTree → ExprTree
combined legs t op b e = merging legs (fresh_builder (total t op)) b e

-- the operator between the fields of a row x of two
abbrev pub across : BinOp → ℕ → ExprTree
across op x = between op (field_of 0 (use_of x)) (field_of 1 (use_of x))

-- the operator, place by place, on two vectors with elements of type t
abbrev pub zipped : BinOp → TypeTree → ExprTree
zipped op t = mapped (0 ∷ 1 ∷ []) t 2 (across op 4)

-- the operator between each element of a vector and a number; the answers are of type t
abbrev pub against : BinOp → TypeTree → ExprTree
against op t = mapped (0 ∷ []) t 2 (between op (use_of 4) (use_of 1))

-- all elements of a vector combined
abbrev pub reduced : MergeOp → TypeTree → ExprTree
reduced op t = combined (0 ∷ []) t op 1 (use_of 3)

-- the sum of the products of the vectors v and w; the binders are numbered from b
abbrev pub dotted : ℕ → ℕ → TypeTree → ℕ → ExprTree
dotted v w t b = combined (v ∷ w ∷ []) t merges.Add b (across ops.Mul (b + 2))

-- ---- the calls

-- the body of the call's program on parameters of these types, which fit it
abbrev pub body_of : Call → List TypeTree → ExprTree
body_of Add ts = zipped ops.Add (item (argument 0 ts))
body_of Sub ts = zipped ops.Sub (item (argument 0 ts))
body_of Mul ts = zipped ops.Mul (item (argument 0 ts))
body_of (Arith op) ts = zipped op (item (argument 0 ts))
body_of Scale ts = against ops.Mul (item (argument 0 ts))
body_of (Compare op) ts = against op truth_type
body_of Sum ts = reduced merges.Add (item (argument 0 ts))
body_of Min ts = reduced merges.Min (item (argument 0 ts))
body_of Max ts = reduced merges.Max (item (argument 0 ts))
body_of Dot ts = dotted 0 1 (item (argument 0 ts)) 2
body_of RowsDot ts = mapped (0 ∷ []) (item (argument 1 ts)) 2 (dotted 4 1 (item (argument 1 ts)) 5)
body_of Where ts =
    mapped (0 ∷ 1 ∷ 2 ∷ []) (item (argument 1 ts)) 3 (selected (field_of 0 (use_of 5)) (field_of 1 (use_of 5)) (field_of 2 (use_of 5)))
body_of Take ts = mapped (1 ∷ []) (item (argument 0 ts)) 2 (two blank_at look_up (use_of 0) (use_of 4))
body_of Count ts = combined (0 ∷ []) place_type merges.Add 1 (selected (use_of 3) (literal 1) (literal 0))
body_of Histogram ts = merging (0 ∷ []) (one blank_at (started (cells place_type merges.Add)) (use_of 1)) 2 (pair (use_of 4) (literal 1))
body_of GroupSum ts = merging (0 ∷ 1 ∷ []) (fresh_builder (keyed (item (argument 0 ts)) (item (argument 1 ts)) merges.Add)) 2 (use_of 4)
body_of GroupList ts = merging (0 ∷ 1 ∷ []) (fresh_builder (groups (item (argument 0 ts)) (item (argument 1 ts)))) 2 (use_of 4)
body_of GroupCount ts = merging (0 ∷ []) (fresh_builder (keyed (item (argument 0 ts)) place_type merges.Add)) 1 (pair (use_of 3) (literal 1))
body_of Filter ts =
    gathered (legs_of (0 ∷ 1 ∷ [])) (fresh_builder (list (item (argument 0 ts)))) 2 3 4
    (three blank_at if_else (field_of 1 (use_of 4)) (merged (use_of 2) (field_of 0 (use_of 4))) (use_of 2))
body_of Slice ts = three blank_at slice (use_of 0) (use_of 1) (use_of 2)
body_of (Column n) ts = field_of n (use_of 0)

-- the program of the call on arguments of these types: a parameter for each argument, with its type
abbrev pub fragment : Call → List TypeTree → ProgramTree
fragment call types = record { params = params_from 0 types; body = body_of call types }

-- how many loops stand in the call's program
abbrev pub loops_of : Call → ℕ
loops_of Slice = 0
loops_of (Column n) = 0
loops_of RowsDot = 2
loops_of _ = 1
