-- Small programs whose first refusal is worked out by hand, by which the definitions are checked. Each stands on one line; a number is a column.
use Rattle.std.proofs.Common.{◌≡◌, ℕ, ◌+◌, pos, true, List, [], ◌∷◌, Option, Some, None, refl}
use Rattle.weld_data.specs.declared.kind.Kind.{Kind}
use Rattle.weld_data.specs.declared.kind.Kind.TheVariants.{I32, I64}
use Rattle.weld_data.specs.declared.kind.Kind.TheVariants as kinds
use Rattle.weld_data.specs.declared.op.BinOp.TheVariants as ops
use Rattle.weld_data.specs.declared.op.MergeOp.TheVariants as merges
use Rattle.weld_tree.specs.declared.binder.Binder.{Binder}
use Rattle.weld_tree.specs.declared.known.Known.TheVariants.{Blank}
use Rattle.weld_tree.specs.declared.code.Code.{Code}
use Rattle.weld_tree.specs.declared.code.Code.TheVariants.{Y1, Y2, Y3, Y4, Y5, Y6, Y7, Y8, Y9, Y10, Y11, Y12, Y13, Y14, Y15, Y16, Y17, Y18, Y19, Y20, Y21, Y22, Y23, Y24, Y25, Y26, Y27, Y28, Y29, Y30}
use Rattle.weld_tree.specs.declared.place.Place.{Place}
use Rattle.weld_tree.specs.TypeTree.{TypeTree, BuildTree, scalar, vec, struct, dict, build, total, cells, no_types, more_types, list as list_of}
use Rattle.weld_tree.specs.ExprTree.{At, ExprTree, leaf, one, two, three, many, let_in, loop, iterate, ExprTrees, no_exprs, more_exprs, LegTree, whole, strided, LegTrees, no_legs, more_legs, int, truth, chars, name, fresh, neg, not, cast, len, field, finish, started, binary, and, look_up, key_exists, merge, if_else, select, slice, make_vec, make_struct}
use Rattle.weld_types.specs.Walk.{Found, found, program_type, typing_refusal}

abbrev place : ℕ → Place
place c = record { line = 1; column = c }

abbrev node : ℕ → At
node c = record { place = place c; ty = Blank }

abbrev binder : ℕ → ℕ → Option TypeTree → Binder
binder s c note = record { sym = record { 0 = s }; place = place c; note = note; note_place = place (c + 3) }

abbrev i32 : ℕ → ExprTree
i32 c = leaf (node c) (int I32 (pos 1))

abbrev i64 : ℕ → ExprTree
i64 c = leaf (node c) (int I64 (pos 1))

abbrev yes : ℕ → ExprTree
yes c = leaf (node c) (truth true)

abbrev var : ℕ → ℕ → ExprTree
var s c = leaf (node c) (name s)

abbrev all : List ExprTree → ExprTrees
all [] = no_exprs
all (e ∷ es) = more_exprs e (all es)

abbrev vector : ℕ → List ExprTree → ExprTree
vector c es = many (node c) make_vec (all es)

abbrev items : BuildTree
items = list_of (scalar I32)

abbrev builder : ℕ → ExprTree
builder c = leaf (node c) (fresh items)

-- a loop at 8, over one leg, with a builder
abbrev over : LegTrees → ExprTree → ExprTree → ExprTree
over ls e f = loop (node 8) ls e (binder 1 60 None) (binder 2 62 None) (binder 3 64 None) f

abbrev only : LegTree → LegTrees
only l = more_legs l no_legs

abbrev ones : LegTrees
ones = only (whole (vector 12 (i32 13 ∷ [])))

abbrev first : ExprTree → Option (Code × Place)
first e = typing_refusal (record { params = []; body = e })

abbrev At_column : Option (Code × Place) → Code → ℕ → Type 0
At_column r code c = r ≡ Some (code, place c)

-- ---- one for each rule

no_such_builder : At_column (first (leaf (node 4) (fresh (list_of (build items))))) Y1 4
no_such_builder = refl

param_of_no_type : At_column (typing_refusal (record { params = binder 0 2 (Some (vec (build items))) ∷ []; body = i32 20 })) Y1 5
param_of_no_type = refl

builder_param : At_column (typing_refusal (record { params = binder 0 2 (Some (build items)) ∷ []; body = i32 20 })) Y2 5
builder_param = refl

builder_body : At_column (first (builder 5)) Y3 5
builder_body = refl

another_note : At_column (first (let_in (node 1) (binder 0 5 (Some (scalar I64))) (i32 14) (var 0 17))) Y4 5
another_note = refl

minus_true : At_column (first (one (node 1) neg (yes 2))) Y5 1
minus_true = refl

not_one : At_column (first (one (node 1) not (i32 2))) Y6 1
not_one = refl

two_kinds : At_column (first (two (node 3) (binary ops.Add) (i32 1) (i64 5))) Y7 3
two_kinds = refl

sum_of_truths : At_column (first (two (node 6) (binary ops.Add) (yes 1) (yes 8))) Y7 6
sum_of_truths = refl

equal_kinds : At_column (first (two (node 3) (binary ops.Eq) (i32 1) (yes 6))) Y8 3
equal_kinds = refl

order_of_truths : At_column (first (two (node 6) (binary ops.Lt) (yes 1) (yes 8))) Y9 6
order_of_truths = refl

and_one : At_column (first (two (node 6) and (yes 1) (i32 9))) Y10 6
and_one = refl

cast_of_text : At_column (first (one (node 1) (cast I32) (leaf (node 5) (chars [])))) Y11 1
cast_of_text = refl

one_decides : At_column (first (three (node 1) if_else (i32 4) (i32 7) (i32 10))) Y12 1
one_decides = refl

two_arms : At_column (first (three (node 1) if_else (yes 4) (i32 10) (i64 13))) Y13 1
two_arms = refl

two_choices : At_column (first (three (node 1) select (yes 8) (i32 14) (i64 17))) Y15 1
two_choices = refl

choice_of_builders : At_column (first (three (node 1) select (yes 8) (builder 14) (builder 31))) Y15 1
choice_of_builders = refl

i32_place : At_column (first (two (node 1) look_up (vector 8 (i32 9 ∷ [])) (i32 13))) Y16 1
i32_place = refl

key_in_vec : At_column (first (two (node 1) key_exists (vector 11 (i32 12 ∷ [])) (i64 16))) Y17 1
key_in_vec = refl

len_of_one : At_column (first (one (node 1) len (i32 5))) Y18 1
len_of_one = refl

i32_bound : At_column (first (three (node 1) slice (vector 7 (i32 8 ∷ [])) (i32 12) (i64 15))) Y19 1
i32_bound = refl

third_of_two : At_column (first (one (node 7) (field 2) (many (node 1) make_struct (all (i32 2 ∷ i32 5 ∷ []))))) Y20 7
third_of_two = refl

two_items : At_column (first (vector 1 (i32 2 ∷ i64 5 ∷ []))) Y21 1
two_items = refl

value_and_builder : At_column (first (many (node 1) make_struct (all (i32 2 ∷ builder 5 ∷ [])))) Y22 1
value_and_builder = refl

rows_of_one : At_column (first (over (only (whole (i32 12))) (builder 15) (var 1 70))) Y23 8
rows_of_one = refl

i32_stride : At_column (first (over (only (strided (vector 17 (i32 18 ∷ [])) (i64 22) (i64 26) (i32 30))) (builder 34) (var 1 70))) Y24 8
i32_stride = refl

no_builder : At_column (first (over ones (i32 15) (var 1 70))) Y25 8
no_builder = refl

another_body : At_column (first (over ones (builder 15) (var 3 70))) Y26 8
another_body = refl

state_alone : At_column (first (iterate (node 1) (i32 9) (binder 0 13 None) (var 0 16))) Y27 1
state_alone = refl

builder_state : At_column (first (iterate (node 1) (builder 9) (binder 0 33 None) (var 0 36))) Y27 1
builder_state = refl

i64_start : At_column (first (one (node 8) finish (one (node 15) (started (total (scalar I32) merges.Add)) (i64 29)))) Y28 15
i64_start = refl

merge_of_i64 : At_column (first (two (node 8) merge (builder 14) (i64 31))) Y29 8
merge_of_i64 = refl

result_of_one : At_column (first (one (node 1) finish (i32 8))) Y30 1
result_of_one = refl

-- ---- the order: two wrong things in one program

-- a parameter comes before the body, and a builder-free parameter last of its rules
param_before_body : At_column (typing_refusal (record { params = binder 0 2 (Some (build items)) ∷ []; body = one (node 20) neg (yes 21) })) Y2 5
param_before_body = refl

-- children before parents, left to right
left_child : At_column (first (two (node 6) (binary ops.Add) (one (node 1) neg (yes 2)) (one (node 8) not (i32 9)))) Y5 1
left_child = refl

right_child : At_column (first (two (node 3) (binary ops.Add) (i64 1) (one (node 5) not (i32 6)))) Y6 5
right_child = refl

-- a condition comes before the arms
condition_first : At_column (first (three (node 1) if_else (i32 4) (i32 7) (i64 10))) Y12 1
condition_first = refl

-- a builder that isn't well formed comes before its starting value
builder_first : At_column (first (one (node 1) (started (cells (vec (scalar I32)) merges.Add)) (i64 29))) Y1 1
builder_first = refl

-- a `let`: its value, its binder, its body
value_before_note : At_column (first (let_in (node 1) (binder 0 5 (Some (scalar I64))) (one (node 14) neg (yes 15)) (var 0 21))) Y5 14
value_before_note = refl

note_before_body : At_column (first (let_in (node 1) (binder 0 5 (Some (scalar I64))) (i32 14) (one (node 17) neg (yes 18)))) Y4 5
note_before_body = refl

-- a `for`: its legs' nodes, its builder, the rules on these, its binders, its body
builder_before_leg : At_column (first (over (only (whole (i32 12))) (one (node 15) neg (yes 16)) (var 1 70))) Y5 15
builder_before_leg = refl

leg_before_builder : At_column (first (over (only (whole (i32 12))) (i32 15) (var 1 70))) Y23 8
leg_before_builder = refl

number_before_body : At_column (first (loop (node 8) ones (builder 15) (binder 1 60 None) (binder 2 62 (Some (scalar I32))) (binder 3 64 None) (one (node 70) neg (yes 71)))) Y4 62
number_before_body = refl

row_before_body : At_column (first (loop (node 8) ones (builder 15) (binder 1 60 None) (binder 2 62 None) (binder 3 64 (Some (scalar I64))) (var 3 70))) Y4 64
row_before_body = refl

-- the row of a `zip` of two legs is the struct of the elements
row_of_two : At_column (first (loop (node 8) (more_legs (whole (vector 12 (i32 13 ∷ []))) ones) (builder 15) (binder 1 60 None) (binder 2 62 None) (binder 3 64 (Some (scalar I32))) (var 1 70))) Y4 64
row_of_two = refl

-- the state's part of Y27 comes before the binder, the rest after the body
state_before_note : At_column (first (iterate (node 1) (builder 9) (binder 0 33 (Some (scalar I32))) (var 0 36))) Y27 1
state_before_note = refl

turn_after_body : At_column (first (iterate (node 1) (i32 9) (binder 0 13 None) (one (node 16) neg (yes 17)))) Y5 16
turn_after_body = refl

-- ---- what passes

good_loop : program_type (record { params = binder 0 2 (Some (vec (scalar I32))) ∷ []; body = one (node 1) finish (over (only (whole (var 0 12))) (builder 15) (two (node 70) merge (var 1 76) (var 3 79))) }) ≡ found (vec (scalar I32))
good_loop = refl

good_turns : program_type (record { params = []; body = iterate (node 1) (i32 9) (binder 0 13 (Some (scalar I32))) (many (node 16) make_struct (all (var 0 17 ∷ yes 20 ∷ []))) }) ≡ found (scalar I32)
good_turns = refl
