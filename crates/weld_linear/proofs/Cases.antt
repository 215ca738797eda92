-- Small programs whose first refusal is worked out by hand from the rules, with their texts; columns are those of the text.
use Rattle.std.proofs.Common.{◌≡◌, ℕ, pos, true, [], Some, None, refl}
use Rattle.weld_data.specs.declared.kind.Kind.TheVariants.{I64}
use Rattle.weld_data.specs.declared.op.BinOp.TheVariants as ops
use Rattle.weld_data.specs.declared.op.MergeOp.TheVariants as merges
use Rattle.weld_tree.specs.declared.binder.Binder.{Binder}
use Rattle.weld_tree.specs.declared.known.Known.TheVariants.{Blank}
use Rattle.weld_tree.specs.declared.code.Code.TheVariants.{L1, L2, L3, L4, L5, L6}
use Rattle.weld_tree.specs.declared.place.Place.{Place}
use Rattle.weld_tree.specs.TypeTree.{scalar, total, list}
use Rattle.weld_tree.specs.ExprTree.{At, ExprTree, leaf, one, two, three, many, let_in, loop, no_exprs, more_exprs, LegTrees, whole, no_legs, more_legs, int, truth, name, fresh, len, field, finish, binary, and, merge, if_else, make_struct}
use Rattle.weld_meaning.specs.LinearWalk.{Refused, refusal}

abbrev place : ℕ → Place
place c = record { line = 1; column = c }

abbrev node : ℕ → At
node c = record { place = place c; ty = Blank }

abbrev binder : ℕ → ℕ → Binder
binder s c = record { sym = record { 0 = s }; place = place c; note = None; note_place = place c }

abbrev var : ℕ → ℕ → ExprTree
var s c = leaf (node c) (name s)

-- a vector by its name, a value
abbrev v : ExprTree
v = var 100 0

abbrev over : LegTrees
over = more_legs (whole v) no_legs

abbrev zero_of : ExprTree
zero_of = leaf (node 0) (int I64 (pos 0))

abbrev items : ExprTree
items = leaf (node 0) (fresh (list (scalar I64)))

abbrev sum : ExprTree
sum = leaf (node 0) (fresh (total (scalar I64) merges.Add))

abbrev both : ExprTree → ExprTree → ExprTree
both e f = many (node 0) make_struct (more_exprs e (more_exprs f no_exprs))

abbrev result : ℕ → ExprTree → ExprTree
result c e = one (node c) finish e

abbrev at_field : ℕ → ℕ → ExprTree → ExprTree
at_field c n e = one (node c) (field n) e

abbrev is_zero : ExprTree → ExprTree
is_zero e = two (node 0) (binary ops.Eq) e zero_of

abbrev is_empty : ExprTree → ExprTree
is_empty e = is_zero (one (node 0) len e)

abbrev refused : ExprTree → Refused
refused e = refusal e [] []

-- let b = vecbuilder[i64]; {result(b), result(b)}
used_again : refused (let_in (node 1) (binder 1 5) items (both (result 27 (var 1 34)) (result 38 (var 1 45)))) ≡ Some (L1, place 45)
used_again = refl

-- |v: vec[i64]| let b = vecbuilder[i64]; v
left_of_a_let : refused (let_in (node 15) (binder 1 19) items v) ≡ Some (L1, place 19)
left_of_a_let = refl

-- |v: vec[i64]| result(for(v, vecbuilder[i64], |b,i,x| vecbuilder[i64]))
left_of_a_loop : refused (result 15 (loop (node 22) over items (binder 1 47) (binder 2 49) (binder 3 51) items)) ≡ Some (L1, place 47)
left_of_a_loop = refl

-- result({vecbuilder[i64], merger[i64,+]}.$0)
field_of_no_name : refused (result 1 (at_field 40 0 (both items sum))) ≡ Some (L1, place 40)
field_of_no_name = refl

-- |v: vec[i64]| let b = vecbuilder[i64]; if(len(v) == 0L, result(b), v)
arms_leave_different : refused (let_in (node 15) (binder 1 19) items (three (node 40) if_else (is_empty v) (result 57 (var 1 64)) v)) ≡ Some (L2, place 40)
arms_leave_different = refl

-- let b = merger[i64,+]; true && result(b) == 0L
right_side_takes : refused (let_in (node 1) (binder 1 5) sum (two (node 29) and (leaf (node 24) (truth true)) (is_zero (result 32 (var 1 39))))) ≡ Some (L2, place 29)
right_side_takes = refl

-- |v: vec[i64]| let b = vecbuilder[i64]; result(for(v, merger[i64,+], |c,i,x| merge(c, len(result(b)))))
used_within_a_lambda : refused (let_in (node 15) (binder 1 19) items (result 40 (loop (node 47) over sum (binder 4 70) (binder 2 72) (binder 3 74)
    (two (node 77) merge (var 4 83) (one (node 86) len (result 90 (var 1 97))))))) ≡ Some (L3, place 97)
used_within_a_lambda = refl

-- result(if(true, vecbuilder[i64], vecbuilder[i64]))
made_in_each_arm : refused (result 1 (three (node 8) if_else (leaf (node 11) (truth true)) items items)) ≡ Some (L4, place 8)
made_in_each_arm = refl

-- |v: vec[i64]| result(for(v, merger[i64,+], |b,i,x| merge(merger[i64,+], result(b))))
result_of_its_own : refused (result 15 (loop (node 22) over sum (binder 1 45) (binder 2 47) (binder 3 49) (two (node 52) merge sum (result 73 (var 1 80))))) ≡ Some (L5, place 73)
result_of_its_own = refl

-- |v: vec[i64]| let r = for(v, {merger[i64,+], merger[i64,+]}, |b,i,x| {b.$1, b.$0}); {result(r.$0), result(r.$1)}
swapped : refused (let_in (node 15) (binder 5 19) (loop (node 23) over (both sum sum) (binder 1 63) (binder 2 65) (binder 3 67) (both (at_field 0 1 (var 1 0)) (at_field 0 0 (var 1 0))))
    (both (result 0 (at_field 0 0 (var 5 0))) (result 0 (at_field 0 1 (var 5 0))))) ≡ Some (L6, place 23)
swapped = refl

-- the same with the body {b.$0, b.$1}
rebuilt : refused (let_in (node 15) (binder 5 19) (loop (node 23) over (both sum sum) (binder 1 63) (binder 2 65) (binder 3 67) (both (at_field 0 0 (var 1 0)) (at_field 0 1 (var 1 0))))
    (both (result 0 (at_field 0 0 (var 5 0))) (result 0 (at_field 0 1 (var 5 0))))) ≡ None
rebuilt = refl

-- |v: vec[i64]| let r = for(v, {vecbuilder[i64], merger[i64,+]}, |b,i,x| if(x == 0L, {merge(b.$0, x), merge(b.$1, x)}, b)); {result(r.$0), result(r.$1)}
struct_through_if : refused (let_in (node 15) (binder 5 19) (loop (node 23) over (both items sum) (binder 1 0) (binder 2 0) (binder 3 0)
    (three (node 0) if_else (is_zero (var 3 0)) (both (two (node 0) merge (at_field 0 0 (var 1 0)) (var 3 0)) (two (node 0) merge (at_field 0 1 (var 1 0)) (var 3 0))) (var 1 0)))
    (both (result 0 (at_field 0 0 (var 5 0))) (result 0 (at_field 0 1 (var 5 0))))) ≡ None
struct_through_if = refl
