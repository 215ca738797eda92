-- Programs and their texts, by which the definitions are checked: each form once, the rule on parentheses, names, notes, legs and strings.
use Rattle.std.proofs.Common.{negsuc, [], ◌∷◌, codes, refl}
use Rattle.std.specs.Fmt.{digits}
use Rattle.weld_data.specs.declared.kind.Kind.TheVariants.{I8, I16, I32, I64, U8, U16, U32, U64}
use Rattle.weld_data.specs.declared.op.BinOp.TheVariants.{Add, Sub, Mul, Div, Rem, Eq, Ne, Lt, Le, Gt, Ge}
use Rattle.weld_data.specs.declared.op.MergeOp.TheVariants as merges
use Rattle.weld_tree.specs.TypeTree.{scalar, vec, dict, build, list, total, keyed, cells, groups}
use Rattle.weld_tree.specs.ExprTree.{leaf, one, two, three, whole, strided, int, cast, len, started, and, or, look_up, key_exists, select, slice}
use Rattle.weld_print.proofs.Trees.{bool, i32, i64, pair, items, here, noted, plain, num, long, below, yes, no, string, var, builder, minus, opposite, part, result, op, into, choice, vector, tuple, bind, named_one, over, turns, Prints, PrintsOf}

-- ---- each form once

a_number : Prints (num 5) (codes "5")
unfolding digits
a_number = refl

nought : Prints (num 0) (codes "0")
unfolding digits
nought = refl

a_long_number : Prints (long 12) (codes "12L")
unfolding digits
a_long_number = refl

a_negative_number : Prints below (codes "-1")
unfolding digits
a_negative_number = refl

the_least_long_number : Prints (leaf here (int I64 (negsuc 9223372036854775807))) (codes "-9223372036854775808L")
unfolding digits
the_least_long_number = refl

the_truth : Prints yes (codes "true")
the_truth = refl

the_false : Prints no (codes "false")
the_false = refl

a_string : Prints (string (codes "hi")) (codes "\"hi\"")
a_string = refl

a_name : PrintsOf (noted 0 i32 ∷ []) (var 0) (codes "|x0: i32| x0")
unfolding digits
a_name = refl

a_negation : PrintsOf (noted 0 i32 ∷ []) (minus (var 0)) (codes "|x0: i32| -x0")
unfolding digits
a_negation = refl

an_opposite : Prints (opposite yes) (codes "!true")
an_opposite = refl

a_cast : Prints (one here (cast I64) (num 5)) (codes "i64(5)")
unfolding digits
a_cast = refl

a_cast_to_i8 : Prints (one here (cast I8) (num 5)) (codes "i8(5)")
unfolding digits
a_cast_to_i8 = refl

a_cast_to_u8 : Prints (one here (cast U8) (long 5)) (codes "u8(5L)")
unfolding digits
a_cast_to_u8 = refl

a_cast_to_i32 : Prints (one here (cast I32) (long 5)) (codes "i32(5L)")
unfolding digits
a_cast_to_i32 = refl

a_length : Prints (one here len (string (codes "hi"))) (codes "len(\"hi\")")
a_length = refl

a_field : Prints (part 1 (tuple (num 5 ∷ yes ∷ []))) (codes "{5, true}.$1")
unfolding digits
a_field = refl

a_result : Prints (result (builder items)) (codes "result(vecbuilder[i32])")
a_result = refl

a_sum : Prints (op Add (num 1) (num 2)) (codes "1 + 2")
unfolding digits
a_sum = refl

a_difference : Prints (op Sub (num 1) (num 2)) (codes "1 - 2")
unfolding digits
a_difference = refl

a_product : Prints (op Mul (num 1) (num 2)) (codes "1 * 2")
unfolding digits
a_product = refl

a_quotient : Prints (op Div (num 1) (num 2)) (codes "1 / 2")
unfolding digits
a_quotient = refl

a_remainder : Prints (op Rem (num 1) (num 2)) (codes "1 % 2")
unfolding digits
a_remainder = refl

equals : Prints (op Eq (num 1) (num 2)) (codes "1 == 2")
unfolding digits
equals = refl

differs : Prints (op Ne (num 1) (num 2)) (codes "1 != 2")
unfolding digits
differs = refl

is_less : Prints (op Lt (num 1) (num 2)) (codes "1 < 2")
unfolding digits
is_less = refl

is_at_most : Prints (op Le (num 1) (num 2)) (codes "1 <= 2")
unfolding digits
is_at_most = refl

is_more : Prints (op Gt (num 1) (num 2)) (codes "1 > 2")
unfolding digits
is_more = refl

is_at_least : Prints (op Ge (num 1) (num 2)) (codes "1 >= 2")
unfolding digits
is_at_least = refl

both : Prints (two here and yes no) (codes "true && false")
both = refl

either : Prints (two here or yes no) (codes "true || false")
either = refl

a_place_looked_up : Prints (two here look_up (vector (num 5 ∷ [])) (long 0)) (codes "lookup([5], 0L)")
unfolding digits
a_place_looked_up = refl

a_key_that_may_exist : PrintsOf (noted 0 (dict i64 bool) ∷ []) (two here key_exists (var 0) (long 0)) (codes "|x0: dict[i64,bool]| keyexists(x0, 0L)")
unfolding digits
a_key_that_may_exist = refl

a_merge : Prints (into (builder items) (num 5)) (codes "merge(vecbuilder[i32], 5)")
unfolding digits
a_merge = refl

a_choice : Prints (choice yes (num 1) (num 2)) (codes "if(true, 1, 2)")
unfolding digits
a_choice = refl

a_selection : Prints (three here select no (num 1) (num 2)) (codes "select(false, 1, 2)")
unfolding digits
a_selection = refl

a_slice : Prints (three here slice (string (codes "hello")) (long 1) (long 2)) (codes "slice(\"hello\", 1L, 2L)")
unfolding digits
a_slice = refl

a_vector : Prints (vector (num 1 ∷ num 2 ∷ num 3 ∷ [])) (codes "[1, 2, 3]")
unfolding digits
a_vector = refl

a_vector_of_one : Prints (vector (num 1 ∷ [])) (codes "[1]")
unfolding digits
a_vector_of_one = refl

a_struct : Prints (tuple (num 1 ∷ vector (yes ∷ []) ∷ [])) (codes "{1, [true]}")
unfolding digits
a_struct = refl

a_struct_of_one : Prints (tuple (num 1 ∷ [])) (codes "{1}")
unfolding digits
a_struct_of_one = refl

a_let : Prints (bind (plain 0) (num 1) (var 0)) (codes "let x0 = 1; x0")
unfolding digits
a_let = refl

a_loop : Prints (over (whole (vector (num 5 ∷ [])) ∷ []) (builder items) (plain 0) (plain 1) (plain 2) (into (var 0) (var 2))) (codes "for([5], vecbuilder[i32], |x0, x1, x2| merge(x0, x2))")
unfolding digits
a_loop = refl

turns_of_a_state : Prints (turns (num 1) (plain 0) (tuple (var 0 ∷ no ∷ []))) (codes "iterate(1, |x0| {x0, false})")
unfolding digits
turns_of_a_state = refl

-- ---- each builder, with and without a starting value

fresh_list : Prints (builder (list (pair i32 i64))) (codes "vecbuilder[{i32,i64}]")
fresh_list = refl

fresh_sum : Prints (builder (total i64 merges.Add)) (codes "merger[i64,+]")
fresh_sum = refl

started_product : Prints (one here (started (total i64 merges.Mul)) (long 2)) (codes "merger[i64,*](2L)")
unfolding digits
started_product = refl

fresh_least_by_keys : Prints (builder (keyed i64 i32 merges.Min)) (codes "dictmerger[i64,i32,min]")
fresh_least_by_keys = refl

started_cells : Prints (one here (started (cells i32 merges.Max)) (vector (num 1 ∷ num 2 ∷ []))) (codes "vecmerger[i32,max]([1, 2])")
unfolding digits
started_cells = refl

fresh_lists_by_keys : Prints (builder (groups (vec (scalar I8)) bool)) (codes "groupbuilder[vec[i8],bool]")
fresh_lists_by_keys = refl

-- a starting value stands in no parentheses but the builder's
started_by_a_negative : Prints (one here (started (total i32 merges.Add)) below) (codes "merger[i32,+](-1)")
unfolding digits
started_by_a_negative = refl

-- ---- operands of binary operators: what stands in parentheses, on the left and on the right

left_sum : Prints (op Sub (op Sub (num 1) (num 2)) (num 3)) (codes "(1 - 2) - 3")
unfolding digits
left_sum = refl

right_sum : Prints (op Sub (num 1) (op Sub (num 2) (num 3))) (codes "1 - (2 - 3)")
unfolding digits
right_sum = refl

-- where the operator inside would bind more tightly, too
left_product : Prints (op Add (op Mul (num 1) (num 2)) (num 3)) (codes "(1 * 2) + 3")
unfolding digits
left_product = refl

right_product : Prints (op Add (num 1) (op Mul (num 2) (num 3))) (codes "1 + (2 * 3)")
unfolding digits
right_product = refl

left_order : Prints (op Eq (op Lt (num 1) (num 2)) yes) (codes "(1 < 2) == true")
unfolding digits
left_order = refl

right_order : Prints (op Eq yes (op Lt (num 1) (num 2))) (codes "true == (1 < 2)")
unfolding digits
right_order = refl

left_and : Prints (two here or (two here and yes no) yes) (codes "(true && false) || true")
left_and = refl

right_and : Prints (two here or yes (two here and no yes)) (codes "true || (false && true)")
right_and = refl

left_or : Prints (two here and (two here or yes no) yes) (codes "(true || false) && true")
left_or = refl

right_or : Prints (two here and yes (two here or no yes)) (codes "true && (false || true)")
right_or = refl

left_negation : PrintsOf (noted 0 i32 ∷ []) (op Add (minus (var 0)) (num 1)) (codes "|x0: i32| (-x0) + 1")
unfolding digits
left_negation = refl

right_negation : PrintsOf (noted 0 i32 ∷ []) (op Sub (num 1) (minus (var 0))) (codes "|x0: i32| 1 - (-x0)")
unfolding digits
right_negation = refl

left_opposite : Prints (op Eq (opposite yes) no) (codes "(!true) == false")
left_opposite = refl

right_opposite : Prints (two here and yes (opposite no)) (codes "true && (!false)")
right_opposite = refl

left_let : Prints (op Add (named_one 0) (num 2)) (codes "(let x0 = 1; x0) + 2")
unfolding digits
left_let = refl

right_let : Prints (op Add (num 2) (named_one 0)) (codes "2 + (let x0 = 1; x0)")
unfolding digits
right_let = refl

left_negative : Prints (op Sub below (num 2)) (codes "(-1) - 2")
unfolding digits
left_negative = refl

right_negative : Prints (op Sub (num 2) below) (codes "2 - (-1)")
unfolding digits
right_negative = refl

both_long_negatives : Prints (op Mul (leaf here (int I64 (negsuc 1))) (leaf here (int I64 (negsuc 2)))) (codes "(-2L) * (-3L)")
unfolding digits
both_long_negatives = refl

-- ---- what doesn't

names_and_fields_bare : PrintsOf (noted 0 i32 ∷ noted 1 (pair i32 i32) ∷ []) (op Add (var 0) (part 1 (var 1))) (codes "|x0: i32, x1: {i32,i32}| x0 + x1.$1")
unfolding digits
names_and_fields_bare = refl

fields_and_names_bare : PrintsOf (noted 0 i32 ∷ noted 1 (pair i32 i32) ∷ []) (op Add (part 1 (var 1)) (var 0)) (codes "|x0: i32, x1: {i32,i32}| x1.$1 + x0")
unfolding digits
fields_and_names_bare = refl

calls_bare : Prints (op Lt (one here len (string (codes "a"))) (two here look_up (vector (long 1 ∷ [])) (long 0))) (codes "len(\"a\") < lookup([1L], 0L)")
unfolding digits
calls_bare = refl

casts_bare : Prints (op Mul (one here (cast I32) (long 1)) (one here (cast I32) (leaf here (int I64 (negsuc 1))))) (codes "i32(1L) * i32(-2L)")
unfolding digits
casts_bare = refl

choices_bare : Prints (op Ne (choice yes (num 1) (num 2)) (three here select no (num 1) (num 2))) (codes "if(true, 1, 2) != select(false, 1, 2)")
unfolding digits
choices_bare = refl

vectors_and_structs_bare : Prints (op Eq (vector (num 1 ∷ [])) (tuple (num 1 ∷ []))) (codes "[1] == {1}")
unfolding digits
vectors_and_structs_bare = refl

turns_bare : Prints (op Add (turns (num 1) (plain 0) (tuple (var 0 ∷ no ∷ []))) (num 2)) (codes "iterate(1, |x0| {x0, false}) + 2")
unfolding digits
turns_bare = refl

results_bare : Prints (op Rem (result (builder (total i64 merges.Add))) (result (one here (started (total i64 merges.Mul)) (long 3)))) (codes "result(merger[i64,+]) % result(merger[i64,*](3L))")
unfolding digits
results_bare = refl

-- ---- operands of `!`

not_both : Prints (opposite (two here and yes no)) (codes "!(true && false)")
not_both = refl

not_less : Prints (opposite (op Lt (num 1) (num 2))) (codes "!(1 < 2)")
unfolding digits
not_less = refl

not_not : Prints (opposite (opposite yes)) (codes "!(!true)")
not_not = refl

not_a_negation : PrintsOf (noted 0 i32 ∷ []) (opposite (minus (var 0))) (codes "|x0: i32| !(-x0)")
unfolding digits
not_a_negation = refl

not_a_let : Prints (opposite (bind (plain 0) yes (var 0))) (codes "!(let x0 = true; x0)")
unfolding digits
not_a_let = refl

not_a_negative : Prints (opposite below) (codes "!(-1)")
unfolding digits
not_a_negative = refl

not_a_number : Prints (opposite (num 1)) (codes "!1")
unfolding digits
not_a_number = refl

not_a_field : Prints (opposite (part 0 (tuple (yes ∷ [])))) (codes "!{true}.$0")
unfolding digits
not_a_field = refl

not_a_key : PrintsOf (noted 0 (dict i64 bool) ∷ []) (opposite (two here key_exists (var 0) (long 0))) (codes "|x0: dict[i64,bool]| !keyexists(x0, 0L)")
unfolding digits
not_a_key = refl

-- ---- operands of `-`

minus_sum : Prints (minus (op Add (num 1) (num 2))) (codes "-(1 + 2)")
unfolding digits
minus_sum = refl

minus_minus : PrintsOf (noted 0 i32 ∷ []) (minus (minus (var 0))) (codes "|x0: i32| -(-x0)")
unfolding digits
minus_minus = refl

minus_opposite : Prints (minus (opposite yes)) (codes "-(!true)")
minus_opposite = refl

minus_let : Prints (minus (named_one 0)) (codes "-(let x0 = 1; x0)")
unfolding digits
minus_let = refl

minus_negative : Prints (minus below) (codes "-(-1)")
unfolding digits
minus_negative = refl

-- a literal, since `-1` is one token
minus_number : Prints (minus (num 1)) (codes "-(1)")
unfolding digits
minus_number = refl

minus_long_number : Prints (minus (long 1)) (codes "-(1L)")
unfolding digits
minus_long_number = refl

minus_truth : Prints (minus yes) (codes "-(true)")
minus_truth = refl

minus_string : Prints (minus (string (codes "a"))) (codes "-(\"a\")")
minus_string = refl

minus_field_of_number : Prints (minus (part 0 (num 1))) (codes "-(1.$0)")
unfolding digits
minus_field_of_number = refl

minus_fields_of_number : Prints (minus (part 1 (part 0 (long 1)))) (codes "-(1L.$0.$1)")
unfolding digits
minus_fields_of_number = refl

minus_field_of_negative : Prints (minus (part 0 below)) (codes "-(-1).$0")
unfolding digits
minus_field_of_negative = refl

minus_field_of_truth : Prints (minus (part 0 yes)) (codes "-true.$0")
unfolding digits
minus_field_of_truth = refl

minus_field_of_name : PrintsOf (noted 0 (pair i32 i32) ∷ []) (minus (part 1 (var 0))) (codes "|x0: {i32,i32}| -x0.$1")
unfolding digits
minus_field_of_name = refl

minus_field_of_sum : Prints (minus (part 0 (op Add (num 1) (num 2)))) (codes "-(1 + 2).$0")
unfolding digits
minus_field_of_sum = refl

minus_length : Prints (minus (one here len (string (codes "a")))) (codes "-len(\"a\")")
minus_length = refl

minus_cast : Prints (minus (one here (cast I64) (num 1))) (codes "-i64(1)")
unfolding digits
minus_cast = refl

minus_vector : Prints (minus (vector (num 1 ∷ []))) (codes "-[1]")
unfolding digits
minus_vector = refl

minus_choice : Prints (minus (choice yes (num 1) (num 2))) (codes "-if(true, 1, 2)")
unfolding digits
minus_choice = refl

-- ---- operands of `.`

field_of_sum : Prints (part 0 (op Add (num 1) (num 2))) (codes "(1 + 2).$0")
unfolding digits
field_of_sum = refl

field_of_or : Prints (part 0 (two here or yes no)) (codes "(true || false).$0")
unfolding digits
field_of_or = refl

field_of_minus : PrintsOf (noted 0 i32 ∷ []) (part 0 (minus (var 0))) (codes "|x0: i32| (-x0).$0")
unfolding digits
field_of_minus = refl

field_of_opposite : Prints (part 0 (opposite yes)) (codes "(!true).$0")
unfolding digits
field_of_opposite = refl

field_of_let : Prints (part 12 (named_one 0)) (codes "(let x0 = 1; x0).$12")
unfolding digits
field_of_let = refl

field_of_negative : Prints (part 0 below) (codes "(-1).$0")
unfolding digits
field_of_negative = refl

field_of_number : Prints (part 0 (num 1)) (codes "1.$0")
unfolding digits
field_of_number = refl

field_of_field : PrintsOf (noted 0 (pair i32 (pair i32 bool)) ∷ []) (part 0 (part 1 (var 0))) (codes "|x0: {i32,{i32,bool}}| x0.$1.$0")
unfolding digits
field_of_field = refl

field_of_turns : Prints (part 0 (turns (num 1) (plain 0) (tuple (var 0 ∷ no ∷ [])))) (codes "iterate(1, |x0| {x0, false}).$0")
unfolding digits
field_of_turns = refl

-- ---- a `let` and its parts

let_as_value : Prints (bind (plain 0) (named_one 1) (var 0)) (codes "let x0 = (let x1 = 1; x1); x0")
unfolding digits
let_as_value = refl

let_as_body : Prints (bind (plain 0) (num 1) (bind (plain 1) (var 0) (var 1))) (codes "let x0 = 1; let x1 = x0; x1")
unfolding digits
let_as_body = refl

sum_as_value : Prints (bind (plain 0) (op Add (num 1) (num 2)) (op Mul (var 0) (var 0))) (codes "let x0 = 1 + 2; x0 * x0")
unfolding digits
sum_as_value = refl

negative_as_value : Prints (bind (plain 0) below (minus (var 0))) (codes "let x0 = -1; -x0")
unfolding digits
negative_as_value = refl

opposite_as_value : Prints (bind (plain 0) (opposite yes) (opposite (var 0))) (codes "let x0 = !true; !x0")
unfolding digits
opposite_as_value = refl

-- only as a value itself: not where it stands within one
let_in_value : Prints (bind (plain 0) (vector (named_one 1 ∷ [])) (var 0)) (codes "let x0 = [let x1 = 1; x1]; x0")
unfolding digits
let_in_value = refl

-- ---- arguments stand bare

arguments_bare : Prints (choice (opposite yes) (op Add (num 1) (num 2)) below) (codes "if(!true, 1 + 2, -1)")
unfolding digits
arguments_bare = refl

lets_as_arguments : Prints (vector (named_one 0 ∷ minus (named_one 1) ∷ op Add (num 1) (num 2) ∷ [])) (codes "[let x0 = 1; x0, -(let x1 = 1; x1), 1 + 2]")
unfolding digits
lets_as_arguments = refl

state_and_body_bare : Prints (turns (op Add (num 1) (num 2)) (plain 0) (bind (plain 1) (var 0) (tuple (minus (var 1) ∷ opposite no ∷ [])))) (codes "iterate(1 + 2, |x0| let x1 = x0; {-x1, !false})")
unfolding digits
state_and_body_bare = refl

merged_bare : Prints (into (builder items) (minus (num 5))) (codes "merge(vecbuilder[i32], -(5))")
unfolding digits
merged_bare = refl

-- ---- names: by the order of the text, whatever numbers the binders have

other_numbers : Prints (bind (plain 7) (num 1) (bind (plain 3) (num 2) (op Add (var 7) (var 3)))) (codes "let x0 = 1; let x1 = 2; x0 + x1")
unfolding digits
other_numbers = refl

-- a name that hid another in the text has a number of its own
hiding : Prints (bind (plain 0) (num 1) (bind (plain 1) (op Add (var 0) (num 1)) (var 1))) (codes "let x0 = 1; let x1 = x0 + 1; x1")
unfolding digits
hiding = refl

-- the binder of a `let` stands before those of its value, and these before those of its body
value_before_body : Prints (bind (plain 5) (named_one 9) (bind (plain 2) (var 5) (op Add (var 5) (var 2)))) (codes "let x0 = (let x1 = 1; x1); let x2 = x0; x0 + x2")
unfolding digits
value_before_body = refl

-- by the order, not by the depth
side_by_side : Prints (op Add (named_one 4) (named_one 8)) (codes "(let x0 = 1; x0) + (let x1 = 1; x1)")
unfolding digits
side_by_side = refl

three_side_by_side : Prints (choice (bind (plain 6) yes (var 6)) (named_one 2) (named_one 4)) (codes "if(let x0 = true; x0, let x1 = 1; x1, let x2 = 1; x2)")
unfolding digits
three_side_by_side = refl

params_first : PrintsOf (noted 8 i32 ∷ noted 1 bool ∷ []) (bind (plain 0) (var 8) (tuple (var 0 ∷ var 1 ∷ []))) (codes "|x0: i32, x1: bool| let x2 = x0; {x2, x1}")
unfolding digits
params_first = refl

state_before_binder : Prints (turns (named_one 3) (plain 1) (tuple (named_one 2 ∷ no ∷ []))) (codes "iterate(let x0 = 1; x0, |x1| {let x2 = 1; x2, false})")
unfolding digits
state_before_binder = refl

-- the legs of a loop and its builder stand before its binders
leg_and_builder_first : Prints (over (whole (vector (named_one 9 ∷ [])) ∷ []) (one here (started (total i32 merges.Add)) (named_one 8)) (plain 3) (plain 2) (plain 1) (into (var 3) (named_one 0)))
    (codes "for([let x0 = 1; x0], merger[i32,+](let x1 = 1; x1), |x2, x3, x4| merge(x2, let x5 = 1; x5))")
unfolding digits
leg_and_builder_first = refl

loop_in_loop : PrintsOf (noted 0 (vec (vec i32)) ∷ [])
    (over (whole (var 0) ∷ []) (builder items) (plain 1) (plain 2) (plain 3) (over (whole (var 3) ∷ []) (var 1) (plain 4) (plain 5) (plain 6) (into (var 4) (var 6))))
    (codes "|x0: vec[vec[i32]]| for(x0, vecbuilder[i32], |x1, x2, x3| for(x3, x1, |x4, x5, x6| merge(x4, x6)))")
unfolding digits
loop_in_loop = refl

two_digits : PrintsOf (noted 20 i32 ∷ noted 21 i32 ∷ noted 22 i32 ∷ noted 23 i32 ∷ noted 24 i32 ∷ noted 25 i32 ∷ noted 26 i32 ∷ noted 27 i32 ∷ noted 28 i32 ∷ noted 29 i32 ∷ noted 30 i32 ∷ []) (op Sub (var 30) (var 29))
    (codes "|x0: i32, x1: i32, x2: i32, x3: i32, x4: i32, x5: i32, x6: i32, x7: i32, x8: i32, x9: i32, x10: i32| x10 - x9")
unfolding digits
two_digits = refl

-- ---- notes, where the tree has them

noted_let : Prints (bind (noted 0 i32) (num 1) (var 0)) (codes "let x0: i32 = 1; x0")
unfolding digits
noted_let = refl

noted_by_a_struct : Prints (bind (noted 0 (pair i32 (pair i64 bool))) (tuple (num 1 ∷ tuple (long 2 ∷ yes ∷ []) ∷ [])) (var 0)) (codes "let x0: {i32,{i64,bool}} = {1, {2L, true}}; x0")
unfolding digits
noted_by_a_struct = refl

noted_by_a_builder : Prints (bind (noted 0 (build (keyed i64 i32 merges.Add))) (builder (keyed i64 i32 merges.Add)) (result (var 0))) (codes "let x0: dictmerger[i64,i32,+] = dictmerger[i64,i32,+]; result(x0)")
unfolding digits
noted_by_a_builder = refl

noted_beside_bare : Prints (bind (plain 0) (num 1) (bind (noted 1 i32) (var 0) (var 1))) (codes "let x0 = 1; let x1: i32 = x0; x1")
unfolding digits
noted_beside_bare = refl

noted_state : Prints (turns (num 1) (noted 0 i32) (tuple (var 0 ∷ no ∷ []))) (codes "iterate(1, |x0: i32| {x0, false})")
unfolding digits
noted_state = refl

noted_row : Prints (over (whole (vector (num 5 ∷ [])) ∷ []) (builder items) (noted 0 (build items)) (noted 1 i64) (noted 2 i32) (into (var 0) (var 2)))
    (codes "for([5], vecbuilder[i32], |x0: vecbuilder[i32], x1: i64, x2: i32| merge(x0, x2))")
unfolding digits
noted_row = refl

noted_row_number_alone : Prints (over (whole (vector (num 5 ∷ [])) ∷ []) (builder items) (plain 0) (noted 1 i64) (plain 2) (into (var 0) (var 2)))
    (codes "for([5], vecbuilder[i32], |x0, x1: i64, x2| merge(x0, x2))")
unfolding digits
noted_row_number_alone = refl

-- ---- parameters

one_param : PrintsOf (noted 0 (vec i64) ∷ []) (one here len (var 0)) (codes "|x0: vec[i64]| len(x0)")
unfolding digits
one_param = refl

three_params : PrintsOf (noted 0 i32 ∷ noted 1 (dict i64 (vec bool)) ∷ noted 2 (pair i32 i64) ∷ []) (var 2) (codes "|x0: i32, x1: dict[i64,vec[bool]], x2: {i32,i64}| x2")
unfolding digits
three_params = refl

unused_param : PrintsOf (noted 0 bool ∷ []) below (codes "|x0: bool| -1")
unfolding digits
unused_param = refl

let_behind_params : PrintsOf (noted 0 bool ∷ []) (bind (plain 1) (var 0) (var 1)) (codes "|x0: bool| let x1 = x0; x1")
unfolding digits
let_behind_params = refl

-- ---- legs

zip_of_two : PrintsOf (noted 0 (vec i32) ∷ noted 1 (vec i64) ∷ []) (over (whole (var 0) ∷ whole (var 1) ∷ []) (builder items) (plain 2) (plain 3) (plain 4) (into (var 2) (part 0 (var 4))))
    (codes "|x0: vec[i32], x1: vec[i64]| for(zip(x0, x1), vecbuilder[i32], |x2, x3, x4| merge(x2, x4.$0))")
unfolding digits
zip_of_two = refl

part_of_a_vector : PrintsOf (noted 0 (vec i32) ∷ []) (over (strided (var 0) (long 0) (long 4) (long 2) ∷ []) (builder items) (plain 1) (plain 2) (plain 3) (into (var 1) (var 3)))
    (codes "|x0: vec[i32]| for(iter(x0, 0L, 4L, 2L), vecbuilder[i32], |x1, x2, x3| merge(x1, x3))")
unfolding digits
part_of_a_vector = refl

zip_of_parts : PrintsOf (noted 0 (vec i32) ∷ []) (over (whole (var 0) ∷ strided (var 0) (long 0) (long 4) (long 2) ∷ whole (vector (num 1 ∷ num 2 ∷ [])) ∷ []) (builder items) (plain 1) (plain 2) (plain 3) (var 1))
    (codes "|x0: vec[i32]| for(zip(x0, iter(x0, 0L, 4L, 2L), [1, 2]), vecbuilder[i32], |x1, x2, x3| x1)")
unfolding digits
zip_of_parts = refl

-- legs and bounds stand bare, and their binders come in the order of the text
binders_in_legs : Prints (over (strided (bind (plain 3) (string (codes "a")) (var 3)) (op Sub (long 1) (long 1)) (bind (plain 2) (long 1) (var 2)) (long 1) ∷ whole (bind (plain 1) (string (codes "b")) (var 1)) ∷ []) (builder items) (plain 4) (plain 5) (plain 6) (var 4))
    (codes "for(zip(iter(let x0 = \"a\"; x0, 1L - 1L, let x1 = 1L; x1, 1L), let x2 = \"b\"; x2), vecbuilder[i32], |x3, x4, x5| x3)")
unfolding digits
binders_in_legs = refl

-- ---- strings: each byte by its number

empty_string : Prints (string []) (34 ∷ 34 ∷ [])
empty_string = refl

a_quote : Prints (string (34 ∷ [])) (34 ∷ 92 ∷ 34 ∷ 34 ∷ [])
a_quote = refl

a_backslash : Prints (string (92 ∷ [])) (34 ∷ 92 ∷ 92 ∷ 34 ∷ [])
a_backslash = refl

space_and_tilde : Prints (string (32 ∷ 126 ∷ [])) (34 ∷ 32 ∷ 126 ∷ 34 ∷ [])
space_and_tilde = refl

-- a backslash, an `x` and `7f`
delete : Prints (string (127 ∷ [])) (34 ∷ 92 ∷ 120 ∷ 55 ∷ 102 ∷ 34 ∷ [])
delete = refl

line_feed : Prints (string (10 ∷ [])) (34 ∷ 92 ∷ 120 ∷ 48 ∷ 97 ∷ 34 ∷ [])
line_feed = refl

nul_and_unit_separator : Prints (string (0 ∷ 31 ∷ [])) (34 ∷ 92 ∷ 120 ∷ 48 ∷ 48 ∷ 92 ∷ 120 ∷ 49 ∷ 102 ∷ 34 ∷ [])
nul_and_unit_separator = refl

above_127 : Prints (string (128 ∷ 200 ∷ 255 ∷ [])) (34 ∷ 92 ∷ 120 ∷ 56 ∷ 48 ∷ 92 ∷ 120 ∷ 99 ∷ 56 ∷ 92 ∷ 120 ∷ 102 ∷ 102 ∷ 34 ∷ [])
above_127 = refl

-- an escape between bytes that stand for themselves
mixed : Prints (string (97 ∷ 34 ∷ 98 ∷ 10 ∷ 99 ∷ [])) (34 ∷ 97 ∷ 92 ∷ 34 ∷ 98 ∷ 92 ∷ 120 ∷ 48 ∷ 97 ∷ 99 ∷ 34 ∷ [])
mixed = refl
