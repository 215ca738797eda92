-- Small programs whose evaluation and first refusal are worked out by hand, by which the definitions are checked.
use Rattle.std.proofs.Common.{◌≡◌, ℕ, pos, negsuc, true, false, List, [], ◌∷◌, Some, None, refl}
use Rattle.weld_data.specs.declared.kind.Kind.TheVariants.{U8, I64}
use Rattle.weld_data.specs.declared.kind.Kind.TheVariants as kinds
use Rattle.weld_data.specs.declared.op.BinOp.TheVariants as ops
use Rattle.weld_data.specs.declared.op.MergeOp.TheVariants as merges
use Rattle.weld_data.specs.Value.{Value, number, list, no_values, values}
use Rattle.weld_tree.specs.declared.binder.Binder.{Binder}
use Rattle.weld_tree.specs.declared.known.Known.TheVariants.{Blank}
use Rattle.weld_tree.specs.declared.code.Code.TheVariants.{L1, L2, L3, L4, L5, L6}
use Rattle.weld_tree.specs.declared.place.Place.{Place}
use Rattle.weld_tree.specs.TypeTree.{scalar, total, cells}
use Rattle.weld_tree.specs.ExprTree.{At, ExprTree, leaf, one, two, three, many, let_in, loop, ExprTrees, no_exprs, more_exprs, whole, strided, LegTrees, no_legs, more_legs, int, truth, name, fresh, neg, field, finish, started, binary, and, look_up, merge, if_else, select, slice, make_vec, make_struct}
use Rattle.weld_builders.specs.Outcome.{Outcome, done, fault}
use Rattle.weld_meaning.specs.Evaluation.{eval, value_out}
use Rattle.weld_meaning.specs.LinearWalk.{Refused, refusal}

abbrev place : ℕ → Place
place c = record { line = 1; column = c }

abbrev node : ℕ → At
node c = record { place = place c; ty = Blank }

abbrev binder : ℕ → ℕ → Binder
binder s c = record { sym = record { 0 = s }; place = place c; note = None; note_place = place c }

abbrev u8 : ℕ → ExprTree
u8 n = leaf (node 0) (int U8 (pos n))

abbrev i64 : ℕ → ExprTree
i64 n = leaf (node 0) (int I64 (pos n))

abbrev minus_one : ExprTree
minus_one = leaf (node 0) (int I64 (negsuc 0))

abbrev var : ℕ → ℕ → ExprTree
var s c = leaf (node c) (name s)

abbrev vector : List ExprTree → ExprTrees
vector [] = no_exprs
vector (e ∷ es) = more_exprs e (vector es)

abbrev vec_of : List ExprTree → ExprTree
vec_of es = many (node 0) make_vec (vector es)

abbrev one_to_four : ExprTree
one_to_four = vec_of (u8 1 ∷ u8 2 ∷ u8 3 ∷ u8 4 ∷ [])

abbrev quotient : ExprTree → ExprTree → ExprTree
quotient e f = two (node 0) (binary ops.Div) e f

abbrev value_of : ExprTree → Outcome Value
value_of e = value_out (eval e [])

abbrev small : ℕ → Value
small n = number U8 (pos n)

abbrev truth_is : ℕ → Value
truth_is n = number kinds.Bool (pos n)

-- ---- values

wraps_past_the_greatest : value_of (two (node 0) (binary ops.Add) (u8 250) (u8 10)) ≡ done (small 4)
wraps_past_the_greatest = refl

negates_and_wraps : value_of (one (node 0) neg (u8 1)) ≡ done (small 255)
negates_and_wraps = refl

zero_divisor_faults : value_of (quotient (u8 1) (u8 0)) ≡ fault
zero_divisor_faults = refl

and_decides_on_the_left : value_of (two (node 0) and (leaf (node 0) (truth false)) (two (node 0) (binary ops.Eq) (quotient (u8 1) (u8 0)) (u8 1))) ≡ done (truth_is 0)
and_decides_on_the_left = refl

if_leaves_the_other_arm : value_of (three (node 0) if_else (leaf (node 0) (truth true)) (u8 1) (quotient (u8 1) (u8 0))) ≡ done (small 1)
if_leaves_the_other_arm = refl

select_evaluates_both : value_of (three (node 0) select (leaf (node 0) (truth true)) (u8 1) (quotient (u8 1) (u8 0))) ≡ fault
select_evaluates_both = refl

unused_let_faults : value_of (let_in (node 0) (binder 1 0) (quotient (u8 1) (u8 0)) (u8 5)) ≡ fault
unused_let_faults = refl

looks_up_the_last : value_of (two (node 0) look_up one_to_four (i64 3)) ≡ done (small 4)
looks_up_the_last = refl

past_the_end_faults : value_of (two (node 0) look_up one_to_four (i64 4)) ≡ fault
past_the_end_faults = refl

minus_one_is_no_place : value_of (two (node 0) look_up one_to_four minus_one) ≡ fault
minus_one_is_no_place = refl

slices_within : value_of (three (node 0) slice one_to_four (i64 1) (i64 3)) ≡ done (list (values (small 2 ∷ small 3 ∷ small 4 ∷ [])))
slices_within = refl

slices_nothing_at_the_end : value_of (three (node 0) slice one_to_four (i64 4) (i64 0)) ≡ done (list no_values)
slices_nothing_at_the_end = refl

slice_past_the_end_faults : value_of (three (node 0) slice one_to_four (i64 2) (i64 3)) ≡ fault
slice_past_the_end_faults = refl

field_of_a_struct : value_of (one (node 0) (field 1) (many (node 0) make_struct (vector (u8 7 ∷ u8 8 ∷ [])))) ≡ done (small 8)
field_of_a_struct = refl

-- ---- loops

abbrev sum_from : LegTrees → ExprTree → ExprTree → ExprTree
sum_from ls builder e = one (node 0) finish (loop (node 0) ls builder (binder 10 0) (binder 11 0) (binder 12 0) (two (node 0) merge (var 10 0) e))

abbrev sum_of : ExprTree
sum_of = leaf (node 0) (fresh (total (scalar U8) merges.Add))

sums_a_vector : value_of (sum_from (more_legs (whole one_to_four) no_legs) sum_of (var 12 0)) ≡ done (small 10)
sums_a_vector = refl

empty_vector_gives_the_neutral : value_of (sum_from (more_legs (whole (vec_of [])) no_legs) (leaf (node 0) (fresh (total (scalar U8) merges.Min))) (var 12 0)) ≡ done (small 255)
empty_vector_gives_the_neutral = refl

starts_from_a_value : value_of (sum_from (more_legs (whole one_to_four) no_legs) (one (node 0) (started (total (scalar U8) merges.Mul)) (u8 2)) (var 12 0)) ≡ done (small 48)
starts_from_a_value = refl

takes_every_second : value_of (sum_from (more_legs (strided one_to_four (i64 0) (i64 4) (i64 2)) no_legs) sum_of (var 12 0)) ≡ done (small 4)
takes_every_second = refl

stride_that_misses_the_end_faults : value_of (sum_from (more_legs (strided one_to_four (i64 0) (i64 3) (i64 2)) no_legs) sum_of (var 12 0)) ≡ fault
stride_that_misses_the_end_faults = refl

zips_by_number : value_of (sum_from (more_legs (whole one_to_four) (more_legs (whole one_to_four) no_legs)) sum_of (two (node 0) (binary ops.Mul) (one (node 0) (field 0) (var 12 0)) (one (node 0) (field 1) (var 12 0)))) ≡ done (small 30)
zips_by_number = refl

uneven_zip_faults : value_of (sum_from (more_legs (whole one_to_four) (more_legs (whole (vec_of (u8 1 ∷ []))) no_legs)) sum_of (u8 1)) ≡ fault
uneven_zip_faults = refl

abbrev cells_of : ExprTree → ExprTree
cells_of e = sum_from (more_legs (whole (vec_of (u8 5 ∷ []))) no_legs) (one (node 0) (started (cells (scalar U8) merges.Add)) one_to_four) (many (node 0) make_struct (vector (e ∷ var 12 0 ∷ [])))

merges_into_a_cell : value_of (cells_of (i64 3)) ≡ done (list (values (small 1 ∷ small 2 ∷ small 3 ∷ small 9 ∷ [])))
merges_into_a_cell = refl

cell_minus_one_faults : value_of (cells_of minus_one) ≡ fault
cell_minus_one_faults = refl

-- ---- linear use: builders have the names 1 and up

abbrev first : ExprTree → Refused
first e = refusal e [] []

abbrev builder : ExprTree
builder = leaf (node 7) (fresh (total (scalar U8) merges.Add))

abbrev over : ExprTree → ExprTree → ExprTree
over start body = loop (node 20) (more_legs (whole one_to_four) no_legs) start (binder 1 21) (binder 2 22) (binder 3 23) body

abbrev merged : ExprTree → ExprTree
merged e = two (node 30) merge e (var 3 31)

abbrev pair : ExprTree → ExprTree → ExprTree
pair e f = many (node 40) make_struct (vector (e ∷ f ∷ []))

abbrev part : ℕ → ExprTree → ℕ → ExprTree
part n e c = one (node c) (field n) e

sum_is_linear : first (one (node 0) finish (over builder (merged (var 1 5)))) ≡ None
sum_is_linear = refl

used_twice : first (over builder (two (node 0) merge (var 1 5) (one (node 0) finish (var 1 6)))) ≡ Some (L1, place 6)
used_twice = refl

left_at_the_end : first (over builder (merged builder)) ≡ Some (L1, place 21)
left_at_the_end = refl

left_by_a_let : first (let_in (node 0) (binder 9 8) builder (u8 1)) ≡ Some (L1, place 8)
left_by_a_let = refl

result_of_its_own : first (over builder (two (node 0) merge builder (one (node 9) finish (var 1 5)))) ≡ Some (L5, place 9)
result_of_its_own = refl

another_builder_back : first (over builder (let_in (node 0) (binder 9 8) (var 1 5) (let_in (node 0) (binder 10 9) (one (node 0) finish (merged (let_in (node 0) (binder 12 0) builder (var 12 0)))) (merged (var 9 10))))) ≡ None
another_builder_back = refl

struct_rebuilt : first (over (pair builder builder) (pair (merged (part 0 (var 1 5) 6)) (part 1 (var 1 7) 8))) ≡ None
struct_rebuilt = refl

struct_swapped : first (over (pair builder builder) (pair (part 1 (var 1 5) 6) (part 0 (var 1 7) 8))) ≡ Some (L6, place 20)
struct_swapped = refl

one_field_left : first (over (pair builder builder) (pair (part 0 (var 1 5) 6) builder)) ≡ Some (L1, place 21)
one_field_left = refl

field_of_what_was_taken : first (over (pair builder builder) (let_in (node 0) (binder 9 8) (var 1 5) (pair (part 0 (var 1 6) 7) (part 1 (var 9 9) 10)))) ≡ Some (L1, place 6)
field_of_what_was_taken = refl

outer_builder_within : first (let_in (node 0) (binder 9 8) builder (over builder (merged (var 9 5)))) ≡ Some (L3, place 5)
outer_builder_within = refl

inner_loop_hands_it_through : first (over builder (loop (node 50) (more_legs (whole one_to_four) no_legs) (var 1 5) (binder 11 51) (binder 12 52) (binder 13 53) (two (node 0) merge (var 11 54) (var 13 55)))) ≡ None
inner_loop_hands_it_through = refl

arms_of_one_builder : first (over builder (three (node 60) if_else (leaf (node 0) (truth true)) (merged (var 1 5)) (var 1 6))) ≡ None
arms_of_one_builder = refl

arms_that_leave_different : first (let_in (node 0) (binder 9 8) builder (one (node 0) finish (three (node 60) if_else (leaf (node 0) (truth true)) (var 9 5) builder))) ≡ Some (L2, place 60)
arms_that_leave_different = refl

arms_of_two_builders : first (one (node 0) finish (three (node 60) if_else (leaf (node 0) (truth true)) builder builder)) ≡ Some (L4, place 60)
arms_of_two_builders = refl

arms_swap_two : first (let_in (node 0) (binder 8 6) builder (let_in (node 0) (binder 9 7) builder (three (node 60) if_else (leaf (node 0) (truth true)) (pair (var 8 1) (var 9 2)) (pair (var 9 3) (var 8 4))))) ≡ Some (L4, place 60)
arms_swap_two = refl

right_side_takes : first (let_in (node 0) (binder 9 8) builder (two (node 70) and (leaf (node 0) (truth true)) (two (node 0) (binary ops.Eq) (one (node 0) finish (var 9 5)) (u8 1)))) ≡ Some (L2, place 70)
right_side_takes = refl

field_on_no_name : first (part 0 (pair builder builder) 80) ≡ Some (L1, place 80)
field_on_no_name = refl
