-- Small lets, by which the definitions are checked: which are put in their place, and which stay.
use Rattle.std.proofs.Common.{◌≡◌, ℕ, pos, true, false, [], ◌∷◌, Some, None, refl}
use Rattle.weld_data.specs.declared.kind.Kind.TheVariants.{I64}
use Rattle.weld_data.specs.declared.op.BinOp.TheVariants as ops
use Rattle.weld_tree.specs.declared.binder.Binder.{Binder}
use Rattle.weld_tree.specs.declared.known.Known.TheVariants.{Blank, Is}
use Rattle.weld_tree.specs.declared.place.Place.{Place}
use Rattle.weld_tree.specs.TypeTree.{TypeTree, scalar, struct, build, list, no_types, more_types}
use Rattle.weld_tree.specs.ExprTree.{At, ExprTree, leaf, one, two, three, many, let_in, loop, iterate, no_exprs, more_exprs, whole, strided, no_legs, more_legs, int, truth, chars, name, fresh, len, field, finish, binary, and, merge, if_else, select, make_struct}
use Rattle.weld_meaning.specs.Names.{put}
use Rattle.weld_substitution.specs.declared.put_anywhere.spot.Spot.TheVariants.{Other}
use Rattle.weld_substitution.specs.Redex.{is_plain, spot_of, is_redex}

abbrev place : Place
place = record { line = 0; column = 0 }

abbrev node : At
node = record { place = place; ty = Blank }

abbrev of_type : TypeTree → At
of_type t = record { place = place; ty = Is t }

abbrev binder : ℕ → Binder
binder s = record { sym = record { 0 = s }; place = place; note = None; note_place = place }

abbrev var : ℕ → ExprTree
var s = leaf node (name s)

abbrev i64 : ℕ → ExprTree
i64 n = leaf node (int I64 (pos n))

abbrev sum : ExprTree → ExprTree → ExprTree
sum e f = two node (binary ops.Add) e f

abbrev quotient : ExprTree → ExprTree → ExprTree
quotient e f = two node (binary ops.Div) e f

abbrev part : ExprTree → ExprTree
part e = one node (field 0) e

abbrev pair : At → ExprTree → ExprTree → ExprTree
pair a e f = many a make_struct (more_exprs e (more_exprs f no_exprs))

abbrev list_of_i64 : ExprTree
list_of_i64 = leaf node (fresh (list (scalar I64)))

-- `for(v, b0, |b1, i2, x3| body)`
abbrev over : ExprTree → ExprTree → ExprTree
over v body = loop node (more_legs (whole v) no_legs) list_of_i64 (binder 1) (binder 2) (binder 3) body

abbrev in_steps : ExprTree → ExprTree
in_steps v = loop node (more_legs (strided v (i64 0) (i64 4) (i64 2)) no_legs) list_of_i64 (binder 1) (binder 2) (binder 3) (var 1)

abbrev mapped : ExprTree → ExprTree
mapped v = one node finish (over v (two node merge (var 1) (var 3)))

-- `let x9 = v; body`
abbrev bound_to : ExprTree → ExprTree → ExprTree
bound_to v body = let_in node (binder 9) v body

-- ---- plain values

a_name_goes_everywhere : is_redex (bound_to (var 8) (over (var 7) (two node merge (var 1) (sum (var 9) (var 9))))) ≡ true
a_name_goes_everywhere = refl

a_field_is_plain : is_plain (part (part (var 8))) ≡ true
a_field_is_plain = refl

a_field_of_a_struct_is_not : is_plain (part (pair node (var 7) (var 8))) ≡ false
a_field_of_a_struct_is_not = refl

a_string_is_not : is_plain (leaf node (chars (104 ∷ []))) ≡ false
a_string_is_not = refl

an_unused_number_goes : is_redex (bound_to (i64 1) (i64 2)) ≡ true
an_unused_number_goes = refl

an_unused_quotient_stays : is_redex (bound_to (quotient (i64 1) (i64 0)) (i64 2)) ≡ false
an_unused_quotient_stays = refl

-- ---- one use, on the way

a_quotient_used_once : is_redex (bound_to (quotient (var 7) (var 8)) (sum (i64 1) (var 9))) ≡ true
a_quotient_used_once = refl

used_twice_stays : is_redex (bound_to (quotient (var 7) (var 8)) (sum (var 9) (var 9))) ≡ false
used_twice_stays = refl

used_in_a_condition : spot_of 9 Other (three node if_else (var 9) (i64 1) (i64 2)) ≡ Some Other
used_in_a_condition = refl

used_in_an_arm_stays : is_redex (bound_to (quotient (var 7) (var 8)) (three node if_else (leaf node (truth true)) (var 9) (i64 2))) ≡ false
used_in_an_arm_stays = refl

used_in_a_select : spot_of 9 Other (three node select (leaf node (truth true)) (i64 1) (var 9)) ≡ Some Other
used_in_a_select = refl

used_on_the_right_of_and_stays : spot_of 9 Other (two node and (leaf node (truth true)) (var 9)) ≡ None
used_on_the_right_of_and_stays = refl

used_on_the_left_of_and : spot_of 9 Other (two node and (var 9) (leaf node (truth true))) ≡ Some Other
used_on_the_left_of_and = refl

used_in_a_loop_stays : is_redex (bound_to (quotient (var 7) (var 8)) (over (var 6) (two node merge (var 1) (var 9)))) ≡ false
used_in_a_loop_stays = refl

used_in_turns_stays : spot_of 9 Other (iterate node (i64 0) (binder 4) (pair node (var 9) (leaf node (truth false)))) ≡ None
used_in_turns_stays = refl

-- ---- values with a loop

a_loop_as_a_leg : is_redex (bound_to (mapped (var 8)) (mapped (var 9))) ≡ true
a_loop_as_a_leg = refl

a_loop_under_result : is_redex (bound_to (over (var 8) (two node merge (var 1) (var 3))) (one node finish (var 9))) ≡ true
a_loop_under_result = refl

a_loop_elsewhere_stays : is_redex (bound_to (mapped (var 8)) (one node len (var 9))) ≡ false
a_loop_elsewhere_stays = refl

a_loop_in_steps_stays : is_redex (bound_to (mapped (var 8)) (in_steps (var 9))) ≡ false
a_loop_in_steps_stays = refl

-- ---- under a field access

abbrev two_numbers : TypeTree
two_numbers = struct (more_types (scalar I64) (more_types (scalar I64) no_types))

abbrev one_builder : TypeTree
one_builder = struct (more_types (build (list (scalar I64))) no_types)

a_struct_of_values : is_redex (bound_to (pair (of_type two_numbers) (var 7) (var 8)) (part (var 9))) ≡ true
a_struct_of_values = refl

a_struct_of_builders_stays : is_redex (bound_to (many (of_type one_builder) make_struct (more_exprs list_of_i64 no_exprs)) (part (var 9))) ≡ false
a_struct_of_builders_stays = refl

without_a_note_it_stays : is_redex (bound_to (pair node (var 7) (var 8)) (part (var 9))) ≡ false
without_a_note_it_stays = refl

-- ---- the answer

put_for_both_uses : put 9 (part (var 8)) (sum (var 9) (sum (i64 1) (var 9))) ≡ sum (part (var 8)) (sum (i64 1) (part (var 8)))
put_for_both_uses = refl
