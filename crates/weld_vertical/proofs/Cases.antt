-- Small loops over what other loops make, by which the definitions are checked: which are, which stay, and what takes their place.
use Rattle.std.proofs.Common.{◌≡◌, ℕ, true, false, None, refl}
use Rattle.weld_data.specs.declared.kind.Kind.TheVariants.{I64}
use Rattle.weld_data.specs.declared.op.MergeOp.TheVariants.{Add}
use Rattle.weld_tree.specs.declared.binder.Binder.{Binder}
use Rattle.weld_tree.specs.declared.known.Known.TheVariants.{Blank, Is}
use Rattle.weld_tree.specs.declared.place.Place.{Place}
use Rattle.weld_tree.specs.TypeTree.{TypeTree, BuildTree, scalar, list, total}
use Rattle.weld_tree.specs.ExprTree.{At, ExprTree, leaf, one, two, three, let_in, loop, whole, strided, LegTrees, no_legs, more_legs, name, fresh, len, finish, merge, if_else, select}
use Rattle.weld_vertical.specs.Sinking.{is_consumer, fused}

abbrev place : Place
place = record { line = 0; column = 0 }

abbrev node : At
node = record { place = place; ty = Blank }

abbrev number : TypeTree
number = scalar I64

abbrev use_of : ℕ → ExprTree
use_of s = leaf node (name s)

abbrev binder : ℕ → Binder
binder s = record { sym = record { 0 = s }; place = place; note = None; note_place = place }

abbrev only : ExprTree → LegTrees
only e = more_legs (whole e) no_legs

-- `for(v1, vecbuilder[i64], |b2,i3,x4| body)`, or from another builder
abbrev making : BuildTree → ExprTree → ExprTree
making b body = loop node (only (use_of 1)) (leaf node (fresh b)) (binder 2) (binder 3) (binder 4) body

abbrev makes : ExprTree → ExprTree
makes body = one node finish (making (list number) body)

abbrev merges : ℕ → ExprTree → ExprTree
merges s v = two node merge (use_of s) v

-- `for(.., b5, |c6,j7,y8| merge(c6, v))`
abbrev consuming : ExprTree → LegTrees → ExprTree
consuming v ls = loop node ls (use_of 5) (binder 6) (binder 7) (binder 8) (merges 6 v)

-- `for(.., b5, |c6,j7,y8| merge(c6, j7))`, and with `y8`
abbrev consumer : LegTrees → ExprTree
consumer ls = consuming (use_of 7) ls

abbrev summing : LegTrees → ExprTree
summing ls = consuming (use_of 8) ls

-- `if(e, f, g)`
abbrev choice : ExprTree → ExprTree → ExprTree → ExprTree
choice e f g = three node if_else e f g

-- `if(v10, merge(b2, x4), b2)`
abbrev filters : ExprTree
filters = choice (use_of 10) (merges 2 (use_of 4)) (use_of 2)

-- ---- which are

one_merge : is_consumer (consumer (only (makes (merges 2 (use_of 4))))) ≡ true
one_merge = refl

behind_a_let : is_consumer (consumer (only (makes (let_in node (binder 9) (use_of 4) (merges 2 (use_of 9)))))) ≡ true
behind_a_let = refl

a_filter : is_consumer (summing (only (makes filters))) ≡ true
a_filter = refl

a_filter_mirrored : is_consumer (summing (only (makes (choice (use_of 10) (use_of 2) (merges 2 (use_of 4)))))) ≡ true
a_filter_mirrored = refl

a_filter_in_a_filter : is_consumer (summing (only (makes (choice (use_of 10) (let_in node (binder 9) (use_of 4) filters) (use_of 2))))) ≡ true
a_filter_in_a_filter = refl

-- the consumer names its row number
a_numbered_filter_stays : is_consumer (consumer (only (makes filters))) ≡ false
a_numbered_filter_stays = refl

a_merge_in_both_arms_stays : is_consumer (summing (only (makes (choice (use_of 10) (merges 2 (use_of 4)) (merges 2 (use_of 10)))))) ≡ false
a_merge_in_both_arms_stays = refl

no_merge_stays : is_consumer (summing (only (makes (choice (use_of 10) (use_of 2) (use_of 2))))) ≡ false
no_merge_stays = refl

a_selected_builder_stays : is_consumer (summing (only (makes (three node select (use_of 10) (merges 2 (use_of 4)) (use_of 2))))) ≡ false
a_selected_builder_stays = refl

another_builder_in_an_arm_stays : is_consumer (summing (only (makes (choice (use_of 10) (merges 2 (use_of 4)) (use_of 5))))) ≡ false
another_builder_in_an_arm_stays = refl

a_condition_of_the_builder_stays : is_consumer (summing (only (makes (choice (use_of 2) (merges 2 (use_of 4)) (use_of 2))))) ≡ false
a_condition_of_the_builder_stays = refl

a_started_filter_stays : is_consumer (summing (only (one node finish (loop node (only (use_of 1)) (use_of 5) (binder 2) (binder 3) (binder 4) filters)))) ≡ false
a_started_filter_stays = refl

two_merges_stay : is_consumer (consumer (only (makes (two node merge (merges 2 (use_of 4)) (use_of 4))))) ≡ false
two_merges_stay = refl

another_builder_stays : is_consumer (consumer (only (makes (merges 5 (use_of 4))))) ≡ false
another_builder_stays = refl

a_builder_used_besides_stays : is_consumer (consumer (only (makes (let_in node (binder 9) (merges 2 (use_of 4)) (merges 2 (use_of 9)))))) ≡ false
a_builder_used_besides_stays = refl

a_total_stays : is_consumer (consumer (only (one node finish (making (total number Add) (merges 2 (use_of 4)))))) ≡ false
a_total_stays = refl

a_started_builder_stays : is_consumer (consumer (only (one node finish (loop node (only (use_of 1)) (use_of 5) (binder 2) (binder 3) (binder 4) (merges 2 (use_of 4)))))) ≡ false
a_started_builder_stays = refl

its_length_stays : is_consumer (consumer (only (one node len (makes (merges 2 (use_of 4)))))) ≡ false
its_length_stays = refl

a_part_of_it_stays : is_consumer (consumer (more_legs (strided (makes (merges 2 (use_of 4))) (use_of 11) (use_of 12) (use_of 13)) no_legs)) ≡ false
a_part_of_it_stays = refl

beside_another_leg_stays : is_consumer (consumer (more_legs (whole (makes (merges 2 (use_of 4)))) (only (use_of 14)))) ≡ false
beside_another_leg_stays = refl

-- ---- what takes their place

-- `for(v1, b5, |c6,i3,x4| let z9 = x4; let j7 = i3; let y8 = z9; merge(c6, j7))`
both_as_one : fused (consumer (only (makes (let_in node (binder 9) (use_of 4) (merges 2 (use_of 9))))))
    ≡ loop node (only (use_of 1)) (use_of 5) (binder 6) (binder 3) (binder 4)
    (let_in node (binder 9) (use_of 4) (let_in node (binder 7) (leaf (record { place = place; ty = Is number }) (name 3)) (let_in node (binder 8) (use_of 9) (merges 6 (use_of 7)))))
both_as_one = refl

-- `for(v1, b5, |c6,i3,x4| if(v10, let j7 = i3; let y8 = x4; merge(c6, y8), c6))`
the_filter_as_one : fused (summing (only (makes filters)))
    ≡ loop node (only (use_of 1)) (use_of 5) (binder 6) (binder 3) (binder 4)
    (choice (use_of 10) (let_in node (binder 7) (leaf (record { place = place; ty = Is number }) (name 3)) (let_in node (binder 8) (use_of 4) (merges 6 (use_of 8)))) (use_of 6))
the_filter_as_one = refl
