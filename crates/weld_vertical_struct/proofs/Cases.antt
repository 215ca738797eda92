-- Small loops over what loops make that hold their builder in a pair, by which the definitions are checked: which are, which stay,
-- and what takes their place.
use Rattle.std.proofs.Common.{◌≡◌, ℕ, true, false, None, refl}
use Rattle.weld_data.specs.declared.kind.Kind.TheVariants.{I64}
use Rattle.weld_data.specs.declared.op.MergeOp.TheVariants.{Add}
use Rattle.weld_tree.specs.declared.binder.Binder.{Binder}
use Rattle.weld_tree.specs.declared.known.Known.TheVariants.{Blank, Is}
use Rattle.weld_tree.specs.declared.place.Place.{Place}
use Rattle.weld_tree.specs.TypeTree.{TypeTree, scalar, list, total}
use Rattle.weld_tree.specs.ExprTree.{At, ExprTree, leaf, one, two, three, many, let_in, loop, no_exprs, more_exprs, whole, LegTrees, no_legs, more_legs, name, fresh, field, finish, merge, if_else, make_struct}
use Rattle.weld_vertical.specs.Sinking.{is_consumer}
use Rattle.weld_vertical_struct.specs.Parting.{opened}
use Rattle.weld_vertical_struct.specs.Held.{is_held, held_fused}

abbrev place : Place
place = record { line = 0; column = 0 }

abbrev node : At
node = record { place = place; ty = Blank }

abbrev number : TypeTree
number = scalar I64

abbrev use_of : ℕ → ExprTree
use_of s = leaf node (name s)

abbrev binder : ℕ → Binder
binder s = record { sym = record { 0 = s }; place = place; note = None; note_place = place }

abbrev only : ExprTree → LegTrees
only e = more_legs (whole e) no_legs

abbrev pair : ExprTree → ExprTree → ExprTree
pair e f = many node make_struct (more_exprs e (more_exprs f no_exprs))

abbrev part : ℕ → ℕ → ExprTree
part s n = one node (field n) (use_of s)

abbrev sum : ExprTree
sum = leaf node (fresh (total number Add))

abbrev merged : ExprTree → ExprTree → ExprTree
merged e v = two node merge e v

-- `result(for(v1, vecbuilder[i64], |b2,i3,x4| body))`
abbrev makes : ExprTree → ExprTree
makes body = one node finish (loop node (only (use_of 1)) (leaf node (fresh (list number))) (binder 2) (binder 3) (binder 4) body)

-- `for(that, b5, |c6,j7,y8| merge(c6, y8))`
abbrev summing : ExprTree → ExprTree
summing body = loop node (only (makes body)) (use_of 5) (binder 6) (binder 7) (binder 8) (merged (use_of 6) (use_of 8))

-- `let s9 = pair; body`
abbrev behind : ExprTree → ExprTree → ExprTree
behind p body = let_in node (binder 9) p body

-- `let t10 = merge(s9.$m, x4); merge(s9.$n, result(t10))`
abbrev sums : ℕ → ℕ → ExprTree
sums m n = let_in node (binder 10) (merged (part 9 m) (use_of 4)) (merged (part 9 n) (one node finish (use_of 10)))

-- ---- which are

the_builder_first : is_held (summing (behind (pair (use_of 2) sum) (sums 1 0))) ≡ true
the_builder_first = refl

the_builder_second : is_held (summing (behind (pair sum (use_of 2)) (sums 0 1))) ≡ true
the_builder_second = refl

no_loop_over_a_loop_yet : is_consumer (summing (behind (pair (use_of 2) sum) (sums 1 0))) ≡ false
no_loop_over_a_loop_yet = refl

in_an_arm : is_held (summing (three node if_else (use_of 11) (behind (pair (use_of 2) sum) (sums 1 0)) (use_of 2))) ≡ true
in_an_arm = refl

-- `let s9 = {b2, merger}; let t12 = {merge(s9.$1, x4), s9.$0}; merge(t12.$1, result(t12.$0))`
a_pair_of_a_pairs_parts : is_held (summing (behind (pair (use_of 2) sum) (let_in node (binder 12) (pair (merged (part 9 1) (use_of 4)) (part 9 0)) (merged (part 12 1) (one node finish (part 12 0)))))) ≡ true
a_pair_of_a_pairs_parts = refl

-- `let s9 = {merge(b2, x4), merger}; let t10 = result(s9.$1); s9.$0`
no_name_in_the_pair : is_held (summing (behind (pair (merged (use_of 2) (use_of 4)) sum) (let_in node (binder 10) (one node finish (part 9 1)) (part 9 0)))) ≡ true
no_name_in_the_pair = refl

the_merge_second : is_held (summing (behind (pair sum (merged (use_of 2) (use_of 4))) (let_in node (binder 10) (one node finish (part 9 0)) (part 9 1)))) ≡ true
the_merge_second = refl

-- ---- which stay

a_merge_in_two_arms_stays : is_held (summing (behind (pair (merged (use_of 2) (use_of 4)) sum) (let_in node (binder 10) (one node finish (part 9 1)) (three node if_else (use_of 11) (part 9 0) (part 9 0))))) ≡ false
a_merge_in_two_arms_stays = refl

the_whole_pair_stays : is_held (summing (behind (pair (use_of 2) sum) (let_in node (binder 12) (use_of 9) (merged (part 12 0) (one node finish (part 12 1)))))) ≡ false
the_whole_pair_stays = refl

a_name_used_besides_stays : is_held (summing (behind (pair (use_of 2) sum) (let_in node (binder 10) (use_of 2) (sums 1 0)))) ≡ false
a_name_used_besides_stays = refl

a_part_of_a_part_stays : is_held (summing (behind (pair (use_of 2) (pair sum sum)) (let_in node (binder 10) (merged (one node (field 0) (part 9 1)) (use_of 4)) (merged (part 9 0) (one node finish (use_of 10)))))) ≡ false
a_part_of_a_part_stays = refl

a_pair_in_a_lambda_stays : is_held (summing (behind (pair (use_of 2) sum) (let_in node (binder 13) (loop node (only (use_of 1)) sum (binder 14) (binder 15) (binder 16) (part 9 1)) (merged (part 9 0) (use_of 4))))) ≡ false
a_pair_in_a_lambda_stays = refl

a_third_field_stays : is_held (summing (behind (many node make_struct (more_exprs (use_of 2) (more_exprs sum (more_exprs sum no_exprs)))) (sums 1 0))) ≡ false
a_third_field_stays = refl

two_merges_stay : is_held (summing (behind (pair (use_of 2) sum) (merged (merged (part 9 0) (use_of 4)) (one node finish (part 9 1))))) ≡ false
two_merges_stay = refl

a_pair_out_of_an_if_stays : is_held (summing (behind (three node if_else (use_of 11) (pair (use_of 2) (use_of 12)) (pair (use_of 2) (use_of 12))) (sums 1 0))) ≡ false
a_pair_out_of_an_if_stays = refl

-- ---- what takes their place

-- `for(v1, b5, |c6,i3,x4| let s9 = merger; let t10 = merge(s9, x4); let j7 = i3; let y8 = result(t10); merge(c6, y8))`
both_as_one : held_fused (summing (behind (pair (use_of 2) sum) (sums 1 0)))
    ≡ loop node (only (use_of 1)) (use_of 5) (binder 6) (binder 3) (binder 4)
    (behind sum (let_in node (binder 10) (merged (use_of 9) (use_of 4))
    (let_in node (binder 7) (leaf (record { place = place; ty = Is number }) (name 3)) (let_in node (binder 8) (one node finish (use_of 10)) (merged (use_of 6) (use_of 8))))))
both_as_one = refl

-- `let s9 = merger; let t10 = merge(s9, x4); merge(b2, result(t10))`
taken_apart : opened 2 8 3 (behind (pair (use_of 2) sum) (sums 1 0)) ≡ behind sum (let_in node (binder 10) (merged (use_of 9) (use_of 4)) (merged (use_of 2) (one node finish (use_of 10))))
taken_apart = refl
