-- Small loops, by which the definitions are checked: which are of the sized form, and the order of the marks.
use Rattle.std.proofs.Common.{◌≡◌, true, false, [], ◌∷◌, refl}
use Rattle.weld_data.specs.declared.kind.Kind.TheVariants.{I64}
use Rattle.weld_data.specs.declared.op.MergeOp.TheVariants.{Add}
use Rattle.weld_tree.specs.declared.binder.Binder.{Binder}
use Rattle.weld_tree.specs.declared.known.Known.TheVariants.{Blank}
use Rattle.weld_tree.specs.declared.place.Place.{Place}
use Rattle.weld_tree.specs.TypeTree.{scalar, list, total}
use Rattle.weld_tree.specs.ExprTree.{At, ExprTree, leaf, one, two, three, many, let_in, loop, more_exprs, no_exprs, whole, no_legs, more_legs, name, fresh, field, finish, merge, if_else, make_struct}
use Rattle.std.specs.Prelude.{ℕ, None}
use Rattle.weld_sizes.specs.Sized.{has_sized_form, sized_marks}

abbrev place : Place
place = record { line = 0; column = 0 }

abbrev node : At
node = record { place = place; ty = Blank }

abbrev binder : ℕ → Binder
binder s = record { sym = record { 0 = s }; place = place; note = None; note_place = place }

abbrev named : ℕ → ExprTree
named s = leaf node (name s)

abbrev a_list : ExprTree
a_list = leaf node (fresh (list (scalar I64)))

abbrev a_sum : ExprTree
a_sum = leaf node (fresh (total (scalar I64) Add))

abbrev merged : ExprTree → ExprTree → ExprTree
merged b v = two node merge b v

-- the loop over v9 from the builder, with the binders b1, i2, x3
abbrev over : ExprTree → ExprTree → ExprTree
over e f = loop node (more_legs (whole (named 9)) no_legs) e (binder 1) (binder 2) (binder 3) f

a_map : has_sized_form (over a_list (merged (named 1) (named 3))) ≡ true
a_map = refl

behind_a_let : has_sized_form (over a_list (let_in node (binder 4) (named 3) (merged (named 1) (named 4)))) ≡ true
behind_a_let = refl

in_both_arms : has_sized_form (over a_list (three node if_else (named 3) (merged (named 1) (named 3)) (merged (named 1) (named 2)))) ≡ true
in_both_arms = refl

a_filter_is_not : has_sized_form (over a_list (three node if_else (named 3) (merged (named 1) (named 3)) (named 1))) ≡ false
a_filter_is_not = refl

a_sum_is_not : has_sized_form (over a_sum (merged (named 1) (named 3))) ≡ false
a_sum_is_not = refl

two_merges_are_not : has_sized_form (over a_list (merged (merged (named 1) (named 3)) (named 3))) ≡ false
two_merges_are_not = refl

another_name_is_not : has_sized_form (over a_list (merged (named 7) (named 3))) ≡ false
another_name_is_not = refl

a_named_list_is_not : has_sized_form (over (named 7) (merged (named 1) (named 3))) ≡ false
a_named_list_is_not = refl

two_lists_are_not : has_sized_form (over (many node make_struct (more_exprs a_list (more_exprs a_list no_exprs))) (merged (one node (field 0) (named 1)) (named 3))) ≡ false
two_lists_are_not = refl

-- the outer loop first, then what its body holds
within : sized_marks (over a_sum (merged (named 1) (one node finish (over a_list (merged (named 1) (named 3)))))) ≡ false ∷ (true ∷ [])
within = refl
