-- The one loop is lighter than both lets.
use Rattle.std.proofs.Common.{◌≡◌, ℕ, ◌+◌, ◌<◌, true, refl, sym, ap, subst}
use Rattle.weld_tree.specs.TypeTree.{TypeTree}
use Rattle.weld_tree.specs.ExprTree.{At, ExprTree, leaf, one, two, three, many, let_in, loop, iterate}
use Rattle.weld_rewriting.specs.Weight.{weight}
use Rattle.weld_substitution.proofs.Following.{and_true}
use Rattle.weld_types.specs.Tests.{is_within_limits}
use Rattle.weld_joining.specs.Beside.{Half, two_lets, side_by_side}
use Rattle.weld_joining.specs.Between.{brought_up}
use Rattle.weld_joining.specs.Joining.{is_pair, both_types, may_be_one, item_of, known_type, joined_neighbours, as_neighbours, joined_pair}
use Rattle.weld_joining.proofs.TakenApart.{answer_is}
use Rattle.weld_joining.proofs.Recognised.{pair_by}

-- the second `let` weighs the same before what stands between
neighbours_weight : ((e : ExprTree) → weight (brought_up e) ≡ weight e) → (e : ExprTree) → weight (as_neighbours e) ≡ weight e
neighbours_weight same (leaf a l) = refl
neighbours_weight same (one a o e) = refl
neighbours_weight same (two a o e f) = refl
neighbours_weight same (three a o c e f) = refl
neighbours_weight same (many a o es) = refl
neighbours_weight same (let_in a x v f) = ap (λ n. 1 + weight v + n) (same f)
neighbours_weight same (loop a ls e b n x f) = refl
neighbours_weight same (iterate a e b f) = refl

pub lighter : ((a m : At) (s : ℕ) (row : TypeTree) (h k : Half) (rest : ExprTree) → weight (side_by_side a m s row h k rest) < weight (two_lets a m s h k rest)) → ((e : ExprTree) → weight (brought_up e) ≡ weight e)
    → (e : ExprTree) → may_be_one e ≡ true → weight (joined_pair e) < weight e
lighter law same e test =
    subst (λ n. weight (joined_pair e) < n) (neighbours_weight same e)
    (pair_by (λ e. weight (joined_neighbours e) < weight e)
    (λ a m s row h k rest known first second none.
    subst (λ d. weight d < weight (two_lets a m s h k rest)) (sym (answer_is a m s h k rest (ap known_type first) (ap known_type second))) (law a m s (item_of h.leg_at.ty) h k rest)) e
    (and_true (is_pair e) (is_within_limits (both_types e)) test).0)
