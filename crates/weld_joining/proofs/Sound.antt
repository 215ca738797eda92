-- The one loop may take the place of both lets.
use Rattle.std.proofs.Common.{◌≡◌, ℕ, Option, Some, None, true, refl, sym, ap, subst, arith}
use Rattle.weld_tree.specs.TypeTree.{TypeTree}
use Rattle.weld_tree.specs.ExprTree.{At, ExprTree, leaf, one, two, three, many, let_in, loop, iterate}
use Rattle.weld_meaning.specs.Names.{IsFree, put}
use Rattle.weld_rewriting.specs.Shape.{IsCongruence}
use Rattle.weld_rewriting.specs.Tidy.{IsTidy}
use Rattle.weld_rewriting.specs.Rewriting.{Rewrites}
use Rattle.weld_rewriting.proofs.Rewriting.{rewrites_itself, rewrites_in_turn}
use Rattle.weld_rewriting.proofs.Tidying.{parts_tidy, within_tidy}
use Rattle.weld_substitution.specs.Uses.{uses}
use Rattle.weld_substitution.proofs.Following.{and_true}
use Rattle.weld_types.specs.Tests.{is_within_limits}
use Rattle.weld_joining.specs.Beside.{finish_at, Half, half_loop, half_value, two_lets, MayJoin, side_by_side}
use Rattle.weld_joining.specs.Between.{brought_up, may_come_up}
use Rattle.weld_joining.proofs.Rising.{not_free}
use Rattle.weld_joining.specs.Joining.{is_pair, both_types, may_be_one, item_of, known_type, joined_neighbours, as_neighbours, joined_pair}
use Rattle.weld_joining.proofs.TakenApart.{answer_is}
use Rattle.weld_joining.proofs.Recognised.{follows, pair_by}

finish_uses : (r : Option At) (e : ExprTree) (s : ℕ) → uses (finish_at r e) s ≡ uses e s
finish_uses None e s = refl
finish_uses (Some a) e s = refl

-- ---- what stands between

-- the second `let` before other lets
abbrev pub ComesUp : Type 0
ComesUp = (e : ExprTree) → IsTidy e → may_come_up e ≡ true → Rewrites (brought_up e) e

neighbours_rewrite : IsCongruence Rewrites → ComesUp → (e : ExprTree) → IsTidy e → is_pair e ≡ true → Rewrites (as_neighbours e) e
neighbours_rewrite through comes (leaf a l) tidy h = rewrites_itself (leaf a l)
neighbours_rewrite through comes (one a o e) tidy h = rewrites_itself (one a o e)
neighbours_rewrite through comes (two a o e f) tidy h = rewrites_itself (two a o e f)
neighbours_rewrite through comes (three a o c e f) tidy h = rewrites_itself (three a o c e f)
neighbours_rewrite through comes (many a o es) tidy h = rewrites_itself (many a o es)
neighbours_rewrite through comes (let_in a x v f) tidy h =
    through.at_let a x v (brought_up f) v f (rewrites_itself v) (comes f (parts_tidy (let_in a x v f) tidy).1 (follows x v f h).1)
neighbours_rewrite through comes (loop a ls e b n x f) tidy h = rewrites_itself (loop a ls e b n x f)
neighbours_rewrite through comes (iterate a e b f) tidy h = rewrites_itself (iterate a e b f)

-- ---- both

module _ (unused : (e v : ExprTree) (s : ℕ) → uses e s ≡ 0 → put s v e ≡ e) where
  -- the law on two neighbouring lets
  abbrev Law : Type 0
  Law = (a m : At) (s : ℕ) (row : TypeTree) (h k : Half) (rest : ExprTree) → MayJoin row h k → IsTidy (two_lets a m s h k rest) → Rewrites (side_by_side a m s row h k rest) (two_lets a m s h k rest)

  -- what the whole value doesn't use, its start and its body don't name
  unnamed : (a : At) (s t : ℕ) (k : Half) → uses (half_value s k) t ≡ 0 → (IsFree k.start t → ⊥) × (IsFree k.body t → ⊥)
  unnamed a s t k none =
      let same : uses (half_value s k) t ≡ uses (half_loop s k) t = finish_uses k.result_at (half_loop s k) t in
      (not_free unused a k.start t (omega (arith, none, same)), not_free unused a k.body t (omega (arith, none, same)))

  joined_rewrite : Law → (e : ExprTree) → IsTidy (as_neighbours e) → is_pair e ≡ true → Rewrites (joined_pair e) (as_neighbours e)
  joined_rewrite law e tidy test =
      pair_by (λ e. IsTidy e → Rewrites (joined_neighbours e) e)
      (λ a m s row h k rest known first second none tidy.
      let free = unnamed a s h.bound.sym.0 k none in
      let may : MayJoin row h k = record { row_noted = known; first_starts = first; second_starts = second; start_unnamed = free.0; unnamed = free.1 } in
      let item : item_of h.leg_at.ty ≡ row = ap item_of known in
      subst (λ d. Rewrites d (two_lets a m s h k rest)) (sym (answer_is a m s h k rest (ap known_type first) (ap known_type second)))
      (subst (λ t. Rewrites (side_by_side a m s t h k rest) (two_lets a m s h k rest)) (sym item) (law a m s row h k rest may tidy)))
      e test tidy

  pub rewrites : Law → IsCongruence Rewrites → ComesUp → (e : ExprTree) → IsTidy e → may_be_one e ≡ true → Rewrites (joined_pair e) e
  rewrites law through comes e tidy test =
      let pair = (and_true (is_pair e) (is_within_limits (both_types e)) test).0 in
      let near : Rewrites (as_neighbours e) e = neighbours_rewrite through comes e tidy pair in
      rewrites_in_turn (joined_pair e) (as_neighbours e) e (joined_rewrite law e (within_tidy (as_neighbours e) e near.within tidy) pair) near
