-- In a tidy `let` no binder of the body hides the name, or catches a name of the value.
use Rattle.std.proofs.Common.{ℕ, List, [], ◌∷◌, ◌++◌, refl, sym, subst, inl, inr}
use Rattle.weld_tree.specs.declared.binder.Binder.{Binder}
use Rattle.weld_tree.specs.ExprTree.{At, ExprTree, leaf, one, two, three, many, let_in, loop, iterate, ExprTrees, no_exprs, more_exprs, LegTree, whole, strided, LegTrees, no_legs, more_legs}
use Rattle.weld_tree.specs.Program.{bound, bound_in, bound_in_leg, bound_in_legs, IsOneOf}
use Rattle.weld_meaning.specs.Names.{IsFree, Binds, AllBind, LegBinds, LegsBind, IsClear}
use Rattle.weld_rewriting.specs.Tidy.{IsTidy}

pub first_of : (xs ys : List ℕ) (s : ℕ) → IsOneOf xs s → IsOneOf (xs ++ ys) s
first_of [] ys s h = absurd h
first_of (x ∷ xs) ys s (inl e) = inl e
first_of (x ∷ xs) ys s (inr h) = inr (first_of xs ys s h)

pub second_of : (xs ys : List ℕ) (s : ℕ) → IsOneOf ys s → IsOneOf (xs ++ ys) s
second_of [] ys s h = h
second_of (x ∷ xs) ys s h = inr (second_of xs ys s h)

mutual
  pub binds_each : (e : ExprTree) (P : ℕ → Type 0) → ((s : ℕ) → IsOneOf (bound e) s → P s) → Binds P e
  binds_each (leaf a l) P h = tt
  binds_each (one a o e) P h = binds_each e P h
  binds_each (two a o e f) P h = (binds_each e P (λ s x. h s (first_of (bound e) (bound f) s x)), binds_each f P (λ s x. h s (second_of (bound e) (bound f) s x)))
  binds_each (three a o e f g) P h = (
    binds_each e P (λ s x. h s (first_of (bound e) (bound f ++ bound g) s x)),
    binds_each f P (λ s x. h s (second_of (bound e) (bound f ++ bound g) s (first_of (bound f) (bound g) s x))),
    binds_each g P (λ s x. h s (second_of (bound e) (bound f ++ bound g) s (second_of (bound f) (bound g) s x))),
  )
  binds_each (many a o es) P h = all_bind_each es P h
  binds_each (let_in a b e f) P h = (
    h b.sym.0 (inl refl),
    binds_each e P (λ s x. h s (inr (first_of (bound e) (bound f) s x))),
    binds_each f P (λ s x. h s (inr (second_of (bound e) (bound f) s x))),
  )
  binds_each (loop a ls e b n x f) P h =
      let later : (s : ℕ) → IsOneOf (b.sym.0 ∷ n.sym.0 ∷ x.sym.0 ∷ bound f) s → P s =
      λ s y. h s (second_of (bound_in_legs ls) (bound e ++ (b.sym.0 ∷ n.sym.0 ∷ x.sym.0 ∷ bound f)) s (second_of (bound e) (b.sym.0 ∷ n.sym.0 ∷ x.sym.0 ∷ bound f) s y)) in (
        later b.sym.0 (inl refl),
        later n.sym.0 (inr (inl refl)),
        later x.sym.0 (inr (inr (inl refl))),
        legs_bind_each ls P (λ s y. h s (first_of (bound_in_legs ls) (bound e ++ (b.sym.0 ∷ n.sym.0 ∷ x.sym.0 ∷ bound f)) s y)),
        binds_each e P (λ s y. h s (second_of (bound_in_legs ls) (bound e ++ (b.sym.0 ∷ n.sym.0 ∷ x.sym.0 ∷ bound f)) s (first_of (bound e) (b.sym.0 ∷ n.sym.0 ∷ x.sym.0 ∷ bound f) s y))),
        binds_each f P (λ s y. later s (inr (inr (inr y)))),
      )
  binds_each (iterate a e b f) P h = (
    h b.sym.0 (second_of (bound e) (b.sym.0 ∷ bound f) b.sym.0 (inl refl)),
    binds_each e P (λ s x. h s (first_of (bound e) (b.sym.0 ∷ bound f) s x)),
    binds_each f P (λ s x. h s (second_of (bound e) (b.sym.0 ∷ bound f) s (inr x))),
  )

  all_bind_each : (es : ExprTrees) (P : ℕ → Type 0) → ((s : ℕ) → IsOneOf (bound_in es) s → P s) → AllBind P es
  all_bind_each no_exprs P h = tt
  all_bind_each (more_exprs e es) P h =
      (binds_each e P (λ s x. h s (first_of (bound e) (bound_in es) s x)), all_bind_each es P (λ s x. h s (second_of (bound e) (bound_in es) s x)))

  leg_binds_each : (l : LegTree) (P : ℕ → Type 0) → ((s : ℕ) → IsOneOf (bound_in_leg l) s → P s) → LegBinds P l
  leg_binds_each (whole e) P h = binds_each e P h
  leg_binds_each (strided e f i j) P h = (
    binds_each e P (λ s x. h s (first_of (bound e) (bound f ++ (bound i ++ bound j)) s x)),
    binds_each f P (λ s x. h s (second_of (bound e) (bound f ++ (bound i ++ bound j)) s (first_of (bound f) (bound i ++ bound j) s x))),
    binds_each i P (λ s x. h s (second_of (bound e) (bound f ++ (bound i ++ bound j)) s (second_of (bound f) (bound i ++ bound j) s (first_of (bound i) (bound j) s x)))),
    binds_each j P (λ s x. h s (second_of (bound e) (bound f ++ (bound i ++ bound j)) s (second_of (bound f) (bound i ++ bound j) s (second_of (bound i) (bound j) s x)))),
  )

  legs_bind_each : (ls : LegTrees) (P : ℕ → Type 0) → ((s : ℕ) → IsOneOf (bound_in_legs ls) s → P s) → LegsBind P ls
  legs_bind_each no_legs P h = tt
  legs_bind_each (more_legs l ls) P h =
      (leg_binds_each l P (λ s x. h s (first_of (bound_in_leg l) (bound_in_legs ls) s x)), legs_bind_each ls P (λ s x. h s (second_of (bound_in_leg l) (bound_in_legs ls) s x)))

-- the name isn't free in the value
pub own_name : (a : At) (b : Binder) (v f : ExprTree) → IsTidy (let_in a b v f) → IsFree v b.sym.0 → ⊥
own_name a b v f h k = h.apart b.sym.0 (inl refl) (inl k)

distinct_later : (xs ys : List ℕ) (s : ℕ) → ¬ (IsOneOf (xs ++ ys) s) → ¬ (IsOneOf ys s)
distinct_later xs ys s nf h = nf (second_of xs ys s h)

pub clear_of : (a : At) (b : Binder) (v f : ExprTree) → IsTidy (let_in a b v f) → Binds (IsClear b.sym.0 v) f
clear_of a b v f h = binds_each f (IsClear b.sym.0 v) (λ s x. (
  (λ e. distinct_later (bound v) (bound f) b.sym.0 h.distinct.0 (subst (IsOneOf (bound f)) (sym e) x)),
  (λ k. h.apart s (inr (second_of (bound v) (bound f) s x)) (inl k)),
))
