-- Where a value is put in a name's place, another name that isn't used in the value is used as often as before.
use Rattle.std.proofs.Common.{◌≡◌, ◌≢◌, ℕ, ◌==◌, if◌then◌else◌, true, refl, sym, ◌∙◌, ◌⊎◌, inl, inr, eq-eqb, ne_eqb, arith}
use Rattle.std.proofs.lemmas.Bool.{cases_eq}
use Rattle.weld_tree.specs.ExprTree.{At, ExprTree, leaf, one, two, three, many, let_in, loop, iterate, ExprTrees, no_exprs, more_exprs, LegTree, whole, strided, LegTrees, no_legs, more_legs, Leaf, int, truth, chars, name, fresh}
use Rattle.weld_meaning.specs.Names.{put_in_leaf, put, put_in_all, put_in_leg, put_in_legs}
use Rattle.weld_substitution.specs.Uses.{uses, uses_in, uses_in_leg, uses_in_legs}
use Rattle.weld_vertical.specs.Sinking.{ends_in_merge}
use Rattle.weld_vertical.proofs.Spine.{ends_by}

leaf_uses : (a : At) (l : Leaf) (s : ℕ) (v : ExprTree) (t : ℕ) → t ≢ s → uses v t ≡ 0 → uses (put_in_leaf s v a l) t ≡ uses (leaf a l) t
leaf_uses a (int k x) s v t ne h = refl
leaf_uses a (truth b) s v t ne h = refl
leaf_uses a (chars bs) s v t ne h = refl
leaf_uses a (name x) s v t ne h = by (cases_eq s x)
  where
    by : (s ≡ x) ⊎ (s ≢ x) → uses (if s == x then v else leaf a (name x)) t ≡ (if t == x then 1 else 0)
    by (inl e) = rw (eq-eqb s x e) (rw (ne_eqb t x (λ k. ne (k ∙ sym e))) h)
    by (inr k) = rw (ne_eqb s x k) refl
leaf_uses a (fresh b) s v t ne h = refl

mutual
  pub uses_put : (e : ExprTree) (s : ℕ) (v : ExprTree) (t : ℕ) → t ≢ s → uses v t ≡ 0 → uses (put s v e) t ≡ uses e t
  uses_put (leaf a l) s v t ne h = leaf_uses a l s v t ne h
  uses_put (one a o e) s v t ne h = uses_put e s v t ne h
  uses_put (two a o e f) s v t ne h = omega (arith, uses_put e s v t ne h, uses_put f s v t ne h)
  uses_put (three a o c e f) s v t ne h = omega (arith, uses_put c s v t ne h, uses_put e s v t ne h, uses_put f s v t ne h)
  uses_put (many a o es) s v t ne h = uses_all_put es s v t ne h
  uses_put (let_in a b e f) s v t ne h = omega (arith, uses_put e s v t ne h, uses_put f s v t ne h)
  uses_put (loop a ls e b n x f) s v t ne h = omega (arith, uses_legs_put ls s v t ne h, uses_put e s v t ne h, uses_put f s v t ne h)
  uses_put (iterate a e b f) s v t ne h = omega (arith, uses_put e s v t ne h, uses_put f s v t ne h)

  uses_all_put : (es : ExprTrees) (s : ℕ) (v : ExprTree) (t : ℕ) → t ≢ s → uses v t ≡ 0 → uses_in (put_in_all s v es) t ≡ uses_in es t
  uses_all_put no_exprs s v t ne h = refl
  uses_all_put (more_exprs e es) s v t ne h = omega (arith, uses_put e s v t ne h, uses_all_put es s v t ne h)

  uses_leg_put : (l : LegTree) (s : ℕ) (v : ExprTree) (t : ℕ) → t ≢ s → uses v t ≡ 0 → uses_in_leg (put_in_leg s v l) t ≡ uses_in_leg l t
  uses_leg_put (whole e) s v t ne h = uses_put e s v t ne h
  uses_leg_put (strided e f i j) s v t ne h = omega (arith, uses_put e s v t ne h, uses_put f s v t ne h, uses_put i s v t ne h, uses_put j s v t ne h)

  uses_legs_put : (ls : LegTrees) (s : ℕ) (v : ExprTree) (t : ℕ) → t ≢ s → uses v t ≡ 0 → uses_in_legs (put_in_legs s v ls) t ≡ uses_in_legs ls t
  uses_legs_put no_legs s v t ne h = refl
  uses_legs_put (more_legs l ls) s v t ne h = omega (arith, uses_leg_put l s v t ne h, uses_legs_put ls s v t ne h)

-- lets that end in a merge into another name stay that
pub ends_put : (g : ExprTree) (s : ℕ) (v : ExprTree) (d : ℕ) → d ≢ s → ends_in_merge d g ≡ true → uses g d ≡ 1 → ends_in_merge d (put s v g) ≡ true
ends_put g s v d ne =
    ends_by d (λ g. ends_in_merge d (put s v g) ≡ true) (λ a z w h none k. k) (λ a c w none. rw (ne_eqb s d (λ k. ne (sym k))) (eq-eqb d d refl)) g
