-- Putting a value in a name's place is a sweep.
use Rattle.std.proofs.Common.{◌≡◌, ℕ, ◌==◌, if◌then◌else◌, Bool, true, false, Some, None, refl}
use Rattle.weld_tree.specs.ExprTree.{At, ExprTree, leaf, one, two, three, many, let_in, loop, iterate, ExprTrees, no_exprs, more_exprs, LegTree, whole, strided, LegTrees, no_legs, more_legs, Leaf, int, truth, chars, name, fresh}
use Rattle.weld_meaning.specs.Names.{put_in_leaf, put, put_in_all, put_in_leg, put_in_legs}
use Rattle.weld_rewriting.specs.Sweep.{or_same, settled, swept, all_swept, leg_swept, legs_swept}
use Rattle.weld_substitution.specs.Uses.{use_rule}

chosen : (b : Bool) (v e : ExprTree) → or_same (if b then Some v else None) e ≡ (if b then v else e)
chosen true v e = refl
chosen false v e = refl

leaf_is : (s : ℕ) (v : ExprTree) (a : At) (l : Leaf) → settled (use_rule s v) (leaf a l) ≡ put_in_leaf s v a l
leaf_is s v a (int k x) = refl
leaf_is s v a (truth b) = refl
leaf_is s v a (chars bs) = refl
leaf_is s v a (name t) = chosen (s == t) v (leaf a (name t))
leaf_is s v a (fresh b) = refl

mutual
  pub put_is : (e : ExprTree) (s : ℕ) (v : ExprTree) → swept (use_rule s v) e ≡ put s v e
  put_is (leaf a l) s v = leaf_is s v a l
  put_is (one a o e) s v = λ i. one a o (put_is e s v i)
  put_is (two a o e f) s v = λ i. two a o (put_is e s v i) (put_is f s v i)
  put_is (three a o c e f) s v = λ i. three a o (put_is c s v i) (put_is e s v i) (put_is f s v i)
  put_is (many a o es) s v = λ i. many a o (all_put es s v i)
  put_is (let_in a b e f) s v = λ i. let_in a b (put_is e s v i) (put_is f s v i)
  put_is (loop a ls e b n x f) s v = λ i. loop a (legs_put ls s v i) (put_is e s v i) b n x (put_is f s v i)
  put_is (iterate a e b f) s v = λ i. iterate a (put_is e s v i) b (put_is f s v i)

  all_put : (es : ExprTrees) (s : ℕ) (v : ExprTree) → all_swept (use_rule s v) es ≡ put_in_all s v es
  all_put no_exprs s v = refl
  all_put (more_exprs e es) s v = λ i. more_exprs (put_is e s v i) (all_put es s v i)

  leg_put : (l : LegTree) (s : ℕ) (v : ExprTree) → leg_swept (use_rule s v) l ≡ put_in_leg s v l
  leg_put (whole e) s v = λ i. whole (put_is e s v i)
  leg_put (strided e f h k) s v = λ i. strided (put_is e s v i) (put_is f s v i) (put_is h s v i) (put_is k s v i)

  legs_put : (ls : LegTrees) (s : ℕ) (v : ExprTree) → legs_swept (use_rule s v) ls ≡ put_in_legs s v ls
  legs_put no_legs s v = refl
  legs_put (more_legs l ls) s v = λ i. more_legs (leg_put l s v i) (legs_put ls s v i)
