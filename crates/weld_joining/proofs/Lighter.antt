-- The one loop is lighter than both lets.
use Rattle.std.proofs.Common.{◌≡◌, ℕ, ◌+◌, ◌<◌, ◌==◌, if◌then◌else◌, Bool, true, false, refl, ◌∙◌, arith}
use Rattle.weld_data.specs.declared.kind.Kind.TheVariants as kinds
use Rattle.weld_tree.specs.TypeTree.{TypeTree, scalar}
use Rattle.weld_tree.specs.ExprTree.{At, ExprTree, leaf, one, two, three, many, let_in, loop, iterate, ExprTrees, no_exprs, more_exprs, LegTree, whole, strided, LegTrees, no_legs, more_legs, Leaf, int, truth, chars, name, fresh}
use Rattle.weld_meaning.specs.Names.{put_in_leaf, put, put_in_all, put_in_leg, put_in_legs}
use Rattle.weld_rewriting.specs.Weight.{weight, weight_in, weight_in_leg, weight_in_legs}
use Rattle.weld_joining.specs.Beside.{Half, half_loop, two_lets, node_of, both_builders, builder_field, second_body, side_by_side}
use Rattle.weld_joining.proofs.Finishing.{finish_weight}

-- ---- what weighs nothing, put for a name

leaf_weight : (a : At) (l : Leaf) (s : ℕ) (v : ExprTree) → weight v ≡ 0 → weight (put_in_leaf s v a l) ≡ 0
leaf_weight a (int k x) s v h = refl
leaf_weight a (truth b) s v h = refl
leaf_weight a (chars bs) s v h = refl
leaf_weight a (name t) s v h = by (s == t)
  where
    by : (b : Bool) → weight (if b then v else leaf a (name t)) ≡ 0
    by true = h
    by false = refl
leaf_weight a (fresh b) s v h = refl

mutual
  pub weight_put : (e : ExprTree) (s : ℕ) (v : ExprTree) → weight v ≡ 0 → weight (put s v e) ≡ weight e
  weight_put (leaf a l) s v h = leaf_weight a l s v h
  weight_put (one a o e) s v h = weight_put e s v h
  weight_put (two a o e f) s v h = omega (arith, weight_put e s v h, weight_put f s v h)
  weight_put (three a o c e f) s v h = omega (arith, weight_put c s v h, weight_put e s v h, weight_put f s v h)
  weight_put (many a o es) s v h = weight_all_put es s v h
  weight_put (let_in a b e f) s v h = omega (arith, weight_put e s v h, weight_put f s v h)
  weight_put (loop a ls e b n x f) s v h = omega (arith, weight_legs_put ls s v h, weight_put e s v h, weight_put f s v h)
  weight_put (iterate a e b f) s v h = omega (arith, weight_put e s v h, weight_put f s v h)

  weight_all_put : (es : ExprTrees) (s : ℕ) (v : ExprTree) → weight v ≡ 0 → weight_in (put_in_all s v es) ≡ weight_in es
  weight_all_put no_exprs s v h = refl
  weight_all_put (more_exprs e es) s v h = omega (arith, weight_put e s v h, weight_all_put es s v h)

  weight_leg_put : (l : LegTree) (s : ℕ) (v : ExprTree) → weight v ≡ 0 → weight_in_leg (put_in_leg s v l) ≡ weight_in_leg l
  weight_leg_put (whole e) s v h = weight_put e s v h
  weight_leg_put (strided e f g i) s v h = omega (arith, weight_put e s v h, weight_put f s v h, weight_put g s v h, weight_put i s v h)

  weight_legs_put : (ls : LegTrees) (s : ℕ) (v : ExprTree) → weight v ≡ 0 → weight_in_legs (put_in_legs s v ls) ≡ weight_in_legs ls
  weight_legs_put no_legs s v h = refl
  weight_legs_put (more_legs l ls) s v h = omega (arith, weight_leg_put l s v h, weight_legs_put ls s v h)

-- ---- the one loop

pub lighter : (a m : At) (s : ℕ) (row : TypeTree) (h k : Half) (rest : ExprTree) → weight (side_by_side a m s row h k rest) < weight (two_lets a m s h k rest)
lighter a m s row h k rest =
    let row_name : ExprTree = leaf (node_of a.place row) (name h.row.sym.0) in
    let number_name : ExprTree = leaf (node_of a.place (scalar kinds.I64)) (name h.number.sym.0) in
    let same : weight (second_body a.place row h k) ≡ weight k.body = weight_put (put k.row.sym.0 row_name k.body) k.number.sym.0 number_name refl ∙ weight_put k.body k.row.sym.0 row_name refl in
    omega (
      arith,
      same,
      finish_weight h.result_at (half_loop s h),
      finish_weight k.result_at (half_loop s k),
      finish_weight h.result_at (builder_field a.place (both_builders h k) 0 h.starts k.number.sym.0),
      finish_weight k.result_at (builder_field a.place (both_builders h k) 1 k.starts k.number.sym.0),
    )
