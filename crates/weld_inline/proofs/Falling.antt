-- What the rule answers is lighter than the `let`.
use Rattle.std.proofs.Common.{◌≡◌, ℕ, ◌+◌, ◌*◌, ◌<◌, ◌==◌, if◌then◌else◌, Bool, true, false, ◌&&◌, ◌||◌, ◌⊎◌, inl, inr, Some, None, refl, ◌∙◌, ap, subst, arith}
use Rattle.weld_tree.specs.ExprTree.{At, ExprTree, leaf, one, two, three, many, let_in, loop, iterate, ExprTrees, no_exprs, more_exprs, LegTree, whole, strided, LegTrees, no_legs, more_legs, Leaf, int, truth, chars, name, fresh}
use Rattle.weld_meaning.specs.Names.{put_in_leaf, put, put_in_all, put_in_leg, put_in_legs}
use Rattle.weld_substitution.specs.Uses.{uses, uses_in, uses_in_leg, uses_in_legs}
use Rattle.weld_rewriting.specs.Weight.{weight, weight_in, weight_in_leg, weight_in_legs}
use Rattle.weld_substitution.specs.Redex.{is_field, is_chain, is_plain, is_used_well, stands, spot_of, is_redex}
use Rattle.weld_substitution.specs.declared.put_anywhere.spot.Spot.TheVariants.{Other}
use Rattle.weld_inline.specs.Inlining.{opened}
use Rattle.weld_inline.proofs.Once.{one_of}

-- ---- tests

both : (a b : Bool) → (a && b) ≡ true → (a ≡ true) × (b ≡ true)
both true b h = (refl, h)
both false b h = let wrong : ⊥ = cc in absurd wrong

either : (a b : Bool) → (a || b) ≡ true → (a ≡ true) ⊎ (b ≡ true)
either true b h = inl refl
either false b h = inr h

-- why a `let` is put in place
pub why : (s : ℕ) (v f : ExprTree) → (is_plain v || is_used_well s v f) ≡ true → (is_plain v ≡ true) ⊎ (is_used_well s v f ≡ true)
why s v f h = either (is_plain v) (is_used_well s v f) h

-- ---- the weight of what is put

leaf_weight : (a : At) (l : Leaf) (s : ℕ) (v : ExprTree) → weight (put_in_leaf s v a l) ≡ uses (leaf a l) s * weight v
leaf_weight a (int k x) s v = omega arith
leaf_weight a (truth b) s v = omega arith
leaf_weight a (chars bs) s v = omega arith
leaf_weight a (name t) s v = by (s == t)
  where
    by : (b : Bool) → weight (if b then v else leaf a (name t)) ≡ (if b then 1 else 0) * weight v
    by true = omega arith
    by false = omega arith
leaf_weight a (fresh b) s v = omega arith

mutual
  weight_put : (e : ExprTree) (s : ℕ) (v : ExprTree) → weight (put s v e) ≡ weight e + uses e s * weight v
  weight_put (leaf a l) s v = omega (arith, leaf_weight a l s v)
  weight_put (one a o e) s v = weight_put e s v
  weight_put (two a o e f) s v = omega (arith, weight_put e s v, weight_put f s v)
  weight_put (three a o c e f) s v = omega (arith, weight_put c s v, weight_put e s v, weight_put f s v)
  weight_put (many a o es) s v = weight_all_put es s v
  weight_put (let_in a b e f) s v = omega (arith, weight_put e s v, weight_put f s v)
  weight_put (loop a ls e b n x f) s v = omega (arith, weight_legs_put ls s v, weight_put e s v, weight_put f s v)
  weight_put (iterate a e b f) s v = omega (arith, weight_put e s v, weight_put f s v)

  weight_all_put : (es : ExprTrees) (s : ℕ) (v : ExprTree) → weight_in (put_in_all s v es) ≡ weight_in es + uses_in es s * weight v
  weight_all_put no_exprs s v = omega arith
  weight_all_put (more_exprs e es) s v = omega (arith, weight_put e s v, weight_all_put es s v)

  weight_leg_put : (l : LegTree) (s : ℕ) (v : ExprTree) → weight_in_leg (put_in_leg s v l) ≡ weight_in_leg l + uses_in_leg l s * weight v
  weight_leg_put (whole e) s v = weight_put e s v
  weight_leg_put (strided e f g h) s v = omega (arith, weight_put e s v, weight_put f s v, weight_put g s v, weight_put h s v)

  weight_legs_put : (ls : LegTrees) (s : ℕ) (v : ExprTree) → weight_in_legs (put_in_legs s v ls) ≡ weight_in_legs ls + uses_in_legs ls s * weight v
  weight_legs_put no_legs s v = omega arith
  weight_legs_put (more_legs l ls) s v = omega (arith, weight_leg_put l s v, weight_legs_put ls s v)

-- ---- plain values weigh nothing

chain_weight : (e : ExprTree) → is_chain e ≡ true → weight e ≡ 0
chain_weight (leaf a l) h = refl
chain_weight (one a o e) h = chain_weight e (both (is_field o) (is_chain e) h).1
chain_weight (two a o e f) h = let wrong : ⊥ = cc in absurd wrong
chain_weight (three a o c e f) h = let wrong : ⊥ = cc in absurd wrong
chain_weight (many a o es) h = let wrong : ⊥ = cc in absurd wrong
chain_weight (let_in a b e f) h = let wrong : ⊥ = cc in absurd wrong
chain_weight (loop a ls e b n x f) h = let wrong : ⊥ = cc in absurd wrong
chain_weight (iterate a e b f) h = let wrong : ⊥ = cc in absurd wrong

plain_weight : (e : ExprTree) → is_plain e ≡ true → weight e ≡ 0
plain_weight (leaf a l) h = refl
plain_weight (one a o e) h = chain_weight e (both (is_field o) (is_chain e) h).1
plain_weight (two a o e f) h = let wrong : ⊥ = cc in absurd wrong
plain_weight (three a o c e f) h = let wrong : ⊥ = cc in absurd wrong
plain_weight (many a o es) h = let wrong : ⊥ = cc in absurd wrong
plain_weight (let_in a b e f) h = let wrong : ⊥ = cc in absurd wrong
plain_weight (loop a ls e b n x f) h = let wrong : ⊥ = cc in absurd wrong
plain_weight (iterate a e b f) h = let wrong : ⊥ = cc in absurd wrong

-- ---- the rule

put_lighter : (s : ℕ) (v f : ExprTree) → (is_plain v ≡ true) ⊎ (is_used_well s v f ≡ true) → weight (put s v f) < 1 + weight v + weight f
put_lighter s v f (inl h) =
    let w : weight v ≡ 0 = plain_weight v h in
    let z : uses f s * weight v ≡ 0 = ap (λ n. uses f s * n) w ∙ omega arith in
    omega (arith, weight_put f s v)
put_lighter s v f (inr h) =
    let one_use : uses f s ≡ 1 = one_of (uses f s) (both (uses f s == 1) (stands v (spot_of s Other f)) h).0 in
    let z : uses f s * weight v ≡ weight v = ap (λ n. n * weight v) one_use ∙ omega arith in
    omega (arith, weight_put f s v)

pub lighter : (e : ExprTree) → is_redex e ≡ true → weight (opened e) < weight e
lighter (leaf a l) h = let wrong : ⊥ = cc in absurd wrong
lighter (one a o e) h = let wrong : ⊥ = cc in absurd wrong
lighter (two a o e f) h = let wrong : ⊥ = cc in absurd wrong
lighter (three a o c e f) h = let wrong : ⊥ = cc in absurd wrong
lighter (many a o es) h = let wrong : ⊥ = cc in absurd wrong
lighter (let_in a b v f) h = put_lighter b.sym.0 v f (why b.sym.0 v f h)
lighter (loop a ls e b n x f) h = let wrong : ⊥ = cc in absurd wrong
lighter (iterate a e b f) h = let wrong : ⊥ = cc in absurd wrong
