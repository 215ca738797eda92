-- Sweeps with a rule that makes lighter.
use Rattle.std.proofs.Common.{◌≡◌, ℕ, zero, suc, ◌+◌, ◌≤◌, ◌<◌, Bool, true, false, ◌||◌, Option, Some, None, is_some, refl, sym, ◌∙◌, ap, arith}
use Rattle.weld_tree.specs.ExprTree.{ExprTree, leaf, one, two, three, many, let_in, loop, iterate, ExprTrees, no_exprs, more_exprs, LegTree, whole, strided, LegTrees, no_legs, more_legs}
use Rattle.weld_rewriting.specs.Nodes.{EachOfAll, EachOfLeg, EachOfLegs}
use Rattle.weld_rewriting.specs.Sweep.{RootRule, or_same, settled, swept, all_swept, leg_swept, legs_swept, matches, moves, some_move, leg_moves, legs_move, swept_times, IsNoMatch, IsStill}
use Rattle.weld_rewriting.specs.Weight.{weight, weight_in, weight_in_leg, weight_in_legs}
use Rattle.weld_rewriting.specs.Rules.{Falls}

-- ---- what of two

both_false : (a b : Bool) → (a || b) ≡ false → (a ≡ false) × (b ≡ false)
both_false true b h = let wrong : ⊥ = cc in absurd wrong
both_false false b h = (refl, h)

no_match : (r : RootRule) (e : ExprTree) → matches r e ≡ false → r e ≡ None
no_match r e h = by (r e) h
  where
    by : (o : Option ExprTree) → is_some o ≡ false → o ≡ None
    by None k = refl
    by (Some d) k = let wrong : ⊥ = cc in absurd wrong

same_there : (r : RootRule) (e : ExprTree) → r e ≡ None → settled r e ≡ e
same_there r e h = ap (λ o. or_same o e) h

-- ---- the fall, as a number that is less by one at least where the rule matches

abbrev step : Bool → ℕ
step true = 1
step false = 0

-- from a sum of steps to the step of any of them
either : (a b : Bool) → step (a || b) ≤ step a + step b
either true b = omega arith
either false b = omega arith

settled_falls : (r : RootRule) (e : ExprTree) → Falls r → weight (settled r e) + step (matches r e) ≤ weight e
settled_falls r e falls = by (r e) refl
  where
    by : (o : Option ExprTree) → r e ≡ o → weight (or_same o e) + step (is_some o) ≤ weight e
    by None q = omega arith
    by (Some d) q = let h : weight d < weight e = falls.lighter e d q in omega arith

mutual
  falls_by : (r : RootRule) → Falls r → (e : ExprTree) → weight (swept r e) + step (moves r e) ≤ weight e
  falls_by r h (leaf a l) = settled_falls r (leaf a l) h
  falls_by r h (one a o e) =
      omega (arith, falls_by r h e, settled_falls r (one a o (swept r e)) h, either (moves r e) (matches r (one a o (swept r e))))
  falls_by r h (two a o e f) =
      omega (
        arith,
        falls_by r h e,
        falls_by r h f,
        settled_falls r (two a o (swept r e) (swept r f)) h,
        either (moves r e || moves r f) (matches r (two a o (swept r e) (swept r f))),
        either (moves r e) (moves r f),
      )
  falls_by r h (three a o c e f) =
      omega (
        arith,
        falls_by r h c,
        falls_by r h e,
        falls_by r h f,
        settled_falls r (three a o (swept r c) (swept r e) (swept r f)) h,
        either (moves r c || moves r e || moves r f) (matches r (three a o (swept r c) (swept r e) (swept r f))),
        either (moves r c || moves r e) (moves r f),
        either (moves r c) (moves r e),
      )
  falls_by r h (many a o es) =
      omega (arith, all_fall r h es, settled_falls r (many a o (all_swept r es)) h, either (some_move r es) (matches r (many a o (all_swept r es))))
  falls_by r h (let_in a b e f) =
      omega (
        arith,
        falls_by r h e,
        falls_by r h f,
        settled_falls r (let_in a b (swept r e) (swept r f)) h,
        either (moves r e || moves r f) (matches r (let_in a b (swept r e) (swept r f))),
        either (moves r e) (moves r f),
      )
  falls_by r h (loop a ls e b n x f) =
      omega (
        arith,
        legs_fall r h ls,
        falls_by r h e,
        falls_by r h f,
        settled_falls r (loop a (legs_swept r ls) (swept r e) b n x (swept r f)) h,
        either (legs_move r ls || moves r e || moves r f) (matches r (loop a (legs_swept r ls) (swept r e) b n x (swept r f))),
        either (legs_move r ls || moves r e) (moves r f),
        either (legs_move r ls) (moves r e),
      )
  falls_by r h (iterate a e b f) =
      omega (
        arith,
        falls_by r h e,
        falls_by r h f,
        settled_falls r (iterate a (swept r e) b (swept r f)) h,
        either (moves r e || moves r f) (matches r (iterate a (swept r e) b (swept r f))),
        either (moves r e) (moves r f),
      )

  all_fall : (r : RootRule) → Falls r → (es : ExprTrees) → weight_in (all_swept r es) + step (some_move r es) ≤ weight_in es
  all_fall r h no_exprs = omega arith
  all_fall r h (more_exprs e es) = omega (arith, falls_by r h e, all_fall r h es, either (moves r e) (some_move r es))

  leg_falls : (r : RootRule) → Falls r → (l : LegTree) → weight_in_leg (leg_swept r l) + step (leg_moves r l) ≤ weight_in_leg l
  leg_falls r h (whole e) = falls_by r h e
  leg_falls r h (strided e f g k) =
      omega (
        arith,
        falls_by r h e,
        falls_by r h f,
        falls_by r h g,
        falls_by r h k,
        either (moves r e || moves r f || moves r g) (moves r k),
        either (moves r e || moves r f) (moves r g),
        either (moves r e) (moves r f),
      )

  legs_fall : (r : RootRule) → Falls r → (ls : LegTrees) → weight_in_legs (legs_swept r ls) + step (legs_move r ls) ≤ weight_in_legs ls
  legs_fall r h no_legs = omega arith
  legs_fall r h (more_legs l ls) = omega (arith, leg_falls r h l, legs_fall r h ls, either (leg_moves r l) (legs_move r ls))

pub never_heavier : (r : RootRule) (e : ExprTree) → Falls r → weight (swept r e) ≤ weight e
never_heavier r e h = omega (arith, falls_by r h e)

pub lighter : (r : RootRule) (e : ExprTree) → Falls r → moves r e ≡ true → weight (swept r e) < weight e
lighter r e h k = omega (arith, falls_by r h e, ap step k)

-- ---- where the rule matches at no node

-- a node whose parts stayed the same
here : (r : RootRule) (d e : ExprTree) {Q : Type 0} → r d ≡ None → d ≡ e → (r e ≡ None → Q) → (settled r d ≡ e) × Q
here r d e n p f = (same_there r d n ∙ p, f (ap r (sym p) ∙ n))

mutual
  pub same : (r : RootRule) (e : ExprTree) → moves r e ≡ false → (swept r e ≡ e) × IsStill r e
  same r (leaf a l) h = let n = no_match r (leaf a l) h in (same_there r (leaf a l) n, n)
  same r (one a o e) h =
      let k = both_false (moves r e) _ h in let p = same r e k.0 in
      let n = no_match r (one a o (swept r e)) k.1 in
      here r (one a o (swept r e)) (one a o e) n (λ i. one a o (p.0 i)) (λ m. (p.1, m))
  same r (two a o e f) h =
      let k = both_false (moves r e || moves r f) _ h in let j = both_false (moves r e) (moves r f) k.0 in
      let p = same r e j.0 in let q = same r f j.1 in
      here r (two a o (swept r e) (swept r f)) (two a o e f) (no_match r _ k.1) (λ i. two a o (p.0 i) (q.0 i)) (λ m. (p.1, q.1, m))
  same r (three a o c e f) h =
      let k = both_false (moves r c || moves r e || moves r f) _ h in let j = both_false (moves r c || moves r e) (moves r f) k.0 in
      let m = both_false (moves r c) (moves r e) j.0 in
      let p = same r c m.0 in let q = same r e m.1 in let u = same r f j.1 in
      here r (three a o (swept r c) (swept r e) (swept r f)) (three a o c e f) (no_match r _ k.1) (λ i. three a o (p.0 i) (q.0 i) (u.0 i)) (λ m. (p.1, q.1, u.1, m))
  same r (many a o es) h =
      let k = both_false (some_move r es) _ h in let p = all_same r es k.0 in
      here r (many a o (all_swept r es)) (many a o es) (no_match r _ k.1) (λ i. many a o (p.0 i)) (λ m. (p.1, m))
  same r (let_in a b e f) h =
      let k = both_false (moves r e || moves r f) _ h in let j = both_false (moves r e) (moves r f) k.0 in
      let p = same r e j.0 in let q = same r f j.1 in
      here r (let_in a b (swept r e) (swept r f)) (let_in a b e f) (no_match r _ k.1) (λ i. let_in a b (p.0 i) (q.0 i)) (λ m. (p.1, q.1, m))
  same r (loop a ls e b n x f) h =
      let k = both_false (legs_move r ls || moves r e || moves r f) _ h in let j = both_false (legs_move r ls || moves r e) (moves r f) k.0 in
      let m = both_false (legs_move r ls) (moves r e) j.0 in
      let p = legs_same r ls m.0 in let q = same r e m.1 in let u = same r f j.1 in
      here r (loop a (legs_swept r ls) (swept r e) b n x (swept r f)) (loop a ls e b n x f) (no_match r _ k.1) (λ i. loop a (p.0 i) (q.0 i) b n x (u.0 i)) (λ m. (p.1, q.1, u.1, m))
  same r (iterate a e b f) h =
      let k = both_false (moves r e || moves r f) _ h in let j = both_false (moves r e) (moves r f) k.0 in
      let p = same r e j.0 in let q = same r f j.1 in
      here r (iterate a (swept r e) b (swept r f)) (iterate a e b f) (no_match r _ k.1) (λ i. iterate a (p.0 i) b (q.0 i)) (λ m. (p.1, q.1, m))

  all_same : (r : RootRule) (es : ExprTrees) → some_move r es ≡ false → (all_swept r es ≡ es) × EachOfAll (IsNoMatch r) es
  all_same r no_exprs h = (refl, tt)
  all_same r (more_exprs e es) h =
      let k = both_false (moves r e) (some_move r es) h in let p = same r e k.0 in let q = all_same r es k.1 in ((λ i. more_exprs (p.0 i) (q.0 i)), (p.1, q.1))

  leg_same : (r : RootRule) (l : LegTree) → leg_moves r l ≡ false → (leg_swept r l ≡ l) × EachOfLeg (IsNoMatch r) l
  leg_same r (whole e) h = let p = same r e h in ((λ i. whole (p.0 i)), p.1)
  leg_same r (strided e f g k) h =
      let j = both_false (moves r e || moves r f || moves r g) (moves r k) h in let m = both_false (moves r e || moves r f) (moves r g) j.0 in
      let n = both_false (moves r e) (moves r f) m.0 in
      let p = same r e n.0 in let q = same r f n.1 in let u = same r g m.1 in let v = same r k j.1 in
      ((λ i. strided (p.0 i) (q.0 i) (u.0 i) (v.0 i)), (p.1, q.1, u.1, v.1))

  legs_same : (r : RootRule) (ls : LegTrees) → legs_move r ls ≡ false → (legs_swept r ls ≡ ls) × EachOfLegs (IsNoMatch r) ls
  legs_same r no_legs h = (refl, tt)
  legs_same r (more_legs l ls) h =
      let k = both_false (leg_moves r l) (legs_move r ls) h in let p = leg_same r l k.0 in let q = legs_same r ls k.1 in ((λ i. more_legs (p.0 i) (q.0 i)), (p.1, q.1))

-- ---- rounds

pub one_more : (r : RootRule) (n : ℕ) (e : ExprTree) → swept_times (suc n) r e ≡ swept r (swept_times n r e)
one_more r zero e = refl
one_more r (suc n) e = one_more r n (swept r e)

pub falls_at : (r : RootRule) (e d : ExprTree) → Falls r → moves r e ≡ true → d ≡ swept r e → weight d < weight e
falls_at r e d h k p = rw p (lighter r e h k)
