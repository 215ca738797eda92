-- What the rules' answers weigh.
use Rattle.std.proofs.Common.{◌≡◌, ℕ, zero, suc, ◌+◌, ◌<◌, ◌≤◌, ◌==◌, if◌then◌else◌, Bool, true, false, ◌&&◌, Option, Some, None, refl, ap, arith}
use Rattle.weld_tree.specs.declared.place.Place.{Place}
use Rattle.weld_tree.specs.TypeTree.{TypeTree, TypeTrees, no_types, more_types}
use Rattle.weld_tree.specs.ExprTree.{At, ExprTree, leaf, one, two, three, many, let_in, loop, iterate, ExprTrees, no_exprs, more_exprs, LegTree, whole, strided, LegTrees, no_legs, more_legs, Leaf, int, truth, chars, name, fresh, One, make_vec, make_struct}
use Rattle.weld_meaning.specs.Names.{put_in_leaf, put, put_in_all, put_in_leg, put_in_legs}
use Rattle.weld_rewriting.specs.Sweep.{RootRule, or_same, settled, swept, all_swept, leg_swept, legs_swept}
use Rattle.weld_rewriting.specs.Weight.{weight, weight_in, weight_in_leg, weight_in_legs}
use Rattle.weld_horizontal.specs.Picked.{field_number, made_of, all_plain, has_nth, nth_or, is_pick_from, is_pick, picked_from, picked}
use Rattle.weld_horizontal.specs.Twice.{Places, item_at, items_from, with_expr, rebuilt, items, count, without_leg}

both : (a b : Bool) → (a && b) ≡ true → (a ≡ true) × (b ≡ true)
both true b h = (refl, h)
both false b h = let wrong : ⊥ = cc in absurd wrong

-- ---- what weighs nothing, put for a name

leaf_weight : (a : At) (l : Leaf) (s : ℕ) (v : ExprTree) → weight v ≡ 0 → weight (put_in_leaf s v a l) ≡ 0
leaf_weight a (int k x) s v h = refl
leaf_weight a (truth b) s v h = refl
leaf_weight a (chars bs) s v h = refl
leaf_weight a (name t) s v h = by (s == t)
  where
    by : (b : Bool) → weight (if b then v else leaf a (name t)) ≡ 0
    by true = h
    by false = refl
leaf_weight a (fresh b) s v h = refl

mutual
  pub weight_put : (e : ExprTree) (s : ℕ) (v : ExprTree) → weight v ≡ 0 → weight (put s v e) ≡ weight e
  weight_put (leaf a l) s v h = leaf_weight a l s v h
  weight_put (one a o e) s v h = weight_put e s v h
  weight_put (two a o e f) s v h = omega (arith, weight_put e s v h, weight_put f s v h)
  weight_put (three a o c e f) s v h = omega (arith, weight_put c s v h, weight_put e s v h, weight_put f s v h)
  weight_put (many a o es) s v h = weight_all_put es s v h
  weight_put (let_in a b e f) s v h = omega (arith, weight_put e s v h, weight_put f s v h)
  weight_put (loop a ls e b n x f) s v h = omega (arith, weight_legs_put ls s v h, weight_put e s v h, weight_put f s v h)
  weight_put (iterate a e b f) s v h = omega (arith, weight_put e s v h, weight_put f s v h)

  weight_all_put : (es : ExprTrees) (s : ℕ) (v : ExprTree) → weight v ≡ 0 → weight_in (put_in_all s v es) ≡ weight_in es
  weight_all_put no_exprs s v h = refl
  weight_all_put (more_exprs e es) s v h = omega (arith, weight_put e s v h, weight_all_put es s v h)

  weight_leg_put : (l : LegTree) (s : ℕ) (v : ExprTree) → weight v ≡ 0 → weight_in_leg (put_in_leg s v l) ≡ weight_in_leg l
  weight_leg_put (whole e) s v h = weight_put e s v h
  weight_leg_put (strided e f g i) s v h = omega (arith, weight_put e s v h, weight_put f s v h, weight_put g s v h, weight_put i s v h)

  weight_legs_put : (ls : LegTrees) (s : ℕ) (v : ExprTree) → weight v ≡ 0 → weight_in_legs (put_in_legs s v ls) ≡ weight_in_legs ls
  weight_legs_put no_legs s v h = refl
  weight_legs_put (more_legs l ls) s v h = omega (arith, weight_leg_put l s v h, weight_legs_put ls s v h)

-- ---- a row rebuilt weighs nothing

item_weight : (place : Place) (x : ℕ) (us : TypeTrees) (n : ℕ) (u : TypeTree) → weight (item_at place x us n u) ≡ 0
item_weight place x no_types n u = refl
item_weight place x (more_types t no_types) n u = refl
item_weight place x (more_types t (more_types s ts)) n u = refl

items_weight : (place : Place) (x : ℕ) (all : TypeTrees) (n : ℕ) (us : TypeTrees) → weight_in (items_from place x all n us) ≡ 0
items_weight place x all n no_types = refl
items_weight place x all n (more_types u us) = omega (arith, item_weight place x all n u, items_weight place x all (suc n) us)

with_weight : (n : ℕ) (e : ExprTree) (es : ExprTrees) → weight e ≡ 0 → weight_in es ≡ 0 → weight_in (with_expr n e es) ≡ 0
with_weight zero e es h k = omega arith
with_weight (suc n) e no_exprs h k = omega arith
with_weight (suc n) e (more_exprs f es) h k = omega (arith, with_weight n e es h (omega arith))

pub rebuilt_weight : (place : Place) (x : ℕ) (us : TypeTrees) (p : Places) → weight (rebuilt place x us p) ≡ 0
rebuilt_weight place x us p = with_weight p.second _ (items_from place x us 0 us) (item_weight place x us p.first _) (items_weight place x us 0 us)

-- ---- one leg less

pub without_weight : (n : ℕ) (ls : LegTrees) → n < count (items ls) → 2 + weight_in_legs (without_leg n ls) ≤ weight_in_legs ls
without_weight n no_legs h = absurd (omega arith)
without_weight zero (more_legs l ls) h = omega arith
without_weight (suc n) (more_legs l ls) h = omega (arith, without_weight n ls (omega arith))

pub without_count : (n : ℕ) (ls : LegTrees) → count (items (without_leg n ls)) ≤ count (items ls)
without_count n no_legs = omega arith
without_count zero (more_legs l ls) = omega arith
without_count (suc n) (more_legs l ls) = omega (arith, without_count n ls)

-- ---- a field that is picked

nth_weight : (d : ExprTree) (n : ℕ) (es : ExprTrees) → has_nth n es ≡ true → weight (nth_or d n es) ≤ weight_in es
nth_weight d n no_exprs h = let wrong : ⊥ = cc in absurd wrong
nth_weight d zero (more_exprs e es) h = omega arith
nth_weight d (suc n) (more_exprs e es) h = omega (arith, nth_weight d n es h)

made_weight : (e : ExprTree) (es : ExprTrees) → made_of e ≡ Some es → weight e ≡ weight_in es
made_weight (leaf a l) es h = let wrong : ⊥ = cc in absurd wrong
made_weight (one a o e) es h = let wrong : ⊥ = cc in absurd wrong
made_weight (two a o e f) es h = let wrong : ⊥ = cc in absurd wrong
made_weight (three a o c e f) es h = let wrong : ⊥ = cc in absurd wrong
made_weight (many a make_vec ds) es h = let wrong : ⊥ = cc in absurd wrong
made_weight (many a make_struct ds) es h = let same : ds ≡ es = cc in ap weight_in same
made_weight (let_in a b e f) es h = let wrong : ⊥ = cc in absurd wrong
made_weight (loop a ls e b n x f) es h = let wrong : ⊥ = cc in absurd wrong
made_weight (iterate a e b f) es h = let wrong : ⊥ = cc in absurd wrong

pick_weight : (a : At) (o : One) (e : ExprTree) → is_pick (one a o e) ≡ true → weight (picked (one a o e)) ≤ weight e
pick_weight a o e h = by (field_number o) (made_of e) refl h
  where
    by : (n : Option ℕ) (m : Option ExprTrees) → made_of e ≡ m → is_pick_from n m ≡ true → weight (picked_from (one a o e) n m) ≤ weight e
    by None m q h = let wrong : ⊥ = cc in absurd wrong
    by (Some n) None q h = let wrong : ⊥ = cc in absurd wrong
    by (Some n) (Some es) q h = omega (arith, nth_weight (one a o e) n es (both (has_nth n es) (all_plain es) h).0, made_weight e es q)

pub picked_weight : (e : ExprTree) → is_pick e ≡ true → weight (picked e) ≤ weight e
picked_weight (leaf a l) h = let wrong : ⊥ = cc in absurd wrong
picked_weight (one a o e) h = pick_weight a o e h
picked_weight (two a o e f) h = let wrong : ⊥ = cc in absurd wrong
picked_weight (three a o c e f) h = let wrong : ⊥ = cc in absurd wrong
picked_weight (many a o es) h = let wrong : ⊥ = cc in absurd wrong
picked_weight (let_in a b e f) h = let wrong : ⊥ = cc in absurd wrong
picked_weight (loop a ls e b n x f) h = let wrong : ⊥ = cc in absurd wrong
picked_weight (iterate a e b f) h = let wrong : ⊥ = cc in absurd wrong

-- ---- a sweep with a rule that makes nothing heavier

pub record Keeps (r : RootRule) : Type 0 where
  pub no_heavier : (e d : ExprTree) → r e ≡ Some d → weight d ≤ weight e

settled_keeps : (r : RootRule) → Keeps r → (e : ExprTree) → weight (settled r e) ≤ weight e
settled_keeps r k e = by (r e) refl
  where
    by : (o : Option ExprTree) → r e ≡ o → weight (or_same o e) ≤ weight e
    by None q = omega arith
    by (Some d) q = k.no_heavier e d q

mutual
  pub swept_keeps : (r : RootRule) → Keeps r → (e : ExprTree) → weight (swept r e) ≤ weight e
  swept_keeps r k (leaf a l) = settled_keeps r k (leaf a l)
  swept_keeps r k (one a o e) = omega (arith, settled_keeps r k (one a o (swept r e)), swept_keeps r k e)
  swept_keeps r k (two a o e f) = omega (arith, settled_keeps r k (two a o (swept r e) (swept r f)), swept_keeps r k e, swept_keeps r k f)
  swept_keeps r k (three a o c e f) =
      omega (arith, settled_keeps r k (three a o (swept r c) (swept r e) (swept r f)), swept_keeps r k c, swept_keeps r k e, swept_keeps r k f)
  swept_keeps r k (many a o es) = omega (arith, settled_keeps r k (many a o (all_swept r es)), all_keep r k es)
  swept_keeps r k (let_in a b e f) = omega (arith, settled_keeps r k (let_in a b (swept r e) (swept r f)), swept_keeps r k e, swept_keeps r k f)
  swept_keeps r k (loop a ls e b n x f) =
      omega (arith, settled_keeps r k (loop a (legs_swept r ls) (swept r e) b n x (swept r f)), legs_keep r k ls, swept_keeps r k e, swept_keeps r k f)
  swept_keeps r k (iterate a e b f) = omega (arith, settled_keeps r k (iterate a (swept r e) b (swept r f)), swept_keeps r k e, swept_keeps r k f)

  all_keep : (r : RootRule) → Keeps r → (es : ExprTrees) → weight_in (all_swept r es) ≤ weight_in es
  all_keep r k no_exprs = omega arith
  all_keep r k (more_exprs e es) = omega (arith, swept_keeps r k e, all_keep r k es)

  leg_keeps : (r : RootRule) → Keeps r → (l : LegTree) → weight_in_leg (leg_swept r l) ≤ weight_in_leg l
  leg_keeps r k (whole e) = swept_keeps r k e
  leg_keeps r k (strided e f g h) = omega (arith, swept_keeps r k e, swept_keeps r k f, swept_keeps r k g, swept_keeps r k h)

  legs_keep : (r : RootRule) → Keeps r → (ls : LegTrees) → weight_in_legs (legs_swept r ls) ≤ weight_in_legs ls
  legs_keep r k no_legs = omega arith
  legs_keep r k (more_legs l ls) = omega (arith, leg_keeps r k l, legs_keep r k ls)
