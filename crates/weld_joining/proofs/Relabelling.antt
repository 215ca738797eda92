-- An expression under own paths that go on below a field: it keeps the rules, takes what it took, and splits.
use Rattle.std.proofs.Common.{◌≡◌, ℕ, ◌==◌, Bool, true, false, ◌&&◌, ◌||◌, if◌then◌else◌, [], ◌∷◌, Option, Some, None, refl, ap, sym, subst, ◌∙◌}
use Rattle.weld_tree.specs.declared.binder.Binder.{Binder}
use Rattle.weld_tree.specs.ExprTree.{ExprTree, leaf, one, two, three, many, let_in, loop, iterate, ExprTrees, no_exprs, more_exprs, LegTree, whole, strided, LegTrees, no_legs, more_legs, Leaf, int, truth, chars, name, fresh, One, neg, not, cast, len, field, finish, started, Three, if_else, select, slice}
use Rattle.weld_meaning.specs.Environment.{Named}
use Rattle.weld_meaning.specs.Origin.{Path, Origin, is_value, origin_of_name, field_origin, origin, own_paths, in_body, in_turn, by_name}
use Rattle.weld_meaning.specs.Linear.{IsSeen, IsNotMade, ArmsAgree, LeafKeeps, OneKeeps, ThreeKeeps, Keeps, AllKeep, LegKeeps, LegsKeep}
use Rattle.weld_meaning.specs.Available.{is_below, is_builder_path, chain_of, chain_of_one, chain_of_leaf, chain_takes, takes, some_take, leg_takes, legs_take, Taken, Apart, Alike, TakesNone, TakesAll, without, ChainSplits, OneSplits, TwoSplits, ThreeSplits, Splits, AllSplit, LegSplits, LegsSplit}
use Rattle.weld_joining.proofs.Relabelled.{below, relabelled, field_below, value_below, name_below, origin_below, by_name_same, body_same, own_is_same, turn_same, builder_path_below, seen_below, not_own_below}

-- ---- the rules on origins

leaf_keeps : (k : ℕ) (l : Leaf) (g : Named Origin) → LeafKeeps l g → LeafKeeps l (relabelled k g)
leaf_keeps k (int kind x) g h = h
leaf_keeps k (truth b) g h = h
leaf_keeps k (chars bs) g h = h
leaf_keeps k (name s) g h = subst IsSeen (sym (name_below k s g)) (seen_below k (origin_of_name s g) h)
leaf_keeps k (fresh b) g h = h

one_keeps : (k : ℕ) (o : One) (u v : Origin) → u ≡ below k v → OneKeeps o v → OneKeeps o u
one_keeps k neg u v e h = h
one_keeps k not u v e h = h
one_keeps k (cast c) u v e h = h
one_keeps k len u v e h = h
one_keeps k (field n) u v e h = h
one_keeps k finish u v e h = subst (OneKeeps finish) (sym e) (not_own_below k v h)
one_keeps k (started b) u v e h = h

three_keeps : (k : ℕ) (o : Three) (e f : ExprTree) (g : Named Origin) → ThreeKeeps o e f g → ThreeKeeps o e f (relabelled k g)
three_keeps k if_else e f g h =
    let s = sym (by_name_same k g) in
    record { same = subst (λ y. origin e y ≡ origin f y) s h.same; not_made = subst (λ y. IsNotMade (origin e y)) s h.not_made }
three_keeps k select e f g h = h
three_keeps k slice e f g h = h

mutual
  pub keeps_below : (k : ℕ) (e : ExprTree) (g : Named Origin) → Keeps e g → Keeps e (relabelled k g)
  keeps_below k (leaf a l) g h = leaf_keeps k l g h
  keeps_below k (one a o e) g h = (keeps_below k e g h.0, one_keeps k o _ _ (origin_below k e g) h.1)
  keeps_below k (two a o e f) g h = (keeps_below k e g h.0, keeps_below k f g h.1)
  keeps_below k (three a o c e f) g h = (keeps_below k c g h.0, keeps_below k e g h.1, keeps_below k f g h.2, three_keeps k o e f g h.3)
  keeps_below k (many a o es) g h = all_keep_below k es g h
  keeps_below k (let_in a b e f) g h = (
    keeps_below k e g h.0,
    subst (λ u. Keeps f ((b.sym.0, u) ∷ relabelled k g)) (sym (origin_below k e g)) (keeps_below k f ((b.sym.0, origin e g) ∷ g) h.1),
  )
  keeps_below k (loop a ls e b n x f) g h = (
    legs_keep_below k ls g h.0,
    keeps_below k e g h.1,
    subst (Keeps f) (sym (body_same k b n x e g)) h.2,
    subst (λ y. origin f y ≡ own_paths (origin e (relabelled k g))) (sym (body_same k b n x e g)) (h.3 ∙ sym (own_is_same k e g)),
  )
  keeps_below k (iterate a e b f) g h = (keeps_below k e g h.0, subst (Keeps f) (sym (turn_same k b g)) h.1)

  all_keep_below : (k : ℕ) (es : ExprTrees) (g : Named Origin) → AllKeep es g → AllKeep es (relabelled k g)
  all_keep_below k no_exprs g h = tt
  all_keep_below k (more_exprs e es) g h = (keeps_below k e g h.0, all_keep_below k es g h.1)

  leg_keeps_below : (k : ℕ) (l : LegTree) (g : Named Origin) → LegKeeps l g → LegKeeps l (relabelled k g)
  leg_keeps_below k (whole e) g h = keeps_below k e g h
  leg_keeps_below k (strided e f i j) g h = (keeps_below k e g h.0, keeps_below k f g h.1, keeps_below k i g h.2, keeps_below k j g h.3)

  legs_keep_below : (k : ℕ) (ls : LegTrees) (g : Named Origin) → LegsKeep ls g → LegsKeep ls (relabelled k g)
  legs_keep_below k no_legs g h = tt
  legs_keep_below k (more_legs l ls) g h = (leg_keeps_below k l g h.0, legs_keep_below k ls g h.1)

-- ---- what is taken

chain_below : (k : ℕ) (m : Option (ℕ × Path)) (g : Named Origin) (s : ℕ) (q : Path) (x y : Bool) → x ≡ y → chain_takes m (relabelled k g) s q x ≡ chain_takes m g s q y
chain_below k None g s q x y h = h
chain_below k (Some c) g s q x y h =
    let e : is_builder_path (origin_of_name s (relabelled k g)) q ≡ is_builder_path (origin_of_name s g) q = ap (λ o. is_builder_path o q) (name_below k s g) ∙ builder_path_below k (origin_of_name s g) q in
    λ i. (c.0 == s) && (is_below c.1 q && e i)

mutual
  takes_below : (k : ℕ) (e : ExprTree) (g : Named Origin) (s : ℕ) (q : Path) → takes e (relabelled k g) s q ≡ takes e g s q
  takes_below k (leaf a l) g s q = chain_below k (chain_of_leaf l) g s q false false refl
  takes_below k (one a o e) g s q = chain_below k (chain_of_one o (chain_of e)) g s q _ _ (takes_below k e g s q)
  takes_below k (two a o e f) g s q = let p = takes_below k e g s q in let r = takes_below k f g s q in λ i. p i || r i
  takes_below k (three a o c e f) g s q = let p = takes_below k c g s q in let r = takes_below k e g s q in let t = takes_below k f g s q in λ i. p i || (r i || t i)
  takes_below k (many a o es) g s q = some_below k es g s q
  takes_below k (let_in a b e f) g s q =
      let p = takes_below k e g s q in
      let r = ap (λ u. takes f ((b.sym.0, u) ∷ relabelled k g) s q) (origin_below k e g) ∙ takes_below k f ((b.sym.0, origin e g) ∷ g) s q in
      λ i. p i || (if b.sym.0 == s then false else r i)
  takes_below k (loop a ls e b n x f) g s q = let p = legs_below k ls g s q in let r = takes_below k e g s q in λ i. p i || r i
  takes_below k (iterate a e b f) g s q = takes_below k e g s q

  some_below : (k : ℕ) (es : ExprTrees) (g : Named Origin) (s : ℕ) (q : Path) → some_take es (relabelled k g) s q ≡ some_take es g s q
  some_below k no_exprs g s q = refl
  some_below k (more_exprs e es) g s q = let p = takes_below k e g s q in let r = some_below k es g s q in λ i. p i || r i

  leg_below : (k : ℕ) (l : LegTree) (g : Named Origin) (s : ℕ) (q : Path) → leg_takes l (relabelled k g) s q ≡ leg_takes l g s q
  leg_below k (whole e) g s q = takes_below k e g s q
  leg_below k (strided e f h j) g s q =
      let p = takes_below k e g s q in let r = takes_below k f g s q in let t = takes_below k h g s q in let u = takes_below k j g s q in λ i. p i || (r i || (t i || u i))

  legs_below : (k : ℕ) (ls : LegTrees) (g : Named Origin) (s : ℕ) (q : Path) → legs_take ls (relabelled k g) s q ≡ legs_take ls g s q
  legs_below k no_legs g s q = refl
  legs_below k (more_legs l ls) g s q = let p = leg_below k l g s q in let r = legs_below k ls g s q in λ i. p i || r i

pub taken_below : (k : ℕ) (e : ExprTree) (g : Named Origin) → takes e (relabelled k g) ≡ takes e g
taken_below k e g = λ i s q. takes_below k e g s q i

some_taken_below : (k : ℕ) (es : ExprTrees) (g : Named Origin) → some_take es (relabelled k g) ≡ some_take es g
some_taken_below k es g = λ i s q. some_below k es g s q i

leg_taken_below : (k : ℕ) (l : LegTree) (g : Named Origin) → leg_takes l (relabelled k g) ≡ leg_takes l g
leg_taken_below k l g = λ i s q. leg_below k l g s q i

legs_taken_below : (k : ℕ) (ls : LegTrees) (g : Named Origin) → legs_take ls (relabelled k g) ≡ legs_take ls g
legs_taken_below k ls g = λ i s q. legs_below k ls g s q i

-- ---- that each is taken once

apart_to : (a b c d : Taken) → a ≡ c → b ≡ d → Apart c d → Apart a b
apart_to a b c d p q h = subst (λ x. Apart x b) (sym p) (subst (Apart c) (sym q) h)

chain_splits : (m : Option (ℕ × Path)) (u v : Origin) → is_value u ≡ is_value v → ChainSplits m v → ChainSplits m u
chain_splits None u v e h = e ∙ h
chain_splits (Some c) u v e h = tt

one_splits : (k : ℕ) (o : One) (e : ExprTree) (u v : Origin) → u ≡ below k v → OneSplits o e v → OneSplits o e u
one_splits k neg e u v p h = h
one_splits k not e u v p h = h
one_splits k (cast c) e u v p h = h
one_splits k len e u v p h = h
one_splits k (field n) e u v p h = chain_splits (chain_of e) (field_origin n u) (field_origin n v) (ap is_value (ap (field_origin n) p ∙ field_below k n v) ∙ value_below k (field_origin n v)) h
one_splits k finish e u v p h = h
one_splits k (started b) e u v p h = h

three_splits : (o : Three) (a b c d : Taken) → a ≡ c → b ≡ d → ThreeSplits o c d → ThreeSplits o a b
three_splits o a b c d p q h = subst (λ x. ThreeSplits o x b) (sym p) (subst (ThreeSplits o c) (sym q) h)

pub takes_all : (k s : ℕ) (o : Origin) (t u : Taken) → t ≡ u → TakesAll s o u → TakesAll s (below k o) t
takes_all k s o t u e h = record { all = λ q b. ap (λ (w : Taken). w s q) e ∙ h.all q (sym (builder_path_below k o q) ∙ b) }

mutual
  pub splits_below : (k : ℕ) (e : ExprTree) (g : Named Origin) → Splits e g → Splits e (relabelled k g)
  splits_below k (leaf a l) g h = tt
  splits_below k (one a o e) g h = (splits_below k e g h.0, one_splits k o e _ _ (origin_below k e g) h.1)
  splits_below k (two a o e f) g h =
      let x = taken_below k e g in let y = taken_below k f g in
      (splits_below k e g h.0, splits_below k f g h.1, apart_to _ _ _ _ x y h.2, subst (TwoSplits o) (sym y) h.3)
  splits_below k (three a o c e f) g h =
      let x = taken_below k c g in let y = taken_below k e g in let z = taken_below k f g in
      (splits_below k c g h.0, splits_below k e g h.1, splits_below k f g h.2, apart_to _ _ _ _ x y h.3, apart_to _ _ _ _ x z h.4, three_splits o _ _ _ _ y z h.5)
  splits_below k (many a o es) g h = all_split_below k es g h
  splits_below k (let_in a b e f) g h =
      let s = sym (origin_below k e g) in
      let inner : Named Origin = (b.sym.0, origin e g) ∷ g in
      let y : takes f ((b.sym.0, origin e (relabelled k g)) ∷ relabelled k g) ≡ takes f inner = ap (λ u. takes f ((b.sym.0, u) ∷ relabelled k g)) (origin_below k e g) ∙ taken_below k f inner in (
        splits_below k e g h.0,
        subst (λ u. Splits f ((b.sym.0, u) ∷ relabelled k g)) s (splits_below k f inner h.1),
        apart_to _ _ _ _ (taken_below k e g) (ap (without b.sym.0) y) h.2,
        subst (λ u. TakesAll b.sym.0 u (takes f ((b.sym.0, origin e (relabelled k g)) ∷ relabelled k g))) s (takes_all k b.sym.0 (origin e g) _ _ y h.3),
      )
  splits_below k (loop a ls e b n x f) g h =
      let s = sym (body_same k b n x e g) in (
        legs_split_below k ls g h.0,
        splits_below k e g h.1,
        apart_to _ _ _ _ (legs_taken_below k ls g) (taken_below k e g) h.2,
        subst (Splits f) s h.3,
        subst (λ y. TakesAll b.sym.0 (own_paths (origin e (relabelled k g))) (takes f y)) s
            (subst (λ o. TakesAll b.sym.0 o (takes f (in_body b n x (origin e g) g))) (sym (own_is_same k e g)) h.4),
      )
  splits_below k (iterate a e b f) g h = (splits_below k e g h.0, subst (Splits f) (sym (turn_same k b g)) h.1)

  all_split_below : (k : ℕ) (es : ExprTrees) (g : Named Origin) → AllSplit es g → AllSplit es (relabelled k g)
  all_split_below k no_exprs g h = tt
  all_split_below k (more_exprs e es) g h = (splits_below k e g h.0, all_split_below k es g h.1, apart_to _ _ _ _ (taken_below k e g) (some_taken_below k es g) h.2)

  leg_splits_below : (k : ℕ) (l : LegTree) (g : Named Origin) → LegSplits l g → LegSplits l (relabelled k g)
  leg_splits_below k (whole e) g h = splits_below k e g h
  leg_splits_below k (strided e f i j) g h =
      let a = taken_below k e g in let b = taken_below k f g in let c = taken_below k i g in let d = taken_below k j g in (
        splits_below k e g h.0,
        splits_below k f g h.1,
        splits_below k i g h.2,
        splits_below k j g h.3,
        apart_to _ _ _ _ a b h.4,
        apart_to _ _ _ _ a c h.5,
        apart_to _ _ _ _ a d h.6,
        apart_to _ _ _ _ b c h.7,
        apart_to _ _ _ _ b d h.8,
        apart_to _ _ _ _ c d h.9,
      )

  legs_split_below : (k : ℕ) (ls : LegTrees) (g : Named Origin) → LegsSplit ls g → LegsSplit ls (relabelled k g)
  legs_split_below k no_legs g h = tt
  legs_split_below k (more_legs l ls) g h = (leg_splits_below k l g h.0, legs_split_below k ls g h.1, apart_to _ _ _ _ (leg_taken_below k l g) (legs_taken_below k ls g) h.2)
