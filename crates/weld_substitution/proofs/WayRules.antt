-- Where a name's only use, on the way, becomes the value, the rules of linear use are kept.
use Rattle.std.proofs.Common.{◌≡◌, ◌≢◌, ℕ, if◌then◌else◌, true, ◌||◌, [], ◌∷◌, Option, Some, None, refl, ap, sym, subst, ◌∙◌, eqb-true, ◌⊎◌, inl, inr, arith}
use Rattle.weld_tree.specs.declared.binder.Binder.{Binder}
use Rattle.weld_tree.specs.ExprTree.{At, ExprTree, leaf, one, two, three, many, let_in, loop, iterate, ExprTrees, no_exprs, more_exprs, LegTree, whole, strided, LegTrees, no_legs, more_legs, Leaf, int, truth, chars, name, fresh, One, Two, binary, and, or, look_up, key_exists, merge, Three, if_else, select, slice, make_vec}
use Rattle.weld_meaning.specs.Environment.{Named}
use Rattle.weld_meaning.specs.Origin.{Path, Origin, value, origin, own_paths, from_within, in_body, in_turn}
use Rattle.weld_meaning.specs.Linear.{OneKeeps, ThreeKeeps, Keeps, AllKeep, LegKeeps, LegsKeep}
use Rattle.weld_meaning.specs.Available.{Taken, Apart, without, chain_of_one, chain_of, chain_takes, takes, some_take, leg_takes, legs_take, TwoSplits, ThreeSplits, Splits, AllSplit}
use Rattle.weld_meaning.specs.Names.{IsFree, put_in_leaf, put, put_in_all, put_in_leg, put_in_legs, Binds, AllBind, LegBinds, LegsBind, IsClear}
use Rattle.weld_meaning.proofs.FreeNames.{keeps_free, taken_free, splits_free}
use Rattle.weld_substitution.specs.Uses.{is_name, uses, uses_in}
use Rattle.weld_substitution.specs.declared.put_anywhere.spot.Spot.{Spot}
use Rattle.weld_substitution.specs.declared.put_anywhere.spot.Spot.TheVariants.{Leg, Field, Other}
use Rattle.weld_substitution.specs.Redex.{spot_below, takes_both, takes_all}
use Rattle.weld_substitution.proofs.Bindings.{Binding, binding_behind, binding_in_body, binding_in_turn, agree_over}
use Rattle.weld_substitution.proofs.PutOrigins.{origin_over, origin_put}
use Rattle.weld_substitution.proofs.Chains.{chain_by, chain_of_part, taken_named}
use Rattle.weld_substitution.proofs.ValueRules.{none_put}
use Rattle.weld_substitution.proofs.Following.{taken_by_chain}
use Rattle.weld_substitution.proofs.Way.{Way, WayAmong, WayInLeg, WayInLegs}
use Rattle.weld_substitution.proofs.Gaining.{Same, same_of, same_keeps, same_splits, same_from, Gains, Besides, besides_of, gains_first, gains_second, besides_both, gains_without, besides_without, leg_besides, legs_besides, leg_same_keeps, legs_same_keep, chain_gone}

-- ---- nodes whose second and third parts are evaluated whenever the first is

pub two_unit : (k : Two) (right : Taken) → takes_both k ≡ true → TwoSplits k right
two_unit (binary op) right e = tt
two_unit and right e = let nothing : ⊥ = cc in absurd nothing
two_unit or right e = let nothing : ⊥ = cc in absurd nothing
two_unit look_up right e = tt
two_unit key_exists right e = tt
two_unit merge right e = tt

three_unit : (k : Three) (e f : ExprTree) (g : Named Origin) → takes_all k ≡ true → ThreeKeeps k e f g
three_unit if_else e f g h = let nothing : ⊥ = cc in absurd nothing
three_unit select e f g h = tt
three_unit slice e f g h = tt

pub three_apart : (k : Three) (A B : Taken) → takes_all k ≡ true → ThreeSplits k A B → Apart A B
three_apart if_else A B h p = let nothing : ⊥ = cc in absurd nothing
three_apart select A B h p = p
three_apart slice A B h p = p

pub apart_three : (k : Three) (A B : Taken) → takes_all k ≡ true → Apart A B → ThreeSplits k A B
apart_three if_else A B h p = let nothing : ⊥ = cc in absurd nothing
apart_three select A B h p = p
apart_three slice A B h p = p

pub three_same : (k : Three) (A B C D : Taken) → A ≡ C → B ≡ D → ThreeSplits k C D → ThreeSplits k A B
three_same k A B C D p q h = subst (λ m. ThreeSplits k m B) (sym p) (subst (ThreeSplits k C) (sym q) h)

module _ (s : ℕ) (v : ExprTree) (p : Spot) (o : Origin) (none : chain_of v ≡ None) (valued : p ≡ Field → o ≡ value) where
  pub record On (g h : Named Origin) : Type 0 where
    pub binding : Binding s o g h
    pub from : origin v g ≡ o
    pub keeps : Keeps v g
    pub splits : Splits v g

  pub on_behind : (g h : Named Origin) (b : ℕ) (y : Origin) → IsClear s v b → On g h → On ((b, y) ∷ g) ((b, y) ∷ h)
  on_behind g h b y c l =
      let over = agree_over (IsFree v) b y g c.1 in
      record {
        binding = binding_behind s o g h b y c.0 l.binding;
        from = origin_over v b y o g c.1 l.from;
        keeps = keeps_free v g ((b, y) ∷ g) over l.keeps;
        splits = splits_free v g ((b, y) ∷ g) over l.splits;
      }

  pub from_on : (e : ExprTree) (g h : Named Origin) → Binds (IsClear s v) e → On g h → origin (put s v e) g ≡ origin e h
  from_on e g h c l = origin_put e s v o g h c l.binding l.from

  pub same_on : (e : ExprTree) (g h : Named Origin) → Binds (IsClear s v) e → On g h → uses e s ≡ 0 → Same s v e g h
  same_on e g h c l z = same_of s v e o g h c l.binding z

  pub besides_on : (e : ExprTree) (g h : Named Origin) → Binds (IsClear s v) e → On g h → uses e s ≡ 0 → Besides s (takes (put s v e) g) (takes e h)
  besides_on e g h c l z = besides_of s v e g h (same_on e g h c l z)

  -- the value takes nothing of a binder within
  pub value_besides : (g : Named Origin) (b : ℕ) → IsClear s v b → (q : Path) → takes v g b q ≡ true → ⊥
  value_besides g b c q k = c.1 (taken_named v g b q k)

  -- ---- chains

  pub chain_used : (e : ExprTree) (c : ℕ × Path) (at : Spot) → chain_of e ≡ Some c → Way s at p e → s ≡ c.0
  chain_used e c at k w =
      chain_by (λ x y. (at : Spot) → Way s at p x → s ≡ y.0) (λ a x at m. eqb-true s x m.0) (λ a n x y m f at u. f Field u) e c k at w

  pub chain_field : (e : ExprTree) (c : ℕ × Path) → chain_of e ≡ Some c → Way s Field p e → p ≡ Field
  chain_field e c k w = chain_by (λ x y. Way s Field p x → p ≡ Field) (λ a x m. sym m.1) (λ a n x y m f u. f u) e c k w

  -- ---- what is gained

  leaf_gains : (a : At) (l : Leaf) (g h : Named Origin) → is_name l s ≡ true → Gains s (takes v g) (takes (put_in_leaf s v a l) g) (takes (leaf a l) h)
  leaf_gains a (int k x) g h e = let nothing : ⊥ = cc in absurd nothing
  leaf_gains a (truth b) g h e = let nothing : ⊥ = cc in absurd nothing
  leaf_gains a (chars bs) g h e = let nothing : ⊥ = cc in absurd nothing
  leaf_gains a (name x) g h e =
      subst (λ b. Gains s (takes v g) (takes (if b then v else leaf a (name x)) g) (takes (leaf a (name x)) h)) (sym e) (record {
        to = λ t q k. inr k;
        back = λ t q ne k. absurd (ne (sym (eqb-true s x e ∙ (taken_by_chain (leaf a (name x)) (x, []) h t q refl k).0)));
        whole = λ t q k. k;
      })
  leaf_gains a (fresh b) g h e = let nothing : ⊥ = cc in absurd nothing

  -- a chain on the name takes nothing else
  chain_gains : (V A C D : Taken) → ((t : ℕ) (q : Path) → C t q ≡ true → s ≡ t) → ((t : ℕ) (q : Path) → D t q ≡ true → s ≡ t) → Gains s V A C → Gains s V A D
  chain_gains V A C D f g m = record {
    to = λ t q k. by t q (m.to t q k);
    back = λ t q ne k. absurd (ne (sym (g t q k)));
    whole = m.whole;
  }
    where
      by : (t : ℕ) (q : Path) → ((t ≢ s) × (C t q ≡ true)) ⊎ (V t q ≡ true) → ((t ≢ s) × (D t q ≡ true)) ⊎ (V t q ≡ true)
      by t q (inl k) = absurd (k.0 (sym (f t q k.1)))
      by t q (inr k) = inr k

  one_gains : (a : At) (k : One) (e : ExprTree) (at : Spot) (g h : Named Origin) → Way s at p (one a k e) → Gains s (takes v g) (takes (put s v e) g) (takes e h) → Gains s (takes v g) (takes (put s v (one a k e)) g) (takes (one a k e) h)
  one_gains a k e at g h w f = by (chain_of_one k (chain_of e)) refl
    where
      -- the node is no chain after
      after : chain_of (put s v (one a k e)) ≡ None → takes (put s v e) g ≡ takes (put s v (one a k e)) g
      after i = λ j t q. chain_takes (sym i j) g t q (takes (put s v e) g t q)

      by : (m : Option (ℕ × Path)) → chain_of_one k (chain_of e) ≡ m → Gains s (takes v g) (takes (put s v (one a k e)) g) (takes (one a k e) h)
      by (Some d) i =
          let named = chain_used (one a k e) d at i w in
          let part = chain_of_part k (chain_of e) d i in
          let inner = chain_used e part.0 (spot_below k) part.1 w in
          subst (λ T. Gains s (takes v g) T (takes (one a k e) h)) (after (chain_gone s v (one a k e) d none i named))
          (chain_gains (takes v g) (takes (put s v e) g) (takes e h) (takes (one a k e) h)
          (λ t q u. inner ∙ (taken_by_chain e part.0 h t q part.1 u).0) (λ t q u. named ∙ (taken_by_chain (one a k e) d h t q i u).0) f)
      by None i =
          let same : takes e h ≡ takes (one a k e) h = λ j t q. chain_takes (sym i j) h t q (takes e h t q) in
          subst (λ T. Gains s (takes v g) T (takes (one a k e) h)) (after (none_put s v (one a k e) i)) (subst (Gains s (takes v g) (takes (put s v e) g)) same f)

  mutual
    pub way_gains : (e : ExprTree) (at : Spot) (g h : Named Origin) → Way s at p e → Binds (IsClear s v) e → On g h → Gains s (takes v g) (takes (put s v e) g) (takes e h)
    way_gains (leaf a l) at g h w c m = leaf_gains a l g h w.0
    way_gains (one a k e) at g h w c m = one_gains a k e at g h w (way_gains e (spot_below k) g h w c m)
    way_gains (two a k e f) at g h (inl w) c m =
        gains_first s (takes v g) _ _ (takes e h) (takes f h) (way_gains e Other g h w.0 c.0 m) (besides_on f g h c.1 m w.1)
    way_gains (two a k e f) at g h (inr w) c m =
        gains_second s (takes v g) _ _ (takes e h) (takes f h) (besides_on e g h c.0 m w.0) (way_gains f Other g h w.2 c.1 m)
    way_gains (three a k d e f) at g h (inl w) c m =
        gains_first s (takes v g) _ _ (takes d h) (λ t q. takes e h t q || takes f h t q) (way_gains d Other g h w.0 c.0 m)
        (besides_both s _ _ (takes e h) (takes f h) (besides_on e g h c.1 m w.1) (besides_on f g h c.2 m w.2))
    way_gains (three a k d e f) at g h (inr (inl w)) c m =
        gains_second s (takes v g) _ _ (takes d h) (λ t q. takes e h t q || takes f h t q) (besides_on d g h c.0 m w.0)
        (gains_first s (takes v g) _ _ (takes e h) (takes f h) (way_gains e Other g h w.2 c.1 m) (besides_on f g h c.2 m w.3))
    way_gains (three a k d e f) at g h (inr (inr w)) c m =
        gains_second s (takes v g) _ _ (takes d h) (λ t q. takes e h t q || takes f h t q) (besides_on d g h c.0 m w.0)
        (gains_second s (takes v g) _ _ (takes e h) (takes f h) (besides_on e g h c.1 m w.2) (way_gains f Other g h w.3 c.2 m))
    way_gains (many a k es) at g h w c m = way_gains_among es g h w c m
    way_gains (let_in a b e f) at g h (inl w) c m =
        let same = ap (λ y. takes (put s v f) ((b.sym.0, y) ∷ g)) (sym (from_on e g h c.1 m)) in
        gains_first s (takes v g) _ _ (takes e h) (without b.sym.0 (takes f ((b.sym.0, origin e h) ∷ h))) (way_gains e Other g h w.0 c.1 m)
        (besides_without s b.sym.0 _ (takes f ((b.sym.0, origin e h) ∷ h))
        (subst (λ T. Besides s T (takes f ((b.sym.0, origin e h) ∷ h))) same (besides_on f _ _ c.2 (on_behind g h b.sym.0 (origin e h) c.0 m) w.1)))
    way_gains (let_in a b e f) at g h (inr w) c m =
        let same = ap (λ y. takes (put s v f) ((b.sym.0, y) ∷ g)) (sym (from_on e g h c.1 m)) in
        let inner = way_gains f Other _ _ w.1 c.2 (on_behind g h b.sym.0 (origin e h) c.0 m) in
        let over : takes v ((b.sym.0, origin e h) ∷ g) ≡ takes v g = sym (taken_free v g ((b.sym.0, origin e h) ∷ g) (agree_over (IsFree v) b.sym.0 (origin e h) g c.0.1)) in
        gains_second s (takes v g) _ _ (takes e h) (without b.sym.0 (takes f ((b.sym.0, origin e h) ∷ h))) (besides_on e g h c.1 m w.0)
        (gains_without s b.sym.0 (takes v g) _ (takes f ((b.sym.0, origin e h) ∷ h)) (value_besides g b.sym.0 c.0)
        (subst (λ T. Gains s (takes v g) T (takes f ((b.sym.0, origin e h) ∷ h))) same (subst (λ V. Gains s V (takes (put s v f) ((b.sym.0, origin e h) ∷ g)) (takes f ((b.sym.0, origin e h) ∷ h))) over inner)))
    way_gains (loop a ls e b n y f) at g h (inl w) c m =
        gains_first s (takes v g) _ _ (legs_take ls h) (takes e h) (way_gains_legs ls g h w.0 c.3 m) (besides_on e g h c.4 m w.1)
    way_gains (loop a ls e b n y f) at g h (inr w) c m =
        gains_second s (takes v g) _ _ (legs_take ls h) (takes e h) (legs_besides s v o ls g h c.3 m.binding w.0) (way_gains e Other g h w.1 c.4 m)
    way_gains (iterate a e b f) at g h w c m = way_gains e Other g h w.0 c.1 m

    pub way_gains_among : (es : ExprTrees) (g h : Named Origin) → WayAmong s p es → AllBind (IsClear s v) es → On g h → Gains s (takes v g) (some_take (put_in_all s v es) g) (some_take es h)
    way_gains_among no_exprs g h w c m = absurd w
    way_gains_among (more_exprs e es) g h (inl w) c m =
        gains_first s (takes v g) _ _ (takes e h) (some_take es h) (way_gains e Other g h w.0 c.0 m) (among_besides es g h c.1 m w.1)
    way_gains_among (more_exprs e es) g h (inr w) c m =
        gains_second s (takes v g) _ _ (takes e h) (some_take es h) (besides_on e g h c.0 m w.0) (way_gains_among es g h w.1 c.1 m)

    pub among_besides : (es : ExprTrees) (g h : Named Origin) → AllBind (IsClear s v) es → On g h → uses_in es s ≡ 0 → Besides s (some_take (put_in_all s v es) g) (some_take es h)
    among_besides no_exprs g h c m z = record { other = λ t q k. let nothing : ⊥ = cc in absurd nothing; same = refl }
    among_besides (more_exprs e es) g h c m z =
        besides_both s _ _ (takes e h) (some_take es h) (besides_on e g h c.0 m (omega (arith, z))) (among_besides es g h c.1 m (omega (arith, z)))

    pub way_gains_leg : (l : LegTree) (g h : Named Origin) → WayInLeg s p l → LegBinds (IsClear s v) l → On g h → Gains s (takes v g) (leg_takes (put_in_leg s v l) g) (leg_takes l h)
    way_gains_leg (whole e) g h w c m = way_gains e Leg g h w c m
    way_gains_leg (strided e f i j) g h (inl w) c m =
        gains_first s (takes v g) _ _ (takes e h) (λ t q. takes f h t q || (takes i h t q || takes j h t q)) (way_gains e Other g h w.0 c.0 m)
        (besides_both s _ _ (takes f h) (λ t q. takes i h t q || takes j h t q) (besides_on f g h c.1 m w.1) (besides_both s _ _ (takes i h) (takes j h) (besides_on i g h c.2 m w.2) (besides_on j g h c.3 m w.3)))
    way_gains_leg (strided e f i j) g h (inr (inl w)) c m =
        gains_second s (takes v g) _ _ (takes e h) (λ t q. takes f h t q || (takes i h t q || takes j h t q)) (besides_on e g h c.0 m w.0)
        (gains_first s (takes v g) _ _ (takes f h) (λ t q. takes i h t q || takes j h t q) (way_gains f Other g h w.1 c.1 m) (besides_both s _ _ (takes i h) (takes j h) (besides_on i g h c.2 m w.2) (besides_on j g h c.3 m w.3)))
    way_gains_leg (strided e f i j) g h (inr (inr (inl w))) c m =
        gains_second s (takes v g) _ _ (takes e h) (λ t q. takes f h t q || (takes i h t q || takes j h t q)) (besides_on e g h c.0 m w.0)
        (gains_second s (takes v g) _ _ (takes f h) (λ t q. takes i h t q || takes j h t q) (besides_on f g h c.1 m w.1) (gains_first s (takes v g) _ _ (takes i h) (takes j h) (way_gains i Other g h w.2 c.2 m) (besides_on j g h c.3 m w.3)))
    way_gains_leg (strided e f i j) g h (inr (inr (inr w))) c m =
        gains_second s (takes v g) _ _ (takes e h) (λ t q. takes f h t q || (takes i h t q || takes j h t q)) (besides_on e g h c.0 m w.0)
        (gains_second s (takes v g) _ _ (takes f h) (λ t q. takes i h t q || takes j h t q) (besides_on f g h c.1 m w.1) (gains_second s (takes v g) _ _ (takes i h) (takes j h) (besides_on i g h c.2 m w.2) (way_gains j Other g h w.3 c.3 m)))

    pub way_gains_legs : (ls : LegTrees) (g h : Named Origin) → WayInLegs s p ls → LegsBind (IsClear s v) ls → On g h → Gains s (takes v g) (legs_take (put_in_legs s v ls) g) (legs_take ls h)
    way_gains_legs no_legs g h w c m = absurd w
    way_gains_legs (more_legs l ls) g h (inl w) c m =
        gains_first s (takes v g) _ _ (leg_takes l h) (legs_take ls h) (way_gains_leg l g h w.0 c.0 m) (legs_besides s v o ls g h c.1 m.binding w.1)
    way_gains_legs (more_legs l ls) g h (inr w) c m =
        gains_second s (takes v g) _ _ (leg_takes l h) (legs_take ls h) (leg_besides s v o l g h c.0 m.binding w.0) (way_gains_legs ls g h w.1 c.1 m)

  -- ---- the rules on origins

  leaf_way_keeps : (a : At) (l : Leaf) (g : Named Origin) → Keeps v g → is_name l s ≡ true → Keeps (put_in_leaf s v a l) g
  leaf_way_keeps a (int k x) g m e = tt
  leaf_way_keeps a (truth b) g m e = tt
  leaf_way_keeps a (chars bs) g m e = tt
  leaf_way_keeps a (name x) g m e = subst (λ b. Keeps (if b then v else leaf a (name x)) g) (sym e) m
  leaf_way_keeps a (fresh b) g m e = tt

  same_arms : (a : At) (k : Three) (e f : ExprTree) (g h : Named Origin) → Binds (IsClear s v) e → Binds (IsClear s v) f → On g h → uses e s ≡ 0 → uses f s ≡ 0 → Keeps e h → Keeps f h → ThreeKeeps k e f h → ThreeKeeps k (put s v e) (put s v f) g
  same_arms a k e f g h c d m y z i j t =
      let node : ExprTree = three a k (leaf a (truth true)) e f in
      (same_keeps s v node g h (same_on node g h (tt, c, d) m (omega (arith, y, z))) (tt, i, j, t)).3

  all_same_keep : (a : At) (es : ExprTrees) (g h : Named Origin) → AllBind (IsClear s v) es → On g h → uses_in es s ≡ 0 → AllKeep es h → AllKeep (put_in_all s v es) g
  all_same_keep a es g h c m z k = same_keeps s v (many a make_vec es) g h (same_on (many a make_vec es) g h c m z) k

  pub all_same_split : (a : At) (es : ExprTrees) (g h : Named Origin) → AllBind (IsClear s v) es → On g h → uses_in es s ≡ 0 → AllSplit es h → AllSplit (put_in_all s v es) g
  all_same_split a es g h c m z k = same_splits s v (many a make_vec es) g h (same_on (many a make_vec es) g h c m z) k

  -- the body of a loop, without the name
  body_keeps : (e : ExprTree) (b n y : Binder) (f : ExprTree) (g h : Named Origin) → Binds (IsClear s v) e → IsClear s v b.sym.0 → IsClear s v n.sym.0 → IsClear s v y.sym.0 → Binds (IsClear s v) f → On g h → uses f s ≡ 0 → Keeps f (in_body b n y (origin e h) h) → origin f (in_body b n y (origin e h) h) ≡ own_paths (origin e h) → Keeps (put s v f) (in_body b n y (origin (put s v e) g) g) × (origin (put s v f) (in_body b n y (origin (put s v e) g) g) ≡ own_paths (origin (put s v e) g))
  body_keeps e b n y f g h ce cb cn cy cf m z k q =
      let from = sym (from_on e g h ce m) in
      let same = same_of s v f (from_within o) (in_body b n y (origin e h) g) (in_body b n y (origin e h) h) cf (binding_in_body s o (origin e h) g h b n y cb.0 cn.0 cy.0 m.binding) z in (
        subst (λ d. Keeps (put s v f) (in_body b n y d g)) from (same_keeps s v f _ _ same k),
        subst (λ d. origin (put s v f) (in_body b n y d g) ≡ own_paths d) from (same_from s v f _ _ same ∙ q),
      )

  mutual
    pub way_keeps : (e : ExprTree) (at : Spot) (g h : Named Origin) → Way s at p e → Binds (IsClear s v) e → On g h → Keeps e h → Keeps (put s v e) g
    way_keeps (leaf a l) at g h w c m k = leaf_way_keeps a l g m.keeps w.0
    way_keeps (one a i e) at g h w c m k = (way_keeps e (spot_below i) g h w c m k.0, subst (OneKeeps i) (sym (from_on e g h c m)) k.1)
    way_keeps (two a i e f) at g h (inl w) c m k = (way_keeps e Other g h w.0 c.0 m k.0, same_keeps s v f g h (same_on f g h c.1 m w.1) k.1)
    way_keeps (two a i e f) at g h (inr w) c m k = (same_keeps s v e g h (same_on e g h c.0 m w.0) k.0, way_keeps f Other g h w.2 c.1 m k.1)
    way_keeps (three a i d e f) at g h (inl w) c m k = (
      way_keeps d Other g h w.0 c.0 m k.0,
      same_keeps s v e g h (same_on e g h c.1 m w.1) k.1,
      same_keeps s v f g h (same_on f g h c.2 m w.2) k.2,
      same_arms a i e f g h c.1 c.2 m w.1 w.2 k.1 k.2 k.3,
    )
    way_keeps (three a i d e f) at g h (inr (inl w)) c m k =
        (same_keeps s v d g h (same_on d g h c.0 m w.0) k.0, way_keeps e Other g h w.2 c.1 m k.1, same_keeps s v f g h (same_on f g h c.2 m w.3) k.2, three_unit i (put s v e) (put s v f) g w.1)
    way_keeps (three a i d e f) at g h (inr (inr w)) c m k =
        (same_keeps s v d g h (same_on d g h c.0 m w.0) k.0, same_keeps s v e g h (same_on e g h c.1 m w.2) k.1, way_keeps f Other g h w.3 c.2 m k.2, three_unit i (put s v e) (put s v f) g w.1)
    way_keeps (many a i es) at g h w c m k = way_keep_among a es g h w c m k
    way_keeps (let_in a b e f) at g h (inl w) c m k = (
      way_keeps e Other g h w.0 c.1 m k.0,
      subst (λ y. Keeps (put s v f) ((b.sym.0, y) ∷ g)) (sym (from_on e g h c.1 m)) (same_keeps s v f _ _ (same_on f _ _ c.2 (on_behind g h b.sym.0 (origin e h) c.0 m) w.1) k.1),
    )
    way_keeps (let_in a b e f) at g h (inr w) c m k = (
      same_keeps s v e g h (same_on e g h c.1 m w.0) k.0,
      subst (λ y. Keeps (put s v f) ((b.sym.0, y) ∷ g)) (sym (from_on e g h c.1 m)) (way_keeps f Other _ _ w.1 c.2 (on_behind g h b.sym.0 (origin e h) c.0 m) k.1),
    )
    way_keeps (loop a ls e b n y f) at g h (inl w) c m k =
        let i = body_keeps e b n y f g h c.4 c.0 c.1 c.2 c.5 m w.2 k.2 k.3 in
        (way_keep_legs ls g h w.0 c.3 m k.0, same_keeps s v e g h (same_on e g h c.4 m w.1) k.1, i.0, i.1)
    way_keeps (loop a ls e b n y f) at g h (inr w) c m k =
        let i = body_keeps e b n y f g h c.4 c.0 c.1 c.2 c.5 m w.2 k.2 k.3 in
        (legs_same_keep s v o ls g h c.3 m.binding w.0 k.0, way_keeps e Other g h w.1 c.4 m k.1, i.0, i.1)
    way_keeps (iterate a e b f) at g h w c m k =
        (way_keeps e Other g h w.0 c.1 m k.0, same_keeps s v f (in_turn b g) (in_turn b h) (same_of s v f (from_within o) (in_turn b g) (in_turn b h) c.2 (binding_in_turn s o g h b c.0.0 m.binding) w.1) k.1)

    way_keep_among : (a : At) (es : ExprTrees) (g h : Named Origin) → WayAmong s p es → AllBind (IsClear s v) es → On g h → AllKeep es h → AllKeep (put_in_all s v es) g
    way_keep_among a no_exprs g h w c m k = tt
    way_keep_among a (more_exprs e es) g h (inl w) c m k = (way_keeps e Other g h w.0 c.0 m k.0, all_same_keep a es g h c.1 m w.1 k.1)
    way_keep_among a (more_exprs e es) g h (inr w) c m k = (same_keeps s v e g h (same_on e g h c.0 m w.0) k.0, way_keep_among a es g h w.1 c.1 m k.1)

    way_keep_leg : (l : LegTree) (g h : Named Origin) → WayInLeg s p l → LegBinds (IsClear s v) l → On g h → LegKeeps l h → LegKeeps (put_in_leg s v l) g
    way_keep_leg (whole e) g h w c m k = way_keeps e Leg g h w c m k
    way_keep_leg (strided e f i j) g h (inl w) c m k =
        (way_keeps e Other g h w.0 c.0 m k.0, same_keeps s v f g h (same_on f g h c.1 m w.1) k.1, same_keeps s v i g h (same_on i g h c.2 m w.2) k.2, same_keeps s v j g h (same_on j g h c.3 m w.3) k.3)
    way_keep_leg (strided e f i j) g h (inr (inl w)) c m k =
        (same_keeps s v e g h (same_on e g h c.0 m w.0) k.0, way_keeps f Other g h w.1 c.1 m k.1, same_keeps s v i g h (same_on i g h c.2 m w.2) k.2, same_keeps s v j g h (same_on j g h c.3 m w.3) k.3)
    way_keep_leg (strided e f i j) g h (inr (inr (inl w))) c m k =
        (same_keeps s v e g h (same_on e g h c.0 m w.0) k.0, same_keeps s v f g h (same_on f g h c.1 m w.1) k.1, way_keeps i Other g h w.2 c.2 m k.2, same_keeps s v j g h (same_on j g h c.3 m w.3) k.3)
    way_keep_leg (strided e f i j) g h (inr (inr (inr w))) c m k =
        (same_keeps s v e g h (same_on e g h c.0 m w.0) k.0, same_keeps s v f g h (same_on f g h c.1 m w.1) k.1, same_keeps s v i g h (same_on i g h c.2 m w.2) k.2, way_keeps j Other g h w.3 c.3 m k.3)

    way_keep_legs : (ls : LegTrees) (g h : Named Origin) → WayInLegs s p ls → LegsBind (IsClear s v) ls → On g h → LegsKeep ls h → LegsKeep (put_in_legs s v ls) g
    way_keep_legs no_legs g h w c m k = tt
    way_keep_legs (more_legs l ls) g h (inl w) c m k = (way_keep_leg l g h w.0 c.0 m k.0, legs_same_keep s v o ls g h c.1 m.binding w.1 k.1)
    way_keep_legs (more_legs l ls) g h (inr w) c m k = (leg_same_keeps s v o l g h c.0 m.binding w.0 k.0, way_keep_legs ls g h w.1 c.1 m k.1)
