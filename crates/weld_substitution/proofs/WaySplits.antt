-- Where a name's only use, on the way, becomes the value, each builder is still taken once.
use Rattle.std.proofs.Common.{◌≡◌, ℕ, if◌then◌else◌, true, ◌||◌, ◌∷◌, Option, Some, None, refl, ap, sym, subst, ◌∙◌, inl, inr}
use Rattle.weld_tree.specs.declared.binder.Binder.{Binder}
use Rattle.weld_tree.specs.ExprTree.{At, ExprTree, leaf, one, two, three, many, let_in, loop, iterate, ExprTrees, no_exprs, more_exprs, LegTree, whole, strided, LegTrees, no_legs, more_legs, Leaf, int, truth, chars, name, fresh, One, neg, not, cast, len, field, finish, started}
use Rattle.weld_meaning.specs.Environment.{Named}
use Rattle.weld_meaning.specs.Origin.{Path, Origin, value, is_value, field_origin, known_origin, origin_of_name, origin, own_paths, from_within, in_body, in_turn}
use Rattle.weld_meaning.specs.Available.{Taken, TakesAll, without, chain_of_one, chain_of, chain_takes, takes, some_take, leg_takes, legs_take, ChainSplits, OneSplits, TwoSplits, Splits, AllSplit, LegSplits, LegsSplit}
use Rattle.weld_meaning.specs.Names.{IsFree, put_in_leaf, put, put_in_all, put_in_leg, put_in_legs, Binds, AllBind, LegBinds, LegsBind, IsClear}
use Rattle.weld_meaning.proofs.FreeNames.{taken_free}
use Rattle.weld_rewriting.proofs.Nodes.{apart_same}
use Rattle.weld_substitution.specs.Uses.{is_name, uses}
use Rattle.weld_substitution.specs.declared.put_anywhere.spot.Spot.{Spot}
use Rattle.weld_substitution.specs.declared.put_anywhere.spot.Spot.TheVariants.{Leg, Field, Other}
use Rattle.weld_substitution.specs.Redex.{spot_below}
use Rattle.weld_substitution.proofs.Bindings.{binding_in_body, binding_in_turn, agree_over}
use Rattle.weld_substitution.proofs.Chains.{chain_of_part, chain_origin}
use Rattle.weld_substitution.proofs.ValueRules.{none_put}
use Rattle.weld_substitution.proofs.Following.{taken_by_chain}
use Rattle.weld_substitution.proofs.Way.{Way, WayAmong, WayInLeg, WayInLegs}
use Rattle.weld_substitution.proofs.Gaining.{same_of, same_splits, same_taken, Gains, Besides, gains_without, besides_without, Free, free_first, free_second, free_without, apart_first, apart_second, leg_besides, legs_besides, leg_same_splits, legs_same_split, chain_gone}
use Rattle.weld_substitution.proofs.WayRules.{two_unit, three_apart, apart_three, three_same, On, on_behind, from_on, same_on, besides_on, value_besides, chain_used, chain_field, way_gains, way_gains_among, among_besides, way_gains_leg, way_gains_legs, all_same_split}

module _ (s : ℕ) (v : ExprTree) (p : Spot) (o : Origin) (none : chain_of v ≡ None) (valued : p ≡ Field → o ≡ value) where
  abbrev Here : Named Origin → Named Origin → Type 0
  Here g h = On s v p o none valued g h

  from : (e : ExprTree) (g h : Named Origin) → Binds (IsClear s v) e → Here g h → origin (put s v e) g ≡ origin e h
  from e g h c m = from_on s v p o none valued e g h c m

  behind : (g h : Named Origin) (b : ℕ) (y : Origin) → IsClear s v b → Here g h → Here ((b, y) ∷ g) ((b, y) ∷ h)
  behind g h b y c m = on_behind s v p o none valued g h b y c m

  stays : (e : ExprTree) (g h : Named Origin) → Binds (IsClear s v) e → Here g h → uses e s ≡ 0 → Splits e h → Splits (put s v e) g
  stays e g h c m z k = same_splits s v e g h (same_on s v p o none valued e g h c m z) k

  besides : (e : ExprTree) (g h : Named Origin) → Binds (IsClear s v) e → Here g h → uses e s ≡ 0 → Besides s (takes (put s v e) g) (takes e h)
  besides e g h c m z = besides_on s v p o none valued e g h c m z

  gains : (e : ExprTree) (at : Spot) (g h : Named Origin) → Way s at p e → Binds (IsClear s v) e → Here g h → Gains s (takes v g) (takes (put s v e) g) (takes e h)
  gains e at g h w c m = way_gains s v p o none valued e at g h w c m

  -- ---- leaves and nodes of one part

  leaf_way_splits : (a : At) (l : Leaf) (g : Named Origin) → Splits v g → is_name l s ≡ true → Splits (put_in_leaf s v a l) g
  leaf_way_splits a (int k x) g m e = tt
  leaf_way_splits a (truth b) g m e = tt
  leaf_way_splits a (chars bs) g m e = tt
  leaf_way_splits a (name x) g m e = subst (λ b. Splits (if b then v else leaf a (name x)) g) (sym e) m
  leaf_way_splits a (fresh b) g m e = tt

  -- under a field access the value is no builder
  field_way_splits : (n : ℕ) (e : ExprTree) (g h : Named Origin) → Way s Field p e → Binds (IsClear s v) e → Here g h → ChainSplits (chain_of e) (field_origin n (origin e h)) → ChainSplits (chain_of (put s v e)) (field_origin n (origin (put s v e) g))
  field_way_splits n e g h w c m k = by (chain_of e) refl k
    where
      gone : (d : ℕ × Path) → chain_of e ≡ Some d → ChainSplits (chain_of (put s v e)) (field_origin n (origin (put s v e) g))
      gone d i =
          let named = chain_used s v p o none valued e d Field i w in
          let here : origin_of_name d.0 h ≡ value = subst (λ x. origin_of_name x h ≡ value) named (ap known_origin m.binding.there ∙ valued (chain_field s v p o none valued e d i w)) in
          subst (λ y. ChainSplits y (field_origin n (origin (put s v e) g))) (sym (chain_gone s v e d none i named))
          (ap (λ y. is_value (field_origin n y)) (from e g h c m ∙ chain_origin h e d i here))

      by : (d : Option (ℕ × Path)) → chain_of e ≡ d → ChainSplits d (field_origin n (origin e h)) → ChainSplits (chain_of (put s v e)) (field_origin n (origin (put s v e) g))
      by (Some d) i q = gone d i
      by None i q = subst (λ y. ChainSplits y (field_origin n (origin (put s v e) g))) (sym (none_put s v e i)) (ap (λ y. is_value (field_origin n y)) (from e g h c m) ∙ q)

  one_way_splits : (k : One) (e : ExprTree) (g h : Named Origin) → Way s (spot_below k) p e → Binds (IsClear s v) e → Here g h → OneSplits k e (origin e h) → OneSplits k (put s v e) (origin (put s v e) g)
  one_way_splits neg e g h w c m q = tt
  one_way_splits not e g h w c m q = tt
  one_way_splits (cast x) e g h w c m q = tt
  one_way_splits len e g h w c m q = tt
  one_way_splits (field n) e g h w c m q = field_way_splits n e g h w c m q
  one_way_splits finish e g h w c m q = tt
  one_way_splits (started b) e g h w c m q = tt

  -- what the value takes isn't taken in a node's part besides, where it isn't in the node
  part_free : (a : At) (k : One) (e : ExprTree) (g h : Named Origin) → Way s (spot_below k) p e → Free s (takes v g) (takes (one a k e) h) → Free s (takes v g) (takes e h)
  part_free a k e g h w z = by (chain_of_one k (chain_of e)) refl
    where
      by : (d : Option (ℕ × Path)) → chain_of_one k (chain_of e) ≡ d → Free s (takes v g) (takes e h)
      by (Some d) i =
          let part = chain_of_part k (chain_of e) d i in
          let named = chain_used s v p o none valued e part.0 (spot_below k) part.1 w in
          record { free = λ t q x ne u. ne (sym (named ∙ (taken_by_chain e part.0 h t q part.1 u).0)) }
      by None i =
          let same : takes (one a k e) h ≡ takes e h = λ j t q. chain_takes (i j) h t q (takes e h t q) in
          subst (Free s (takes v g)) same z

  -- behind a binder within, the value takes what it took
  value_over : (g : Named Origin) (b : ℕ) (y : Origin) → IsClear s v b → takes v g ≡ takes v ((b, y) ∷ g)
  value_over g b y c = taken_free v g ((b, y) ∷ g) (agree_over (IsFree v) b y g c.1)

  -- the body of a loop, without the name
  body_splits : (e : ExprTree) (b n y : Binder) (f : ExprTree) (g h : Named Origin) → Binds (IsClear s v) e → IsClear s v b.sym.0 → IsClear s v n.sym.0 → IsClear s v y.sym.0 → Binds (IsClear s v) f → Here g h → uses f s ≡ 0 → Splits f (in_body b n y (origin e h) h) → TakesAll b.sym.0 (own_paths (origin e h)) (takes f (in_body b n y (origin e h) h)) → Splits (put s v f) (in_body b n y (origin (put s v e) g) g) × TakesAll b.sym.0 (own_paths (origin (put s v e) g)) (takes (put s v f) (in_body b n y (origin (put s v e) g) g))
  body_splits e b n y f g h ce cb cn cy cf m z k q =
      let back = sym (from e g h ce m) in
      let same = same_of s v f (from_within o) (in_body b n y (origin e h) g) (in_body b n y (origin e h) h) cf (binding_in_body s o (origin e h) g h b n y cb.0 cn.0 cy.0 m.binding) z in (
        subst (λ d. Splits (put s v f) (in_body b n y d g)) back (same_splits s v f _ _ same k),
        subst (λ d. TakesAll b.sym.0 (own_paths d) (takes (put s v f) (in_body b n y d g))) back (subst (TakesAll b.sym.0 (own_paths (origin e h))) (sym (same_taken s v f _ _ same)) q),
      )

  -- ---- all nodes

  mutual
    pub way_splits : (e : ExprTree) (at : Spot) (g h : Named Origin) → Way s at p e → Binds (IsClear s v) e → Here g h → Free s (takes v g) (takes e h) → Splits e h → Splits (put s v e) g
    way_splits (leaf a l) at g h w c m z q = leaf_way_splits a l g m.splits w.0
    way_splits (one a k e) at g h w c m z q =
        (way_splits e (spot_below k) g h w c m (part_free a k e g h w z) q.0, one_way_splits k e g h w c m q.1)
    way_splits (two a k e f) at g h (inl w) c m z q =
        let u = besides f g h c.1 m w.1 in (
          way_splits e Other g h w.0 c.0 m (free_first s _ (takes e h) (takes f h) z) q.0,
          stays f g h c.1 m w.1 q.1,
          apart_first s (takes v g) _ _ (takes e h) (takes f h) (gains e Other g h w.0 c.0 m) u (free_second s _ (takes e h) (takes f h) z) q.2,
          subst (TwoSplits k) (sym u.same) q.3,
        )
    way_splits (two a k e f) at g h (inr w) c m z q = (
      stays e g h c.0 m w.0 q.0,
      way_splits f Other g h w.2 c.1 m (free_second s _ (takes e h) (takes f h) z) q.1,
      apart_second s (takes v g) _ _ (takes e h) (takes f h) (besides e g h c.0 m w.0) (gains f Other g h w.2 c.1 m) (free_first s _ (takes e h) (takes f h) z) q.2,
      two_unit k (takes (put s v f) g) w.1,
    )
    way_splits (three a k d e f) at g h (inl w) c m z q =
        let i = gains d Other g h w.0 c.0 m in let j = besides e g h c.1 m w.1 in let l = besides f g h c.2 m w.2 in
        let rest = free_second s _ (takes d h) (λ t b. takes e h t b || takes f h t b) z in (
          way_splits d Other g h w.0 c.0 m (free_first s _ (takes d h) (λ t b. takes e h t b || takes f h t b) z) q.0,
          stays e g h c.1 m w.1 q.1,
          stays f g h c.2 m w.2 q.2,
          apart_first s (takes v g) _ _ (takes d h) (takes e h) i j (free_first s _ (takes e h) (takes f h) rest) q.3,
          apart_first s (takes v g) _ _ (takes d h) (takes f h) i l (free_second s _ (takes e h) (takes f h) rest) q.4,
          three_same k _ _ (takes e h) (takes f h) j.same l.same q.5,
        )
    way_splits (three a k d e f) at g h (inr (inl w)) c m z q =
        let i = besides d g h c.0 m w.0 in let j = gains e Other g h w.2 c.1 m in let l = besides f g h c.2 m w.3 in
        let first = free_first s _ (takes d h) (λ t b. takes e h t b || takes f h t b) z in
        let rest = free_second s _ (takes d h) (λ t b. takes e h t b || takes f h t b) z in (
          stays d g h c.0 m w.0 q.0,
          way_splits e Other g h w.2 c.1 m (free_first s _ (takes e h) (takes f h) rest) q.1,
          stays f g h c.2 m w.3 q.2,
          apart_second s (takes v g) _ _ (takes d h) (takes e h) i j first q.3,
          apart_same _ _ (takes d h) (takes f h) i.same l.same q.4,
          apart_three k _ _ w.1 (apart_first s (takes v g) _ _ (takes e h) (takes f h) j l (free_second s _ (takes e h) (takes f h) rest) (three_apart k _ _ w.1 q.5)),
        )
    way_splits (three a k d e f) at g h (inr (inr w)) c m z q =
        let i = besides d g h c.0 m w.0 in let j = besides e g h c.1 m w.2 in let l = gains f Other g h w.3 c.2 m in
        let first = free_first s _ (takes d h) (λ t b. takes e h t b || takes f h t b) z in
        let rest = free_second s _ (takes d h) (λ t b. takes e h t b || takes f h t b) z in (
          stays d g h c.0 m w.0 q.0,
          stays e g h c.1 m w.2 q.1,
          way_splits f Other g h w.3 c.2 m (free_second s _ (takes e h) (takes f h) rest) q.2,
          apart_same _ _ (takes d h) (takes e h) i.same j.same q.3,
          apart_second s (takes v g) _ _ (takes d h) (takes f h) i l first q.4,
          apart_three k _ _ w.1 (apart_second s (takes v g) _ _ (takes e h) (takes f h) j l (free_first s _ (takes e h) (takes f h) rest) (three_apart k _ _ w.1 q.5)),
        )
    way_splits (many a k es) at g h w c m z q = way_split_among a es g h w c m z q
    way_splits (let_in a b e f) at g h (inl w) c m z q =
        let back = sym (from e g h c.1 m) in
        let inner = behind g h b.sym.0 (origin e h) c.0 m in
        let u = subst (λ T. Besides s T (takes f ((b.sym.0, origin e h) ∷ h))) (ap (λ y. takes (put s v f) ((b.sym.0, y) ∷ g)) back) (besides f _ _ c.2 inner w.1) in
        let later = without b.sym.0 (takes f ((b.sym.0, origin e h) ∷ h)) in (
          way_splits e Other g h w.0 c.1 m (free_first s _ (takes e h) later z) q.0,
          subst (λ y. Splits (put s v f) ((b.sym.0, y) ∷ g)) back (stays f _ _ c.2 inner w.1 q.1),
          apart_first s (takes v g) _ _ (takes e h) later (gains e Other g h w.0 c.1 m) (besides_without s b.sym.0 _ _ u) (free_second s _ (takes e h) later z) q.2,
          subst (λ y. TakesAll b.sym.0 y (takes (put s v f) ((b.sym.0, origin (put s v e) g) ∷ g))) back (subst (TakesAll b.sym.0 (origin e h)) (sym u.same) q.3),
        )
    way_splits (let_in a b e f) at g h (inr w) c m z q =
        let back = sym (from e g h c.1 m) in
        let inner = behind g h b.sym.0 (origin e h) c.0 m in
        let T : Taken = takes f ((b.sym.0, origin e h) ∷ h) in
        let later = without b.sym.0 T in
        let over = value_over g b.sym.0 (origin e h) c.0 in
        let rest : Free s (takes v g) T = free_without s b.sym.0 (takes v g) T (value_besides s v p o none valued g b.sym.0 c.0) (free_second s _ (takes e h) later z) in
        let i = gains f Other _ _ w.1 c.2 inner in
        let j : Gains s (takes v g) (takes (put s v f) ((b.sym.0, origin (put s v e) g) ∷ g)) T =
        subst (λ U. Gains s (takes v g) U T) (ap (λ y. takes (put s v f) ((b.sym.0, y) ∷ g)) back) (subst (λ V. Gains s V (takes (put s v f) ((b.sym.0, origin e h) ∷ g)) T) (sym over) i) in (
          stays e g h c.1 m w.0 q.0,
          subst (λ y. Splits (put s v f) ((b.sym.0, y) ∷ g)) back (way_splits f Other _ _ w.1 c.2 inner (subst (λ V. Free s V T) over rest) q.1),
          apart_second s (takes v g) _ _ (takes e h) later (besides e g h c.1 m w.0) (gains_without s b.sym.0 (takes v g) _ T (value_besides s v p o none valued g b.sym.0 c.0) j) (free_first s _ (takes e h) later z) q.2,
          subst (λ y. TakesAll b.sym.0 y (takes (put s v f) ((b.sym.0, origin (put s v e) g) ∷ g))) back (record { all = λ r k. j.back b.sym.0 r (λ x. c.0.0 (sym x)) (q.3.all r k) }),
        )
    way_splits (loop a ls e b n y f) at g h (inl w) c m z q =
        let i = body_splits e b n y f g h c.4 c.0 c.1 c.2 c.5 m w.2 q.3 q.4 in (
          way_split_legs ls g h w.0 c.3 m (free_first s _ (legs_take ls h) (takes e h) z) q.0,
          stays e g h c.4 m w.1 q.1,
          apart_first s (takes v g) _ _ (legs_take ls h) (takes e h) (way_gains_legs s v p o none valued ls g h w.0 c.3 m) (besides e g h c.4 m w.1) (free_second s _ (legs_take ls h) (takes e h) z) q.2,
          i.0,
          i.1,
        )
    way_splits (loop a ls e b n y f) at g h (inr w) c m z q =
        let i = body_splits e b n y f g h c.4 c.0 c.1 c.2 c.5 m w.2 q.3 q.4 in (
          legs_same_split s v o ls g h c.3 m.binding w.0 q.0,
          way_splits e Other g h w.1 c.4 m (free_second s _ (legs_take ls h) (takes e h) z) q.1,
          apart_second s (takes v g) _ _ (legs_take ls h) (takes e h) (legs_besides s v o ls g h c.3 m.binding w.0) (gains e Other g h w.1 c.4 m) (free_first s _ (legs_take ls h) (takes e h) z) q.2,
          i.0,
          i.1,
        )
    way_splits (iterate a e b f) at g h w c m z q = (
      way_splits e Other g h w.0 c.1 m z q.0,
      same_splits s v f (in_turn b g) (in_turn b h) (same_of s v f (from_within o) (in_turn b g) (in_turn b h) c.2 (binding_in_turn s o g h b c.0.0 m.binding) w.1) q.1,
    )

    way_split_among : (a : At) (es : ExprTrees) (g h : Named Origin) → WayAmong s p es → AllBind (IsClear s v) es → Here g h → Free s (takes v g) (some_take es h) → AllSplit es h → AllSplit (put_in_all s v es) g
    way_split_among a no_exprs g h w c m z q = tt
    way_split_among a (more_exprs e es) g h (inl w) c m z q = (
      way_splits e Other g h w.0 c.0 m (free_first s _ (takes e h) (some_take es h) z) q.0,
      all_same_split s v p o none valued a es g h c.1 m w.1 q.1,
      apart_first s (takes v g) _ _ (takes e h) (some_take es h) (gains e Other g h w.0 c.0 m) (among_besides s v p o none valued es g h c.1 m w.1) (free_second s _ (takes e h) (some_take es h) z) q.2,
    )
    way_split_among a (more_exprs e es) g h (inr w) c m z q = (
      stays e g h c.0 m w.0 q.0,
      way_split_among a es g h w.1 c.1 m (free_second s _ (takes e h) (some_take es h) z) q.1,
      apart_second s (takes v g) _ _ (takes e h) (some_take es h) (besides e g h c.0 m w.0) (way_gains_among s v p o none valued es g h w.1 c.1 m) (free_first s _ (takes e h) (some_take es h) z) q.2,
    )

    way_split_leg : (l : LegTree) (g h : Named Origin) → WayInLeg s p l → LegBinds (IsClear s v) l → Here g h → Free s (takes v g) (leg_takes l h) → LegSplits l h → LegSplits (put_in_leg s v l) g
    way_split_leg (whole e) g h w c m z q = way_splits e Leg g h w c m z q
    way_split_leg (strided e f i j) g h (inl w) c m z q =
        let ze = free_first s _ (takes e h) (λ t b. takes f h t b || (takes i h t b || takes j h t b)) z in let ra = free_second s _ (takes e h) (λ t b. takes f h t b || (takes i h t b || takes j h t b)) z in
        let zf = free_first s _ (takes f h) (λ t b. takes i h t b || takes j h t b) ra in let rb = free_second s _ (takes f h) (λ t b. takes i h t b || takes j h t b) ra in
        let zi = free_first s _ (takes i h) (takes j h) rb in let zj = free_second s _ (takes i h) (takes j h) rb in
        let be = gains e Other g h w.0 c.0 m in
        let bf = besides f g h c.1 m w.1 in
        let bi = besides i g h c.2 m w.2 in
        let bj = besides j g h c.3 m w.3 in (
          way_splits e Other g h w.0 c.0 m ze q.0,
          stays f g h c.1 m w.1 q.1,
          stays i g h c.2 m w.2 q.2,
          stays j g h c.3 m w.3 q.3,
          apart_first s (takes v g) _ _ (takes e h) (takes f h) be bf zf q.4,
          apart_first s (takes v g) _ _ (takes e h) (takes i h) be bi zi q.5,
          apart_first s (takes v g) _ _ (takes e h) (takes j h) be bj zj q.6,
          apart_same _ _ (takes f h) (takes i h) bf.same bi.same q.7,
          apart_same _ _ (takes f h) (takes j h) bf.same bj.same q.8,
          apart_same _ _ (takes i h) (takes j h) bi.same bj.same q.9,
        )
    way_split_leg (strided e f i j) g h (inr (inl w)) c m z q =
        let ze = free_first s _ (takes e h) (λ t b. takes f h t b || (takes i h t b || takes j h t b)) z in let ra = free_second s _ (takes e h) (λ t b. takes f h t b || (takes i h t b || takes j h t b)) z in
        let zf = free_first s _ (takes f h) (λ t b. takes i h t b || takes j h t b) ra in let rb = free_second s _ (takes f h) (λ t b. takes i h t b || takes j h t b) ra in
        let zi = free_first s _ (takes i h) (takes j h) rb in let zj = free_second s _ (takes i h) (takes j h) rb in
        let be = besides e g h c.0 m w.0 in
        let bf = gains f Other g h w.1 c.1 m in
        let bi = besides i g h c.2 m w.2 in
        let bj = besides j g h c.3 m w.3 in (
          stays e g h c.0 m w.0 q.0,
          way_splits f Other g h w.1 c.1 m zf q.1,
          stays i g h c.2 m w.2 q.2,
          stays j g h c.3 m w.3 q.3,
          apart_second s (takes v g) _ _ (takes e h) (takes f h) be bf ze q.4,
          apart_same _ _ (takes e h) (takes i h) be.same bi.same q.5,
          apart_same _ _ (takes e h) (takes j h) be.same bj.same q.6,
          apart_first s (takes v g) _ _ (takes f h) (takes i h) bf bi zi q.7,
          apart_first s (takes v g) _ _ (takes f h) (takes j h) bf bj zj q.8,
          apart_same _ _ (takes i h) (takes j h) bi.same bj.same q.9,
        )
    way_split_leg (strided e f i j) g h (inr (inr (inl w))) c m z q =
        let ze = free_first s _ (takes e h) (λ t b. takes f h t b || (takes i h t b || takes j h t b)) z in let ra = free_second s _ (takes e h) (λ t b. takes f h t b || (takes i h t b || takes j h t b)) z in
        let zf = free_first s _ (takes f h) (λ t b. takes i h t b || takes j h t b) ra in let rb = free_second s _ (takes f h) (λ t b. takes i h t b || takes j h t b) ra in
        let zi = free_first s _ (takes i h) (takes j h) rb in let zj = free_second s _ (takes i h) (takes j h) rb in
        let be = besides e g h c.0 m w.0 in
        let bf = besides f g h c.1 m w.1 in
        let bi = gains i Other g h w.2 c.2 m in
        let bj = besides j g h c.3 m w.3 in (
          stays e g h c.0 m w.0 q.0,
          stays f g h c.1 m w.1 q.1,
          way_splits i Other g h w.2 c.2 m zi q.2,
          stays j g h c.3 m w.3 q.3,
          apart_same _ _ (takes e h) (takes f h) be.same bf.same q.4,
          apart_second s (takes v g) _ _ (takes e h) (takes i h) be bi ze q.5,
          apart_same _ _ (takes e h) (takes j h) be.same bj.same q.6,
          apart_second s (takes v g) _ _ (takes f h) (takes i h) bf bi zf q.7,
          apart_same _ _ (takes f h) (takes j h) bf.same bj.same q.8,
          apart_first s (takes v g) _ _ (takes i h) (takes j h) bi bj zj q.9,
        )
    way_split_leg (strided e f i j) g h (inr (inr (inr w))) c m z q =
        let ze = free_first s _ (takes e h) (λ t b. takes f h t b || (takes i h t b || takes j h t b)) z in let ra = free_second s _ (takes e h) (λ t b. takes f h t b || (takes i h t b || takes j h t b)) z in
        let zf = free_first s _ (takes f h) (λ t b. takes i h t b || takes j h t b) ra in let rb = free_second s _ (takes f h) (λ t b. takes i h t b || takes j h t b) ra in
        let zi = free_first s _ (takes i h) (takes j h) rb in let zj = free_second s _ (takes i h) (takes j h) rb in
        let be = besides e g h c.0 m w.0 in
        let bf = besides f g h c.1 m w.1 in
        let bi = besides i g h c.2 m w.2 in
        let bj = gains j Other g h w.3 c.3 m in (
          stays e g h c.0 m w.0 q.0,
          stays f g h c.1 m w.1 q.1,
          stays i g h c.2 m w.2 q.2,
          way_splits j Other g h w.3 c.3 m zj q.3,
          apart_same _ _ (takes e h) (takes f h) be.same bf.same q.4,
          apart_same _ _ (takes e h) (takes i h) be.same bi.same q.5,
          apart_second s (takes v g) _ _ (takes e h) (takes j h) be bj ze q.6,
          apart_same _ _ (takes f h) (takes i h) bf.same bi.same q.7,
          apart_second s (takes v g) _ _ (takes f h) (takes j h) bf bj zf q.8,
          apart_second s (takes v g) _ _ (takes i h) (takes j h) bi bj zi q.9,
        )

    way_split_legs : (ls : LegTrees) (g h : Named Origin) → WayInLegs s p ls → LegsBind (IsClear s v) ls → Here g h → Free s (takes v g) (legs_take ls h) → LegsSplit ls h → LegsSplit (put_in_legs s v ls) g
    way_split_legs no_legs g h w c m z q = tt
    way_split_legs (more_legs l ls) g h (inl w) c m z q = (
      way_split_leg l g h w.0 c.0 m (free_first s _ (leg_takes l h) (legs_take ls h) z) q.0,
      legs_same_split s v o ls g h c.1 m.binding w.1 q.1,
      apart_first s (takes v g) _ _ (leg_takes l h) (legs_take ls h) (way_gains_leg s v p o none valued l g h w.0 c.0 m) (legs_besides s v o ls g h c.1 m.binding w.1) (free_second s _ (leg_takes l h) (legs_take ls h) z) q.2,
    )
    way_split_legs (more_legs l ls) g h (inr w) c m z q = (
      leg_same_splits s v o l g h c.0 m.binding w.0 q.0,
      way_split_legs ls g h w.1 c.1 m (free_second s _ (leg_takes l h) (legs_take ls h) z) q.1,
      apart_second s (takes v g) _ _ (leg_takes l h) (legs_take ls h) (leg_besides s v o l g h c.0 m.binding w.0) (way_gains_legs s v p o none valued ls g h w.1 c.1 m) (free_first s _ (leg_takes l h) (legs_take ls h) z) q.2,
    )
