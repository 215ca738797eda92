-- Where a chain of builder type is put in a name's place, the rules of linear use are kept.
use Rattle.std.proofs.Common.{◌≡◌, ◌≢◌, ℕ, ◌==◌, if◌then◌else◌, Bool, true, false, ◌||◌, ◌∷◌, ◌++◌, Option, Some, None, refl, ap, sym, subst, ◌∙◌, eq-eqb, ne_eqb, ◌⊎◌, inl, inr}
use Rattle.std.proofs.lemmas.Bool.{cases_eq}
use Rattle.weld_tree.specs.ExprTree.{At, ExprTree, leaf, one, two, three, many, let_in, loop, iterate, ExprTrees, no_exprs, more_exprs, LegTree, whole, strided, LegTrees, no_legs, more_legs, Leaf, int, truth, chars, name, fresh, One, neg, not, cast, len, field, finish, started, Two, binary, and, or, look_up, key_exists, merge, Three, if_else, select, slice}
use Rattle.weld_meaning.specs.Environment.{Named}
use Rattle.weld_meaning.specs.Origin.{Path, Origin, is_value, field_origin, known_origin, origin, own_paths, from_within, in_body, in_turn, by_name, named_below}
use Rattle.weld_meaning.specs.Linear.{IsSeen, IsNotMade, LeafKeeps, OneKeeps, ThreeKeeps, Keeps, AllKeep, LegKeeps, LegsKeep}
use Rattle.weld_meaning.specs.Available.{Taken, TakesAll, without, chain_of_one, chain_of, chain_takes, takes, some_take, leg_takes, legs_take, ChainSplits, OneSplits, TwoSplits, ThreeSplits, Splits, AllSplit, LegSplits, LegsSplit}
use Rattle.weld_meaning.specs.Names.{IsFree, AgreeOn, put_in_leaf, put, put_in_all, put_in_leg, put_in_legs, Binds, AllBind, LegBinds, LegsBind, IsClear}
use Rattle.weld_meaning.proofs.FreeNames.{origin_free, keeps_free, taken_free, splits_free}
use Rattle.weld_substitution.proofs.Bindings.{Binding, binding_first, binding_by_name, binding_in_body, binding_in_turn, agree_besides}
use Rattle.weld_substitution.proofs.PutOrigins.{origin_put}
use Rattle.weld_substitution.proofs.Chains.{chain_of_part, chain_keeps, chain_apart}
use Rattle.weld_substitution.proofs.ValueRules.{chain_other, none_put}
use Rattle.weld_substitution.proofs.Moved.{moved, origin_moved, moves_by_name, not_made_moved, chain_by_name}
use Rattle.weld_substitution.proofs.Unnamed.{unnamed_put, agree_back, kept_seen}
use Rattle.weld_substitution.proofs.Following.{Chained, Led, led_behind, clear_root, Follows, put_follows, all_follow, leg_follows, legs_follow, without_follows, Tame, tame_first, tame_second, tame_without, apart_moved, alike_moved, none_moved, all_moved, chain_here}

module _ (s : ℕ) (v : ExprTree) (x : ℕ) (p : Path) (o r : Origin) (w : Chained s v x p o r) (seen : IsSeen r) where
  -- the two environments
  abbrev Leads : Named Origin → Named Origin → Type 0
  Leads g h = Led s v x p o r w g h

  abbrev IsTame : Taken → Type 0
  IsTame T = Tame s v x p o r w T

  from_led : (e : ExprTree) (g h : Named Origin) → Binds (IsClear s v) e → Leads g h → origin (put s v e) g ≡ origin e h
  from_led e g h c l = origin_put e s v o g h c l.binding l.from

  by_name_led : (e : ExprTree) (g h : Named Origin) → Binds (IsClear s v) e → Leads g h → origin (put s v e) (by_name g) ≡ moved s x p (origin e (by_name h))
  by_name_led e g h c l =
      let ov = origin v (by_name g) in
      let outer : Binding s ov (by_name g) ((s, ov) ∷ by_name h) = record {
        others = λ t ne. (binding_by_name s o g h l.binding).others t ne ∙ (binding_first s ov (by_name h)).others t ne;
        there = (binding_first s ov (by_name h)).there;
      } in
      origin_put e s v ov (by_name g) ((s, ov) ∷ by_name h) c outer refl
      ∙ origin_moved s x p e (by_name h) ((s, ov) ∷ by_name h) (moves_by_name s x p o ov h l.binding.there (chain_by_name g v (x, p) w.chain ∙ ap (named_below x p) l.from))

  -- ---- lambdas: the name isn't seen within, so it doesn't occur there

  not_within : (f : ExprTree) (g h : Named Origin) → Binding s (from_within o) g h → Keeps f h → IsFree f s → ⊥
  not_within f g h b k y = w.hidden (subst IsSeen (ap known_origin b.there) (kept_seen f h s k y))

  -- what stays as it is
  record Stays (f : ExprTree) (g h : Named Origin) : Type 0 where
    pub same : put s v f ≡ f
    pub agree : AgreeOn (IsFree f) h g

  stays_within : (f : ExprTree) (g h : Named Origin) → Binds (IsClear s v) f → Binding s (from_within o) g h → Keeps f h → Stays f g h
  stays_within f g h c b k = record {
    same = unnamed_put s v f c (not_within f g h b k);
    agree = agree_back (IsFree f) g h (agree_besides (IsFree f) s (from_within o) g h (not_within f g h b k) b);
  }

  stays_keeps : (f : ExprTree) (g h : Named Origin) → Stays f g h → Keeps f h → Keeps (put s v f) g
  stays_keeps f g h y k = subst (λ e. Keeps e g) (sym y.same) (keeps_free f h g y.agree k)

  stays_from : (f : ExprTree) (g h : Named Origin) → Stays f g h → origin (put s v f) g ≡ origin f h
  stays_from f g h y = ap (λ e. origin e g) y.same ∙ sym (origin_free f h g y.agree)

  stays_splits : (f : ExprTree) (g h : Named Origin) → Stays f g h → Splits f h → Splits (put s v f) g
  stays_splits f g h y k = subst (λ e. Splits e g) (sym y.same) (splits_free f h g y.agree k)

  stays_taken : (f : ExprTree) (g h : Named Origin) → Stays f g h → takes (put s v f) g ≡ takes f h
  stays_taken f g h y = ap (λ e. takes e g) y.same ∙ sym (taken_free f h g y.agree)

  -- ---- the rules on origins

  leaf_led_keeps : (a : At) (l : Leaf) (g h : Named Origin) → Leads g h → LeafKeeps l h → Keeps (put_in_leaf s v a l) g
  leaf_led_keeps a (int k y) g h l q = tt
  leaf_led_keeps a (truth b) g h l q = tt
  leaf_led_keeps a (chars bs) g h l q = tt
  leaf_led_keeps a (name y) g h l q = by (cases_eq s y)
    where
      by : (s ≡ y) ⊎ (s ≢ y) → Keeps (if s == y then v else leaf a (name y)) g
      by (inl e) = rw (eq-eqb s y e) (chain_keeps g v (x, p) w.chain (subst IsSeen (sym l.root) seen))
      by (inr ne) = rw (ne_eqb s y ne) (subst (λ m. IsSeen (known_origin m)) (sym (l.binding.others y (λ e. ne (sym e)))) q)
  leaf_led_keeps a (fresh b) g h l q = tt

  three_led_keep : (k : Three) (e f : ExprTree) (g h : Named Origin) → Binds (IsClear s v) e → Binds (IsClear s v) f → Leads g h → ThreeKeeps k e f h → ThreeKeeps k (put s v e) (put s v f) g
  three_led_keep if_else e f g h c d l k =
      let i = by_name_led e g h c l in let j = by_name_led f g h d l in
      record { same = i ∙ ap (moved s x p) k.same ∙ sym j; not_made = subst IsNotMade (sym i) (not_made_moved s x p (origin e (by_name h)) k.not_made) }
  three_led_keep select e f g h c d l k = tt
  three_led_keep slice e f g h c d l k = tt

  mutual
    pub led_keeps : (e : ExprTree) (g h : Named Origin) → Binds (IsClear s v) e → Leads g h → Keeps e h → Keeps (put s v e) g
    led_keeps (leaf a m) g h c l k = leaf_led_keeps a m g h l k
    led_keeps (one a m e) g h c l k = (led_keeps e g h c l k.0, subst (OneKeeps m) (sym (from_led e g h c l)) k.1)
    led_keeps (two a m e f) g h c l k = (led_keeps e g h c.0 l k.0, led_keeps f g h c.1 l k.1)
    led_keeps (three a m d e f) g h c l k =
        (led_keeps d g h c.0 l k.0, led_keeps e g h c.1 l k.1, led_keeps f g h c.2 l k.2, three_led_keep m e f g h c.1 c.2 l k.3)
    led_keeps (many a m es) g h c l k = all_led_keep es g h c l k
    led_keeps (let_in a b e f) g h c l k = (
      led_keeps e g h c.1 l k.0,
      subst (λ y. Keeps (put s v f) ((b.sym.0, y) ∷ g)) (sym (from_led e g h c.1 l))
          (led_keeps f ((b.sym.0, origin e h) ∷ g) ((b.sym.0, origin e h) ∷ h) c.2 (led_behind s v x p o r w g h b.sym.0 (origin e h) c.0 l) k.1),
    )
    led_keeps (loop a ls e b n y f) g h c l k =
        let same = sym (from_led e g h c.4 l) in
        let stays = stays_within f (in_body b n y (origin e h) g) (in_body b n y (origin e h) h) c.5 (binding_in_body s o (origin e h) g h b n y c.0.0 c.1.0 c.2.0 l.binding) k.2 in (
          legs_led_keep ls g h c.3 l k.0,
          led_keeps e g h c.4 l k.1,
          subst (λ z. Keeps (put s v f) (in_body b n y z g)) same (stays_keeps f _ _ stays k.2),
          subst (λ z. origin (put s v f) (in_body b n y z g) ≡ own_paths z) same (stays_from f _ _ stays ∙ k.3),
        )
    led_keeps (iterate a e b f) g h c l k =
        (led_keeps e g h c.1 l k.0, stays_keeps f _ _ (stays_within f (in_turn b g) (in_turn b h) c.2 (binding_in_turn s o g h b c.0.0 l.binding) k.1) k.1)

    all_led_keep : (es : ExprTrees) (g h : Named Origin) → AllBind (IsClear s v) es → Leads g h → AllKeep es h → AllKeep (put_in_all s v es) g
    all_led_keep no_exprs g h c l k = tt
    all_led_keep (more_exprs e es) g h c l k = (led_keeps e g h c.0 l k.0, all_led_keep es g h c.1 l k.1)

    leg_led_keeps : (m : LegTree) (g h : Named Origin) → LegBinds (IsClear s v) m → Leads g h → LegKeeps m h → LegKeeps (put_in_leg s v m) g
    leg_led_keeps (whole e) g h c l k = led_keeps e g h c l k
    leg_led_keeps (strided e f i j) g h c l k = (led_keeps e g h c.0 l k.0, led_keeps f g h c.1 l k.1, led_keeps i g h c.2 l k.2, led_keeps j g h c.3 l k.3)

    legs_led_keep : (ls : LegTrees) (g h : Named Origin) → LegsBind (IsClear s v) ls → Leads g h → LegsKeep ls h → LegsKeep (put_in_legs s v ls) g
    legs_led_keep no_legs g h c l k = tt
    legs_led_keep (more_legs m ls) g h c l k = (leg_led_keeps m g h c.0 l k.0, legs_led_keep ls g h c.1 l k.1)

  -- ---- that each is taken once

  leaf_led_splits : (a : At) (l : Leaf) (g : Named Origin) → Splits (put_in_leaf s v a l) g
  leaf_led_splits a (int k y) g = tt
  leaf_led_splits a (truth b) g = tt
  leaf_led_splits a (chars bs) g = tt
  leaf_led_splits a (name y) g = by (s == y)
    where
      by : (b : Bool) → Splits (if b then v else leaf a (name y)) g
      by true = chain_apart g v (x, p) w.chain
      by false = tt
  leaf_led_splits a (fresh b) g = tt

  field_led_splits : (n : ℕ) (e : ExprTree) (g h : Named Origin) → Binds (IsClear s v) e → Leads g h → ChainSplits (chain_of e) (field_origin n (origin e h)) → ChainSplits (chain_of (put s v e)) (field_origin n (origin (put s v e) g))
  field_led_splits n e g h c l k = by (chain_of e) refl k
    where
      stays : (m : ℕ × Path) → chain_of e ≡ Some m → (s ≡ m.0) ⊎ (s ≢ m.0) → ChainSplits (chain_of (put s v e)) (field_origin n (origin (put s v e) g))
      stays m i (inl j) = subst (λ y. ChainSplits y (field_origin n (origin (put s v e) g))) (sym (chain_here s v x p o r w e m i j)) tt
      stays m i (inr ne) = subst (λ y. ChainSplits y (field_origin n (origin (put s v e) g))) (sym (ap chain_of (chain_other s v e m i ne) ∙ i)) tt

      by : (m : Option (ℕ × Path)) → chain_of e ≡ m → ChainSplits m (field_origin n (origin e h)) → ChainSplits (chain_of (put s v e)) (field_origin n (origin (put s v e) g))
      by (Some m) i q = stays m i (cases_eq s m.0)
      by None i q = subst (λ y. ChainSplits y (field_origin n (origin (put s v e) g))) (sym (none_put s v e i)) (ap (λ y. is_value (field_origin n y)) (from_led e g h c l) ∙ q)

  part_of_chain : (m : One) (e : ExprTree) (g h : Named Origin) → Binds (IsClear s v) e → Leads g h → (y : ℕ × Path) → chain_of_one m (chain_of e) ≡ Some y → Splits (put s v e) g
  part_of_chain m e g h c l y i = let d = chain_of_part m (chain_of e) y i in by d.0 d.1 (cases_eq s d.0.0)
    where
      by : (d : ℕ × Path) → chain_of e ≡ Some d → (s ≡ d.0) ⊎ (s ≢ d.0) → Splits (put s v e) g
      by d k (inl j) = chain_apart g (put s v e) (x, d.1 ++ p) (chain_here s v x p o r w e d k j)
      by d k (inr ne) = chain_apart g (put s v e) d (ap chain_of (chain_other s v e d k ne) ∙ k)

  one_led_splits : (m : One) (e : ExprTree) (g h : Named Origin) → Binds (IsClear s v) e → Leads g h → OneSplits m e (origin e h) → OneSplits m (put s v e) (origin (put s v e) g)
  one_led_splits neg e g h c l k = tt
  one_led_splits not e g h c l k = tt
  one_led_splits (cast y) e g h c l k = tt
  one_led_splits len e g h c l k = tt
  one_led_splits (field n) e g h c l k = field_led_splits n e g h c l k
  one_led_splits finish e g h c l k = tt
  one_led_splits (started b) e g h c l k = tt

  two_led_splits : (m : Two) (A C : Taken) → Follows s v x p o r w A C → TwoSplits m C → TwoSplits m A
  two_led_splits (binary y) A C f k = tt
  two_led_splits and A C f k = none_moved s v x p o r w A C f k
  two_led_splits or A C f k = none_moved s v x p o r w A C f k
  two_led_splits look_up A C f k = tt
  two_led_splits key_exists A C f k = tt
  two_led_splits merge A C f k = tt

  three_led_splits : (m : Three) (A B C D : Taken) → Follows s v x p o r w A C → Follows s v x p o r w B D → IsTame C → IsTame D → ThreeSplits m C D → ThreeSplits m A B
  three_led_splits if_else A B C D f g i j k = alike_moved s v x p o r w A B C D f g k
  three_led_splits select A B C D f g i j k = apart_moved s v x p o r w A B C D f g i j k
  three_led_splits slice A B C D f g i j k = apart_moved s v x p o r w A B C D f g i j k

  mutual
    pub led_splits : (e : ExprTree) (g h : Named Origin) → Binds (IsClear s v) e → Leads g h → IsTame (takes e h) → Keeps e h → Splits e h → Splits (put s v e) g
    led_splits (leaf a m) g h c l z k q = leaf_led_splits a m g
    led_splits (one a m e) g h c l z k q = (by (chain_of_one m (chain_of e)) refl (λ y. led_splits e g h c l y k.0 q.0), one_led_splits m e g h c l q.1)
      where
        -- the part of a chain is one, and takes apart whatever it is put in
        by : (i : Option (ℕ × Path)) → chain_of_one m (chain_of e) ≡ i → (IsTame (takes e h) → Splits (put s v e) g) → Splits (put s v e) g
        by (Some y) i f = part_of_chain m e g h c l y i
        by None i f = f (subst (λ y. IsTame (λ t b. chain_takes y h t b (takes e h t b))) i z)
    led_splits (two a m e f) g h c l z k q =
        let i = put_follows s v x p o r w e g h c.0 l in let j = put_follows s v x p o r w f g h c.1 l in
        let y = tame_first s v x p o r w (takes e h) (takes f h) z in let u = tame_second s v x p o r w (takes e h) (takes f h) z in
        (led_splits e g h c.0 l y k.0 q.0, led_splits f g h c.1 l u k.1 q.1, apart_moved s v x p o r w _ _ (takes e h) (takes f h) i j y u q.2, two_led_splits m _ (takes f h) j q.3)
    led_splits (three a m d e f) g h c l z k q =
        let i = put_follows s v x p o r w d g h c.0 l in let j = put_follows s v x p o r w e g h c.1 l in let n = put_follows s v x p o r w f g h c.2 l in
        let y = tame_first s v x p o r w (takes d h) (λ t b. takes e h t b || takes f h t b) z in
        let rest = tame_second s v x p o r w (takes d h) (λ t b. takes e h t b || takes f h t b) z in
        let u = tame_first s v x p o r w (takes e h) (takes f h) rest in let t = tame_second s v x p o r w (takes e h) (takes f h) rest in (
          led_splits d g h c.0 l y k.0 q.0,
          led_splits e g h c.1 l u k.1 q.1,
          led_splits f g h c.2 l t k.2 q.2,
          apart_moved s v x p o r w _ _ (takes d h) (takes e h) i j y u q.3,
          apart_moved s v x p o r w _ _ (takes d h) (takes f h) i n y t q.4,
          three_led_splits m _ _ (takes e h) (takes f h) j n u t q.5,
        )
    led_splits (many a m es) g h c l z k q = all_led_split es g h c l z k q
    led_splits (let_in a b e f) g h c l z k q =
        let root = clear_root s v x p o r w b.sym.0 c.0 in
        let same = sym (from_led e g h c.1 l) in
        let inner = led_behind s v x p o r w g h b.sym.0 (origin e h) c.0 l in
        let i = put_follows s v x p o r w e g h c.1 l in
        let j = subst (λ T. Follows s v x p o r w T (takes f ((b.sym.0, origin e h) ∷ h))) (ap (λ y. takes (put s v f) ((b.sym.0, y) ∷ g)) same) (put_follows s v x p o r w f _ _ c.2 inner) in
        let y = tame_first s v x p o r w (takes e h) (without b.sym.0 (takes f ((b.sym.0, origin e h) ∷ h))) z in
        let rest = tame_second s v x p o r w (takes e h) (without b.sym.0 (takes f ((b.sym.0, origin e h) ∷ h))) z in
        let u = tame_without s v x p o r w b.sym.0 (takes f ((b.sym.0, origin e h) ∷ h)) c.0.0 root rest in (
          led_splits e g h c.1 l y k.0 q.0,
          subst (λ y. Splits (put s v f) ((b.sym.0, y) ∷ g)) same (led_splits f _ _ c.2 inner u k.1 q.1),
          apart_moved s v x p o r w _ _ (takes e h) (without b.sym.0 (takes f ((b.sym.0, origin e h) ∷ h))) i (without_follows s v x p o r w b.sym.0 _ (takes f ((b.sym.0, origin e h) ∷ h)) c.0.0 root j) y rest q.2,
          subst (λ y. TakesAll b.sym.0 y (takes (put s v f) ((b.sym.0, origin (put s v e) g) ∷ g))) same (all_moved s v x p o r w b.sym.0 (origin e h) _ (takes f ((b.sym.0, origin e h) ∷ h)) c.0.0 j q.3),
        )
    led_splits (loop a ls e b n y f) g h c l z k q =
        let same = sym (from_led e g h c.4 l) in
        let stays = stays_within f (in_body b n y (origin e h) g) (in_body b n y (origin e h) h) c.5 (binding_in_body s o (origin e h) g h b n y c.0.0 c.1.0 c.2.0 l.binding) k.2 in
        let i = legs_follow s v x p o r w ls g h c.3 l in let j = put_follows s v x p o r w e g h c.4 l in
        let t = tame_first s v x p o r w (legs_take ls h) (takes e h) z in let u = tame_second s v x p o r w (legs_take ls h) (takes e h) z in
        let m : takes f (in_body b n y (origin e h) h) ≡ takes (put s v f) (in_body b n y (origin (put s v e) g) g) =
        sym (stays_taken f _ _ stays) ∙ ap (λ d. takes (put s v f) (in_body b n y d g)) same in (
          legs_led_split ls g h c.3 l t k.0 q.0,
          led_splits e g h c.4 l u k.1 q.1,
          apart_moved s v x p o r w _ _ (legs_take ls h) (takes e h) i j t u q.2,
          subst (λ d. Splits (put s v f) (in_body b n y d g)) same (stays_splits f _ _ stays q.3),
          subst (λ d. TakesAll b.sym.0 (own_paths d) (takes (put s v f) (in_body b n y (origin (put s v e) g) g))) same (subst (TakesAll b.sym.0 (own_paths (origin e h))) m q.4),
        )
    led_splits (iterate a e b f) g h c l z k q =
        (led_splits e g h c.1 l z k.0 q.0, stays_splits f _ _ (stays_within f (in_turn b g) (in_turn b h) c.2 (binding_in_turn s o g h b c.0.0 l.binding) k.1) q.1)

    all_led_split : (es : ExprTrees) (g h : Named Origin) → AllBind (IsClear s v) es → Leads g h → IsTame (some_take es h) → AllKeep es h → AllSplit es h → AllSplit (put_in_all s v es) g
    all_led_split no_exprs g h c l z k q = tt
    all_led_split (more_exprs e es) g h c l z k q =
        let y = tame_first s v x p o r w (takes e h) (some_take es h) z in let u = tame_second s v x p o r w (takes e h) (some_take es h) z in (
          led_splits e g h c.0 l y k.0 q.0,
          all_led_split es g h c.1 l u k.1 q.1,
          apart_moved s v x p o r w _ _ (takes e h) (some_take es h) (put_follows s v x p o r w e g h c.0 l) (all_follow s v x p o r w es g h c.1 l) y u q.2,
        )

    leg_led_splits : (m : LegTree) (g h : Named Origin) → LegBinds (IsClear s v) m → Leads g h → IsTame (leg_takes m h) → LegKeeps m h → LegSplits m h → LegSplits (put_in_leg s v m) g
    leg_led_splits (whole e) g h c l z k q = led_splits e g h c l z k q
    leg_led_splits (strided e f i j) g h c l z k q =
        let fe = put_follows s v x p o r w e g h c.0 l in let ff = put_follows s v x p o r w f g h c.1 l in
        let fi = put_follows s v x p o r w i g h c.2 l in let fj = put_follows s v x p o r w j g h c.3 l in
        let te = tame_first s v x p o r w (takes e h) (λ t b. takes f h t b || (takes i h t b || takes j h t b)) z in
        let za = tame_second s v x p o r w (takes e h) (λ t b. takes f h t b || (takes i h t b || takes j h t b)) z in
        let tf = tame_first s v x p o r w (takes f h) (λ t b. takes i h t b || takes j h t b) za in
        let zb = tame_second s v x p o r w (takes f h) (λ t b. takes i h t b || takes j h t b) za in
        let ti = tame_first s v x p o r w (takes i h) (takes j h) zb in let tj = tame_second s v x p o r w (takes i h) (takes j h) zb in (
          led_splits e g h c.0 l te k.0 q.0,
          led_splits f g h c.1 l tf k.1 q.1,
          led_splits i g h c.2 l ti k.2 q.2,
          led_splits j g h c.3 l tj k.3 q.3,
          apart_moved s v x p o r w _ _ (takes e h) (takes f h) fe ff te tf q.4,
          apart_moved s v x p o r w _ _ (takes e h) (takes i h) fe fi te ti q.5,
          apart_moved s v x p o r w _ _ (takes e h) (takes j h) fe fj te tj q.6,
          apart_moved s v x p o r w _ _ (takes f h) (takes i h) ff fi tf ti q.7,
          apart_moved s v x p o r w _ _ (takes f h) (takes j h) ff fj tf tj q.8,
          apart_moved s v x p o r w _ _ (takes i h) (takes j h) fi fj ti tj q.9,
        )

    legs_led_split : (ls : LegTrees) (g h : Named Origin) → LegsBind (IsClear s v) ls → Leads g h → IsTame (legs_take ls h) → LegsKeep ls h → LegsSplit ls h → LegsSplit (put_in_legs s v ls) g
    legs_led_split no_legs g h c l z k q = tt
    legs_led_split (more_legs m ls) g h c l z k q =
        let y = tame_first s v x p o r w (leg_takes m h) (legs_take ls h) z in let u = tame_second s v x p o r w (leg_takes m h) (legs_take ls h) z in (
          leg_led_splits m g h c.0 l y k.0 q.0,
          legs_led_split ls g h c.1 l u k.1 q.1,
          apart_moved s v x p o r w _ _ (leg_takes m h) (legs_take ls h) (leg_follows s v x p o r w m g h c.0 l) (legs_follow s v x p o r w ls g h c.1 l) y u q.2,
        )
