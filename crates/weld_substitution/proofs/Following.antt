-- A chain of builder type in a name's place: what was taken of the name is taken below the chain's path, and nothing else changes.
use Rattle.std.proofs.Common.{◌≡◌, ◌≢◌, ℕ, ◌==◌, if◌then◌else◌, Bool, true, false, ◌&&◌, ◌||◌, [], ◌∷◌, ◌++◌, Option, Some, None, refl, ap, sym, subst, ◌∙◌, eq-eqb, ne_eqb, eqb-true, append_assoc, ◌⊎◌, inl, inr}
use Rattle.std.proofs.lemmas.Bool.{cases_eq}
use Rattle.std.proofs.lemmas.List.{append_cancel_right}
use Rattle.weld_tree.specs.ExprTree.{ExprTree, leaf, one, two, three, many, let_in, loop, iterate, ExprTrees, no_exprs, more_exprs, LegTree, whole, strided, LegTrees, no_legs, more_legs, int, truth, chars, name, fresh, field}
use Rattle.weld_meaning.specs.Environment.{Named}
use Rattle.weld_meaning.specs.Origin.{Path, Origin, known_origin, origin_of_name, origin, from_within}
use Rattle.weld_meaning.specs.Linear.{IsSeen}
use Rattle.weld_meaning.specs.Available.{Taken, Apart, Alike, TakesNone, TakesAll, without, field_within, at_path, is_builder, is_builder_path, same_path, is_below, chain_of_one, chain_of, chain_takes, takes, some_take, leg_takes, legs_take}
use Rattle.weld_meaning.specs.Names.{IsFree, put, put_in_all, put_in_leg, put_in_legs, Binds, AllBind, LegBinds, LegsBind, IsClear}
use Rattle.weld_meaning.proofs.FreeNames.{taken_free}
use Rattle.weld_rewriting.proofs.Forms.{takes_chain}
use Rattle.weld_substitution.proofs.Bindings.{Binding, binding_behind, agree_besides}
use Rattle.weld_substitution.proofs.PutOrigins.{origin_over, origin_put}
use Rattle.weld_substitution.proofs.Chains.{chain_by, chain_named, or_true, chain_only}
use Rattle.weld_substitution.proofs.Values.{look_behind}
use Rattle.weld_substitution.proofs.ValueRules.{chain_other, none_put}

-- ---- tests

pub and_true : (a b : Bool) → (a && b) ≡ true → (a ≡ true) × (b ≡ true)
and_true true b h = (refl, h)
and_true false b h = let nothing : ⊥ = cc in absurd nothing

pub both_true : (a b : Bool) → a ≡ true → b ≡ true → (a && b) ≡ true
both_true a b p q = λ i. p i && q i

pub or_left : (a b : Bool) → a ≡ true → (a || b) ≡ true
or_left a b p = ap (λ c. c || b) p

pub or_right : (a b : Bool) → b ≡ true → (a || b) ≡ true
or_right true b p = refl
or_right false b p = p

pub same_truth : (a b : Bool) → (a ≡ true → b ≡ true) → (b ≡ true → a ≡ true) → a ≡ b
same_truth true b f g = sym (f refl)
same_truth false true f g = g refl
same_truth false false f g = refl

pub not_true : (a : Bool) → (a ≡ true → ⊥) → a ≡ false
not_true true f = absurd (f refl)
not_true false f = refl

-- ---- paths

same_is : (p q : Path) → same_path p q ≡ true → p ≡ q
same_is [] [] h = refl
same_is [] (m ∷ q) h = let nothing : ⊥ = cc in absurd nothing
same_is (n ∷ p) [] h = let nothing : ⊥ = cc in absurd nothing
same_is (n ∷ p) (m ∷ q) h = let k = and_true (n == m) (same_path p q) h in let x = eqb-true n m k.0 in let y = same_is p q k.1 in λ i. x i ∷ y i

is_same : (p : Path) → same_path p p ≡ true
is_same [] = refl
is_same (n ∷ p) = both_true (n == n) (same_path p p) (eq-eqb n n refl) (is_same p)

-- a path below another goes on from there
pub below_is : (p q : Path) → is_below p q ≡ true → (k : Path) × (q ≡ k ++ p)
below_is p [] h = ([], sym (same_is p [] h))
below_is p (m ∷ q) h = by (or_true (same_path p (m ∷ q)) (is_below p q) h) (below_is p q)
  where
    by : (same_path p (m ∷ q) ≡ true) ⊎ (is_below p q ≡ true) → (is_below p q ≡ true → (k : Path) × (q ≡ k ++ p)) → (k : Path) × (m ∷ q ≡ k ++ p)
    by (inl e) f = ([], sym (same_is p (m ∷ q) e))
    by (inr e) f = let r = f e in (m ∷ r.0, ap (λ y. m ∷ y) r.1)

pub is_below_on : (k p : Path) → is_below p (k ++ p) ≡ true
is_below_on [] [] = refl
is_below_on [] (m ∷ p) = or_left (same_path (m ∷ p) (m ∷ p)) (is_below (m ∷ p) p) (is_same (m ∷ p))
is_below_on (m ∷ k) p = or_right (same_path p (m ∷ (k ++ p))) (is_below p (k ++ p)) (is_below_on k p)

pub at_path_on : (k p : Path) (o : Origin) → at_path (k ++ p) o ≡ at_path k (at_path p o)
at_path_on [] p o = refl
at_path_on (m ∷ k) p o = ap (field_within m) (at_path_on k p o)

-- ---- what a chain takes

pub taken_by_chain : (e : ExprTree) (c : ℕ × Path) (g : Named Origin) (t : ℕ) (q : Path) → chain_of e ≡ Some c → takes e g t q ≡ true → (c.0 ≡ t) × (is_below c.1 q ≡ true) × (is_builder_path (origin_of_name t g) q ≡ true)
taken_by_chain e c g t q k h =
    let all : ((c.0 == t) && (is_below c.1 q && is_builder_path (origin_of_name t g) q)) ≡ true = sym (takes_chain e c g t q false k) ∙ h in
    let x = and_true (c.0 == t) (is_below c.1 q && is_builder_path (origin_of_name t g) q) all in
    let y = and_true (is_below c.1 q) (is_builder_path (origin_of_name t g) q) x.1 in
    (eqb-true c.0 t x.0, y.0, y.1)

pub chain_takes_it : (e : ExprTree) (c : ℕ × Path) (g : Named Origin) (t : ℕ) (q : Path) → chain_of e ≡ Some c → c.0 ≡ t → is_below c.1 q ≡ true → is_builder_path (origin_of_name t g) q ≡ true → takes e g t q ≡ true
chain_takes_it e c g t q k x y z =
    takes_chain e c g t q false k
    ∙ both_true (c.0 == t) (is_below c.1 q && is_builder_path (origin_of_name t g) q) (eq-eqb c.0 t x) (both_true (is_below c.1 q) (is_builder_path (origin_of_name t g) q) y z)

-- ---- a name that stands for a chain

-- the name, the chain's name and path, and the origins of both
pub record Chained (s : ℕ) (v : ExprTree) (x : ℕ) (p : Path) (o r : Origin) : Type 0 where
  pub chain : chain_of v ≡ Some (x, p)
  pub other : s ≢ x
  pub leads : at_path p r ≡ o
  pub hidden : IsSeen (from_within o) → ⊥

module _ (s : ℕ) (v : ExprTree) (x : ℕ) (p : Path) (o r : Origin) (w : Chained s v x p o r) where
  pub record Led (g h : Named Origin) : Type 0 where
    pub binding : Binding s o g h
    pub root : origin_of_name x g ≡ r
    pub from : origin v g ≡ o

  -- the chain's name is none that is bound within
  pub clear_root : (b : ℕ) → IsClear s v b → x ≢ b
  clear_root b c e = c.1 (subst (IsFree v) e (chain_named v (x, p) w.chain))

  pub led_behind : (g h : Named Origin) (b : ℕ) (y : Origin) → IsClear s v b → Led g h → Led ((b, y) ∷ g) ((b, y) ∷ h)
  led_behind g h b y c l = record {
    binding = binding_behind s o g h b y c.0 l.binding;
    root = look_behind x b y g (clear_root b c) ∙ l.root;
    from = origin_over v b y o g c.1 l.from;
  }

  here : (g h : Named Origin) → Led g h → origin_of_name s h ≡ o
  here g h l = ap known_origin l.binding.there

  pub builder_there : (k : Path) → is_builder_path r (k ++ p) ≡ is_builder_path o k
  builder_there k = ap is_builder (at_path_on k p r ∙ ap (at_path k) w.leads)

  -- ---- what is taken comes from what was

  abbrev pub Comes : Taken → ℕ → Path → Type 0
  Comes T t q = ((t ≢ s) × (T t q ≡ true)) ⊎ ((t ≡ x) × ((k : Path) × (q ≡ k ++ p) × (T s k ≡ true)))

  pub record Follows (T U : Taken) : Type 0 where
    pub to : (t : ℕ) (q : Path) → T t q ≡ true → Comes U t q
    pub back : (t : ℕ) (q : Path) → Comes U t q → T t q ≡ true

  comes_so : (T U : Taken) → ((t : ℕ) (q : Path) → T t q ≡ true → U t q ≡ true) → (t : ℕ) (q : Path) → Comes T t q → Comes U t q
  comes_so T U f t q (inl h) = inl (h.0, f t q h.1)
  comes_so T U f t q (inr h) = inr (h.0, (h.1.0, h.1.1, f s h.1.0 h.1.2))

  pub none_follows : Follows (λ t q. false) (λ t q. false)
  none_follows = record { to = λ t q h. let nothing : ⊥ = cc in absurd nothing; back = λ t q c. by t q c }
    where
      by : (t : ℕ) (q : Path) → Comes (λ t q. false) t q → false ≡ true
      by t q (inl h) = h.1
      by t q (inr h) = h.1.2

  pub either_follows : (A B C D : Taken) → Follows A C → Follows B D → Follows (λ t q. A t q || B t q) (λ t q. C t q || D t q)
  either_follows A B C D f g = record {
    to = λ t q h. ahead t q (or_true (A t q) (B t q) h);
    back = λ t q c. behind t q c;
  }
    where
      ahead : (t : ℕ) (q : Path) → (A t q ≡ true) ⊎ (B t q ≡ true) → Comes (λ t q. C t q || D t q) t q
      ahead t q (inl h) = comes_so C (λ t q. C t q || D t q) (λ u k. or_left (C u k) (D u k)) t q (f.to t q h)
      ahead t q (inr h) = comes_so D (λ t q. C t q || D t q) (λ u k. or_right (C u k) (D u k)) t q (g.to t q h)

      first : (t : ℕ) (q : Path) → t ≢ s → (C t q ≡ true) ⊎ (D t q ≡ true) → (A t q || B t q) ≡ true
      first t q ne (inl h) = or_left (A t q) (B t q) (f.back t q (inl (ne, h)))
      first t q ne (inr h) = or_right (A t q) (B t q) (g.back t q (inl (ne, h)))

      second : (t : ℕ) (q k : Path) → t ≡ x → q ≡ k ++ p → (C s k ≡ true) ⊎ (D s k ≡ true) → (A t q || B t q) ≡ true
      second t q k e i (inl h) = or_left (A t q) (B t q) (f.back t q (inr (e, (k, i, h))))
      second t q k e i (inr h) = or_right (A t q) (B t q) (g.back t q (inr (e, (k, i, h))))

      behind : (t : ℕ) (q : Path) → Comes (λ t q. C t q || D t q) t q → (A t q || B t q) ≡ true
      behind t q (inl h) = first t q h.0 (or_true (C t q) (D t q) h.1)
      behind t q (inr h) = second t q h.1.0 h.0 h.1.1 (or_true (C s h.1.0) (D s h.1.0) h.1.2)

  without_is : (b t : ℕ) (q : Path) (T : Taken) → without b T t q ≡ true → T t q ≡ true
  without_is b t q T h = by (b == t) h
    where
      by : (c : Bool) → (if c then false else T t q) ≡ true → T t q ≡ true
      by true h = let nothing : ⊥ = cc in absurd nothing
      by false h = h

  pub without_else : (b t : ℕ) (q : Path) (T : Taken) → b ≢ t → T t q ≡ true → without b T t q ≡ true
  without_else b t q T ne h = ap (λ c. if c then false else T t q) (ne_eqb b t ne) ∙ h

  pub without_follows : (b : ℕ) (A C : Taken) → s ≢ b → x ≢ b → Follows A C → Follows (without b A) (without b C)
  without_follows b A C ns nx f = record {
    to = λ t q h. ahead t q (cases_eq b t) h;
    back = λ t q c. behind t q c;
  }
    where
      again : (t : ℕ) (q : Path) → b ≢ t → Comes C t q → Comes (without b C) t q
      again t q ne (inl h) = inl (h.0, without_else b t q C ne h.1)
      again t q ne (inr h) = inr (h.0, (h.1.0, h.1.1, without_else b s h.1.0 C (λ e. ns (sym e)) h.1.2))

      ahead : (t : ℕ) (q : Path) → (b ≡ t) ⊎ (b ≢ t) → without b A t q ≡ true → Comes (without b C) t q
      ahead t q (inl e) h = let it : without b A t q ≡ false = ap (λ c. if c then false else A t q) (eq-eqb b t e) in let nothing : ⊥ = cc in absurd nothing
      ahead t q (inr ne) h = again t q ne (f.to t q (without_is b t q A h))

      other : (t : ℕ) (q : Path) → (b ≡ t) ⊎ (b ≢ t) → (t ≢ s) → without b C t q ≡ true → without b A t q ≡ true
      other t q (inl e) ne h = let it : without b C t q ≡ false = ap (λ c. if c then false else C t q) (eq-eqb b t e) in let nothing : ⊥ = cc in absurd nothing
      other t q (inr nb) ne h = without_else b t q A nb (f.back t q (inl (ne, without_is b t q C h)))

      behind : (t : ℕ) (q : Path) → Comes (without b C) t q → without b A t q ≡ true
      behind t q (inl h) = other t q (cases_eq b t) h.0 h.1
      behind t q (inr h) = without_else b t q A (λ e. nx (sym (e ∙ h.0))) (f.back t q (inr (h.0, (h.1.0, h.1.1, without_is b s h.1.0 C h.1.2))))

  -- ---- chains

  pub chain_here : (e : ExprTree) (c : ℕ × Path) → chain_of e ≡ Some c → s ≡ c.0 → chain_of (put s v e) ≡ Some (x, c.1 ++ p)
  chain_here e c k i =
      chain_by (λ d y. s ≡ y.0 → chain_of (put s v d) ≡ Some (x, y.1 ++ p))
      (λ a t j. ap (λ b. chain_of (if b then v else leaf a (name t))) (eq-eqb s t j) ∙ w.chain)
      (λ a n d y m f j. ap (chain_of_one (field n)) (f j)) e c k i

  chain_follows : (e : ExprTree) (c : ℕ × Path) (g h : Named Origin) → chain_of e ≡ Some c → Led g h → Follows (takes (put s v e) g) (takes e h)
  chain_follows e c g h k l = by (cases_eq s c.0)
    where
      ahead : s ≡ c.0 → (t : ℕ) (q : Path) → takes (put s v e) g t q ≡ true → Comes (takes e h) t q
      ahead i t q y =
          let z = taken_by_chain (put s v e) (x, c.1 ++ p) g t q (chain_here e c k i) y in
          let m = below_is (c.1 ++ p) q z.1 in
          let whole : q ≡ (m.0 ++ c.1) ++ p = m.1 ∙ sym (append_assoc m.0 c.1 p) in
          let root : origin_of_name t g ≡ r = subst (λ u. origin_of_name u g ≡ r) z.0 l.root in
          let builder : is_builder_path o (m.0 ++ c.1) ≡ true = sym (builder_there (m.0 ++ c.1)) ∙ subst (λ u. is_builder_path r u ≡ true) whole (subst (λ u. is_builder_path u q ≡ true) root z.2) in
          inr (sym z.0, (m.0 ++ c.1, whole, chain_takes_it e c h s (m.0 ++ c.1) k (sym i) (is_below_on m.0 c.1) (subst (λ u. is_builder_path u (m.0 ++ c.1) ≡ true) (sym (here g h l)) builder)))

      behind : s ≡ c.0 → (t : ℕ) (q : Path) → Comes (takes e h) t q → takes (put s v e) g t q ≡ true
      behind i t q (inl y) = let z = taken_by_chain e c h t q k y.1 in absurd (y.0 (sym z.0 ∙ sym i))
      behind i t q (inr y) =
          let z = taken_by_chain e c h s y.1.0 k y.1.2 in
          let m = below_is c.1 y.1.0 z.1 in
          let whole : q ≡ m.0 ++ (c.1 ++ p) = y.1.1 ∙ ap (λ u. u ++ p) m.1 ∙ append_assoc m.0 c.1 p in
          let root : origin_of_name t g ≡ r = subst (λ u. origin_of_name u g ≡ r) (sym y.0) l.root in
          let builder : is_builder_path r (y.1.0 ++ p) ≡ true = builder_there y.1.0 ∙ subst (λ u. is_builder_path u y.1.0 ≡ true) (here g h l) z.2 in
          chain_takes_it (put s v e) (x, c.1 ++ p) g t q (chain_here e c k i) (sym y.0)
          (subst (λ u. is_below (c.1 ++ p) u ≡ true) (sym whole) (is_below_on m.0 (c.1 ++ p)))
          (subst (λ u. is_builder_path u q ≡ true) (sym root) (subst (λ u. is_builder_path r u ≡ true) (sym y.1.1) builder))

      stays : s ≢ c.0 → takes (put s v e) g ≡ takes e h
      stays ne = ap (λ d. takes d g) (chain_other s v e c k ne) ∙ taken_free e g h (agree_besides (IsFree e) s o g h (λ f. ne (chain_only e c s k f)) l.binding)

      same_back : s ≢ c.0 → (t : ℕ) (q : Path) → Comes (takes e h) t q → takes e h t q ≡ true
      same_back ne t q (inl y) = y.1
      same_back ne t q (inr y) = absurd (ne (sym (taken_by_chain e c h s y.1.0 k y.1.2).0))

      by : (s ≡ c.0) ⊎ (s ≢ c.0) → Follows (takes (put s v e) g) (takes e h)
      by (inl i) = record { to = ahead i; back = behind i }
      by (inr ne) = subst (λ T. Follows T (takes e h)) (sym (stays ne)) (record {
        to = λ t q y. inl ((λ i. ne (sym i ∙ sym (taken_by_chain e c h t q k y).0)), y);
        back = same_back ne;
      })

  -- ---- through expressions

  mutual
    pub put_follows : (e : ExprTree) (g h : Named Origin) → Binds (IsClear s v) e → Led g h → Follows (takes (put s v e) g) (takes e h)
    put_follows (leaf a (int k y)) g h c l = none_follows
    put_follows (leaf a (truth b)) g h c l = none_follows
    put_follows (leaf a (chars bs)) g h c l = none_follows
    put_follows (leaf a (name y)) g h c l = chain_follows (leaf a (name y)) (y, []) g h refl l
    put_follows (leaf a (fresh b)) g h c l = none_follows
    put_follows (one a k e) g h c l = by (chain_of_one k (chain_of e)) refl (put_follows e g h c l)
      where
        by : (m : Option (ℕ × Path)) → chain_of_one k (chain_of e) ≡ m → Follows (takes (put s v e) g) (takes e h) → Follows (takes (put s v (one a k e)) g) (takes (one a k e) h)
        by (Some d) i f = chain_follows (one a k e) d g h i l
        by None i f =
            let before : takes (put s v e) g ≡ takes (put s v (one a k e)) g = λ j t q. chain_takes (sym (none_put s v (one a k e) i) j) g t q (takes (put s v e) g t q) in
            let after : takes e h ≡ takes (one a k e) h = λ j t q. chain_takes (sym i j) h t q (takes e h t q) in
            subst (λ T. Follows T (takes (one a k e) h)) before (subst (Follows (takes (put s v e) g)) after f)
    put_follows (two a k e f) g h c l = either_follows _ _ (takes e h) (takes f h) (put_follows e g h c.0 l) (put_follows f g h c.1 l)
    put_follows (three a k d e f) g h c l =
        either_follows _ _ (takes d h) (λ t q. takes e h t q || takes f h t q) (put_follows d g h c.0 l) (either_follows _ _ (takes e h) (takes f h) (put_follows e g h c.1 l) (put_follows f g h c.2 l))
    put_follows (many a k es) g h c l = all_follow es g h c l
    put_follows (let_in a b e f) g h c l =
        let same : takes (put s v f) ((b.sym.0, origin e h) ∷ g) ≡ takes (put s v f) ((b.sym.0, origin (put s v e) g) ∷ g) =
        ap (λ y. takes (put s v f) ((b.sym.0, y) ∷ g)) (sym (origin_put e s v o g h c.1 l.binding l.from)) in
        let inner = put_follows f ((b.sym.0, origin e h) ∷ g) ((b.sym.0, origin e h) ∷ h) c.2 (led_behind g h b.sym.0 (origin e h) c.0 l) in
        either_follows _ _ (takes e h) (without b.sym.0 (takes f ((b.sym.0, origin e h) ∷ h))) (put_follows e g h c.1 l)
        (without_follows b.sym.0 _ (takes f ((b.sym.0, origin e h) ∷ h)) c.0.0 (clear_root b.sym.0 c.0) (subst (λ T. Follows T (takes f ((b.sym.0, origin e h) ∷ h))) same inner))
    put_follows (loop a ls e b n y f) g h c l = either_follows _ _ (legs_take ls h) (takes e h) (legs_follow ls g h c.3 l) (put_follows e g h c.4 l)
    put_follows (iterate a e b f) g h c l = put_follows e g h c.1 l

    pub all_follow : (es : ExprTrees) (g h : Named Origin) → AllBind (IsClear s v) es → Led g h → Follows (some_take (put_in_all s v es) g) (some_take es h)
    all_follow no_exprs g h c l = none_follows
    all_follow (more_exprs e es) g h c l = either_follows _ _ (takes e h) (some_take es h) (put_follows e g h c.0 l) (all_follow es g h c.1 l)

    pub leg_follows : (k : LegTree) (g h : Named Origin) → LegBinds (IsClear s v) k → Led g h → Follows (leg_takes (put_in_leg s v k) g) (leg_takes k h)
    leg_follows (whole e) g h c l = put_follows e g h c l
    leg_follows (strided e f i j) g h c l =
        either_follows _ _ (takes e h) (λ t q. takes f h t q || (takes i h t q || takes j h t q)) (put_follows e g h c.0 l)
        (either_follows _ _ (takes f h) (λ t q. takes i h t q || takes j h t q) (put_follows f g h c.1 l) (either_follows _ _ (takes i h) (takes j h) (put_follows i g h c.2 l) (put_follows j g h c.3 l)))

    pub legs_follow : (ls : LegTrees) (g h : Named Origin) → LegsBind (IsClear s v) ls → Led g h → Follows (legs_take (put_in_legs s v ls) g) (legs_take ls h)
    legs_follow no_legs g h c l = none_follows
    legs_follow (more_legs k ls) g h c l = either_follows _ _ (leg_takes k h) (legs_take ls h) (leg_follows k g h c.0 l) (legs_follow ls g h c.1 l)

  -- ---- what is taken apart stays apart

  -- the chain's own paths aren't taken besides, and of the name only builders
  pub record Tame (T : Taken) : Type 0 where
    pub direct : (q : Path) → T x q ≡ true → is_below p q ≡ true → is_builder_path r q ≡ true → ⊥
    pub builds : (k : Path) → T s k ≡ true → is_builder_path o k ≡ true

  pub tame_less : (T U : Taken) → ((t : ℕ) (q : Path) → U t q ≡ true → T t q ≡ true) → Tame T → Tame U
  tame_less T U f m = record { direct = λ q h i j. m.direct q (f x q h) i j; builds = λ k h. m.builds k (f s k h) }

  pub tame_first : (T U : Taken) → Tame (λ t q. T t q || U t q) → Tame T
  tame_first T U m = tame_less _ T (λ t q. or_left (T t q) (U t q)) m

  pub tame_second : (T U : Taken) → Tame (λ t q. T t q || U t q) → Tame U
  tame_second T U m = tame_less _ U (λ t q. or_right (T t q) (U t q)) m

  pub tame_without : (b : ℕ) (T : Taken) → s ≢ b → x ≢ b → Tame (without b T) → Tame T
  tame_without b T ns nx m = record {
    direct = λ q h i j. m.direct q (without_else b x q T (λ e. nx (sym e)) h) i j;
    builds = λ k h. m.builds k (without_else b s k T (λ e. ns (sym e)) h);
  }

  pub apart_moved : (A B C D : Taken) → Follows A C → Follows B D → Tame C → Tame D → Apart C D → Apart A B
  apart_moved A B C D f g m n h = record { apart = λ t q a b. by t q (f.to t q a) (g.to t q b) }
    where
      clash : (T U : Taken) → Tame T → Tame U → (t : ℕ) (q : Path) → T t q ≡ true → t ≡ x → (k : Path) → q ≡ k ++ p → U s k ≡ true → ⊥
      clash T U i j t q y e k z u =
          i.direct (k ++ p) (subst (λ w. T w (k ++ p) ≡ true) e (subst (λ w. T t w ≡ true) z y)) (is_below_on k p) (builder_there k ∙ j.builds k u)

      by : (t : ℕ) (q : Path) → Comes C t q → Comes D t q → ⊥
      by t q (inl y) (inl z) = h.apart t q y.1 z.1
      by t q (inl y) (inr z) = clash C D m n t q y.1 z.0 z.1.0 z.1.1 z.1.2
      by t q (inr y) (inl z) = clash D C n m t q z.1 y.0 y.1.0 y.1.1 y.1.2
      by t q (inr y) (inr z) =
          let same : y.1.0 ≡ z.1.0 = append_cancel_right y.1.0 z.1.0 p (sym y.1.1 ∙ z.1.1) in
          h.apart s z.1.0 (subst (λ k. C s k ≡ true) same y.1.2) z.1.2

  pub alike_moved : (A B C D : Taken) → Follows A C → Follows B D → Alike C D → Alike A B
  alike_moved A B C D f g h = record {
    alike = λ t q. same_truth (A t q) (B t q)
        (λ y. g.back t q (comes_so C D (λ u k z. sym (h.alike u k) ∙ z) t q (f.to t q y)))
        (λ y. f.back t q (comes_so D C (λ u k z. h.alike u k ∙ z) t q (g.to t q y)));
  }

  pub none_moved : (A C : Taken) → Follows A C → TakesNone C → TakesNone A
  none_moved A C f h = record { none = λ t q. not_true (A t q) (λ y. by t q (f.to t q y)) }
    where
      by : (t : ℕ) (q : Path) → Comes C t q → ⊥
      by t q (inl y) = let z = h.none t q in let u = y.1 in let nothing : ⊥ = cc in nothing
      by t q (inr y) = let z = h.none s y.1.0 in let u = y.1.2 in let nothing : ⊥ = cc in nothing

  pub all_moved : (b : ℕ) (y : Origin) (A C : Taken) → s ≢ b → Follows A C → TakesAll b y C → TakesAll b y A
  all_moved b y A C ns f h = record { all = λ q i. f.back b q (inl ((λ e. ns (sym e)), h.all q i)) }
