-- Where a name's only use becomes a value, what is taken is what was taken of other names, and what the value takes.
use Rattle.std.proofs.Common.{◌≡◌, ◌≢◌, ℕ, if◌then◌else◌, true, false, ◌||◌, Some, None, refl, ap, sym, subst, ◌∙◌, eq-eqb, ne_eqb, ◌⊎◌, inl, inr, arith}
use Rattle.std.proofs.lemmas.Bool.{cases_eq}
use Rattle.weld_tree.specs.ExprTree.{ExprTree, leaf, LegTree, whole, strided, LegTrees, no_legs, more_legs, name, field}
use Rattle.weld_meaning.specs.Environment.{Named}
use Rattle.weld_meaning.specs.Origin.{Path, Origin, origin}
use Rattle.weld_meaning.specs.Linear.{Keeps, LegsKeep, LegKeeps}
use Rattle.weld_meaning.specs.Available.{Taken, Apart, without, chain_of_one, chain_of, takes, leg_takes, legs_take, Splits, LegSplits, LegsSplit}
use Rattle.weld_meaning.specs.Names.{IsFree, AgreeOn, put, put_in_leg, put_in_legs, Binds, LegBinds, LegsBind, IsClear}
use Rattle.weld_meaning.proofs.FreeNames.{origin_free, keeps_free, taken_free, splits_free}
use Rattle.weld_rewriting.proofs.Nodes.{apart_same}
use Rattle.weld_substitution.specs.Uses.{uses, uses_in_leg, uses_in_legs}
use Rattle.weld_substitution.proofs.UsedNames.{kept}
use Rattle.weld_substitution.proofs.Bindings.{Binding, agree_besides}
use Rattle.weld_substitution.proofs.Chains.{chain_by, taken_named, or_true}
use Rattle.weld_substitution.proofs.Unnamed.{unused_named, agree_back}
use Rattle.weld_substitution.proofs.Following.{or_left, or_right}

-- ---- parts without the name

-- nothing is changed in it, and its environments agree
pub record Same (s : ℕ) (v e : ExprTree) (g h : Named Origin) : Type 0 where
  pub stays : put s v e ≡ e
  pub agree : AgreeOn (IsFree e) h g
  pub unnamed : IsFree e s → ⊥

pub same_of : (s : ℕ) (v e : ExprTree) (o : Origin) (g h : Named Origin) → Binds (IsClear s v) e → Binding s o g h → uses e s ≡ 0 → Same s v e g h
same_of s v e o g h c b z =
    let free = unused_named s v e c z in
    record { stays = kept e v s z; agree = agree_back (IsFree e) g h (agree_besides (IsFree e) s o g h free b); unnamed = free }

pub same_keeps : (s : ℕ) (v e : ExprTree) (g h : Named Origin) → Same s v e g h → Keeps e h → Keeps (put s v e) g
same_keeps s v e g h y k = subst (λ d. Keeps d g) (sym y.stays) (keeps_free e h g y.agree k)

pub same_splits : (s : ℕ) (v e : ExprTree) (g h : Named Origin) → Same s v e g h → Splits e h → Splits (put s v e) g
same_splits s v e g h y k = subst (λ d. Splits d g) (sym y.stays) (splits_free e h g y.agree k)

pub same_from : (s : ℕ) (v e : ExprTree) (g h : Named Origin) → Same s v e g h → origin (put s v e) g ≡ origin e h
same_from s v e g h y = ap (λ d. origin d g) y.stays ∙ sym (origin_free e h g y.agree)

pub same_taken : (s : ℕ) (v e : ExprTree) (g h : Named Origin) → Same s v e g h → takes (put s v e) g ≡ takes e h
same_taken s v e g h y = ap (λ d. takes d g) y.stays ∙ sym (taken_free e h g y.agree)

-- ---- what is gained

pub record Gains (s : ℕ) (V A C : Taken) : Type 0 where
  pub to : (t : ℕ) (q : Path) → A t q ≡ true → ((t ≢ s) × (C t q ≡ true)) ⊎ (V t q ≡ true)
  pub back : (t : ℕ) (q : Path) → t ≢ s → C t q ≡ true → A t q ≡ true
  pub whole : (t : ℕ) (q : Path) → V t q ≡ true → A t q ≡ true

-- a part without the name takes nothing of it
pub record Besides (s : ℕ) (A C : Taken) : Type 0 where
  pub other : (t : ℕ) (q : Path) → A t q ≡ true → (t ≢ s) × (C t q ≡ true)
  pub same : A ≡ C

pub besides_of : (s : ℕ) (v e : ExprTree) (g h : Named Origin) → Same s v e g h → Besides s (takes (put s v e) g) (takes e h)
besides_of s v e g h y =
    let same = same_taken s v e g h y in
    record {
      other = λ t q k.
          let it : takes e h t q ≡ true = subst (λ (T : Taken). T t q ≡ true) same k in
          ((λ i. y.unnamed (subst (IsFree e) i (taken_named e h t q it))), it);
      same = same;
    }

again : {s : ℕ} {A C : Taken} (t : ℕ) (q : Path) → Besides s A C → C t q ≡ true → A t q ≡ true
again t q b k = subst (λ (T : Taken). T t q ≡ true) (sym b.same) k

more : {X Y Z V : Type 0} → (Y → Z) → (X × Y) ⊎ V → (X × Z) ⊎ V
more f (inl y) = inl (y.0, f y.1)
more f (inr y) = inr y

pub gains_first : (s : ℕ) (V A B C D : Taken) → Gains s V A C → Besides s B D → Gains s V (λ t q. A t q || B t q) (λ t q. C t q || D t q)
gains_first s V A B C D f b = record {
  to = λ t q k. ahead t q (or_true (A t q) (B t q) k);
  back = λ t q ne k. behind t q ne (or_true (C t q) (D t q) k);
  whole = λ t q k. or_left (A t q) (B t q) (f.whole t q k);
}
  where
    ahead : (t : ℕ) (q : Path) → (A t q ≡ true) ⊎ (B t q ≡ true) → ((t ≢ s) × ((C t q || D t q) ≡ true)) ⊎ (V t q ≡ true)
    ahead t q (inl k) = more (or_left (C t q) (D t q)) (f.to t q k)
    ahead t q (inr k) = let m = b.other t q k in inl (m.0, or_right (C t q) (D t q) m.1)

    behind : (t : ℕ) (q : Path) → t ≢ s → (C t q ≡ true) ⊎ (D t q ≡ true) → (A t q || B t q) ≡ true
    behind t q ne (inl k) = or_left (A t q) (B t q) (f.back t q ne k)
    behind t q ne (inr k) = or_right (A t q) (B t q) (again t q b k)

pub gains_second : (s : ℕ) (V A B C D : Taken) → Besides s A C → Gains s V B D → Gains s V (λ t q. A t q || B t q) (λ t q. C t q || D t q)
gains_second s V A B C D b f = record {
  to = λ t q k. ahead t q (or_true (A t q) (B t q) k);
  back = λ t q ne k. behind t q ne (or_true (C t q) (D t q) k);
  whole = λ t q k. or_right (A t q) (B t q) (f.whole t q k);
}
  where
    ahead : (t : ℕ) (q : Path) → (A t q ≡ true) ⊎ (B t q ≡ true) → ((t ≢ s) × ((C t q || D t q) ≡ true)) ⊎ (V t q ≡ true)
    ahead t q (inl k) = let m = b.other t q k in inl (m.0, or_left (C t q) (D t q) m.1)
    ahead t q (inr k) = more (or_right (C t q) (D t q)) (f.to t q k)

    behind : (t : ℕ) (q : Path) → t ≢ s → (C t q ≡ true) ⊎ (D t q ≡ true) → (A t q || B t q) ≡ true
    behind t q ne (inl k) = or_left (A t q) (B t q) (again t q b k)
    behind t q ne (inr k) = or_right (A t q) (B t q) (f.back t q ne k)

pub besides_both : (s : ℕ) (A B C D : Taken) → Besides s A C → Besides s B D → Besides s (λ t q. A t q || B t q) (λ t q. C t q || D t q)
besides_both s A B C D f g = record {
  other = λ t q k. by t q (or_true (A t q) (B t q) k);
  same = λ i t q. f.same i t q || g.same i t q;
}
  where
    by : (t : ℕ) (q : Path) → (A t q ≡ true) ⊎ (B t q ≡ true) → (t ≢ s) × ((C t q || D t q) ≡ true)
    by t q (inl k) = let m = f.other t q k in (m.0, or_left (C t q) (D t q) m.1)
    by t q (inr k) = let m = g.other t q k in (m.0, or_right (C t q) (D t q) m.1)

-- ---- behind a binder

pub without_is : (b t : ℕ) (q : Path) (T : Taken) → without b T t q ≡ true → (b ≢ t) × (T t q ≡ true)
without_is b t q T h = by (cases_eq b t) h
  where
    by : (b ≡ t) ⊎ (b ≢ t) → without b T t q ≡ true → (b ≢ t) × (T t q ≡ true)
    by (inl e) k = let it : without b T t q ≡ false = ap (λ c. if c then false else T t q) (eq-eqb b t e) in let nothing : ⊥ = cc in absurd nothing
    by (inr ne) k = (ne, sym (ap (λ c. if c then false else T t q) (ne_eqb b t ne)) ∙ k)

pub else_without : (b t : ℕ) (q : Path) (T : Taken) → b ≢ t → T t q ≡ true → without b T t q ≡ true
else_without b t q T ne h = ap (λ c. if c then false else T t q) (ne_eqb b t ne) ∙ h

pub gains_without : (s b : ℕ) (V A C : Taken) → ((q : Path) → V b q ≡ true → ⊥) → Gains s V A C → Gains s V (without b A) (without b C)
gains_without s b V A C none f = record {
  to = λ t q k. let m = without_is b t q A k in more (else_without b t q C m.0) (f.to t q m.1);
  back = λ t q ne k. let m = without_is b t q C k in else_without b t q A m.0 (f.back t q ne m.1);
  whole = λ t q k. else_without b t q A (λ e. none q (subst (λ u. V u q ≡ true) (sym e) k)) (f.whole t q k);
}

pub besides_without : (s b : ℕ) (A C : Taken) → Besides s A C → Besides s (without b A) (without b C)
besides_without s b A C f = record {
  other = λ t q k. let m = without_is b t q A k in let n = f.other t q m.1 in (n.0, else_without b t q C m.0 n.1);
  same = ap (without b) f.same;
}

-- ---- apart

-- what the value takes isn't taken besides
pub record Free (s : ℕ) (V T : Taken) : Type 0 where
  pub free : (t : ℕ) (q : Path) → V t q ≡ true → t ≢ s → T t q ≡ true → ⊥

pub free_less : (s : ℕ) (V T U : Taken) → ((t : ℕ) (q : Path) → U t q ≡ true → T t q ≡ true) → Free s V T → Free s V U
free_less s V T U f m = record { free = λ t q v ne k. m.free t q v ne (f t q k) }

pub free_first : (s : ℕ) (V T U : Taken) → Free s V (λ t q. T t q || U t q) → Free s V T
free_first s V T U m = free_less s V _ T (λ t q. or_left (T t q) (U t q)) m

pub free_second : (s : ℕ) (V T U : Taken) → Free s V (λ t q. T t q || U t q) → Free s V U
free_second s V T U m = free_less s V _ U (λ t q. or_right (T t q) (U t q)) m

pub free_without : (s b : ℕ) (V T : Taken) → ((q : Path) → V b q ≡ true → ⊥) → Free s V (without b T) → Free s V T
free_without s b V T none m = record {
  free = λ t q v ne k. m.free t q v ne (else_without b t q T (λ e. none q (subst (λ u. V u q ≡ true) (sym e) v)) k);
}

pub apart_first : (s : ℕ) (V A B C D : Taken) → Gains s V A C → Besides s B D → Free s V D → Apart C D → Apart A B
apart_first s V A B C D f b m h = record { apart = λ t q x y. by t q (f.to t q x) (b.other t q y) }
  where
    by : (t : ℕ) (q : Path) → ((t ≢ s) × (C t q ≡ true)) ⊎ (V t q ≡ true) → (t ≢ s) × (D t q ≡ true) → ⊥
    by t q (inl x) y = h.apart t q x.1 y.1
    by t q (inr x) y = m.free t q x y.0 y.1

pub apart_second : (s : ℕ) (V A B C D : Taken) → Besides s A C → Gains s V B D → Free s V C → Apart C D → Apart A B
apart_second s V A B C D b f m h = record { apart = λ t q x y. by t q (b.other t q x) (f.to t q y) }
  where
    by : (t : ℕ) (q : Path) → (t ≢ s) × (C t q ≡ true) → ((t ≢ s) × (D t q ≡ true)) ⊎ (V t q ≡ true) → ⊥
    by t q x (inl y) = h.apart t q x.1 y.1
    by t q x (inr y) = m.free t q y x.0 x.1

pub apart_besides : (s : ℕ) (A B C D : Taken) → Besides s A C → Besides s B D → Apart C D → Apart A B
apart_besides s A B C D f g h = apart_same A B C D f.same g.same h

-- ---- legs without the name

pub leg_besides : (s : ℕ) (v : ExprTree) (o : Origin) (l : LegTree) (g h : Named Origin) → LegBinds (IsClear s v) l → Binding s o g h → uses_in_leg l s ≡ 0 → Besides s (leg_takes (put_in_leg s v l) g) (leg_takes l h)
leg_besides s v o (whole e) g h c b z = besides_of s v e g h (same_of s v e o g h c b z)
leg_besides s v o (strided e f i j) g h c b z =
    let y : (d : ExprTree) → Binds (IsClear s v) d → uses d s ≡ 0 → Besides s (takes (put s v d) g) (takes d h) = λ d m n. besides_of s v d g h (same_of s v d o g h m b n) in
    besides_both s _ _ (takes e h) (λ t q. takes f h t q || (takes i h t q || takes j h t q)) (y e c.0 (omega (arith, z)))
    (besides_both s _ _ (takes f h) (λ t q. takes i h t q || takes j h t q) (y f c.1 (omega (arith, z)))
    (besides_both s _ _ (takes i h) (takes j h) (y i c.2 (omega (arith, z))) (y j c.3 (omega (arith, z)))))

none_besides : (s : ℕ) → Besides s (λ t q. false) (λ t q. false)
none_besides s = record { other = λ t q k. let nothing : ⊥ = cc in absurd nothing; same = refl }

pub legs_besides : (s : ℕ) (v : ExprTree) (o : Origin) (ls : LegTrees) (g h : Named Origin) → LegsBind (IsClear s v) ls → Binding s o g h → uses_in_legs ls s ≡ 0 → Besides s (legs_take (put_in_legs s v ls) g) (legs_take ls h)
legs_besides s v o no_legs g h c b z = none_besides s
legs_besides s v o (more_legs l ls) g h c b z =
    besides_both s _ _ (leg_takes l h) (legs_take ls h) (leg_besides s v o l g h c.0 b (omega (arith, z))) (legs_besides s v o ls g h c.1 b (omega (arith, z)))

pub leg_same_keeps : (s : ℕ) (v : ExprTree) (o : Origin) (l : LegTree) (g h : Named Origin) → LegBinds (IsClear s v) l → Binding s o g h → uses_in_leg l s ≡ 0 → LegKeeps l h → LegKeeps (put_in_leg s v l) g
leg_same_keeps s v o (whole e) g h c b z k = same_keeps s v e g h (same_of s v e o g h c b z) k
leg_same_keeps s v o (strided e f i j) g h c b z k =
    let y : (d : ExprTree) → Binds (IsClear s v) d → uses d s ≡ 0 → Keeps d h → Keeps (put s v d) g = λ d m n. same_keeps s v d g h (same_of s v d o g h m b n) in
    (y e c.0 (omega (arith, z)) k.0, y f c.1 (omega (arith, z)) k.1, y i c.2 (omega (arith, z)) k.2, y j c.3 (omega (arith, z)) k.3)

pub legs_same_keep : (s : ℕ) (v : ExprTree) (o : Origin) (ls : LegTrees) (g h : Named Origin) → LegsBind (IsClear s v) ls → Binding s o g h → uses_in_legs ls s ≡ 0 → LegsKeep ls h → LegsKeep (put_in_legs s v ls) g
legs_same_keep s v o no_legs g h c b z k = tt
legs_same_keep s v o (more_legs l ls) g h c b z k =
    (leg_same_keeps s v o l g h c.0 b (omega (arith, z)) k.0, legs_same_keep s v o ls g h c.1 b (omega (arith, z)) k.1)

pub leg_same_splits : (s : ℕ) (v : ExprTree) (o : Origin) (l : LegTree) (g h : Named Origin) → LegBinds (IsClear s v) l → Binding s o g h → uses_in_leg l s ≡ 0 → LegSplits l h → LegSplits (put_in_leg s v l) g
leg_same_splits s v o (whole e) g h c b z k = same_splits s v e g h (same_of s v e o g h c b z) k
leg_same_splits s v o (strided e f i j) g h c b z k =
    let w : (d : ExprTree) → Binds (IsClear s v) d → uses d s ≡ 0 → Same s v d g h = λ d m n. same_of s v d o g h m b n in
    let se = w e c.0 (omega (arith, z)) in let sf = w f c.1 (omega (arith, z)) in
    let si = w i c.2 (omega (arith, z)) in let sj = w j c.3 (omega (arith, z)) in
    let te = same_taken s v e g h se in let tf = same_taken s v f g h sf in let ti = same_taken s v i g h si in let tj = same_taken s v j g h sj in (
      same_splits s v e g h se k.0,
      same_splits s v f g h sf k.1,
      same_splits s v i g h si k.2,
      same_splits s v j g h sj k.3,
      apart_same _ _ _ _ te tf k.4,
      apart_same _ _ _ _ te ti k.5,
      apart_same _ _ _ _ te tj k.6,
      apart_same _ _ _ _ tf ti k.7,
      apart_same _ _ _ _ tf tj k.8,
      apart_same _ _ _ _ ti tj k.9,
    )

pub legs_same_split : (s : ℕ) (v : ExprTree) (o : Origin) (ls : LegTrees) (g h : Named Origin) → LegsBind (IsClear s v) ls → Binding s o g h → uses_in_legs ls s ≡ 0 → LegsSplit ls h → LegsSplit (put_in_legs s v ls) g
legs_same_split s v o no_legs g h c b z k = tt
legs_same_split s v o (more_legs l ls) g h c b z k =
    let first : uses_in_leg l s ≡ 0 = omega (arith, z) in let rest : uses_in_legs ls s ≡ 0 = omega (arith, z) in (
      leg_same_splits s v o l g h c.0 b first k.0,
      legs_same_split s v o ls g h c.1 b rest k.1,
      apart_same _ _ _ _ (leg_besides s v o l g h c.0 b first).same (legs_besides s v o ls g h c.1 b rest).same k.2,
    )

-- ---- chains

-- a chain on the name becomes none where the value is none
pub chain_gone : (s : ℕ) (v e : ExprTree) (c : ℕ × Path) → chain_of v ≡ None → chain_of e ≡ Some c → s ≡ c.0 → chain_of (put s v e) ≡ None
chain_gone s v e c none k i =
    chain_by (λ x y. s ≡ y.0 → chain_of (put s v x) ≡ None)
    (λ a x j. ap (λ b. chain_of (if b then v else leaf a (name x))) (eq-eqb s x j) ∙ none)
    (λ a n x y m f j. ap (chain_of_one (field n)) (f j)) e c k i
