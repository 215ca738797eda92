-- Where a value is put in a name's place: the names that are free, and that it is well made and spellable.
use Rattle.std.proofs.Common.{◌≡◌, ◌≢◌, ℕ, ◌==◌, if◌then◌else◌, Bool, true, false, sym, subst, ◌∙◌, ◌⊎◌, inl, inr, eq-eqb, ne_eqb}
use Rattle.std.proofs.lemmas.Bool.{cases_eq}
use Rattle.weld_tree.specs.ExprTree.{At, ExprTree, leaf, one, two, three, many, let_in, loop, iterate, ExprTrees, no_exprs, more_exprs, LegTree, whole, strided, LegTrees, no_legs, more_legs, Leaf, int, truth, chars, name, fresh}
use Rattle.weld_tree.specs.Program.{LeafIsWellMade, IsWellMade, AreWellMade, LegIsWellMade, LegsAreWellMade, HasExprs, HasLegs}
use Rattle.weld_meaning.specs.Names.{LeafNames, IsFree, AreFree, LegIsFree, LegsAreFree, put_in_leaf, put, put_in_all, put_in_leg, put_in_legs}
use Rattle.weld_print.specs.Spellable.{LeafIsSpellable, IsSpellable, AreSpellable, LegIsSpellable, LegsAreSpellable}

-- ---- free names: those of the value, and those of the expression but the name

leaf_named : (a : At) (l : Leaf) (s : ℕ) (v : ExprTree) (t : ℕ) → IsFree (put_in_leaf s v a l) t → IsFree v t ⊎ (LeafNames l t × (t ≢ s))
leaf_named a (int k x) s v t h = absurd h
leaf_named a (truth b) s v t h = absurd h
leaf_named a (chars bs) s v t h = absurd h
leaf_named a (name x) s v t h = by (cases_eq s x)
  where
    by : (s ≡ x) ⊎ (s ≢ x) → IsFree v t ⊎ ((t ≡ x) × (t ≢ s))
    by (inl e) = inl (subst (λ b. IsFree (if b then v else leaf a (name x)) t) (eq-eqb s x e) h)
    by (inr ne) = let f : t ≡ x = subst (λ b. IsFree (if b then v else leaf a (name x)) t) (ne_eqb s x ne) h in inr (f, λ e. ne (sym e ∙ f))
leaf_named a (fresh b) s v t h = absurd h

-- of two and more
two_named : {A B C D V : Type 0} → (A → V ⊎ B) → (C → V ⊎ D) → A ⊎ C → V ⊎ (B ⊎ D)
two_named f g (inl a) = by (f a)
  where
    by : {V B D : Type 0} → V ⊎ B → V ⊎ (B ⊎ D)
    by (inl v) = inl v
    by (inr b) = inr (inl b)
two_named f g (inr c) = by (g c)
  where
    by : {V B D : Type 0} → V ⊎ D → V ⊎ (B ⊎ D)
    by (inl v) = inl v
    by (inr d) = inr (inr d)

-- a part's names behind binders
behind : {V B N Q : Type 0} → V ⊎ (B × N) → Q → V ⊎ ((B × Q) × N)
behind (inl v) q = inl v
behind (inr p) q = inr ((p.0, q), p.1)

-- the name that is left out is left out of all of them
left_out : {V B D N : Type 0} → V ⊎ ((B × N) ⊎ (D × N)) → V ⊎ ((B ⊎ D) × N)
left_out (inl v) = inl v
left_out (inr (inl b)) = inr (inl b.0, b.1)
left_out (inr (inr d)) = inr (inr d.0, d.1)

either_named : {A B C D V N : Type 0} → (A → V ⊎ (B × N)) → (C → V ⊎ (D × N)) → A ⊎ C → V ⊎ ((B ⊎ D) × N)
either_named f g h = left_out (two_named f g h)

mutual
  pub put_named : (e : ExprTree) (s : ℕ) (v : ExprTree) (t : ℕ) → IsFree (put s v e) t → IsFree v t ⊎ (IsFree e t × (t ≢ s))
  put_named (leaf a l) s v t h = leaf_named a l s v t h
  put_named (one a o e) s v t h = put_named e s v t h
  put_named (two a o e f) s v t h = either_named (put_named e s v t) (put_named f s v t) h
  put_named (three a o d e f) s v t h = either_named (put_named d s v t) (either_named (put_named e s v t) (put_named f s v t)) h
  put_named (many a o es) s v t h = all_named es s v t h
  put_named (let_in a b e f) s v t h = either_named (put_named e s v t) (λ k. behind (put_named f s v t k.0) k.1) h
  put_named (loop a ls e b n x f) s v t h =
      either_named (legs_named ls s v t) (either_named (put_named e s v t) (λ k. regrouped (behind (put_named f s v t k.0) (k.1, k.2, k.3)))) h
    where
      regrouped : {V B X Y Z N : Type 0} → V ⊎ ((B × (X × Y × Z)) × N) → V ⊎ ((B × X × Y × Z) × N)
      regrouped (inl w) = inl w
      regrouped (inr p) = inr ((p.0.0, p.0.1.0, p.0.1.1, p.0.1.2), p.1)
  put_named (iterate a e b f) s v t h = either_named (put_named e s v t) (λ k. behind (put_named f s v t k.0) k.1) h

  all_named : (es : ExprTrees) (s : ℕ) (v : ExprTree) (t : ℕ) → AreFree (put_in_all s v es) t → IsFree v t ⊎ (AreFree es t × (t ≢ s))
  all_named no_exprs s v t h = absurd h
  all_named (more_exprs e es) s v t h = either_named (put_named e s v t) (all_named es s v t) h

  leg_named : (l : LegTree) (s : ℕ) (v : ExprTree) (t : ℕ) → LegIsFree (put_in_leg s v l) t → IsFree v t ⊎ (LegIsFree l t × (t ≢ s))
  leg_named (whole e) s v t h = put_named e s v t h
  leg_named (strided e f i j) s v t h = either_named (put_named e s v t) (either_named (put_named f s v t) (either_named (put_named i s v t) (put_named j s v t))) h

  legs_named : (ls : LegTrees) (s : ℕ) (v : ExprTree) (t : ℕ) → LegsAreFree (put_in_legs s v ls) t → IsFree v t ⊎ (LegsAreFree ls t × (t ≢ s))
  legs_named no_legs s v t h = absurd h
  legs_named (more_legs l ls) s v t h = either_named (leg_named l s v t) (legs_named ls s v t) h

-- ---- well made and spellable

leaf_made : (a : At) (l : Leaf) (s : ℕ) (v : ExprTree) → IsWellMade v → LeafIsWellMade l → IsWellMade (put_in_leaf s v a l)
leaf_made a (int k x) s v w h = h
leaf_made a (truth b) s v w h = h
leaf_made a (chars bs) s v w h = h
leaf_made a (name x) s v w h = by (s == x)
  where
    by : (b : Bool) → IsWellMade (if b then v else leaf a (name x))
    by true = w
    by false = tt
leaf_made a (fresh b) s v w h = h

some_put : (es : ExprTrees) (s : ℕ) (v : ExprTree) → HasExprs es → HasExprs (put_in_all s v es)
some_put no_exprs s v h = h
some_put (more_exprs e es) s v h = tt

some_legs_put : (ls : LegTrees) (s : ℕ) (v : ExprTree) → HasLegs ls → HasLegs (put_in_legs s v ls)
some_legs_put no_legs s v h = h
some_legs_put (more_legs l ls) s v h = tt

mutual
  pub put_made : (e : ExprTree) (s : ℕ) (v : ExprTree) → IsWellMade v → IsWellMade e → IsWellMade (put s v e)
  put_made (leaf a l) s v w h = leaf_made a l s v w h
  put_made (one a o e) s v w h = (h.0, put_made e s v w h.1)
  put_made (two a o e f) s v w h = (put_made e s v w h.0, put_made f s v w h.1)
  put_made (three a o d e f) s v w h = (put_made d s v w h.0, put_made e s v w h.1, put_made f s v w h.2)
  put_made (many a o es) s v w h = (some_put es s v h.0, all_made es s v w h.1)
  put_made (let_in a b e f) s v w h = (put_made e s v w h.0, put_made f s v w h.1)
  put_made (loop a ls e b n x f) s v w h = (some_legs_put ls s v h.0, legs_made ls s v w h.1, put_made e s v w h.2, put_made f s v w h.3)
  put_made (iterate a e b f) s v w h = (put_made e s v w h.0, put_made f s v w h.1)

  all_made : (es : ExprTrees) (s : ℕ) (v : ExprTree) → IsWellMade v → AreWellMade es → AreWellMade (put_in_all s v es)
  all_made no_exprs s v w h = tt
  all_made (more_exprs e es) s v w h = (put_made e s v w h.0, all_made es s v w h.1)

  leg_made : (l : LegTree) (s : ℕ) (v : ExprTree) → IsWellMade v → LegIsWellMade l → LegIsWellMade (put_in_leg s v l)
  leg_made (whole e) s v w h = put_made e s v w h
  leg_made (strided e f i j) s v w h = (put_made e s v w h.0, put_made f s v w h.1, put_made i s v w h.2, put_made j s v w h.3)

  legs_made : (ls : LegTrees) (s : ℕ) (v : ExprTree) → IsWellMade v → LegsAreWellMade ls → LegsAreWellMade (put_in_legs s v ls)
  legs_made no_legs s v w h = tt
  legs_made (more_legs l ls) s v w h = (leg_made l s v w h.0, legs_made ls s v w h.1)

leaf_spellable : (a : At) (l : Leaf) (s : ℕ) (v : ExprTree) → IsSpellable v → LeafIsSpellable l → IsSpellable (put_in_leaf s v a l)
leaf_spellable a (int k x) s v w h = h
leaf_spellable a (truth b) s v w h = h
leaf_spellable a (chars bs) s v w h = h
leaf_spellable a (name x) s v w h = by (s == x)
  where
    by : (b : Bool) → IsSpellable (if b then v else leaf a (name x))
    by true = w
    by false = tt
leaf_spellable a (fresh b) s v w h = h

mutual
  pub put_spellable : (e : ExprTree) (s : ℕ) (v : ExprTree) → IsSpellable v → IsSpellable e → IsSpellable (put s v e)
  put_spellable (leaf a l) s v w h = leaf_spellable a l s v w h
  put_spellable (one a o e) s v w h = (h.0, put_spellable e s v w h.1)
  put_spellable (two a o e f) s v w h = (put_spellable e s v w h.0, put_spellable f s v w h.1)
  put_spellable (three a o d e f) s v w h = (put_spellable d s v w h.0, put_spellable e s v w h.1, put_spellable f s v w h.2)
  put_spellable (many a o es) s v w h = all_spellable es s v w h
  put_spellable (let_in a b e f) s v w h = (h.0, put_spellable e s v w h.1, put_spellable f s v w h.2)
  put_spellable (loop a ls e b n x f) s v w h = (legs_spellable ls s v w h.0, put_spellable e s v w h.1, h.2, h.3, h.4, put_spellable f s v w h.5)
  put_spellable (iterate a e b f) s v w h = (put_spellable e s v w h.0, h.1, put_spellable f s v w h.2)

  all_spellable : (es : ExprTrees) (s : ℕ) (v : ExprTree) → IsSpellable v → AreSpellable es → AreSpellable (put_in_all s v es)
  all_spellable no_exprs s v w h = tt
  all_spellable (more_exprs e es) s v w h = (put_spellable e s v w h.0, all_spellable es s v w h.1)

  leg_spellable : (l : LegTree) (s : ℕ) (v : ExprTree) → IsSpellable v → LegIsSpellable l → LegIsSpellable (put_in_leg s v l)
  leg_spellable (whole e) s v w h = put_spellable e s v w h
  leg_spellable (strided e f i j) s v w h = (put_spellable e s v w h.0, put_spellable f s v w h.1, put_spellable i s v w h.2, put_spellable j s v w h.3)

  legs_spellable : (ls : LegTrees) (s : ℕ) (v : ExprTree) → IsSpellable v → LegsAreSpellable ls → LegsAreSpellable (put_in_legs s v ls)
  legs_spellable no_legs s v w h = tt
  legs_spellable (more_legs l ls) s v w h = (leg_spellable l s v w h.0, legs_spellable ls s v w h.1)
