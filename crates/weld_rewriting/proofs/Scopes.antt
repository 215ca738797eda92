-- Names that occur free are in scope, and what has all of them in scope is scoped.
use Rattle.std.proofs.Common.{◌≡◌, ◌≢◌, ℕ, List, ◌∷◌, refl, sym, subst, inl, inr, ◌⊎◌}
use Rattle.std.proofs.lemmas.Bool.{cases_eq}
use Rattle.weld_tree.specs.ExprTree.{ExprTree, leaf, one, two, three, many, let_in, loop, iterate, ExprTrees, no_exprs, more_exprs, LegTree, whole, strided, LegTrees, no_legs, more_legs, Leaf, int, truth, chars, name, fresh}
use Rattle.weld_tree.specs.Program.{IsOneOf, LeafIsScoped, IsScoped, AreScoped, LegIsScoped, LegsAreScoped}
use Rattle.weld_meaning.specs.Names.{LeafNames, IsFree, AreFree, LegIsFree, LegsAreFree}

leaf_scoped : (l : Leaf) (scope : List ℕ) (s : ℕ) → LeafIsScoped l scope → LeafNames l s → IsOneOf scope s
leaf_scoped (int k x) scope s h f = absurd f
leaf_scoped (truth b) scope s h f = absurd f
leaf_scoped (chars bs) scope s h f = absurd f
leaf_scoped (name t) scope s h f = subst (IsOneOf scope) (sym f) h
leaf_scoped (fresh b) scope s h f = absurd f

less : (b : ℕ) (scope : List ℕ) (s : ℕ) → IsOneOf (b ∷ scope) s → s ≢ b → IsOneOf scope s
less b scope s (inl e) ne = absurd (ne e)
less b scope s (inr h) ne = h

mutual
  pub scoped : (e : ExprTree) (scope : List ℕ) (s : ℕ) → IsScoped e scope → IsFree e s → IsOneOf scope s
  scoped (leaf a l) scope s h f = leaf_scoped l scope s h f
  scoped (one a o e) scope s h f = scoped e scope s h f
  scoped (two a o e g) scope s h (inl f) = scoped e scope s h.0 f
  scoped (two a o e g) scope s h (inr f) = scoped g scope s h.1 f
  scoped (three a o e g k) scope s h (inl f) = scoped e scope s h.0 f
  scoped (three a o e g k) scope s h (inr (inl f)) = scoped g scope s h.1 f
  scoped (three a o e g k) scope s h (inr (inr f)) = scoped k scope s h.2 f
  scoped (many a o es) scope s h f = all_scoped es scope s h f
  scoped (let_in a b e g) scope s h (inl f) = scoped e scope s h.0 f
  scoped (let_in a b e g) scope s h (inr f) = less b.sym.0 scope s (scoped g _ s h.1 f.0) f.1
  scoped (loop a ls e b n x g) scope s h (inl f) = legs_scoped ls scope s h.0 f
  scoped (loop a ls e b n x g) scope s h (inr (inl f)) = scoped e scope s h.1 f
  scoped (loop a ls e b n x g) scope s h (inr (inr f)) =
      less b.sym.0 scope s (less n.sym.0 (b.sym.0 ∷ scope) s (less x.sym.0 (n.sym.0 ∷ b.sym.0 ∷ scope) s (scoped g _ s h.2 f.0) f.1) f.2) f.3
  scoped (iterate a e b g) scope s h (inl f) = scoped e scope s h.0 f
  scoped (iterate a e b g) scope s h (inr f) = less b.sym.0 scope s (scoped g _ s h.1 f.0) f.1

  all_scoped : (es : ExprTrees) (scope : List ℕ) (s : ℕ) → AreScoped es scope → AreFree es s → IsOneOf scope s
  all_scoped no_exprs scope s h f = absurd f
  all_scoped (more_exprs e es) scope s h (inl f) = scoped e scope s h.0 f
  all_scoped (more_exprs e es) scope s h (inr f) = all_scoped es scope s h.1 f

  leg_scoped : (l : LegTree) (scope : List ℕ) (s : ℕ) → LegIsScoped l scope → LegIsFree l s → IsOneOf scope s
  leg_scoped (whole e) scope s h f = scoped e scope s h f
  leg_scoped (strided e g i j) scope s h (inl f) = scoped e scope s h.0 f
  leg_scoped (strided e g i j) scope s h (inr (inl f)) = scoped g scope s h.1 f
  leg_scoped (strided e g i j) scope s h (inr (inr (inl f))) = scoped i scope s h.2 f
  leg_scoped (strided e g i j) scope s h (inr (inr (inr f))) = scoped j scope s h.3 f

  legs_scoped : (ls : LegTrees) (scope : List ℕ) (s : ℕ) → LegsAreScoped ls scope → LegsAreFree ls s → IsOneOf scope s
  legs_scoped no_legs scope s h f = absurd f
  legs_scoped (more_legs l ls) scope s h (inl f) = leg_scoped l scope s h.0 f
  legs_scoped (more_legs l ls) scope s h (inr f) = legs_scoped ls scope s h.1 f

-- and where all free names are in scope, so is the expression
to_scope : (l : Leaf) (scope : List ℕ) → ((s : ℕ) → LeafNames l s → IsOneOf scope s) → LeafIsScoped l scope
to_scope (int k x) scope h = tt
to_scope (truth b) scope h = tt
to_scope (chars bs) scope h = tt
to_scope (name t) scope h = h t refl
to_scope (fresh b) scope h = tt

more : (b : ℕ) (free : ℕ → Type 0) (scope : List ℕ) → ((s : ℕ) → free s → s ≢ b → IsOneOf scope s) → (s : ℕ) → free s → IsOneOf (b ∷ scope) s
more b free scope h s f = by (cases_eq s b)
  where
    by : (s ≡ b) ⊎ (s ≢ b) → IsOneOf (b ∷ scope) s
    by (inl e) = inl e
    by (inr ne) = inr (h s f ne)

mutual
  pub in_scope : (e : ExprTree) (scope : List ℕ) → ((s : ℕ) → IsFree e s → IsOneOf scope s) → IsScoped e scope
  in_scope (leaf a l) scope h = to_scope l scope h
  in_scope (one a o e) scope h = in_scope e scope h
  in_scope (two a o e f) scope h = (in_scope e scope (λ s x. h s (inl x)), in_scope f scope (λ s x. h s (inr x)))
  in_scope (three a o e f g) scope h =
      (in_scope e scope (λ s x. h s (inl x)), in_scope f scope (λ s x. h s (inr (inl x))), in_scope g scope (λ s x. h s (inr (inr x))))
  in_scope (many a o es) scope h = all_in_scope es scope h
  in_scope (let_in a b e f) scope h =
      (in_scope e scope (λ s x. h s (inl x)), in_scope f _ (more b.sym.0 (IsFree f) scope (λ s x ne. h s (inr (x, ne)))))
  in_scope (loop a ls e b n x f) scope h = (
    legs_in_scope ls scope (λ s y. h s (inl y)),
    in_scope e scope (λ s y. h s (inr (inl y))),
    in_scope f _
        (more x.sym.0 (IsFree f) (n.sym.0 ∷ b.sym.0 ∷ scope) (λ s y ne.
        more n.sym.0 (λ u. IsFree f u × (u ≢ x.sym.0)) (b.sym.0 ∷ scope) (λ u z nu.
        more b.sym.0 (λ v. IsFree f v × (v ≢ x.sym.0) × (v ≢ n.sym.0)) scope (λ v w nv. h v (inr (inr (w.0, w.1, w.2, nv)))) u (z.0, z.1, nu)) s (y, ne))),
  )
  in_scope (iterate a e b f) scope h =
      (in_scope e scope (λ s x. h s (inl x)), in_scope f _ (more b.sym.0 (IsFree f) scope (λ s x ne. h s (inr (x, ne)))))

  all_in_scope : (es : ExprTrees) (scope : List ℕ) → ((s : ℕ) → AreFree es s → IsOneOf scope s) → AreScoped es scope
  all_in_scope no_exprs scope h = tt
  all_in_scope (more_exprs e es) scope h = (in_scope e scope (λ s x. h s (inl x)), all_in_scope es scope (λ s x. h s (inr x)))

  leg_in_scope : (l : LegTree) (scope : List ℕ) → ((s : ℕ) → LegIsFree l s → IsOneOf scope s) → LegIsScoped l scope
  leg_in_scope (whole e) scope h = in_scope e scope h
  leg_in_scope (strided e f i j) scope h =
      (in_scope e scope (λ s x. h s (inl x)), in_scope f scope (λ s x. h s (inr (inl x))), in_scope i scope (λ s x. h s (inr (inr (inl x)))), in_scope j scope (λ s x. h s (inr (inr (inr x)))))

  legs_in_scope : (ls : LegTrees) (scope : List ℕ) → ((s : ℕ) → LegsAreFree ls s → IsOneOf scope s) → LegsAreScoped ls scope
  legs_in_scope no_legs scope h = tt
  legs_in_scope (more_legs l ls) scope h = (leg_in_scope l scope (λ s x. h s (inl x)), legs_in_scope ls scope (λ s x. h s (inr x)))
