-- What is free in a handed body is free in the body, or is its row number, or is free in the other loop's body.
use Rattle.std.proofs.Common.{◌≡◌, ◌⊎◌, inl, inr, ℕ, Bool, true, false, ◌&&◌, ◌∷◌}
use Rattle.weld_tree.specs.declared.binder.Binder.{Binder}
use Rattle.weld_tree.specs.TypeTree.{TypeTree}
use Rattle.weld_tree.specs.ExprTree.{At, ExprTree, leaf, one, two, three, many, let_in, loop, iterate, ExprTrees, no_exprs, more_exprs, LegTree, whole, strided, LegTrees, no_legs, more_legs, Two}
use Rattle.weld_meaning.specs.Environment.{Named}
use Rattle.weld_meaning.specs.Origin.{Origin, origin}
use Rattle.weld_meaning.specs.Names.{IsFree, AreFree, LegIsFree, LegsAreFree}
use Rattle.weld_vertical.specs.Sinking.{is_merge}
use Rattle.weld_handing.specs.Handing.{is_held, handed_two, handed, all_handed, leg_handed, legs_handed}
use Rattle.weld_handing.proofs.Common.{IsBehind}

module _ (t : TypeTree) (i : ℕ) (c n x : Binder) (f : ExprTree) where
  -- the row number, or a name of the other loop's body
  abbrev pub Added : ℕ → Type 0
  Added s = (s ≡ i) ⊎ IsBehind f c.sym.0 n.sym.0 x.sym.0 s

  two_free : (b : Bool) (p : Origin) (a : At) (o : Two) (e v : ExprTree) (s : ℕ) → IsFree (handed_two b t i c n x f p a o e v) s → (IsFree e s ⊎ IsFree v s) ⊎ Added s
  two_free true p a o e v s (inl h) = inl (inl h)
  two_free true p a o e v s (inr (inl h, ne)) = inr (inl h)
  two_free true p a o e v s (inr (inr (inl h, nn), nc)) = inl (inr h)
  two_free true p a o e v s (inr (inr (inr (h, nx), nn), nc)) = inr (inr (h, nx, nn, nc))
  two_free false p a o e v s h = inl h

  bump : {Q R A : Type 0} → (Q → R) → Q ⊎ A → R ⊎ A
  bump g (inl q) = inl (g q)
  bump g (inr a) = inr a

  either_free : {P Q R S A : Type 0} → (P → Q ⊎ A) → (R → S ⊎ A) → (P ⊎ R) ⊎ A → (Q ⊎ S) ⊎ A
  either_free h k (inl (inl p)) = bump (λ q. inl q) (h p)
  either_free h k (inl (inr p)) = bump (λ q. inr q) (k p)
  either_free h k (inr a) = inr a

  either_of : {P Q R S A : Type 0} → (P → Q ⊎ A) → (R → S ⊎ A) → P ⊎ R → (Q ⊎ S) ⊎ A
  either_of h k p = either_free h k (inl p)

  under : {P Q A N : Type 0} → (P → Q ⊎ A) → P × N → (Q × N) ⊎ A
  under h p = bump (λ q. (q, p.1)) (h p.0)

  mutual
    pub handed_free : (q : Named Origin) (e : ExprTree) (s : ℕ) → IsFree (handed t i c n x f q e) s → IsFree e s ⊎ Added s
    handed_free q (leaf a l) s h = inl h
    handed_free q (one a o e) s h = handed_free q e s h
    handed_free q (two a o e v) s h =
        either_free (handed_free q e s) (handed_free q v s) (two_free (is_merge o && is_held (origin e q)) (origin e q) a o (handed t i c n x f q e) (handed t i c n x f q v) s h)
    handed_free q (three a o d e g) s h =
        either_free (handed_free q d s) (either_of (handed_free q e s) (handed_free q g s)) (inl h)
    handed_free q (many a o es) s h = all_handed_free q es s h
    handed_free q (let_in a z v g) s h =
        either_free (handed_free q v s) (under (handed_free ((z.sym.0, origin v q) ∷ q) g s)) (inl h)
    handed_free q (loop a ls e b m y g) s h = either_free (legs_handed_free q ls s) (either_of (handed_free q e s) (λ k. inl k)) (inl h)
    handed_free q (iterate a e b g) s h = either_free (handed_free q e s) (λ k. inl k) (inl h)

    all_handed_free : (q : Named Origin) (es : ExprTrees) (s : ℕ) → AreFree (all_handed t i c n x f q es) s → AreFree es s ⊎ Added s
    all_handed_free q no_exprs s h = absurd h
    all_handed_free q (more_exprs e es) s h = either_of (handed_free q e s) (all_handed_free q es s) h

    leg_handed_free : (q : Named Origin) (l : LegTree) (s : ℕ) → LegIsFree (leg_handed t i c n x f q l) s → LegIsFree l s ⊎ Added s
    leg_handed_free q (whole e) s h = handed_free q e s h
    leg_handed_free q (strided e g k j) s h =
        either_of (handed_free q e s) (either_of (handed_free q g s) (either_of (handed_free q k s) (handed_free q j s))) h

    legs_handed_free : (q : Named Origin) (ls : LegTrees) (s : ℕ) → LegsAreFree (legs_handed t i c n x f q ls) s → LegsAreFree ls s ⊎ Added s
    legs_handed_free q no_legs s h = absurd h
    legs_handed_free q (more_legs l ls) s h = either_of (leg_handed_free q l s) (legs_handed_free q ls s) h
