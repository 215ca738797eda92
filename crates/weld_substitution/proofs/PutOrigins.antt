-- Where a value is put in a name's place, what is answered comes from where it came from when the name stood for the value.
use Rattle.std.proofs.Common.{◌≡◌, ◌≢◌, ℕ, ◌==◌, if◌then◌else◌, ◌∷◌, refl, ap, sym, ◌∙◌, ◌⊎◌, inl, inr, eq-eqb, ne_eqb}
use Rattle.std.proofs.lemmas.Bool.{cases_eq}
use Rattle.weld_tree.specs.ExprTree.{At, ExprTree, leaf, one, two, three, many, let_in, loop, iterate, ExprTrees, no_exprs, more_exprs, Leaf, int, truth, chars, name, fresh}
use Rattle.weld_meaning.specs.Environment.{Named}
use Rattle.weld_meaning.specs.Origin.{Origin, more_origins, known_origin, origin_of_name, leaf_origin, one_origin, two_origin, three_origin, many_origin, origin, origins}
use Rattle.weld_meaning.specs.Names.{IsFree, put_in_leaf, put, put_in_all, Binds, AllBind, IsClear}
use Rattle.weld_meaning.proofs.FreeNames.{origin_free}
use Rattle.weld_substitution.proofs.Bindings.{Binding, binding_behind, agree_over}

leaf_origin_put : (a : At) (l : Leaf) (s : ℕ) (v : ExprTree) (o : Origin) (g h : Named Origin) → Binding s o g h → origin v g ≡ o → origin (put_in_leaf s v a l) g ≡ leaf_origin l h
leaf_origin_put a (int k x) s v o g h r e = refl
leaf_origin_put a (truth b) s v o g h r e = refl
leaf_origin_put a (chars bs) s v o g h r e = refl
leaf_origin_put a (name t) s v o g h r e = by (cases_eq s t)
  where
    by : (s ≡ t) ⊎ (s ≢ t) → origin (if s == t then v else leaf a (name t)) g ≡ origin_of_name t h
    by (inl p) = rw (eq-eqb s t p) (e ∙ sym (ap known_origin r.there) ∙ ap (λ u. origin_of_name u h) p)
    by (inr ne) = rw (ne_eqb s t ne) (ap known_origin (r.others t (λ p. ne (sym p))))
leaf_origin_put a (fresh b) s v o g h r e = refl

-- the value's own origin, behind another binder
pub origin_over : (v : ExprTree) (b : ℕ) (y o : Origin) (g : Named Origin) → ¬ (IsFree v b) → origin v g ≡ o → origin v ((b, y) ∷ g) ≡ o
origin_over v b y o g nf e = sym (origin_free v g ((b, y) ∷ g) (agree_over (IsFree v) b y g nf)) ∙ e

mutual
  pub origin_put : (e : ExprTree) (s : ℕ) (v : ExprTree) (o : Origin) (g h : Named Origin) → Binds (IsClear s v) e → Binding s o g h → origin v g ≡ o → origin (put s v e) g ≡ origin e h
  origin_put (leaf a l) s v o g h c r p = leaf_origin_put a l s v o g h r p
  origin_put (one a k e) s v o g h c r p = ap (one_origin k) (origin_put e s v o g h c r p)
  origin_put (two a k e f) s v o g h c r p = ap (two_origin k) (origin_put e s v o g h c.0 r p)
  origin_put (three a k d e f) s v o g h c r p = ap (three_origin k) (origin_put e s v o g h c.1 r p)
  origin_put (many a k es) s v o g h c r p = ap (many_origin k) (origins_put es s v o g h c r p)
  origin_put (let_in a b e f) s v o g h c r p =
      ap (λ x. origin (put s v f) ((b.sym.0, x) ∷ g)) (origin_put e s v o g h c.1 r p)
      ∙ origin_put f s v o ((b.sym.0, origin e h) ∷ g) ((b.sym.0, origin e h) ∷ h) c.2 (binding_behind s o g h b.sym.0 (origin e h) c.0.0 r) (origin_over v b.sym.0 (origin e h) o g c.0.1 p)
  origin_put (loop a ls e b n x f) s v o g h c r p = origin_put e s v o g h c.4 r p
  origin_put (iterate a e b f) s v o g h c r p = refl

  origins_put : (es : ExprTrees) (s : ℕ) (v : ExprTree) (o : Origin) (g h : Named Origin) → AllBind (IsClear s v) es → Binding s o g h → origin v g ≡ o → origins (put_in_all s v es) g ≡ origins es h
  origins_put no_exprs s v o g h c r p = refl
  origins_put (more_exprs e es) s v o g h c r p =
      let x = origin_put e s v o g h c.0 r p in let y = origins_put es s v o g h c.1 r p in λ i. more_origins (x i) (y i)
