-- What an expression binds, how many loops stand in it, its scope and its nodes, under other numbers.
use Rattle.std.proofs.Common.{◌≡◌, ℕ, ◌+◌, List, [], ◌∷◌, ◌++◌, map, refl, ap, sym, ◌∙◌, inl, inr, ◌⊎◌}
use Rattle.weld_tree.specs.declared.binder.Binder.{Binder}
use Rattle.weld_tree.specs.ExprTree.{ExprTree, leaf, one, two, three, many, let_in, loop, iterate, ExprTrees, no_exprs, more_exprs, LegTree, whole, strided, LegTrees, no_legs, more_legs, Leaf, int, truth, chars, name, fresh, pack_exprs, pack_legs}
use Rattle.weld_tree.specs.Program.{loops, loops_in, loops_in_leg, loops_in_legs, bound, bound_in, bound_in_leg, bound_in_legs, IsOneOf, LeafIsScoped, IsScoped, AreScoped, LegIsScoped, LegsAreScoped, LeafIsWellMade, HasExprs, HasLegs, IsWellMade, AreWellMade, LegIsWellMade, LegsAreWellMade}
use Rattle.weld_meaning.specs.Names.{Binds, AllBind, LegBinds, LegsBind}
use Rattle.weld_objects.specs.Renamed.{Renaming, renamed_binder, renamed_leaf, renamed, all_renamed, leg_renamed, legs_renamed, AgreeAt, ScopeMoves, ScopeAgrees}

-- ---- loops

mutual
  pub loops_stay : (r : Renaming) (e : ExprTree) → loops (renamed r e) ≡ loops e
  loops_stay r (leaf a l) = refl
  loops_stay r (one a o e) = loops_stay r e
  loops_stay r (two a o e f) = λ i. loops_stay r e i + loops_stay r f i
  loops_stay r (three a o c e f) = λ i. loops_stay r c i + loops_stay r e i + loops_stay r f i
  loops_stay r (many a o es) = all_loops_stay r es
  loops_stay r (let_in a b e f) = λ i. loops_stay r e i + loops_stay r f i
  loops_stay r (loop a ls e b n x f) = λ i. 1 + (legs_loops_stay r ls i + loops_stay r e i + loops_stay r f i)
  loops_stay r (iterate a e b f) = λ i. loops_stay r e i + loops_stay r f i

  all_loops_stay : (r : Renaming) (es : ExprTrees) → loops_in (all_renamed r es) ≡ loops_in es
  all_loops_stay r no_exprs = refl
  all_loops_stay r (more_exprs e es) = λ i. loops_stay r e i + all_loops_stay r es i

  leg_loops_stay : (r : Renaming) (l : LegTree) → loops_in_leg (leg_renamed r l) ≡ loops_in_leg l
  leg_loops_stay r (whole e) = loops_stay r e
  leg_loops_stay r (strided e f g h) = λ i. loops_stay r e i + loops_stay r f i + loops_stay r g i + loops_stay r h i

  legs_loops_stay : (r : Renaming) (ls : LegTrees) → loops_in_legs (legs_renamed r ls) ≡ loops_in_legs ls
  legs_loops_stay r no_legs = refl
  legs_loops_stay r (more_legs l ls) = λ i. leg_loops_stay r l i + legs_loops_stay r ls i

-- ---- what is bound

map_both : (r : Renaming) (xs ys us vs : List ℕ) → xs ≡ map r us → ys ≡ map r vs → xs ++ ys ≡ map r (us ++ vs)
map_both r xs ys us vs p q = (λ i. p i ++ q i) ∙ map-append r us vs
  where
    map-append : (r : Renaming) (us vs : List ℕ) → map r us ++ map r vs ≡ map r (us ++ vs)
    map-append r [] vs = refl
    map-append r (u ∷ us) vs = ap (λ ws. r u ∷ ws) (map-append r us vs)

mutual
  pub bound_move : (r : Renaming) (e : ExprTree) → bound (renamed r e) ≡ map r (bound e)
  bound_move r (leaf a l) = refl
  bound_move r (one a o e) = bound_move r e
  bound_move r (two a o e f) = map_both r _ _ (bound e) (bound f) (bound_move r e) (bound_move r f)
  bound_move r (three a o c e f) =
      map_both r _ _ (bound c) (bound e ++ bound f) (bound_move r c) (map_both r _ _ (bound e) (bound f) (bound_move r e) (bound_move r f))
  bound_move r (many a o es) = all_bound_move r es
  bound_move r (let_in a b e f) = ap (λ ws. r b.sym.0 ∷ ws) (map_both r _ _ (bound e) (bound f) (bound_move r e) (bound_move r f))
  bound_move r (loop a ls e b n x f) =
      map_both r _ _ (bound_in_legs ls) (bound e ++ (b.sym.0 ∷ n.sym.0 ∷ x.sym.0 ∷ bound f)) (legs_bound_move r ls)
      (map_both r _ _ (bound e) (b.sym.0 ∷ n.sym.0 ∷ x.sym.0 ∷ bound f) (bound_move r e) (ap (λ ws. r b.sym.0 ∷ r n.sym.0 ∷ r x.sym.0 ∷ ws) (bound_move r f)))
  bound_move r (iterate a e b f) =
      map_both r _ _ (bound e) (b.sym.0 ∷ bound f) (bound_move r e) (ap (λ ws. r b.sym.0 ∷ ws) (bound_move r f))

  all_bound_move : (r : Renaming) (es : ExprTrees) → bound_in (all_renamed r es) ≡ map r (bound_in es)
  all_bound_move r no_exprs = refl
  all_bound_move r (more_exprs e es) = map_both r _ _ (bound e) (bound_in es) (bound_move r e) (all_bound_move r es)

  leg_bound_move : (r : Renaming) (l : LegTree) → bound_in_leg (leg_renamed r l) ≡ map r (bound_in_leg l)
  leg_bound_move r (whole e) = bound_move r e
  leg_bound_move r (strided e f g h) =
      map_both r _ _ (bound e) (bound f ++ (bound g ++ bound h)) (bound_move r e)
      (map_both r _ _ (bound f) (bound g ++ bound h) (bound_move r f) (map_both r _ _ (bound g) (bound h) (bound_move r g) (bound_move r h)))

  legs_bound_move : (r : Renaming) (ls : LegTrees) → bound_in_legs (legs_renamed r ls) ≡ map r (bound_in_legs ls)
  legs_bound_move r no_legs = refl
  legs_bound_move r (more_legs l ls) = map_both r _ _ (bound_in_leg l) (bound_in_legs ls) (leg_bound_move r l) (legs_bound_move r ls)

-- ---- scope

pub scope_binds : (r : Renaming) (b : ℕ) (scope later : List ℕ) → ScopeMoves r scope later → ScopeMoves r (b ∷ scope) (r b ∷ later)
scope_binds r b scope later m = record { there = λ s o. by s o }
  where
    by : (s : ℕ) → (s ≡ b) ⊎ IsOneOf scope s → (r s ≡ r b) ⊎ IsOneOf later (r s)
    by s (inl e) = inl (ap r e)
    by s (inr o) = inr (m.there s o)

leaf_scoped : (r : Renaming) (l : Leaf) (scope later : List ℕ) → ScopeMoves r scope later → LeafIsScoped l scope → LeafIsScoped (renamed_leaf r l) later
leaf_scoped r (int k x) scope later m h = tt
leaf_scoped r (truth b) scope later m h = tt
leaf_scoped r (chars bs) scope later m h = tt
leaf_scoped r (name s) scope later m h = m.there s h
leaf_scoped r (fresh b) scope later m h = tt

mutual
  pub scoped_after : (r : Renaming) (e : ExprTree) (scope later : List ℕ) → ScopeMoves r scope later → IsScoped e scope → IsScoped (renamed r e) later
  scoped_after r (leaf a l) scope later m h = leaf_scoped r l scope later m h
  scoped_after r (one a o e) scope later m h = scoped_after r e scope later m h
  scoped_after r (two a o e f) scope later m h = (scoped_after r e scope later m h.0, scoped_after r f scope later m h.1)
  scoped_after r (three a o c e f) scope later m h = (scoped_after r c scope later m h.0, scoped_after r e scope later m h.1, scoped_after r f scope later m h.2)
  scoped_after r (many a o es) scope later m h = all_scoped_after r es scope later m h
  scoped_after r (let_in a b e f) scope later m h =
      (scoped_after r e scope later m h.0, scoped_after r f (b.sym.0 ∷ scope) (r b.sym.0 ∷ later) (scope_binds r b.sym.0 scope later m) h.1)
  scoped_after r (loop a ls e b n x f) scope later m h =
      let inside = scope_binds r x.sym.0 (n.sym.0 ∷ b.sym.0 ∷ scope) (r n.sym.0 ∷ r b.sym.0 ∷ later) (scope_binds r n.sym.0 (b.sym.0 ∷ scope) (r b.sym.0 ∷ later) (scope_binds r b.sym.0 scope later m)) in
      (legs_scoped_after r ls scope later m h.0, scoped_after r e scope later m h.1, scoped_after r f (x.sym.0 ∷ n.sym.0 ∷ b.sym.0 ∷ scope) (r x.sym.0 ∷ r n.sym.0 ∷ r b.sym.0 ∷ later) inside h.2)
  scoped_after r (iterate a e b f) scope later m h =
      (scoped_after r e scope later m h.0, scoped_after r f (b.sym.0 ∷ scope) (r b.sym.0 ∷ later) (scope_binds r b.sym.0 scope later m) h.1)

  all_scoped_after : (r : Renaming) (es : ExprTrees) (scope later : List ℕ) → ScopeMoves r scope later → AreScoped es scope → AreScoped (all_renamed r es) later
  all_scoped_after r no_exprs scope later m h = tt
  all_scoped_after r (more_exprs e es) scope later m h = (scoped_after r e scope later m h.0, all_scoped_after r es scope later m h.1)

  leg_scoped_after : (r : Renaming) (l : LegTree) (scope later : List ℕ) → ScopeMoves r scope later → LegIsScoped l scope → LegIsScoped (leg_renamed r l) later
  leg_scoped_after r (whole e) scope later m h = scoped_after r e scope later m h
  leg_scoped_after r (strided e f g k) scope later m h =
      (scoped_after r e scope later m h.0, scoped_after r f scope later m h.1, scoped_after r g scope later m h.2, scoped_after r k scope later m h.3)

  legs_scoped_after : (r : Renaming) (ls : LegTrees) (scope later : List ℕ) → ScopeMoves r scope later → LegsAreScoped ls scope → LegsAreScoped (legs_renamed r ls) later
  legs_scoped_after r no_legs scope later m h = tt
  legs_scoped_after r (more_legs l ls) scope later m h = (leg_scoped_after r l scope later m h.0, legs_scoped_after r ls scope later m h.1)

-- ---- nodes

leaf_made : (r : Renaming) (l : Leaf) → LeafIsWellMade l → LeafIsWellMade (renamed_leaf r l)
leaf_made r (int k x) h = h
leaf_made r (truth b) h = tt
leaf_made r (chars bs) h = tt
leaf_made r (name s) h = tt
leaf_made r (fresh b) h = h

has_exprs : (r : Renaming) (es : ExprTrees) → HasExprs es → HasExprs (all_renamed r es)
has_exprs r no_exprs h = h
has_exprs r (more_exprs e es) h = tt

has_legs : (r : Renaming) (ls : LegTrees) → HasLegs ls → HasLegs (legs_renamed r ls)
has_legs r no_legs h = h
has_legs r (more_legs l ls) h = tt

mutual
  pub made_after : (r : Renaming) (e : ExprTree) → IsWellMade e → IsWellMade (renamed r e)
  made_after r (leaf a l) h = leaf_made r l h
  made_after r (one a o e) h = (h.0, made_after r e h.1)
  made_after r (two a o e f) h = (made_after r e h.0, made_after r f h.1)
  made_after r (three a o c e f) h = (made_after r c h.0, made_after r e h.1, made_after r f h.2)
  made_after r (many a o es) h = (has_exprs r es h.0, all_made_after r es h.1)
  made_after r (let_in a b e f) h = (made_after r e h.0, made_after r f h.1)
  made_after r (loop a ls e b n x f) h = (has_legs r ls h.0, legs_made_after r ls h.1, made_after r e h.2, made_after r f h.3)
  made_after r (iterate a e b f) h = (made_after r e h.0, made_after r f h.1)

  all_made_after : (r : Renaming) (es : ExprTrees) → AreWellMade es → AreWellMade (all_renamed r es)
  all_made_after r no_exprs h = tt
  all_made_after r (more_exprs e es) h = (made_after r e h.0, all_made_after r es h.1)

  leg_made_after : (r : Renaming) (l : LegTree) → LegIsWellMade l → LegIsWellMade (leg_renamed r l)
  leg_made_after r (whole e) h = made_after r e h
  leg_made_after r (strided e f g k) h = (made_after r e h.0, made_after r f h.1, made_after r g h.2, made_after r k h.3)

  legs_made_after : (r : Renaming) (ls : LegTrees) → LegsAreWellMade ls → LegsAreWellMade (legs_renamed r ls)
  legs_made_after r no_legs h = tt
  legs_made_after r (more_legs l ls) h = (leg_made_after r l h.0, legs_made_after r ls h.1)

-- ---- maps that agree

agrees_bind : (r s : Renaming) (b : ℕ) (scope : List ℕ) → AgreeAt r s b → ScopeAgrees r s scope → ScopeAgrees r s (b ∷ scope)
agrees_bind r s b scope at m = record { agree = λ x o. by x o }
  where
    by : (x : ℕ) → (x ≡ b) ⊎ IsOneOf scope x → r x ≡ s x
    by x (inl e) = ap r e ∙ at.agree ∙ sym (ap s e)
    by x (inr o) = m.agree x o

leaf_agrees : (r s : Renaming) (l : Leaf) (scope : List ℕ) → ScopeAgrees r s scope → LeafIsScoped l scope → renamed_leaf r l ≡ renamed_leaf s l
leaf_agrees r s (int k x) scope m h = refl
leaf_agrees r s (truth b) scope m h = refl
leaf_agrees r s (chars bs) scope m h = refl
leaf_agrees r s (name x) scope m h = ap name (m.agree x h)
leaf_agrees r s (fresh b) scope m h = refl

binder_agrees : (r s : Renaming) (b : Binder) → AgreeAt r s b.sym.0 → renamed_binder r b ≡ renamed_binder s b
binder_agrees r s b at = λ i. record { sym = record { 0 = at.agree i }; place = b.place; note = b.note; note_place = b.note_place }

mutual
  pub agreeing : (r s : Renaming) (e : ExprTree) (scope : List ℕ) → ScopeAgrees r s scope → Binds (AgreeAt r s) e → IsScoped e scope → renamed r e ≡ renamed s e
  agreeing r s (leaf a l) scope m b h = ap (leaf a) (leaf_agrees r s l scope m h)
  agreeing r s (one a o e) scope m b h = ap (one a o) (agreeing r s e scope m b h)
  agreeing r s (two a o e f) scope m b h = λ i. two a o (agreeing r s e scope m b.0 h.0 i) (agreeing r s f scope m b.1 h.1 i)
  agreeing r s (three a o c e f) scope m b h = λ i. three a o (agreeing r s c scope m b.0 h.0 i) (agreeing r s e scope m b.1 h.1 i) (agreeing r s f scope m b.2 h.2 i)
  agreeing r s (many a o es) scope m b h = ap (many a o) (all_agreeing r s es scope m b h)
  agreeing r s (let_in a x e f) scope m b h =
      λ i. let_in a (binder_agrees r s x b.0 i) (agreeing r s e scope m b.1 h.0 i) (agreeing r s f (x.sym.0 ∷ scope) (agrees_bind r s x.sym.0 scope b.0 m) b.2 h.1 i)
  agreeing r s (loop a ls e y n x f) scope m b h =
      let inside = agrees_bind r s x.sym.0 (n.sym.0 ∷ y.sym.0 ∷ scope) b.2 (agrees_bind r s n.sym.0 (y.sym.0 ∷ scope) b.1 (agrees_bind r s y.sym.0 scope b.0 m)) in
      λ i. loop a (legs_agreeing r s ls scope m b.3 h.0 i) (agreeing r s e scope m b.4 h.1 i)
      (binder_agrees r s y b.0 i) (binder_agrees r s n b.1 i) (binder_agrees r s x b.2 i) (agreeing r s f (x.sym.0 ∷ n.sym.0 ∷ y.sym.0 ∷ scope) inside b.5 h.2 i)
  agreeing r s (iterate a e x f) scope m b h =
      λ i. iterate a (agreeing r s e scope m b.1 h.0 i) (binder_agrees r s x b.0 i) (agreeing r s f (x.sym.0 ∷ scope) (agrees_bind r s x.sym.0 scope b.0 m) b.2 h.1 i)

  all_agreeing : (r s : Renaming) (es : ExprTrees) (scope : List ℕ) → ScopeAgrees r s scope → AllBind (AgreeAt r s) es → AreScoped es scope → all_renamed r es ≡ all_renamed s es
  all_agreeing r s no_exprs scope m b h = refl
  all_agreeing r s (more_exprs e es) scope m b h = λ i. more_exprs (agreeing r s e scope m b.0 h.0 i) (all_agreeing r s es scope m b.1 h.1 i)

  leg_agreeing : (r s : Renaming) (l : LegTree) (scope : List ℕ) → ScopeAgrees r s scope → LegBinds (AgreeAt r s) l → LegIsScoped l scope → leg_renamed r l ≡ leg_renamed s l
  leg_agreeing r s (whole e) scope m b h = ap whole (agreeing r s e scope m b h)
  leg_agreeing r s (strided e f g k) scope m b h =
      λ i. strided (agreeing r s e scope m b.0 h.0 i) (agreeing r s f scope m b.1 h.1 i) (agreeing r s g scope m b.2 h.2 i) (agreeing r s k scope m b.3 h.3 i)

  legs_agreeing : (r s : Renaming) (ls : LegTrees) (scope : List ℕ) → ScopeAgrees r s scope → LegsBind (AgreeAt r s) ls → LegsAreScoped ls scope → legs_renamed r ls ≡ legs_renamed s ls
  legs_agreeing r s no_legs scope m b h = refl
  legs_agreeing r s (more_legs l ls) scope m b h = λ i. more_legs (leg_agreeing r s l scope m b.0 h.0 i) (legs_agreeing r s ls scope m b.1 h.1 i)

-- ---- lists

pub all_renamed_pack : (r : Renaming) (es : List ExprTree) → all_renamed r (pack_exprs es) ≡ pack_exprs (map (renamed r) es)
all_renamed_pack r [] = refl
all_renamed_pack r (e ∷ es) = ap (more_exprs (renamed r e)) (all_renamed_pack r es)

pub legs_renamed_pack : (r : Renaming) (ls : List LegTree) → legs_renamed r (pack_legs ls) ≡ pack_legs (map (leg_renamed r) ls)
legs_renamed_pack r [] = refl
legs_renamed_pack r (l ∷ ls) = ap (more_legs (leg_renamed r l)) (legs_renamed_pack r ls)
