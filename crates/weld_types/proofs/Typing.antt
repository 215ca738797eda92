-- The walk finds a type exactly where the rules derive it and the sizes of types are kept.
use Rattle.std.proofs.Common.{◌≡◌, Bool, true, false, List, [], ◌∷◌, Option, Some, None, refl, ap, sym, subst, ◌∙◌}
use Rattle.weld_tree.specs.declared.binder.Binder.{Binder}
use Rattle.weld_tree.specs.declared.code.Code.{Code}
use Rattle.weld_tree.specs.declared.code.Code.TheVariants.{Y1, Y2, Y3, Y4, Y14, Y26, Y27}
use Rattle.weld_tree.specs.declared.place.Place.{Place}
use Rattle.weld_tree.specs.TypeTree.{TypeTree, TypeTrees, vec, no_types, more_types}
use Rattle.weld_tree.specs.Types.{IsBuilderFree, IsWithinLimits, pair_of}
use Rattle.weld_tree.specs.ExprTree.{ExprTree, At, leaf, one, two, three, many, let_in, loop, iterate, ExprTrees, no_exprs, more_exprs, whole, strided, LegTrees, no_legs, more_legs}
use Rattle.weld_tree.specs.Program.{ProgramTree, IsWellMade, AreWellMade, LegsAreWellMade}
use Rattle.weld_meaning.specs.Typing.{Types, truth_type, place_type, NoteFits, AreAll, RowHas, HasType, HaveTypes, LegsHave, body_types, ParamFits, ParamsFit, param_types, ProgramHas}
use Rattle.weld_types.specs.Tests.{same_type, is_builder_free, is_well_formed, is_within_limits}
use Rattle.weld_types.specs.Walk.{Judged, fits, breaks, Found, found, refused, demand_at, go_on, at_node, leaf_type, one_type, two_type, three_type, many_type, Strips, elements, row_by, note_place, noted, type_of, types_of, strips_of, param_type, param_types_fit, place_of, program_type, refusal_of, typing_refusal}
use Rattle.weld_types.specs.Sizes.{IsSized, KeepsSize, AllKeepSize, LegsKeepSize, ProgramKeepsSize}
use Rattle.weld_types.proofs.TestLemmas.{clash, same_type_true, true_same_type, free_of, of_free, formed_of, of_formed, limits_of, of_limits}
use Rattle.weld_types.proofs.Tables.{leaf_has, has_leaf, one_has, has_one, two_has, has_two, three_has, has_three, many_has, has_many, vecs, RowFacts, row_has, has_row}

-- an expression has one type at most
pub record Unique : Type 0 where
  pub one : (e : ExprTree) (g : Types) (t r : TypeTree) → HasType e g t → HasType e g r → t ≡ r

-- ---- steps of the walk

same_found : {A : Type 0} (x y : A) → found x ≡ found y → x ≡ y
same_found x y e = cc

went : {A B : Type 0} (m : Found A) (f : A → Found B) (y : B) → go_on m f ≡ found y → (x : A) × (m ≡ found x) × (f x ≡ found y)
went (found x) f y e = (x, refl, e)
went (refused c p) f y e = let no : ⊥ = cc in absurd no

go_to : {A B : Type 0} (m : Found A) (f : A → Found B) (x : A) (y : B) → m ≡ found x → f x ≡ found y → go_on m f ≡ found y
go_to m f x y p q = ap (λ n. go_on n f) p ∙ q

allowed : {A : Type 0} (b : Bool) (c : Code) (p : Place) (m : Found A) (x : A) → demand_at b c p m ≡ found x → (b ≡ true) × (m ≡ found x)
allowed true c p m x e = (refl, e)
allowed false c p m x e = let no : ⊥ = cc in absurd no

allow : {A : Type 0} (b : Bool) (c : Code) (p : Place) (m : Found A) (x : A) → b ≡ true → m ≡ found x → demand_at b c p m ≡ found x
allow true c p m x q e = e
allow false c p m x q e = clash q refl

node_of : (p : Place) (j : Judged TypeTree) (t : TypeTree) → at_node p j ≡ found t → (j ≡ fits t) × IsWithinLimits t
node_of p (fits u) t e =
    let h = allowed (is_within_limits u) Y14 p (found u) t e in
    let same = same_found u t h.1 in (ap fits same, subst IsWithinLimits same (limits_of u h.0))
node_of p (breaks c) t e = let no : ⊥ = cc in absurd no

of_node : (p : Place) (j : Judged TypeTree) (t : TypeTree) → j ≡ fits t → IsWithinLimits t → at_node p j ≡ found t
of_node p j t e h = ap (at_node p) e ∙ allow (is_within_limits t) Y14 p (found t) t (of_limits t h) refl

noted_of : {A : Type 0} (m : Option TypeTree) (b : Binder) (t : TypeTree) (later : Found A) (x : A) → noted m b t later ≡ found x → NoteFits m t × (later ≡ found x)
noted_of None b t later x e = (tt, e)
noted_of (Some note) b t later x e =
    let h = allowed (is_well_formed note) Y1 (note_place b) (demand_at (same_type note t) Y4 b.place later) x e in
    let q = allowed (same_type note t) Y4 b.place later x h.1 in ((formed_of note h.0, same_type_true note t q.0), q.1)

of_noted : {A : Type 0} (m : Option TypeTree) (b : Binder) (t : TypeTree) (later : Found A) (x : A) → NoteFits m t → later ≡ found x → noted m b t later ≡ found x
of_noted None b t later x h e = e
of_noted (Some note) b t later x h e =
    allow (is_well_formed note) Y1 (note_place b) (demand_at (same_type note t) Y4 b.place later) x (of_formed note h.0)
    (allow (same_type note t) Y4 b.place later x (true_same_type note t h.1) e)

-- ---- one type

same_vec : (t u : TypeTree) → vec t ≡ vec u → t ≡ u
same_vec t u e = cc

legs_one : Unique → (ls : LegTrees) (g : Types) (us vs : TypeTrees) → LegsHave ls g us → LegsHave ls g vs → us ≡ vs
legs_one q no_legs g no_types no_types h k = refl
legs_one q no_legs g no_types (more_types v vs) h k = absurd k
legs_one q no_legs g (more_types u us) vs h k = absurd h
legs_one q (more_legs l ls) g no_types vs h k = absurd h
legs_one q (more_legs l ls) g (more_types u us) no_types h k = absurd k
legs_one q (more_legs (whole e) ls) g (more_types u us) (more_types v vs) h k =
    λ i. more_types (same_vec u v (q.one e g (vec u) (vec v) h.0 k.0) i) (legs_one q ls g us vs h.1 k.1 i)
legs_one q (more_legs (strided e f o p) ls) g (more_types u us) (more_types v vs) h k =
    λ i. more_types (same_vec u v (q.one e g (vec u) (vec v) h.0.0 k.0.0) i) (legs_one q ls g us vs h.1 k.1 i)

row_one : (us : TypeTrees) (r s : TypeTree) → RowHas us r → RowHas us s → r ≡ s
row_one no_types r s h k = absurd h
row_one (more_types u no_types) r s h k = h ∙ sym k
row_one (more_types u (more_types v us)) r s h k = h ∙ sym k

sized : Unique → (e : ExprTree) (g : Types) (t : TypeTree) → HasType e g t → IsWithinLimits t → IsSized e g
sized q e g t h w r k = subst IsWithinLimits (q.one e g t r h k) w

-- ---- what the walk finds is derived

-- the legs have such elements, where their vectors are of such and their bounds are numbers of places
abbrev LegsSo : LegTrees → Types → Strips → Type 0
LegsSo ls g s = (us : TypeTrees) → s.vectors ≡ vecs us → AreAll s.bounds place_type → LegsHave ls g us

no_legs_so : (g : Types) (us : TypeTrees) → no_types ≡ vecs us → LegsHave no_legs g us
no_legs_so g no_types e = tt
no_legs_so g (more_types u us) e = let no : ⊥ = cc in absurd no

whole_so : (e : ExprTree) (ls : LegTrees) (g : Types) (x : TypeTree) (s : Strips) → HasType e g x → LegsSo ls g s → (us : TypeTrees) → more_types x s.vectors ≡ vecs us → AreAll s.bounds place_type → LegsHave (more_legs (whole e) ls) g us
whole_so e ls g x s h k no_types p b = let no : ⊥ = cc in absurd no
whole_so e ls g x s h k (more_types u us) p b =
    let first : x ≡ vec u = cc in let rest : s.vectors ≡ vecs us = cc in (subst (HasType e g) first h, k us rest b)

strided_so : (e f h i : ExprTree) (ls : LegTrees) (g : Types) (x y z w : TypeTree) (s : Strips) → HasType e g x → HasType f g y → HasType h g z → HasType i g w → LegsSo ls g s
    → (us : TypeTrees) → more_types x s.vectors ≡ vecs us → AreAll (more_types y (more_types z (more_types w s.bounds))) place_type → LegsHave (more_legs (strided e f h i) ls) g us
strided_so e f h i ls g x y z w s he hf hh hi k no_types p b = let no : ⊥ = cc in absurd no
strided_so e f h i ls g x y z w s he hf hh hi k (more_types u us) p b =
    let first : x ≡ vec u = cc in let rest : s.vectors ≡ vecs us = cc in
    ((subst (HasType e g) first he, subst (HasType f g) b.0 hf, subst (HasType h g) b.1.0 hh, subst (HasType i g) b.1.1.0 hi), k us rest b.1.1.1)

so_is : (ls : LegTrees) (g : Types) (s z : Strips) → s ≡ z → LegsSo ls g s → LegsSo ls g z
so_is ls g s z e h = subst (LegsSo ls g) e h

strided_passes : Unique → (e f h k : ExprTree) (ls : LegTrees) (g : Types) (s : Strips) → strips_of (more_legs (strided e f h k) ls) g ≡ found s
    → ((u : TypeTree) → type_of e g ≡ found u → HasType e g u × KeepsSize e g) → ((u : TypeTree) → type_of f g ≡ found u → HasType f g u × KeepsSize f g)
    → ((u : TypeTree) → type_of h g ≡ found u → HasType h g u × KeepsSize h g) → ((u : TypeTree) → type_of k g ≡ found u → HasType k g u × KeepsSize k g)
    → ((z : Strips) → strips_of ls g ≡ found z → LegsSo ls g z × LegsKeepSize ls g) → LegsSo (more_legs (strided e f h k) ls) g s × LegsKeepSize (more_legs (strided e f h k) ls) g
strided_passes q e f h k ls g s p pe pf ph pk pl =
    let w = went (type_of e g) _ s p in
    let x = went (type_of f g) _ s w.2 in
    let y = went (type_of h g) _ s x.2 in
    let v = went (type_of k g) _ s y.2 in
    let d = went (strips_of ls g) _ s v.2 in
    let a = pe w.0 w.1 in let b = pf x.0 x.1 in let c = ph y.0 y.1 in let i = pk v.0 v.1 in let j = pl d.0 d.1 in
    let z : Strips = record { vectors = more_types w.0 d.0.vectors; bounds = more_types x.0 (more_types y.0 (more_types v.0 d.0.bounds)) } in
    (so_is (more_legs (strided e f h k) ls) g z s (same_found z s d.2) (strided_so e f h k ls g w.0 x.0 y.0 v.0 d.0 a.0 b.0 c.0 i.0 j.0), ((a.1, b.1, c.1, i.1), j.1))

loop_passes : Unique → (a : At) (ls : LegTrees) (e : ExprTree) (b n x : Binder) (f : ExprTree) (g : Types) (t : TypeTree) → type_of (loop a ls e b n x f) g ≡ found t
    → ((s : Strips) → strips_of ls g ≡ found s → LegsSo ls g s × LegsKeepSize ls g) → ((u : TypeTree) → type_of e g ≡ found u → HasType e g u × KeepsSize e g)
    → ((g2 : Types) (u : TypeTree) → type_of f g2 ≡ found u → HasType f g2 u × KeepsSize f g2) → HasType (loop a ls e b n x f) g t × KeepsSize (loop a ls e b n x f) g
loop_passes q a ls e b n x f g t p pl pe pf =
    let s = went (strips_of ls g) _ t p in
    let w = went (type_of e g) _ t s.2 in
    let r = went (at_node a.place (row_by (elements s.0.vectors) s.0.bounds w.0)) _ t w.2 in
    let nb = noted_of b.note b w.0 _ t r.2 in
    let nn = noted_of n.note n place_type _ t nb.1 in
    let nx = noted_of x.note x r.0 _ t nn.1 in
    let g2 = body_types b n x w.0 r.0 g in
    let y = went (type_of f g2) _ t nx.1 in
    let d = allowed (same_type y.0 w.0) Y26 a.place (found w.0) t y.2 in
    let lf = pl s.0 s.1 in
    let ef = pe w.0 w.1 in
    let ff = pf g2 y.0 y.1 in
    let size = node_of a.place (row_by (elements s.0.vectors) s.0.bounds w.0) r.0 r.1 in
    let row : RowFacts s.0.vectors s.0.bounds w.0 r.0 = row_has s.0.vectors s.0.bounds w.0 r.0 size.0 in
    let legs : LegsHave ls g row.items = lf.0 row.items row.vectors_are row.bounds_are in
    let body : HasType f g2 w.0 = subst (HasType f g2) (same_type_true y.0 w.0 d.0) ff.0 in
    let h : HasType (loop a ls e b n x f) g w.0 = (row.items, r.0, legs, row.row, ef.0, row.builder, nb.0, nn.0, nx.0, body) in
    (subst (HasType (loop a ls e b n x f) g) (same_found w.0 t d.1) h, (lf.1, ef.1, sizes w.0 r.0 row.items legs row.row ef.0 size.1 ff.1))
  where
    sizes : (b0 r0 : TypeTree) (items : TypeTrees) → LegsHave ls g items → RowHas items r0 → HasType e g b0 → IsWithinLimits r0 → KeepsSize f (body_types b n x b0 r0 g)
        → (us : TypeTrees) (r u : TypeTree) → LegsHave ls g us → RowHas us r → HasType e g u → IsWithinLimits r × KeepsSize f (body_types b n x u r g)
    sizes b0 r0 items legs row has size body us r u k1 k2 k3 =
        let same_row : r0 ≡ r = row_one us r0 r (subst (λ vs. RowHas vs r0) (legs_one q ls g items us legs k1) row) k2 in
        let same_builder : b0 ≡ u = q.one e g b0 u has k3 in
        (subst IsWithinLimits same_row size, subst (λ z. KeepsSize f (body_types b n x u z g)) same_row (subst (λ z. KeepsSize f (body_types b n x z r0 g)) same_builder body))

mutual
  pub passes : Unique → (e : ExprTree) (g : Types) (t : TypeTree) → IsWellMade e → type_of e g ≡ found t → HasType e g t × KeepsSize e g
  passes q (leaf a l) g t m p =
      let n = node_of a.place (leaf_type l g) t p in
      let h : HasType (leaf a l) g t = leaf_has l g t m n.0 in (h, sized q (leaf a l) g t h n.1)
  passes q (one a o e) g t m p =
      let w = went (type_of e g) (λ u. at_node a.place (one_type o u)) t p in
      let i = passes q e g w.0 m.1 w.1 in
      let n = node_of a.place (one_type o w.0) t w.2 in
      let h : HasType (one a o e) g t = (w.0, i.0, one_has o w.0 t m.0 n.0) in (h, (i.1, sized q (one a o e) g t h n.1))
  passes q (two a o e f) g t m p =
      let w = went (type_of e g) (λ u. go_on (type_of f g) (λ v. at_node a.place (two_type o u v))) t p in
      let x = went (type_of f g) (λ v. at_node a.place (two_type o w.0 v)) t w.2 in
      let i = passes q e g w.0 m.0 w.1 in
      let j = passes q f g x.0 m.1 x.1 in
      let n = node_of a.place (two_type o w.0 x.0) t x.2 in
      let h : HasType (two a o e f) g t = (w.0, x.0, i.0, j.0, two_has o w.0 x.0 t n.0) in (h, (i.1, j.1, sized q (two a o e f) g t h n.1))
  passes q (three a o e f k) g t m p =
      let w = went (type_of e g) (λ u. go_on (type_of f g) (λ v. go_on (type_of k g) (λ y. at_node a.place (three_type o u v y)))) t p in
      let x = went (type_of f g) (λ v. go_on (type_of k g) (λ y. at_node a.place (three_type o w.0 v y))) t w.2 in
      let y = went (type_of k g) (λ y. at_node a.place (three_type o w.0 x.0 y)) t x.2 in
      let i = passes q e g w.0 m.0 w.1 in
      let j = passes q f g x.0 m.1 x.1 in
      let z = passes q k g y.0 m.2 y.1 in
      let n = node_of a.place (three_type o w.0 x.0 y.0) t y.2 in
      let h : HasType (three a o e f k) g t = (w.0, x.0, y.0, i.0, j.0, z.0, three_has o w.0 x.0 y.0 t n.0) in
      (h, (i.1, j.1, z.1, sized q (three a o e f k) g t h n.1))
  passes q (many a o es) g t m p =
      let w = went (types_of es g) (λ us. at_node a.place (many_type o us)) t p in
      let i = all_pass q es g w.0 m.1 w.1 in
      let n = node_of a.place (many_type o w.0) t w.2 in
      let h : HasType (many a o es) g t = (w.0, i.0, many_has o w.0 t n.0) in (h, (i.1, sized q (many a o es) g t h n.1))
  passes q (let_in a b e f) g t m p =
      let w = went (type_of e g) (λ u. noted b.note b u (type_of f ((b.sym.0, u) ∷ g))) t p in
      let i = passes q e g w.0 m.0 w.1 in
      let n = noted_of b.note b w.0 (type_of f ((b.sym.0, w.0) ∷ g)) t w.2 in
      let j = passes q f ((b.sym.0, w.0) ∷ g) t m.1 n.1 in
      ((w.0, i.0, n.0, j.0), (i.1, λ u k. subst (λ s. KeepsSize f ((b.sym.0, s) ∷ g)) (q.one e g w.0 u i.0 k) j.1))
  passes q (loop a ls e b n x f) g t m p = loop_passes q a ls e b n x f g t p (λ s. legs_pass q ls g s m.1) (λ u. passes q e g u m.2) (λ g2 u. passes q f g2 u m.3)
  passes q (iterate a e b f) g t m p =
      let w = went (type_of e g) (λ s. demand_at (is_builder_free s) Y27 a.place (noted b.note b s
      (go_on (type_of f ((b.sym.0, s) ∷ g)) (λ u. demand_at (same_type u (pair_of s truth_type)) Y27 a.place (found s))))) t p in
      let i = passes q e g w.0 m.0 w.1 in
      let d = allowed (is_builder_free w.0) Y27 a.place _ t w.2 in
      let n = noted_of b.note b w.0 _ t d.1 in
      let y = went (type_of f ((b.sym.0, w.0) ∷ g)) (λ u. demand_at (same_type u (pair_of w.0 truth_type)) Y27 a.place (found w.0)) t n.1 in
      let j = passes q f ((b.sym.0, w.0) ∷ g) y.0 m.1 y.1 in
      let r = allowed (same_type y.0 (pair_of w.0 truth_type)) Y27 a.place (found w.0) t y.2 in
      let body : HasType f ((b.sym.0, w.0) ∷ g) (pair_of w.0 truth_type) = subst (HasType f ((b.sym.0, w.0) ∷ g)) (same_type_true y.0 (pair_of w.0 truth_type) r.0) j.0 in
      let h : HasType (iterate a e b f) g w.0 = (i.0, free_of w.0 d.0, n.0, body) in
      (subst (HasType (iterate a e b f) g) (same_found w.0 t r.1) h, (i.1, λ u k. subst (λ s. KeepsSize f ((b.sym.0, s) ∷ g)) (q.one e g w.0 u i.0 k) j.1))

  all_pass : Unique → (es : ExprTrees) (g : Types) (us : TypeTrees) → AreWellMade es → types_of es g ≡ found us → HaveTypes es g us × AllKeepSize es g
  all_pass q no_exprs g us m p = (subst (HaveTypes no_exprs g) (same_found no_types us p) tt, tt)
  all_pass q (more_exprs e es) g us m p =
      let w = went (type_of e g) (λ u. go_on (types_of es g) (λ vs. found (more_types u vs))) us p in
      let x = went (types_of es g) (λ vs. found (more_types w.0 vs)) us w.2 in
      let i = passes q e g w.0 m.0 w.1 in
      let j = all_pass q es g x.0 m.1 x.1 in
      (subst (HaveTypes (more_exprs e es) g) (same_found (more_types w.0 x.0) us x.2) (i.0, j.0), (i.1, j.1))

  legs_pass : Unique → (ls : LegTrees) (g : Types) (s : Strips) → LegsAreWellMade ls → strips_of ls g ≡ found s → LegsSo ls g s × LegsKeepSize ls g
  legs_pass q no_legs g s m p =
      (so_is no_legs g (record { vectors = no_types; bounds = no_types }) s (same_found (record { vectors = no_types; bounds = no_types }) s p) (λ us e b. no_legs_so g us e), tt)
  legs_pass q (more_legs (whole e) ls) g s m p =
      let w = went (type_of e g) (λ u. go_on (strips_of ls g) (λ (s : Strips). found (record { vectors = more_types u s.vectors; bounds = s.bounds }))) s p in
      let x = went (strips_of ls g) (λ (s : Strips). found (record { vectors = more_types w.0 s.vectors; bounds = s.bounds })) s w.2 in
      let i = passes q e g w.0 m.0 w.1 in
      let j = legs_pass q ls g x.0 m.1 x.1 in
      let z : Strips = record { vectors = more_types w.0 x.0.vectors; bounds = x.0.bounds } in
      (so_is (more_legs (whole e) ls) g z s (same_found z s x.2) (whole_so e ls g w.0 x.0 i.0 j.0), (i.1, j.1))
  legs_pass q (more_legs (strided e f h k) ls) g s m p = strided_passes q e f h k ls g s p (λ u. passes q e g u m.0.0) (λ u. passes q f g u m.0.1) (λ u. passes q h g u m.0.2) (λ u. passes q k g u m.0.3) (λ z. legs_pass q ls g z m.1)

-- ---- what is derived is found

-- legs that have such elements are found to have such vectors, and bounds that are numbers of places
record LegsFound (ls : LegTrees) (g : Types) (us : TypeTrees) : Type 0 where
  bounds : TypeTrees
  so : AreAll bounds place_type
  finds : strips_of ls g ≡ found (record { vectors = vecs us; bounds = bounds })

mutual
  pub finds : (e : ExprTree) (g : Types) (t : TypeTree) → HasType e g t → KeepsSize e g → type_of e g ≡ found t
  finds (leaf a l) g t h s = of_node a.place (leaf_type l g) t (has_leaf l g t h) (s t h)
  finds (one a o e) g t h s = go_to (type_of e g) _ h.0 t (finds e g h.0 h.1 s.0) (of_node a.place (one_type o h.0) t (has_one o h.0 t h.2) (s.1 t h))
  finds (two a o e f) g t h s =
      go_to (type_of e g) _ h.0 t (finds e g h.0 h.2 s.0) (go_to (type_of f g) _ h.1 t (finds f g h.1 h.3 s.1)
      (of_node a.place (two_type o h.0 h.1) t (has_two o h.0 h.1 t h.4) (s.2 t h)))
  finds (three a o e f k) g t h s =
      go_to (type_of e g) _ h.0 t (finds e g h.0 h.3 s.0) (go_to (type_of f g) _ h.1 t (finds f g h.1 h.4 s.1)
      (go_to (type_of k g) _ h.2 t (finds k g h.2 h.5 s.2) (of_node a.place (three_type o h.0 h.1 h.2) t (has_three o h.0 h.1 h.2 t h.6) (s.3 t h))))
  finds (many a o es) g t h s =
      go_to (types_of es g) _ h.0 t (finds_all es g h.0 h.1 s.0) (of_node a.place (many_type o h.0) t (has_many o h.0 t h.2) (s.1 t h))
  finds (let_in a b e f) g t h s =
      go_to (type_of e g) _ h.0 t (finds e g h.0 h.1 s.0)
      (of_noted b.note b h.0 (type_of f ((b.sym.0, h.0) ∷ g)) t h.2 (finds f ((b.sym.0, h.0) ∷ g) t h.3 (s.1 h.0 h.1)))
  finds (loop a ls e b n x f) g t h s =
      let k = finds_legs ls g h.0 h.2 s.0 in
      let size = s.2 h.0 h.1 t h.2 h.3 h.4 in
      go_to (strips_of ls g) _ (record { vectors = vecs h.0; bounds = k.bounds }) t k.finds (go_to (type_of e g) _ t t (finds e g t h.4 s.1)
      (go_to (at_node a.place (row_by (elements (vecs h.0)) k.bounds t)) _ h.1 t (of_node a.place (row_by (elements (vecs h.0)) k.bounds t) h.1 (has_row k.bounds h.0 t h.1 k.so h.5 h.3) size.0)
      (of_noted b.note b t _ t h.6 (of_noted n.note n place_type _ t h.7 (of_noted x.note x h.1 _ t h.8
      (go_to (type_of f (body_types b n x t h.1 g)) _ t t (finds f (body_types b n x t h.1 g) t h.9 size.1) (allow (same_type t t) Y26 a.place (found t) t (true_same_type t t refl) refl)))))))
  finds (iterate a e b f) g t h s =
      go_to (type_of e g) _ t t (finds e g t h.0 s.0) (allow (is_builder_free t) Y27 a.place _ t (of_free t h.1)
      (of_noted b.note b t _ t h.2 (go_to (type_of f ((b.sym.0, t) ∷ g)) _ (pair_of t truth_type) t (finds f ((b.sym.0, t) ∷ g) (pair_of t truth_type) h.3 (s.1 t h.0))
      (allow (same_type (pair_of t truth_type) (pair_of t truth_type)) Y27 a.place (found t) t (true_same_type (pair_of t truth_type) (pair_of t truth_type) refl) refl))))

  finds_all : (es : ExprTrees) (g : Types) (us : TypeTrees) → HaveTypes es g us → AllKeepSize es g → types_of es g ≡ found us
  finds_all no_exprs g no_types h s = refl
  finds_all no_exprs g (more_types u us) h s = absurd h
  finds_all (more_exprs e es) g no_types h s = absurd h
  finds_all (more_exprs e es) g (more_types u us) h s =
      go_to (type_of e g) _ u (more_types u us) (finds e g u h.0 s.0) (go_to (types_of es g) _ us (more_types u us) (finds_all es g us h.1 s.1) refl)

  finds_legs : (ls : LegTrees) (g : Types) (us : TypeTrees) → LegsHave ls g us → LegsKeepSize ls g → LegsFound ls g us
  finds_legs no_legs g no_types h s = record { bounds = no_types; so = tt; finds = refl }
  finds_legs no_legs g (more_types u us) h s = absurd h
  finds_legs (more_legs l ls) g no_types h s = absurd h
  finds_legs (more_legs (whole e) ls) g (more_types u us) h s =
      let k = finds_legs ls g us h.1 s.1 in
      record {
        bounds = k.bounds;
        so = k.so;
        finds = go_to (type_of e g) _ (vec u) (record { vectors = more_types (vec u) (vecs us); bounds = k.bounds }) (finds e g (vec u) h.0 s.0)
            (go_to (strips_of ls g) _ (record { vectors = vecs us; bounds = k.bounds }) (record { vectors = more_types (vec u) (vecs us); bounds = k.bounds }) k.finds refl);
      }
  finds_legs (more_legs (strided e f o i) ls) g (more_types u us) h s =
      let k = finds_legs ls g us h.1 s.1 in
      let z : Strips = record { vectors = more_types (vec u) (vecs us); bounds = more_types place_type (more_types place_type (more_types place_type k.bounds)) } in
      record {
        bounds = more_types place_type (more_types place_type (more_types place_type k.bounds));
        so = (refl, (refl, (refl, k.so)));
        finds = go_to (type_of e g) _ (vec u) z (finds e g (vec u) h.0.0 s.0.0) (go_to (type_of f g) _ place_type z (finds f g place_type h.0.1 s.0.1)
            (go_to (type_of o g) _ place_type z (finds o g place_type h.0.2 s.0.2) (go_to (type_of i g) _ place_type z (finds i g place_type h.0.3 s.0.3)
            (go_to (strips_of ls g) _ (record { vectors = vecs us; bounds = k.bounds }) z k.finds refl))));
      }

-- ---- programs

params_pass : {A : Type 0} (bs : List Binder) (later : Found A) (x : A) → param_types_fit bs later ≡ found x → ParamsFit bs × (later ≡ found x)
params_pass [] later x e = (tt, e)
params_pass (b ∷ bs) later x e = by b.note (params_pass bs later x) e
  where
    by : (m : Option TypeTree) → (param_types_fit bs later ≡ found x → ParamsFit bs × (later ≡ found x)) → param_type m b (param_types_fit bs later) ≡ found x → (ParamFits m × ParamsFit bs) × (later ≡ found x)
    by None f p = let no : ⊥ = cc in absurd no
    by (Some t) f p =
        let h = allowed (is_well_formed t) Y1 (note_place b) (demand_at (is_builder_free t) Y2 (note_place b) (param_types_fit bs later)) x p in
        let k = allowed (is_builder_free t) Y2 (note_place b) (param_types_fit bs later) x h.1 in
        let r = f k.1 in (((formed_of t h.0, free_of t k.0), r.0), r.1)

params_fit : {A : Type 0} (bs : List Binder) (later : Found A) (x : A) → ParamsFit bs → later ≡ found x → param_types_fit bs later ≡ found x
params_fit [] later x h e = e
params_fit (b ∷ bs) later x h e = by b.note h.0 (params_fit bs later x h.1 e)
  where
    by : (m : Option TypeTree) → ParamFits m → param_types_fit bs later ≡ found x → param_type m b (param_types_fit bs later) ≡ found x
    by None k r = absurd k
    by (Some t) k r =
        allow (is_well_formed t) Y1 (note_place b) (demand_at (is_builder_free t) Y2 (note_place b) (param_types_fit bs later)) x (of_formed t k.0)
        (allow (is_builder_free t) Y2 (note_place b) (param_types_fit bs later) x (of_free t k.1) r)

pub program_passes : Unique → (p : ProgramTree) (t : TypeTree) → IsWellMade p.body → program_type p ≡ found t → ProgramHas p t × ProgramKeepsSize p
program_passes q p t m e =
    let g = param_types p.params in
    let h = params_pass p.params (go_on (type_of p.body g) (λ t. demand_at (is_builder_free t) Y3 (place_of p.body) (found t))) t e in
    let w = went (type_of p.body g) (λ t. demand_at (is_builder_free t) Y3 (place_of p.body) (found t)) t h.1 in
    let i = passes q p.body g w.0 m w.1 in
    let d = allowed (is_builder_free w.0) Y3 (place_of p.body) (found w.0) t w.2 in
    let same = same_found w.0 t d.1 in
    (record { params = h.0; body = subst (HasType p.body g) same i.0; builder_free = subst IsBuilderFree same (free_of w.0 d.0) }, i.1)

pub finds_program : (p : ProgramTree) (t : TypeTree) → ProgramHas p t → ProgramKeepsSize p → program_type p ≡ found t
finds_program p t h s =
    params_fit p.params _ t h.params (go_to (type_of p.body (param_types p.params)) _ t t (finds p.body (param_types p.params) t h.body s)
    (allow (is_builder_free t) Y3 (place_of p.body) (found t) t (of_free t h.builder_free) refl))

none_of : {A : Type 0} (m : Found A) → refusal_of m ≡ None → (x : A) × (m ≡ found x)
none_of (found x) e = (x, refl)
none_of (refused c p) e = let no : ⊥ = cc in absurd no

pub refused_nowhere : Unique → (p : ProgramTree) → IsWellMade p.body → typing_refusal p ≡ None → (t : TypeTree) × ProgramHas p t × ProgramKeepsSize p
refused_nowhere q p m e =
    let w = none_of (program_type p) e in let h = program_passes q p w.0 m w.1 in (w.0, h.0, h.1)

pub nowhere_refused : (p : ProgramTree) → ((t : TypeTree) × ProgramHas p t × ProgramKeepsSize p) → typing_refusal p ≡ None
nowhere_refused p h = ap refusal_of (finds_program p h.0 h.1 h.2)
