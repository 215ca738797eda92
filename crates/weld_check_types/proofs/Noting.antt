-- Where the walk finds a type, and notes what it finds, each node has its note.
use Rattle.std.proofs.Common.{◌≡◌, Bool, true, false, Option, Some, None, ◌∷◌, refl, sym, ◌∙◌, ap, subst}
use Rattle.weld_meaning.specs.Typing.{Types, HasType, LegsHave, RowHas, body_types, place_type, truth_type}
use Rattle.weld_tree.specs.declared.binder.Binder.{Binder}
use Rattle.weld_tree.specs.declared.code.Code.{Code}
use Rattle.weld_tree.specs.declared.code.Code.TheVariants.{Y1, Y4, Y14, Y24, Y25, Y26, Y27}
use Rattle.weld_tree.specs.declared.place.Place.{Place}
use Rattle.weld_tree.specs.TypeTree.{TypeTree, TypeTrees, scalar, vec, struct, dict, build, no_types, more_types}
use Rattle.weld_tree.specs.Types.{pair_of}
use Rattle.weld_tree.specs.ExprTree.{At, ExprTree, leaf, one, two, three, many, let_in, loop, iterate, ExprTrees, no_exprs, more_exprs, whole, strided, LegTrees, no_legs, more_legs}
use Rattle.weld_tree.specs.Program.{IsWellMade, AreWellMade, LegsAreWellMade}
use Rattle.weld_types.specs.Tests.{are_all, is_builder, is_builder_free, is_well_formed, is_within_limits, same_type}
use Rattle.weld_types.specs.Walk.{Found, found, refused, Judged, fits, breaks, at_node, demand, demand_at, elements, go_on, note_place, noted, one_type, two_type, three_type, many_type, row_by, row_of, Strips, strips_of, type_of, types_of, with_element}
use Rattle.weld_check_types.specs.Noted.{at, known_by, under, rows_found, all_with_types, legs_with_types, typed}
use Rattle.weld_check_types.specs.Notes.{AreNoted, AllAreNoted, LegsAreNoted, HasNote}
use Rattle.weld_check_types.proofs.Same.{legs_made_stay, made_stays, strips_stay, type_stays}

-- the laws of the walk and of typing that this rests on
pub record Laws : Type 0 where
  pub has : (e : ExprTree) (g : Types) (t : TypeTree) → IsWellMade e → type_of e g ≡ found t → HasType e g t
  pub one : (e : ExprTree) (g : Types) (t u : TypeTree) → HasType e g t → HasType e g u → t ≡ u

-- ---- steps of the walk

pub went : {A B : Type 0} (m : Found A) (f : A → Found B) (y : B) → go_on m f ≡ found y → (x : A) × (m ≡ found x) × (f x ≡ found y)
went (found x) f y e = (x, refl, e)
went (refused c p) f y e = let no : ⊥ = cc in absurd no

pub allowed : {A : Type 0} (b : Bool) (c : Code) (p : Place) (m : Found A) (x : A) → demand_at b c p m ≡ found x → m ≡ found x
allowed true c p m x e = e
allowed false c p m x e = let no : ⊥ = cc in absurd no

demanded : {A : Type 0} (b : Bool) (c : Code) (m : Judged A) (x : A) → demand b c m ≡ fits x → m ≡ fits x
demanded true c m x e = e
demanded false c m x e = let no : ⊥ = cc in absurd no

noted_of : {A : Type 0} (m : Option TypeTree) (b : Binder) (t : TypeTree) (later : Found A) (x : A) → noted m b t later ≡ found x → later ≡ found x
noted_of None b t later x e = e
noted_of (Some note) b t later x e =
    allowed (same_type note t) Y4 b.place later x (allowed (is_well_formed note) Y1 (note_place b) (demand_at (same_type note t) Y4 b.place later) x e)

node_of : (p : Place) (j : Judged TypeTree) (t : TypeTree) → at_node p j ≡ found t → j ≡ fits t
node_of p (fits u) t e = let h : found u ≡ found t = allowed (is_within_limits u) Y14 p (found u) t e in cc
node_of p (breaks c) t e = let no : ⊥ = cc in absurd no

-- ---- rows have one type

element_of : (u : TypeTree) (m : Judged TypeTrees) (ts : TypeTrees) → with_element u m ≡ fits ts → (v : TypeTree) × (vs : TypeTrees) × (u ≡ vec v) × (m ≡ fits vs) × (ts ≡ more_types v vs)
element_of (vec v) (fits vs) ts e = let h : more_types v vs ≡ ts = cc in (v, vs, refl, refl, sym h)
element_of (vec v) (breaks c) ts e = let no : ⊥ = cc in absurd no
element_of (scalar k) m ts e = let no : ⊥ = cc in absurd no
element_of (struct us) m ts e = let no : ⊥ = cc in absurd no
element_of (dict k v) m ts e = let no : ⊥ = cc in absurd no
element_of (build b) m ts e = let no : ⊥ = cc in absurd no

same_element : (u v : TypeTree) → vec u ≡ vec v → u ≡ v
same_element u v e = cc

abbrev vectors_of : Found Strips → TypeTrees
vectors_of (found s) = s.vectors
vectors_of (refused c p) = no_types

-- the first of more legs
first_leg : (laws : Laws) (e : ExprTree) (g : Types) (u v w : TypeTree) → IsWellMade e → type_of e g ≡ found u → u ≡ vec v → HasType e g (vec w) → w ≡ v
first_leg laws e g u v w made p q h = same_element w v (laws.one e g (vec w) (vec v) h (subst (λ (t : TypeTree). HasType e g t) q (laws.has e g u made p)))

elements_are : (laws : Laws) (ls : LegTrees) (g : Types) (s : Strips) (ts us : TypeTrees) → LegsAreWellMade ls → strips_of ls g ≡ found s → elements s.vectors ≡ fits ts → LegsHave ls g us → us ≡ ts
elements_are laws no_legs g s ts no_types made p q h = let e : no_types ≡ s.vectors = ap vectors_of p in let k : fits no_types ≡ fits ts = ap elements e ∙ q in cc
elements_are laws no_legs g s ts (more_types u us) made p q h = absurd h
elements_are laws (more_legs l ls) g s ts no_types made p q h = absurd h
elements_are laws (more_legs (whole e) ls) g s ts (more_types w us) made p q h =
    let a = went (type_of e g) (λ u. go_on (strips_of ls g) (λ s. found (record { vectors = more_types u s.vectors; bounds = s.bounds }))) s p in
    let b = went (strips_of ls g) (λ (s : Strips). found (record { vectors = more_types a.0 s.vectors; bounds = s.bounds })) s a.2 in
    let same : s.vectors ≡ more_types a.0 (b.0).vectors = sym (ap vectors_of b.2) in
    let c = element_of a.0 (elements (b.0).vectors) ts (ap elements (sym same) ∙ q) in
    ap (λ x. more_types x us) (first_leg laws e g a.0 c.0 w made.0 a.1 c.2 h.0)
    ∙ ap (more_types c.0) (elements_are laws ls g b.0 c.1 us made.1 b.1 c.3 h.1) ∙ sym c.4
elements_are laws (more_legs (strided e f k j) ls) g s ts (more_types w us) made p q h =
    let a = went (type_of e g) (λ u. go_on (type_of f g) (λ x. go_on (type_of k g) (λ y. go_on (type_of j g) (λ z.
    go_on (strips_of ls g) (λ s. found (record { vectors = more_types u s.vectors; bounds = more_types x (more_types y (more_types z s.bounds)) })))))) s p in
    let x = went (type_of f g) (λ x. go_on (type_of k g) (λ y. go_on (type_of j g) (λ z.
    go_on (strips_of ls g) (λ s. found (record { vectors = more_types a.0 s.vectors; bounds = more_types x (more_types y (more_types z s.bounds)) }))))) s a.2 in
    let y = went (type_of k g) (λ y. go_on (type_of j g) (λ z.
    go_on (strips_of ls g) (λ s. found (record { vectors = more_types a.0 s.vectors; bounds = more_types x.0 (more_types y (more_types z s.bounds)) })))) s x.2 in
    let z = went (type_of j g) (λ z.
    go_on (strips_of ls g) (λ s. found (record { vectors = more_types a.0 s.vectors; bounds = more_types x.0 (more_types y.0 (more_types z s.bounds)) }))) s y.2 in
    let b = went (strips_of ls g) (λ (s : Strips). found (record { vectors = more_types a.0 s.vectors; bounds = more_types x.0 (more_types y.0 (more_types z.0 s.bounds)) })) s z.2 in
    let same : s.vectors ≡ more_types a.0 (b.0).vectors = sym (ap vectors_of b.2) in
    let c = element_of a.0 (elements (b.0).vectors) ts (ap elements (sym same) ∙ q) in
    ap (λ x. more_types x us) (first_leg laws e g a.0 c.0 w made.0.0 a.1 c.2 h.0.0)
    ∙ ap (more_types c.0) (elements_are laws ls g b.0 c.1 us made.1 b.1 c.3 h.1) ∙ sym c.4

row_is : (ts : TypeTrees) (r w : TypeTree) → row_of ts ≡ fits r → RowHas ts w → w ≡ r
row_is no_types r w e h = absurd h
row_is (more_types t no_types) r w e h = let k : t ≡ r = cc in h ∙ k
row_is (more_types t (more_types u us)) r w e h = let k : struct (more_types t (more_types u us)) ≡ r = cc in h ∙ k

rows_of : (m : Judged TypeTrees) (bounds : TypeTrees) (b r : TypeTree) → row_by m bounds b ≡ fits r → (ts : TypeTrees) × (m ≡ fits ts) × (row_of ts ≡ fits r)
rows_of (fits ts) bounds b r e =
    (ts, refl, demanded (is_builder b) Y25 (row_of ts) r (demanded (are_all bounds place_type) Y24 (demand (is_builder b) Y25 (row_of ts)) r e))
rows_of (breaks c) bounds b r e = let no : ⊥ = cc in absurd no

-- the rows of the legs have the type that the walk finds
one_row : (laws : Laws) (ls : LegTrees) (g : Types) (s : Strips) (bounds us : TypeTrees) (b r w : TypeTree)
    → LegsAreWellMade ls → strips_of ls g ≡ found s → row_by (elements s.vectors) bounds b ≡ fits r → LegsHave ls g us → RowHas us w → w ≡ r
one_row laws ls g s bounds us b r w made p q h k =
    let m = rows_of (elements s.vectors) bounds b r q in
    row_is m.0 r w m.2 (subst (λ (vs : TypeTrees). RowHas vs w) (elements_are laws ls g s m.0 us made p m.1 h) k)

-- ---- notes

-- the node of an expression in which the walk finds a type
has_typed : (laws : Laws) (e : ExprTree) (g : Types) (t : TypeTree) → IsWellMade e → type_of e g ≡ found t → HasType (typed e g) g t
has_typed laws e g t made p = laws.has (typed e g) g t (made_stays e (known_by (type_of e g)) g made) (type_stays e (known_by (type_of e g)) g ∙ p)

node : (laws : Laws) (a : At) (e : ExprTree) (g : Types) (t : TypeTree) → IsWellMade e → type_of e g ≡ found t → HasNote (at a.place (known_by (type_of e g))) (typed e g) g
node laws a e g t made p = (t, ap known_by p, has_typed laws e g t made p)

under_found : {A : Type 0} (w : Found A) (f : A → ExprTree) (e : ExprTree) (x : A) → w ≡ found x → under w f e ≡ f x
under_found w f e x p = ap (λ v. under v f e) p

-- an expression under a binder
bound_noted : (w : Found TypeTree) (f : TypeTree → ExprTree) (e : ExprTree) (u : TypeTree) (g : Types) → w ≡ found u → AreNoted (f u) g → AreNoted (under w f e) g
bound_noted w f e u g p h = subst (λ (x : ExprTree). AreNoted x g) (sym (under_found w f e u p)) h

mutual
  pub are_noted : (laws : Laws) (e : ExprTree) (g : Types) (t : TypeTree) → IsWellMade e → type_of e g ≡ found t → AreNoted (typed e g) g
  are_noted laws (leaf a l) g t made p = node laws a (leaf a l) g t made p
  are_noted laws (one a o e) g t made p =
      let u = went (type_of e g) (λ u. at_node a.place (one_type o u)) t p in
      (are_noted laws e g u.0 made.1 u.1, node laws a (one a o e) g t made p)
  are_noted laws (two a o e f) g t made p =
      let u = went (type_of e g) (λ u. go_on (type_of f g) (λ v. at_node a.place (two_type o u v))) t p in
      let v = went (type_of f g) (λ v. at_node a.place (two_type o u.0 v)) t u.2 in
      (are_noted laws e g u.0 made.0 u.1, are_noted laws f g v.0 made.1 v.1, node laws a (two a o e f) g t made p)
  are_noted laws (three a o e f h) g t made p =
      let u = went (type_of e g) (λ u. go_on (type_of f g) (λ v. go_on (type_of h g) (λ w. at_node a.place (three_type o u v w)))) t p in
      let v = went (type_of f g) (λ v. go_on (type_of h g) (λ w. at_node a.place (three_type o u.0 v w))) t u.2 in
      let w = went (type_of h g) (λ w. at_node a.place (three_type o u.0 v.0 w)) t v.2 in
      (are_noted laws e g u.0 made.0 u.1, are_noted laws f g v.0 made.1 v.1, are_noted laws h g w.0 made.2 w.1, node laws a (three a o e f h) g t made p)
  are_noted laws (many a o es) g t made p =
      let us = went (types_of es g) (λ us. at_node a.place (many_type o us)) t p in
      (all_noted laws es g us.0 made.1 us.1, node laws a (many a o es) g t made p)
  are_noted laws (let_in a b e f) g t made p =
      let u = went (type_of e g) (λ u. noted b.note b u (type_of f ((b.sym.0, u) ∷ g))) t p in
      let v = noted_of b.note b u.0 (type_of f ((b.sym.0, u.0) ∷ g)) t u.2 in (
        are_noted laws e g u.0 made.0 u.1,
        (
          u.0,
          has_typed laws e g u.0 made.0 u.1,
          bound_noted (type_of e g) (λ u. typed f ((b.sym.0, u) ∷ g)) f u.0 ((b.sym.0, u.0) ∷ g) u.1 (are_noted laws f ((b.sym.0, u.0) ∷ g) t made.1 v),
        ),
        node laws a (let_in a b e f) g t made p,
      )
  are_noted laws (loop a ls e b n x f) g t made p =
      let s = went (strips_of ls g) (λ (s : Strips). go_on (type_of e g) (λ t. go_on (at_node a.place (row_by (elements s.vectors) s.bounds t)) (λ r.
      noted b.note b t (noted n.note n place_type (noted x.note x r
      (go_on (type_of f (body_types b n x t r g)) (λ u. demand_at (same_type u t) Y26 a.place (found t)))))))) t p in
      let u = went (type_of e g) (λ t. go_on (at_node a.place (row_by (elements (s.0).vectors) (s.0).bounds t)) (λ r.
      noted b.note b t (noted n.note n place_type (noted x.note x r
      (go_on (type_of f (body_types b n x t r g)) (λ u. demand_at (same_type u t) Y26 a.place (found t))))))) t s.2 in
      let r = went (at_node a.place (row_by (elements (s.0).vectors) (s.0).bounds u.0)) (λ r.
      noted b.note b u.0 (noted n.note n place_type (noted x.note x r
      (go_on (type_of f (body_types b n x u.0 r g)) (λ v. demand_at (same_type v u.0) Y26 a.place (found u.0)))))) t u.2 in
      let last = go_on (type_of f (body_types b n x u.0 r.0 g)) (λ v. demand_at (same_type v u.0) Y26 a.place (found u.0)) in
      let q = noted_of x.note x r.0 last t (noted_of n.note n place_type (noted x.note x r.0 last) t (noted_of b.note b u.0 (noted n.note n place_type (noted x.note x r.0 last)) t r.2)) in
      let v = went (type_of f (body_types b n x u.0 r.0 g)) (λ v. demand_at (same_type v u.0) Y26 a.place (found u.0)) t q in
      let rows : rows_found a.place (strips_of ls g) (type_of e g) ≡ found (u.0, r.0) =
      ap (λ z. rows_found a.place z (type_of e g)) s.1 ∙ ap (λ z. rows_found a.place (found s.0) z) u.1
      ∙ ap (λ z. go_on z (λ r. found (u.0, r))) r.1 in
      let whole = has_typed laws (loop a ls e b n x f) g t made p in
      let same = one_row laws (legs_with_types ls g) g s.0 (s.0).bounds whole.0 u.0 r.0 whole.1 (legs_made_stay ls g made.1) (strips_stay ls g ∙ s.1) (node_of a.place _ r.0 r.1) whole.2 whole.3 in (
        legs_noted laws ls g s.0 made.1 s.1,
        are_noted laws e g u.0 made.2 u.1,
        (
          whole.0,
          r.0,
          u.0,
          whole.2,
          subst (λ w. RowHas whole.0 w) same whole.3,
          has_typed laws e g u.0 made.2 u.1,
          subst (λ (z : ExprTree). AreNoted z (body_types b n x u.0 r.0 g))
              (sym (ap (λ z. under z (λ tr. typed f (body_types b n x tr.0 tr.1 g)) f) rows))
              (are_noted laws f (body_types b n x u.0 r.0 g) v.0 made.3 v.1),
        ),
        node laws a (loop a ls e b n x f) g t made p,
      )
  are_noted laws (iterate a e b f) g t made p =
      let s = went (type_of e g) (λ s. demand_at (is_builder_free s) Y27 a.place (noted b.note b s
      (go_on (type_of f ((b.sym.0, s) ∷ g)) (λ u. demand_at (same_type u (pair_of s truth_type)) Y27 a.place (found s))))) t p in
      let later = go_on (type_of f ((b.sym.0, s.0) ∷ g)) (λ u. demand_at (same_type u (pair_of s.0 truth_type)) Y27 a.place (found s.0)) in
      let q = noted_of b.note b s.0 later t (allowed (is_builder_free s.0) Y27 a.place (noted b.note b s.0 later) t s.2) in
      let u = went (type_of f ((b.sym.0, s.0) ∷ g)) (λ u. demand_at (same_type u (pair_of s.0 truth_type)) Y27 a.place (found s.0)) t q in (
        are_noted laws e g s.0 made.0 s.1,
        (
          s.0,
          has_typed laws e g s.0 made.0 s.1,
          bound_noted (type_of e g) (λ s. typed f ((b.sym.0, s) ∷ g)) f s.0 ((b.sym.0, s.0) ∷ g) s.1 (are_noted laws f ((b.sym.0, s.0) ∷ g) u.0 made.1 u.1),
        ),
        node laws a (iterate a e b f) g t made p,
      )

  all_noted : (laws : Laws) (es : ExprTrees) (g : Types) (ts : TypeTrees) → AreWellMade es → types_of es g ≡ found ts → AllAreNoted (all_with_types es g) g
  all_noted laws no_exprs g ts made p = tt
  all_noted laws (more_exprs e es) g ts made p =
      let u = went (type_of e g) (λ u. go_on (types_of es g) (λ us. found (more_types u us))) ts p in
      let us = went (types_of es g) (λ us. found (more_types u.0 us)) ts u.2 in
      (are_noted laws e g u.0 made.0 u.1, all_noted laws es g us.0 made.1 us.1)

  legs_noted : (laws : Laws) (ls : LegTrees) (g : Types) (s : Strips) → LegsAreWellMade ls → strips_of ls g ≡ found s → LegsAreNoted (legs_with_types ls g) g
  legs_noted laws no_legs g s made p = tt
  legs_noted laws (more_legs (whole e) ls) g s made p =
      let a = went (type_of e g) (λ u. go_on (strips_of ls g) (λ s. found (record { vectors = more_types u s.vectors; bounds = s.bounds }))) s p in
      let b = went (strips_of ls g) (λ (s : Strips). found (record { vectors = more_types a.0 s.vectors; bounds = s.bounds })) s a.2 in
      (are_noted laws e g a.0 made.0 a.1, legs_noted laws ls g b.0 made.1 b.1)
  legs_noted laws (more_legs (strided e f k j) ls) g s made p =
      let a = went (type_of e g) (λ u. go_on (type_of f g) (λ x. go_on (type_of k g) (λ y. go_on (type_of j g) (λ z.
      go_on (strips_of ls g) (λ s. found (record { vectors = more_types u s.vectors; bounds = more_types x (more_types y (more_types z s.bounds)) })))))) s p in
      let x = went (type_of f g) (λ x. go_on (type_of k g) (λ y. go_on (type_of j g) (λ z.
      go_on (strips_of ls g) (λ s. found (record { vectors = more_types a.0 s.vectors; bounds = more_types x (more_types y (more_types z s.bounds)) }))))) s a.2 in
      let y = went (type_of k g) (λ y. go_on (type_of j g) (λ z.
      go_on (strips_of ls g) (λ s. found (record { vectors = more_types a.0 s.vectors; bounds = more_types x.0 (more_types y (more_types z s.bounds)) })))) s x.2 in
      let z = went (type_of j g) (λ z.
      go_on (strips_of ls g) (λ s. found (record { vectors = more_types a.0 s.vectors; bounds = more_types x.0 (more_types y.0 (more_types z s.bounds)) }))) s y.2 in
      let b = went (strips_of ls g) (λ (s : Strips). found (record { vectors = more_types a.0 s.vectors; bounds = more_types x.0 (more_types y.0 (more_types z.0 s.bounds)) })) s z.2 in
      ((are_noted laws e g a.0 made.0.0 a.1, are_noted laws f g x.0 made.0.1 x.1, are_noted laws k g y.0 made.0.2 y.1, are_noted laws j g z.0 made.0.3 z.1), legs_noted laws ls g b.0 made.1 b.1)
