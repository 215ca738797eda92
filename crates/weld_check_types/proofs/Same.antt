-- What looks past the types that are noted at nodes.
use Rattle.std.proofs.Common.{◌≡◌, ℕ, List, ◌∷◌, ◌++◌, ◌<◌, length, refl, sym, ◌∙◌, ap, subst}
use Rattle.weld_meaning.specs.Typing.{Types, body_types, place_type, truth_type}
use Rattle.weld_tree.specs.declared.binder.Binder.{Binder}
use Rattle.weld_tree.specs.declared.known.Known.{Known}
use Rattle.weld_tree.specs.declared.code.Code.TheVariants.{Y26, Y27}
use Rattle.weld_tree.specs.TypeTree.{more_types}
use Rattle.weld_tree.specs.Types.{pair_of}
use Rattle.weld_tree.specs.ExprTree.{ExprTree, leaf, one, two, three, many, let_in, loop, iterate, ExprTrees, no_exprs, more_exprs, LegTree, whole, strided, LegTrees, no_legs, more_legs}
use Rattle.weld_tree.specs.Program.{IsProgram, AreDistinct, syms_of, bound, bound_in, bound_in_leg, bound_in_legs, IsScoped, AreScoped, LegIsScoped, LegsAreScoped, IsWellMade, AreWellMade, LegIsWellMade, LegsAreWellMade, OneIsWellMade, HasExprs, HasLegs}
use Rattle.weld_types.specs.Tests.{is_builder_free, same_type}
use Rattle.weld_types.specs.Walk.{Found, found, refused, at_node, demand_at, elements, go_on, noted, one_type, two_type, three_type, many_type, row_by, strips_of, type_of, types_of, place_of}
use Rattle.weld_check_types.specs.Noted.{known_by, under, rows_found, with_types, all_with_types, leg_with_types, legs_with_types, typed}
use Rattle.weld_check_types.specs.Unnoted.{unnoted, all_unnoted, leg_unnoted, legs_unnoted, placed}

-- ---- what is noted is all that changes

under_is : {A : Type 0} (w : Found A) (f : A → ExprTree) (e : ExprTree) → ((x : A) → unnoted (f x) ≡ unnoted e) → unnoted (under w f e) ≡ unnoted e
under_is (found x) f e h = h x
under_is (refused c p) f e h = refl

mutual
  pub same_but_notes : (e : ExprTree) (k : Known) (g : Types) → unnoted (with_types e k g) ≡ unnoted e
  same_but_notes (leaf a l) k g = refl
  same_but_notes (one a o e) k g = λ i. one (placed a) o (same_but_notes e (known_by (type_of e g)) g i)
  same_but_notes (two a o e f) k g = λ i. two (placed a) o (same_but_notes e (known_by (type_of e g)) g i) (same_but_notes f (known_by (type_of f g)) g i)
  same_but_notes (three a o e f h) k g = λ i.
      three (placed a) o (same_but_notes e (known_by (type_of e g)) g i) (same_but_notes f (known_by (type_of f g)) g i) (same_but_notes h (known_by (type_of h g)) g i)
  same_but_notes (many a o es) k g = λ i. many (placed a) o (all_same es g i)
  same_but_notes (let_in a b e f) k g = λ i.
      let_in (placed a) b (same_but_notes e (known_by (type_of e g)) g i)
      (under_is (type_of e g) (λ u. typed f ((b.sym.0, u) ∷ g)) f (λ u. same_but_notes f (known_by (type_of f ((b.sym.0, u) ∷ g))) ((b.sym.0, u) ∷ g)) i)
  same_but_notes (loop a ls e b n x f) k g = λ i.
      loop (placed a) (legs_same ls g i) (same_but_notes e (known_by (type_of e g)) g i) b n x
      (under_is (rows_found a.place (strips_of ls g) (type_of e g)) (λ tr. typed f (body_types b n x tr.0 tr.1 g)) f
      (λ tr. same_but_notes f (known_by (type_of f (body_types b n x tr.0 tr.1 g))) (body_types b n x tr.0 tr.1 g)) i)
  same_but_notes (iterate a e b f) k g = λ i.
      iterate (placed a) (same_but_notes e (known_by (type_of e g)) g i) b
      (under_is (type_of e g) (λ u. typed f ((b.sym.0, u) ∷ g)) f (λ u. same_but_notes f (known_by (type_of f ((b.sym.0, u) ∷ g))) ((b.sym.0, u) ∷ g)) i)

  all_same : (es : ExprTrees) (g : Types) → all_unnoted (all_with_types es g) ≡ all_unnoted es
  all_same no_exprs g = refl
  all_same (more_exprs e es) g = λ i. more_exprs (same_but_notes e (known_by (type_of e g)) g i) (all_same es g i)

  leg_same : (l : LegTree) (g : Types) → leg_unnoted (leg_with_types l g) ≡ leg_unnoted l
  leg_same (whole e) g = λ i. whole (same_but_notes e (known_by (type_of e g)) g i)
  leg_same (strided e f h j) g = λ i.
      strided (same_but_notes e (known_by (type_of e g)) g i) (same_but_notes f (known_by (type_of f g)) g i) (same_but_notes h (known_by (type_of h g)) g i) (same_but_notes j (known_by (type_of j g)) g i)

  pub legs_same : (ls : LegTrees) (g : Types) → legs_unnoted (legs_with_types ls g) ≡ legs_unnoted ls
  legs_same no_legs g = refl
  legs_same (more_legs l ls) g = λ i. more_legs (leg_same l g i) (legs_same ls g i)

-- ---- what every program keeps

mutual
  bound_is : (e : ExprTree) → bound (unnoted e) ≡ bound e
  bound_is (leaf a l) = refl
  bound_is (one a o e) = bound_is e
  bound_is (two a o e f) = λ i. bound_is e i ++ bound_is f i
  bound_is (three a o e f h) = λ i. bound_is e i ++ (bound_is f i ++ bound_is h i)
  bound_is (many a o es) = all_bound_is es
  bound_is (let_in a b e f) = λ i. b.sym.0 ∷ (bound_is e i ++ bound_is f i)
  bound_is (loop a ls e b n x f) = λ i. legs_bound_is ls i ++ (bound_is e i ++ (b.sym.0 ∷ n.sym.0 ∷ x.sym.0 ∷ bound_is f i))
  bound_is (iterate a e b f) = λ i. bound_is e i ++ (b.sym.0 ∷ bound_is f i)

  all_bound_is : (es : ExprTrees) → bound_in (all_unnoted es) ≡ bound_in es
  all_bound_is no_exprs = refl
  all_bound_is (more_exprs e es) = λ i. bound_is e i ++ all_bound_is es i

  leg_bound_is : (l : LegTree) → bound_in_leg (leg_unnoted l) ≡ bound_in_leg l
  leg_bound_is (whole e) = bound_is e
  leg_bound_is (strided e f h j) = λ i. bound_is e i ++ (bound_is f i ++ (bound_is h i ++ bound_is j i))

  legs_bound_is : (ls : LegTrees) → bound_in_legs (legs_unnoted ls) ≡ bound_in_legs ls
  legs_bound_is no_legs = refl
  legs_bound_is (more_legs l ls) = λ i. leg_bound_is l i ++ legs_bound_is ls i

mutual
  scoped_is : (e : ExprTree) (s : List ℕ) → IsScoped (unnoted e) s ≡ IsScoped e s
  scoped_is (leaf a l) s = refl
  scoped_is (one a o e) s = scoped_is e s
  scoped_is (two a o e f) s = λ i. scoped_is e s i × scoped_is f s i
  scoped_is (three a o e f h) s = λ i. scoped_is e s i × scoped_is f s i × scoped_is h s i
  scoped_is (many a o es) s = all_scoped_is es s
  scoped_is (let_in a b e f) s = λ i. scoped_is e s i × scoped_is f (b.sym.0 ∷ s) i
  scoped_is (loop a ls e b n x f) s = λ i. legs_scoped_is ls s i × scoped_is e s i × scoped_is f (x.sym.0 ∷ n.sym.0 ∷ b.sym.0 ∷ s) i
  scoped_is (iterate a e b f) s = λ i. scoped_is e s i × scoped_is f (b.sym.0 ∷ s) i

  all_scoped_is : (es : ExprTrees) (s : List ℕ) → AreScoped (all_unnoted es) s ≡ AreScoped es s
  all_scoped_is no_exprs s = refl
  all_scoped_is (more_exprs e es) s = λ i. scoped_is e s i × all_scoped_is es s i

  leg_scoped_is : (l : LegTree) (s : List ℕ) → LegIsScoped (leg_unnoted l) s ≡ LegIsScoped l s
  leg_scoped_is (whole e) s = scoped_is e s
  leg_scoped_is (strided e f h j) s = λ i. scoped_is e s i × scoped_is f s i × scoped_is h s i × scoped_is j s i

  legs_scoped_is : (ls : LegTrees) (s : List ℕ) → LegsAreScoped (legs_unnoted ls) s ≡ LegsAreScoped ls s
  legs_scoped_is no_legs s = refl
  legs_scoped_is (more_legs l ls) s = λ i. leg_scoped_is l s i × legs_scoped_is ls s i

has_exprs_is : (es : ExprTrees) → HasExprs (all_unnoted es) ≡ HasExprs es
has_exprs_is no_exprs = refl
has_exprs_is (more_exprs e es) = refl

has_legs_is : (ls : LegTrees) → HasLegs (legs_unnoted ls) ≡ HasLegs ls
has_legs_is no_legs = refl
has_legs_is (more_legs l ls) = refl

mutual
  made_is : (e : ExprTree) → IsWellMade (unnoted e) ≡ IsWellMade e
  made_is (leaf a l) = refl
  made_is (one a o e) = λ i. OneIsWellMade o × made_is e i
  made_is (two a o e f) = λ i. made_is e i × made_is f i
  made_is (three a o e f h) = λ i. made_is e i × made_is f i × made_is h i
  made_is (many a o es) = λ i. has_exprs_is es i × all_made_is es i
  made_is (let_in a b e f) = λ i. made_is e i × made_is f i
  made_is (loop a ls e b n x f) = λ i. has_legs_is ls i × legs_made_is ls i × made_is e i × made_is f i
  made_is (iterate a e b f) = λ i. made_is e i × made_is f i

  all_made_is : (es : ExprTrees) → AreWellMade (all_unnoted es) ≡ AreWellMade es
  all_made_is no_exprs = refl
  all_made_is (more_exprs e es) = λ i. made_is e i × all_made_is es i

  leg_made_is : (l : LegTree) → LegIsWellMade (leg_unnoted l) ≡ LegIsWellMade l
  leg_made_is (whole e) = made_is e
  leg_made_is (strided e f h j) = λ i. made_is e i × made_is f i × made_is h i × made_is j i

  legs_made_is : (ls : LegTrees) → LegsAreWellMade (legs_unnoted ls) ≡ LegsAreWellMade ls
  legs_made_is no_legs = refl
  legs_made_is (more_legs l ls) = λ i. leg_made_is l i × legs_made_is ls i

-- ---- the walk

mutual
  type_is : (e : ExprTree) (g : Types) → type_of (unnoted e) g ≡ type_of e g
  type_is (leaf a l) g = refl
  type_is (one a o e) g = λ i. go_on (type_is e g i) (λ u. at_node a.place (one_type o u))
  type_is (two a o e f) g = λ i. go_on (type_is e g i) (λ u. go_on (type_is f g i) (λ v. at_node a.place (two_type o u v)))
  type_is (three a o e f h) g = λ i. go_on (type_is e g i) (λ u. go_on (type_is f g i) (λ v. go_on (type_is h g i) (λ w. at_node a.place (three_type o u v w))))
  type_is (many a o es) g = λ i. go_on (types_is es g i) (λ us. at_node a.place (many_type o us))
  type_is (let_in a b e f) g = λ i. go_on (type_is e g i) (λ u. noted b.note b u (type_is f ((b.sym.0, u) ∷ g) i))
  type_is (loop a ls e b n x f) g = λ i.
      go_on (strips_is ls g i) (λ s. go_on (type_is e g i) (λ t. go_on (at_node a.place (row_by (elements s.vectors) s.bounds t)) (λ r.
      noted b.note b t (noted n.note n place_type (noted x.note x r
      (go_on (type_is f (body_types b n x t r g) i) (λ u. demand_at (same_type u t) Y26 a.place (found t))))))))
  type_is (iterate a e b f) g = λ i.
      go_on (type_is e g i) (λ s. demand_at (is_builder_free s) Y27 a.place (noted b.note b s
      (go_on (type_is f ((b.sym.0, s) ∷ g) i) (λ u. demand_at (same_type u (pair_of s truth_type)) Y27 a.place (found s)))))

  types_is : (es : ExprTrees) (g : Types) → types_of (all_unnoted es) g ≡ types_of es g
  types_is no_exprs g = refl
  types_is (more_exprs e es) g = λ i. go_on (type_is e g i) (λ u. go_on (types_is es g i) (λ us. found (more_types u us)))

  strips_is : (ls : LegTrees) (g : Types) → strips_of (legs_unnoted ls) g ≡ strips_of ls g
  strips_is no_legs g = refl
  strips_is (more_legs (whole e) ls) g = λ i.
      go_on (type_is e g i) (λ u. go_on (strips_is ls g i) (λ s. found (record { vectors = more_types u s.vectors; bounds = s.bounds })))
  strips_is (more_legs (strided e f h j) ls) g = λ i.
      go_on (type_is e g i) (λ u. go_on (type_is f g i) (λ x. go_on (type_is h g i) (λ y. go_on (type_is j g i) (λ z.
      go_on (strips_is ls g i) (λ s. found (record { vectors = more_types u s.vectors; bounds = more_types x (more_types y (more_types z s.bounds)) }))))))

place_is : (e : ExprTree) → place_of (unnoted e) ≡ place_of e
place_is (leaf a l) = refl
place_is (one a o e) = refl
place_is (two a o e f) = refl
place_is (three a o e f h) = refl
place_is (many a o es) = refl
place_is (let_in a b e f) = refl
place_is (loop a ls e b n x f) = refl
place_is (iterate a e b f) = refl

-- ---- so of what has its types noted

pub type_stays : (e : ExprTree) (k : Known) (g : Types) → type_of (with_types e k g) g ≡ type_of e g
type_stays e k g = sym (type_is (with_types e k g) g) ∙ ap (λ (x : ExprTree). type_of x g) (same_but_notes e k g) ∙ type_is e g

pub strips_stay : (ls : LegTrees) (g : Types) → strips_of (legs_with_types ls g) g ≡ strips_of ls g
strips_stay ls g = sym (strips_is (legs_with_types ls g) g) ∙ ap (λ (x : LegTrees). strips_of x g) (legs_same ls g) ∙ strips_is ls g

pub made_stays : (e : ExprTree) (k : Known) (g : Types) → IsWellMade e → IsWellMade (with_types e k g)
made_stays e k g h = subst (λ (X : Type 0). X) (sym (made_is e) ∙ ap IsWellMade (sym (same_but_notes e k g)) ∙ made_is (with_types e k g)) h

pub legs_made_stay : (ls : LegTrees) (g : Types) → LegsAreWellMade ls → LegsAreWellMade (legs_with_types ls g)
legs_made_stay ls g h = subst (λ (X : Type 0). X) (sym (legs_made_is ls) ∙ ap LegsAreWellMade (sym (legs_same ls g)) ∙ legs_made_is (legs_with_types ls g)) h

scoped_stays : (e : ExprTree) (k : Known) (g : Types) (s : List ℕ) → IsScoped e s → IsScoped (with_types e k g) s
scoped_stays e k g s h = subst (λ (X : Type 0). X) (sym (scoped_is e s) ∙ ap (λ (x : ExprTree). IsScoped x s) (sym (same_but_notes e k g)) ∙ scoped_is (with_types e k g) s) h

bound_stays : (e : ExprTree) (k : Known) (g : Types) → bound e ≡ bound (with_types e k g)
bound_stays e k g = sym (bound_is e) ∙ ap bound (sym (same_but_notes e k g)) ∙ bound_is (with_types e k g)

pub place_stays : (e : ExprTree) (k : Known) (g : Types) → place_of (with_types e k g) ≡ place_of e
place_stays e k g = sym (place_is (with_types e k g)) ∙ ap place_of (same_but_notes e k g) ∙ place_is e

pub is_program_still : (bs : List Binder) (e : ExprTree) (k : Known) (g : Types) → IsProgram bs e → IsProgram bs (with_types e k g)
is_program_still bs e k g h = record {
  distinct = subst (λ ns. AreDistinct (syms_of bs ++ ns)) (bound_stays e k g) h.distinct;
  few = subst (λ ns. length (syms_of bs ++ ns) < 4294967295) (bound_stays e k g) h.few;
  noted = h.noted;
  scoped = scoped_stays e k g (syms_of bs) h.scoped;
  well_made = made_stays e k g h.well_made;
}
