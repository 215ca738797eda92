-- An expression under other numbers has the types that it had: to have a type is one statement before and after.
use Rattle.std.proofs.Common.{◌≡◌, refl, ◌∷◌, Some}
use Rattle.std.proofs.Math.Path.{transport, transport⁻¹}
use Rattle.weld_tree.specs.TypeTree.{TypeTree, TypeTrees, vec, no_types, more_types}
use Rattle.weld_tree.specs.Types.{IsBuilder, IsBuilderFree, pair_of}
use Rattle.weld_tree.specs.ExprTree.{ExprTree, leaf, one, two, three, many, let_in, loop, iterate, ExprTrees, no_exprs, more_exprs, LegTree, whole, strided, LegTrees, no_legs, more_legs, Leaf, int, truth, chars, name, fresh}
use Rattle.weld_meaning.specs.Typing.{Types, truth_type, place_type, NoteFits, LeafHas, OneHas, TwoHas, ThreeHas, ManyHas, RowHas, body_types, HasType, HaveTypes, LegHas, LegsHave}
use Rattle.weld_meaning.specs.Names.{Binds, AllBind, LegBinds, LegsBind}
use Rattle.weld_objects.specs.Renamed.{Renaming, renamed_binder, renamed_leaf, renamed, all_renamed, leg_renamed, legs_renamed, IsAlone, HaveMoved}
use Rattle.weld_objects.proofs.Numbers.{moved_bind, moved_body}

leaf_types : (r : Renaming) (l : Leaf) (g h : Types) (t : TypeTree) → HaveMoved r g h → LeafHas (renamed_leaf r l) h t ≡ LeafHas l g t
leaf_types r (int k x) g h t m = refl
leaf_types r (truth b) g h t m = refl
leaf_types r (chars bs) g h t m = refl
leaf_types r (name s) g h t m = λ i. m.same s i ≡ Some t
leaf_types r (fresh b) g h t m = refl

mutual
  one_type : (r : Renaming) (e : ExprTree) (g h : Types) (t : TypeTree) → Binds (IsAlone r) e → HaveMoved r g h → HasType (renamed r e) h t ≡ HasType e g t
  one_type r (leaf a l) g h t b m = leaf_types r l g h t m
  one_type r (one a o e) g h t b m =
      let p : (u : TypeTree) → HasType (renamed r e) h u ≡ HasType e g u = λ u. one_type r e g h u b m in
      λ i. (u : TypeTree) × p u i × OneHas o u t
  one_type r (two a o e f) g h t b m =
      let p : (u : TypeTree) → HasType (renamed r e) h u ≡ HasType e g u = λ u. one_type r e g h u b.0 m in
      let q : (u : TypeTree) → HasType (renamed r f) h u ≡ HasType f g u = λ u. one_type r f g h u b.1 m in
      λ i. (u : TypeTree) × (v : TypeTree) × p u i × q v i × TwoHas o u v t
  one_type r (three a o c e f) g h t b m =
      let p : (u : TypeTree) → HasType (renamed r c) h u ≡ HasType c g u = λ u. one_type r c g h u b.0 m in
      let q : (u : TypeTree) → HasType (renamed r e) h u ≡ HasType e g u = λ u. one_type r e g h u b.1 m in
      let s : (u : TypeTree) → HasType (renamed r f) h u ≡ HasType f g u = λ u. one_type r f g h u b.2 m in
      λ i. (u : TypeTree) × (v : TypeTree) × (w : TypeTree) × p u i × q v i × s w i × ThreeHas o u v w t
  one_type r (many a o es) g h t b m =
      let p : (us : TypeTrees) → HaveTypes (all_renamed r es) h us ≡ HaveTypes es g us = λ us. all_types r es g h us b m in
      λ i. (us : TypeTrees) × p us i × ManyHas o us t
  one_type r (let_in a x e f) g h t b m =
      let p : (u : TypeTree) → HasType (renamed r e) h u ≡ HasType e g u = λ u. one_type r e g h u b.1 m in
      let q : (u : TypeTree) → HasType (renamed r f) ((r x.sym.0, u) ∷ h) t ≡ HasType f ((x.sym.0, u) ∷ g) t =
      λ u. one_type r f _ _ t b.2 (moved_bind r x.sym.0 u g h b.0 m) in
      λ i. (u : TypeTree) × p u i × NoteFits x.note u × q u i
  one_type r (loop a ls e s n x f) g h t b m =
      let p : (us : TypeTrees) → LegsHave (legs_renamed r ls) h us ≡ LegsHave ls g us = λ us. legs_types r ls g h us b.3 m in
      let q = one_type r e g h t b.4 m in
      let body : (w : TypeTree) → HasType (renamed r f) (body_types (renamed_binder r s) (renamed_binder r n) (renamed_binder r x) t w h) t ≡ HasType f (body_types s n x t w g) t =
      λ w. one_type r f _ _ t b.5 (moved_body r s.sym.0 n.sym.0 x.sym.0 t place_type w g h b.0 b.1 b.2 m) in
      λ i. (us : TypeTrees) × (w : TypeTree) × p us i × RowHas us w × q i × IsBuilder t × NoteFits s.note t × NoteFits n.note place_type × NoteFits x.note w × body w i
  one_type r (iterate a e x f) g h t b m =
      let p = one_type r e g h t b.1 m in
      let q = one_type r f ((x.sym.0, t) ∷ g) ((r x.sym.0, t) ∷ h) (pair_of t truth_type) b.2 (moved_bind r x.sym.0 t g h b.0 m) in
      λ i. p i × IsBuilderFree t × NoteFits x.note t × q i

  all_types : (r : Renaming) (es : ExprTrees) (g h : Types) (us : TypeTrees) → AllBind (IsAlone r) es → HaveMoved r g h → HaveTypes (all_renamed r es) h us ≡ HaveTypes es g us
  all_types r no_exprs g h no_types b m = refl
  all_types r no_exprs g h (more_types u us) b m = refl
  all_types r (more_exprs e es) g h no_types b m = refl
  all_types r (more_exprs e es) g h (more_types u us) b m =
      let p = one_type r e g h u b.0 m in let q = all_types r es g h us b.1 m in λ i. p i × q i

  leg_types : (r : Renaming) (l : LegTree) (g h : Types) (u : TypeTree) → LegBinds (IsAlone r) l → HaveMoved r g h → LegHas (leg_renamed r l) h u ≡ LegHas l g u
  leg_types r (whole e) g h u b m = one_type r e g h (vec u) b m
  leg_types r (strided e f k j) g h u b m =
      let p = one_type r e g h (vec u) b.0 m in let q = one_type r f g h place_type b.1 m in
      let s = one_type r k g h place_type b.2 m in let w = one_type r j g h place_type b.3 m in
      λ i. p i × q i × s i × w i

  legs_types : (r : Renaming) (ls : LegTrees) (g h : Types) (us : TypeTrees) → LegsBind (IsAlone r) ls → HaveMoved r g h → LegsHave (legs_renamed r ls) h us ≡ LegsHave ls g us
  legs_types r no_legs g h no_types b m = refl
  legs_types r no_legs g h (more_types u us) b m = refl
  legs_types r (more_legs l ls) g h no_types b m = refl
  legs_types r (more_legs l ls) g h (more_types u us) b m =
      let p = leg_types r l g h u b.0 m in let q = legs_types r ls g h us b.1 m in λ i. p i × q i

pub types_after : (r : Renaming) (e : ExprTree) (g h : Types) (t : TypeTree) → Binds (IsAlone r) e → HaveMoved r g h → HasType e g t → HasType (renamed r e) h t
types_after r e g h t b m p = transport⁻¹ (one_type r e g h t b m) p

pub types_before : (r : Renaming) (e : ExprTree) (g h : Types) (t : TypeTree) → Binds (IsAlone r) e → HaveMoved r g h → HasType (renamed r e) h t → HasType e g t
types_before r e g h t b m p = transport (one_type r e g h t b m) p
