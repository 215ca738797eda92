-- An expression has one type at most.
use Rattle.std.proofs.Common.{◌≡◌, ℕ, zero, suc, refl, ap, sym, subst, ◌∙◌, inl, inr, ◌∷◌}
use Rattle.weld_data.specs.declared.kind.Kind.{Kind}
use Rattle.weld_data.specs.Operation.{answer_kind}
use Rattle.weld_tree.specs.TypeTree.{TypeTree, BuildTree, TypeTrees, scalar, vec, struct, dict, build, no_types, more_types}
use Rattle.weld_tree.specs.Types.{HasTypes, gives}
use Rattle.weld_tree.specs.ExprTree.{ExprTree, leaf, one, two, three, many, let_in, loop, iterate, ExprTrees, no_exprs, more_exprs, Leaf, int, truth, chars, name, fresh, One, neg, not, cast, len, field, finish, started, Two, binary, and, or, look_up, key_exists, merge, Three, if_else, select, slice, Many, make_vec, make_struct}
use Rattle.weld_meaning.specs.Typing.{Types, IsField, AreAll, LeafHas, OneHas, TwoHas, ThreeHas, ManyHas, HasType, HaveTypes}

leaf_one : (l : Leaf) (g : Types) (t u : TypeTree) → LeafHas l g t → LeafHas l g u → t ≡ u
leaf_one (int k x) g t u h p = h.2 ∙ sym p.2
leaf_one (truth b) g t u h p = h ∙ sym p
leaf_one (chars bs) g t u h p = h ∙ sym p
leaf_one (name s) g t u h p = cc
leaf_one (fresh b) g t u h p = h.2 ∙ sym p.2

one_field : (n : ℕ) (us : TypeTrees) (t u : TypeTree) → IsField n us t → IsField n us u → t ≡ u
one_field zero no_types t u h p = absurd h
one_field (suc n) no_types t u h p = absurd h
one_field zero (more_types v vs) t u h p = h ∙ sym p
one_field (suc n) (more_types v vs) t u h p = one_field n vs t u h p

same_build : (b c : BuildTree) → build b ≡ build c → b ≡ c
same_build b c e = cc

same_struct : (us vs : TypeTrees) → struct us ≡ struct vs → us ≡ vs
same_struct us vs e = cc

same_scalar : (k m : Kind) → scalar k ≡ scalar m → k ≡ m
same_scalar k m e = cc

part_one : (o : One) (u t r : TypeTree) → OneHas o u t → OneHas o u r → t ≡ r
part_one neg u t r h p = h.3 ∙ sym h.2 ∙ p.2 ∙ sym p.3
part_one not u t r h p = h.1 ∙ sym p.1
part_one (cast k) u t r h p = h.3 ∙ sym p.3
part_one len u t r h p = h.2 ∙ sym p.2
part_one (field n) u t r h p =
    let same : h.0 ≡ p.0 = same_struct h.0 p.0 (sym h.1 ∙ p.1) in one_field n p.0 t r (subst (λ us. IsField n us t) same h.2) p.2
part_one finish u t r h p = h.2 ∙ ap gives (same_build h.0 p.0 (sym h.1 ∙ p.1)) ∙ sym p.2
part_one (started b) u t r h p = h.2 ∙ sym p.2

two_one : (o : Two) (u v t r : TypeTree) → TwoHas o u v t → TwoHas o u v r → t ≡ r
two_one (binary op) u v t r h p = h.4 ∙ ap (λ k. scalar (answer_kind op k)) (same_scalar h.0 p.0 (sym h.2 ∙ p.2)) ∙ sym p.4
two_one and u v t r h p = h.2 ∙ sym p.2
two_one or u v t r h p = h.2 ∙ sym p.2
two_one look_up u v t r (inl h) (inl p) = let e : vec t ≡ vec r = sym h.0 ∙ p.0 in cc
two_one look_up u v t r (inl h) (inr p) = let e : vec t ≡ dict v r = sym h.0 ∙ p in let no : ⊥ = cc in absurd no
two_one look_up u v t r (inr h) (inl p) = let e : dict v t ≡ vec r = sym h ∙ p.0 in let no : ⊥ = cc in absurd no
two_one look_up u v t r (inr h) (inr p) = let e : dict v t ≡ dict v r = sym h ∙ p in cc
two_one key_exists u v t r h p = h.2 ∙ sym p.2
two_one merge u v t r h p = h.3 ∙ sym p.3

three_one : (o : Three) (u v w t r : TypeTree) → ThreeHas o u v w t → ThreeHas o u v w r → t ≡ r
three_one if_else u v w t r h p = sym h.1 ∙ p.1
three_one select u v w t r h p = sym h.1 ∙ p.1
three_one slice u v w t r h p = h.4 ∙ sym p.4

all_one : (us : TypeTrees) (t r : TypeTree) → HasTypes us → AreAll us t → AreAll us r → t ≡ r
all_one no_types t r some h p = absurd some
all_one (more_types u us) t r some h p = sym h.0 ∙ p.0

many_one : (o : Many) (us : TypeTrees) (t r : TypeTree) → ManyHas o us t → ManyHas o us r → t ≡ r
many_one make_vec us t r h p = h.4 ∙ ap vec (all_one us h.0 p.0 h.1 h.2 p.2) ∙ sym p.4
many_one make_struct us t r h p = h.2 ∙ sym p.2

mutual
  pub one_type : (e : ExprTree) (g : Types) (t r : TypeTree) → HasType e g t → HasType e g r → t ≡ r
  one_type (leaf a l) g t r h p = leaf_one l g t r h p
  one_type (one a o e) g t r h p =
      let s = one_type e g h.0 p.0 h.1 p.1 in part_one o p.0 t r (subst (λ u. OneHas o u t) s h.2) p.2
  one_type (two a o e f) g t r h p =
      let s = one_type e g h.0 p.0 h.2 p.2 in let q = one_type f g h.1 p.1 h.3 p.3 in
      two_one o p.0 p.1 t r (subst (λ v. TwoHas o p.0 v t) q (subst (λ u. TwoHas o u h.1 t) s h.4)) p.4
  one_type (three a o e f k) g t r h p =
      let s = one_type e g h.0 p.0 h.3 p.3 in let q = one_type f g h.1 p.1 h.4 p.4 in let z = one_type k g h.2 p.2 h.5 p.5 in
      three_one o p.0 p.1 p.2 t r (subst (λ w. ThreeHas o p.0 p.1 w t) z (subst (λ v. ThreeHas o p.0 v h.2 t) q (subst (λ u. ThreeHas o u h.1 h.2 t) s h.6))) p.6
  one_type (many a o es) g t r h p =
      let s = same_types es g h.0 p.0 h.1 p.1 in many_one o p.0 t r (subst (λ us. ManyHas o us t) s h.2) p.2
  one_type (let_in a b e f) g t r h p =
      let s = one_type e g h.0 p.0 h.1 p.1 in one_type f ((b.sym.0, p.0) ∷ g) t r (subst (λ u. HasType f ((b.sym.0, u) ∷ g) t) s h.3) p.3
  one_type (loop a ls e b n x f) g t r h p = one_type e g t r h.4 p.4
  one_type (iterate a e b f) g t r h p = one_type e g t r h.0 p.0

  same_types : (es : ExprTrees) (g : Types) (us vs : TypeTrees) → HaveTypes es g us → HaveTypes es g vs → us ≡ vs
  same_types no_exprs g no_types no_types h p = refl
  same_types no_exprs g no_types (more_types v vs) h p = absurd p
  same_types no_exprs g (more_types u us) vs h p = absurd h
  same_types (more_exprs e es) g no_types vs h p = absurd h
  same_types (more_exprs e es) g (more_types u us) no_types h p = absurd p
  same_types (more_exprs e es) g (more_types u us) (more_types v vs) h p = λ i. more_types (one_type e g u v h.0 p.0 i) (same_types es g us vs h.1 p.1 i)
