-- Of an expression that has a type, it is that type.
use Rattle.std.proofs.Common.{◌≡◌, ℕ, zero, suc, ◌<◌, ◌≤◌, ◌+◌, List, [], ◌∷◌, ◌++◌, length, get_or, take, map, arith, Result, Ok, Err, IfOk, append-nil, subst, refl, ap, sym, ◌∙◌, inl, inr}
use Rattle.weld_tree.specs.TypeTree.{TypeTree, TypeTrees, vec, struct, no_types, more_types, pack}
use Rattle.weld_tree.specs.Types.{HasTypes}
use Rattle.weld_tree.specs.ExprTree.{ExprTree, leaf, one, two, three, many, let_in, loop, iterate, ExprTrees, no_exprs, more_exprs, pack_exprs, Leaf, int, truth, chars, name, fresh, One, neg, not, cast, len, field, finish, started, Two, binary, and, or, look_up, key_exists, merge, if_else, select, slice, make_vec, make_struct}
use Rattle.weld_tree.specs.Program.{ProgramTree}
use Rattle.std.specs.declared.alloc.AllocError.{AllocError}
use Rattle.weld_tree.specs.declared.binder.Binder.{Binder}
use Rattle.weld_meaning.specs.Accepted.{IsAccepted}
use Rattle.weld_meaning.specs.Typing.{Types, IsField, AreAll, LeafHas, OneHas, TwoHas, HasType, HaveTypes, param_types, ProgramHas}
use Rattle.weld_objects.specs.Answered.{no_type, named_type, leaf_answer, nth_type, field_answer, result_answer, one_answer, operated_answer, looked_up_answer, two_answer, answered, first_answered, all_answered}

leaf_is : (l : Leaf) (g : Types) (t : TypeTree) → LeafHas l g t → leaf_answer l g ≡ t
leaf_is (int k x) g t h = sym h.2
leaf_is (truth b) g t h = sym h
leaf_is (chars bs) g t h = sym h
leaf_is (name s) g t h = ap named_type h
leaf_is (fresh b) g t h = sym h.2

nth_is : (n : ℕ) (us : TypeTrees) (t : TypeTree) → IsField n us t → nth_type n us ≡ t
nth_is zero no_types t h = absurd h
nth_is (suc n) no_types t h = absurd h
nth_is zero (more_types u us) t h = sym h
nth_is (suc n) (more_types u us) t h = nth_is n us t h

one_is : (o : One) (u t : TypeTree) → OneHas o u t → one_answer o u ≡ t
one_is neg u t h = h.2 ∙ sym h.3
one_is not u t h = sym h.1
one_is (cast k) u t h = sym h.3
one_is len u t h = sym h.2
one_is (field n) u t h = ap (field_answer n) h.1 ∙ nth_is n h.0 t h.2
one_is finish u t h = ap result_answer h.1 ∙ sym h.2
one_is (started b) u t h = sym h.2

two_is : (o : Two) (u v t : TypeTree) → TwoHas o u v t → two_answer o u ≡ t
two_is (binary op) u v t h = ap (operated_answer op) h.2 ∙ sym h.4
two_is and u v t h = sym h.2
two_is or u v t h = sym h.2
two_is look_up u v t (inl h) = ap looked_up_answer h.0
two_is look_up u v t (inr h) = ap looked_up_answer h
two_is key_exists u v t h = sym h.2
two_is merge u v t h = sym h.3

first_is : (us : TypeTrees) (t : TypeTree) (es : ExprTrees) (g : Types) → HasTypes us → AreAll us t → all_answered es g ≡ us → first_answered es g ≡ t
first_is no_types t es g some h e = absurd some
first_is (more_types u us) t no_exprs g some h e = let no : ⊥ = cc in absurd no
first_is (more_types u us) t (more_exprs f fs) g some h e = ap (nth_type 0) e ∙ h.0

mutual
  pub answered_is : (e : ExprTree) (g : Types) (t : TypeTree) → HasType e g t → answered e g ≡ t
  answered_is (leaf a l) g t h = leaf_is l g t h
  answered_is (one a o e) g t h = ap (one_answer o) (answered_is e g h.0 h.1) ∙ one_is o h.0 t h.2
  answered_is (two a o e f) g t h = ap (two_answer o) (answered_is e g h.0 h.2) ∙ two_is o h.0 h.1 t h.4
  answered_is (three a if_else c e f) g t h = answered_is e g h.1 h.4 ∙ h.6.1
  answered_is (three a select c e f) g t h = answered_is e g h.1 h.4 ∙ h.6.1
  answered_is (three a slice c e f) g t h = answered_is c g h.0 h.3 ∙ sym h.6.4
  answered_is (many a make_vec es) g t h = ap vec (first_is h.0 h.2.0 es g h.2.1 h.2.2 (all_answered_are es g h.0 h.1)) ∙ sym h.2.4
  answered_is (many a make_struct es) g t h = ap struct (all_answered_are es g h.0 h.1) ∙ sym h.2.2
  answered_is (let_in a b e f) g t h = ap (λ u. answered f ((b.sym.0, u) ∷ g)) (answered_is e g h.0 h.1) ∙ answered_is f ((b.sym.0, h.0) ∷ g) t h.3
  answered_is (loop a ls e b n x f) g t h = answered_is e g t h.4
  answered_is (iterate a e b f) g t h = answered_is e g t h.0

  all_answered_are : (es : ExprTrees) (g : Types) (us : TypeTrees) → HaveTypes es g us → all_answered es g ≡ us
  all_answered_are no_exprs g no_types h = refl
  all_answered_are no_exprs g (more_types u us) h = absurd h
  all_answered_are (more_exprs e es) g no_types h = absurd h
  all_answered_are (more_exprs e es) g (more_types u us) h = λ i. more_types (answered_is e g u h.0 i) (all_answered_are es g us h.1 i)

-- ---- fields in a list

pub nth_at : (ts : List TypeTree) (i : ℕ) (d : TypeTree) → i < length ts → nth_type i (pack ts) ≡ get_or ts i d
nth_at [] i d h = absurd (omega (arith, h))
nth_at (t ∷ ts) zero d h = refl
nth_at (t ∷ ts) (suc i) d h = nth_at ts i d (omega (arith, h))

pub nth_past : (ts : List TypeTree) (i : ℕ) → length ts ≤ i → nth_type i (pack ts) ≡ no_type
nth_past [] i h = refl
nth_past (t ∷ ts) zero h = absurd (omega (arith, h))
nth_past (t ∷ ts) (suc i) h = nth_past ts i (omega (arith, h))

-- ---- the fields of a struct

pub all_listed : (es : List ExprTree) (g : Types) → all_answered (pack_exprs es) g ≡ pack (map (λ e. answered e g) es)
all_listed [] g = refl
all_listed (e ∷ es) g = ap (more_types (answered e g)) (all_listed es g)

field_next : (es : List ExprTree) (g : Types) (i : ℕ) (d : ExprTree) → i < length es → map (λ e. answered e g) (take (suc i) es) ≡ map (λ e. answered e g) (take i es) ++ answered (get_or es i d) g ∷ []
field_next [] g i d h = absurd (omega (arith, h))
field_next (e ∷ es) g zero d h = refl
field_next (e ∷ es) g (suc i) d h = ap (λ ts. answered e g ∷ ts) (field_next es g i d (omega (arith, h)))

pub one_more_field : (es : List ExprTree) (g : Types) (i : ℕ) (part : ExprTree) (ty : TypeTree) (before after : List TypeTree) → i < length es → part ≡ get_or es i part → before ≡ map (λ e. answered e g) (take i es) → ty ≡ answered part g → after ≡ before ++ ty ∷ []
    → after ≡ map (λ e. answered e g) (take (i + 1) es)
one_more_field es g i part ty before after h p b t a =
    let e : suc i ≡ i + 1 = omega arith in
    a ∙ (λ k. b k ++ t k ∷ []) ∙ (λ k. map (λ f. answered f g) (take i es) ++ answered (p k) g ∷ []) ∙ sym (field_next es g i part h) ∙ ap (λ j. map (λ f. answered f g) (take j es)) e

pub fields_all : (es : List ExprTree) (g : Types) (i : ℕ) (fields : List TypeTree) → length es ≤ i → fields ≡ map (λ e. answered e g) (take i es) → pack fields ≡ all_answered (pack_exprs es) g
fields_all es g i fields h e = ap pack (e ∙ ap (map (λ f. answered f g)) (take_all es i h)) ∙ sym (all_listed es g)
  where
    take_all : (es : List ExprTree) (i : ℕ) → length es ≤ i → take i es ≡ es
    take_all [] zero h = refl
    take_all [] (suc i) h = refl
    take_all (e ∷ es) zero h = absurd (omega (arith, h))
    take_all (e ∷ es) (suc i) h = ap (λ r. e ∷ r) (take_all es i (omega (arith, h)))

-- ---- programs

pub program_answer : (p : ProgramTree) (body : ExprTree) (bs : List Binder) (g : Types) (r : Result TypeTree AllocError) → IsAccepted p → body ≡ p.body → bs ≡ p.params → g ≡ [] → IfOk r (λ ty. ty ≡ answered body (param_types bs ++ g)) → IfOk r (λ ty. ProgramHas p ty)
program_answer p body bs g (Err e) a eb ep eg h = tt
program_answer p body bs g (Ok ty) a eb ep eg h =
    let t = a.typed.0 in
    let found : ty ≡ t = h ∙ (λ i. answered (eb i) (param_types (ep i) ++ eg i)) ∙ ap (answered p.body) (append-nil (param_types p.params)) ∙ answered_is p.body (param_types p.params) t a.typed.1.body in
    subst (ProgramHas p) (sym found) a.typed.1
