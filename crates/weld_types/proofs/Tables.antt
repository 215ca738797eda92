-- The rules of nodes as they are judged say what the rules derive.
use Rattle.std.proofs.Common.{◌≡◌, ℕ, zero, suc, Bool, true, false, ◌&&◌, ◌||◌, Option, Some, None, refl, ap, sym, ◌∙◌, inl, inr, ◌⊎◌}
use Rattle.weld_data.specs.declared.kind.Kind.{Kind}
use Rattle.weld_data.specs.declared.kind.Kind.TheVariants as kinds
use Rattle.weld_data.specs.declared.op.BinOp.{BinOp}
use Rattle.weld_tree.specs.declared.code.Code.{Code}
use Rattle.weld_tree.specs.declared.code.Code.TheVariants.{Y1, Y5, Y6, Y10, Y11, Y12, Y13, Y15, Y16, Y17, Y19, Y21, Y22, Y24, Y25, Y28, Y29}
use Rattle.weld_tree.specs.TypeTree.{TypeTree, BuildTree, TypeTrees, scalar, vec, struct, dict, build, list, total, keyed, cells, groups, no_types, more_types}
use Rattle.weld_tree.specs.Types.{IsBuilder, takes, gives}
use Rattle.weld_tree.specs.ExprTree.{Leaf, int, truth, chars, name, fresh, One, neg, not, cast, len, field, finish, started, Two, binary, and, or, look_up, key_exists, merge, Three, if_else, select, slice, Many, make_vec, make_struct}
use Rattle.weld_tree.specs.Program.{LeafIsWellMade, OneIsWellMade}
use Rattle.weld_meaning.specs.Environment.{look_for}
use Rattle.weld_meaning.specs.Typing.{Types, truth_type, place_type, IsField, AreAll, LeafHas, StartHas, OneHas, TwoHas, ThreeHas, ManyHas, RowHas}
use Rattle.weld_types.specs.Tests.{same_type, are_all, is_integer_kind, is_scalar, is_integer, is_builder_free, are_builder_free, is_builder, are_builders, is_well_formed_build, takes_kind, takes_type}
use Rattle.weld_types.specs.Walk.{Judged, fits, breaks, demand, known, leaf_type, may_start, len_type, field_type, field_of_type, result_type, one_type, rule_of, answer_type, look_up_type, key_exists_type, merge_type, two_type, slice_type, three_type, many_type, with_element, elements, row_of, row_by}
use Rattle.weld_types.proofs.TestLemmas.{clash, and_true, both_true, same_type_true, true_same_type, all_of, of_all, integer_kind_of, of_integer_kind, free_of, of_free, builder_of, of_builder, one_sort_of, of_one_sort, build_formed_of, of_build_formed, takes_of, of_takes}

pub demanded : {A : Type 0} (b : Bool) (c : Code) (j : Judged A) (x : A) → demand b c j ≡ fits x → (b ≡ true) × (j ≡ fits x)
demanded true c j x e = (refl, e)
demanded false c j x e = let no : ⊥ = cc in absurd no

pub met : {A : Type 0} (b : Bool) (c : Code) (j : Judged A) (x : A) → b ≡ true → j ≡ fits x → demand b c j ≡ fits x
met true c j x p e = e
met false c j x p e = clash p refl

fit : {A : Type 0} (x y : A) → fits x ≡ fits y → y ≡ x
fit x y e = cc

broken : {A B : Type 0} (c : Code) (x : A) → breaks c ≡ fits x → B
broken c x e = let no : ⊥ = cc in absurd no

-- ---- no part

known_of : (m : Option TypeTree) (t : TypeTree) → known m ≡ fits t → m ≡ Some t
known_of (Some u) t e = ap Some (sym (fit u t e))
known_of None t e = broken _ t e

pub leaf_has : (l : Leaf) (g : Types) (t : TypeTree) → LeafIsWellMade l → leaf_type l g ≡ fits t → LeafHas l g t
leaf_has (int k x) g t m e = (m.0, m.1, fit (scalar k) t e)
leaf_has (truth b) g t m e = fit truth_type t e
leaf_has (chars bs) g t m e = fit (vec (scalar kinds.I8)) t e
leaf_has (name s) g t m e = known_of (look_for s g) t e
leaf_has (fresh b) g t m e =
    let h = demanded (is_well_formed_build b) Y1 (fits (build b)) t e in (m, build_formed_of b h.0, fit (build b) t h.1)

pub has_leaf : (l : Leaf) (g : Types) (t : TypeTree) → LeafHas l g t → leaf_type l g ≡ fits t
has_leaf (int k x) g t h = ap fits (sym h.2)
has_leaf (truth b) g t h = ap fits (sym h)
has_leaf (chars bs) g t h = ap fits (sym h)
has_leaf (name s) g t h = ap known h
has_leaf (fresh b) g t h = met (is_well_formed_build b) Y1 (fits (build b)) t (of_build_formed b h.1) (ap fits (sym h.2))

-- ---- one part

start_of : (b : BuildTree) (u : TypeTree) → may_start b u ≡ true → StartHas b u
start_of (list t) u e = clash e refl
start_of (total t op) u e = same_type_true u t e
start_of (keyed k v op) u e = clash e refl
start_of (cells t op) u e = same_type_true u (vec t) e
start_of (groups k v) u e = clash e refl

of_start : (b : BuildTree) (u : TypeTree) → StartHas b u → may_start b u ≡ true
of_start (list t) u h = absurd h
of_start (total t op) u h = true_same_type u t h
of_start (keyed k v op) u h = absurd h
of_start (cells t op) u h = true_same_type u (vec t) h
of_start (groups k v) u h = absurd h

field_of : (n : ℕ) (us : TypeTrees) (t : TypeTree) → field_type n us ≡ fits t → IsField n us t
field_of zero no_types t e = broken _ t e
field_of (suc n) no_types t e = broken _ t e
field_of zero (more_types u us) t e = fit u t e
field_of (suc n) (more_types u us) t e = field_of n us t e

of_field : (n : ℕ) (us : TypeTrees) (t : TypeTree) → IsField n us t → field_type n us ≡ fits t
of_field zero no_types t h = absurd h
of_field (suc n) no_types t h = absurd h
of_field zero (more_types u us) t h = ap fits (sym h)
of_field (suc n) (more_types u us) t h = of_field n us t h

integer_is : (u : TypeTree) → is_integer u ≡ true → (k : Kind) × (is_integer_kind k ≡ true) × (u ≡ scalar k)
integer_is (scalar k) e = (k, e, refl)
integer_is _ e = clash e refl

scalar_is : (u : TypeTree) → is_scalar u ≡ true → (k : Kind) × (u ≡ scalar k)
scalar_is (scalar k) e = (k, refl)
scalar_is _ e = clash e refl

len_of : (u t : TypeTree) → len_type u ≡ fits t → (v : TypeTree) × (u ≡ vec v) × (t ≡ place_type)
len_of (vec v) t e = (v, refl, fit place_type t e)
len_of (scalar k) t e = broken _ t e
len_of (struct us) t e = broken _ t e
len_of (dict k v) t e = broken _ t e
len_of (build b) t e = broken _ t e

of_struct : (n : ℕ) (u t : TypeTree) → field_of_type n u ≡ fits t → (us : TypeTrees) × (u ≡ struct us) × IsField n us t
of_struct n (struct us) t e = (us, refl, field_of n us t e)
of_struct n (scalar k) t e = broken _ t e
of_struct n (vec v) t e = broken _ t e
of_struct n (dict k v) t e = broken _ t e
of_struct n (build b) t e = broken _ t e

result_of : (u t : TypeTree) → result_type u ≡ fits t → (b : BuildTree) × (u ≡ build b) × (t ≡ gives b)
result_of (build b) t e = (b, refl, fit (gives b) t e)
result_of (scalar k) t e = broken _ t e
result_of (vec v) t e = broken _ t e
result_of (dict k v) t e = broken _ t e
result_of (struct us) t e = broken _ t e

pub one_has : (o : One) (u t : TypeTree) → OneIsWellMade o → one_type o u ≡ fits t → OneHas o u t
one_has neg u t m e =
    let h = demanded (is_integer u) Y5 (fits u) t e in let k = integer_is u h.0 in (k.0, integer_kind_of k.0 k.1, k.2, fit u t h.1 ∙ k.2)
one_has not u t m e =
    let h = demanded (same_type u truth_type) Y6 (fits truth_type) t e in (same_type_true u truth_type h.0, fit truth_type t h.1)
one_has (cast k) u t m e =
    let h = demanded (is_scalar u) Y11 (fits (scalar k)) t e in let s = scalar_is u h.0 in (s.0, m, s.1, fit (scalar k) t h.1)
one_has len u t m e = len_of u t e
one_has (field n) u t m e = of_struct n u t e
one_has finish u t m e = result_of u t e
one_has (started b) u t m e =
    let h = demanded (is_well_formed_build b) Y1 (demand (may_start b u) Y28 (fits (build b))) t e in
    let q = demanded (may_start b u) Y28 (fits (build b)) t h.1 in (build_formed_of b h.0, start_of b u q.0, fit (build b) t q.1)

pub has_one : (o : One) (u t : TypeTree) → OneHas o u t → one_type o u ≡ fits t
has_one neg u t h =
    met (is_integer u) Y5 (fits u) t (ap is_integer h.2 ∙ of_integer_kind h.0 h.1) (ap fits (h.2 ∙ sym h.3))
has_one not u t h = met (same_type u truth_type) Y6 (fits truth_type) t (true_same_type u truth_type h.0) (ap fits (sym h.1))
has_one (cast k) u t h = met (is_scalar u) Y11 (fits (scalar k)) t (ap is_scalar h.2) (ap fits (sym h.3))
has_one len u t h = ap len_type h.1 ∙ ap fits (sym h.2)
has_one (field n) u t h = ap (field_of_type n) h.1 ∙ of_field n h.0 t h.2
has_one finish u t h = ap result_type h.1 ∙ ap fits (sym h.2)
has_one (started b) u t h =
    met (is_well_formed_build b) Y1 (demand (may_start b u) Y28 (fits (build b))) t (of_build_formed b h.0)
    (met (may_start b u) Y28 (fits (build b)) t (of_start b u h.1) (ap fits (sym h.2)))

-- ---- two parts

kind_of : (op : BinOp) (u : TypeTree) → takes_type op u ≡ true → (k : Kind) × (takes_kind op k ≡ true) × (u ≡ scalar k)
kind_of op (scalar k) e = (k, e, refl)
kind_of op (vec t) e = clash e refl
kind_of op (struct ts) e = clash e refl
kind_of op (dict k v) e = clash e refl
kind_of op (build b) e = clash e refl

look_up_of : (u v t : TypeTree) → look_up_type u v ≡ fits t → ((u ≡ vec t) × (v ≡ place_type)) ⊎ (u ≡ dict v t)
look_up_of (vec w) v t e =
    let h = demanded (same_type v place_type) Y16 (fits w) t e in inl (ap vec (sym (fit w t h.1)), same_type_true v place_type h.0)
look_up_of (dict k w) v t e =
    let h = demanded (same_type v k) Y16 (fits w) t e in
    inr (λ i. dict (sym (same_type_true v k h.0) i) (sym (fit w t h.1) i))
look_up_of (scalar k) v t e = broken _ t e
look_up_of (struct us) v t e = broken _ t e
look_up_of (build b) v t e = broken _ t e

key_exists_of : (u v t : TypeTree) → key_exists_type u v ≡ fits t → (w : TypeTree) × (u ≡ dict v w) × (t ≡ truth_type)
key_exists_of (dict k w) v t e =
    let h = demanded (same_type v k) Y17 (fits truth_type) t e in (w, ap (λ x. dict x w) (sym (same_type_true v k h.0)), fit truth_type t h.1)
key_exists_of (scalar k) v t e = broken _ t e
key_exists_of (vec w) v t e = broken _ t e
key_exists_of (struct us) v t e = broken _ t e
key_exists_of (build b) v t e = broken _ t e

merge_of : (u v t : TypeTree) → merge_type u v ≡ fits t → (b : BuildTree) × (u ≡ build b) × (v ≡ takes b) × (t ≡ u)
merge_of (build b) v t e =
    let h = demanded (same_type v (takes b)) Y29 (fits (build b)) t e in (b, refl, same_type_true v (takes b) h.0, fit (build b) t h.1)
merge_of (scalar k) v t e = broken _ t e
merge_of (vec w) v t e = broken _ t e
merge_of (struct us) v t e = broken _ t e
merge_of (dict k w) v t e = broken _ t e

truths : (u v t : TypeTree) → demand (same_type u truth_type && same_type v truth_type) Y10 (fits truth_type) ≡ fits t → (u ≡ truth_type) × (v ≡ truth_type) × (t ≡ truth_type)
truths u v t e =
    let h = demanded (same_type u truth_type && same_type v truth_type) Y10 (fits truth_type) t e in
    let q = and_true (same_type u truth_type) (same_type v truth_type) h.0 in
    (same_type_true u truth_type q.0, same_type_true v truth_type q.1, fit truth_type t h.1)

of_truths : (u v t : TypeTree) → (u ≡ truth_type) × (v ≡ truth_type) × (t ≡ truth_type) → demand (same_type u truth_type && same_type v truth_type) Y10 (fits truth_type) ≡ fits t
of_truths u v t h =
    met (same_type u truth_type && same_type v truth_type) Y10 (fits truth_type) t
    (both_true (same_type u truth_type) (same_type v truth_type) (true_same_type u truth_type h.0) (true_same_type v truth_type h.1)) (ap fits (sym h.2))

pub two_has : (o : Two) (u v t : TypeTree) → two_type o u v ≡ fits t → TwoHas o u v t
two_has (binary op) u v t e =
    let h = demanded (takes_type op u && same_type v u) (rule_of op) (fits (answer_type op u)) t e in
    let q = and_true (takes_type op u) (same_type v u) h.0 in
    let k = kind_of op u q.0 in
    (k.0, takes_of op k.0 k.1, k.2, same_type_true v u q.1 ∙ k.2, fit (answer_type op u) t h.1 ∙ ap (answer_type op) k.2)
two_has and u v t e = truths u v t e
two_has or u v t e = truths u v t e
two_has look_up u v t e = look_up_of u v t e
two_has key_exists u v t e = key_exists_of u v t e
two_has merge u v t e = merge_of u v t e

has_look_up : (u v t : TypeTree) → ((u ≡ vec t) × (v ≡ place_type)) ⊎ (u ≡ dict v t) → look_up_type u v ≡ fits t
has_look_up u v t (inl h) =
    ap (λ x. look_up_type x v) h.0 ∙ met (same_type v place_type) Y16 (fits t) t (true_same_type v place_type h.1) refl
has_look_up u v t (inr h) = ap (λ x. look_up_type x v) h ∙ met (same_type v v) Y16 (fits t) t (true_same_type v v refl) refl

pub has_two : (o : Two) (u v t : TypeTree) → TwoHas o u v t → two_type o u v ≡ fits t
has_two (binary op) u v t h =
    met (takes_type op u && same_type v u) (rule_of op) (fits (answer_type op u)) t
    (both_true (takes_type op u) (same_type v u) (ap (takes_type op) h.2 ∙ of_takes op h.0 h.1) (true_same_type v u (h.3 ∙ sym h.2)))
    (ap (λ x. fits (answer_type op x)) h.2 ∙ ap fits (sym h.4))
has_two and u v t h = of_truths u v t h
has_two or u v t h = of_truths u v t h
has_two look_up u v t h = has_look_up u v t h
has_two key_exists u v t h =
    ap (λ x. key_exists_type x v) h.1 ∙ met (same_type v v) Y17 (fits truth_type) t (true_same_type v v refl) (ap fits (sym h.2))
has_two merge u v t h =
    ap (λ x. merge_type x v) h.1 ∙ met (same_type v (takes h.0)) Y29 (fits (build h.0)) t (true_same_type v (takes h.0) h.2) (ap fits (sym h.1 ∙ sym h.3))

-- ---- three parts

slice_of : (u v w t : TypeTree) → slice_type u v w ≡ fits t → (e : TypeTree) × (u ≡ vec e) × (v ≡ place_type) × (w ≡ place_type) × (t ≡ u)
slice_of (vec x) v w t e =
    let h = demanded (same_type v place_type && same_type w place_type) Y19 (fits (vec x)) t e in
    let q = and_true (same_type v place_type) (same_type w place_type) h.0 in
    (x, refl, same_type_true v place_type q.0, same_type_true w place_type q.1, fit (vec x) t h.1)
slice_of (scalar k) v w t e = broken _ t e
slice_of (struct us) v w t e = broken _ t e
slice_of (dict k x) v w t e = broken _ t e
slice_of (build b) v w t e = broken _ t e

pub three_has : (o : Three) (u v w t : TypeTree) → three_type o u v w ≡ fits t → ThreeHas o u v w t
three_has if_else u v w t e =
    let h = demanded (same_type u truth_type) Y12 (demand (same_type w v) Y13 (fits v)) t e in
    let q = demanded (same_type w v) Y13 (fits v) t h.1 in
    let s = sym (fit v t q.1) in (same_type_true u truth_type h.0, s, same_type_true w v q.0 ∙ s)
three_has select u v w t e =
    let h = demanded (same_type u truth_type) Y12 (demand (same_type w v && is_builder_free v) Y15 (fits v)) t e in
    let q = demanded (same_type w v && is_builder_free v) Y15 (fits v) t h.1 in
    let r = and_true (same_type w v) (is_builder_free v) q.0 in
    let s = sym (fit v t q.1) in (same_type_true u truth_type h.0, s, same_type_true w v r.0 ∙ s, free_of t (ap is_builder_free (sym s) ∙ r.1))
three_has slice u v w t e = slice_of u v w t e

pub has_three : (o : Three) (u v w t : TypeTree) → ThreeHas o u v w t → three_type o u v w ≡ fits t
has_three if_else u v w t h =
    met (same_type u truth_type) Y12 (demand (same_type w v) Y13 (fits v)) t (true_same_type u truth_type h.0)
    (met (same_type w v) Y13 (fits v) t (true_same_type w v (h.2 ∙ sym h.1)) (ap fits h.1))
has_three select u v w t h =
    met (same_type u truth_type) Y12 (demand (same_type w v && is_builder_free v) Y15 (fits v)) t (true_same_type u truth_type h.0)
    (met (same_type w v && is_builder_free v) Y15 (fits v) t
    (both_true (same_type w v) (is_builder_free v) (true_same_type w v (h.2 ∙ sym h.1)) (ap is_builder_free h.1 ∙ of_free t h.3)) (ap fits h.1))
has_three slice u v w t h =
    ap (λ x. slice_type x v w) h.1
    ∙ met (same_type v place_type && same_type w place_type) Y19 (fits (vec h.0)) t
    (both_true (same_type v place_type) (same_type w place_type) (true_same_type v place_type h.2) (true_same_type w place_type h.3)) (ap fits (sym h.1 ∙ sym h.4))

-- ---- any number of parts

pub many_has : (o : Many) (us : TypeTrees) (t : TypeTree) → many_type o us ≡ fits t → ManyHas o us t
many_has make_vec no_types t e = broken _ t e
many_has make_vec (more_types u us) t e =
    let h = demanded (are_all us u && is_builder_free u) Y21 (fits (vec u)) t e in
    let q = and_true (are_all us u) (is_builder_free u) h.0 in
    (u, tt, (refl, all_of us u q.0), free_of u q.1, fit (vec u) t h.1)
many_has make_struct no_types t e = broken _ t e
many_has make_struct (more_types u us) t e =
    let h = demanded (are_builder_free (more_types u us) || are_builders (more_types u us)) Y22 (fits (struct (more_types u us))) t e in
    (tt, one_sort_of (more_types u us) h.0, fit (struct (more_types u us)) t h.1)

pub has_many : (o : Many) (us : TypeTrees) (t : TypeTree) → ManyHas o us t → many_type o us ≡ fits t
has_many make_vec no_types t h = absurd h.1
has_many make_vec (more_types u us) t h =
    met (are_all us u && is_builder_free u) Y21 (fits (vec u)) t
    (both_true (are_all us u) (is_builder_free u) (ap (are_all us) h.2.0 ∙ of_all us h.0 h.2.1) (ap is_builder_free h.2.0 ∙ of_free h.0 h.3))
    (ap (λ x. fits (vec x)) h.2.0 ∙ ap fits (sym h.4))
has_many make_struct no_types t h = absurd h.0
has_many make_struct (more_types u us) t h =
    met (are_builder_free (more_types u us) || are_builders (more_types u us)) Y22 (fits (struct (more_types u us))) t
    (of_one_sort (more_types u us) h.1) (ap fits (sym h.2))

-- ---- loops

-- vectors of these elements
abbrev pub vecs : TypeTrees → TypeTrees
vecs no_types = no_types
vecs (more_types t ts) = more_types (vec t) (vecs ts)

pub elements_of : (vs us : TypeTrees) → elements vs ≡ fits us → vs ≡ vecs us
elements_of no_types us e = ap vecs (sym (fit no_types us e))
elements_of (more_types v vs) us e = by v (elements vs) (elements_of vs) e
  where
    by : (v : TypeTree) (j : Judged TypeTrees) → ((ts : TypeTrees) → j ≡ fits ts → vs ≡ vecs ts) → with_element v j ≡ fits us → more_types v vs ≡ vecs us
    by (vec t) (fits ts) k e = (λ i. more_types (vec t) (k ts refl i)) ∙ ap vecs (sym (fit (more_types t ts) us e))
    by (vec t) (breaks c) k e = broken c us e
    by (scalar m) j k e = broken _ us e
    by (struct ts) j k e = broken _ us e
    by (dict m w) j k e = broken _ us e
    by (build b) j k e = broken _ us e

pub of_elements : (us : TypeTrees) → elements (vecs us) ≡ fits us
of_elements no_types = refl
of_elements (more_types u us) = ap (with_element (vec u)) (of_elements us)

row_is : (us : TypeTrees) (r : TypeTree) → row_of us ≡ fits r → RowHas us r
row_is no_types r e = broken _ r e
row_is (more_types u no_types) r e = fit u r e
row_is (more_types u (more_types v us)) r e = fit (struct (more_types u (more_types v us))) r e

is_row : (us : TypeTrees) (r : TypeTree) → RowHas us r → row_of us ≡ fits r
is_row no_types r h = absurd h
is_row (more_types u no_types) r h = ap fits (sym h)
is_row (more_types u (more_types v us)) r h = ap fits (sym h)

-- what the rules on the legs and the builder of a loop say
pub record RowFacts (vectors bounds : TypeTrees) (b r : TypeTree) : Type 0 where
  pub items : TypeTrees
  pub vectors_are : vectors ≡ vecs items
  pub bounds_are : AreAll bounds place_type
  pub builder : IsBuilder b
  pub row : RowHas items r

pub row_has : (vectors bounds : TypeTrees) (b r : TypeTree) → row_by (elements vectors) bounds b ≡ fits r → RowFacts vectors bounds b r
row_has vectors bounds b r e = by (elements vectors) refl e
  where
    by : (j : Judged TypeTrees) → elements vectors ≡ j → row_by j bounds b ≡ fits r → RowFacts vectors bounds b r
    by (fits ts) p e =
        let h = demanded (are_all bounds place_type) Y24 (demand (is_builder b) Y25 (row_of ts)) r e in
        let q = demanded (is_builder b) Y25 (row_of ts) r h.1 in
        record { items = ts; vectors_are = elements_of vectors ts p; bounds_are = all_of bounds place_type h.0; builder = builder_of b q.0; row = row_is ts r q.1 }
    by (breaks c) p e = broken c r e

pub has_row : (bounds us : TypeTrees) (b r : TypeTree) → AreAll bounds place_type → IsBuilder b → RowHas us r → row_by (elements (vecs us)) bounds b ≡ fits r
has_row bounds us b r all builder row =
    ap (λ j. row_by j bounds b) (of_elements us)
    ∙ met (are_all bounds place_type) Y24 (demand (is_builder b) Y25 (row_of us)) r (of_all bounds place_type all)
    (met (is_builder b) Y25 (row_of us) r (of_builder b builder) (is_row us r row))
