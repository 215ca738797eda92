-- What an expression is lowered to is what it means.
use Rattle.std.proofs.Common.{◌≡◌, ℕ, zero, suc, ◌+◌, ◌<◌, ◌==◌, Bool, true, false, not, ◌&&◌, ◌||◌, if◌then◌else◌, ℤ, List, [], ◌∷◌, ◌++◌, length, map, slice_get, Option, Some, None, option_map, refl, sym, ap, subst, ◌∙◌, IsTrue, append_assoc, arith}
use Rattle.std.proofs.lemmas.Bool.{eqb-true}
use Rattle.std.proofs.lemmas.List.{length-append, get_or_append_left, get_or_push, get_or-append-add}
use Rattle.weld_data.specs.declared.kind.Kind.{Kind}
use Rattle.weld_data.specs.declared.kind.Kind.TheVariants as kinds
use Rattle.weld_data.specs.declared.op.BinOp.{BinOp}
use Rattle.weld_data.specs.Lookup.{same_kind}
use Rattle.weld_data.specs.Operation.{truth as truth_number}
use Rattle.weld_data.specs.Value.{number}
use Rattle.weld_data.specs.Wrapped.{wrapped}
use Rattle.weld_builders.specs.Outcome.{Outcome, done, and_then}
use Rattle.weld_tree.specs.declared.sym.Sym.{Sym}
use Rattle.weld_tree.specs.ExprTree.{At, ExprTree, leaf, one, two, three, many, let_in, loop, iterate, Leaf, int, truth, chars, name, fresh, One, neg, cast, len, field, finish, started, Two, binary, and, or, look_up, key_exists, merge, Three, if_else, select, slice}
use Rattle.weld_tree.specs.ExprTree as trees
use Rattle.weld_lanes.specs.declared.steps.LaneStep.{LaneStep}
use Rattle.weld_lanes.specs.declared.steps.LaneStep.TheVariants as steps
use Rattle.weld_lanes.specs.Answers.{at, is_true, answer}
use Rattle.weld_lanes.specs.Blocks.{step_at}
use Rattle.weld_lanes.specs.Formed.{are_formed, is_arithmetic, is_comparison}
use Rattle.weld_lanes.proofs.Running.{answers_is}
use Rattle.weld_meaning.specs.Environment.{look_for}
use Rattle.weld_meaning.specs.Evaluation.{Env, eval, three_thing, truth_value}
use Rattle.weld_meaning.specs.Thing.{Thing, plain}
use Rattle.weld_sizes.specs.Sized.{is_that_name, is_name_leaf}
use Rattle.weld_lane_form.specs.Bodies.{Lowered, is_mask, value_of, all_answers, with_lets, ComesTo, IsAt, IsNumberAt, IsTruthAt, IsNameOf}
use Rattle.weld_lane_form.specs.Lowering.{LaneNames, Begun, Placed, placed, behind, added, where_true, is_mask_at, place_among, lower_uniform, lower_outside, lower_name, lower_leaf, is_integer, lower_cast_leaf, lower_cast, is_unlet, lower_field, lower_not, lower_one, lower_binary, are_numbers, are_truths, lower_two, choosing, choose_truth, lower_select, lower_three, lower_expr}
use Rattle.weld_lane_form.proofs.Forms.{at_place, number_at, truth_at, let_at, outside_comes, row_outside, uniform_outside, literal_comes, test_comes, cast_comes, truth_is, not_comes, first_comes, second_comes, arithmetic_comes, comparison_comes, both_comes, either_comes, choice_comes}
use Rattle.weld_lane_form.proofs.Growing.{behind_is, true_is, added_is, placed_is, Grows, grows_by, grows_length, AreBelow, below_on, two_parts_grow, three_parts_grow, expr_grows}

-- ---- truths

pub left_true : (t u : Bool) → (t && u) ≡ true → t ≡ true
left_true true u h = refl
left_true false u h = cc

pub right_true : (t u : Bool) → (t && u) ≡ true → u ≡ true
right_true true u h = h
right_true false u h = cc

pub not_false : (t : Bool) → not t ≡ true → t ≡ false
not_false true h = cc
not_false false h = refl

pub same_kinds : (k m : Kind) → same_kind k m ≡ true → k ≡ m
same_kinds kinds.Bool kinds.Bool h = refl
same_kinds kinds.I8 kinds.I8 h = refl
same_kinds kinds.I16 kinds.I16 h = refl
same_kinds kinds.I32 kinds.I32 h = refl
same_kinds kinds.I64 kinds.I64 h = refl
same_kinds kinds.U8 kinds.U8 h = refl
same_kinds kinds.U16 kinds.U16 h = refl
same_kinds kinds.U32 kinds.U32 h = refl
same_kinds kinds.U64 kinds.U64 h = refl
same_kinds _ _ h = cc

pub unlet : (o : Option ℕ) → is_unlet o ≡ true → o ≡ None
unlet (Some i) h = cc
unlet None h = refl

-- ---- the whole, of which the steps were begun

-- what was lowered has the steps and names begun before its own
pub record Extends (l : Lowered) (c : LaneNames) (b : Begun) : Type 0 where
  pub kind_is : l.kind ≡ c.kind
  pub pair_is : l.is_pair ≡ c.is_pair
  pub row_is : l.row ≡ c.row
  pub formed : IsTrue (are_formed l.kind 0 l.steps)
  pub more : List LaneStep
  pub steps_are : l.steps ≡ b.steps ++ more
  pub more_names : List ℕ
  pub names_are : map (λ (s : Sym). s.0) l.names ≡ b.names ++ more_names

pub extends_back : (l : Lowered) (c : LaneNames) (b d : Begun) (i : ℕ) → Extends l c d → Grows b d i → Extends l c b
extends_back l c b d i x g = record {
  kind_is = x.kind_is;
  pair_is = x.pair_is;
  row_is = x.row_is;
  formed = x.formed;
  more = g.more ++ x.more;
  steps_are = x.steps_are ∙ ap (λ (ss : List LaneStep). ss ++ x.more) g.steps_are ∙ append_assoc b.steps g.more x.more;
  more_names = g.more_names ++ x.more_names;
  names_are = x.names_are ∙ ap (λ (ns : List ℕ). ns ++ x.more_names) g.names_are ∙ append_assoc b.names g.more_names x.more_names;
}

pub extends_at : (l : Lowered) (c : LaneNames) (b : Begun) (i : ℕ) → Extends l c b → i < length b.steps → step_at l.steps i ≡ step_at b.steps i
extends_at l c b i x less = ap (λ (ss : List LaneStep). step_at ss i) x.steps_are ∙ get_or_append_left b.steps x.more steps.A i less

pub extends_less : (l : Lowered) (c : LaneNames) (b : Begun) (i : ℕ) → Extends l c b → i < length b.steps → i < length l.steps
extends_less l c b i x less = let long = ap length x.steps_are ∙ length-append b.steps x.more in omega (arith, less, long)

pub number_of : (l : Lowered) (c : LaneNames) (ns : List (ℕ × ℕ)) (b : Begun) (e : ExprTree) (i : ℕ) → Extends l c b → i < length b.steps → is_mask_at b i ≡ false → IsAt l ns e i → IsNumberAt l ns e i
number_of l c ns b e i x less h is = number_at l ns e i (ap is_mask (extends_at l c b i x less) ∙ h) is

pub truth_of : (l : Lowered) (c : LaneNames) (ns : List (ℕ × ℕ)) (b : Begun) (e : ExprTree) (i : ℕ) → Extends l c b → i < length b.steps → is_mask_at b i ≡ true → IsAt l ns e i → IsTruthAt l ns e i
truth_of l c ns b e i x less h is = truth_at l ns e i x.formed (extends_less l c b i x less) (ap is_mask (extends_at l c b i x less) ∙ h) is

-- a step that was added is at its place what it makes
pub added_at : (l : Lowered) (c : LaneNames) (ns : List (ℕ × ℕ)) (e : ExprTree) (b : Begun) (s : LaneStep) (d : Begun) (i : ℕ) → added b s ≡ placed d i → Extends l c d → ComesTo l ns (eval e) s → IsAt l ns e i
added_at l c ns e b s d i h x comes =
    let a = added_is b s d i h in
    let g = grows_by b s d i h in
    let there : step_at l.steps i ≡ s =
    extends_at l c d i x g.less
    ∙ ap (λ (ss : List LaneStep). step_at ss i) a.steps_are
    ∙ get_or_push b.steps s steps.A i (sym a.place_is) in
    at_place l ns e i x.formed (extends_less l c d i x g.less) (subst (ComesTo l ns (eval e)) (sym there) comes)

where_at : (l : Lowered) (c : LaneNames) (ns : List (ℕ × ℕ)) (e : ExprTree) (t : Bool) (b : Begun) (s : LaneStep) (d : Begun) (i : ℕ) → where_true t (added b s) ≡ placed d i → Extends l c d → (t ≡ true → ComesTo l ns (eval e) s) → IsAt l ns e i
where_at l c ns e t b s d i h x comes = let w = true_is t (added b s) d i h in added_at l c ns e b s d i w.1 x (comes w.0)

-- ---- names

get_front : (xs ys : List ℕ) (u s : ℕ) → slice_get xs u ≡ Some s → slice_get (xs ++ ys) u ≡ Some s
get_front [] ys u s h = cc
get_front (x ∷ xs) ys zero s h = h
get_front (x ∷ xs) ys (suc u) s h = get_front xs ys u s h

get_behind : (xs ys : List ℕ) (s : ℕ) → slice_get ((xs ++ s ∷ []) ++ ys) (length xs) ≡ Some s
get_behind [] ys s = refl
get_behind (x ∷ xs) ys s = get_behind xs ys s

get_mapped : (ns : List Sym) (u s : ℕ) → slice_get (map (λ (n : Sym). n.0) ns) u ≡ Some s → (n : Sym) × (slice_get ns u ≡ Some n) × (n.0 ≡ s)
get_mapped [] u s h = cc
get_mapped (n ∷ ns) zero s h = let e : n.0 ≡ s = cc in (n, refl, e)
get_mapped (n ∷ ns) (suc u) s h = get_mapped ns u s h

one_later : (ts : List ℕ) (o : Option ℕ) (s u : ℕ) → option_map (λ (n : ℕ). n + 1) o ≡ Some u → (v : ℕ) × (o ≡ Some v) × (u ≡ suc v)
one_later ts (Some v) s u h = let e : v + 1 ≡ u = cc in (v, refl, omega (arith, e))
one_later ts None s u h = cc

pub place_found : (ts : List ℕ) (s u : ℕ) → place_among ts s ≡ Some u → slice_get ts u ≡ Some s
place_found [] s u h = cc
place_found (t ∷ ts) s u h = by (place_found ts s) (s == t) refl h
  where
    by : ((v : ℕ) → place_among ts s ≡ Some v → slice_get ts v ≡ Some s) → (q : Bool) → (s == t) ≡ q → (if q then Some 0 else option_map (λ (n : ℕ). n + 1) (place_among ts s)) ≡ Some u → slice_get (t ∷ ts) u ≡ Some s
    by rest true q g = let e : u ≡ 0 = cc in subst (λ (n : ℕ). slice_get (t ∷ ts) n ≡ Some s) (sym e) (ap (λ (n : ℕ). Some n) (sym (eqb-true s t q)))
    by rest false q g =
        let w = one_later ts (place_among ts s) s u g in
        subst (λ (n : ℕ). slice_get (t ∷ ts) n ≡ Some s) (sym w.2) (rest w.0 w.1)

uniform_at : (l : Lowered) (c : LaneNames) (ns : List (ℕ × ℕ)) (p : At) (b : Begun) (s : ℕ) (o : Option ℕ) (d : Begun) (i : ℕ) → look_for s ns ≡ None → ((u : ℕ) → o ≡ Some u → slice_get b.names u ≡ Some s)
    → lower_uniform b s o ≡ placed d i → Extends l c d → IsAt l ns (leaf p (name s)) i
uniform_at l c ns p b s (Some u) d i free found h x =
    let a = added_is b (steps.Uniform u) d i h in
    let named : slice_get (map (λ (n : Sym). n.0) l.names) u ≡ Some s =
    ap (λ (ts : List ℕ). slice_get ts u) x.names_are ∙ get_front d.names x.more_names u s (ap (λ (ts : List ℕ). slice_get ts u) a.names_are ∙ found u refl) in
    let w = get_mapped l.names u s named in
    added_at l c ns (leaf p (name s)) b (steps.Uniform u) d i h x (outside_comes l ns s (steps.Uniform u) free (uniform_outside l s u w.0 w.1 w.2))
uniform_at l c ns p b s None d i free found h x =
    let more : Begun = record { steps = b.steps; names = b.names ++ s ∷ [] } in
    let u : ℕ = length b.names in
    let a = added_is more (steps.Uniform u) d i h in
    let named : slice_get (map (λ (n : Sym). n.0) l.names) u ≡ Some s =
    ap (λ (ts : List ℕ). slice_get ts u) x.names_are ∙ ap (λ (ts : List ℕ). slice_get (ts ++ x.more_names) u) a.names_are ∙ get_behind b.names x.more_names s in
    let w = get_mapped l.names u s named in
    added_at l c ns (leaf p (name s)) more (steps.Uniform u) d i h x (outside_comes l ns s (steps.Uniform u) free (uniform_outside l s u w.0 w.1 w.2))

outside_at : (l : Lowered) (c : LaneNames) (ns : List (ℕ × ℕ)) (p : At) (b : Begun) (s : ℕ) (d : Begun) (i : ℕ) → look_for s ns ≡ None → lower_outside c b s ≡ placed d i → Extends l c d → IsAt l ns (leaf p (name s)) i
outside_at l c ns p b s d i free h x = by (s == c.row) refl h
  where
    by : (q : Bool) → (s == c.row) ≡ q → (if q then where_true (not c.is_pair) (added b steps.A) else where_true (not ((s == c.number) || (s == c.own))) (lower_uniform b s (place_among b.names s))) ≡ placed d i → IsAt l ns (leaf p (name s)) i
    by true q g =
        where_at l c ns (leaf p (name s)) (not c.is_pair) b steps.A d i g x
        (λ single. outside_comes l ns s steps.A free (row_outside l s (x.pair_is ∙ not_false c.is_pair single) (eqb-true s c.row q ∙ sym x.row_is)))
    by false q g =
        let w = true_is (not ((s == c.number) || (s == c.own))) (lower_uniform b s (place_among b.names s)) d i g in
        uniform_at l c ns p b s (place_among b.names s) d i free (place_found b.names s) w.1 x

name_at : (l : Lowered) (c : LaneNames) (ns : List (ℕ × ℕ)) (p : At) (b : Begun) (s : ℕ) (o : Option ℕ) (d : Begun) (i : ℕ) → look_for s ns ≡ o → lower_name c b s o ≡ placed d i → Extends l c d → IsAt l ns (leaf p (name s)) i
name_at l c ns p b s (Some j) d i is h x =
    let same = placed_is b j d i (placed b j) refl h in
    let_at l ns (leaf p (name s)) i (is ∙ ap (λ (n : ℕ). Some n) same.1)
name_at l c ns p b s None d i is h x = outside_at l c ns p b s d i is h x

-- ---- forms without parts, and of one

leaf_at : (l : Lowered) (c : LaneNames) (ns : List (ℕ × ℕ)) (p : At) (b : Begun) (f : Leaf) (d : Begun) (i : ℕ) → lower_leaf c ns b f ≡ placed d i → Extends l c d → IsAt l ns (leaf p f) i
leaf_at l c ns p b (int k x) d i h y = where_at l c ns (leaf p (int k x)) (same_kind k c.kind) b (steps.Lit x) d i h y (λ is. literal_comes l ns k x x (same_kinds k c.kind is ∙ sym y.kind_is) refl)
leaf_at l c ns p b (truth t) d i h y = added_at l c ns (leaf p (truth t)) b (steps.Truth t) d i h y (test_comes l ns t t refl)
leaf_at l c ns p b (chars bs) d i h y = cc
leaf_at l c ns p b (name s) d i h y = name_at l c ns p b s (look_for s ns) d i refl h y
leaf_at l c ns p b (fresh t) d i h y = cc

cast_leaf_at : (l : Lowered) (c : LaneNames) (ns : List (ℕ × ℕ)) (p q : At) (k : Kind) (b : Begun) (f : Leaf) (d : Begun) (i : ℕ) → lower_cast_leaf c k b f ≡ placed d i → Extends l c d → IsAt l ns (one p (cast k) (leaf q f)) i
cast_leaf_at l c ns p q k b (int m x) d i h y =
    where_at l c ns (one p (cast k) (leaf q (int m x))) (is_integer k && same_kind k c.kind) b (steps.Lit (wrapped k x)) d i h y
    (λ is. cast_comes l ns q m k x (wrapped k x) (same_kinds k c.kind (right_true (is_integer k) (same_kind k c.kind) is) ∙ sym y.kind_is) refl)
cast_leaf_at l c ns p q k b (truth t) d i h y = cc
cast_leaf_at l c ns p q k b (chars bs) d i h y = cc
cast_leaf_at l c ns p q k b (name s) d i h y = cc
cast_leaf_at l c ns p q k b (fresh t) d i h y = cc

cast_at : (l : Lowered) (c : LaneNames) (ns : List (ℕ × ℕ)) (p : At) (k : Kind) (b : Begun) (e : ExprTree) (d : Begun) (i : ℕ) → lower_cast c k b e ≡ placed d i → Extends l c d → IsAt l ns (one p (cast k) e) i
cast_at l c ns p k b (leaf q f) d i h y = cast_leaf_at l c ns p q k b f d i h y
cast_at l c ns p k b (one a o e) d i h y = cc
cast_at l c ns p k b (two a o e f) d i h y = cc
cast_at l c ns p k b (three a o e f g) d i h y = cc
cast_at l c ns p k b (many a o es) d i h y = cc
cast_at l c ns p k b (let_in a x e f) d i h y = cc
cast_at l c ns p k b (loop a ls e x n r f) d i h y = cc
cast_at l c ns p k b (iterate a e x f) d i h y = cc

name_leaf : (f : Leaf) (s : ℕ) → is_name_leaf f s ≡ true → f ≡ name s
name_leaf (int k x) s h = cc
name_leaf (truth t) s h = cc
name_leaf (chars bs) s h = cc
name_leaf (name t) s h = ap name (sym (eqb-true s t h))
name_leaf (fresh b) s h = cc

pub that_name : (e : ExprTree) (s : ℕ) → is_that_name e s ≡ true → IsNameOf e s
that_name (leaf a f) s h = name_leaf f s h
that_name (one a o e) s h = cc
that_name (two a o e f) s h = cc
that_name (three a o e f g) s h = cc
that_name (many a o es) s h = cc
that_name (let_in a x e f) s h = cc
that_name (loop a ls e x n r f) s h = cc
that_name (iterate a e x f) s h = cc

field_by : (l : Lowered) (c : LaneNames) (ns : List (ℕ × ℕ)) (p : At) (n : ℕ) (b : Begun) (e : ExprTree) (d : Begun) (i : ℕ) (q : Bool) → (n == 0) ≡ q → l.is_pair ≡ true → IsNameOf e l.row → look_for l.row ns ≡ None
    → (if q then added b steps.A else where_true (n == 1) (added b steps.B)) ≡ placed d i → Extends l c d → IsAt l ns (one p (field n) e) i
field_by l c ns p n b e d i true q pair is free h y = added_at l c ns (one p (field n) e) b steps.A d i h y (first_comes l ns e n pair is free (eqb-true n 0 q))
field_by l c ns p n b e d i false q pair is free h y =
    where_at l c ns (one p (field n) e) (n == 1) b steps.B d i h y (λ t. second_comes l ns e n pair is free (eqb-true n 1 t))

field_at : (l : Lowered) (c : LaneNames) (ns : List (ℕ × ℕ)) (p : At) (n : ℕ) (b : Begun) (e : ExprTree) (d : Begun) (i : ℕ) → lower_field c ns n b e ≡ placed d i → Extends l c d → IsAt l ns (one p (field n) e) i
field_at l c ns p n b e d i h y =
    let t : Bool = is_that_name e c.row && is_unlet (look_for c.row ns) in
    let w = true_is (c.is_pair && t) (if n == 0 then added b steps.A else where_true (n == 1) (added b steps.B)) d i h in
    let rest = right_true c.is_pair t w.0 in
    let is = that_name e c.row (left_true (is_that_name e c.row) (is_unlet (look_for c.row ns)) rest) in
    let free = unlet (look_for c.row ns) (right_true (is_that_name e c.row) (is_unlet (look_for c.row ns)) rest) in
    field_by l c ns p n b e d i (n == 0) refl (y.pair_is ∙ left_true c.is_pair t w.0) (subst (IsNameOf e) (sym y.row_is) is) (subst (λ (s : ℕ). look_for s ns ≡ None) (sym y.row_is) free) w.1 y

-- what is known of a part, wherever it was begun
abbrev PartAt : Lowered → LaneNames → List (ℕ × ℕ) → ExprTree → Placed → Type 0
PartAt l c ns e p = (d : Begun) (i : ℕ) → p ≡ placed d i → Extends l c d → IsAt l ns e i × (i < length d.steps)

one_at : (l : Lowered) (c : LaneNames) (ns : List (ℕ × ℕ)) (p : At) (o : One) (b : Begun) (e : ExprTree) (r : Placed) (d : Begun) (i : ℕ) → PartAt l c ns e r → lower_one c ns o b e r ≡ placed d i → Extends l c d → IsAt l ns (one p o e) i
one_at l c ns p neg b e r d i part h y = cc
one_at l c ns p trees.not b e r d i part h y =
    let w = behind_is r lower_not d i h in
    let t = true_is (is_mask_at w.0 w.1) (added w.0 (steps.Not w.1)) d i w.3 in
    let x = extends_back l c w.0 d i y (grows_by w.0 (steps.Not w.1) d i t.1) in
    let known = part w.0 w.1 w.2 x in
    added_at l c ns (one p trees.not e) w.0 (steps.Not w.1) d i t.1 y (not_comes l ns e w.1 (truth_of l c ns w.0 e w.1 x known.1 t.0 known.0))
one_at l c ns p (cast k) b e r d i part h y = cast_at l c ns p k b e d i h y
one_at l c ns p len b e r d i part h y = cc
one_at l c ns p (field n) b e r d i part h y = field_at l c ns p n b e d i h y
one_at l c ns p finish b e r d i part h y = cc
one_at l c ns p (started t) b e r d i part h y = cc

-- ---- forms of two parts and of three

binary_at : (l : Lowered) (c : LaneNames) (ns : List (ℕ × ℕ)) (p : At) (op : BinOp) (j k : ℕ) (b : Begun) (e f : ExprTree) (d : Begun) (i : ℕ) → IsNumberAt l ns e j → IsNumberAt l ns f k → lower_binary op j k b ≡ placed d i → Extends l c d → IsAt l ns (two p (binary op) e f) i
binary_at l c ns p op j k b e f d i first second h y = by (is_arithmetic op) refl h
  where
    by : (q : Bool) → is_arithmetic op ≡ q → (if q then added b (steps.Arith op j k) else where_true (is_comparison op) (added b (steps.Compare op j k))) ≡ placed d i → IsAt l ns (two p (binary op) e f) i
    by true q g = added_at l c ns (two p (binary op) e f) b (steps.Arith op j k) d i g y (arithmetic_comes l ns e f op op j k refl q first second)
    by false q g = where_at l c ns (two p (binary op) e f) (is_comparison op) b (steps.Compare op j k) d i g y (λ t. comparison_comes l ns e f op op j k refl t first second)

two_at : (l : Lowered) (c : LaneNames) (ns : List (ℕ × ℕ)) (p : At) (o : Two) (j k : ℕ) (b : Begun) (e f : ExprTree) (d : Begun) (i : ℕ) → Extends l c b → j < length b.steps → k < length b.steps → IsAt l ns e j → IsAt l ns f k
    → lower_two o j k b ≡ placed d i → Extends l c d → IsAt l ns (two p o e f) i
two_at l c ns p (binary op) j k b e f d i x left right first second h y =
    let t = true_is (are_numbers b j k) (lower_binary op j k b) d i h in
    let n = not_false (is_mask_at b j) (left_true (not (is_mask_at b j)) (not (is_mask_at b k)) t.0) in
    let m = not_false (is_mask_at b k) (right_true (not (is_mask_at b j)) (not (is_mask_at b k)) t.0) in
    binary_at l c ns p op j k b e f d i (number_of l c ns b e j x left n first) (number_of l c ns b f k x right m second) t.1 y
two_at l c ns p and j k b e f d i x left right first second h y =
    where_at l c ns (two p and e f) (are_truths b j k) b (steps.And j k) d i h y (λ t.
    both_comes l ns e f j k (truth_of l c ns b e j x left (left_true (is_mask_at b j) (is_mask_at b k) t) first) (truth_of l c ns b f k x right (right_true (is_mask_at b j) (is_mask_at b k) t) second))
two_at l c ns p or j k b e f d i x left right first second h y =
    where_at l c ns (two p or e f) (are_truths b j k) b (steps.Or j k) d i h y (λ t.
    either_comes l ns e f j k (truth_of l c ns b e j x left (left_true (is_mask_at b j) (is_mask_at b k) t) first) (truth_of l c ns b f k x right (right_true (is_mask_at b j) (is_mask_at b k) t) second))
two_at l c ns p look_up j k b e f d i x left right first second h y = cc
two_at l c ns p key_exists j k b e f d i x left right first second h y = cc
two_at l c ns p merge j k b e f d i x left right first second h y = cc

chosen_truth : (t u v : Bool) → three_thing select (plain (truth_value t)) (done (plain (truth_value u))) (done (plain (truth_value v))) ≡ done (plain (truth_value ((t && u) || (not t && v))))
chosen_truth true true v = refl
chosen_truth true false v = refl
chosen_truth false u v = refl

three_come : (o : Three) (c d e : Outcome Thing) (t u v : Thing) → c ≡ done t → d ≡ done u → e ≡ done v → and_then c (λ x. three_thing o x d e) ≡ three_thing o t (done u) (done v)
three_come o c d e t u v p q r = ap (λ (w : Outcome Thing). and_then w (λ x. three_thing o x d e)) p ∙ ap (λ (w : Outcome Thing). three_thing o t w e) q ∙ ap (three_thing o t (done u)) r

pub choose_at : (l : Lowered) (ns : List (ℕ × ℕ)) (p : At) (e f g : ExprTree) (m j k n : ℕ) → IsTrue (are_formed l.kind 0 l.steps) → n + 3 < length l.steps
    → step_at l.steps n ≡ steps.And m j → step_at l.steps (n + 1) ≡ steps.Not m → step_at l.steps (n + 2) ≡ steps.And (n + 1) k → step_at l.steps (n + 3) ≡ steps.Or n (n + 2)
    → IsTruthAt l ns e m → IsTruthAt l ns f j → IsTruthAt l ns g k → IsAt l ns (three p select e f g) (n + 3)
choose_at l ns p e f g m j k n formed less first second third fourth test chosen otherwise us a b env stands =
    let xs : List ℤ = all_answers l us a b in
    let t : Bool = is_true (at xs m) in
    let u : Bool = is_true (at xs j) in
    let v : Bool = is_true (at xs k) in
    let inner : Env = with_lets l us a b ns env in
    let zeroth : at xs n ≡ truth_number (t && u) = answers_is l.kind l.steps us a b n formed (omega (arith, less)) ∙ ap (answer l.kind us a b xs) first in
    let contrary : at xs (n + 1) ≡ truth_number (not t) = answers_is l.kind l.steps us a b (n + 1) formed (omega (arith, less)) ∙ ap (answer l.kind us a b xs) second in
    let other : at xs (n + 2) ≡ truth_number (not t && v) =
    answers_is l.kind l.steps us a b (n + 2) formed (omega (arith, less)) ∙ ap (answer l.kind us a b xs) third
    ∙ ap (λ (z : Bool). truth_number (z && v)) (ap is_true contrary ∙ truth_is (not t)) in
    let last : at xs (n + 3) ≡ truth_number ((t && u) || (not t && v)) =
    answers_is l.kind l.steps us a b (n + 3) formed less ∙ ap (answer l.kind us a b xs) fourth
    ∙ ap (λ (z : Bool). truth_number (z || is_true (at xs (n + 2)))) (ap is_true zeroth ∙ truth_is (t && u))
    ∙ ap (λ (z : Bool). truth_number ((t && u) || z)) (ap is_true other ∙ truth_is (not t && v)) in
    three_come select (eval e inner) (eval f inner) (eval g inner) (plain (truth_value t)) (plain (truth_value u)) (plain (truth_value v)) (test us a b env stands) (chosen us a b env stands) (otherwise us a b env stands)
    ∙ chosen_truth t u v
    ∙ ap (λ (z : ℤ). done (plain (number kinds.Bool z))) (sym last)
    ∙ ap (λ (s : LaneStep). done (plain (value_of l.kind s (at xs (n + 3))))) (sym fourth)

-- the steps that choose between truth values stand where they were added
chose_at : (l : Lowered) (c : LaneNames) (ns : List (ℕ × ℕ)) (p : At) (m j k : ℕ) (b : Begun) (e f g : ExprTree) (d : Begun) (i : ℕ) → IsTruthAt l ns e m → IsTruthAt l ns f j → IsTruthAt l ns g k
    → choose_truth m j k b ≡ placed d i → Extends l c d → IsAt l ns (three p select e f g) i
chose_at l c ns p m j k b e f g d i test chosen otherwise h y =
    let n : ℕ = length b.steps in
    let ss : List LaneStep = choosing n m j k in
    let whole : Begun = record { steps = b.steps ++ ss; names = b.names } in
    let same = placed_is whole (n + 3) d i (placed whole (n + 3)) refl h in
    let x : Extends l c whole = subst (Extends l c) (sym same.0) y in
    let long : length (b.steps ++ ss) ≡ n + 4 = length-append b.steps ss in
    let there : (q : ℕ) → q < 4 → step_at l.steps (n + q) ≡ step_at ss q =
    λ q small. extends_at l c whole (n + q) x (omega (arith, small, long)) ∙ get_or-append-add b.steps ss q steps.A in
    let here : step_at l.steps n ≡ steps.And m j = subst (λ (z : ℕ). step_at l.steps z ≡ steps.And m j) (omega arith) (there 0 (omega arith)) in
    let less : n + 3 < length l.steps = extends_less l c whole (n + 3) x (omega (arith, long)) in
    subst (IsAt l ns (three p select e f g)) same.1
    (choose_at l ns p e f g m j k n x.formed less here (there 1 (omega arith)) (there 2 (omega arith)) (there 3 (omega arith)) test chosen otherwise)

select_at : (l : Lowered) (c : LaneNames) (ns : List (ℕ × ℕ)) (p : At) (m j k : ℕ) (b : Begun) (e f g : ExprTree) (d : Begun) (i : ℕ) → Extends l c b → m < length b.steps → j < length b.steps → k < length b.steps
    → IsAt l ns e m → IsAt l ns f j → IsAt l ns g k → lower_select m j k b ≡ placed d i → Extends l c d → IsAt l ns (three p select e f g) i
select_at l c ns p m j k b e f g d i x top left right test first second h y =
    let w = true_is (is_mask_at b m) (if are_numbers b j k then added b (steps.Select m j k) else where_true (are_truths b j k) (choose_truth m j k b)) d i h in
    by (are_numbers b j k) refl (truth_of l c ns b e m x top w.0 test) w.1
  where
    by : (q : Bool) → are_numbers b j k ≡ q → IsTruthAt l ns e m → (if q then added b (steps.Select m j k) else where_true (are_truths b j k) (choose_truth m j k b)) ≡ placed d i → IsAt l ns (three p select e f g) i
    by true q is v =
        let n = not_false (is_mask_at b j) (left_true (not (is_mask_at b j)) (not (is_mask_at b k)) q) in
        let o = not_false (is_mask_at b k) (right_true (not (is_mask_at b j)) (not (is_mask_at b k)) q) in
        added_at l c ns (three p select e f g) b (steps.Select m j k) d i v y (choice_comes l ns e f g m j k is (number_of l c ns b f j x left n first) (number_of l c ns b g k x right o second))
    by false q is v =
        let t = true_is (are_truths b j k) (choose_truth m j k b) d i v in
        chose_at l c ns p m j k b e f g d i is
        (truth_of l c ns b f j x left (left_true (is_mask_at b j) (is_mask_at b k) t.0) first)
        (truth_of l c ns b g k x right (right_true (is_mask_at b j) (is_mask_at b k) t.0) second) t.1 y

three_at : (l : Lowered) (c : LaneNames) (ns : List (ℕ × ℕ)) (p : At) (o : Three) (m j k : ℕ) (b : Begun) (e f g : ExprTree) (d : Begun) (i : ℕ) → Extends l c b → m < length b.steps → j < length b.steps → k < length b.steps
    → IsAt l ns e m → IsAt l ns f j → IsAt l ns g k → lower_three o m j k b ≡ placed d i → Extends l c d → IsAt l ns (three p o e f g) i
three_at l c ns p if_else m j k b e f g d i x top left right test first second h y = cc
three_at l c ns p select m j k b e f g d i x top left right test first second h y = select_at l c ns p m j k b e f g d i x top left right test first second h y
three_at l c ns p slice m j k b e f g d i x top left right test first second h y = cc

-- ---- the whole expression

-- it comes to what stands at the place, once all steps are there
pub expr_at : (l : Lowered) (c : LaneNames) (ns : List (ℕ × ℕ)) (e : ExprTree) (b : Begun) (d : Begun) (i : ℕ) → AreBelow ns (length b.steps) → lower_expr c ns e b ≡ placed d i → Extends l c d → IsAt l ns e i
expr_at l c ns (leaf p f) b d i k h y = leaf_at l c ns p b f d i h y
expr_at l c ns (one p o e) b d i k h y =
    one_at l c ns p o b e (lower_expr c ns e b) d i (λ g j is x. (expr_at l c ns e b g j k is x, (expr_grows c ns e b g j k is).less)) h y
expr_at l c ns (two p o e f) b d i k h y =
    let w = behind_is (lower_expr c ns e b) (λ g j. behind (lower_expr c ns f g) (λ q m. lower_two o j m q)) d i h in
    let v = behind_is (lower_expr c ns f w.0) (λ q m. lower_two o w.1 m q) d i w.3 in
    let first = expr_grows c ns e b w.0 w.1 k w.2 in
    let on = below_on ns b w.0 w.1 k first in
    let second = expr_grows c ns f w.0 v.0 v.1 on v.2 in
    let x = extends_back l c v.0 d i y (two_parts_grow o w.1 v.1 v.0 d i v.3) in
    let z = extends_back l c w.0 v.0 v.1 x second in
    let long = grows_length w.0 v.0 v.1 second in
    let less = first.less in
    two_at l c ns p o w.1 v.1 v.0 e f d i x (omega (arith, less, long)) second.less (expr_at l c ns e b w.0 w.1 k w.2 z) (expr_at l c ns f w.0 v.0 v.1 on v.2 x) v.3 y
expr_at l c ns (three p o e f g) b d i k h y =
    let w = behind_is (lower_expr c ns e b) (λ q t. behind (lower_expr c ns f q) (λ r j. behind (lower_expr c ns g r) (λ s m. lower_three o t j m s))) d i h in
    let v = behind_is (lower_expr c ns f w.0) (λ r j. behind (lower_expr c ns g r) (λ s m. lower_three o w.1 j m s)) d i w.3 in
    let u = behind_is (lower_expr c ns g v.0) (λ s m. lower_three o w.1 v.1 m s) d i v.3 in
    let first = expr_grows c ns e b w.0 w.1 k w.2 in
    let on = below_on ns b w.0 w.1 k first in
    let second = expr_grows c ns f w.0 v.0 v.1 on v.2 in
    let further = below_on ns w.0 v.0 v.1 on second in
    let third = expr_grows c ns g v.0 u.0 u.1 further u.2 in
    let x = extends_back l c u.0 d i y (three_parts_grow o w.1 v.1 u.1 u.0 d i u.3) in
    let z = extends_back l c v.0 u.0 u.1 x third in
    let zz = extends_back l c w.0 v.0 v.1 z second in
    let long = grows_length w.0 v.0 v.1 second in
    let longer = grows_length v.0 u.0 u.1 third in
    let less = first.less in
    let less_too = second.less in
    three_at l c ns p o w.1 v.1 u.1 u.0 e f g d i x (omega (arith, less, long, longer)) (omega (arith, less_too, longer)) third.less
    (expr_at l c ns e b w.0 w.1 k w.2 zz) (expr_at l c ns f w.0 v.0 v.1 on v.2 z) (expr_at l c ns g v.0 u.0 u.1 further u.2 x) u.3 y
expr_at l c ns (many p o es) b d i k h y = cc
expr_at l c ns (let_in p x e f) b d i k h y = cc
expr_at l c ns (loop p ls e x n r f) b d i k h y = cc
expr_at l c ns (iterate p e x f) b d i k h y = cc
