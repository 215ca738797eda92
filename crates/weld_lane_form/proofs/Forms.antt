-- Forms of expressions and the steps that mean them.
use Rattle.std.proofs.Common.{◌≡◌, ℕ, ◌<◌, ◌==◌, Bool, true, false, not, ◌&&◌, ◌||◌, if◌then◌else◌, ℤ, pos, int_lt, int_le, List, [], ◌∷◌, length, slice_get, Some, None, option_map, refl, sym, ap, ◌∙◌, IsTrue}
use Rattle.std.specs.Ordering.{int_eq}
use Rattle.weld_data.specs.declared.kind.Kind.{Kind}
use Rattle.weld_data.specs.declared.kind.Kind.TheVariants as kinds
use Rattle.weld_data.specs.declared.op.BinOp.{BinOp}
use Rattle.weld_data.specs.declared.op.BinOp.TheVariants as ops
use Rattle.weld_data.specs.Lookup.{same_kind}
use Rattle.weld_data.specs.Operation.{operation, answer_kind, truth}
use Rattle.weld_data.specs.Value.{Value, number}
use Rattle.weld_data.specs.Wrapped.{wrapped}
use Rattle.weld_builders.specs.Outcome.{Outcome, done, stuck, and_then, map_out, or_fault}
use Rattle.weld_lanes.specs.declared.steps.LaneStep.{LaneStep}
use Rattle.weld_lanes.specs.declared.steps.LaneStep.TheVariants as steps
use Rattle.weld_lanes.specs.Answers.{at, is_true, made, answer}
use Rattle.weld_lanes.specs.Blocks.{step_at}
use Rattle.weld_lanes.specs.Formed.{are_formed, is_formed, is_arithmetic, is_comparison}
use Rattle.weld_lanes.proofs.Running.{answers_is, formed_at, left_of}
use Rattle.weld_tree.specs.declared.sym.Sym.{Sym}
use Rattle.weld_tree.specs.ExprTree.{ExprTree, At, leaf, one, two, three, many, let_in, loop, iterate, Leaf, int, truth as truth_leaf, chars, name, fresh, not as not_form, cast, field, Two, binary, and as and_form, or as or_form, select}
use Rattle.weld_meaning.specs.Environment.{look_for}
use Rattle.weld_meaning.specs.Evaluation.{Env, eval, found, leaf_thing, one_thing, two_thing, three_thing, operated, truth_value}
use Rattle.weld_meaning.specs.Thing.{Thing, plain}
use Rattle.weld_lane_form.specs.Bodies.{Lowered, Stands, row_value, value_of, is_mask, all_answers, place_value, made_value, with_lets, ComesTo, IsAt, IsNumberAt, IsTruthAt, IsOutside, IsNameOf, IsLet}

-- ---- places

-- what stands at a place is what its step makes
pub place_made : (l : Lowered) (us : List ℤ) (a b : ℤ) (i : ℕ) → IsTrue (are_formed l.kind 0 l.steps) → i < length l.steps → place_value l us a b i ≡ made_value l us a b (step_at l.steps i)
place_made l us a b i formed less = ap (value_of l.kind (step_at l.steps i)) (answers_is l.kind l.steps us a b i formed less)

pub at_place : (l : Lowered) (ns : List (ℕ × ℕ)) (e : ExprTree) (i : ℕ) → IsTrue (are_formed l.kind 0 l.steps) → i < length l.steps → ComesTo l ns (eval e) (step_at l.steps i) → IsAt l ns e i
at_place l ns e i formed less h us a b env stands = h us a b env stands ∙ ap (λ (v : Value). done (plain v)) (sym (place_made l us a b i formed less))

pub number_at : (l : Lowered) (ns : List (ℕ × ℕ)) (e : ExprTree) (i : ℕ) → is_mask (step_at l.steps i) ≡ false → IsAt l ns e i → IsNumberAt l ns e i
number_at l ns e i h p us a b env stands = p us a b env stands ∙ ap (λ (m : Bool). done (plain (number (if m then kinds.Bool else l.kind) (at (all_answers l us a b) i)))) h

truth_back : (t : Bool) → truth t ≡ truth (is_true (truth t))
truth_back true = refl
truth_back false = refl

compared_truth : (op : BinOp) (k : Kind) (x y : ℤ) → is_comparison op ≡ true → made op k x y ≡ truth (is_true (made op k x y))
compared_truth ops.Add k x y h = cc
compared_truth ops.Sub k x y h = cc
compared_truth ops.Mul k x y h = cc
compared_truth ops.Div k x y h = cc
compared_truth ops.Rem k x y h = cc
compared_truth ops.Eq k x y h = truth_back (int_eq x y)
compared_truth ops.Ne k x y h = truth_back (not (int_eq x y))
compared_truth ops.Lt k x y h = truth_back (int_lt x y)
compared_truth ops.Le k x y h = truth_back (int_le x y)
compared_truth ops.Gt k x y h = truth_back (int_lt y x)
compared_truth ops.Ge k x y h = truth_back (int_le y x)

-- a step that answers a truth value answers 0 or 1
mask_truth : (k : Kind) (us : List ℤ) (a b : ℤ) (xs : List ℤ) (n : ℕ) (s : LaneStep) → IsTrue (is_formed k n s) → is_mask s ≡ true → answer k us a b xs s ≡ truth (is_true (answer k us a b xs s))
mask_truth k us a b xs n steps.A f h = cc
mask_truth k us a b xs n steps.B f h = cc
mask_truth k us a b xs n (steps.Lit x) f h = cc
mask_truth k us a b xs n (steps.Uniform u) f h = cc
mask_truth k us a b xs n (steps.Arith op i j) f h = cc
mask_truth k us a b xs n (steps.Compare op i j) f h = compared_truth op k (at xs i) (at xs j) (left_of (is_comparison op) _ f)
mask_truth k us a b xs n (steps.Truth t) f h = truth_back t
mask_truth k us a b xs n (steps.Not i) f h = truth_back (not (is_true (at xs i)))
mask_truth k us a b xs n (steps.And i j) f h = truth_back (is_true (at xs i) && is_true (at xs j))
mask_truth k us a b xs n (steps.Or i j) f h = truth_back (is_true (at xs i) || is_true (at xs j))
mask_truth k us a b xs n (steps.Select c i j) f h = cc

pub truth_at : (l : Lowered) (ns : List (ℕ × ℕ)) (e : ExprTree) (i : ℕ) → IsTrue (are_formed l.kind 0 l.steps) → i < length l.steps → is_mask (step_at l.steps i) ≡ true → IsAt l ns e i → IsTruthAt l ns e i
truth_at l ns e i formed less h p us a b env stands =
    let xs : List ℤ = all_answers l us a b in
    let is = answers_is l.kind l.steps us a b i formed less in
    p us a b env stands
    ∙ ap (λ (m : Bool). done (plain (number (if m then kinds.Bool else l.kind) (at xs i)))) h
    ∙ ap (λ (x : ℤ). done (plain (number kinds.Bool x))) (is ∙ mask_truth l.kind us a b xs i (step_at l.steps i) (formed_at l.kind l.steps i formed less) h ∙ ap (λ (x : ℤ). truth (is_true x)) (sym is))

-- ---- names

hit : (l : Lowered) (us : List ℤ) (a b : ℤ) (s i j : ℕ) (env : Env) (t : Bool) (ns : List (ℕ × ℕ)) → (if t then Some j else look_for s ns) ≡ Some i → (look_for s ns ≡ Some i → look_for s env ≡ Some (plain (place_value l us a b i)))
    → (if t then Some (plain (place_value l us a b j)) else look_for s env) ≡ Some (plain (place_value l us a b i))
hit l us a b s i j env true ns h rest = let e : j ≡ i = cc in ap (λ (n : ℕ). Some (plain (place_value l us a b n))) e
hit l us a b s i j env false ns h rest = rest h

let_found : (l : Lowered) (us : List ℤ) (a b : ℤ) (s i : ℕ) (ns : List (ℕ × ℕ)) (env : Env) → look_for s ns ≡ Some i → look_for s (with_lets l us a b ns env) ≡ Some (plain (place_value l us a b i))
let_found l us a b s i [] env h = cc
let_found l us a b s i (n ∷ ns) env h = hit l us a b s i n.1 (with_lets l us a b ns env) (s == n.0) ns h (let_found l us a b s i ns env)

miss : (s j : ℕ) (t : Bool) (ns : List (ℕ × ℕ)) (x : Thing) (env out : Env) → (if t then Some j else look_for s ns) ≡ None → (look_for s ns ≡ None → look_for s env ≡ look_for s out) → (if t then Some x else look_for s env) ≡ look_for s out
miss s j true ns x env out h rest = cc
miss s j false ns x env out h rest = rest h

pub let_missed : (l : Lowered) (us : List ℤ) (a b : ℤ) (s : ℕ) (ns : List (ℕ × ℕ)) (env : Env) → look_for s ns ≡ None → look_for s (with_lets l us a b ns env) ≡ look_for s env
let_missed l us a b s [] env h = refl
let_missed l us a b s (n ∷ ns) env h = miss s n.1 (s == n.0) ns (plain (place_value l us a b n.1)) (with_lets l us a b ns env) env h (let_missed l us a b s ns env)

pub let_at : (l : Lowered) (ns : List (ℕ × ℕ)) (e : ExprTree) (i : ℕ) → IsLet ns e i → IsAt l ns e i
let_at l ns (leaf p (int k x)) i h = absurd h
let_at l ns (leaf p (truth_leaf t)) i h = absurd h
let_at l ns (leaf p (chars bs)) i h = absurd h
let_at l ns (leaf p (name s)) i h = λ us a b env stands. ap found (let_found l us a b s i ns env h)
let_at l ns (leaf p (fresh x)) i h = absurd h
let_at l ns (one p o e) i h = absurd h
let_at l ns (two p o e f) i h = absurd h
let_at l ns (three p o c e f) i h = absurd h
let_at l ns (many p o es) i h = absurd h
let_at l ns (let_in p x e f) i h = absurd h
let_at l ns (loop p ls e x n r f) i h = absurd h
let_at l ns (iterate p e x f) i h = absurd h

pub outside_comes : (l : Lowered) (ns : List (ℕ × ℕ)) (s : ℕ) (step : LaneStep) → look_for s ns ≡ None → IsOutside l s step → ComesTo l ns (leaf_thing (name s)) step
outside_comes l ns s step free h us a b env stands = ap found (let_missed l us a b s ns env free ∙ h us a b env stands)

pub row_outside : (l : Lowered) (s : ℕ) → l.is_pair ≡ false → s ≡ l.row → IsOutside l s steps.A
row_outside l s h e us a b env stands = ap (λ (n : ℕ). look_for n env) e ∙ stands.row ∙ ap (λ (t : Bool). Some (plain (row_value l.kind t a b))) h

pub uniform_outside : (l : Lowered) (s u : ℕ) (n : Sym) → slice_get l.names u ≡ Some n → n.0 ≡ s → IsOutside l s (steps.Uniform u)
uniform_outside l s u n there e us a b env stands = ap (λ (m : ℕ). look_for m env) (sym e) ∙ stands.uniform u n there

-- ---- leaves

pub literal_comes : (l : Lowered) (ns : List (ℕ × ℕ)) (k : Kind) (x y : ℤ) → k ≡ l.kind → x ≡ y → ComesTo l ns (leaf_thing (int k x)) (steps.Lit y)
literal_comes l ns k x y e f us a b env stands = ap (λ (m : Kind). done (plain (number m x))) e ∙ ap (λ (z : ℤ). done (plain (number l.kind z))) f

pub test_comes : (l : Lowered) (ns : List (ℕ × ℕ)) (t u : Bool) → u ≡ t → ComesTo l ns (leaf_thing (truth_leaf t)) (steps.Truth u)
test_comes l ns t u e us a b env stands = ap (λ (v : Bool). done (plain (truth_value v))) (sym e)

-- ---- one part

pub cast_comes : (l : Lowered) (ns : List (ℕ × ℕ)) (p : At) (m k : Kind) (x y : ℤ) → k ≡ l.kind → y ≡ wrapped k x → ComesTo l ns (λ env. and_then (eval (leaf p (int m x)) env) (one_thing (cast k))) (steps.Lit y)
cast_comes l ns p m k x y e f us a b env stands = ap (λ (n : Kind). done (plain (number n (wrapped k x)))) e ∙ ap (λ (z : ℤ). done (plain (number l.kind z))) (sym f)

pub truth_is : (t : Bool) → int_eq (truth t) (pos 1) ≡ t
truth_is true = refl
truth_is false = refl

pub not_comes : (l : Lowered) (ns : List (ℕ × ℕ)) (e : ExprTree) (i : ℕ) → IsTruthAt l ns e i → ComesTo l ns (λ env. and_then (eval e env) (one_thing not_form)) (steps.Not i)
not_comes l ns e i h us a b env stands =
    ap (λ (o : Outcome Thing). and_then o (one_thing not_form)) (h us a b env stands)
    ∙ ap (λ (t : Bool). done (plain (truth_value (not t)))) (truth_is (is_true (at (all_answers l us a b) i)))

row_named : (l : Lowered) (ns : List (ℕ × ℕ)) (e : ExprTree) (us : List ℤ) (a b : ℤ) (env : Env) → l.is_pair ≡ true → IsNameOf e l.row → look_for l.row ns ≡ None → Stands l us a b env → eval e (with_lets l us a b ns env) ≡ done (plain (row_value l.kind true a b))
row_named l ns (leaf p x) us a b env pair is free stands =
    ap (λ (y : Leaf). leaf_thing y (with_lets l us a b ns env)) is
    ∙ ap found (let_missed l us a b l.row ns env free ∙ stands.row)
    ∙ ap (λ (t : Bool). done (plain (row_value l.kind t a b))) pair
row_named l ns (one p o e) us a b env pair is free stands = absurd is
row_named l ns (two p o e f) us a b env pair is free stands = absurd is
row_named l ns (three p o c e f) us a b env pair is free stands = absurd is
row_named l ns (many p o es) us a b env pair is free stands = absurd is
row_named l ns (let_in p x e f) us a b env pair is free stands = absurd is
row_named l ns (loop p ls e x n r f) us a b env pair is free stands = absurd is
row_named l ns (iterate p e x f) us a b env pair is free stands = absurd is

pub first_comes : (l : Lowered) (ns : List (ℕ × ℕ)) (e : ExprTree) (n : ℕ) → l.is_pair ≡ true → IsNameOf e l.row → look_for l.row ns ≡ None → n ≡ 0 → ComesTo l ns (λ env. and_then (eval e env) (one_thing (field n))) steps.A
first_comes l ns e n pair is free none us a b env stands =
    ap (λ (m : ℕ). and_then (eval e (with_lets l us a b ns env)) (one_thing (field m))) none
    ∙ ap (λ (o : Outcome Thing). and_then o (one_thing (field 0))) (row_named l ns e us a b env pair is free stands)

pub second_comes : (l : Lowered) (ns : List (ℕ × ℕ)) (e : ExprTree) (n : ℕ) → l.is_pair ≡ true → IsNameOf e l.row → look_for l.row ns ≡ None → n ≡ 1 → ComesTo l ns (λ env. and_then (eval e env) (one_thing (field n))) steps.B
second_comes l ns e n pair is free first us a b env stands =
    ap (λ (m : ℕ). and_then (eval e (with_lets l us a b ns env)) (one_thing (field m))) first
    ∙ ap (λ (o : Outcome Thing). and_then o (one_thing (field 1))) (row_named l ns e us a b env pair is free stands)

-- ---- two parts

pub same_self : (k : Kind) → same_kind k k ≡ true
same_self kinds.Bool = refl
same_self kinds.I8 = refl
same_self kinds.I16 = refl
same_self kinds.I32 = refl
same_self kinds.I64 = refl
same_self kinds.U8 = refl
same_self kinds.U16 = refl
same_self kinds.U32 = refl
same_self kinds.U64 = refl

operated_same : (op : BinOp) (k : Kind) (x y : ℤ) → operated op (number k x) (number k y) ≡ or_fault (option_map (number (answer_kind op k)) (operation op k x y))
operated_same op k x y = ap (λ (t : Bool). if t then or_fault (option_map (number (answer_kind op k)) (operation op k x y)) else stuck) (same_self k)

arithmetic_done : (op : BinOp) (k : Kind) (x y : ℤ) → is_arithmetic op ≡ true → or_fault (option_map (number (answer_kind op k)) (operation op k x y)) ≡ done (number k (made op k x y))
arithmetic_done ops.Add k x y h = refl
arithmetic_done ops.Sub k x y h = refl
arithmetic_done ops.Mul k x y h = refl
arithmetic_done ops.Div k x y h = cc
arithmetic_done ops.Rem k x y h = cc
arithmetic_done ops.Eq k x y h = cc
arithmetic_done ops.Ne k x y h = cc
arithmetic_done ops.Lt k x y h = cc
arithmetic_done ops.Le k x y h = cc
arithmetic_done ops.Gt k x y h = cc
arithmetic_done ops.Ge k x y h = cc

comparison_done : (op : BinOp) (k : Kind) (x y : ℤ) → is_comparison op ≡ true → or_fault (option_map (number (answer_kind op k)) (operation op k x y)) ≡ done (number kinds.Bool (made op k x y))
comparison_done ops.Add k x y h = cc
comparison_done ops.Sub k x y h = cc
comparison_done ops.Mul k x y h = cc
comparison_done ops.Div k x y h = cc
comparison_done ops.Rem k x y h = cc
comparison_done ops.Eq k x y h = refl
comparison_done ops.Ne k x y h = refl
comparison_done ops.Lt k x y h = refl
comparison_done ops.Le k x y h = refl
comparison_done ops.Gt k x y h = refl
comparison_done ops.Ge k x y h = refl

pub two_come : (o : Two) (c d : Outcome Thing) (t u : Thing) → c ≡ done t → d ≡ done u → and_then c (λ x. two_thing o x d) ≡ two_thing o t (done u)
two_come o c d t u e f = ap (λ (w : Outcome Thing). and_then w (λ x. two_thing o x d)) e ∙ ap (two_thing o t) f

pub arithmetic_comes : (l : Lowered) (ns : List (ℕ × ℕ)) (e f : ExprTree) (op other : BinOp) (i j : ℕ) → other ≡ op → is_arithmetic op ≡ true → IsNumberAt l ns e i → IsNumberAt l ns f j
    → ComesTo l ns (λ env. and_then (eval e env) (λ t. two_thing (binary op) t (eval f env))) (steps.Arith other i j)
arithmetic_comes l ns e f op other i j same h p q us a b env stands =
    let x : ℤ = at (all_answers l us a b) i in
    let y : ℤ = at (all_answers l us a b) j in
    two_come (binary op) (eval e (with_lets l us a b ns env)) (eval f (with_lets l us a b ns env)) (plain (number l.kind x)) (plain (number l.kind y)) (p us a b env stands) (q us a b env stands)
    ∙ ap (map_out plain) (operated_same op l.kind x y ∙ arithmetic_done op l.kind x y h)
    ∙ ap (λ (o : BinOp). done (plain (number l.kind (made o l.kind x y)))) (sym same)

pub comparison_comes : (l : Lowered) (ns : List (ℕ × ℕ)) (e f : ExprTree) (op other : BinOp) (i j : ℕ) → other ≡ op → is_comparison op ≡ true → IsNumberAt l ns e i → IsNumberAt l ns f j
    → ComesTo l ns (λ env. and_then (eval e env) (λ t. two_thing (binary op) t (eval f env))) (steps.Compare other i j)
comparison_comes l ns e f op other i j same h p q us a b env stands =
    let x : ℤ = at (all_answers l us a b) i in
    let y : ℤ = at (all_answers l us a b) j in
    two_come (binary op) (eval e (with_lets l us a b ns env)) (eval f (with_lets l us a b ns env)) (plain (number l.kind x)) (plain (number l.kind y)) (p us a b env stands) (q us a b env stands)
    ∙ ap (map_out plain) (operated_same op l.kind x y ∙ comparison_done op l.kind x y h)
    ∙ ap (λ (o : BinOp). done (plain (number kinds.Bool (made o l.kind x y)))) (sym same)

both_of : (t u : Bool) → two_thing and_form (plain (truth_value t)) (done (plain (truth_value u))) ≡ done (plain (truth_value (t && u)))
both_of true u = refl
both_of false u = refl

pub both_comes : (l : Lowered) (ns : List (ℕ × ℕ)) (e f : ExprTree) (i j : ℕ) → IsTruthAt l ns e i → IsTruthAt l ns f j → ComesTo l ns (λ env. and_then (eval e env) (λ t. two_thing and_form t (eval f env))) (steps.And i j)
both_comes l ns e f i j p q us a b env stands =
    let t : Bool = is_true (at (all_answers l us a b) i) in
    let u : Bool = is_true (at (all_answers l us a b) j) in
    two_come and_form (eval e (with_lets l us a b ns env)) (eval f (with_lets l us a b ns env)) (plain (truth_value t)) (plain (truth_value u)) (p us a b env stands) (q us a b env stands) ∙ both_of t u

either_of : (t u : Bool) → two_thing or_form (plain (truth_value t)) (done (plain (truth_value u))) ≡ done (plain (truth_value (t || u)))
either_of true u = refl
either_of false u = refl

pub either_comes : (l : Lowered) (ns : List (ℕ × ℕ)) (e f : ExprTree) (i j : ℕ) → IsTruthAt l ns e i → IsTruthAt l ns f j → ComesTo l ns (λ env. and_then (eval e env) (λ t. two_thing or_form t (eval f env))) (steps.Or i j)
either_comes l ns e f i j p q us a b env stands =
    let t : Bool = is_true (at (all_answers l us a b) i) in
    let u : Bool = is_true (at (all_answers l us a b) j) in
    two_come or_form (eval e (with_lets l us a b ns env)) (eval f (with_lets l us a b ns env)) (plain (truth_value t)) (plain (truth_value u)) (p us a b env stands) (q us a b env stands) ∙ either_of t u

-- ---- three parts

choice_of : (t : Bool) (k : Kind) (x y : ℤ) → three_thing select (plain (truth_value t)) (done (plain (number k x))) (done (plain (number k y))) ≡ done (plain (number k (if t then x else y)))
choice_of true k x y = refl
choice_of false k x y = refl

pub choice_comes : (l : Lowered) (ns : List (ℕ × ℕ)) (c e f : ExprTree) (m i j : ℕ) → IsTruthAt l ns c m → IsNumberAt l ns e i → IsNumberAt l ns f j
    → ComesTo l ns (λ env. and_then (eval c env) (λ t. three_thing select t (eval e env) (eval f env))) (steps.Select m i j)
choice_comes l ns c e f m i j o p q us a b env stands =
    let t : Bool = is_true (at (all_answers l us a b) m) in
    let x : ℤ = at (all_answers l us a b) i in
    let y : ℤ = at (all_answers l us a b) j in
    let inner : Env = with_lets l us a b ns env in
    ap (λ (w : Outcome Thing). and_then w (λ v. three_thing select v (eval e inner) (eval f inner))) (o us a b env stands)
    ∙ ap (λ (w : Outcome Thing). three_thing select (plain (truth_value t)) w (eval f inner)) (p us a b env stands)
    ∙ ap (three_thing select (plain (truth_value t)) (done (plain (number l.kind x)))) (q us a b env stands)
    ∙ choice_of t l.kind x y
