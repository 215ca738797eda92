-- What is known of a node that is a number is known of its parts.
use Rattle.std.proofs.Common.{◌≡◌, ◌∷◌, Bool, true, false, Result, Ok, Err, if◌then◌else◌, refl, sym, ap, ◌∙◌, subst}
use Rattle.weld_data.specs.declared.stop.Stop.{Stop}
use Rattle.weld_data.specs.declared.stop.Stop.TheVariants.{Fault, Memory}
use Rattle.weld_data.specs.declared.kind.Kind.{Kind}
use Rattle.weld_data.specs.declared.kind.Kind.TheVariants as kinds
use Rattle.weld_data.specs.declared.op.BinOp.{BinOp}
use Rattle.weld_data.specs.Value.{Value, number, list, struct, dict}
use Rattle.weld_tree.specs.declared.expr.TwoForm.{TwoForm}
use Rattle.weld_tree.specs.ExprView.{view_two}
use Rattle.weld_tree.specs.TypeTree.{TypeTree, scalar, vec, struct as tuple, dict as mapping, build}
use Rattle.weld_tree.specs.ExprTree.{ExprTree, At, leaf, one, two, three, many, let_in, loop, iterate, int, truth, chars, name, fresh, One, neg, not as not_of, cast, len, field, finish, started, Two, binary, and, or, look_up, key_exists, merge, Three, if_else, select, slice}
use Rattle.weld_builders.specs.Outcome.{Outcome, done, and_then, map_out}
use Rattle.weld_meaning.specs.Thing.{Thing, plain, building, several}
use Rattle.weld_meaning.specs.ThingType.{HasThing}
use Rattle.weld_meaning.specs.Typing.{Types, HasType, truth_type}
use Rattle.weld_meaning.specs.Evaluation.{Env, eval, operated, negated, contrary, cast_to, one_thing, two_thing, three_thing, truth_of, truth_value, chosen}
use Rattle.weld_eval.specs.Answers.{Answers}
use Rattle.weld_data.specs.Kind.{IsInteger}
use Rattle.weld_eval.specs.Fits.{AreOperands, IsIntegerNumber, IsTruth}
use Rattle.weld_eval.specs.Fit.{IsFit}
use Rattle.weld_eval.specs.ShortView.{view_short}
use Rattle.weld_eval.specs.declared.short.Short.{Short}
use Rattle.weld_eval.specs.Takes.{IsScalar, OneTakes}
use Rattle.weld_eval.proofs.Children.{gives}
use Rattle.weld_eval_forms.proofs.Shapes.{neg_number, not_truth as is_truth, cast_kind}
use Rattle.weld_eval_forms.proofs.TwoShapes.{operands}
use Rattle.weld_eval_plain.specs.Nodes.{IsEitherForm, decided}
use Rattle.weld_eval_plain.proofs.Nodes.{both_take, part_takes, second_decides, first_decides, first_of_either_is_truth, condition_is_truth}
use Rattle.weld_acts.specs.Act.{AreDirect}
use Rattle.weld_rows.specs.Numbers.{number_thing, numeric, numeric_two, IsNumberThing}
use Rattle.weld_rows.specs.Runs.{Runs, RunsNumber}

scalar_is : (t : TypeTree) (k : Kind) → t ≡ scalar k → IsScalar t
scalar_is t k e = subst IsScalar (sym e) tt

-- ---- an operator

pub left_runs : {d : Bool} (a : At) (op : BinOp) (e f : ExprTree) (env : Env) → RunsNumber d (two a (binary op) e f) env → RunsNumber d e env
left_runs a op e f env h = record { fit = record { names = h.fit.names; origins = h.fit.origins; named = h.fit.named; answer = h.fit.typed.0; typed = h.fit.typed.2; keeps = h.fit.keeps.0 }; direct = λ t. (h.direct t).0; scalar = scalar_is h.fit.typed.0 h.fit.typed.4.0 h.fit.typed.4.2 }

pub right_runs : {d : Bool} (a : At) (op : BinOp) (e f : ExprTree) (env : Env) → RunsNumber d (two a (binary op) e f) env → RunsNumber d f env
right_runs a op e f env h = record { fit = record { names = h.fit.names; origins = h.fit.origins; named = h.fit.named; answer = h.fit.typed.1; typed = h.fit.typed.3; keeps = h.fit.keeps.1 }; direct = λ t. (h.direct t).1; scalar = scalar_is h.fit.typed.1 h.fit.typed.4.0 h.fit.typed.4.3 }

pub are_operands : {d : Bool} (a : At) (op : BinOp) (e f : ExprTree) (env : Env) (v w : Value) → RunsNumber d (two a (binary op) e f) env → eval e env ≡ done (plain v) → eval f env ≡ done (plain w) → AreOperands op v w
are_operands a op e f env v w h p q = operands op (plain v) (plain w) v w (both_take a (binary op) e f env (two a (binary op) e f) (plain v) (plain w) refl h.fit p q) refl refl

binary_is : (a : At) (op : BinOp) (e f : ExprTree) (env : Env) (v w : Value) → eval e env ≡ done (plain v) → eval f env ≡ done (plain w) → eval (two a (binary op) e f) env ≡ map_out plain (operated op v w)
binary_is a op e f env v w p q = ap (λ o. and_then o (λ t. two_thing (binary op) t (eval f env))) p ∙ ap (two_thing (binary op) (plain v)) q

-- an answer as a value is one as a thing
answer_thing : (r : Result Short Stop) (o : Outcome Value) → Answers view_short r o → Answers number_thing r (map_out plain o)
answer_thing (Ok n) o h = ap (map_out plain) h
answer_thing (Err Fault) o h = ap (map_out plain) h
answer_thing (Err Memory) o h = tt

pub binary_answers : (r : Result Short Stop) (a : At) (op : BinOp) (e f : ExprTree) (env : Env) (v w : Value) → eval e env ≡ done (plain v) → eval f env ≡ done (plain w) → Answers view_short r (operated op v w) → Answers number_thing r (eval (two a (binary op) e f) env)
binary_answers r a op e f env v w p q h = subst (Answers number_thing r) (sym (binary_is a op e f env v w p q)) (answer_thing r (operated op v w) h)

-- ---- `&&` and `||`

either_types : (a : At) (o : Two) (e f : ExprTree) (env : Env) → IsEitherForm o → (h : IsFit (two a o e f) env) → (h.typed.0 ≡ truth_type) × (h.typed.1 ≡ truth_type)
either_types a (binary op) e f env k h = absurd k
either_types a and e f env k h = (h.typed.4.0, h.typed.4.1)
either_types a or e f env k h = (h.typed.4.0, h.typed.4.1)
either_types a look_up e f env k h = absurd k
either_types a key_exists e f env k h = absurd k
either_types a merge e f env k h = absurd k

pub either_first : {d : Bool} (a : At) (o : Two) (e f : ExprTree) (env : Env) → IsEitherForm o → RunsNumber d (two a o e f) env → RunsNumber d e env
either_first a o e f env k h = record { fit = record { names = h.fit.names; origins = h.fit.origins; named = h.fit.named; answer = h.fit.typed.0; typed = h.fit.typed.2; keeps = h.fit.keeps.0 }; direct = λ t. (h.direct t).0; scalar = scalar_is h.fit.typed.0 kinds.Bool (either_types a o e f env k h.fit).0 }

pub either_second : {d : Bool} (a : At) (o : Two) (e f : ExprTree) (env : Env) → IsEitherForm o → RunsNumber d (two a o e f) env → RunsNumber d f env
either_second a o e f env k h = record { fit = record { names = h.fit.names; origins = h.fit.origins; named = h.fit.named; answer = h.fit.typed.1; typed = h.fit.typed.3; keeps = h.fit.keeps.1 }; direct = λ t. (h.direct t).1; scalar = scalar_is h.fit.typed.1 kinds.Bool (either_types a o e f env k h.fit).1 }

pub either_truth : {d : Bool} (a : At) (o : Two) (e f : ExprTree) (env : Env) (v : Value) → IsEitherForm o → RunsNumber d (two a o e f) env → eval e env ≡ done (plain v) → IsTruth v
either_truth a o e f env v k h q = first_of_either_is_truth a o e f env (two a o e f) (plain v) v refl k h.fit q refl

pub either_goes_on : {d : Bool} (a : At) (o : TwoForm) (e f : ExprTree) (env : Env) (v : Value) (c : Bool) → IsEitherForm (view_two o) → RunsNumber d (two a (view_two o) e f) env → eval e env ≡ done (plain v) → truth_of v ≡ done c → decided o c ≡ false → eval (two a (view_two o) e f) env ≡ eval f env
either_goes_on a o e f env v c k h q t d = second_decides a o e f env (two a (view_two o) e f) (plain v) v c refl k h.fit q refl t d

pub either_ends : (a : At) (o : TwoForm) (e f : ExprTree) (env : Env) (v : Value) (c : Bool) → IsEitherForm (view_two o) → eval e env ≡ done (plain v) → truth_of v ≡ done c → decided o c ≡ true → eval (two a (view_two o) e f) env ≡ done (plain (truth_value c))
either_ends a o e f env v c k q t d = first_decides a o e f env (two a (view_two o) e f) (plain v) v c refl k q refl t d

-- ---- a form of one part

pub neg_part_runs : {d : Bool} (a : At) (e : ExprTree) (env : Env) → RunsNumber d (one a neg e) env → RunsNumber d e env
neg_part_runs a e env r = record { fit = record { names = r.fit.names; origins = r.fit.origins; named = r.fit.named; answer = r.fit.typed.0; typed = r.fit.typed.1; keeps = r.fit.keeps.0 }; direct = r.direct; scalar = scalar_is r.fit.typed.0 r.fit.typed.2.0 r.fit.typed.2.2 }

pub not_part_runs : {d : Bool} (a : At) (e : ExprTree) (env : Env) → RunsNumber d (one a not_of e) env → RunsNumber d e env
not_part_runs a e env r = record { fit = record { names = r.fit.names; origins = r.fit.origins; named = r.fit.named; answer = r.fit.typed.0; typed = r.fit.typed.1; keeps = r.fit.keeps.0 }; direct = r.direct; scalar = scalar_is r.fit.typed.0 kinds.Bool r.fit.typed.2.0 }

pub cast_part_runs : {d : Bool} (a : At) (k : Kind) (e : ExprTree) (env : Env) → RunsNumber d (one a (cast k) e) env → RunsNumber d e env
cast_part_runs a k e env r = record { fit = record { names = r.fit.names; origins = r.fit.origins; named = r.fit.named; answer = r.fit.typed.0; typed = r.fit.typed.1; keeps = r.fit.keeps.0 }; direct = r.direct; scalar = scalar_is r.fit.typed.0 r.fit.typed.2.0 r.fit.typed.2.2 }

takes : {d : Bool} (a : At) (o : One) (e : ExprTree) (env : Env) (v : Value) → RunsNumber d (one a o e) env → eval e env ≡ done (plain v) → OneTakes o (plain v)
takes a o e env v h q = part_takes a o e env (one a o e) (plain v) refl h.fit q

pub neg_integer : {d : Bool} (a : At) (e : ExprTree) (env : Env) (v : Value) → RunsNumber d (one a neg e) env → eval e env ≡ done (plain v) → IsIntegerNumber v
neg_integer a e env v h q = neg_number (plain v) v (takes a neg e env v h q) refl

pub not_truth : {d : Bool} (a : At) (e : ExprTree) (env : Env) (v : Value) → RunsNumber d (one a not_of e) env → eval e env ≡ done (plain v) → IsTruth v
not_truth a e env v h q = is_truth (plain v) v (takes a not_of e env v h q) refl

pub cast_integer : {d : Bool} (a : At) (k : Kind) (e : ExprTree) (env : Env) (v : Value) → RunsNumber d (one a (cast k) e) env → eval e env ≡ done (plain v) → IsInteger k
cast_integer a k e env v h q = cast_kind k (plain v) (takes a (cast k) e env v h q)

pub neg_is : (a : At) (e : ExprTree) (env : Env) (v w : Value) → eval e env ≡ done (plain v) → negated v ≡ done w → eval (one a neg e) env ≡ done (plain w)
neg_is a e env v w q r = ap (λ o. and_then o (one_thing neg)) q ∙ ap (map_out plain) r

pub not_is : (a : At) (e : ExprTree) (env : Env) (v w : Value) → eval e env ≡ done (plain v) → contrary v ≡ done w → eval (one a not_of e) env ≡ done (plain w)
not_is a e env v w q r = ap (λ o. and_then o (one_thing not_of)) q ∙ ap (map_out plain) r

pub cast_is : (a : At) (k : Kind) (e : ExprTree) (env : Env) (v w : Value) → eval e env ≡ done (plain v) → cast_to k v ≡ done w → eval (one a (cast k) e) env ≡ done (plain w)
cast_is a k e env v w q r = ap (λ o. and_then o (one_thing (cast k))) q ∙ ap (map_out plain) r

-- ---- an `if`

pub condition_runs : {d : Bool} (a : At) (c e f : ExprTree) (env : Env) → IsFit (three a if_else c e f) env → (d ≡ true → AreDirect (three a if_else c e f)) → RunsNumber d c env
condition_runs a c e f env h g = record { fit = record { names = h.names; origins = h.origins; named = h.named; answer = h.typed.0; typed = h.typed.3; keeps = h.keeps.0 }; direct = λ t. (g t).0; scalar = scalar_is h.typed.0 kinds.Bool h.typed.6.0 }

pub then_runs : {d : Bool} (a : At) (c e f : ExprTree) (env : Env) → RunsNumber d (three a if_else c e f) env → RunsNumber d e env
then_runs a c e f env h = record { fit = record { names = h.fit.names; origins = h.fit.origins; named = h.fit.named; answer = h.fit.typed.1; typed = h.fit.typed.4; keeps = h.fit.keeps.1 }; direct = λ t. (h.direct t).1; scalar = subst IsScalar (sym h.fit.typed.6.1) h.scalar }

pub otherwise_runs : {d : Bool} (a : At) (c e f : ExprTree) (env : Env) → RunsNumber d (three a if_else c e f) env → RunsNumber d f env
otherwise_runs a c e f env h = record { fit = record { names = h.fit.names; origins = h.fit.origins; named = h.fit.named; answer = h.fit.typed.2; typed = h.fit.typed.5; keeps = h.fit.keeps.2 }; direct = λ t. (h.direct t).2; scalar = subst IsScalar (sym h.fit.typed.6.2) h.scalar }

pub if_is_truth : (a : At) (c e f : ExprTree) (env : Env) (v : Value) → IsFit (three a if_else c e f) env → eval c env ≡ done (plain v) → IsTruth v
if_is_truth a c e f env v h q = condition_is_truth a c e f env (three a if_else c e f) (plain v) v refl h q refl

if_chosen : (a : At) (c e f : ExprTree) (env : Env) (v : Value) → eval c env ≡ done (plain v) → eval (three a if_else c e f) env ≡ chosen (plain v) (eval e env) (eval f env)
if_chosen a c e f env v q = ap (λ u. and_then u (λ x. three_thing if_else x (eval e env) (eval f env))) q

chosen_true : (v : Value) (x y : Outcome Thing) → truth_of v ≡ done true → chosen (plain v) x y ≡ x
chosen_true v x y t = ap (λ u. and_then u (λ (c : Bool). if c then x else y)) t

chosen_false : (v : Value) (x y : Outcome Thing) → truth_of v ≡ done false → chosen (plain v) x y ≡ y
chosen_false v x y t = ap (λ u. and_then u (λ (c : Bool). if c then x else y)) t

pub if_is_then : (a : At) (c e f : ExprTree) (env : Env) (v : Value) → eval c env ≡ done (plain v) → truth_of v ≡ done true → eval (three a if_else c e f) env ≡ eval e env
if_is_then a c e f env v q t = if_chosen a c e f env v q ∙ chosen_true v (eval e env) (eval f env) t

pub if_is_otherwise : (a : At) (c e f : ExprTree) (env : Env) (v : Value) → eval c env ≡ done (plain v) → truth_of v ≡ done false → eval (three a if_else c e f) env ≡ eval f env
if_is_otherwise a c e f env v q t = if_chosen a c e f env v q ∙ chosen_false v (eval e env) (eval f env) t

-- ---- numbers in values

scalar_number : (t : TypeTree) (x : Thing) → IsScalar t → HasThing x t → IsNumberThing x
scalar_number (scalar k) (plain (number m x)) s h = tt
scalar_number (scalar k) (plain (list vs)) s h = absurd h
scalar_number (scalar k) (plain (struct vs)) s h = absurd h
scalar_number (scalar k) (plain (dict es)) s h = absurd h
scalar_number (scalar k) (building p) s h = absurd h
scalar_number (scalar k) (several ts) s h = absurd h
scalar_number (vec t) x s h = absurd s
scalar_number (tuple ts) x s h = absurd s
scalar_number (mapping k v) x s h = absurd s
scalar_number (build b) x s h = absurd s

pub number_given : {d : Bool} (n : ExprTree) (env : Env) (x : Thing) → RunsNumber d n env → eval n env ≡ done x → IsNumberThing x
number_given n env x h q = scalar_number h.fit.answer x h.scalar (gives n h.fit.names h.fit.origins env h.fit.answer x h.fit.named h.fit.typed q)

-- ---- forms that are numbers by their looks

pub numeric_scalar : (n : ExprTree) (names : Types) (t : TypeTree) → numeric n ≡ true → HasType n names t → IsScalar t
numeric_scalar (leaf a (int k x)) names t e h = scalar_is t k h.2
numeric_scalar (leaf a (truth b)) names t e h = scalar_is t kinds.Bool h
numeric_scalar (leaf a (chars bs)) names t e h = let no : ⊥ = cc in absurd no
numeric_scalar (leaf a (name s)) names t e h = let no : ⊥ = cc in absurd no
numeric_scalar (leaf a (fresh b)) names t e h = let no : ⊥ = cc in absurd no
numeric_scalar (one a neg f) names t e h = scalar_is t h.2.0 h.2.3
numeric_scalar (one a not_of f) names t e h = scalar_is t kinds.Bool h.2.1
numeric_scalar (one a (cast k) f) names t e h = scalar_is t k h.2.3
numeric_scalar (one a len f) names t e h = scalar_is t kinds.I64 h.2.2
numeric_scalar (one a (field m) f) names t e h = let no : ⊥ = cc in absurd no
numeric_scalar (one a finish f) names t e h = let no : ⊥ = cc in absurd no
numeric_scalar (one a (started b) f) names t e h = let no : ⊥ = cc in absurd no
numeric_scalar (two a (binary op) f g) names t e h = scalar_is t _ h.4.4
numeric_scalar (two a and f g) names t e h = scalar_is t kinds.Bool h.4.2
numeric_scalar (two a or f g) names t e h = scalar_is t kinds.Bool h.4.2
numeric_scalar (two a look_up f g) names t e h = let no : ⊥ = cc in absurd no
numeric_scalar (two a key_exists f g) names t e h = scalar_is t kinds.Bool h.4.2
numeric_scalar (two a merge f g) names t e h = let no : ⊥ = cc in absurd no
numeric_scalar (three a if_else c f g) names t e h = subst IsScalar h.6.1 (numeric_scalar f names h.1 e h.4)
numeric_scalar (three a select c f g) names t e h = subst IsScalar h.6.1 (numeric_scalar f names h.1 e h.4)
numeric_scalar (three a slice c f g) names t e h = let no : ⊥ = cc in absurd no
numeric_scalar (many a o es) names t e h = let no : ⊥ = cc in absurd no
numeric_scalar (let_in a b f g) names t e h = numeric_scalar g ((b.sym.0, h.0) ∷ names) t e h.3
numeric_scalar (loop a ls f b n x g) names t e h = let no : ⊥ = cc in absurd no
numeric_scalar (iterate a f b g) names t e h = let no : ⊥ = cc in absurd no

pub numeric_runs : {d : Bool} (n : ExprTree) (env : Env) → numeric n ≡ true → Runs d n env → RunsNumber d n env
numeric_runs n env e h = record { fit = h.fit; direct = h.direct; scalar = numeric_scalar n h.fit.names h.fit.answer e h.fit.typed }

pub number_runs : {d : Bool} (n : ExprTree) (env : Env) → RunsNumber d n env → Runs d n env
number_runs n env h = record { fit = h.fit; direct = h.direct }

pub either_runs : {d : Bool} (a : At) (o : Two) (e f : ExprTree) (env : Env) → IsEitherForm o → Runs d (two a o e f) env → RunsNumber d (two a o e f) env
either_runs a o e f env k h = numeric_runs (two a o e f) env (either_numeric o k) h
  where
    either_numeric : (p : Two) → IsEitherForm p → numeric_two p ≡ true
    either_numeric (binary op) j = refl
    either_numeric and j = refl
    either_numeric or j = refl
    either_numeric look_up j = absurd j
    either_numeric key_exists j = absurd j
    either_numeric merge j = absurd j

pub choice_condition_runs : {d : Bool} (a : At) (c e f : ExprTree) (env : Env) → RunsNumber d (three a if_else c e f) env → RunsNumber d c env
choice_condition_runs a c e f env h = condition_runs a c e f env h.fit h.direct

pub value_condition_runs : {d : Bool} (a : At) (c e f : ExprTree) (env : Env) → Runs d (three a if_else c e f) env → RunsNumber d c env
value_condition_runs a c e f env h = condition_runs a c e f env h.fit h.direct

pub choice_is_truth : {d : Bool} (a : At) (c e f : ExprTree) (env : Env) (v : Value) → RunsNumber d (three a if_else c e f) env → eval c env ≡ done (plain v) → IsTruth v
choice_is_truth a c e f env v h q = if_is_truth a c e f env v h.fit q

pub value_is_truth : {d : Bool} (a : At) (c e f : ExprTree) (env : Env) (v : Value) → Runs d (three a if_else c e f) env → eval c env ≡ done (plain v) → IsTruth v
value_is_truth a c e f env v h q = if_is_truth a c e f env v h.fit q
