-- What the steps of the evaluator owe, in the words of the code.
use Rattle.std.proofs.Common.{◌≡◌, ℕ, List, ◌∷◌, slice_get, Some, Result, Ok, Err, refl, sym, ap, ◌∙◌, subst}
use Rattle.std.proofs.Common.{inl, inr}
use Rattle.std.specs.Prelude.{OnOk}
use Rattle.weld_data.specs.Value.{Value}
use Rattle.weld_tree.specs.TypeTree.{TypeTree, build}
use Rattle.weld_meaning.specs.ThingType.{HasThing}
use Rattle.weld_meaning.specs.Typing.{TwoHas, ThreeHas}
use Rattle.weld_meaning.proofs.Good.{IsValueType, value_of_thing, free_value_type}
use Rattle.weld_eval.proofs.Children.{gives}
use Rattle.weld_eval.specs.Takes.{IsStrict}
use Rattle.weld_eval_forms.specs.FormTakes.{AreAllEvaluated}
use Rattle.weld_data.specs.declared.stop.Stop.{Stop}
use Rattle.weld_data.specs.declared.stop.Stop.TheVariants.{Fault, Memory}
use Rattle.weld_tree.specs.declared.binder.Binder.{Binder}
use Rattle.weld_tree.specs.ExprTree.{ExprTree, At, LegTrees, two, three, loop, Two, binary, and, or, look_up, key_exists, merge, Three, if_else, select, slice}
use Rattle.weld_builders.specs.Outcome.{Outcome, done, fault, and_then}
use Rattle.weld_meaning.specs.Thing.{Thing, plain, building, several, bare_thing, after_thing}
use Rattle.weld_meaning.specs.Evaluation.{whole_number, Env, Row, eval, rows_of, two_thing, three_thing}
use Rattle.weld_eval.specs.Answers.{Answers, OnFault}
use Rattle.weld_eval.specs.Fits.{IsTruth}
use Rattle.weld_eval.specs.Fit.{IsFit}
use Rattle.weld_eval.specs.Takes.{IsPlain}
use Rattle.weld_eval_forms.specs.Legs.{or_none, rows_in, RowsAnswer}
use Rattle.weld_eval_plain.specs.Nodes.{IsEither, IsIf, IsBoth, IsThree}
use Rattle.weld_eval_plain.specs.Rows.{Joins, BodyAnswer, HoldsRow, HoldsRows, LegsAre, RunsOn, RowAnswer, row_step}
use Rattle.weld_eval_plain.proofs.Nodes.{first_of_either_is_plain, first_of_either_is_truth, condition_is_plain, condition_is_truth}
use Rattle.weld_eval_plain.proofs.Rows.{row_merges, row_makes, row_faults, rows_start}

-- what stops a part stops the whole, where its fault is one of the whole
pub stops : {T A U B : Type 0} (v : T → A) (w : U → B) (s : Stop) (o : Outcome A) (p : Outcome B) → (o ≡ fault → p ≡ fault) → Answers v (Err s) o → Answers w (Err s) p
stops v w Fault o p k h = k h
stops v w Memory o p k h = tt

pub stops_row : {U B : Type 0} (T : Type 0) (w : U → B) (s : Stop) (p : Outcome B) (n : ExprTree) (env : Env) (r : Row) (x y : Thing) → (row_step n env r x ≡ fault → p ≡ fault) → RowAnswer {T = T} (Err s) n env r x y → Answers w (Err s) p
stops_row T w Fault p n env r x y k h = k h
stops_row T w Memory p n env r x y k h = tt

-- ---- `&&`, `||` and `if`

pub either_plain : (a : At) (o : Two) (e f : ExprTree) (env : Env) (n : ExprTree) (x : Thing) → n ≡ two a o e f → IsEither n → IsFit n env → eval e env ≡ done x → IsPlain x
either_plain a o e f env n x is k h q = first_of_either_is_plain a o e f env n x is (subst (λ m. IsEither m) is k) h q

pub either_truth : (a : At) (o : Two) (e f : ExprTree) (env : Env) (n : ExprTree) (x : Thing) (v : Value) → n ≡ two a o e f → IsEither n → IsFit n env → eval e env ≡ done x → x ≡ plain v → IsTruth v
either_truth a o e f env n x v is k h q same = first_of_either_is_truth a o e f env n x v is (subst (λ m. IsEither m) is k) h q same

if_plain : (a : At) (o : Three) (c e f : ExprTree) (env : Env) (x : Thing) → IsIf (three a o c e f) → IsFit (three a o c e f) env → eval c env ≡ done x → IsPlain x
if_plain a if_else c e f env x k h q = condition_is_plain a c e f env (three a if_else c e f) x refl h q
if_plain a select c e f env x k h q = absurd k
if_plain a slice c e f env x k h q = absurd k

if_truth : (a : At) (o : Three) (c e f : ExprTree) (env : Env) (x : Thing) (v : Value) → IsIf (three a o c e f) → IsFit (three a o c e f) env → eval c env ≡ done x → x ≡ plain v → IsTruth v
if_truth a if_else c e f env x v k h q same = condition_is_truth a c e f env (three a if_else c e f) x v refl h q same
if_truth a select c e f env x v k h q same = absurd k
if_truth a slice c e f env x v k h q same = absurd k

pub chooses_plain : (a : At) (o : Three) (c e f : ExprTree) (env : Env) (n : ExprTree) (x : Thing) → n ≡ three a o c e f → IsIf n → IsFit n env → eval c env ≡ done x → IsPlain x
chooses_plain a o c e f env n x is k h q = if_plain a o c e f env x (subst (λ m. IsIf m) is k) (subst (λ m. IsFit m env) is h) q

pub chooses_truth : (a : At) (o : Three) (c e f : ExprTree) (env : Env) (n : ExprTree) (x : Thing) (v : Value) → n ≡ three a o c e f → IsIf n → IsFit n env → eval c env ≡ done x → x ≡ plain v → IsTruth v
chooses_truth a o c e f env n x v is k h q same = if_truth a o c e f env x v (subst (λ m. IsIf m) is k) (subst (λ m. IsFit m env) is h) q same

-- ---- strict forms

-- a fault of the second part is one of the whole
strict_fault : (o : Two) (u v t : TypeTree) (x : Thing) → IsStrict o → TwoHas o u v t → HasThing x u → two_thing o x fault ≡ fault
strict_fault (binary op) u v t x k h g = let p = value_of_thing u x (subst IsValueType (sym h.2) tt) g in ap (λ y. two_thing (binary op) y fault) p.1
strict_fault and u v t x k h g = absurd k
strict_fault or u v t x k h g = absurd k
strict_fault look_up u v t x k (inl h) g = let p = value_of_thing u x (subst IsValueType (sym h.0) tt) g in ap (λ y. two_thing look_up y fault) p.1
strict_fault look_up u v t x k (inr h) g = let p = value_of_thing u x (subst IsValueType (sym h) tt) g in ap (λ y. two_thing look_up y fault) p.1
strict_fault key_exists u v t x k h g = let p = value_of_thing u x (subst IsValueType (sym h.1) tt) g in ap (λ y. two_thing key_exists y fault) p.1
strict_fault merge u v t x k h g = by x (subst (HasThing x) h.1 g)
  where
    by : (y : Thing) → HasThing y (build h.0) → two_thing merge y fault ≡ fault
    by (plain w) f = absurd f
    by (building p) f = refl
    by (several ts) f = absurd f

both_fault : (a : At) (o : Two) (e f : ExprTree) (env : Env) (x : Thing) → IsBoth (two a o e f) → IsFit (two a o e f) env → eval e env ≡ done x → eval f env ≡ fault → eval (two a o e f) env ≡ fault
both_fault a o e f env x k h q r =
    ap (λ u. and_then u (λ t. two_thing o t (eval f env))) q ∙ ap (two_thing o x) r ∙ strict_fault o h.typed.0 h.typed.1 h.answer x k h.typed.4 (gives e h.names h.origins env h.typed.0 x h.named h.typed.2 q)

pub second_faults : (a : At) (o : Two) (e f : ExprTree) (env : Env) (n : ExprTree) (x : Thing) → n ≡ two a o e f → IsBoth n → IsFit n env → eval e env ≡ done x → eval f env ≡ fault → eval n env ≡ fault
second_faults a o e f env n x is k h q r = ap (λ m. eval m env) is ∙ both_fault a o e f env x (subst (λ m. IsBoth m) is k) (subst (λ m. IsFit m env) is h) q r

three_fault : (o : Three) (u v w t : TypeTree) (x : Thing) (p : Outcome Thing) → AreAllEvaluated o → ThreeHas o u v w t → HasThing x u → three_thing o x fault p ≡ fault
three_fault if_else u v w t x p k h g = absurd k
three_fault select u v w t x p k h g = let q = value_of_thing u x (subst IsValueType (sym h.0) tt) g in ap (λ y. three_thing select y fault p) q.1
three_fault slice u v w t x p k h g = let q = value_of_thing u x (subst IsValueType (sym h.1) tt) g in ap (λ y. three_thing slice y fault p) q.1

last_fault : (o : Three) (u v w t : TypeTree) (x y : Thing) → AreAllEvaluated o → ThreeHas o u v w t → HasThing x u → HasThing y v → three_thing o x (done y) fault ≡ fault
last_fault if_else u v w t x y k h f g = absurd k
last_fault select u v w t x y k h f g =
    let q = value_of_thing u x (subst IsValueType (sym h.0) tt) f in
    let r = value_of_thing v y (subst IsValueType (sym h.1) (free_value_type t h.3)) g in
    ap (λ z. three_thing select z (done y) fault) q.1 ∙ ap (λ z. three_thing select (plain q.0) (done z) fault) r.1
last_fault slice u v w t x y k h f g =
    let q = value_of_thing u x (subst IsValueType (sym h.1) tt) f in
    let r = value_of_thing v y (subst IsValueType (sym h.2) tt) g in
    ap (λ z. three_thing slice z (done y) fault) q.1 ∙ ap (λ z. three_thing slice (plain q.0) (done z) fault) r.1

middle_fault : (a : At) (o : Three) (c e f : ExprTree) (env : Env) (x : Thing) → IsThree (three a o c e f) → IsFit (three a o c e f) env → eval c env ≡ done x → eval e env ≡ fault → eval (three a o c e f) env ≡ fault
middle_fault a o c e f env x k h q r =
    ap (λ u. and_then u (λ t. three_thing o t (eval e env) (eval f env))) q ∙ ap (λ u. three_thing o x u (eval f env)) r
    ∙ three_fault o h.typed.0 h.typed.1 h.typed.2 h.answer x (eval f env) k h.typed.6 (gives c h.names h.origins env h.typed.0 x h.named h.typed.3 q)

pub middle_faults : (a : At) (o : Three) (c e f : ExprTree) (env : Env) (n : ExprTree) (x : Thing) → n ≡ three a o c e f → IsThree n → IsFit n env → eval c env ≡ done x → eval e env ≡ fault → eval n env ≡ fault
middle_faults a o c e f env n x is k h q r = ap (λ m. eval m env) is ∙ middle_fault a o c e f env x (subst (λ m. IsThree m) is k) (subst (λ m. IsFit m env) is h) q r

third_fault : (a : At) (o : Three) (c e f : ExprTree) (env : Env) (x y : Thing) → IsThree (three a o c e f) → IsFit (three a o c e f) env → eval c env ≡ done x → eval e env ≡ done y → eval f env ≡ fault → eval (three a o c e f) env ≡ fault
third_fault a o c e f env x y k h q r s =
    ap (λ u. and_then u (λ t. three_thing o t (eval e env) (eval f env))) q ∙ ap (λ u. three_thing o x u (eval f env)) r ∙ ap (λ u. three_thing o x (done y) u) s
    ∙ last_fault o h.typed.0 h.typed.1 h.typed.2 h.answer x y k h.typed.6 (gives c h.names h.origins env h.typed.0 x h.named h.typed.3 q) (gives e h.names h.origins env h.typed.1 y h.named h.typed.4 r)

pub third_faults : (a : At) (o : Three) (c e f : ExprTree) (env : Env) (n : ExprTree) (x y : Thing) → n ≡ three a o c e f → IsThree n → IsFit n env → eval c env ≡ done x → eval e env ≡ done y → eval f env ≡ fault → eval n env ≡ fault
third_faults a o c e f env n x y is k h q r s = ap (λ m. eval m env) is ∙ third_fault a o c e f env x y (subst (λ m. IsThree m) is k) (subst (λ m. IsFit m env) is h) q r s

-- ---- rows

pub row_env : (x n b : ℕ) (row count own bare : Thing) (v : Value) (outer middle inner env : Env) → inner ≡ (x, row) ∷ middle → middle ≡ (n, count) ∷ outer → outer ≡ (b, own) ∷ env → count ≡ plain v → own ≡ bare
    → inner ≡ (x, row) ∷ (n, plain v) ∷ (b, bare) ∷ env
row_env x n b row count own bare v outer middle inner env p q r s t =
    p ∙ ap (λ g. (x, row) ∷ g) (q ∙ ap (λ g. (n, count) ∷ g) (r ∙ ap (λ o. (b, o) ∷ env) t) ∙ ap (λ c. (n, c) ∷ (b, bare) ∷ env) s)

-- the rows of a loop over legs that are evaluated
pub over_start : (a : At) (ls : LegTrees) (e : ExprTree) (b n x : Binder) (f : ExprTree) (env : Env) (m : ExprTree) (lists : List (List Value)) (s : Thing) (count : ℕ)
    → m ≡ loop a ls e b n x f → IsFit m env → LegsAre m env lists → RowsAnswer (Ok count) lists → eval e env ≡ done s → HoldsRows m env lists s count
over_start a ls e b n x f env m lists s count is h q r u =
    rows_start a ls e b n x f env m lists (rows_in lists) s count is h (subst (λ k. LegsAre k env lists) is q) r.0 r.1 u

rows_of_same : (rows : List Value) (lists : List (List Value)) → rows_of lists ≡ done rows → rows_in lists ≡ rows
rows_of_same rows lists q = ap or_none q

pub row_there : (n : ExprTree) (env : Env) (lists : List (List Value)) (count : ℕ) (start : Thing) (i : ℕ) (s : Thing) (v : Value) → (h : RunsOn n env lists count start i s) → slice_get (rows_in lists) i ≡ Some v → slice_get h.holds.rows i ≡ Some v
row_there n env lists count start i s v h q = sym (ap (λ l. slice_get l i) (rows_of_same h.holds.rows lists h.holds.are)) ∙ q

pub body_joins : (a : At) (ls : LegTrees) (e : ExprTree) (b n x : Binder) (f : ExprTree) (env : Env) (m : ExprTree) (i : ℕ) (s : Thing) (v : Value) → m ≡ loop a ls e b n x f → HoldsRow m env s v
    → Joins f ((x.sym.0, plain v) ∷ (n.sym.0, plain (whole_number i)) ∷ (b.sym.0, bare_thing s) ∷ env) s
body_joins a ls e b n x f env m i s v is k = record { joins = λ d q. row_merges a ls e b n x f env m i s d v is k q }

pub row_by_body : {T : Type 0} (r : Result T Stop) (a : At) (ls : LegTrees) (e : ExprTree) (b n x : Binder) (f : ExprTree) (env : Env) (m : ExprTree) (i : ℕ) (s t : Thing) (v : Value) → m ≡ loop a ls e b n x f → HoldsRow m env s v
    → BodyAnswer r f ((x.sym.0, plain v) ∷ (n.sym.0, plain (whole_number i)) ∷ (b.sym.0, bare_thing s) ∷ env) s t → RowAnswer r m env (i, v) s t
row_by_body (Ok y) a ls e b n x f env m i s t v is k h = row_makes a ls e b n x f env m i s h.0 t v is k h.1 h.2
row_by_body (Err Fault) a ls e b n x f env m i s t v is k h = row_faults a ls e b n x f env m i s v is k h
row_by_body (Err Memory) a ls e b n x f env m i s t v is k h = tt

pub appended : {T : Type 0} (r : Result T Stop) (e : ExprTree) (env : Env) (s d t : Thing) → eval e env ≡ done d → OnOk r (t ≡ after_thing s d) → OnFault r ⊥ → BodyAnswer r e env s t
appended (Ok x) e env s d t q h g = (d, q, h)
appended (Err Fault) e env s d t q h g = absurd g
appended (Err Memory) e env s d t q h g = tt
