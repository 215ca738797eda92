-- The steps of an expression lead to what it means.
use Rattle.std.proofs.Common.{◌≡◌, ℕ, suc, ◌+◌, ◌==◌, Bool, true, false, if◌then◌else◌, pos, List, [], ◌∷◌, ◌++◌, length, refl, sym, ap, ◌∙◌, subst, append_assoc, arith}
use Rattle.std.specs.Ordering.{int_eq}
use Rattle.weld_data.specs.declared.kind.Kind.TheVariants as kinds
use Rattle.weld_data.specs.Value.{Value, number, list, struct, dict}
use Rattle.weld_tree.specs.declared.binder.Binder.{Binder}
use Rattle.weld_tree.specs.declared.expr.TwoForm.{TwoForm}
use Rattle.weld_tree.specs.declared.expr.TwoForm.TheVariants as forms
use Rattle.weld_tree.specs.TypeTree.{no_types, more_types}
use Rattle.weld_tree.specs.ExprView.{view_two}
use Rattle.weld_tree.specs.ExprTree.{ExprTree, At, leaf, one, two, three, many, let_in, loop, iterate, ExprTrees, no_exprs, more_exprs, LegTree, whole, strided, LegTrees, no_legs, more_legs, One, Two, binary, and, or, look_up, key_exists, merge, Three, if_else, select, slice, Many}
use Rattle.weld_tree.specs.Program.{loops, loops_in_legs}
use Rattle.weld_builders.specs.Outcome.{Outcome, done, fault, stuck, and_then, map_out}
use Rattle.weld_meaning.specs.Thing.{Thing, plain, building, several, Things, no_things, more_things, first_of, rest_of}
use Rattle.weld_meaning.specs.ThingType.{HasThing}
use Rattle.weld_meaning.specs.Typing.{truth_type}
use Rattle.weld_meaning.specs.Meaning.{GivesOrFaults}
use Rattle.weld_meaning.specs.Evaluation.{Env, truth_of, truth_value, chosen, value_out, elements_of, turns, turn_limit, strided_of, rows_of, run, number_from, eval, eval_all, eval_leg, eval_legs, one_thing, two_thing, three_thing, many_thing}
use Rattle.weld_meaning.proofs.Good.{by_number}
use Rattle.weld_meaning.proofs.NeverStuck.{never_stuck}
use Rattle.weld_eval.specs.Fit.{IsFit, AreFit, LegIsFit, LegsAreFit}
use Rattle.weld_eval.specs.Takes.{IsStrict, IsPlain, row_of}
use Rattle.weld_eval.proofs.Children.{key_laws, gives, fit_one, one_takes, fit_first_of_two, fit_second_of_two, two_takes, fit_first_of_three, fit_second_of_three, fit_third_of_three, three_takes, fit_many, fit_value, fit_let_body, fit_state, fit_builder, fit_legs, fit_first_of_all, fit_rest_of_all, fit_first_leg, fit_rest_of_legs}
use Rattle.weld_eval_forms.specs.FormTakes.{AreAllEvaluated}
use Rattle.weld_eval_forms.specs.Legs.{IsVector, or_none, elements_of_thing, strided_elements}
use Rattle.weld_eval_plain.specs.Nodes.{IsEitherForm, decided}
use Rattle.weld_eval_plain.proofs.Nodes.{second_decides, first_decides}
use Rattle.weld_eval_plain.proofs.Parts.{parts_take}
use Rattle.weld_eval_plain.proofs.Steps.{second_faults, middle_faults, third_faults}
use Rattle.weld_eval_plain.proofs.Legs.{whole_fits, whole_is_vector, vector_fits, start_fits, end_fits, stride_fits, vector_is, start_is, end_is, stride_is, vector_faults, start_faults, end_faults, stride_faults, legs_good}
use Rattle.weld_eval_plain.proofs.Rows.{loop_legs_fault}
use Rattle.weld_eval_plain.proofs.Turns.{state_is_plain, state_holds, turns_start}
use Rattle.weld_eval_plain.specs.Turns.{turns_from}
use Rattle.weld_plan.specs.StepTree.{StepTree, compute, apply_one, apply_two, apply_three, apply_many, decide, unless, skip, bind, unbind, stride, run_loop, run_turns, is_path, is_read, or_whole, two_steps, three_steps, count_exprs, steps_of, all_steps, legs_steps}
use Rattle.weld_plan.specs.Leads.{GoesOn, Where, IsTruthThing, settles, onto, count_things, lists_in, below_legs, IsOnTop, AreThere, Leads}
use Rattle.weld_plan.proofs.Paths.{path_there}

-- ---- what leads on

goes_on : {A : Type 0} (Q P : A → Type 0) (w : Outcome A) (o : Outcome Thing) → GivesOrFaults Q w → ((x : A) → w ≡ done x → P x) → (w ≡ fault → o ≡ fault) → GoesOn w P o
goes_on Q P (done x) o h k f = k x refl
goes_on Q P fault o h k f = f refl
goes_on Q P stuck o h k f = absurd h

goes_as : {A : Type 0} (Q P : A → Type 0) (w u : Outcome A) (o : Outcome Thing) → w ≡ u → GivesOrFaults Q w → ((x : A) → w ≡ done x → P x) → (w ≡ fault → o ≡ fault) → GoesOn u P o
goes_as Q P w u o same h k f = subst (λ v. GoesOn v P o) same (goes_on Q P w o h k f)

fit_gives : (e : ExprTree) (env : Env) → (h : IsFit e env) → GivesOrFaults (λ x. HasThing x h.answer) (eval e env)
fit_gives e env h = (never_stuck key_laws e h.names h.answer env h.typed h.named.formed h.named.fits).fits

-- the steps lead to what the expression means, and on from there
abbrev LeadsTo : ExprTree → List StepTree → Type 0
LeadsTo e steps =
    (rest : List StepTree) (g ls : Env) (st : Things) (o : Outcome Thing) → IsFit e (ls ++ g)
    → ((t : Thing) → eval e (ls ++ g) ≡ done t → Leads rest 0 g ls (more_things t st) o) → (eval e (ls ++ g) ≡ fault → o ≡ fault) → Leads (steps ++ rest) 0 g ls st o

abbrev LeadsToAll : ExprTrees → List StepTree → Type 0
LeadsToAll es steps =
    (rest : List StepTree) (g ls : Env) (st : Things) (o : Outcome Thing) → AreFit es (ls ++ g)
    → ((ts : Things) → eval_all es (ls ++ g) ≡ done ts → count_things ts ≡ count_exprs es → Leads rest 0 g ls (onto ts st) o) → (eval_all es (ls ++ g) ≡ fault → o ≡ fault) → Leads (steps ++ rest) 0 g ls st o

abbrev LeadsToLeg : LegTree → List StepTree → Type 0
LeadsToLeg l steps =
    (rest : List StepTree) (g ls : Env) (st : Things) (o : Outcome Thing) → LegIsFit l (ls ++ g)
    → ((t : Thing) → IsVector t → eval_leg l (ls ++ g) ≡ done (elements_of_thing t) → Leads rest 0 g ls (more_things t st) o) → (eval_leg l (ls ++ g) ≡ fault → o ≡ fault) → Leads (steps ++ rest) 0 g ls st o

abbrev LeadsToLegs : LegTrees → List StepTree → Type 0
LeadsToLegs js steps =
    (rest : List StepTree) (g ls : Env) (st : Things) (o : Outcome Thing) → LegsAreFit js (ls ++ g)
    → ((pile : Things) → eval_legs js (ls ++ g) ≡ done (lists_in js (ls ++ g) pile) → AreThere js pile → below_legs js pile ≡ st → Leads rest 0 g ls pile o) → (eval_legs js (ls ++ g) ≡ fault → o ≡ fault)
    → Leads (steps ++ rest) 0 g ls st o

whole_leads : (e : ExprTree) → LeadsTo e (compute e ∷ [])
whole_leads e rest g ls st o h k f = (h, goes_on (λ x. HasThing x h.answer) (λ t. Leads rest 0 g ls (more_things t st) o) (eval e (ls ++ g)) o (fit_gives e (ls ++ g) h) k f)

or_leads : (e : ExprTree) (steps : List StepTree) → LeadsTo e steps → LeadsTo e (or_whole e steps)
or_leads e steps l rest g ls st o h k f = by (loops e == 0)
  where
    by : (b : Bool) → Leads ((if b then compute e ∷ [] else steps) ++ rest) 0 g ls st o
    by true = whole_leads e rest g ls st o h k f
    by false = l rest g ls st o h k f

pub skipped : (steps rest : List StepTree) (g ls : Env) (st : Things) (o : Outcome Thing) → Leads rest 0 g ls st o → Leads (steps ++ rest) (length steps) g ls st o
skipped [] rest g ls st o h = h
skipped (s ∷ steps) rest g ls st o h = skipped steps rest g ls st o h

skipped_more : (steps : List StepTree) (s : StepTree) (rest : List StepTree) (g ls : Env) (st : Things) (o : Outcome Thing) → Leads rest 0 g ls st o → Leads (steps ++ s ∷ rest) (length steps + 1) g ls st o
skipped_more [] s rest g ls st o h = h
skipped_more (r ∷ steps) s rest g ls st o h =
    let more : suc (length steps + 1) ≡ suc (length steps) + 1 = omega arith in
    subst (λ n. Leads (r ∷ (steps ++ s ∷ rest)) n g ls st o) more (skipped_more steps s rest g ls st o h)

-- ---- one part

one_leads : (a : At) (p : One) (e : ExprTree) (steps : List StepTree) → LeadsTo e steps → LeadsTo (one a p e) (steps ++ apply_one p ∷ [])
one_leads a p e steps l rest g ls st o h k f =
    let env : Env = ls ++ g in
    subst (λ s. Leads s 0 g ls st o) (sym (append_assoc steps (apply_one p ∷ []) rest))
    (l (apply_one p ∷ rest) g ls st o (fit_one a p e env h)
    (λ t q. (
      one_takes a p e env t h q,
      goes_as (λ x. HasThing x h.answer) (λ r. Leads rest 0 g ls (more_things r st) o) (eval (one a p e) env) (one_thing p t) o (ap (λ u. and_then u (one_thing p)) q) (fit_gives (one a p e) env h) k f,
    ))
    (λ q. f (ap (λ u. and_then u (one_thing p)) q)))

-- ---- two parts

both_leads : (a : At) (p : Two) (e f : ExprTree) (first second : List StepTree) → IsStrict p → LeadsTo e first → LeadsTo f second → LeadsTo (two a p e f) (first ++ (second ++ apply_two p ∷ []))
both_leads a p e f first second strict l m rest g ls st o h k z =
    let env : Env = ls ++ g in
    subst (λ s. Leads s 0 g ls st o) (sym (append_assoc first (second ++ apply_two p ∷ []) rest ∙ ap (λ s. first ++ s) (append_assoc second (apply_two p ∷ []) rest)))
    (l (second ++ apply_two p ∷ rest) g ls st o (fit_first_of_two a p e f env h)
    (λ t q. m (apply_two p ∷ rest) g ls (more_things t st) o (fit_second_of_two a p e f env h)
    (λ u r. (
      strict,
      two_takes a p e f env t u h q r,
      goes_as (λ x. HasThing x h.answer) (λ v. Leads rest 0 g ls (more_things v st) o) (eval (two a p e f) env) (two_thing p t (done u)) o
          (ap (λ w. and_then w (λ t. two_thing p t (eval f env))) q ∙ ap (two_thing p t) r) (fit_gives (two a p e f) env h) k z,
    ))
    (λ r. z (second_faults a p e f env (two a p e f) t refl strict h q r)))
    (λ q. z (ap (λ w. and_then w (λ t. two_thing p t (eval f env))) q)))

truth_says : (t : Thing) → HasThing t truth_type → (c : Bool) × IsTruthThing t c
truth_says (plain v) h =
    let says = by_number (λ w. (c : Bool) × (truth_of w ≡ done c)) kinds.Bool v h (λ x r. (int_eq x (pos 1), refl)) in
    (says.0, record { value = v; is = refl; truth = h; says = says.1 })
truth_says (building p) h = absurd h
truth_says (several ts) h = absurd h

first_truth : (a : At) (p : Two) (e f : ExprTree) (env : Env) → IsEitherForm p → (h : IsFit (two a p e f) env) → h.typed.0 ≡ truth_type
first_truth a (binary op) e f env k h = absurd k
first_truth a and e f env k h = h.typed.4.0
first_truth a or e f env k h = h.typed.4.0
first_truth a look_up e f env k h = absurd k
first_truth a key_exists e f env k h = absurd k
first_truth a merge e f env k h = absurd k

settled : (p : TwoForm) → IsEitherForm (view_two p) → (c : Bool) → settles (view_two p) c ≡ decided p c
settled (forms.Binary op) k c = absurd k
settled forms.And k c = refl
settled forms.Or k c = refl
settled forms.LookUp k c = absurd k
settled forms.KeyExists k c = absurd k
settled forms.Merge k c = absurd k

where_either : (b : Bool) (P Q : Type 0) → (b ≡ true → P) → (b ≡ false → Q) → Where b P Q
where_either true P Q p q = p refl
where_either false P Q p q = q refl

either_leads : (a : At) (p : TwoForm) (e f : ExprTree) (first second : List StepTree) → IsEitherForm (view_two p) → LeadsTo e first → LeadsTo f second → LeadsTo (two a (view_two p) e f) (first ++ decide (view_two p) (length second) ∷ second)
either_leads a p e f first second either l m rest g ls st o h k z =
    let env : Env = ls ++ g in
    subst (λ s. Leads s 0 g ls st o) (sym (append_assoc first (decide (view_two p) (length second) ∷ second) rest))
    (l (decide (view_two p) (length second) ∷ (second ++ rest)) g ls st o (fit_first_of_two a (view_two p) e f env h)
    (λ t q.
    let has = truth_says t (subst (HasThing t) (first_truth a (view_two p) e f env either h) (gives e h.names h.origins env h.typed.0 t h.named h.typed.2 q)) in (
      has.0,
      has.1,
      where_either (settles (view_two p) has.0) _ _
          (λ d. skipped second rest g ls (more_things (plain (truth_value has.0)) st) o
          (k (plain (truth_value has.0)) (first_decides a p e f env (two a (view_two p) e f) t has.1.value has.0 refl either q has.1.is has.1.says (sym (settled p either has.0) ∙ d))))
          (λ d.
          let same : eval (two a (view_two p) e f) env ≡ eval f env = second_decides a p e f env (two a (view_two p) e f) t has.1.value has.0 refl either h q has.1.is has.1.says (sym (settled p either has.0) ∙ d) in
          m rest g ls st o (fit_second_of_two a (view_two p) e f env h) (λ u r. k u (same ∙ r)) (λ r. z (same ∙ r))),
    ))
    (λ q. z (ap (λ w. and_then w (λ t. two_thing (view_two p) t (eval f env))) q)))

-- ---- three parts

if_leads : (a : At) (c e f : ExprTree) (first second third : List StepTree) → LeadsTo c first → LeadsTo e second → LeadsTo f third → LeadsTo (three a if_else c e f) (first ++ (unless (length second + 1) ∷ (second ++ skip (length third) ∷ third)))
if_leads a c e f first second third l m n rest g ls st o h k z =
    let env : Env = ls ++ g in
    subst (λ s. Leads s 0 g ls st o) (sym (append_assoc first (unless (length second + 1) ∷ (second ++ skip (length third) ∷ third)) rest ∙ ap (λ s. first ++ unless (length second + 1) ∷ s) (append_assoc second (skip (length third) ∷ third) rest)))
    (l (unless (length second + 1) ∷ (second ++ skip (length third) ∷ (third ++ rest))) g ls st o (fit_first_of_three a if_else c e f env h)
    (λ t q.
    let has = truth_says t (subst (HasThing t) h.typed.6.0 (gives c h.names h.origins env h.typed.0 t h.named h.typed.3 q)) in
    let same : (b : Bool) → has.0 ≡ b → eval (three a if_else c e f) env ≡ (if b then eval e env else eval f env) =
    λ b d. ap (λ w. and_then w (λ t. chosen t (eval e env) (eval f env))) (q ∙ ap done has.1.is)
    ∙ ap (λ w. and_then w (λ (b : Bool). if b then eval e env else eval f env)) (has.1.says ∙ ap done d) in (
      has.0,
      has.1,
      where_either has.0 _ _
          (λ d. m (skip (length third) ∷ (third ++ rest)) g ls st o (fit_second_of_three a if_else c e f env h)
          (λ u r. skipped third rest g ls (more_things u st) o (k u (same true d ∙ r))) (λ r. z (same true d ∙ r)))
          (λ d. skipped_more second (skip (length third)) (third ++ rest) g ls st o
          (n rest g ls st o (fit_third_of_three a if_else c e f env h) (λ u r. k u (same false d ∙ r)) (λ r. z (same false d ∙ r)))),
    ))
    (λ q. z (ap (λ w. and_then w (λ t. chosen t (eval e env) (eval f env))) q)))

all_three_lead : (a : At) (p : Three) (c e f : ExprTree) (first second third : List StepTree) → AreAllEvaluated p → LeadsTo c first → LeadsTo e second → LeadsTo f third → LeadsTo (three a p c e f) (first ++ (second ++ (third ++ apply_three p ∷ [])))
all_three_lead a p c e f first second third all l m n rest g ls st o h k z =
    let env : Env = ls ++ g in
    let last : List StepTree = apply_three p ∷ [] in
    subst (λ s. Leads s 0 g ls st o) (sym (append_assoc first (second ++ (third ++ last)) rest ∙ ap (λ s. first ++ s) (append_assoc second (third ++ last) rest ∙ ap (λ s. second ++ s) (append_assoc third last rest))))
    (l (second ++ (third ++ apply_three p ∷ rest)) g ls st o (fit_first_of_three a p c e f env h)
    (λ t q. m (third ++ apply_three p ∷ rest) g ls (more_things t st) o (fit_second_of_three a p c e f env h)
    (λ u r. n (apply_three p ∷ rest) g ls (more_things u (more_things t st)) o (fit_third_of_three a p c e f env h)
    (λ v s. (
      all,
      three_takes a p c e f env t u v h q r s,
      goes_as (λ x. HasThing x h.answer) (λ y. Leads rest 0 g ls (more_things y st) o) (eval (three a p c e f) env) (three_thing p t (done u) (done v)) o
          (ap (λ w. and_then w (λ t. three_thing p t (eval e env) (eval f env))) q ∙ ap (λ w. three_thing p t w (eval f env)) r ∙ ap (three_thing p t (done u)) s) (fit_gives (three a p c e f) env h) k z,
    ))
    (λ s. z (third_faults a p c e f env (three a p c e f) t u refl all h q r s)))
    (λ r. z (middle_faults a p c e f env (three a p c e f) t refl all h q r)))
    (λ q. z (ap (λ w. and_then w (λ t. three_thing p t (eval e env) (eval f env))) q)))

-- ---- a `let`

let_leads : (a : At) (b : Binder) (e f : ExprTree) (first second : List StepTree) → LeadsTo e first → LeadsTo f second → LeadsTo (let_in a b e f) (first ++ bind b.sym.0 ∷ (second ++ unbind ∷ []))
let_leads a b e f first second l m rest g ls st o h k z =
    let env : Env = ls ++ g in
    subst (λ s. Leads s 0 g ls st o) (sym (append_assoc first (bind b.sym.0 ∷ (second ++ unbind ∷ [])) rest ∙ ap (λ s. first ++ bind b.sym.0 ∷ s) (append_assoc second (unbind ∷ []) rest)))
    (l (bind b.sym.0 ∷ (second ++ unbind ∷ rest)) g ls st o (fit_value a b e f env h)
    (λ t q.
    let same : eval (let_in a b e f) env ≡ eval f ((b.sym.0, t) ∷ env) = ap (λ w. and_then w (λ t. eval f ((b.sym.0, t) ∷ env))) q in
    m (unbind ∷ rest) g ((b.sym.0, t) ∷ ls) st o (fit_let_body a b e f env t h q) (λ u r. k u (same ∙ r)) (λ r. z (same ∙ r)))
    (λ q. z (ap (λ w. and_then w (λ t. eval f ((b.sym.0, t) ∷ env))) q)))

-- ---- an `iterate`

turns_lead : (a : At) (e : ExprTree) (b : Binder) (f : ExprTree) (steps : List StepTree) → LeadsTo e steps → LeadsTo (iterate a e b f) (steps ++ run_turns (iterate a e b f) ∷ [])
turns_lead a e b f steps l rest g ls st o h k z =
    let env : Env = ls ++ g in
    subst (λ s. Leads s 0 g ls st o) (sym (append_assoc steps (run_turns (iterate a e b f) ∷ []) rest))
    (l (run_turns (iterate a e b f) ∷ rest) g ls st o (fit_state a e b f env h)
    (λ t q. by t q (state_is_plain a e b f env (iterate a e b f) t refl h q))
    (λ q. z (ap (λ w. and_then (value_out w) (λ v. map_out plain (turns turn_limit v (λ w. value_out (eval f ((b.sym.0, plain w) ∷ env)))))) q)))
  where
    by : (t : Thing) → eval e (ls ++ g) ≡ done t → IsPlain t → Leads (run_turns (iterate a e b f) ∷ rest) 0 g ls (more_things t st) o
    by (plain v) q p = (
      v,
      refl,
      tt,
      state_holds a e b f (ls ++ g) (iterate a e b f) (plain v) v refl h q refl,
      goes_as (λ x. HasThing x h.answer) (λ r. Leads rest 0 g ls (more_things r st) o) (eval (iterate a e b f) (ls ++ g)) (turns_from (iterate a e b f) (ls ++ g) turn_limit v) o
          (turns_start a e b f (ls ++ g) (iterate a e b f) (plain v) v refl q refl) (fit_gives (iterate a e b f) (ls ++ g) h) k z,
    )
    by (building p) q i = absurd i
    by (several ts) q i = absurd i

-- ---- a vector or a struct

all_counted : (o : Outcome Thing) (p : Outcome Things) (ts : Things) (n : ℕ) → ((us : Things) → p ≡ done us → count_things us ≡ n) → and_then o (λ t. map_out (more_things t) p) ≡ done ts → count_things ts ≡ suc n
all_counted (done t) (done us) ts n h q = let same : more_things t us ≡ ts = cc in ap count_things (sym same) ∙ ap suc (h us refl)
all_counted (done t) fault ts n h q = let no : ⊥ = cc in absurd no
all_counted (done t) stuck ts n h q = let no : ⊥ = cc in absurd no
all_counted fault p ts n h q = let no : ⊥ = cc in absurd no
all_counted stuck p ts n h q = let no : ⊥ = cc in absurd no

pub count_all : (es : ExprTrees) (env : Env) (ts : Things) → eval_all es env ≡ done ts → count_things ts ≡ count_exprs es
count_all no_exprs env ts q = let same : no_things ≡ ts = cc in ap count_things (sym same)
count_all (more_exprs e es) env ts q = all_counted (eval e env) (eval_all es env) ts (count_exprs es) (λ us r. count_all es env us r) q

many_leads : (a : At) (p : Many) (es : ExprTrees) (steps : List StepTree) → LeadsToAll es steps → LeadsTo (many a p es) (steps ++ apply_many p (count_exprs es) ∷ [])
many_leads a p es steps l rest g ls st o h k z =
    let env : Env = ls ++ g in
    subst (λ s. Leads s 0 g ls st o) (sym (append_assoc steps (apply_many p (count_exprs es) ∷ []) rest))
    (l (apply_many p (count_exprs es) ∷ rest) g ls st o (fit_many a p es env h)
    (λ ts q n. (
      ts,
      st,
      refl,
      n,
      parts_take a p es env (many a p es) ts refl h q,
      goes_as (λ x. HasThing x h.answer) (λ r. Leads rest 0 g ls (more_things r st) o) (eval (many a p es) env) (many_thing p ts) o (ap (λ u. and_then u (many_thing p)) q) (fit_gives (many a p es) env h) k z,
    ))
    (λ q. z (ap (λ u. and_then u (many_thing p)) q)))

-- a later fault is one of the whole, which isn't stuck
later_fault : {A B C : Type 0} (Q : C → Type 0) (o : Outcome A) (p : Outcome B) (f : A → Outcome B → Outcome C) → ((x : A) → f x fault ≡ fault) → GivesOrFaults Q (and_then o (λ x. f x p)) → p ≡ fault → and_then o (λ x. f x p) ≡ fault
later_fault Q (done x) p f h good q = ap (f x) q ∙ h x
later_fault Q fault p f h good q = refl
later_fault Q stuck p f h good q = absurd good

all_good : (es : ExprTrees) (env : Env) → AreFit es env → GivesOrFaults (λ (ts : Things). Unit {0}) (eval_all es env)
all_good no_exprs env h = tt
all_good (more_exprs e es) env h = by _ (eval e env) (eval_all es env) (fit_gives e env (fit_first_of_all e es env h)) (all_good es env (fit_rest_of_all e es env h))
  where
    by : (Q : Thing → Type 0) (o : Outcome Thing) (p : Outcome Things) → GivesOrFaults Q o → GivesOrFaults (λ (ts : Things). Unit {0}) p → GivesOrFaults (λ (ts : Things). Unit {0}) (and_then o (λ t. map_out (more_things t) p))
    by Q (done t) (done ts) q r = tt
    by Q (done t) fault q r = tt
    by Q (done t) stuck q r = absurd r
    by Q fault p q r = tt
    by Q stuck p q r = absurd q

no_parts_lead : LeadsToAll no_exprs []
no_parts_lead rest g ls st o h k z = k no_things refl refl

parts_lead : (e : ExprTree) (es : ExprTrees) (first others : List StepTree) → LeadsTo e first → LeadsToAll es others → LeadsToAll (more_exprs e es) (others ++ first)
parts_lead e es first others l m rest g ls st o h k z =
    let env : Env = ls ++ g in
    subst (λ s. Leads s 0 g ls st o) (sym (append_assoc others first rest))
    (m (first ++ rest) g ls st o (fit_rest_of_all e es env h)
    (λ ts q n. l rest g ls (onto ts st) o (fit_first_of_all e es env h)
    (λ t r. k (more_things t ts) (ap (λ u. and_then u (λ t. map_out (more_things t) (eval_all es env))) r ∙ ap (map_out (more_things t)) q) (ap suc n))
    (λ r. z (ap (λ u. and_then u (λ t. map_out (more_things t) (eval_all es env))) r)))
    (λ q. z (later_fault (λ (ts : Things). Unit {0}) (eval e env) (eval_all es env) (λ t p. map_out (more_things t) p) (λ t. refl) (all_good (more_exprs e es) env h) q)))

-- ---- legs

vector_elements : (t : Thing) → IsVector t → and_then (value_out (done t)) elements_of ≡ done (elements_of_thing t)
vector_elements (plain (number k x)) h = absurd h
vector_elements (plain (list vs)) h = refl
vector_elements (plain (struct vs)) h = absurd h
vector_elements (plain (dict es)) h = absurd h
vector_elements (building p) h = absurd h
vector_elements (several ts) h = absurd h

whole_leg_leads : (e : ExprTree) (steps : List StepTree) → LeadsTo e steps → LeadsToLeg (whole e) steps
whole_leg_leads e steps l rest g ls st o h k z =
    let env : Env = ls ++ g in
    l rest g ls st o (whole_fits e env (whole e) refl h)
    (λ t q.
    let v = whole_is_vector e env (whole e) t refl h q in
    k t v (ap (λ u. and_then (value_out u) elements_of) q ∙ vector_elements t v))
    (λ q. z (ap (λ u. and_then (value_out u) elements_of) q))

abbrev by_parts : Outcome Thing → Outcome Thing → Outcome Thing → Outcome Thing → Outcome (List Value)
by_parts p q r s = and_then (value_out p) (λ v. and_then (value_out q) (λ a. and_then (value_out r) (λ b. and_then (value_out s) (λ d. strided_of v a b d))))

one_leg_good : (Q : List (List Value) → Type 0) (o : Outcome (List Value)) → GivesOrFaults Q (and_then o (λ vs. map_out (λ rest. vs ∷ rest) (done []))) → GivesOrFaults (λ (vs : List Value). Unit {0}) o
one_leg_good Q (done vs) h = tt
one_leg_good Q fault h = tt
one_leg_good Q stuck h = absurd h

leg_gives : (l : LegTree) (env : Env) → LegIsFit l env → GivesOrFaults (λ (vs : List Value). Unit {0}) (eval_leg l env)
leg_gives l env h = one_leg_good _ (eval_leg l env) (legs_good (more_legs l no_legs) h.names (more_types h.answer no_types) env (h.typed, tt) h.named.formed h.named.fits).fits

strided_leg_leads : (e f i j : ExprTree) (first second third fourth : List StepTree) → LeadsTo e first → LeadsTo f second → LeadsTo i third → LeadsTo j fourth → LeadsToLeg (strided e f i j) (first ++ (second ++ (third ++ (fourth ++ stride ∷ []))))
strided_leg_leads e f i j first second third fourth l m n p rest g ls st o h k z =
    let env : Env = ls ++ g in
    let leg : LegTree = strided e f i j in
    let last : List StepTree = stride ∷ [] in
    subst (λ s. Leads s 0 g ls st o)
    (sym (append_assoc first (second ++ (third ++ (fourth ++ last))) rest ∙ ap (λ s. first ++ s) (append_assoc second (third ++ (fourth ++ last)) rest ∙ ap (λ s. second ++ s) (append_assoc third (fourth ++ last) rest ∙ ap (λ s. third ++ s) (append_assoc fourth last rest)))))
    (l (second ++ (third ++ (fourth ++ stride ∷ rest))) g ls st o (vector_fits e f i j env leg refl h)
    (λ t q. m (third ++ (fourth ++ stride ∷ rest)) g ls (more_things t st) o (start_fits e f i j env leg refl h)
    (λ u r. n (fourth ++ stride ∷ rest) g ls (more_things u (more_things t st)) o (end_fits e f i j env leg refl h)
    (λ w s. p (stride ∷ rest) g ls (more_things w (more_things u (more_things t st))) o (stride_fits e f i j env leg refl h)
    (λ x y. (
      vector_is e f i j env leg t refl h q,
      start_is e f i j env leg u refl h r,
      end_is e f i j env leg w refl h s,
      stride_is e f i j env leg x refl h y,
      goes_as (λ (vs : List Value). Unit {0}) (λ vs. (t : Thing) → IsVector t → elements_of_thing t ≡ vs → Leads rest 0 g ls (more_things t st) o) (eval_leg leg env) (strided_elements t u w x) o
          (ap (λ v. by_parts v (eval f env) (eval i env) (eval j env)) q ∙ ap (λ v. by_parts (done t) v (eval i env) (eval j env)) r ∙ ap (λ v. by_parts (done t) (done u) v (eval j env)) s ∙ ap (λ v. by_parts (done t) (done u) (done w) v) y)
          (leg_gives leg env h) (λ vs a b c d. k b c (a ∙ ap done (sym d))) z,
    ))
    (λ y. z (stride_faults e f i j env leg t u w refl q (vector_is e f i j env leg t refl h q) r (start_is e f i j env leg u refl h r) s (end_is e f i j env leg w refl h s) y)))
    (λ s. z (end_faults e f i j env leg t u refl q (vector_is e f i j env leg t refl h q) r (start_is e f i j env leg u refl h r) s)))
    (λ r. z (start_faults e f i j env leg t refl q (vector_is e f i j env leg t refl h q) r)))
    (λ q. z (vector_faults e f i j env leg refl q)))

no_legs_lead : LeadsToLegs no_legs []
no_legs_lead rest g ls st o h k z = k st refl tt refl

-- a leg that is no thing of the stack
read_lists : (b : Bool) (xs : List Value) (rest other : List (List Value)) → b ≡ true → (if b then xs ∷ rest else other) ≡ xs ∷ rest
read_lists b xs rest other h = ap (λ (c : Bool). if c then xs ∷ rest else other) h

path_done : (o : Outcome (List Value)) → GivesOrFaults (λ (vs : List Value). Unit {0}) o → (o ≡ fault → ⊥) → o ≡ done (or_none o)
path_done (done vs) h f = refl
path_done fault h f = absurd (f refl)
path_done stuck h f = absurd h

elements_there : (o : Outcome Thing) → (o ≡ fault → ⊥) → and_then (value_out o) elements_of ≡ fault → ⊥
elements_there (done (plain (number k x))) h q = let no : ⊥ = cc in no
elements_there (done (plain (list vs))) h q = let no : ⊥ = cc in no
elements_there (done (plain (struct vs))) h q = let no : ⊥ = cc in no
elements_there (done (plain (dict es))) h q = let no : ⊥ = cc in no
elements_there (done (building p)) h q = let no : ⊥ = cc in no
elements_there (done (several ts)) h q = let no : ⊥ = cc in no
elements_there fault h q = h refl
elements_there stuck h q = let no : ⊥ = cc in no

read_done : (l : LegTree) (env : Env) → LegIsFit l env → is_read l ≡ true → eval_leg l env ≡ done (or_none (eval_leg l env))
read_done (whole e) env h r = path_done (eval_leg (whole e) env) (leg_gives (whole e) env h) (elements_there (eval e env) (path_there e env r))
read_done (strided e f i j) env h r = let no : ⊥ = cc in absurd no

legs_cons : (l : LegTree) (js : LegTrees) (env : Env) (xs : List Value) (lists : List (List Value)) → eval_leg l env ≡ done xs → eval_legs js env ≡ done lists → eval_legs (more_legs l js) env ≡ done (xs ∷ lists)
legs_cons l js env xs lists q r = ap (λ o. and_then o (λ vs. map_out (λ rest. vs ∷ rest) (eval_legs js env))) q ∙ ap (map_out (λ rest. xs ∷ rest)) r

legs_give : (js : LegTrees) (env : Env) (h : LegsAreFit js env) → GivesOrFaults (λ (ls : List (List Value)). Unit {0}) (eval_legs js env)
legs_give js env h = weaken _ (eval_legs js env) (legs_good js h.names h.answers env h.typed h.named.formed h.named.fits).fits
  where
    weaken : (Q : List (List Value) → Type 0) (o : Outcome (List (List Value))) → GivesOrFaults Q o → GivesOrFaults (λ (ls : List (List Value)). Unit {0}) o
    weaken Q (done x) g = tt
    weaken Q fault g = tt
    weaken Q stuck g = absurd g

-- the leg isn't read where it stands
stacked_legs_lead : (l : LegTree) (js : LegTrees) (first others : List StepTree) → is_read l ≡ false → LeadsToLeg l first → LeadsToLegs js others → LeadsToLegs (more_legs l js) (others ++ first)
stacked_legs_lead l js first others r lead m rest g ls st o h k z =
    let env : Env = ls ++ g in
    subst (λ s. Leads s 0 g ls st o) (sym (append_assoc others first rest))
    (m (first ++ rest) g ls st o (fit_rest_of_legs l js env h)
    (λ pile q there below. lead rest g ls pile o (fit_first_leg l js env h)
    (λ t v y. k (more_things t pile)
    (legs_cons l js env (elements_of_thing t) (lists_in js env pile) y q ∙ ap done (sym (ap (λ (c : Bool). if c then or_none (eval_leg l env) ∷ lists_in js env (more_things t pile) else elements_of_thing t ∷ lists_in js env pile) r)))
    (subst (λ c. Where c (AreThere js (more_things t pile)) (IsVector t × AreThere js pile)) (sym r) (v, there))
    (ap (λ (c : Bool). if c then below_legs js (more_things t pile) else below_legs js pile) r ∙ below))
    (λ y. z (ap (λ o. and_then o (λ vs. map_out (λ rest. vs ∷ rest) (eval_legs js env))) y)))
    (λ q. z (later_fault (λ (ls : List (List Value)). Unit {0}) (eval_leg l env) (eval_legs js env) (λ vs p. map_out (λ rest. vs ∷ rest) p) (λ vs. refl) (legs_give (more_legs l js) env h) q)))

-- the leg is read where it stands
read_legs_lead : (l : LegTree) (js : LegTrees) (others : List StepTree) → is_read l ≡ true → LeadsToLegs js others → LeadsToLegs (more_legs l js) (others ++ [])
read_legs_lead l js others r m rest g ls st o h k z =
    let env : Env = ls ++ g in
    subst (λ s. Leads s 0 g ls st o) (sym (append_assoc others [] rest))
    (m rest g ls st o (fit_rest_of_legs l js env h)
    (λ pile q there below. k pile
    (legs_cons l js env (or_none (eval_leg l env)) (lists_in js env pile) (read_done l env (fit_first_leg l js env h) r) q
    ∙ ap done (sym (ap (λ (c : Bool). if c then or_none (eval_leg l env) ∷ lists_in js env pile else elements_of_thing (first_of pile) ∷ lists_in js env (rest_of pile)) r)))
    (subst (λ c. Where c (AreThere js pile) (IsOnTop pile × AreThere js (rest_of pile))) (sym r) there)
    (ap (λ (c : Bool). if c then below_legs js pile else below_legs js (rest_of pile)) r ∙ below))
    (λ q. z (later_fault (λ (ls : List (List Value)). Unit {0}) (eval_leg l env) (eval_legs js env) (λ vs p. map_out (λ rest. vs ∷ rest) p) (λ vs. refl) (legs_give (more_legs l js) env h) q)))

-- the steps of a whole leg, which there are none of where it is read
whole_legs_lead : (e : ExprTree) (js : LegTrees) (first others : List StepTree) → LeadsTo e first → LeadsToLegs js others → LeadsToLegs (more_legs (whole e) js) (others ++ (if is_path e then [] else first))
whole_legs_lead e js first others l m = by (is_path e) refl
  where
    by : (b : Bool) → is_path e ≡ b → LeadsToLegs (more_legs (whole e) js) (others ++ (if b then [] else first))
    by true r = read_legs_lead (whole e) js others r m
    by false r = stacked_legs_lead (whole e) js first others r (whole_leg_leads e first l) m

-- ---- a loop

abbrev over_rows : Binder → Binder → Binder → ExprTree → Env → Outcome (List (List Value)) → Outcome Thing → Outcome Thing
over_rows b n x f env p q = and_then p (λ legs. and_then (rows_of legs) (λ rows. and_then q (λ s. run (number_from 0 rows) s (λ r t. row_of b n x f env r t))))

fault_after : (Q : Thing → Type 0) (p : Outcome (List Value)) (f : List Value → Outcome Thing) → ((rows : List Value) → f rows ≡ fault) → GivesOrFaults Q (and_then p f) → and_then p f ≡ fault
fault_after Q (done rows) f h g = h rows
fault_after Q fault f h g = refl
fault_after Q stuck f h g = absurd g

loop_leads : (a : At) (js : LegTrees) (e : ExprTree) (b n x : Binder) (f : ExprTree) (i : ℕ) (first second : List StepTree) → LeadsToLegs js first → LeadsTo e second → LeadsTo (loop a js e b n x f) (first ++ (second ++ run_loop (loop a js e b n x f) i ∷ []))
loop_leads a js e b n x f i first second l m rest g ls st o h k z =
    let env : Env = ls ++ g in
    let node : ExprTree = loop a js e b n x f in
    let last : List StepTree = run_loop node i ∷ [] in
    subst (λ s. Leads s 0 g ls st o) (sym (append_assoc first (second ++ last) rest ∙ ap (λ s. first ++ s) (append_assoc second last rest)))
    (l (second ++ run_loop node i ∷ rest) g ls st o (fit_legs a js e b n x f env h)
    (λ pile q there below. m (run_loop node i ∷ rest) g ls pile o (fit_builder a js e b n x f env h)
    (λ s r. (
      h,
      (q, r, there),
      goes_on (λ x. HasThing x h.answer) (λ t. Leads rest 0 g ls (more_things t (below_legs js pile)) o) (eval node env) o (fit_gives node env h)
          (λ t y. subst (λ u. Leads rest 0 g ls (more_things t u) o) (sym below) (k t y)) z,
    ))
    (λ r.
    let same : eval node env ≡ over_rows b n x f env (done (lists_in js env pile)) fault = ap (λ p. over_rows b n x f env p (eval e env)) q ∙ ap (over_rows b n x f env (done (lists_in js env pile))) r in
    z (same ∙ fault_after (λ x. HasThing x h.answer) (rows_of (lists_in js env pile)) (λ rows. and_then fault (λ s. run (number_from 0 rows) s (λ r t. row_of b n x f env r t))) (λ rows. refl) (subst (GivesOrFaults (λ x. HasThing x h.answer)) same (fit_gives node env h)))))
    (λ q. z (loop_legs_fault a js e b n x f env node refl q)))

-- ---- every expression

two_lead : (a : At) (p : Two) (e f : ExprTree) (first second : List StepTree) → LeadsTo e first → LeadsTo f second → LeadsTo (two a p e f) (two_steps p first second)
two_lead a (binary op) e f first second l m = both_leads a (binary op) e f first second tt l m
two_lead a and e f first second l m = either_leads a forms.And e f first second tt l m
two_lead a or e f first second l m = either_leads a forms.Or e f first second tt l m
two_lead a look_up e f first second l m = both_leads a look_up e f first second tt l m
two_lead a key_exists e f first second l m = both_leads a key_exists e f first second tt l m
two_lead a merge e f first second l m = both_leads a merge e f first second tt l m

three_lead : (a : At) (p : Three) (c e f : ExprTree) (first second third : List StepTree) → LeadsTo c first → LeadsTo e second → LeadsTo f third → LeadsTo (three a p c e f) (three_steps p first second third)
three_lead a if_else c e f first second third l m n = if_leads a c e f first second third l m n
three_lead a select c e f first second third l m n = all_three_lead a select c e f first second third tt l m n
three_lead a slice c e f first second third l m n = all_three_lead a slice c e f first second third tt l m n

mutual
  pub steps_lead : (e : ExprTree) (k : ℕ) → LeadsTo e (steps_of e k)
  steps_lead (leaf a l) k = whole_leads (leaf a l)
  steps_lead (one a p e) k = or_leads (one a p e) _ (one_leads a p e (steps_of e k) (steps_lead e k))
  steps_lead (two a p e f) k = or_leads (two a p e f) _ (two_lead a p e f (steps_of e k) (steps_of f (k + loops e)) (steps_lead e k) (steps_lead f (k + loops e)))
  steps_lead (three a p c e f) k =
      or_leads (three a p c e f) _ (three_lead a p c e f (steps_of c k) (steps_of e (k + loops c)) (steps_of f (k + loops c + loops e)) (steps_lead c k) (steps_lead e (k + loops c)) (steps_lead f (k + loops c + loops e)))
  steps_lead (many a p es) k = or_leads (many a p es) _ (many_leads a p es (all_steps es k) (all_lead es k))
  steps_lead (let_in a b e f) k = or_leads (let_in a b e f) _ (let_leads a b e f (steps_of e k) (steps_of f (k + loops e)) (steps_lead e k) (steps_lead f (k + loops e)))
  steps_lead (loop a ls e b n x f) k = loop_leads a ls e b n x f k (legs_steps ls (k + 1)) (steps_of e (k + 1 + loops_in_legs ls)) (legs_lead ls (k + 1)) (steps_lead e (k + 1 + loops_in_legs ls))
  steps_lead (iterate a e b f) k = or_leads (iterate a e b f) _ (turns_lead a e b f (steps_of e k) (steps_lead e k))

  all_lead : (es : ExprTrees) (k : ℕ) → LeadsToAll es (all_steps es k)
  all_lead no_exprs k = no_parts_lead
  all_lead (more_exprs e es) k = parts_lead e es (steps_of e k) (all_steps es (k + loops e)) (steps_lead e k) (all_lead es (k + loops e))

  legs_lead : (ls : LegTrees) (k : ℕ) → LeadsToLegs ls (legs_steps ls k)
  legs_lead no_legs k = no_legs_lead
  legs_lead (more_legs (whole e) ls) k = whole_legs_lead e ls (steps_of e k) (legs_steps ls (k + loops e)) (steps_lead e k) (legs_lead ls (k + loops e))
  legs_lead (more_legs (strided e f i j) ls) k =
      stacked_legs_lead (strided e f i j) ls _ (legs_steps ls (k + (loops e + loops f + loops i + loops j))) refl
      (strided_leg_leads e f i j (steps_of e k) (steps_of f (k + loops e)) (steps_of i (k + loops e + loops f)) (steps_of j (k + loops e + loops f + loops i)) (steps_lead e k) (steps_lead f (k + loops e)) (steps_lead i (k + loops e + loops f)) (steps_lead j (k + loops e + loops f + loops i)))
      (legs_lead ls (k + (loops e + loops f + loops i + loops j)))
