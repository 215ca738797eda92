-- The steps of an expression come to the rows of its shared loops.
use Rattle.std.proofs.Common.{◌≡◌, ℕ, suc, ◌+◌, ◌==◌, Bool, true, false, if◌then◌else◌, List, [], ◌∷◌, ◌++◌, length, refl, sym, ap, ap₂, ◌∙◌, append_assoc, append-nil, arith}
use Rattle.std.proofs.lemmas.Bool.{eqb-true}
use Rattle.weld_data.specs.Value.{Value, number, list, struct, dict, values, list_of_values}
use Rattle.weld_tree.specs.declared.binder.Binder.{Binder}
use Rattle.weld_tree.specs.ExprTree.{ExprTree, At, leaf, one, two, three, many, let_in, loop, iterate, ExprTrees, no_exprs, more_exprs, LegTree, whole, strided, LegTrees, no_legs, more_legs, One, Two, binary, and, or, look_up, key_exists, merge, Three, if_else, select, slice, Many, field}
use Rattle.weld_tree.specs.Program.{ProgramTree, loops, loops_in, loops_in_legs}
use Rattle.weld_builders.specs.Part.{merge_part}
use Rattle.weld_builders.specs.Outcome.{Outcome, done, fault, stuck, and_then, map_out}
use Rattle.weld_meaning.specs.Thing.{Thing, plain, building, several, Things, no_things, more_things, first_of, rest_of, as_value}
use Rattle.weld_meaning.specs.Evaluation.{Env, truth_of, truth_value, chosen, value_out, elements_of, turn_limit, strided_of, rows_of, eval, eval_all, eval_leg, eval_legs, one_thing, two_thing, three_thing, many_thing, on_values, on_three, merged, operated, looked_up, has_key, selected, sliced, run, number_from, with_row, whole_number}
use Rattle.weld_meaning.specs.Meaning.{with_arguments}
use Rattle.weld_eval.specs.Takes.{IsStrict}
use Rattle.weld_eval_forms.specs.FormTakes.{AreAllEvaluated}
use Rattle.weld_eval_forms.specs.Legs.{or_none, rows_in, elements_of_thing}
use Rattle.weld_eval_plain.specs.Turns.{turns_from}
use Rattle.weld_plan.specs.StepTree.{StepTree, compute, apply_one, apply_two, apply_three, apply_many, decide, unless, skip, bind, unbind, stride, run_loop, run_turns, is_path, is_read, or_whole, two_steps, three_steps, count_exprs, steps_of, all_steps, legs_steps}
use Rattle.weld_plan.specs.Leads.{onto, count_things, lists_in, below_legs}
use Rattle.weld_plan.specs.Stack.{put_on, newest, below, many_stack}
use Rattle.weld_plan.specs.SharedRows.{if_done, as_says, where_reached, of_arms, shared_rows, shared_rows_of_all, shared_rows_of_leg, shared_rows_of_legs, program_rows}
use Rattle.weld_plan.proofs.Leading.{count_all}
use Rattle.weld_plan.specs.StepRows.{top_truth, rows_of_steps}

-- ---- what was done before something is done

and_done : {A B : Type 0} (w : Outcome A) (f : A → Outcome B) (r : B) → and_then w f ≡ done r → (x : A) × (w ≡ done x) × (f x ≡ done r)
and_done (done x) f r q = (x, refl, q)
and_done fault f r q = let no : ⊥ = cc in absurd no
and_done stuck f r q = let no : ⊥ = cc in absurd no

map_done : {A B : Type 0} (w : Outcome A) (f : A → B) (r : B) → map_out f w ≡ done r → (x : A) × (w ≡ done x) × (f x ≡ r)
map_done (done x) f r q = let same : f x ≡ r = cc in (x, refl, same)
map_done fault f r q = let no : ⊥ = cc in absurd no
map_done stuck f r q = let no : ⊥ = cc in absurd no

-- a thing that is a value
value_is : (t : Thing) (v : Value) → as_value t ≡ done v → t ≡ plain v
value_is (plain w) v q = let same : w ≡ v = cc in ap plain same
value_is (building p) v q = let no : ⊥ = cc in absurd no
value_is (several ts) v q = let no : ⊥ = cc in absurd no

-- what was evaluated to a value
value_done : (o : Outcome Thing) (v : Value) → value_out o ≡ done v → o ≡ done (plain v)
value_done o v q = let d = and_done o as_value v q in d.1 ∙ ap done (value_is d.0 v d.2)

-- ---- where there is no loop

no_more : (xs ys : List ℕ) → xs ≡ [] → ys ≡ [] → xs ++ ys ≡ []
no_more xs ys p q = ap₂ ◌++◌ p q

none_done : {A : Type 0} (w : Outcome A) (f : A → List ℕ) → ((x : A) → f x ≡ []) → if_done w f ≡ []
none_done (done x) f h = h x
none_done fault f h = refl
none_done stuck f h = refl

same_arms : (c : Bool) (xs : List ℕ) → (if c then xs else xs) ≡ xs
same_arms true xs = refl
same_arms false xs = refl

neither : (o : Outcome Thing) → as_says o [] [] ≡ []
neither o = none_done (and_then (value_out o) truth_of) _ (λ c. same_arms c [])

reached_none : (p : Two) (o : Outcome Thing) (xs : List ℕ) → xs ≡ [] → where_reached p o xs ≡ []
reached_none (binary op) o xs q = q
reached_none and o xs q = ap (λ r. as_says o r []) q ∙ neither o
reached_none or o xs q = ap (λ r. as_says o [] r) q ∙ neither o
reached_none look_up o xs q = q
reached_none key_exists o xs q = q
reached_none merge o xs q = q

arms_none : (p : Three) (o : Outcome Thing) (xs ys : List ℕ) → xs ≡ [] → ys ≡ [] → of_arms p o xs ys ≡ []
arms_none if_else o xs ys q r = ap₂ (λ k l. as_says o k l) q r ∙ neither o
arms_none select o xs ys q r = no_more xs ys q r
arms_none slice o xs ys q r = no_more xs ys q r

mutual
  no_rows : (e : ExprTree) (env : Env) → loops e ≡ 0 → shared_rows e env ≡ []
  no_rows (leaf a l) env h = refl
  no_rows (one a o e) env h = no_rows e env h
  no_rows (two a o e f) env h =
      let first : loops e ≡ 0 = omega arith in
      let second : loops f ≡ 0 = omega arith in
      no_more (shared_rows e env) (where_reached o (eval e env) (shared_rows f env)) (no_rows e env first) (reached_none o (eval e env) (shared_rows f env) (no_rows f env second))
  no_rows (three a o e f g) env h =
      let first : loops e ≡ 0 = omega arith in
      let second : loops f ≡ 0 = omega arith in
      let third : loops g ≡ 0 = omega arith in
      no_more (shared_rows e env) (of_arms o (eval e env) (shared_rows f env) (shared_rows g env)) (no_rows e env first)
      (arms_none o (eval e env) (shared_rows f env) (shared_rows g env) (no_rows f env second) (no_rows g env third))
  no_rows (many a o es) env h = no_rows_in es env h
  no_rows (let_in a b e f) env h =
      let first : loops e ≡ 0 = omega arith in
      let second : loops f ≡ 0 = omega arith in
      no_more (shared_rows e env) (if_done (eval e env) (λ t. shared_rows f ((b.sym.0, t) ∷ env))) (no_rows e env first)
      (none_done (eval e env) (λ t. shared_rows f ((b.sym.0, t) ∷ env)) (λ t. no_rows f ((b.sym.0, t) ∷ env) second))
  no_rows (loop a ls e b n x f) env h = absurd (omega (arith, h))
  no_rows (iterate a e b f) env h = let first : loops e ≡ 0 = omega arith in no_rows e env first

  no_rows_in : (es : ExprTrees) (env : Env) → loops_in es ≡ 0 → shared_rows_of_all es env ≡ []
  no_rows_in no_exprs env h = refl
  no_rows_in (more_exprs e es) env h =
      let first : loops e ≡ 0 = omega arith in
      let others : loops_in es ≡ 0 = omega arith in
      no_more (shared_rows_of_all es env) (shared_rows e env) (no_rows_in es env others) (no_rows e env first)

-- a name, or a field of such, has no loop
path_has_none : (e : ExprTree) (env : Env) → is_path e ≡ true → shared_rows e env ≡ []
path_has_none (leaf a l) env h = refl
path_has_none (one a (field n) e) env h = path_has_none e env h
path_has_none (one a _ e) env h = let no : ⊥ = cc in absurd no
path_has_none (two a o e f) env h = let no : ⊥ = cc in absurd no
path_has_none (three a o e f g) env h = let no : ⊥ = cc in absurd no
path_has_none (many a o es) env h = let no : ⊥ = cc in absurd no
path_has_none (let_in a b e f) env h = let no : ⊥ = cc in absurd no
path_has_none (loop a ls e b n x f) env h = let no : ⊥ = cc in absurd no
path_has_none (iterate a e b f) env h = let no : ⊥ = cc in absurd no

-- ---- what steps come to

-- the rows of the steps are those of the expression, and those of the steps behind them
abbrev Counts : ExprTree → List StepTree → Type 0
Counts e steps =
    (rest : List StepTree) (g ls : Env) (st : Things) (t : Thing) → eval e (ls ++ g) ≡ done t
    → rows_of_steps (steps ++ rest) 0 g ls st ≡ shared_rows e (ls ++ g) ++ rows_of_steps rest 0 g ls (more_things t st)

abbrev CountsAll : ExprTrees → List StepTree → Type 0
CountsAll es steps =
    (rest : List StepTree) (g ls : Env) (st ts : Things) → eval_all es (ls ++ g) ≡ done ts
    → rows_of_steps (steps ++ rest) 0 g ls st ≡ shared_rows_of_all es (ls ++ g) ++ rows_of_steps rest 0 g ls (onto ts st)

-- the thing that the leg leaves has its elements
abbrev CountsLeg : LegTree → List StepTree → Type 0
CountsLeg l steps =
    (rest : List StepTree) (g ls : Env) (st : Things) (vs : List Value) → eval_leg l (ls ++ g) ≡ done vs
    → (t : Thing) × (elements_of_thing t ≡ vs) × (rows_of_steps (steps ++ rest) 0 g ls st ≡ shared_rows_of_leg l (ls ++ g) ++ rows_of_steps rest 0 g ls (more_things t st))

abbrev CountsLegs : LegTrees → List StepTree → Type 0
CountsLegs js steps =
    (rest : List StepTree) (g ls : Env) (st : Things) (lists : List (List Value)) → eval_legs js (ls ++ g) ≡ done lists
    → (pile : Things) × (lists_in js (ls ++ g) pile ≡ lists) × (below_legs js pile ≡ st) × (rows_of_steps (steps ++ rest) 0 g ls st ≡ shared_rows_of_legs js (ls ++ g) ++ rows_of_steps rest 0 g ls pile)

-- two lists, one behind the other
two_lists : (xs ys zs all mid : List ℕ) → all ≡ xs ++ mid → mid ≡ ys ++ zs → all ≡ (xs ++ ys) ++ zs
two_lists xs ys zs all mid p q = p ∙ ap (λ l. xs ++ l) q ∙ sym (append_assoc xs ys zs)

whole_counts : (e : ExprTree) → loops e ≡ 0 → Counts e (compute e ∷ [])
whole_counts e h rest g ls st t q =
    ap (λ w. if_done w (λ t. rows_of_steps rest 0 g ls (more_things t st))) q ∙ ap (λ l. l ++ rows_of_steps rest 0 g ls (more_things t st)) (sym (no_rows e (ls ++ g) h))

or_counts : (e : ExprTree) (steps : List StepTree) → Counts e steps → Counts e (or_whole e steps)
or_counts e steps c rest g ls st t q = by (loops e == 0) refl
  where
    by : (b : Bool) → (loops e == 0) ≡ b → rows_of_steps ((if b then compute e ∷ [] else steps) ++ rest) 0 g ls st ≡ shared_rows e (ls ++ g) ++ rows_of_steps rest 0 g ls (more_things t st)
    by true z = whole_counts e (eqb-true (loops e) 0 z) rest g ls st t q
    by false z = c rest g ls st t q

left_out : (steps rest : List StepTree) (g ls : Env) (st : Things) → rows_of_steps (steps ++ rest) (length steps) g ls st ≡ rows_of_steps rest 0 g ls st
left_out [] rest g ls st = refl
left_out (s ∷ steps) rest g ls st = left_out steps rest g ls st

left_out_more : (steps : List StepTree) (s : StepTree) (rest : List StepTree) (g ls : Env) (st : Things) → rows_of_steps (steps ++ s ∷ rest) (length steps + 1) g ls st ≡ rows_of_steps rest 0 g ls st
left_out_more [] s rest g ls st = refl
left_out_more (r ∷ steps) s rest g ls st =
    let more : suc (length steps) + 1 ≡ suc (length steps + 1) = omega arith in
    ap (λ n. rows_of_steps (r ∷ (steps ++ s ∷ rest)) n g ls st) more ∙ left_out_more steps s rest g ls st

-- ---- one part

one_counts : (a : At) (p : One) (e : ExprTree) (steps : List StepTree) → Counts e steps → Counts (one a p e) (steps ++ apply_one p ∷ [])
one_counts a p e steps c rest g ls st r q =
    let env : Env = ls ++ g in
    let d = and_done (eval e env) (one_thing p) r q in
    ap (λ s. rows_of_steps s 0 g ls st) (append_assoc steps (apply_one p ∷ []) rest)
    ∙ c (apply_one p ∷ rest) g ls st d.0 d.1
    ∙ ap (λ w. shared_rows e env ++ if_done (map_out (put_on st) w) (λ u. rows_of_steps rest 0 g ls u)) d.2

-- ---- two parts

both_values : (h : Value → Value → Outcome Value) (t : Thing) (o : Outcome Thing) (r : Thing) → on_values h t o ≡ done r → (u : Thing) × (o ≡ done u)
both_values h t o r q =
    let all = map_done (and_then (as_value t) (λ v. and_then (value_out o) (h v))) plain r q in
    let first = and_done (as_value t) (λ v. and_then (value_out o) (h v)) all.0 all.1 in
    let second = and_done (value_out o) (h first.0) all.0 first.2 in
    let it = and_done o as_value second.0 second.1 in (it.0, it.1)

merged_value : (t : Thing) (o : Outcome Thing) (r : Thing) → merged t o ≡ done r → (u : Thing) × (o ≡ done u)
merged_value (plain v) o r q = let no : ⊥ = cc in absurd no
merged_value (building p) o r q =
    let value = and_done (value_out o) (λ v. map_out building (merge_part p v)) r q in
    let it = and_done o as_value value.0 value.1 in (it.0, it.1)
merged_value (several ts) o r q = let no : ⊥ = cc in absurd no

second_done : (p : Two) (t : Thing) (o : Outcome Thing) (r : Thing) → IsStrict p → two_thing p t o ≡ done r → (u : Thing) × (o ≡ done u)
second_done (binary op) t o r s q = both_values (operated op) t o r q
second_done and t o r s q = absurd s
second_done or t o r s q = absurd s
second_done look_up t o r s q = both_values looked_up t o r q
second_done key_exists t o r s q = both_values has_key t o r q
second_done merge t o r s q = merged_value t o r q

strict_reached : (p : Two) (o : Outcome Thing) (xs : List ℕ) → IsStrict p → where_reached p o xs ≡ xs
strict_reached (binary op) o xs s = refl
strict_reached and o xs s = absurd s
strict_reached or o xs s = absurd s
strict_reached look_up o xs s = refl
strict_reached key_exists o xs s = refl
strict_reached merge o xs s = refl

both_count : (a : At) (p : Two) (e f : ExprTree) (first second : List StepTree) → IsStrict p → Counts e first → Counts f second → Counts (two a p e f) (first ++ (second ++ apply_two p ∷ []))
both_count a p e f first second strict c d rest g ls st r q =
    let env : Env = ls ++ g in
    let one = and_done (eval e env) (λ t. two_thing p t (eval f env)) r q in
    let two = second_done p one.0 (eval f env) r strict one.2 in
    let last : two_thing p one.0 (done two.0) ≡ done r = sym (ap (two_thing p one.0) two.1) ∙ one.2 in
    ap (λ s. rows_of_steps s 0 g ls st) (append_assoc first (second ++ apply_two p ∷ []) rest ∙ ap (λ s. first ++ s) (append_assoc second (apply_two p ∷ []) rest))
    ∙ two_lists (shared_rows e env) (shared_rows f env) (rows_of_steps rest 0 g ls (more_things r st))
    (rows_of_steps (first ++ (second ++ apply_two p ∷ rest)) 0 g ls st) (rows_of_steps (second ++ apply_two p ∷ rest) 0 g ls (more_things one.0 st))
    (c (second ++ apply_two p ∷ rest) g ls st one.0 one.1)
    (d (apply_two p ∷ rest) g ls (more_things one.0 st) two.0 two.1 ∙ ap (λ w. shared_rows f env ++ if_done (map_out (put_on st) w) (λ u. rows_of_steps rest 0 g ls u)) last)
    ∙ ap (λ l. (shared_rows e env ++ l) ++ rows_of_steps rest 0 g ls (more_things r st)) (sym (strict_reached p (eval e env) (shared_rows f env) strict))

-- what a truth value chooses
record Choice (A : Type 0) (t : Thing) (on off : Outcome A) (r : A) : Type 0 where
  value : Value
  is : as_value t ≡ done value
  truth : Bool
  says : truth_of value ≡ done truth
  gives : (if truth then on else off) ≡ done r

chosen_done : (A : Type 0) (t : Thing) (on off : Outcome A) (r : A) → chosen t on off ≡ done r → Choice A t on off r
chosen_done A t on off r q =
    let first = and_done (as_value t) (λ v. and_then (truth_of v) (λ (c : Bool). if c then on else off)) r q in
    let second = and_done (truth_of first.0) (λ (c : Bool). if c then on else off) r first.2 in
    record { value = first.0; is = first.1; truth = second.0; says = second.1; gives = second.2 }

-- the truth value on top of the stack
top_says : (t : Thing) (st : Things) (v : Value) (c : Bool) (f : Bool → List ℕ) → as_value t ≡ done v → truth_of v ≡ done c → if_done (top_truth (more_things t st)) f ≡ f c
top_says t st v c f p q = ap (λ w. if_done (and_then w truth_of) f) p ∙ ap (λ w. if_done w f) q

says_so : (o : Outcome Thing) (t : Thing) (v : Value) (c : Bool) (on off : List ℕ) → o ≡ done t → as_value t ≡ done v → truth_of v ≡ done c → as_says o on off ≡ (if c then on else off)
says_so o t v c on off p q r =
    ap (λ w. as_says w on off) p
    ∙ ap (λ w. if_done (and_then w truth_of) (λ (c : Bool). if c then on else off)) q
    ∙ ap (λ w. if_done w (λ (c : Bool). if c then on else off)) r

-- the second part is evaluated, and is what the whole comes to
second_counts : (f : ExprTree) (second : List StepTree) → Counts f second → (rest : List StepTree) (g ls : Env) (st : Things) (w : Value) → value_out (eval f (ls ++ g)) ≡ done w
    → rows_of_steps (second ++ rest) 0 g ls st ≡ shared_rows f (ls ++ g) ++ rows_of_steps rest 0 g ls (more_things (plain w) st)
second_counts f second d rest g ls st w q = d rest g ls st (plain w) (value_done (eval f (ls ++ g)) w q)

and_counts : (a : At) (e f : ExprTree) (first second : List StepTree) → Counts e first → Counts f second → Counts (two a and e f) (first ++ decide and (length second) ∷ second)
and_counts a e f first second c d rest g ls st r q =
    let env : Env = ls ++ g in
    let one = and_done (eval e env) (λ t. two_thing and t (eval f env)) r q in
    let value = map_done (chosen one.0 (value_out (eval f env)) (done (truth_value false))) plain r one.2 in
    let choice = chosen_done Value one.0 (value_out (eval f env)) (done (truth_value false)) value.0 value.1 in
    ap (λ s. rows_of_steps s 0 g ls st) (append_assoc first (decide and (length second) ∷ second) rest)
    ∙ two_lists (shared_rows e env) (where_reached and (eval e env) (shared_rows f env)) (rows_of_steps rest 0 g ls (more_things r st))
    (rows_of_steps (first ++ decide and (length second) ∷ (second ++ rest)) 0 g ls st) (rows_of_steps (decide and (length second) ∷ (second ++ rest)) 0 g ls (more_things one.0 st))
    (c (decide and (length second) ∷ (second ++ rest)) g ls st one.0 one.1)
    (by one.0 one.1 value.0 value.2 choice.value choice.truth choice.is choice.says choice.gives)
  where
    by : (t : Thing) → eval e (ls ++ g) ≡ done t → (w : Value) → plain w ≡ r → (v : Value) (b : Bool) → as_value t ≡ done v → truth_of v ≡ done b → (if b then value_out (eval f (ls ++ g)) else done (truth_value false)) ≡ done w
        → rows_of_steps (decide and (length second) ∷ (second ++ rest)) 0 g ls (more_things t st) ≡ where_reached and (eval e (ls ++ g)) (shared_rows f (ls ++ g)) ++ rows_of_steps rest 0 g ls (more_things r st)
    by t p w same v true i s k =
        top_says t st v true _ i s
        ∙ second_counts f second d rest g ls st w k
        ∙ ap₂ (λ l u. l ++ rows_of_steps rest 0 g ls (more_things u st)) (sym (says_so (eval e (ls ++ g)) t v true (shared_rows f (ls ++ g)) [] p i s)) same
    by t p w same v false i s k =
        let it : truth_value false ≡ w = cc in
        top_says t st v false _ i s
        ∙ left_out second rest g ls (more_things (plain (truth_value false)) st)
        ∙ ap₂ (λ l u. l ++ rows_of_steps rest 0 g ls (more_things u st)) (sym (says_so (eval e (ls ++ g)) t v false (shared_rows f (ls ++ g)) [] p i s)) (ap plain it ∙ same)

or_counts_both : (a : At) (e f : ExprTree) (first second : List StepTree) → Counts e first → Counts f second → Counts (two a or e f) (first ++ decide or (length second) ∷ second)
or_counts_both a e f first second c d rest g ls st r q =
    let env : Env = ls ++ g in
    let one = and_done (eval e env) (λ t. two_thing or t (eval f env)) r q in
    let value = map_done (chosen one.0 (done (truth_value true)) (value_out (eval f env))) plain r one.2 in
    let choice = chosen_done Value one.0 (done (truth_value true)) (value_out (eval f env)) value.0 value.1 in
    ap (λ s. rows_of_steps s 0 g ls st) (append_assoc first (decide or (length second) ∷ second) rest)
    ∙ two_lists (shared_rows e env) (where_reached or (eval e env) (shared_rows f env)) (rows_of_steps rest 0 g ls (more_things r st))
    (rows_of_steps (first ++ decide or (length second) ∷ (second ++ rest)) 0 g ls st) (rows_of_steps (decide or (length second) ∷ (second ++ rest)) 0 g ls (more_things one.0 st))
    (c (decide or (length second) ∷ (second ++ rest)) g ls st one.0 one.1)
    (by one.0 one.1 value.0 value.2 choice.value choice.truth choice.is choice.says choice.gives)
  where
    by : (t : Thing) → eval e (ls ++ g) ≡ done t → (w : Value) → plain w ≡ r → (v : Value) (b : Bool) → as_value t ≡ done v → truth_of v ≡ done b → (if b then done (truth_value true) else value_out (eval f (ls ++ g))) ≡ done w
        → rows_of_steps (decide or (length second) ∷ (second ++ rest)) 0 g ls (more_things t st) ≡ where_reached or (eval e (ls ++ g)) (shared_rows f (ls ++ g)) ++ rows_of_steps rest 0 g ls (more_things r st)
    by t p w same v true i s k =
        let it : truth_value true ≡ w = cc in
        top_says t st v true _ i s
        ∙ left_out second rest g ls (more_things (plain (truth_value true)) st)
        ∙ ap₂ (λ l u. l ++ rows_of_steps rest 0 g ls (more_things u st)) (sym (says_so (eval e (ls ++ g)) t v true [] (shared_rows f (ls ++ g)) p i s)) (ap plain it ∙ same)
    by t p w same v false i s k =
        top_says t st v false _ i s
        ∙ second_counts f second d rest g ls st w k
        ∙ ap₂ (λ l u. l ++ rows_of_steps rest 0 g ls (more_things u st)) (sym (says_so (eval e (ls ++ g)) t v false [] (shared_rows f (ls ++ g)) p i s)) same

two_count : (a : At) (p : Two) (e f : ExprTree) (first second : List StepTree) → Counts e first → Counts f second → Counts (two a p e f) (two_steps p first second)
two_count a (binary op) e f first second c d = both_count a (binary op) e f first second tt c d
two_count a and e f first second c d = and_counts a e f first second c d
two_count a or e f first second c d = or_counts_both a e f first second c d
two_count a look_up e f first second c d = both_count a look_up e f first second tt c d
two_count a key_exists e f first second c d = both_count a key_exists e f first second tt c d
two_count a merge e f first second c d = both_count a merge e f first second tt c d

-- ---- three parts

if_counts : (a : At) (n e f : ExprTree) (first second third : List StepTree) → Counts n first → Counts e second → Counts f third → Counts (three a if_else n e f) (first ++ (unless (length second + 1) ∷ (second ++ skip (length third) ∷ third)))
if_counts a n e f first second third c d k rest g ls st r q =
    let env : Env = ls ++ g in
    let one = and_done (eval n env) (λ t. chosen t (eval e env) (eval f env)) r q in
    let choice = chosen_done Thing one.0 (eval e env) (eval f env) r one.2 in
    let tail : List StepTree = unless (length second + 1) ∷ (second ++ skip (length third) ∷ (third ++ rest)) in
    ap (λ s. rows_of_steps s 0 g ls st) (append_assoc first (unless (length second + 1) ∷ (second ++ skip (length third) ∷ third)) rest ∙ ap (λ s. first ++ unless (length second + 1) ∷ s) (append_assoc second (skip (length third) ∷ third) rest))
    ∙ two_lists (shared_rows n env) (as_says (eval n env) (shared_rows e env) (shared_rows f env)) (rows_of_steps rest 0 g ls (more_things r st))
    (rows_of_steps (first ++ tail) 0 g ls st) (rows_of_steps tail 0 g ls (more_things one.0 st))
    (c tail g ls st one.0 one.1)
    (by one.0 one.1 choice.value choice.truth choice.is choice.says choice.gives)
  where
    by : (t : Thing) → eval n (ls ++ g) ≡ done t → (v : Value) (b : Bool) → as_value t ≡ done v → truth_of v ≡ done b → (if b then eval e (ls ++ g) else eval f (ls ++ g)) ≡ done r
        → rows_of_steps (unless (length second + 1) ∷ (second ++ skip (length third) ∷ (third ++ rest))) 0 g ls (more_things t st) ≡ as_says (eval n (ls ++ g)) (shared_rows e (ls ++ g)) (shared_rows f (ls ++ g)) ++ rows_of_steps rest 0 g ls (more_things r st)
    by t p v true i s h =
        top_says t st v true (λ (c : Bool). rows_of_steps (second ++ skip (length third) ∷ (third ++ rest)) (if c then 0 else length second + 1) g ls st) i s
        ∙ d (skip (length third) ∷ (third ++ rest)) g ls st r h
        ∙ ap₂ ◌++◌ (sym (says_so (eval n (ls ++ g)) t v true (shared_rows e (ls ++ g)) (shared_rows f (ls ++ g)) p i s)) (left_out third rest g ls (more_things r st))
    by t p v false i s h =
        top_says t st v false (λ (c : Bool). rows_of_steps (second ++ skip (length third) ∷ (third ++ rest)) (if c then 0 else length second + 1) g ls st) i s
        ∙ left_out_more second (skip (length third)) (third ++ rest) g ls st
        ∙ k rest g ls st r h
        ∙ ap (λ l. l ++ rows_of_steps rest 0 g ls (more_things r st)) (sym (says_so (eval n (ls ++ g)) t v false (shared_rows e (ls ++ g)) (shared_rows f (ls ++ g)) p i s))

-- the second and the third part of a form that evaluates all are evaluated
three_values : (h : Value → Value → Value → Outcome Value) (t : Thing) (o p : Outcome Thing) (r : Thing) → on_three h t o p ≡ done r → (u : Thing) × (w : Thing) × (o ≡ done u) × (p ≡ done w)
three_values h t o p r q =
    let all = map_done (and_then (as_value t) (λ v. and_then (value_out o) (λ w. and_then (value_out p) (h v w)))) plain r q in
    let first = and_done (as_value t) (λ v. and_then (value_out o) (λ w. and_then (value_out p) (h v w))) all.0 all.1 in
    let second = and_done (value_out o) (λ w. and_then (value_out p) (h first.0 w)) all.0 first.2 in
    let third = and_done (value_out p) (h first.0 second.0) all.0 second.2 in
    let u = and_done o as_value second.0 second.1 in
    let w = and_done p as_value third.0 third.1 in (u.0, w.0, u.1, w.1)

others_done : (p : Three) (t : Thing) (o q : Outcome Thing) (r : Thing) → AreAllEvaluated p → three_thing p t o q ≡ done r → (u : Thing) × (w : Thing) × (o ≡ done u) × (q ≡ done w)
others_done if_else t o q r all h = absurd all
others_done select t o q r all h = three_values selected t o q r h
others_done slice t o q r all h = three_values sliced t o q r h

arms_both : (p : Three) (o : Outcome Thing) (xs ys : List ℕ) → AreAllEvaluated p → of_arms p o xs ys ≡ xs ++ ys
arms_both if_else o xs ys all = absurd all
arms_both select o xs ys all = refl
arms_both slice o xs ys all = refl

all_three_count : (a : At) (p : Three) (n e f : ExprTree) (first second third : List StepTree) → AreAllEvaluated p → Counts n first → Counts e second → Counts f third → Counts (three a p n e f) (first ++ (second ++ (third ++ apply_three p ∷ [])))
all_three_count a p n e f first second third all c d k rest g ls st r q =
    let env : Env = ls ++ g in
    let last : List StepTree = apply_three p ∷ rest in
    let one = and_done (eval n env) (λ t. three_thing p t (eval e env) (eval f env)) r q in
    let more = others_done p one.0 (eval e env) (eval f env) r all one.2 in
    let made : three_thing p one.0 (done more.0) (done more.1) ≡ done r = sym (ap₂ (three_thing p one.0) more.2 more.3) ∙ one.2 in
    let end : List ℕ = rows_of_steps rest 0 g ls (more_things r st) in
    ap (λ s. rows_of_steps s 0 g ls st) (append_assoc first (second ++ (third ++ apply_three p ∷ [])) rest ∙ ap (λ s. first ++ s) (append_assoc second (third ++ apply_three p ∷ []) rest ∙ ap (λ s. second ++ s) (append_assoc third (apply_three p ∷ []) rest)))
    ∙ two_lists (shared_rows n env) (shared_rows e env ++ shared_rows f env) end
    (rows_of_steps (first ++ (second ++ (third ++ last))) 0 g ls st) (rows_of_steps (second ++ (third ++ last)) 0 g ls (more_things one.0 st))
    (c (second ++ (third ++ last)) g ls st one.0 one.1)
    (two_lists (shared_rows e env) (shared_rows f env) end
    (rows_of_steps (second ++ (third ++ last)) 0 g ls (more_things one.0 st)) (rows_of_steps (third ++ last) 0 g ls (more_things more.0 (more_things one.0 st)))
    (d (third ++ last) g ls (more_things one.0 st) more.0 more.2)
    (k last g ls (more_things more.0 (more_things one.0 st)) more.1 more.3 ∙ ap (λ w. shared_rows f env ++ if_done (map_out (put_on st) w) (λ u. rows_of_steps rest 0 g ls u)) made))
    ∙ ap (λ l. (shared_rows n env ++ l) ++ end) (sym (arms_both p (eval n env) (shared_rows e env) (shared_rows f env) all))

three_count : (a : At) (p : Three) (n e f : ExprTree) (first second third : List StepTree) → Counts n first → Counts e second → Counts f third → Counts (three a p n e f) (three_steps p first second third)
three_count a if_else n e f first second third c d k = if_counts a n e f first second third c d k
three_count a select n e f first second third c d k = all_three_count a select n e f first second third tt c d k
three_count a slice n e f first second third c d k = all_three_count a slice n e f first second third tt c d k

-- ---- a `let`

let_counts : (a : At) (b : Binder) (e f : ExprTree) (first second : List StepTree) → Counts e first → Counts f second → Counts (let_in a b e f) (first ++ bind b.sym.0 ∷ (second ++ unbind ∷ []))
let_counts a b e f first second c d rest g ls st r q =
    let env : Env = ls ++ g in
    let one = and_done (eval e env) (λ t. eval f ((b.sym.0, t) ∷ env)) r q in
    let tail : List StepTree = bind b.sym.0 ∷ (second ++ unbind ∷ rest) in
    ap (λ s. rows_of_steps s 0 g ls st) (append_assoc first (bind b.sym.0 ∷ (second ++ unbind ∷ [])) rest ∙ ap (λ s. first ++ bind b.sym.0 ∷ s) (append_assoc second (unbind ∷ []) rest))
    ∙ two_lists (shared_rows e env) (if_done (eval e env) (λ t. shared_rows f ((b.sym.0, t) ∷ env))) (rows_of_steps rest 0 g ls (more_things r st))
    (rows_of_steps (first ++ tail) 0 g ls st) (rows_of_steps tail 0 g ls (more_things one.0 st))
    (c tail g ls st one.0 one.1)
    (d (unbind ∷ rest) g ((b.sym.0, one.0) ∷ ls) st r one.2
    ∙ ap (λ w. if_done w (λ t. shared_rows f ((b.sym.0, t) ∷ env)) ++ rows_of_steps rest 0 g ls (more_things r st)) (sym one.1))

-- ---- an `iterate`

turns_count : (a : At) (e : ExprTree) (b : Binder) (f : ExprTree) (steps : List StepTree) → Counts e steps → Counts (iterate a e b f) (steps ++ run_turns (iterate a e b f) ∷ [])
turns_count a e b f steps c rest g ls st r q =
    let env : Env = ls ++ g in
    let node : ExprTree = iterate a e b f in
    let state = and_done (value_out (eval e env)) (turns_from node env turn_limit) r q in
    let one = and_done (eval e env) as_value state.0 state.1 in
    ap (λ s. rows_of_steps s 0 g ls st) (append_assoc steps (run_turns node ∷ []) rest)
    ∙ c (run_turns node ∷ rest) g ls st one.0 one.1
    ∙ ap (λ w. shared_rows e env ++ if_done (and_then w (turns_from node env turn_limit)) (λ u. rows_of_steps rest 0 g ls (more_things u st))) one.2
    ∙ ap (λ w. shared_rows e env ++ if_done w (λ u. rows_of_steps rest 0 g ls (more_things u st))) state.2

-- ---- a vector or a struct

newest_are : (ts st : Things) → newest (count_things ts) (onto ts st) ≡ ts
newest_are no_things st = refl
newest_are (more_things t ts) st = ap (more_things t) (newest_are ts st)

below_are : (ts st : Things) → below (count_things ts) (onto ts st) ≡ st
below_are no_things st = refl
below_are (more_things t ts) st = below_are ts st

many_made : (p : Many) (n : ℕ) (ts st : Things) → count_things ts ≡ n → many_stack p n (onto ts st) ≡ map_out (put_on st) (many_thing p ts)
many_made p n ts st h =
    ap (λ k. many_stack p k (onto ts st)) (sym h)
    ∙ ap (λ u. map_out (put_on u) (many_thing p (newest (count_things ts) (onto ts st)))) (below_are ts st)
    ∙ ap (λ us. map_out (put_on st) (many_thing p us)) (newest_are ts st)

many_counts : (a : At) (p : Many) (es : ExprTrees) (steps : List StepTree) → CountsAll es steps → Counts (many a p es) (steps ++ apply_many p (count_exprs es) ∷ [])
many_counts a p es steps c rest g ls st r q =
    let env : Env = ls ++ g in
    let all = and_done (eval_all es env) (many_thing p) r q in
    ap (λ s. rows_of_steps s 0 g ls st) (append_assoc steps (apply_many p (count_exprs es) ∷ []) rest)
    ∙ c (apply_many p (count_exprs es) ∷ rest) g ls st all.0 all.1
    ∙ ap (λ w. shared_rows_of_all es env ++ if_done w (λ u. rows_of_steps rest 0 g ls u)) (many_made p (count_exprs es) all.0 st (count_all es env all.0 all.1) ∙ ap (map_out (put_on st)) all.2)

no_parts_count : CountsAll no_exprs []
no_parts_count rest g ls st ts q = let none : no_things ≡ ts = cc in ap (λ us. rows_of_steps rest 0 g ls (onto us st)) none

parts_count : (e : ExprTree) (es : ExprTrees) (first others : List StepTree) → Counts e first → CountsAll es others → CountsAll (more_exprs e es) (others ++ first)
parts_count e es first others c d rest g ls st ts q =
    let env : Env = ls ++ g in
    let one = and_done (eval e env) (λ t. map_out (more_things t) (eval_all es env)) ts q in
    let more = map_done (eval_all es env) (more_things one.0) ts one.2 in
    ap (λ s. rows_of_steps s 0 g ls st) (append_assoc others first rest)
    ∙ two_lists (shared_rows_of_all es env) (shared_rows e env) (rows_of_steps rest 0 g ls (onto ts st))
    (rows_of_steps (others ++ (first ++ rest)) 0 g ls st) (rows_of_steps (first ++ rest) 0 g ls (onto more.0 st))
    (d (first ++ rest) g ls st more.0 more.1)
    (c rest g ls (onto more.0 st) one.0 one.1 ∙ ap (λ us. shared_rows e env ++ rows_of_steps rest 0 g ls (onto us st)) more.2)

-- ---- legs

elements_are : (v : Value) (vs : List Value) → elements_of v ≡ done vs → elements_of_thing (plain v) ≡ vs
elements_are (number k x) vs q = let no : ⊥ = cc in absurd no
elements_are (list ws) vs q = let same : list_of_values ws ≡ vs = cc in same
elements_are (struct ws) vs q = let no : ⊥ = cc in absurd no
elements_are (dict es) vs q = let no : ⊥ = cc in absurd no

whole_leg_counts : (e : ExprTree) (steps : List StepTree) → Counts e steps → CountsLeg (whole e) steps
whole_leg_counts e steps c rest g ls st vs q =
    let value = and_done (value_out (eval e (ls ++ g))) elements_of vs q in
    (plain value.0, elements_are value.0 vs value.2, c rest g ls st (plain value.0) (value_done (eval e (ls ++ g)) value.0 value.1))

listed : (vs : List Value) → list_of_values (values vs) ≡ vs
listed [] = refl
listed (v ∷ vs) = ap (λ l. v ∷ l) (listed vs)

strided_leg_counts : (e f i j : ExprTree) (first second third fourth : List StepTree) → Counts e first → Counts f second → Counts i third → Counts j fourth → CountsLeg (strided e f i j) (first ++ (second ++ (third ++ (fourth ++ stride ∷ []))))
strided_leg_counts e f i j first second third fourth c d k m rest g ls st vs q =
    let env : Env = ls ++ g in
    let v = and_done (value_out (eval e env)) (λ v. and_then (value_out (eval f env)) (λ s. and_then (value_out (eval i env)) (λ n. and_then (value_out (eval j env)) (λ h. strided_of v s n h)))) vs q in
    let s = and_done (value_out (eval f env)) (λ s. and_then (value_out (eval i env)) (λ n. and_then (value_out (eval j env)) (λ h. strided_of v.0 s n h))) vs v.2 in
    let n = and_done (value_out (eval i env)) (λ n. and_then (value_out (eval j env)) (λ h. strided_of v.0 s.0 n h)) vs s.2 in
    let h = and_done (value_out (eval j env)) (λ h. strided_of v.0 s.0 n.0 h) vs n.2 in
    let t : Thing = plain (list (values vs)) in
    let end : List ℕ = rows_of_steps rest 0 g ls (more_things t st) in
    let third_on : List StepTree = third ++ (fourth ++ stride ∷ rest) in
    let second_on : List StepTree = second ++ third_on in
    let one : Things = more_things (plain v.0) st in
    let two : Things = more_things (plain s.0) one in
    let three : Things = more_things (plain n.0) two in (
      t,
      listed vs,
      ap (λ s. rows_of_steps s 0 g ls st)
          (append_assoc first (second ++ (third ++ (fourth ++ stride ∷ []))) rest ∙ ap (λ s. first ++ s) (append_assoc second (third ++ (fourth ++ stride ∷ [])) rest ∙ ap (λ s. second ++ s) (append_assoc third (fourth ++ stride ∷ []) rest ∙ ap (λ s. third ++ s) (append_assoc fourth (stride ∷ []) rest))))
          ∙ two_lists (shared_rows e env) (shared_rows f env ++ (shared_rows i env ++ shared_rows j env)) end (rows_of_steps (first ++ second_on) 0 g ls st) (rows_of_steps second_on 0 g ls one)
          (c second_on g ls st (plain v.0) (value_done (eval e env) v.0 v.1))
          (two_lists (shared_rows f env) (shared_rows i env ++ shared_rows j env) end (rows_of_steps second_on 0 g ls one) (rows_of_steps third_on 0 g ls two)
          (d third_on g ls one (plain s.0) (value_done (eval f env) s.0 s.1))
          (two_lists (shared_rows i env) (shared_rows j env) end (rows_of_steps third_on 0 g ls two) (rows_of_steps (fourth ++ stride ∷ rest) 0 g ls three)
          (k (fourth ++ stride ∷ rest) g ls two (plain n.0) (value_done (eval i env) n.0 n.1))
          (m (stride ∷ rest) g ls three (plain h.0) (value_done (eval j env) h.0 h.1)
          ∙ ap (λ w. shared_rows j env ++ if_done (map_out (λ us. more_things (plain (list (values us))) st) w) (λ u. rows_of_steps rest 0 g ls u)) h.2))),
    )

no_legs_count : CountsLegs no_legs []
no_legs_count rest g ls st lists q = let same : lists_in no_legs (ls ++ g) st ≡ lists = cc in (st, same, refl, refl)

read_in : (l : LegTree) (js : LegTrees) (env : Env) (pile : Things) → is_read l ≡ true → lists_in (more_legs l js) env pile ≡ or_none (eval_leg l env) ∷ lists_in js env pile
read_in l js env pile r = ap (λ (b : Bool). if b then or_none (eval_leg l env) ∷ lists_in js env pile else elements_of_thing (first_of pile) ∷ lists_in js env (rest_of pile)) r

stacked_in : (l : LegTree) (js : LegTrees) (env : Env) (pile : Things) → is_read l ≡ false → lists_in (more_legs l js) env pile ≡ elements_of_thing (first_of pile) ∷ lists_in js env (rest_of pile)
stacked_in l js env pile r = ap (λ (b : Bool). if b then or_none (eval_leg l env) ∷ lists_in js env pile else elements_of_thing (first_of pile) ∷ lists_in js env (rest_of pile)) r

-- the leg isn't read where it stands
stacked_legs_count : (l : LegTree) (js : LegTrees) (first others : List StepTree) → is_read l ≡ false → CountsLeg l first → CountsLegs js others → CountsLegs (more_legs l js) (others ++ first)
stacked_legs_count l js first others r c d rest g ls st lists q =
    let env : Env = ls ++ g in
    let one = and_done (eval_leg l env) (λ vs. map_out (λ more. vs ∷ more) (eval_legs js env)) lists q in
    let more = map_done (eval_legs js env) (λ more. one.0 ∷ more) lists one.2 in
    let under = d (first ++ rest) g ls st more.0 more.1 in
    let top = c rest g ls under.0 one.0 one.1 in
    let pile : Things = more_things top.0 under.0 in (
      pile,
      stacked_in l js env pile r ∙ ap₂ ◌∷◌ top.1 under.1 ∙ more.2,
      ap (λ (b : Bool). if b then below_legs js pile else below_legs js under.0) r ∙ under.2,
      ap (λ s. rows_of_steps s 0 g ls st) (append_assoc others first rest)
          ∙ two_lists (shared_rows_of_legs js env) (shared_rows_of_leg l env) (rows_of_steps rest 0 g ls pile) (rows_of_steps (others ++ (first ++ rest)) 0 g ls st) (rows_of_steps (first ++ rest) 0 g ls under.0) under.3 top.2,
    )

-- the leg is read where it stands
read_legs_count : (e : ExprTree) (js : LegTrees) (others : List StepTree) → is_path e ≡ true → CountsLegs js others → CountsLegs (more_legs (whole e) js) (others ++ [])
read_legs_count e js others r d rest g ls st lists q =
    let env : Env = ls ++ g in
    let one = and_done (eval_leg (whole e) env) (λ vs. map_out (λ more. vs ∷ more) (eval_legs js env)) lists q in
    let more = map_done (eval_legs js env) (λ more. one.0 ∷ more) lists one.2 in
    let under = d rest g ls st more.0 more.1 in (
      under.0,
      read_in (whole e) js env under.0 r ∙ ap₂ ◌∷◌ (ap or_none one.1) under.1 ∙ more.2,
      ap (λ (b : Bool). if b then below_legs js under.0 else below_legs js (rest_of under.0)) r ∙ under.2,
      ap (λ s. rows_of_steps s 0 g ls st) (append_assoc others [] rest)
          ∙ two_lists (shared_rows_of_legs js env) (shared_rows e env) (rows_of_steps rest 0 g ls under.0) (rows_of_steps (others ++ rest) 0 g ls st) (rows_of_steps rest 0 g ls under.0) under.3
          (ap (λ l. l ++ rows_of_steps rest 0 g ls under.0) (sym (path_has_none e env r))),
    )

whole_legs_count : (e : ExprTree) (js : LegTrees) (first others : List StepTree) → Counts e first → CountsLegs js others → CountsLegs (more_legs (whole e) js) (others ++ (if is_path e then [] else first))
whole_legs_count e js first others c d = by (is_path e) refl
  where
    by : (b : Bool) → is_path e ≡ b → CountsLegs (more_legs (whole e) js) (others ++ (if b then [] else first))
    by true r = read_legs_count e js others r d
    by false r = stacked_legs_count (whole e) js first others r (whole_leg_counts e first c) d

-- ---- a loop

loop_counts : (a : At) (js : LegTrees) (e : ExprTree) (b n x : Binder) (f : ExprTree) (i : ℕ) (first second : List StepTree) → CountsLegs js first → Counts e second → Counts (loop a js e b n x f) (first ++ (second ++ run_loop (loop a js e b n x f) i ∷ []))
loop_counts a js e b n x f i first second c d rest g ls st r q =
    let env : Env = ls ++ g in
    let node : ExprTree = loop a js e b n x f in
    let over : List (List Value) → Outcome Thing = λ legs. and_then (rows_of legs) (λ rows. and_then (eval e env) (λ s. run (number_from 0 rows) s (λ r t. eval f (with_row b n x t (plain (whole_number r.0)) (plain r.1) env)))) in
    let legs = and_done (eval_legs js env) over r q in
    let rows = and_done (rows_of legs.0) (λ rows. and_then (eval e env) (λ s. run (number_from 0 rows) s (λ r t. eval f (with_row b n x t (plain (whole_number r.0)) (plain r.1) env)))) r legs.2 in
    let start = and_done (eval e env) (λ s. run (number_from 0 rows.0) s (λ r t. eval f (with_row b n x t (plain (whole_number r.0)) (plain r.1) env))) r rows.2 in
    let tail : List StepTree = run_loop node i ∷ rest in
    let pile = c (second ++ tail) g ls st legs.0 legs.1 in
    let end : List ℕ = rows_of_steps rest 0 g ls (more_things r st) in
    let own : List ℕ = if_done (and_then (eval_legs js env) rows_of) (λ (rows : List Value). length rows ∷ []) in
    let count : own ≡ length (rows_in (lists_in js env pile.0)) ∷ [] =
    ap (λ w. if_done (and_then w rows_of) (λ (rows : List Value). length rows ∷ [])) legs.1
    ∙ ap (λ w. if_done w (λ (rows : List Value). length rows ∷ [])) rows.1
    ∙ ap (λ w. length (or_none w) ∷ []) (sym rows.1)
    ∙ ap (λ l. length (rows_in l) ∷ []) (sym pile.1) in
    ap (λ s. rows_of_steps s 0 g ls st) (append_assoc first (second ++ run_loop node i ∷ []) rest ∙ ap (λ s. first ++ s) (append_assoc second (run_loop node i ∷ []) rest))
    ∙ two_lists (shared_rows_of_legs js env) (shared_rows e env ++ own) end (rows_of_steps (first ++ (second ++ tail)) 0 g ls st) (rows_of_steps (second ++ tail) 0 g ls pile.0) pile.3
    (two_lists (shared_rows e env) own end (rows_of_steps (second ++ tail) 0 g ls pile.0) (rows_of_steps tail 0 g ls (more_things start.0 pile.0))
    (d tail g ls pile.0 start.0 start.1)
    (ap (λ w. length (rows_in (lists_in js env pile.0)) ∷ if_done w (λ t. rows_of_steps rest 0 g ls (more_things t (below_legs js pile.0)))) q
    ∙ ap₂ (λ l u. l ++ rows_of_steps rest 0 g ls (more_things r u)) (sym count) pile.2))

-- ---- every expression

mutual
  pub steps_count : (e : ExprTree) (k : ℕ) → Counts e (steps_of e k)
  steps_count (leaf a l) k = whole_counts (leaf a l) refl
  steps_count (one a p e) k = or_counts (one a p e) _ (one_counts a p e (steps_of e k) (steps_count e k))
  steps_count (two a p e f) k = or_counts (two a p e f) _ (two_count a p e f (steps_of e k) (steps_of f (k + loops e)) (steps_count e k) (steps_count f (k + loops e)))
  steps_count (three a p c e f) k =
      or_counts (three a p c e f) _ (three_count a p c e f (steps_of c k) (steps_of e (k + loops c)) (steps_of f (k + loops c + loops e)) (steps_count c k) (steps_count e (k + loops c)) (steps_count f (k + loops c + loops e)))
  steps_count (many a p es) k = or_counts (many a p es) _ (many_counts a p es (all_steps es k) (all_count es k))
  steps_count (let_in a b e f) k = or_counts (let_in a b e f) _ (let_counts a b e f (steps_of e k) (steps_of f (k + loops e)) (steps_count e k) (steps_count f (k + loops e)))
  steps_count (loop a ls e b n x f) k = loop_counts a ls e b n x f k (legs_steps ls (k + 1)) (steps_of e (k + 1 + loops_in_legs ls)) (legs_count ls (k + 1)) (steps_count e (k + 1 + loops_in_legs ls))
  steps_count (iterate a e b f) k = or_counts (iterate a e b f) _ (turns_count a e b f (steps_of e k) (steps_count e k))

  all_count : (es : ExprTrees) (k : ℕ) → CountsAll es (all_steps es k)
  all_count no_exprs k = no_parts_count
  all_count (more_exprs e es) k = parts_count e es (steps_of e k) (all_steps es (k + loops e)) (steps_count e k) (all_count es (k + loops e))

  legs_count : (ls : LegTrees) (k : ℕ) → CountsLegs ls (legs_steps ls k)
  legs_count no_legs k = no_legs_count
  legs_count (more_legs (whole e) ls) k = whole_legs_count e ls (steps_of e k) (legs_steps ls (k + loops e)) (steps_count e k) (legs_count ls (k + loops e))
  legs_count (more_legs (strided e f i j) ls) k =
      stacked_legs_count (strided e f i j) ls _ (legs_steps ls (k + (loops e + loops f + loops i + loops j))) refl
      (strided_leg_counts e f i j (steps_of e k) (steps_of f (k + loops e)) (steps_of i (k + loops e + loops f)) (steps_of j (k + loops e + loops f + loops i)) (steps_count e k) (steps_count f (k + loops e)) (steps_count i (k + loops e + loops f)) (steps_count j (k + loops e + loops f + loops i)))
      (legs_count ls (k + (loops e + loops f + loops i + loops j)))

-- a program whose body comes to a thing
pub program_counts : (p : ProgramTree) (vs : List Value) (t : Thing) → eval p.body (with_arguments p.params vs) ≡ done t
    → rows_of_steps (steps_of p.body 0) 0 (with_arguments p.params vs) [] no_things ≡ program_rows p vs
program_counts p vs t q =
    ap (λ s. rows_of_steps s 0 (with_arguments p.params vs) [] no_things) (sym (append-nil (steps_of p.body 0)))
    ∙ steps_count p.body 0 [] (with_arguments p.params vs) [] no_things t q
    ∙ append-nil (program_rows p vs)
