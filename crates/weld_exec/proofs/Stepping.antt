-- A step that can be taken leads on.
use Rattle.std.proofs.Common.{◌≡◌, ℕ, zero, suc, ◌<◌, Bool, true, false, if◌then◌else◌, List, [], ◌∷◌, ◌++◌, drop, length, refl, sym, ap, ◌∙◌, subst, arith}
use Rattle.weld_data.specs.Value.{Value, list, values, list_of_values}
use Rattle.weld_tree.specs.ExprTree.{ExprTree, One, Two, Three, Many}
use Rattle.weld_builders.specs.Outcome.{Outcome, done, fault, stuck, map_out}
use Rattle.weld_meaning.specs.Thing.{Thing, plain, Things, no_things, more_things, first_of, rest_of}
use Rattle.weld_meaning.specs.Evaluation.{Env, eval, one_thing, two_thing, three_thing, many_thing, truth_of, truth_value, turn_limit}
use Rattle.weld_eval.specs.Fit.{IsFit}
use Rattle.weld_eval_forms.specs.FormTakes.{ManyTakes}
use Rattle.weld_eval_forms.specs.Legs.{IsVector, elements_of_thing, strided_elements}
use Rattle.weld_eval_plain.specs.Turns.{turns_from}
use Rattle.weld_plan.specs.StepTree.{StepTree, compute, apply_one, apply_two, apply_three, apply_many, decide, unless, skip, bind, unbind, stride, run_turns}
use Rattle.weld_plan.specs.Leads.{GoesOn, Where, IsTruthThing, settles, onto, count_things, Leads}
use Rattle.weld_exec.specs.Stacked.{put_on, TakesOne, one_stack, TakesTwo, two_stack, TakesThree, three_stack, newest, below, AreSoMany, TakesMany, many_stack, TakesStride, stride_stack, IsSomething, IsTruthOnTop, IsStateOnTop, IsAlone, TakesStep, after_step, IsWork}

-- ---- what goes on

goes_done : {A : Type 0} (P : A → Type 0) (w : Outcome A) (o : Outcome Thing) (x : A) → GoesOn w P o → w ≡ done x → P x
goes_done P w o x h q = subst (λ v. GoesOn v P o) q h

goes_fault : {A : Type 0} (P : A → Type 0) (w : Outcome A) (o : Outcome Thing) → GoesOn w P o → w ≡ fault → o ≡ fault
goes_fault P w o h q = subst (λ v. GoesOn v P o) q h

-- the stack after a thing was put on it
put_done : {A : Type 0} (f : A → Things) (P : Things → Type 0) (w : Outcome A) (o : Outcome Thing) (st : Things) → GoesOn w (λ r. P (f r)) o → map_out f w ≡ done st → P st
put_done f P (done x) o st h q = let same : f x ≡ st = cc in subst P same h
put_done f P fault o st h q = let no : ⊥ = cc in absurd no
put_done f P stuck o st h q = let no : ⊥ = cc in absurd no

put_fault : {A : Type 0} (f : A → Things) (P : Things → Type 0) (w : Outcome A) (o : Outcome Thing) → GoesOn w (λ r. P (f r)) o → map_out f w ≡ fault → o ≡ fault
put_fault f P (done x) o h q = let no : ⊥ = cc in absurd no
put_fault f P fault o h q = h
put_fault f P stuck o h q = absurd h

-- ---- steps

pub compute_fits : (e : ExprTree) (rest : List StepTree) (g ls : Env) (st : Things) (o : Outcome Thing) → Leads (compute e ∷ rest) 0 g ls st o → IsFit e (ls ++ g)
compute_fits e rest g ls st o h = h.0

pub compute_on : (e : ExprTree) (rest : List StepTree) (g ls : Env) (st : Things) (o : Outcome Thing) (t : Thing) → Leads (compute e ∷ rest) 0 g ls st o → eval e (ls ++ g) ≡ done t → Leads rest 0 g ls (more_things t st) o
compute_on e rest g ls st o t h q = goes_done (λ t. Leads rest 0 g ls (more_things t st) o) (eval e (ls ++ g)) o t h.1 q

pub compute_faults : (e : ExprTree) (rest : List StepTree) (g ls : Env) (st : Things) (o : Outcome Thing) → Leads (compute e ∷ rest) 0 g ls st o → eval e (ls ++ g) ≡ fault → o ≡ fault
compute_faults e rest g ls st o h q = goes_fault (λ t. Leads rest 0 g ls (more_things t st) o) (eval e (ls ++ g)) o h.1 q

pub one_takes : (p : One) (rest : List StepTree) (g ls : Env) (st : Things) (o : Outcome Thing) → Leads (apply_one p ∷ rest) 0 g ls st o → TakesOne p st
one_takes p rest g ls no_things o h = h
one_takes p rest g ls (more_things t st) o h = h.0

pub one_on : (p : One) (rest : List StepTree) (g ls : Env) (st after : Things) (o : Outcome Thing) → Leads (apply_one p ∷ rest) 0 g ls st o → one_stack p st ≡ done after → Leads rest 0 g ls after o
one_on p rest g ls no_things after o h q = absurd h
one_on p rest g ls (more_things t st) after o h q = put_done (put_on st) (λ u. Leads rest 0 g ls u o) (one_thing p t) o after h.1 q

pub one_faults : (p : One) (rest : List StepTree) (g ls : Env) (st : Things) (o : Outcome Thing) → Leads (apply_one p ∷ rest) 0 g ls st o → one_stack p st ≡ fault → o ≡ fault
one_faults p rest g ls no_things o h q = absurd h
one_faults p rest g ls (more_things t st) o h q = put_fault (put_on st) (λ u. Leads rest 0 g ls u o) (one_thing p t) o h.1 q

pub two_takes : (p : Two) (rest : List StepTree) (g ls : Env) (st : Things) (o : Outcome Thing) → Leads (apply_two p ∷ rest) 0 g ls st o → TakesTwo p st
two_takes p rest g ls no_things o h = h
two_takes p rest g ls (more_things u no_things) o h = h
two_takes p rest g ls (more_things u (more_things t st)) o h = (h.0, h.1)

pub two_on : (p : Two) (rest : List StepTree) (g ls : Env) (st after : Things) (o : Outcome Thing) → Leads (apply_two p ∷ rest) 0 g ls st o → two_stack p st ≡ done after → Leads rest 0 g ls after o
two_on p rest g ls no_things after o h q = absurd h
two_on p rest g ls (more_things u no_things) after o h q = absurd h
two_on p rest g ls (more_things u (more_things t st)) after o h q = put_done (put_on st) (λ u. Leads rest 0 g ls u o) (two_thing p t (done u)) o after h.2 q

pub two_faults : (p : Two) (rest : List StepTree) (g ls : Env) (st : Things) (o : Outcome Thing) → Leads (apply_two p ∷ rest) 0 g ls st o → two_stack p st ≡ fault → o ≡ fault
two_faults p rest g ls no_things o h q = absurd h
two_faults p rest g ls (more_things u no_things) o h q = absurd h
two_faults p rest g ls (more_things u (more_things t st)) o h q = put_fault (put_on st) (λ u. Leads rest 0 g ls u o) (two_thing p t (done u)) o h.2 q

pub three_takes : (p : Three) (rest : List StepTree) (g ls : Env) (st : Things) (o : Outcome Thing) → Leads (apply_three p ∷ rest) 0 g ls st o → TakesThree p st
three_takes p rest g ls no_things o h = h
three_takes p rest g ls (more_things w no_things) o h = h
three_takes p rest g ls (more_things w (more_things u no_things)) o h = h
three_takes p rest g ls (more_things w (more_things u (more_things t st))) o h = (h.0, h.1)

pub three_on : (p : Three) (rest : List StepTree) (g ls : Env) (st after : Things) (o : Outcome Thing) → Leads (apply_three p ∷ rest) 0 g ls st o → three_stack p st ≡ done after → Leads rest 0 g ls after o
three_on p rest g ls no_things after o h q = absurd h
three_on p rest g ls (more_things w no_things) after o h q = absurd h
three_on p rest g ls (more_things w (more_things u no_things)) after o h q = absurd h
three_on p rest g ls (more_things w (more_things u (more_things t st))) after o h q = put_done (put_on st) (λ u. Leads rest 0 g ls u o) (three_thing p t (done u) (done w)) o after h.2 q

pub three_faults : (p : Three) (rest : List StepTree) (g ls : Env) (st : Things) (o : Outcome Thing) → Leads (apply_three p ∷ rest) 0 g ls st o → three_stack p st ≡ fault → o ≡ fault
three_faults p rest g ls no_things o h q = absurd h
three_faults p rest g ls (more_things w no_things) o h q = absurd h
three_faults p rest g ls (more_things w (more_things u no_things)) o h q = absurd h
three_faults p rest g ls (more_things w (more_things u (more_things t st))) o h q = put_fault (put_on st) (λ u. Leads rest 0 g ls u o) (three_thing p t (done u) (done w)) o h.2 q

newest_onto : (ts st : Things) → newest (count_things ts) (onto ts st) ≡ ts
newest_onto no_things st = refl
newest_onto (more_things t ts) st = ap (more_things t) (newest_onto ts st)

below_onto : (ts st : Things) → below (count_things ts) (onto ts st) ≡ st
below_onto no_things st = refl
below_onto (more_things t ts) st = below_onto ts st

many_onto : (ts st : Things) → AreSoMany (count_things ts) (onto ts st)
many_onto no_things st = tt
many_onto (more_things t ts) st = many_onto ts st

pub many_takes : (p : Many) (n : ℕ) (rest : List StepTree) (g ls : Env) (st : Things) (o : Outcome Thing) → Leads (apply_many p n ∷ rest) 0 g ls st o → TakesMany p n st
many_takes p n rest g ls st o h =
    subst (λ s. TakesMany p n s) (sym h.2) (subst (λ k. TakesMany p k (onto h.0 h.1)) h.3
    (record { there = many_onto h.0 h.1; takes = subst (λ ts. ManyTakes p ts) (sym (newest_onto h.0 h.1)) h.4 }))

many_same : (p : Many) (ts st : Things) → many_stack p (count_things ts) (onto ts st) ≡ map_out (put_on st) (many_thing p ts)
many_same p ts st = ap (λ u. map_out (put_on u) (many_thing p (newest (count_things ts) (onto ts st)))) (below_onto ts st) ∙ ap (λ us. map_out (put_on st) (many_thing p us)) (newest_onto ts st)

pub many_is : (p : Many) (n : ℕ) (st ts under : Things) → st ≡ onto ts under → count_things ts ≡ n → many_stack p n st ≡ map_out (put_on under) (many_thing p ts)
many_is p n st ts under is count = ap (many_stack p n) is ∙ ap (λ k. many_stack p k (onto ts under)) (sym count) ∙ many_same p ts under

pub many_on : (p : Many) (n : ℕ) (rest : List StepTree) (g ls : Env) (st after : Things) (o : Outcome Thing) → Leads (apply_many p n ∷ rest) 0 g ls st o → many_stack p n st ≡ done after → Leads rest 0 g ls after o
many_on p n rest g ls st after o h q = put_done (put_on h.1) (λ u. Leads rest 0 g ls u o) (many_thing p h.0) o after h.5 (sym (many_is p n st h.0 h.1 h.2 h.3) ∙ q)

pub many_faults : (p : Many) (n : ℕ) (rest : List StepTree) (g ls : Env) (st : Things) (o : Outcome Thing) → Leads (apply_many p n ∷ rest) 0 g ls st o → many_stack p n st ≡ fault → o ≡ fault
many_faults p n rest g ls st o h q = put_fault (put_on h.1) (λ u. Leads rest 0 g ls u o) (many_thing p h.0) o h.5 (sym (many_is p n st h.0 h.1 h.2 h.3) ∙ q)

pub stride_takes : (rest : List StepTree) (g ls : Env) (st : Things) (o : Outcome Thing) → Leads (stride ∷ rest) 0 g ls st o → TakesStride st
stride_takes rest g ls no_things o h = h
stride_takes rest g ls (more_things d no_things) o h = h
stride_takes rest g ls (more_things d (more_things e no_things)) o h = h
stride_takes rest g ls (more_things d (more_things e (more_things s no_things))) o h = h
stride_takes rest g ls (more_things d (more_things e (more_things s (more_things v st)))) o h = (h.0, h.1, h.2, h.3)

listed : (vs : List Value) → list_of_values (values vs) ≡ vs
listed [] = refl
listed (v ∷ vs) = ap (λ l. v ∷ l) (listed vs)

as_list : (st : Things) (K : Things → Type 0) (w : Outcome (List Value)) (o : Outcome Thing) → GoesOn w (λ vs. (t : Thing) → IsVector t → elements_of_thing t ≡ vs → K (more_things t st)) o → GoesOn w (λ vs. K (more_things (plain (list (values vs))) st)) o
as_list st K (done vs) o h = h (plain (list (values vs))) tt (listed vs)
as_list st K fault o h = h
as_list st K stuck o h = h

pub stride_on : (rest : List StepTree) (g ls : Env) (st after : Things) (o : Outcome Thing) → Leads (stride ∷ rest) 0 g ls st o → stride_stack st ≡ done after → Leads rest 0 g ls after o
stride_on rest g ls no_things after o h q = absurd h
stride_on rest g ls (more_things d no_things) after o h q = absurd h
stride_on rest g ls (more_things d (more_things e no_things)) after o h q = absurd h
stride_on rest g ls (more_things d (more_things e (more_things s no_things))) after o h q = absurd h
stride_on rest g ls (more_things d (more_things e (more_things s (more_things v st)))) after o h q =
    put_done (λ vs. more_things (plain (list (values vs))) st) (λ u. Leads rest 0 g ls u o) (strided_elements v s e d) o after (as_list st (λ u. Leads rest 0 g ls u o) (strided_elements v s e d) o h.4) q

pub stride_faults : (rest : List StepTree) (g ls : Env) (st : Things) (o : Outcome Thing) → Leads (stride ∷ rest) 0 g ls st o → stride_stack st ≡ fault → o ≡ fault
stride_faults rest g ls no_things o h q = absurd h
stride_faults rest g ls (more_things d no_things) o h q = absurd h
stride_faults rest g ls (more_things d (more_things e no_things)) o h q = absurd h
stride_faults rest g ls (more_things d (more_things e (more_things s no_things))) o h q = absurd h
stride_faults rest g ls (more_things d (more_things e (more_things s (more_things v st)))) o h q =
    put_fault (λ vs. more_things (plain (list (values vs))) st) (λ u. Leads rest 0 g ls u o) (strided_elements v s e d) o (as_list st (λ u. Leads rest 0 g ls u o) (strided_elements v s e d) o h.4) q

-- ---- all of them

pub work_takes : (s : StepTree) (rest : List StepTree) (g ls : Env) (st : Things) (o : Outcome Thing) → IsWork s → Leads (s ∷ rest) 0 g ls st o → TakesStep s st
work_takes (apply_one p) rest g ls st o k h = one_takes p rest g ls st o h
work_takes (apply_two p) rest g ls st o k h = two_takes p rest g ls st o h
work_takes (apply_three p) rest g ls st o k h = three_takes p rest g ls st o h
work_takes (apply_many p n) rest g ls st o k h = many_takes p n rest g ls st o h
work_takes stride rest g ls st o k h = stride_takes rest g ls st o h
work_takes _ rest g ls st o k h = absurd k

pub work_on : (s : StepTree) (rest : List StepTree) (g ls : Env) (st after : Things) (o : Outcome Thing) → IsWork s → Leads (s ∷ rest) 0 g ls st o → after_step s st ≡ done after → Leads rest 0 g ls after o
work_on (apply_one p) rest g ls st after o k h q = one_on p rest g ls st after o h q
work_on (apply_two p) rest g ls st after o k h q = two_on p rest g ls st after o h q
work_on (apply_three p) rest g ls st after o k h q = three_on p rest g ls st after o h q
work_on (apply_many p n) rest g ls st after o k h q = many_on p n rest g ls st after o h q
work_on stride rest g ls st after o k h q = stride_on rest g ls st after o h q
work_on _ rest g ls st after o k h q = absurd k

pub work_faults : (s : StepTree) (rest : List StepTree) (g ls : Env) (st : Things) (o : Outcome Thing) → IsWork s → Leads (s ∷ rest) 0 g ls st o → after_step s st ≡ fault → o ≡ fault
work_faults (apply_one p) rest g ls st o k h q = one_faults p rest g ls st o h q
work_faults (apply_two p) rest g ls st o k h q = two_faults p rest g ls st o h q
work_faults (apply_three p) rest g ls st o k h q = three_faults p rest g ls st o h q
work_faults (apply_many p n) rest g ls st o k h q = many_faults p n rest g ls st o h q
work_faults stride rest g ls st o k h q = stride_faults rest g ls st o h q
work_faults _ rest g ls st o k h q = absurd k

-- ---- jumps and names

one_truth : (t : Thing) (b c : Bool) → IsTruthThing t b → IsTruthThing t c → b ≡ c
one_truth t b c h k =
    let same : plain h.value ≡ plain k.value = sym h.is ∙ k.is in
    let values_same : h.value ≡ k.value = cc in
    let says : done b ≡ done c = sym h.says ∙ ap truth_of values_same ∙ k.says in
    cc

where_true : (b : Bool) (P Q : Type 0) → b ≡ true → Where b P Q → P
where_true b P Q e h = subst (λ c. Where c P Q) e h

where_false : (b : Bool) (P Q : Type 0) → b ≡ false → Where b P Q → Q
where_false b P Q e h = subst (λ c. Where c P Q) e h

pub decide_truth : (p : Two) (n : ℕ) (rest : List StepTree) (g ls : Env) (st : Things) (o : Outcome Thing) → Leads (decide p n ∷ rest) 0 g ls st o → (c : Bool) × IsTruthOnTop st c
decide_truth p n rest g ls no_things o h = absurd h
decide_truth p n rest g ls (more_things t st) o h = (h.0, h.1)

pub decide_settled : (p : Two) (n : ℕ) (rest : List StepTree) (g ls : Env) (st : Things) (o : Outcome Thing) (c : Bool) → Leads (decide p n ∷ rest) 0 g ls st o → IsTruthOnTop st c → settles p c ≡ true → Leads rest n g ls (more_things (plain (truth_value c)) (rest_of st)) o
decide_settled p n rest g ls no_things o c h k e = absurd h
decide_settled p n rest g ls (more_things t st) o c h k e =
    let same = one_truth t h.0 c h.1 k in
    subst (λ b. Leads rest n g ls (more_things (plain (truth_value b)) st) o) same
    (where_true (settles p h.0) (Leads rest n g ls (more_things (plain (truth_value h.0)) st) o) (Leads rest 0 g ls st o) (ap (settles p) same ∙ e) h.2)

pub decide_open : (p : Two) (n : ℕ) (rest : List StepTree) (g ls : Env) (st : Things) (o : Outcome Thing) (c : Bool) → Leads (decide p n ∷ rest) 0 g ls st o → IsTruthOnTop st c → settles p c ≡ false → Leads rest 0 g ls (rest_of st) o
decide_open p n rest g ls no_things o c h k e = absurd h
decide_open p n rest g ls (more_things t st) o c h k e =
    where_false (settles p h.0) (Leads rest n g ls (more_things (plain (truth_value h.0)) st) o) (Leads rest 0 g ls st o) (ap (settles p) (one_truth t h.0 c h.1 k) ∙ e) h.2

pub unless_truth : (n : ℕ) (rest : List StepTree) (g ls : Env) (st : Things) (o : Outcome Thing) → Leads (unless n ∷ rest) 0 g ls st o → (c : Bool) × IsTruthOnTop st c
unless_truth n rest g ls no_things o h = absurd h
unless_truth n rest g ls (more_things t st) o h = (h.0, h.1)

pub unless_on : (n : ℕ) (rest : List StepTree) (g ls : Env) (st : Things) (o : Outcome Thing) (c : Bool) → Leads (unless n ∷ rest) 0 g ls st o → IsTruthOnTop st c → Leads rest (if c then 0 else n) g ls (rest_of st) o
unless_on n rest g ls no_things o c h k = absurd h
unless_on n rest g ls (more_things t st) o c h k = by c (one_truth t h.0 c h.1 k)
  where
    by : (d : Bool) → h.0 ≡ d → Leads rest (if d then 0 else n) g ls st o
    by true e = where_true h.0 (Leads rest 0 g ls st o) (Leads rest n g ls st o) e h.2
    by false e = where_false h.0 (Leads rest 0 g ls st o) (Leads rest n g ls st o) e h.2

pub skip_on : (n : ℕ) (rest : List StepTree) (g ls : Env) (st : Things) (o : Outcome Thing) → Leads (skip n ∷ rest) 0 g ls st o → Leads rest n g ls st o
skip_on n rest g ls st o h = h

pub left_out : (s : StepTree) (n : ℕ) (rest : List StepTree) (g ls : Env) (st : Things) (o : Outcome Thing) → Leads (s ∷ rest) (suc n) g ls st o → Leads rest n g ls st o
left_out s n rest g ls st o h = h

pub bind_takes : (s : ℕ) (rest : List StepTree) (g ls : Env) (st : Things) (o : Outcome Thing) → Leads (bind s ∷ rest) 0 g ls st o → IsSomething st
bind_takes s rest g ls no_things o h = h
bind_takes s rest g ls (more_things t st) o h = tt

pub bind_on : (s : ℕ) (rest : List StepTree) (g ls : Env) (st : Things) (o : Outcome Thing) → Leads (bind s ∷ rest) 0 g ls st o → Leads rest 0 g ((s, first_of st) ∷ ls) (rest_of st) o
bind_on s rest g ls no_things o h = absurd h
bind_on s rest g ls (more_things t st) o h = h

pub unbind_takes : (rest : List StepTree) (g ls : Env) (st : Things) (o : Outcome Thing) → Leads (unbind ∷ rest) 0 g ls st o → 0 < length ls
unbind_takes rest g [] st o h = absurd h
unbind_takes rest g (l ∷ ls) st o h = omega arith

pub unbind_on : (rest : List StepTree) (g ls : Env) (st : Things) (o : Outcome Thing) → Leads (unbind ∷ rest) 0 g ls st o → Leads rest 0 g (drop 1 ls) st o
unbind_on rest g [] st o h = absurd h
unbind_on rest g (l ∷ ls) st o h = h

-- ---- turns

-- there is a state
pub turns_state : (n : ExprTree) (rest : List StepTree) (g ls : Env) (st : Things) (o : Outcome Thing) → Leads (run_turns n ∷ rest) 0 g ls st o → IsStateOnTop n (ls ++ g) st
turns_state n rest g ls no_things o h = h
turns_state n rest g ls (more_things t st) o h = record { value = h.0; is = h.1; form = h.2; holds = h.3 }

state_same : (v w : Value) → plain v ≡ plain w → v ≡ w
state_same v w e = cc

pub turns_on : (n : ExprTree) (rest : List StepTree) (g ls : Env) (st : Things) (o : Outcome Thing) (v : Value) (r : Thing) → Leads (run_turns n ∷ rest) 0 g ls st o → first_of st ≡ plain v → turns_from n (ls ++ g) turn_limit v ≡ done r → Leads rest 0 g ls (more_things r (rest_of st)) o
turns_on n rest g ls no_things o v r h e q = absurd h
turns_on n rest g ls (more_things t st) o v r h e q =
    goes_done (λ r. Leads rest 0 g ls (more_things r st) o) (turns_from n (ls ++ g) turn_limit h.0) o r h.4 (ap (turns_from n (ls ++ g) turn_limit) (state_same h.0 v (sym h.1 ∙ e)) ∙ q)

pub turns_fault : (n : ExprTree) (rest : List StepTree) (g ls : Env) (st : Things) (o : Outcome Thing) (v : Value) → Leads (run_turns n ∷ rest) 0 g ls st o → first_of st ≡ plain v → turns_from n (ls ++ g) turn_limit v ≡ fault → o ≡ fault
turns_fault n rest g ls no_things o v h e q = absurd h
turns_fault n rest g ls (more_things t st) o v h e q =
    goes_fault (λ r. Leads rest 0 g ls (more_things r st) o) (turns_from n (ls ++ g) turn_limit h.0) o h.4 (ap (turns_from n (ls ++ g) turn_limit) (state_same h.0 v (sym h.1 ∙ e)) ∙ q)

-- ---- the end

pub ends : (n : ℕ) (g ls : Env) (st : Things) (o : Outcome Thing) → Leads [] n g ls st o → (n ≡ 0) × IsAlone st × (o ≡ done (first_of st))
ends zero g ls no_things o h = absurd h
ends zero g ls (more_things t no_things) o h = (refl, h.0, h.1)
ends zero g ls (more_things t (more_things u st)) o h = absurd h
ends (suc n) g ls st o h = absurd h
