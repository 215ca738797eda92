-- What the steps of a plan come to.
use Rattle.std.specs.Prelude.{◌≡◌, ℕ, zero, suc, Bool, true, false, not, if◌then◌else◌, List, [], ◌∷◌, ◌++◌}
use Rattle.weld_data.specs.Value.{Value}
use Rattle.weld_tree.specs.ExprTree.{ExprTree, loop, LegTrees, no_legs, more_legs, Two, binary, and, or, look_up, key_exists, merge}
use Rattle.weld_builders.specs.Outcome.{Outcome, done, fault, stuck}
use Rattle.weld_meaning.specs.Thing.{Thing, plain, Things, no_things, more_things, first_of, rest_of}
use Rattle.weld_meaning.specs.Evaluation.{Env, truth_of, truth_value, turn_limit, eval, eval_leg, eval_legs, one_thing, two_thing, three_thing, many_thing}
use Rattle.weld_eval.specs.Fits.{IsTruth}
use Rattle.weld_eval.specs.Fit.{IsFit}
use Rattle.weld_eval.specs.Takes.{OneTakes, TwoTakes, ThreeTakes, IsStrict, IsPlain}
use Rattle.weld_eval_forms.specs.FormTakes.{AreAllEvaluated, ManyTakes}
use Rattle.weld_eval_forms.specs.Legs.{IsVector, IsPlace, or_none, elements_of_thing, strided_elements}
use Rattle.weld_eval_plain.specs.Nodes.{IsIterate}
use Rattle.weld_eval_plain.specs.Turns.{HoldsState, turns_from}
use Rattle.weld_plan.specs.StepTree.{StepTree, compute, apply_one, apply_two, apply_three, apply_many, decide, unless, skip, bind, unbind, stride, run_loop, run_turns, is_read}

-- where the first outcome is done, its result has the property; where it is a fault, so is the second; it isn't stuck
abbrev pub GoesOn : {A : Type 0} → Outcome A → (A → Type 0) → Outcome Thing → Type 0
GoesOn (done x) P o = P x
GoesOn fault P o = o ≡ fault
GoesOn stuck P o = ⊥

-- one fact where the truth value is true, the other where it is false
abbrev pub Where : Bool → Type 0 → Type 0 → Type 0
Where true P Q = P
Where false P Q = Q

-- the thing is a truth value
pub record IsTruthThing (t : Thing) (c : Bool) : Type 0 where
  pub value : Value
  pub is : t ≡ plain value
  pub truth : IsTruth value
  pub says : truth_of value ≡ done c

-- whether the first part of `&&` or `||`, which is this truth value, decides alone
abbrev pub settles : Two → Bool → Bool
settles (binary op) c = c
settles and c = not c
settles or c = c
settles look_up c = c
settles key_exists c = c
settles merge c = c

-- these things on top of those
abbrev pub onto : Things → Things → Things
onto no_things st = st
onto (more_things t ts) st = more_things t (onto ts st)

abbrev pub count_things : Things → ℕ
count_things no_things = 0
count_things (more_things t ts) = suc (count_things ts)

-- ---- legs: the first one's vector stands on top, those that are read where they stand aren't there

-- the elements of each leg
abbrev pub lists_in : LegTrees → Env → Things → List (List Value)
lists_in no_legs env st = []
lists_in (more_legs l ls) env st =
    if is_read l then or_none (eval_leg l env) ∷ lists_in ls env st else elements_of_thing (first_of st) ∷ lists_in ls env (rest_of st)

-- what stands below the legs' vectors
abbrev pub below_legs : LegTrees → Things → Things
below_legs no_legs st = st
below_legs (more_legs l ls) st = if is_read l then below_legs ls st else below_legs ls (rest_of st)

-- there is a thing, and it is a vector
abbrev pub IsOnTop : Things → Type 0
IsOnTop no_things = ⊥
IsOnTop (more_things t st) = IsVector t

-- the vectors of the legs are there
abbrev pub AreThere : LegTrees → Things → Type 0
AreThere no_legs st = Unit {0}
AreThere (more_legs l ls) st = Where (is_read l) (AreThere ls st) (IsOnTop st × AreThere ls (rest_of st))

-- the legs and the builder of a loop are evaluated: the vectors and the builder s are what stands on the stack
abbrev pub IsLoopAt : ExprTree → Env → Thing → Things → Type 0
IsLoopAt (loop a ls e b n x f) env s st = (eval_legs ls env ≡ done (lists_in ls env st)) × (eval e env ≡ done s) × AreThere ls st
IsLoopAt _ env s st = ⊥

-- what stands below the vectors of the loop's legs, and the elements of these
abbrev pub below_loop : ExprTree → Things → Things
below_loop (loop a ls e b n x f) st = below_legs ls st
below_loop _ st = st

abbrev pub loop_lists : ExprTree → Env → Things → List (List Value)
loop_lists (loop a ls e b n x f) env st = lists_in ls env st
loop_lists _ env st = []

-- ---- one step

-- the step can be taken, and from where it leads the rest K of the steps comes to the outcome: K is told how many steps are
-- left out, the names that lets have bound, and the stack; g are the names of parameters
abbrev pub StepLeads : StepTree → (ℕ → Env → Things → Type 0) → Env → Env → Things → Outcome Thing → Type 0
StepLeads (compute e) K g ls st o = IsFit e (ls ++ g) × GoesOn (eval e (ls ++ g)) (λ t. K 0 ls (more_things t st)) o
StepLeads (apply_one p) K g ls no_things o = ⊥
StepLeads (apply_one p) K g ls (more_things t st) o = OneTakes p t × GoesOn (one_thing p t) (λ r. K 0 ls (more_things r st)) o
StepLeads (apply_two p) K g ls no_things o = ⊥
StepLeads (apply_two p) K g ls (more_things u no_things) o = ⊥
StepLeads (apply_two p) K g ls (more_things u (more_things t st)) o =
    IsStrict p × TwoTakes p t u × GoesOn (two_thing p t (done u)) (λ r. K 0 ls (more_things r st)) o
StepLeads (apply_three p) K g ls no_things o = ⊥
StepLeads (apply_three p) K g ls (more_things w no_things) o = ⊥
StepLeads (apply_three p) K g ls (more_things w (more_things u no_things)) o = ⊥
StepLeads (apply_three p) K g ls (more_things w (more_things u (more_things t st))) o =
    AreAllEvaluated p × ThreeTakes p t u w × GoesOn (three_thing p t (done u) (done w)) (λ r. K 0 ls (more_things r st)) o
StepLeads (apply_many p n) K g ls st o =
    (ts : Things) × (below : Things) × (st ≡ onto ts below) × (count_things ts ≡ n) × ManyTakes p ts × GoesOn (many_thing p ts) (λ r. K 0 ls (more_things r below)) o
StepLeads (decide p n) K g ls no_things o = ⊥
StepLeads (decide p n) K g ls (more_things t st) o =
    (c : Bool) × IsTruthThing t c × Where (settles p c) (K n ls (more_things (plain (truth_value c)) st)) (K 0 ls st)
StepLeads (unless n) K g ls no_things o = ⊥
StepLeads (unless n) K g ls (more_things t st) o = (c : Bool) × IsTruthThing t c × Where c (K 0 ls st) (K n ls st)
StepLeads (skip n) K g ls st o = K n ls st
StepLeads (bind s) K g ls no_things o = ⊥
StepLeads (bind s) K g ls (more_things t st) o = K 0 ((s, t) ∷ ls) st
StepLeads unbind K g [] st o = ⊥
StepLeads unbind K g (l ∷ ls) st o = K 0 ls st
StepLeads stride K g ls no_things o = ⊥
StepLeads stride K g ls (more_things d no_things) o = ⊥
StepLeads stride K g ls (more_things d (more_things e no_things)) o = ⊥
StepLeads stride K g ls (more_things d (more_things e (more_things s no_things))) o = ⊥
StepLeads stride K g ls (more_things d (more_things e (more_things s (more_things v st)))) o =
    IsVector v × IsPlace s × IsPlace e × IsPlace d
    × GoesOn (strided_elements v s e d) (λ vs. (t : Thing) → IsVector t → elements_of_thing t ≡ vs → K 0 ls (more_things t st)) o
StepLeads (run_loop n k) K g ls no_things o = ⊥
StepLeads (run_loop n k) K g ls (more_things s st) o =
    IsFit n (ls ++ g) × IsLoopAt n (ls ++ g) s st × GoesOn (eval n (ls ++ g)) (λ t. K 0 ls (more_things t (below_loop n st))) o
StepLeads (run_turns n) K g ls no_things o = ⊥
StepLeads (run_turns n) K g ls (more_things t st) o =
    (v : Value) × (t ≡ plain v) × IsIterate n × HoldsState n (ls ++ g) v × GoesOn (turns_from n (ls ++ g) turn_limit v) (λ r. K 0 ls (more_things r st)) o

-- ---- steps

-- at the end the stack has one value, which is the outcome
abbrev pub Ends : Things → Outcome Thing → Type 0
Ends no_things o = ⊥
Ends (more_things t no_things) o = IsPlain t × (o ≡ done t)
Ends (more_things t (more_things u st)) o = ⊥

-- from so many steps that are to be left out, the names of parameters, the names that lets have bound and the stack, the steps
-- can be taken one after another and come to the outcome
abbrev pub Leads : List StepTree → ℕ → Env → Env → Things → Outcome Thing → Type 0
Leads [] zero g ls st o = Ends st o
Leads [] (suc n) g ls st o = ⊥
Leads (s ∷ rest) zero g ls st o = StepLeads s (λ n k u. Leads rest n g k u o) g ls st o
Leads (s ∷ rest) (suc n) g ls st o = Leads rest n g ls st o
