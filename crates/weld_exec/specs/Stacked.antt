-- What a step makes of the stack.
use Rattle.std.specs.Prelude.{◌≡◌, ℕ, zero, suc, Bool, List, length, Result, Ok, Err}
use Rattle.weld_data.specs.declared.stop.Stop.{Stop}
use Rattle.weld_data.specs.declared.stop.Stop.TheVariants.{Fault, Memory}
use Rattle.weld_data.specs.Value.{Value}
use Rattle.weld_tree.specs.ExprTree.{ExprTree, LegTrees, loop, One, Two, Three, Many}
use Rattle.weld_builders.specs.Outcome.{Outcome, done, fault}
use Rattle.weld_meaning.specs.Thing.{Thing, plain, Things, no_things, more_things}
use Rattle.weld_meaning.specs.Evaluation.{Env, rows_of, eval_legs}
use Rattle.weld_eval.specs.Fit.{LegsAreFit}
use Rattle.weld_eval.specs.Takes.{OneTakes, TwoTakes, ThreeTakes, IsStrict, IsPlain}
use Rattle.weld_eval_forms.specs.FormTakes.{AreAllEvaluated, ManyTakes}
use Rattle.weld_eval_forms.specs.Legs.{IsVector, IsPlace, rows_in}
use Rattle.weld_eval_plain.specs.Nodes.{IsIterate}
use Rattle.weld_eval_plain.specs.Turns.{HoldsState}
use Rattle.weld_plan.specs.StepTree.{StepTree, apply_one, apply_two, apply_three, apply_many, stride}
use Rattle.weld_plan.specs.Leads.{IsTruthThing, IsLoopAt, AreThere, lists_in}
pub use Rattle.weld_plan.specs.Stack.{put_on, one_stack, two_stack, three_stack, newest, below, many_stack, stride_stack, after_step}

-- the form of one part takes the newest thing
abbrev pub TakesOne : One → Things → Type 0
TakesOne p no_things = ⊥
TakesOne p (more_things t st) = OneTakes p t

-- the form of two parts takes the two newest things, of which the newest is the second
abbrev pub TakesTwo : Two → Things → Type 0
TakesTwo p no_things = ⊥
TakesTwo p (more_things u no_things) = ⊥
TakesTwo p (more_things u (more_things t st)) = IsStrict p × TwoTakes p t u

abbrev pub TakesThree : Three → Things → Type 0
TakesThree p no_things = ⊥
TakesThree p (more_things w no_things) = ⊥
TakesThree p (more_things w (more_things u no_things)) = ⊥
TakesThree p (more_things w (more_things u (more_things t st))) = AreAllEvaluated p × ThreeTakes p t u w

-- there are so many things
abbrev pub AreSoMany : ℕ → Things → Type 0
AreSoMany zero st = Unit {0}
AreSoMany (suc n) no_things = ⊥
AreSoMany (suc n) (more_things t st) = AreSoMany n st

pub record TakesMany (p : Many) (n : ℕ) (st : Things) : Type 0 where
  pub there : AreSoMany n st
  pub takes : ManyTakes p (newest n st)

-- a vector, a start, an end and a stride, the stride the newest
abbrev pub TakesStride : Things → Type 0
TakesStride no_things = ⊥
TakesStride (more_things d no_things) = ⊥
TakesStride (more_things d (more_things e no_things)) = ⊥
TakesStride (more_things d (more_things e (more_things s no_things))) = ⊥
TakesStride (more_things d (more_things e (more_things s (more_things v st)))) = IsVector v × IsPlace s × IsPlace e × IsPlace d

-- there is a thing
abbrev pub IsSomething : Things → Type 0
IsSomething no_things = ⊥
IsSomething (more_things t st) = Unit {0}

-- there is a truth value
abbrev pub IsTruthOnTop : Things → Bool → Type 0
IsTruthOnTop no_things c = ⊥
IsTruthOnTop (more_things t st) c = IsTruthThing t c

-- ---- the steps that work on the stack alone

abbrev pub TakesStep : StepTree → Things → Type 0
TakesStep (apply_one p) st = TakesOne p st
TakesStep (apply_two p) st = TakesTwo p st
TakesStep (apply_three p) st = TakesThree p st
TakesStep (apply_many p n) st = TakesMany p n st
TakesStep stride st = TakesStride st
TakesStep _ st = ⊥

abbrev pub IsWork : StepTree → Type 0
IsWork (apply_one p) = Unit {0}
IsWork (apply_two p) = Unit {0}
IsWork (apply_three p) = Unit {0}
IsWork (apply_many p n) = Unit {0}
IsWork stride = Unit {0}
IsWork _ = ⊥

-- what working on the stack answers
abbrev pub StackAnswer : {T : Type 0} → Result T Stop → Outcome Things → Things → Type 0
StackAnswer (Ok x) w new = w ≡ done new
StackAnswer (Err Fault) w new = w ≡ fault
StackAnswer (Err Memory) w new = Unit {0}

-- there is the state of an `iterate`
pub record IsStateOn (n : ExprTree) (env : Env) (t : Thing) : Type 0 where
  pub value : Value
  pub is : t ≡ plain value
  pub form : IsIterate n
  pub holds : HoldsState n env value

abbrev pub IsStateOnTop : ExprTree → Env → Things → Type 0
IsStateOnTop n env no_things = ⊥
IsStateOnTop n env (more_things t st) = IsStateOn n env t

-- there is one value alone
abbrev pub IsAlone : Things → Type 0
IsAlone no_things = ⊥
IsAlone (more_things t no_things) = IsPlain t
IsAlone (more_things t (more_things u st)) = ⊥

-- the legs of the loop are evaluated: the vectors of those that aren't read where they stand are on the stack
abbrev pub HasPile : ExprTree → Env → Things → Type 0
HasPile (loop a ls e b n x f) env st = (eval_legs ls env ≡ done (lists_in ls env st)) × AreThere ls st
HasPile _ env st = ⊥

-- the same, and below them stands the builder that is evaluated
abbrev pub IsAtLoop : ExprTree → Env → Things → Type 0
IsAtLoop n env no_things = ⊥
IsAtLoop n env (more_things s st) = IsLoopAt n env s st

-- legs that are fit to be evaluated and are: the vectors of those that aren't read where they stand are on the stack
pub record LegsStand (js : LegTrees) (env : Env) (st : Things) : Type 0 where
  pub fit : LegsAreFit js env
  pub lists : eval_legs js env ≡ done (lists_in js env st)
  pub there : AreThere js st

-- the vectors of the loop's legs are on the stack
abbrev pub AreThereAt : ExprTree → Things → Type 0
AreThereAt (loop a ls e b n x f) st = AreThere ls st
AreThereAt _ st = ⊥

-- how many rows there are, or a fault
abbrev pub CountAnswer : Result ℕ Stop → List (List Value) → Type 0
CountAnswer (Ok n) ls = (rows_of ls ≡ done (rows_in ls)) × (length (rows_in ls) ≡ n)
CountAnswer (Err Fault) ls = rows_of ls ≡ fault
CountAnswer (Err Memory) ls = Unit {0}
