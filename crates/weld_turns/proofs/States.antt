-- Turn after turn.
use Rattle.std.proofs.Common.{◌≡◌, ℕ, suc, ◌+◌, ◌-◌, ◌<◌, ◌≤◌, ◌∷◌, Bool, true, false, if◌then◌else◌, List, [], Option, Some, None, IfSome, Result, length, set, refl, ap, sym, subst, ◌∙◌, arith}
use Rattle.weld_data.specs.Value.{Value}
use Rattle.weld_built.specs.Pair.{pair}
use Rattle.weld_tree.specs.ExprTree.{ExprTree}
use Rattle.weld_builders.specs.Outcome.{Outcome, done, fault, stuck, and_then, map_out}
use Rattle.weld_meaning.specs.Evaluation.{Env, eval, next_turn, truth_of, truth_value, turns, turn_limit, value_out}
use Rattle.weld_eval.specs.ShortView.{view_short}
use Rattle.weld_eval.specs.declared.short.Short.{Short}
use Rattle.weld_turns.specs.CodeView.{Slots, shape_value, slots_of, turn_value}
use Rattle.weld_turns.specs.Scopes.{AreBelow, TurnMeans, room_of, with_scope, Sites}
use Rattle.weld_turns.specs.States.{next_of, Follows, IsFollowed, IsState, RunsOn, StepsRunOn}
use Rattle.weld_turns.specs.Lowering.{Lowers, Meaning, settle, settled}
use Rattle.weld_turns.specs.StepView.{Words, shown}
use Rattle.weld_turns.specs.declared.step.Step.{Step}
use Rattle.weld_eval.specs.Answers.{Answers}
use Rattle.weld_eval.specs.ThingView.{held_of}
use Rattle.weld_eval.specs.declared.thing.Held.{Held}
use Rattle.weld_data.specs.declared.stop.Stop.{Stop}
use Rattle.weld_meaning.specs.Thing.{plain, value_field}
use Rattle.weld_turns.specs.declared.code.Place.{Place}
use Rattle.weld_turns.specs.declared.code.Site.TheVariants as sites
use Rattle.weld_turns.specs.declared.code.Shape.{Shape}
use Rattle.weld_turns.specs.declared.code.Turn.{Turn}
use Rattle.weld_turns.proofs.Making.{out_in}
use Rattle.weld_turns.proofs.SlotLemmas.{set_there}

-- ---- the limit

limit_is : turn_limit ≡ 1000000
unfolding turn_limit
limit_is = refl

one_less : (i : ℕ) → i < 1000000 → turn_limit - i ≡ suc (turn_limit - (i + 1))
one_less i h = omega (arith, limit_is)

none_left : (i : ℕ) → 1000000 ≤ i → turn_limit - i ≡ 0
none_left i h = omega (arith, limit_is)

-- ---- one turn

pub unrolled : (i : ℕ) (v : Value) (g : Value → Outcome Value) → i < 1000000 → turns (turn_limit - i) v g ≡ and_then (g v) (λ w. next_turn w (λ state. turns (turn_limit - (i + 1)) state g))
unrolled i v g h = ap (λ n. turns n v g) (one_less i h)

pub next_by : (s v : Value) (b : Bool) (go : Value → Outcome Value) → truth_of v ≡ done b → next_turn (pair s v) go ≡ (if b then go s else done s)
next_by s v b go t = ap (λ (o : Outcome Bool). and_then o (λ (more : Bool). if more then go s else done s)) t

turned : (t : Turn) (shape : Shape) (f f' : Slots) (g : Value → Outcome Value) (i : ℕ) (v : Value) (b : Bool) → i < 1000000 → IsFollowed t shape g → turn_value t shape f ≡ done (pair (shape_value shape 0 f') v) → truth_of v ≡ done b
    → turns (turn_limit - i) (shape_value shape 0 f) g ≡ (if b then turns (turn_limit - (i + 1)) (shape_value shape 0 f') g else done (shape_value shape 0 f'))
turned t shape f f' g i v b h is e q =
    unrolled i (shape_value shape 0 f) g h
    ∙ ap (λ (o : Outcome Value). and_then o (λ w. next_turn w (λ state. turns (turn_limit - (i + 1)) state g))) (is f ∙ e)
    ∙ next_by (shape_value shape 0 f') v b (λ state. turns (turn_limit - (i + 1)) state g) q

pub goes_on : (t : Turn) (shape : Shape) (f f' : Slots) (g : Value → Outcome Value) (i : ℕ) (v : Value) → i < 1000000 → IsFollowed t shape g → turn_value t shape f ≡ done (pair (shape_value shape 0 f') v) → truth_of v ≡ done true
    → turns (turn_limit - i) (shape_value shape 0 f) g ≡ turns (turn_limit - (i + 1)) (shape_value shape 0 f') g
goes_on t shape f f' g i v h is e q = turned t shape f f' g i v true h is e q

pub ends : (t : Turn) (shape : Shape) (f f' : Slots) (g : Value → Outcome Value) (i : ℕ) (v : Value) → i < 1000000 → IsFollowed t shape g → turn_value t shape f ≡ done (pair (shape_value shape 0 f') v) → truth_of v ≡ done false
    → turns (turn_limit - i) (shape_value shape 0 f) g ≡ done (shape_value shape 0 f')
ends t shape f f' g i v h is e q = turned t shape f f' g i v false h is e q

pub faults : (t : Turn) (shape : Shape) (f : Slots) (g : Value → Outcome Value) (i : ℕ) → i < 1000000 → IsFollowed t shape g → turn_value t shape f ≡ fault → turns (turn_limit - i) (shape_value shape 0 f) g ≡ fault
faults t shape f g i h is e =
    unrolled i (shape_value shape 0 f) g h
    ∙ ap (λ (o : Outcome Value). and_then o (λ w. next_turn w (λ state. turns (turn_limit - (i + 1)) state g))) (is f ∙ e)

pub exceeds : (v : Value) (g : Value → Outcome Value) (i : ℕ) → 1000000 ≤ i → turns (turn_limit - i) v g ≡ fault
exceeds v g i h = ap (λ n. turns n v g) (none_left i h)

-- ---- turns that go on elsewhere

pub carries_on : (r : Result Held Stop) (t : Turn) (shape : Shape) (f h : Slots) (i : ℕ) → i ≡ 8 → RunsOn r t shape h (turn_limit - 8)
    → ((g : Value → Outcome Value) → IsFollowed t shape g → turns turn_limit (shape_value shape 0 f) g ≡ turns (turn_limit - i) (shape_value shape 0 h) g) → RunsOn r t shape f turn_limit
carries_on r t shape f h i e on same g is =
    subst (λ (o : Outcome Value). Answers held_of r (map_out plain o)) (sym (same g is ∙ ap (λ n. turns (turn_limit - n) (shape_value shape 0 h) g) e)) (on g is)

next_settled : (a b : Outcome Value) (go : Value → Outcome Value)
    → and_then a (λ s. and_then b (λ u. and_then (truth_of u) (λ (c : Bool). if c then go s else done s)))
    ≡ and_then (and_then a (λ s. and_then b (λ u. and_then (truth_of u) (λ (c : Bool). done (pair s (truth_value c)))))) (λ w. next_turn w go)
next_settled (done s) (done u) go = by (truth_of u)
  where
    by : (o : Outcome Bool) → and_then o (λ (c : Bool). if c then go s else done s) ≡ and_then (and_then o (λ (c : Bool). done (pair s (truth_value c)))) (λ w. next_turn w go)
    by (done true) = refl
    by (done false) = refl
    by fault = refl
    by stuck = refl
next_settled (done s) fault go = refl
next_settled (done s) stuck go = refl
next_settled fault b go = refl
next_settled stuck b go = refl

pub settled_next : (o : Outcome Value) (go : Value → Outcome Value) → and_then o (λ w. next_turn w go) ≡ and_then (and_then o settle) (λ w. next_turn w go)
settled_next (done v) go = next_settled (value_field 0 v) (value_field 1 v) go
settled_next fault go = refl
settled_next stuck go = refl

lowered_runs : (r : Result Held Stop) (t : Turn) (s : Step) (shape : Shape) (f : Slots) (w : Words) (whole : Meaning) (left : ℕ) → whole ≡ settled t → Lowers shape s whole → shape_value shape 0 (shown w) ≡ shape_value shape 0 f → StepsRunOn r s shape w left → RunsOn r t shape f left
lowered_runs r t s shape f w whole left e lowers state on g is =
    subst (λ (v : Value). Answers held_of r (map_out plain (turns left v g))) state
    (on g (λ u. ap (λ (o : Outcome Value). and_then o settle) (is (shown u)) ∙ ap (λ (m : Meaning). m shape (shown u)) (sym e) ∙ lowers (shown u) u (λ i h. refl)))

pub lowered_some : (o : Option (Result Held Stop)) (t : Turn) (s : Step) (shape : Shape) (f : Slots) (w : Words) (whole : Meaning) (left : ℕ) → whole ≡ settled t → Lowers shape s whole → shape_value shape 0 (shown w) ≡ shape_value shape 0 f
    → IfSome o (λ r. StepsRunOn r s shape w left) → IfSome o (λ r. RunsOn r t shape f left)
lowered_some (Some r) t s shape f w whole left e lowers state on = lowered_runs r t s shape f w whole left e lowers state on
lowered_some None t s shape f w whole left e lowers state on = on

-- the state of the slots is that of the words
pub state_shown : (o : Option (Result Held Stop)) (shape : Shape) (f : Slots) (w : Words) → shape_value shape 0 f ≡ shape_value shape 0 (shown w) → IfSome o (λ r. IsState r shape f) → IfSome o (λ r. IsState r shape (shown w))
state_shown None shape f w same is = tt
state_shown (Some r) shape f w same is = subst (λ (v : Value). Answers held_of r (done (plain v))) same is

-- ---- the state that the turns start with

pub one_put : (ss : List Short) (n : Short) (v : Value) → 0 < length ss → v ≡ view_short n → slots_of (set ss 0 n) 0 ≡ v
one_put ss n v h e = set_there ss 0 n h ∙ sym e

-- ---- the body

pub first_scope : (ns none : Sites) (s at : ℕ) (p : Place) → p.first ≡ 0 → at ≡ room_of p.shape → none ≡ [] → ns ≡ (s, sites.Whole p) ∷ none → AreBelow ns at
first_scope ns none s at p e there empty is =
    subst (λ (ms : Sites). AreBelow ms at) (sym (is ∙ ap (λ (rest : Sites). (s, sites.Whole p) ∷ rest) empty)) (omega (arith, there, e), tt)

pub body_follows : (t : Turn) (ns none : Sites) (s : ℕ) (p : Place) (e : ExprTree) (env : Env) → p.first ≡ 0 → none ≡ [] → ns ≡ (s, sites.Whole p) ∷ none → TurnMeans t p.shape ns env (eval e) → Follows t p.shape s e env
body_follows t ns none s p e env at empty is h f =
    ap (λ (i : ℕ). next_of s e env (shape_value p.shape i f)) (sym at)
    ∙ ap (λ (ms : Sites). value_out (eval e (with_scope ms f env))) (sym (is ∙ ap (λ (rest : Sites). (s, sites.Whole p) ∷ rest) empty))
    ∙ ap value_out (h f) ∙ out_in (turn_value t p.shape f)
