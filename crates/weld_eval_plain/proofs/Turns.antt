-- The turns of an `iterate`.
use Rattle.std.proofs.Common.{◌≡◌, ℕ, suc, ◌+◌, ◌-◌, ◌<◌, ◌≤◌, ◌∷◌, Bool, true, false, if◌then◌else◌, Result, Ok, Err, refl, sym, ap, ◌∙◌, subst, arith}
use Rattle.weld_data.specs.Value.{Value}
use Rattle.weld_data.specs.View.{view_val}
use Rattle.weld_data.specs.declared.value.Val.{Val}
use Rattle.weld_tree.specs.declared.binder.Binder.{Binder}
use Rattle.weld_tree.specs.TypeTree.{TypeTree, no_types, more_types}
use Rattle.weld_tree.specs.ExprTree.{ExprTree, At, iterate}
use Rattle.weld_tree.specs.Types.{IsBuilderFree, pair_of as pair_type}
use Rattle.weld_data.specs.declared.stop.Stop.{Stop}
use Rattle.weld_data.specs.declared.stop.Stop.TheVariants.{Fault, Memory}
use Rattle.weld_meaning.specs.Typing.{truth_type}
use Rattle.weld_tree.specs.HasValue.{HasValue}
use Rattle.weld_builders.specs.Outcome.{Outcome, done, fault, and_then, map_out}
use Rattle.weld_meaning.specs.Thing.{Thing, plain, as_value}
use Rattle.weld_meaning.specs.ThingType.{HasThing}
use Rattle.weld_meaning.specs.Evaluation.{Env, eval, value_out, next_turn, turns, turn_limit}
use Rattle.weld_meaning.proofs.Good.{Good, good, then_good, free_value_type, value_of_thing, as_value_good}
use Rattle.weld_meaning.proofs.ValuesGood.{turn_type, value_field_good, truth_of_good}
use Rattle.weld_meaning.specs.Meaning.{GivesOrFaults}
use Rattle.weld_eval_forms.specs.FormTakes.{IsTurn, TurnAnswer}
use Rattle.weld_eval.specs.Fit.{IsFit}
use Rattle.weld_eval.specs.Takes.{IsPlain}
use Rattle.weld_eval.proofs.Children.{gives, named_turn}
use Rattle.weld_eval_plain.specs.Turns.{turn_of, turns_from, HoldsState, TurnAnswers}

-- ---- the state that the turns start with

state_value : (a : At) (e : ExprTree) (b : Binder) (f : ExprTree) (env : Env) (x : Thing) → (h : IsFit (iterate a e b f) env) → eval e env ≡ done x → (v : Value) × (x ≡ plain v) × HasValue h.answer v
state_value a e b f env x h q = value_of_thing h.answer x (free_value_type h.answer h.typed.1) (gives e h.names h.origins env h.answer x h.named h.typed.0 q)

pub state_is_plain : (a : At) (e : ExprTree) (b : Binder) (f : ExprTree) (env : Env) (n : ExprTree) (x : Thing) → n ≡ iterate a e b f → IsFit n env → eval e env ≡ done x → IsPlain x
state_is_plain a e b f env n x is h q = subst IsPlain (sym (state_value a e b f env x (subst (λ m. IsFit m env) is h) q).1) tt

holds_start : (a : At) (e : ExprTree) (b : Binder) (f : ExprTree) (env : Env) (v : Value) → IsFit (iterate a e b f) env → eval e env ≡ done (plain v) → HoldsState (iterate a e b f) env v
holds_start a e b f env v h q = record { fit = h; has = gives e h.names h.origins env h.answer (plain v) h.named h.typed.0 q }

pub state_holds : (a : At) (e : ExprTree) (b : Binder) (f : ExprTree) (env : Env) (n : ExprTree) (x : Thing) (v : Value) → n ≡ iterate a e b f → IsFit n env → eval e env ≡ done x → x ≡ plain v → HoldsState n env v
state_holds a e b f env n x v is h q same = subst (λ m. HoldsState m env v) (sym is) (holds_start a e b f env v (subst (λ m. IsFit m env) is h) (q ∙ ap done same))

pub turns_start : (a : At) (e : ExprTree) (b : Binder) (f : ExprTree) (env : Env) (n : ExprTree) (x : Thing) (v : Value) → n ≡ iterate a e b f → eval e env ≡ done x → x ≡ plain v → eval n env ≡ turns_from n env turn_limit v
turns_start a e b f env n x v is q same =
    ap (λ m. eval m env) is
    ∙ ap (λ o. and_then (value_out o) (λ v. map_out plain (turns turn_limit v (λ w. value_out (eval f ((b.sym.0, plain w) ∷ env)))))) (q ∙ ap done same)
    ∙ ap (λ m. turns_from m env turn_limit v) (sym is)

-- ---- one turn

fit_turn : (a : At) (e : ExprTree) (b : Binder) (f : ExprTree) (env : Env) (v : Value) → HoldsState (iterate a e b f) env v → IsFit f ((b.sym.0, plain v) ∷ env)
fit_turn a e b f env v s =
    let h = s.fit in
    record {
      names = (b.sym.0, h.answer) ∷ h.names;
      origins = _;
      named = named_turn e h.names h.origins env b h.answer v h.named h.typed.0 h.typed.1 s.has;
      answer = _;
      typed = h.typed.3;
      keeps = h.keeps.1;
    }

pub turn_fits : (a : At) (e : ExprTree) (b : Binder) (f : ExprTree) (env : Env) (n : ExprTree) (v : Value) → n ≡ iterate a e b f → HoldsState n env v → IsFit f ((b.sym.0, plain v) ∷ env)
turn_fits a e b f env n v is s = fit_turn a e b f env v (subst (λ m. HoldsState m env v) is s)

pair_has : (a : At) (e : ExprTree) (b : Binder) (f : ExprTree) (env : Env) (v : Value) (x : Thing) → (s : HoldsState (iterate a e b f) env v) → eval f ((b.sym.0, plain v) ∷ env) ≡ done x → HasThing x (pair_type s.fit.answer truth_type)
pair_has a e b f env v x s q =
    let h = s.fit in
    gives f ((b.sym.0, h.answer) ∷ h.names) _ ((b.sym.0, plain v) ∷ env) (pair_type h.answer truth_type) x (named_turn e h.names h.origins env b h.answer v h.named h.typed.0 h.typed.1 s.has) h.typed.3 q

is_turn : (a : At) (e : ExprTree) (b : Binder) (f : ExprTree) (env : Env) (v : Value) (x : Thing) → HoldsState (iterate a e b f) env v → eval f ((b.sym.0, plain v) ∷ env) ≡ done x → IsTurn x
is_turn a e b f env v x s q = (s.fit.answer, s.fit.typed.1, pair_has a e b f env v x s q)

pub turn_gives : (a : At) (e : ExprTree) (b : Binder) (f : ExprTree) (env : Env) (n : ExprTree) (v : Value) (x : Thing) → n ≡ iterate a e b f → HoldsState n env v → eval f ((b.sym.0, plain v) ∷ env) ≡ done x → IsTurn x
turn_gives a e b f env n v x is s q = is_turn a e b f env v x (subst (λ m. HoldsState m env v) is s) q

-- the next state of a turn is of the state's type
next_good : (t : TypeTree) (w : Value) → HasValue (turn_type t) w → Good (HasValue t) (next_turn w (λ v. done v))
next_good t w h =
    then_good _ (value_field_good 0 (more_types t (more_types truth_type no_types)) t w refl h) (λ state p.
    then_good _ (value_field_good 1 (more_types t (more_types truth_type no_types)) truth_type w refl h) (λ flag q.
    then_good _ (truth_of_good flag q) (λ more u. by state p more)))
  where
    by : (state : Value) → HasValue t state → (more : Bool) → Good (HasValue t) (if more then done state else done state)
    by state p true = good p
    by state p false = good p

thing_next : (t : TypeTree) (x : Thing) → IsBuilderFree t → HasThing x (turn_type t) → Good (HasValue t) (and_then (as_value x) (λ w. next_turn w (λ v. done v)))
thing_next t x free h = then_good _ (as_value_good (turn_type t) x (free, (tt, tt)) h) (λ w k. next_good t w k)

either_done : (c : Bool) (v : Value) (o : Outcome Value) → o ≡ (if c then done v else done v) → o ≡ done v
either_done true v o q = q
either_done false v o q = q

next_has : (t : TypeTree) (x : Thing) (p : Val × Bool) → IsBuilderFree t → HasThing x (turn_type t) → TurnAnswer (Ok p) x → HasValue t (view_val p.0)
next_has t x p free h k = subst (GivesOrFaults (HasValue t)) (either_done p.1 (view_val p.0) (and_then (as_value x) (λ w. next_turn w (λ v. done v))) (k (λ v. done v))) (thing_next t x free h).fits

turn_by : (a : At) (e : ExprTree) (b : Binder) (f : ExprTree) (env : Env) (v : Value) (x : Thing) (r : Result (Val × Bool) Stop) → HoldsState (iterate a e b f) env v → eval f ((b.sym.0, plain v) ∷ env) ≡ done x → TurnAnswer r x → TurnAnswers r (iterate a e b f) env v
turn_by a e b f env v x (Ok p) s q t = (
  record { fit = s.fit; has = next_has s.fit.answer x p s.fit.typed.1 (pair_has a e b f env v x s q) t },
  λ go. ap (λ o. and_then (value_out o) (λ u. next_turn u go)) q ∙ t go,
)
turn_by a e b f env v x (Err Fault) s q t = absurd t
turn_by a e b f env v x (Err Memory) s q t = tt

pub turn_answers : (a : At) (e : ExprTree) (b : Binder) (f : ExprTree) (env : Env) (n : ExprTree) (v : Value) (x : Thing) (r : Result (Val × Bool) Stop) → n ≡ iterate a e b f → HoldsState n env v
    → eval f ((b.sym.0, plain v) ∷ env) ≡ done x → TurnAnswer r x → TurnAnswers r n env v
turn_answers a e b f env n v x r is s q t = subst (λ m. TurnAnswers r m env v) (sym is) (turn_by a e b f env v x r (subst (λ m. HoldsState m env v) is s) q t)

-- ---- turn after turn

limit_is : turn_limit ≡ 1000000
unfolding turn_limit
limit_is = refl

one_less : (i : ℕ) → i < 1000000 → turn_limit - i ≡ suc (turn_limit - (i + 1))
one_less i h = omega (arith, limit_is)

none_left : (i : ℕ) → 1000000 ≤ i → turn_limit - i ≡ 0
none_left i h = omega (arith, limit_is)

unrolled : (n : ExprTree) (env : Env) (i : ℕ) (v : Value) → i < 1000000 → turns_from n env (turn_limit - i) v ≡ map_out plain (and_then (turn_of n env v) (λ w. next_turn w (λ state. turns (turn_limit - (i + 1)) state (λ u. turn_of n env u))))
unrolled n env i v h = ap (λ k. turns_from n env k v) (one_less i h)

pub turns_go_on : (n : ExprTree) (env : Env) (i : ℕ) (v : Value) (p : Val × Bool) → i < 1000000 → p.1 ≡ true → TurnAnswers (Ok p) n env v → turns_from n env (turn_limit - i) v ≡ turns_from n env (turn_limit - (i + 1)) (view_val p.0)
turns_go_on n env i v p h more t =
    unrolled n env i v h ∙ ap (map_out plain) (t.1 (λ state. turns (turn_limit - (i + 1)) state (λ u. turn_of n env u)))
    ∙ ap (λ (c : Bool). map_out plain (if c then turns (turn_limit - (i + 1)) (view_val p.0) (λ u. turn_of n env u) else done (view_val p.0))) more

pub turns_end : (n : ExprTree) (env : Env) (i : ℕ) (v : Value) (p : Val × Bool) → i < 1000000 → p.1 ≡ false → TurnAnswers (Ok p) n env v → turns_from n env (turn_limit - i) v ≡ done (plain (view_val p.0))
turns_end n env i v p h last t =
    unrolled n env i v h ∙ ap (map_out plain) (t.1 (λ state. turns (turn_limit - (i + 1)) state (λ u. turn_of n env u)))
    ∙ ap (λ (c : Bool). map_out plain (if c then turns (turn_limit - (i + 1)) (view_val p.0) (λ u. turn_of n env u) else done (view_val p.0))) last

pub turns_exceeded : (n : ExprTree) (env : Env) (i : ℕ) (v : Value) → 1000000 ≤ i → turns_from n env (turn_limit - i) v ≡ fault
turns_exceeded n env i v h = ap (λ k. turns_from n env k v) (none_left i h)
