-- The state and the truth value of a turn.
use Rattle.std.proofs.Common.{◌≡◌, Bool, if◌then◌else◌, ap, subst, ◌∙◌, arith}
use Rattle.weld_data.specs.Value.{Value, number, list, struct, dict, no_values, and_value}
use Rattle.weld_tree.specs.TypeTree.{TypeTree}
use Rattle.weld_tree.specs.Types.{pair_of}
use Rattle.weld_tree.specs.HasValue.{HasValue}
use Rattle.weld_builders.specs.Outcome.{Outcome, done, and_then}
use Rattle.weld_meaning.specs.Thing.{Thing, plain, value_field}
use Rattle.weld_meaning.specs.Typing.{truth_type}
use Rattle.weld_meaning.specs.Evaluation.{truth_of}
use Rattle.weld_eval.specs.Fits.{IsTruth, HasField}
use Rattle.weld_eval.specs.Takes.{IsPlain}
use Rattle.weld_eval_forms.specs.FormTakes.{IsTurn, IsNext}
use Rattle.weld_eval_forms.proofs.Shapes.{plain_of_type}

pub turn_plain : (x : Thing) → IsTurn x → IsPlain x
turn_plain x h = plain_of_type (pair_of h.0 truth_type) x (h.1, (tt, tt)) h.2

by_pair : (C : Value → Type 0) (t : TypeTree) (v : Value) → HasValue (pair_of t truth_type) v → ((a b : Value) → HasValue truth_type b → C (struct (and_value a (and_value b no_values)))) → C v
by_pair C t (number k x) h c = absurd h
by_pair C t (list vs) h c = absurd h
by_pair C t (struct no_values) h c = absurd h
by_pair C t (struct (and_value a no_values)) h c = absurd h.1
by_pair C t (struct (and_value a (and_value b no_values))) h c = c a b h.1.0
by_pair C t (struct (and_value a (and_value b (and_value d vs)))) h c = absurd h.1.1
by_pair C t (dict es) h c = absurd h

pub state_there : (v : Value) → IsTurn (plain v) → HasField 0 v
state_there v h = by_pair (HasField 0) h.0 v h.2 (λ a b t. omega arith)

pub flag_there : (v : Value) → IsTurn (plain v) → HasField 1 v
flag_there v h = by_pair (HasField 1) h.0 v h.2 (λ a b t. omega arith)

pub flag_truth : (v w : Value) → IsTurn (plain v) → value_field 1 v ≡ done w → IsTruth w
flag_truth v w h = by_pair (λ a. value_field 1 a ≡ done w → IsTruth w) h.0 v h.2 (λ a b t e. let same : b ≡ w = cc in subst IsTruth same t)

pub next : (v state flag : Value) (more : Bool) → value_field 0 v ≡ done state → value_field 1 v ≡ done flag → truth_of flag ≡ done more → IsNext v state more
next v state flag more s f t = λ go.
    ap (λ (o : Outcome Value). and_then o (λ a. and_then (value_field 1 v) (λ b. and_then (truth_of b) (λ m. if m then go a else done a)))) s
    ∙ ap (λ (o : Outcome Value). and_then o (λ b. and_then (truth_of b) (λ m. if m then go state else done state))) f
    ∙ ap (λ (o : Outcome Bool). and_then o (λ m. if m then go state else done state)) t
