-- Truth values that choose.
use Rattle.std.proofs.Common.{◌≡◌, ℕ, ℤ, Bool, true, false, if◌then◌else◌, Result, ap, subst, sym, ◌∙◌}
use Rattle.weld_data.specs.declared.kind.Kind.{Kind}
use Rattle.weld_data.specs.declared.op.BinOp.{BinOp}
use Rattle.weld_data.specs.Value.{Value}
use Rattle.weld_builders.specs.Outcome.{Outcome, done, and_then}
use Rattle.weld_meaning.specs.Evaluation.{operated, truth_of}
use Rattle.weld_turns.specs.Answers.{KindAndWord, NextState}
use Rattle.weld_turns.specs.CodeView.{Slots, either_of, turn_value, with_slot}
use Rattle.weld_turns.specs.declared.code.Halt.{Halt}
use Rattle.weld_turns.specs.declared.code.Shape.{Shape}
use Rattle.weld_turns.specs.declared.code.Turn.{Turn}

takes_by : (o p q : Outcome Value) (v : Value) (b : Bool) → o ≡ done v → truth_of v ≡ done b → and_then o (λ u. either_of u p q) ≡ (if b then p else q)
takes_by o p q v b h t = ap (λ (w : Outcome Value). and_then w (λ u. either_of u p q)) h ∙ ap (λ (w : Outcome Bool). and_then w (λ (c : Bool). if c then p else q)) t

pub takes_first : (o p q : Outcome Value) (v : Value) → o ≡ done v → truth_of v ≡ done true → and_then o (λ u. either_of u p q) ≡ p
takes_first o p q v h t = takes_by o p q v true h t

pub takes_second : (o p q : Outcome Value) (v : Value) → o ≡ done v → truth_of v ≡ done false → and_then o (λ u. either_of u p q) ≡ q
takes_second o p q v h t = takes_by o p q v false h t

-- a number put into a slot, and what follows
pub put_runs : (r : Result Bool Halt) (shape : Shape) (g f h : Slots) (rest : Turn) (o : Outcome Value) (v : Value) (to : ℕ) → o ≡ done v → h ≡ with_slot f to v → NextState r shape g (turn_value rest shape h)
    → NextState r shape g (and_then o (λ w. turn_value rest shape (with_slot f to w)))
put_runs r shape g f h rest o v to is at k = subst (NextState r shape g) (sym (ap (λ (u : Outcome Value). and_then u (λ w. turn_value rest shape (with_slot f to w))) is ∙ ap (turn_value rest shape) (sym at))) k

-- an operator on the numbers that its parts come to
pub work_runs : (r : Result Kind Halt) (x : ℤ) (op : BinOp) (o p : Outcome Value) (v w : Value) → o ≡ done v → p ≡ done w → KindAndWord r x (operated op v w) → KindAndWord r x (and_then o (λ a. and_then p (λ b. operated op a b)))
work_runs r x op o p v w h k q =
    subst (KindAndWord r x) (sym (ap (λ (u : Outcome Value). and_then u (λ a. and_then p (λ b. operated op a b))) h ∙ ap (λ (u : Outcome Value). and_then u (λ b. operated op v b)) k)) q

-- what is made of a value that an outcome is done with
pub goes_on_with : (r : Result Kind Halt) (x : ℤ) (o : Outcome Value) (g : Value → Outcome Value) (w : Value) → o ≡ done w → KindAndWord r x (g w) → KindAndWord r x (and_then o g)
goes_on_with r x o g w h k = subst (KindAndWord r x) (sym (ap (λ (u : Outcome Value). and_then u g) h)) k
