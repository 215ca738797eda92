-- What is still to be done of a turn, put otherwise.
use Rattle.std.proofs.Common.{◌≡◌, ℕ, ◌+◌, ◌≤◌, Bool, true, false, not, if◌then◌else◌, Result, Ok, Err, IfOk, refl, ap, sym, ◌∙◌, arith}
use Rattle.weld_data.specs.Value.{Value}
use Rattle.weld_built.specs.Pair.{pair}
use Rattle.weld_builders.specs.Outcome.{Outcome, done, fault, stuck, and_then, map_out}
use Rattle.weld_eval.specs.ShortView.{view_short}
use Rattle.weld_eval.specs.declared.short.Short.{Short}
use Rattle.weld_meaning.specs.Evaluation.{contrary, truth_of, truth_value}
use Rattle.weld_turns.specs.CodeView.{Slots, either_of, filled, shape_value, turn_value, value, with_slot}
use Rattle.weld_turns.specs.StepView.{Words, shown}
use Rattle.weld_turns.specs.Scopes.{room_of}
use Rattle.weld_turns.specs.Lowering.{Agree, Lowers, Meaning, either_then, ended_at, filled_then, put_then, settle, settled}
use Rattle.weld_turns.specs.declared.code.Code.{Code}
use Rattle.weld_turns.specs.declared.code.Code as codes
use Rattle.weld_turns.specs.declared.code.Filling.{Filling}
use Rattle.weld_turns.specs.declared.code.Turn.{Turn}
use Rattle.weld_turns.specs.declared.code.Shape.{Shape}
use Rattle.weld_turns.proofs.Shapes.{shape_same}
use Rattle.weld_turns.specs.declared.step.Step.{Step}
use Rattle.weld_turns.specs.declared.step.Step as steps
use Rattle.weld_turns.specs.declared.code.Unmade.{Unmade}

-- instructions that come to one thing come to what is the same
pub ok_as : (s : Shape) (r : Result Step Unmade) (m n : Meaning) → ((shape : Shape) (f : Slots) → n shape f ≡ m shape f) → IfOk r (λ t. Lowers s t m) → IfOk r (λ t. Lowers s t n)
ok_as s (Ok t) m n e h = λ f w a. e s f ∙ h f w a
ok_as s (Err u) m n e h = h

-- ---- outcomes

truth_moves : {A B : Type 0} → (o : Outcome Bool) (p q : Outcome A) (k : A → Outcome B) → and_then (and_then o (λ (b : Bool). if b then p else q)) k ≡ and_then o (λ (b : Bool). if b then and_then p k else and_then q k)
truth_moves (done true) p q k = refl
truth_moves (done false) p q k = refl
truth_moves fault p q k = refl
truth_moves stuck p q k = refl

choice_moves : {A B : Type 0} → (o : Outcome Value) (p q : Outcome A) (k : A → Outcome B) → and_then (and_then o (λ v. either_of v p q)) k ≡ and_then o (λ v. either_of v (and_then p k) (and_then q k))
choice_moves (done v) p q k = truth_moves (truth_of v) p q k
choice_moves fault p q k = refl
choice_moves stuck p q k = refl

put_moves : {A B C : Type 0} → (o : Outcome A) (g : A → B) (k : B → Outcome C) → and_then (map_out g o) k ≡ and_then o (λ v. k (g v))
put_moves (done v) g k = refl
put_moves fault g k = refl
put_moves stuck g k = refl

then_moves : {A B C : Type 0} → (o : Outcome A) (g : A → Outcome B) (k : B → Outcome C) → and_then (and_then o g) k ≡ and_then o (λ v. and_then (g v) k)
then_moves (done v) g k = refl
then_moves fault g k = refl
then_moves stuck g k = refl

other_truth : (o : Outcome Bool) (p q : Outcome Value) → and_then (map_out (λ (b : Bool). truth_value (not b)) o) (λ v. either_of v p q) ≡ and_then o (λ (b : Bool). if b then q else p)
other_truth (done true) p q = refl
other_truth (done false) p q = refl
other_truth fault p q = refl
other_truth stuck p q = refl

contrary_moves : (o : Outcome Value) (p q : Outcome Value) → and_then (and_then o (λ v. contrary v)) (λ v. either_of v p q) ≡ and_then o (λ v. either_of v q p)
contrary_moves (done v) p q = other_truth (truth_of v) p q
contrary_moves fault p q = refl
contrary_moves stuck p q = refl

-- ---- turns

at_each : (m n : Meaning) (shape : Shape) (f : Slots) → m ≡ n → n shape f ≡ m shape f
at_each m n shape f e = ap (λ (k : Meaning). k shape f) (sym e)

pub turn_first : (d : Turn) (x : Filling) (rest : Turn) (whole : Meaning) → ((shape : Shape) (f : Slots) → turn_value d shape f ≡ and_then (filled x f) (λ g. turn_value rest shape g)) → whole ≡ filled_then x (settled rest)
    → (shape : Shape) (f : Slots) → settled d shape f ≡ whole shape f
turn_first d x rest whole is e shape f =
    ap (λ (o : Outcome Value). and_then o settle) (is shape f) ∙ then_moves (filled x f) (λ g. turn_value rest shape g) settle ∙ at_each whole (filled_then x (settled rest)) shape f e

pub turn_either : (d : Turn) (c : Code) (x y : Turn) (whole : Meaning) → ((shape : Shape) (f : Slots) → turn_value d shape f ≡ and_then (value c f) (λ v. either_of v (turn_value x shape f) (turn_value y shape f))) → whole ≡ either_then c (settled x) (settled y)
    → (shape : Shape) (f : Slots) → settled d shape f ≡ whole shape f
turn_either d c x y whole is e shape f =
    ap (λ (o : Outcome Value). and_then o settle) (is shape f) ∙ choice_moves (value c f) (turn_value x shape f) (turn_value y shape f) settle ∙ at_each whole (either_then c (settled x) (settled y)) shape f e

settled_by : (o : Outcome Bool) (s : Value) → and_then o (λ (b : Bool). done (pair s (truth_value b))) ≡ and_then o (λ (b : Bool). if b then done (pair s (truth_value true)) else done (pair s (truth_value false)))
settled_by (done true) s = refl
settled_by (done false) s = refl
settled_by fault s = refl
settled_by stuck s = refl

settled_end : (o : Outcome Value) (s : Value) → and_then (and_then o (λ v. done (pair s v))) settle ≡ and_then o (λ v. either_of v (done (pair s (truth_value true))) (done (pair s (truth_value false))))
settled_end (done v) s = settled_by (truth_of v) s
settled_end fault s = refl
settled_end stuck s = refl

pub turn_end : (d : Turn) (c : Code) (first : ℕ) (whole : Meaning) → ((shape : Shape) (f : Slots) → turn_value d shape f ≡ and_then (value c f) (λ v. done (pair (shape_value shape first f) v))) → whole ≡ either_then c (ended_at first true) (ended_at first false)
    → (shape : Shape) (f : Slots) → settled d shape f ≡ whole shape f
turn_end d c first whole is e shape f =
    ap (λ (o : Outcome Value). and_then o settle) (is shape f) ∙ settled_end (value c f) (shape_value shape first f) ∙ at_each whole (either_then c (ended_at first true) (ended_at first false)) shape f e

-- ---- the end

end_value : (shape : Shape) (first : ℕ) (f : Slots) (w : Words) → first + room_of shape ≤ 64 → Agree f w → shape_value shape first f ≡ shape_value shape first (shown w)
end_value shape first f w h a = shape_same shape first first (shown w) f (λ j less. a (first + j) (omega (arith, h, less)))

pub end_lowers : (shape : Shape) (first : ℕ) (go : Bool) → first + room_of shape ≤ 64 → Lowers shape (steps.End first go) (ended_at first go)
end_lowers shape first go h f w a = ap (λ (v : Value). done (pair v (truth_value go))) (end_value shape first f w h a)

-- ---- fillings

pub put_filling : (d : Filling) (to : ℕ) (c : Code) (rest whole : Meaning) → ((f : Slots) → filled d f ≡ map_out (with_slot f to) (value c f)) → whole ≡ put_then to c rest → (shape : Shape) (f : Slots) → filled_then d rest shape f ≡ whole shape f
put_filling d to c rest whole is e shape f =
    ap (λ (o : Outcome Slots). and_then o (λ g. rest shape g)) (is f) ∙ put_moves (value c f) (with_slot f to) (λ g. rest shape g) ∙ at_each whole (put_then to c rest) shape f e

pub then_filling : (d x y : Filling) (rest whole : Meaning) → ((f : Slots) → filled d f ≡ and_then (filled x f) (filled y)) → whole ≡ filled_then x (filled_then y rest) → (shape : Shape) (f : Slots) → filled_then d rest shape f ≡ whole shape f
then_filling d x y rest whole is e shape f =
    ap (λ (o : Outcome Slots). and_then o (λ g. rest shape g)) (is f) ∙ then_moves (filled x f) (filled y) (λ g. rest shape g) ∙ at_each whole (filled_then x (filled_then y rest)) shape f e

pub either_filling : (d : Filling) (c : Code) (x y : Filling) (rest whole : Meaning) → ((f : Slots) → filled d f ≡ and_then (value c f) (λ v. either_of v (filled x f) (filled y f))) → whole ≡ either_then c (filled_then x rest) (filled_then y rest)
    → (shape : Shape) (f : Slots) → filled_then d rest shape f ≡ whole shape f
either_filling d c x y rest whole is e shape f =
    ap (λ (o : Outcome Slots). and_then o (λ g. rest shape g)) (is f) ∙ choice_moves (value c f) (filled x f) (filled y f) (λ g. rest shape g) ∙ at_each whole (either_then c (filled_then x rest) (filled_then y rest)) shape f e

-- ---- truth values

pub test_contrary : (d c : Code) (x y whole : Meaning) → ((f : Slots) → value d f ≡ and_then (value c f) (λ v. contrary v)) → whole ≡ either_then c y x → (shape : Shape) (f : Slots) → either_then d x y shape f ≡ whole shape f
test_contrary d c x y whole is e shape f =
    ap (λ (o : Outcome Value). and_then o (λ v. either_of v (x shape f) (y shape f))) (is f) ∙ contrary_moves (value c f) (x shape f) (y shape f) ∙ at_each whole (either_then c y x) shape f e

pub test_choice : (d c a b : Code) (x y whole : Meaning) → ((f : Slots) → value d f ≡ and_then (value c f) (λ u. either_of u (value a f) (value b f))) → whole ≡ either_then c (either_then a x y) (either_then b x y)
    → (shape : Shape) (f : Slots) → either_then d x y shape f ≡ whole shape f
test_choice d c a b x y whole is e shape f =
    ap (λ (o : Outcome Value). and_then o (λ v. either_of v (x shape f) (y shape f))) (is f) ∙ choice_moves (value c f) (value a f) (value b f) (λ v. either_of v (x shape f) (y shape f))
    ∙ at_each whole (either_then c (either_then a x y) (either_then b x y)) shape f e

told_so : (v : Value) (b : Bool) (p q : Outcome Value) → truth_of v ≡ done b → either_of v p q ≡ (if b then p else q)
told_so v b p q e = ap (λ (o : Outcome Bool). and_then o (λ (c : Bool). if c then p else q)) e

pub test_literal : (d : Code) (n : Short) (b : Bool) (x y : Meaning) → d ≡ codes.Literal n → truth_of (view_short n) ≡ done b → (shape : Shape) (f : Slots) → either_then d x y shape f ≡ (if b then x shape f else y shape f)
test_literal d n b x y is e shape f = ap (λ (c : Code). either_then c x y shape f) is ∙ told_so (view_short n) b (x shape f) (y shape f) e
