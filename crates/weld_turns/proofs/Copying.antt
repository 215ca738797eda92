-- Slots that are filled from other slots.
use Rattle.std.proofs.Common.{◌≡◌, ℕ, ◌+◌, ◌<◌, Bool, true, false, if◌then◌else◌, refl, ap, sym, subst, ◌∙◌}
use Rattle.weld_data.specs.Value.{Value}
use Rattle.weld_data.specs.declared.op.BinOp.{BinOp}
use Rattle.weld_builders.specs.Outcome.{Outcome, done, fault, stuck, and_then, map_out}
use Rattle.weld_meaning.specs.Evaluation.{operated, selected, truth_of}
use Rattle.weld_meaning.specs.Thing.{Thing, plain}
use Rattle.weld_turns.specs.CodeView.{Slots, slot_limit, with_slot, shape_value, filled, value, either_of}
use Rattle.weld_turns.specs.Fillings.{Copies, IsFilled, IsWork, Picks}
use Rattle.weld_turns.specs.declared.code.Code.{Code}
use Rattle.weld_turns.specs.declared.code.Code as code
use Rattle.weld_turns.specs.declared.code.Filling.{Filling}
use Rattle.weld_turns.specs.declared.code.Filling as filling
use Rattle.weld_turns.specs.declared.code.Shape.{Shape}
use Rattle.weld_turns.specs.declared.code.Shape.TheVariants.{One, Fields}
use Rattle.weld_turns.proofs.Scoping.{there, put_keeps}

-- a slot that is filled with a number
pub put_fills : (f : Slots) (first : ℕ) (o : Outcome Value) → first < slot_limit → IsFilled (map_out plain o) (map_out (with_slot f first) o) One first f
put_fills f first (done v) less = (ap (λ (x : Value). done (plain x)) (sym (there f first v)), put_keeps f first v less)
put_fills f first fault less = refl
put_fills f first stuck less = refl

-- one of two fillings, by a truth value
pub choose_filled : (t : Outcome Bool) (o p : Outcome Thing) (q r : Outcome Slots) (shape : Shape) (first : ℕ) (f : Slots) → IsFilled o q shape first f → IsFilled p r shape first f
    → IsFilled (and_then t (λ (b : Bool). if b then o else p)) (and_then t (λ (b : Bool). if b then q else r)) shape first f
choose_filled (done true) o p q r shape first f h k = h
choose_filled (done false) o p q r shape first f h k = k
choose_filled fault o p q r shape first f h k = refl
choose_filled stuck o p q r shape first f h k = refl

pub one_copied : (from first : ℕ) → first < slot_limit → Copies (filling.Put first (code.Slot from)) One from first
one_copied from first less f = put_fills f first (done (f from)) less

by_truth : (t : Outcome Bool) (v w : Value) (q r : Outcome Slots) (shape : Shape) (first : ℕ) (f : Slots) → IsFilled (done (plain v)) q shape first f → IsFilled (done (plain w)) r shape first f
    → IsFilled (map_out plain (map_out (λ (b : Bool). if b then v else w) t)) (and_then t (λ (b : Bool). if b then q else r)) shape first f
by_truth (done true) v w q r shape first f h k = h
by_truth (done false) v w q r shape first f h k = k
by_truth fault v w q r shape first f h k = refl
by_truth stuck v w q r shape first f h k = refl

pub copy_picked : (t x y : Filling) (n held first : ℕ) → ((f : Slots) → filled t f ≡ either_of (f held) (filled x f) (filled y f)) → Copies x (Fields n) (held + 1) first → Copies y (Fields n) (held + 1 + n) first → Picks t n held first
copy_picked t x y n held first is i j f =
    let v : Value = shape_value (Fields n) (held + 1) f in
    let w : Value = shape_value (Fields n) (held + 1 + n) f in
    subst (λ (r : Outcome Slots). IsFilled (map_out plain (selected (f held) v w)) r (Fields n) first f) (sym (is f))
    (by_truth (truth_of (f held)) v w (filled x f) (filled y f) (Fields n) first f (i f) (j f))

pub work_filled : (t : Filling) (x y : Code) (op : BinOp) (first second : ℕ) → x ≡ code.Slot first → y ≡ code.Slot second → ((f : Slots) → filled t f ≡ map_out (with_slot f first) (and_then (value x f) (λ v. and_then (value y f) (λ w. operated op v w)))) → IsWork t op first second
work_filled t x y op first second p q is f =
    is f ∙ ap (λ (c : Code). map_out (with_slot f first) (and_then (value c f) (λ v. and_then (value y f) (λ w. operated op v w)))) p
    ∙ ap (λ (c : Code). map_out (with_slot f first) (and_then (value c f) (λ w. operated op (f first) w))) q
