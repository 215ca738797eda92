-- Numbers that are put into places, and comparisons that choose.
use Rattle.std.proofs.Common.{◌≡◌, ℕ, ℤ, pos, neg_ℤ, ◌*ℤ◌, suc, ◌+◌, ◌<◌, ◌≤◌, ◌==◌, Bool, true, false, not, if◌then◌else◌, Option, Some, None, option_map, Result, Ok, Err, IfOk, int_lt, int_le, refl, ap, sym, subst, ◌∙◌, arith}
use Rattle.std.proofs.lemmas.Bool.{eq-eqb, eqb-true}
use Rattle.std.proofs.Math.IntN.{*ℤ-negsuc, *ℤ-one}
use Rattle.weld_data.specs.declared.kind.Kind.{Kind}
use Rattle.weld_data.specs.declared.kind.Kind.TheVariants as kinds
use Rattle.weld_data.specs.declared.op.BinOp.{BinOp}
use Rattle.weld_data.specs.declared.op.BinOp.TheVariants as ops
use Rattle.std.specs.Ordering.{int_eq}
use Rattle.weld_data.specs.Wrapped.{wrapped}
use Rattle.weld_data.specs.Operation.{operation, answer_kind}
use Rattle.weld_data.specs.Value.{Value, number}
use Rattle.weld_builders.specs.Outcome.{Outcome, done, fault, stuck, and_then, map_out, or_fault}
use Rattle.weld_eval.specs.ShortView.{view_short}
use Rattle.weld_eval.specs.declared.short.Short.{Short}
use Rattle.weld_meaning.specs.Evaluation.{negated, operated, truth_of, truth_value}
use Rattle.weld_turns.specs.CodeView.{Slots, either_of, value, with_slot}
use Rattle.weld_turns.specs.StepView.{Words, step_value, with_word, word_of_operand}
use Rattle.weld_turns.specs.Lowering.{Agree, Brings, Compares, Forks, IsAtHand, IsBrought, IsFork, IsForkOf, IsOppositePut, IsPut, IsWordPut, IsWorkPut, Lowers, MayHaveSlot, Meaning, Puts, Works, between, operand_or, picked_by, put_then, shared, slot_or}
use Rattle.weld_turns.specs.declared.code.Code.{Code}
use Rattle.weld_turns.specs.declared.code.Code as codes
use Rattle.weld_turns.specs.declared.code.Shape.{Shape}
use Rattle.weld_turns.specs.declared.step.Operand.{Operand}
use Rattle.weld_turns.specs.declared.step.Operand.TheVariants as operands
use Rattle.weld_turns.specs.declared.step.Step.{Step}
use Rattle.weld_turns.specs.declared.code.Unmade.{Unmade}

-- ---- words

pub with_same : (w : Words) (to : ℕ) (x : ℤ) → with_word w to x to ≡ x
with_same w to x = ap (λ (b : Bool). if b then x else w to) (eq-eqb to to refl)

not_itself : (i to : ℕ) → (i ≡ to → ⊥) → (i == to) ≡ true → ⊥
not_itself i to n q = n (eqb-true i to q)

pub with_other : (w : Words) (to i : ℕ) (x : ℤ) → (i ≡ to → ⊥) → with_word w to x i ≡ w i
with_other w to i x n = by (i == to) refl
  where
    by : (b : Bool) → (i == to) ≡ b → (if i == to then x else w i) ≡ w i
    by true q = absurd (n (eqb-true i to q))
    by false q = ap (λ (b : Bool). if b then x else w i) q

-- ---- slots and words

kept_agree : (f : Slots) (w u : Words) (below : ℕ) → shared ≤ below → Agree f w → ((i : ℕ) → suc i ≤ below → u i ≡ w i) → Agree f u
kept_agree f w u below more a k i h = a i h ∙ ap (number kinds.I64) (sym (k i (omega (arith, h, more))))

put_agree : (f : Slots) (w u : Words) (to : ℕ) (v : Value) (x : ℤ) → Agree f w → v ≡ number kinds.I64 x → u to ≡ x → ((i : ℕ) → suc i ≤ shared → (i ≡ to → ⊥) → u i ≡ w i) → Agree (with_slot f to v) u
put_agree f w u to v x a e at k i h = by (i == to) refl
  where
    by : (b : Bool) → (i == to) ≡ b → (if i == to then v else f i) ≡ number kinds.I64 (u i)
    by true q = ap (λ (b : Bool). if b then v else f i) q ∙ e ∙ ap (number kinds.I64) (sym at) ∙ ap (λ j. number kinds.I64 (u j)) (sym (eqb-true i to q))
    by false q = ap (λ (b : Bool). if b then v else f i) q ∙ a i h ∙ ap (number kinds.I64) (sym (k i h (λ s. (let no : false ≡ true = sym q ∙ eq-eqb i to s in let absurdity : ⊥ = cc in absurdity))))

-- ---- numbers

word_put : (t k : Step) (w : Words) (to below : ℕ) (v : Value) (x : ℤ) → v ≡ number kinds.I64 x → ((shape : Shape) → step_value t shape w ≡ step_value k shape (with_word w to x)) → IsPut (done v) t k w to below
word_put t k w to below v x e s = (x, with_word w to x, e, s, with_same w to x, (λ i h n. with_other w to i x n))

pub slot_puts : (t k : Step) (i to below : ℕ) → i < shared → ((shape : Shape) (w : Words) → step_value t shape w ≡ step_value k shape (with_word w to (w i))) → Puts t k (codes.Slot i) to below
slot_puts t k i to below h s f w a = word_put t k w to below (f i) (w i) (a i h) (λ shape. s shape w)

pub literal_ok : (r : Result Step Unmade) (k : Step) (n : Short) (to : ℕ) (x : ℤ) → view_short n ≡ number kinds.I64 x → IfOk r (λ t. IsWordPut t k x to) → IfOk r (λ t. (below : ℕ) → Puts t k (codes.Literal n) to below)
literal_ok (Ok t) k n to x e s = λ below f w a. word_put t k w to below (view_short n) x e (λ shape. s shape w)
literal_ok (Err u) k n to x e s = s

-- what is put whatever places are kept
pub puts_as : (r : Result Step Unmade) (k : Step) (c d : Code) (to below : ℕ) → c ≡ d → IfOk r (λ t. (b : ℕ) → Puts t k d to b) → IfOk r (λ t. Puts t k c to below)
puts_as (Ok t) k c d to below e h = subst (λ (x : Code). Puts t k x to below) (sym e) (h below)
puts_as (Err u) k c d to below e h = h

-- ---- numbers that are brought

pub hand_brings : (t k : Step) (c : Code) (o : Operand) (below : ℕ) → t ≡ k → IsAtHand c o → Brings t k c o below
hand_brings t k c o below e h f w a = subst (λ (p : Outcome Value). IsBrought p o t k w below) (sym (h f w a)) (w, refl, (λ shape. ap (λ r. step_value r shape w) e), (λ i l. refl))

pub slot_brings : (t k : Step) (c : Code) (i below : ℕ) → t ≡ k → IsAtHand c (operands.Place i) → Brings t k c (operands.Place i) below
slot_brings t k c i below e h = hand_brings t k c (operands.Place i) below e h

pub put_brings : (t k : Step) (c : Code) (place : ℕ) → Puts t k c place place → Brings t k c (operands.Place place) place
put_brings t k c place h f w a = by (value c f) (h f w a)
  where
    by : (p : Outcome Value) → IsPut p t k w place place → IsBrought p (operands.Place place) t k w place
    by (done v) (x, u, e, s, at, kept) = (u, e ∙ ap (number kinds.I64) (sym at), s, (λ i l. kept i l (λ q. omega (arith, l, q))))
    by fault q = q
    by stuck q = q

-- ---- operators

operated_words : (op : BinOp) (x y : ℤ) → operated op (number kinds.I64 x) (number kinds.I64 y) ≡ or_fault (option_map (number (answer_kind op kinds.I64)) (operation op kinds.I64 x y))
operated_words op x y = refl

same_place : (slot : Option ℕ) (c : Code) (below : ℕ) → shared ≤ below → MayHaveSlot c slot → suc (slot_or slot below) ≤ below + 1
same_place (Some i) c below more h = omega (arith, more, h.1)
same_place None c below more h = omega arith

answered : (t last k : Step) (op : BinOp) (to left below : ℕ) (right : Operand) (w u : Words) → Works last k op to left right → ((shape : Shape) → step_value t shape w ≡ step_value last shape u) → ((i : ℕ) → suc i ≤ below → u i ≡ w i)
    → IsPut (operated op (number kinds.I64 (u left)) (number kinds.I64 (word_of_operand right u))) t k w to below
answered t last k op to left below right w u works s kept = by (operation op kinds.I64 (u left) (word_of_operand right u)) refl
  where
    by : (o : Option ℤ) → operation op kinds.I64 (u left) (word_of_operand right u) ≡ o → IsPut (or_fault (option_map (number (answer_kind op kinds.I64)) (operation op kinds.I64 (u left) (word_of_operand right u)))) t k w to below
    by (Some x) q =
        subst (λ (o : Option ℤ). IsPut (or_fault (option_map (number (answer_kind op kinds.I64)) o)) t k w to below) (sym q) (
          x,
          with_word u to x,
          ap (λ (j : Kind). number j x) works.kind,
          (λ shape. s shape ∙ works.works shape u ∙ ap (λ (o : Option ℤ). and_then (map_out (with_word u to) (or_fault o)) (λ (z : Words). step_value k shape z)) q),
          with_same u to x,
          (λ i l n. with_other u to i x n ∙ kept i l),
        )
    by None q =
        subst (λ (o : Option ℤ). IsPut (or_fault (option_map (number (answer_kind op kinds.I64)) o)) t k w to below) (sym q)
        (λ shape. s shape ∙ works.works shape u ∙ ap (λ (o : Option ℤ). and_then (map_out (with_word u to) (or_fault o)) (λ (z : Words). step_value k shape z)) q)

-- the opposite is the product with -1
opposite_is : (x : ℤ) → negated (number kinds.I64 x) ≡ operated ops.Mul (number kinds.I64 x) (number kinds.I64 (neg_ℤ (pos 1)))
unfolding lib.IntN.one
opposite_is x = let same : neg_ℤ x ≡ x *ℤ neg_ℤ (pos 1) = sym (*ℤ-negsuc x 0 ∙ ap neg_ℤ (*ℤ-one x)) in ap (λ (z : ℤ). done (number kinds.I64 (wrapped kinds.I64 z))) same

pub opposite_puts : (t last k : Step) (x : Code) (to below : ℕ) (slot : Option ℕ) → Works last k ops.Mul to (slot_or slot below) (operands.Word (neg_ℤ (pos 1))) → Brings t last x (operands.Place (slot_or slot below)) below → IsOppositePut t k x to below
opposite_puts t last k x to below slot works first f w a = by (value x f) (first f w a)
  where
    by : (o : Outcome Value) → IsBrought o (operands.Place (slot_or slot below)) t last w below → IsPut (and_then o negated) t k w to below
    by (done v) (u, e, s, kept) =
        subst (λ (p : Outcome Value). IsPut p t k w to below) (sym (ap negated e ∙ opposite_is (u (slot_or slot below))))
        (answered t last k ops.Mul to (slot_or slot below) below (operands.Word (neg_ℤ (pos 1))) w u works s kept)
    by fault q = q
    by stuck q = q

pub opposite_ok : (r : Result Step Unmade) (last k : Step) (x : Code) (to below place : ℕ) (slot : Option ℕ) → place ≡ slot_or slot below → Works last k ops.Mul to place (operands.Word (neg_ℤ (pos 1))) → IfOk r (λ t. Brings t last x (operands.Place (slot_or slot below)) below)
    → IfOk r (λ t. IsOppositePut t k x to below)
opposite_ok (Ok t) last k x to below place slot at works h = opposite_puts t last k x to below slot (subst (λ (i : ℕ). Works last k ops.Mul to i (operands.Word (neg_ℤ (pos 1)))) at works) h
opposite_ok (Err u) last k x to below place slot at works h = h

pub opposite_code : (r : Result Step Unmade) (k : Step) (c x : Code) (to below : ℕ) → ((f : Slots) → value c f ≡ and_then (value x f) negated) → IfOk r (λ t. IsOppositePut t k x to below) → IfOk r (λ t. Puts t k c to below)
opposite_code (Ok t) k c x to below is h = λ f w a. subst (λ (o : Outcome Value). IsPut o t k w to below) (sym (is f)) (h f w a)
opposite_code (Err u) k c x to below is h = h

pub work_puts : (t next last k : Step) (op : BinOp) (x y : Code) (to below : ℕ) (slot : Option ℕ) (hand : Option Operand) → shared ≤ below → MayHaveSlot x slot → Works last k op to (slot_or slot below) (operand_or hand (below + 1))
    → Brings next last y (operand_or hand (below + 1)) (below + 1) → Brings t next x (operands.Place (slot_or slot below)) below → IsWorkPut t k op x y to below
work_puts t next last k op x y to below slot hand more at works second first f w a = by (value x f) (first f w a)
  where
    left : ℕ
    left = slot_or slot below

    right : Operand
    right = operand_or hand (below + 1)

    by_two : (v : Value) (u : Words) (o : Outcome Value) → v ≡ number kinds.I64 (u left) → ((shape : Shape) → step_value t shape w ≡ step_value next shape u) → ((i : ℕ) → suc i ≤ below → u i ≡ w i) → IsBrought o right next last u (below + 1) → IsPut (and_then o (λ z. operated op v z)) t k w to below
    by_two v u (done z) e s kept (u2, e2, s2, kept2) =
        subst (λ (p : Outcome Value). IsPut p t k w to below)
        (sym (ap (λ (b : Value). operated op b z) (e ∙ ap (number kinds.I64) (sym (kept2 left (same_place slot x below more at)))) ∙ ap (operated op (number kinds.I64 (u2 left))) e2))
        (answered t last k op to left below right w u2 works (λ shape. s shape ∙ s2 shape) (λ i l. kept2 i (omega (arith, l)) ∙ kept i l))
    by_two v u fault e s kept q = λ shape. s shape ∙ q shape
    by_two v u stuck e s kept q = q

    by : (o : Outcome Value) → IsBrought o (operands.Place left) t next w below → IsPut (and_then o (λ v. and_then (value y f) (λ z. operated op v z))) t k w to below
    by (done v) (u, e, s, kept) = by_two v u (value y f) e s kept (second f u (kept_agree f w u below more a kept))
    by fault q = q
    by stuck q = q

-- ---- comparisons

same : (b : Bool) → b ≡ (if b then true else false)
same true = refl
same false = refl

other : (b : Bool) → not b ≡ (if b then false else true)
other true = refl
other false = refl

if_same : (b : Bool) (p q : Outcome Value) → (if (if b then true else false) then p else q) ≡ (if b then p else q)
if_same true p q = refl
if_same false p q = refl

if_other : (b : Bool) (p q : Outcome Value) → (if (if b then false else true) then p else q) ≡ (if b then q else p)
if_other true p q = refl
if_other false p q = refl

pub truth_back : (b : Bool) → truth_of (truth_value b) ≡ done b
truth_back true = refl
truth_back false = refl

abbrev tells : BinOp → ℤ → ℤ → Bool
tells op x y = picked_by op x y true false

told : (op : BinOp) (x y : ℤ) → Compares op → operated op (number kinds.I64 x) (number kinds.I64 y) ≡ done (truth_value (tells op x y))
told ops.Eq x y c = ap (λ (b : Bool). done (truth_value b)) (same (int_eq x y))
told ops.Ne x y c = ap (λ (b : Bool). done (truth_value b)) (other (int_eq x y))
told ops.Lt x y c = ap (λ (b : Bool). done (truth_value b)) (same (int_lt x y))
told ops.Le x y c = ap (λ (b : Bool). done (truth_value b)) (same (int_le x y))
told ops.Gt x y c = ap (λ (b : Bool). done (truth_value b)) (same (int_lt y x))
told ops.Ge x y c = ap (λ (b : Bool). done (truth_value b)) (same (int_le y x))
told ops.Add x y c = absurd c
told ops.Sub x y c = absurd c
told ops.Mul x y c = absurd c
told ops.Div x y c = absurd c
told ops.Rem x y c = absurd c

chosen_by : (op : BinOp) (x y : ℤ) (p q : Outcome Value) → Compares op → and_then (operated op (number kinds.I64 x) (number kinds.I64 y)) (λ v. either_of v p q) ≡ picked_by op x y p q
chosen_by op x y p q c =
    ap (λ (o : Outcome Value). and_then o (λ v. either_of v p q)) (told op x y c) ∙ ap (λ (o : Outcome Bool). and_then o (λ (b : Bool). if b then p else q)) (truth_back (tells op x y)) ∙ picked op c
  where
    picked : (op : BinOp) → Compares op → (if tells op x y then p else q) ≡ picked_by op x y p q
    picked ops.Eq c = if_same (int_eq x y) p q
    picked ops.Ne c = if_other (int_eq x y) p q
    picked ops.Lt c = if_same (int_lt x y) p q
    picked ops.Le c = if_same (int_le x y) p q
    picked ops.Gt c = if_same (int_lt y x) p q
    picked ops.Ge c = if_same (int_le y x) p q
    picked ops.Add c = absurd c
    picked ops.Sub c = absurd c
    picked ops.Mul c = absurd c
    picked ops.Div c = absurd c
    picked ops.Rem c = absurd c

picked_ap : (op : BinOp) (x y : ℤ) (p q r s : Outcome Value) → p ≡ r → q ≡ s → picked_by op x y p q ≡ picked_by op x y r s
picked_ap op x y p q r s e h = ap (λ (o : Outcome Value). picked_by op x y o q) e ∙ ap (picked_by op x y r) h

pub fork_lowers : (t next last so not_so : Step) (op : BinOp) (a b : Code) (slot : Option ℕ) (hand : Option Operand) → MayHaveSlot a slot → Forks last so not_so op (slot_or slot 64) (operand_or hand 65)
    → Brings next last b (operand_or hand 65) 65 → Brings t next a (operands.Place (slot_or slot 64)) 64 → IsForkOf t so not_so op a b
fork_lowers t next last so not_so op a b slot hand at forks second first shape x y lx ly f w g = by (value a f) (first f w g)
  where
    left : ℕ
    left = slot_or slot 64

    right : Operand
    right = operand_or hand 65

    forked : (u : Words) → Agree f u → step_value t shape w ≡ step_value last shape u → and_then (operated op (number kinds.I64 (u left)) (number kinds.I64 (word_of_operand right u))) (λ v. either_of v (x shape f) (y shape f)) ≡ step_value t shape w
    forked u ag s =
        chosen_by op (u left) (word_of_operand right u) (x shape f) (y shape f) forks.compares
        ∙ picked_ap op (u left) (word_of_operand right u) (x shape f) (y shape f) (step_value so shape u) (step_value not_so shape u) (lx f u ag) (ly f u ag)
        ∙ sym (s ∙ forks.forks shape u)

    by_two : (v : Value) (u : Words) (o : Outcome Value) → v ≡ number kinds.I64 (u left) → Agree f u → step_value t shape w ≡ step_value next shape u → IsBrought o right next last u 65
        → and_then (and_then o (λ z. operated op v z)) (λ q. either_of q (x shape f) (y shape f)) ≡ step_value t shape w
    by_two v u (done z) e ag s (u2, e2, s2, kept2) =
        ap (λ (o : Outcome Value). and_then o (λ q. either_of q (x shape f) (y shape f)))
        (ap (λ (i : Value). operated op i z) (e ∙ ap (number kinds.I64) (sym (kept2 left (same_place slot a 64 (omega arith) at)))) ∙ ap (operated op (number kinds.I64 (u2 left))) e2)
        ∙ forked u2 (kept_agree f u u2 65 (omega arith) ag kept2) (s ∙ s2 shape)
    by_two v u fault e ag s q = sym (s ∙ q shape)
    by_two v u stuck e ag s q = absurd q

    by : (o : Outcome Value) → IsBrought o (operands.Place left) t next w 64 → and_then (and_then o (λ v. and_then (value b f) (λ z. operated op v z))) (λ q. either_of q (x shape f) (y shape f)) ≡ step_value t shape w
    by (done v) (u, e, s, kept) = by_two v u (value b f) e (kept_agree f w u 64 (omega arith) g kept) (s shape) (second f u (kept_agree f w u 64 (omega arith) g kept))
    by fault q = sym (q shape)
    by stuck q = absurd q

-- ---- what follows

put_lowers : (shape : Shape) (t k : Step) (c : Code) (to : ℕ) (m : Meaning) → Lowers shape k m → Puts t k c to 64 → Lowers shape t (put_then to c m)
put_lowers shape t k c to m l p f w a = by (value c f) (p f w a)
  where
    by : (o : Outcome Value) → IsPut o t k w to 64 → and_then o (λ v. m shape (with_slot f to v)) ≡ step_value t shape w
    by (done v) (x, u, e, s, at, kept) = l (with_slot f to v) u (put_agree f w u to v x a e at kept) ∙ sym (s shape)
    by fault q = sym (q shape)
    by stuck q = absurd q

pub put_ok : (shape : Shape) (r : Result Step Unmade) (k : Step) (c : Code) (to : ℕ) (m : Meaning) → Lowers shape k m → IfOk r (λ t. Puts t k c to 64) → IfOk r (λ t. Lowers shape t (put_then to c m))
put_ok shape (Ok t) k c to m l p = put_lowers shape t k c to m l p
put_ok shape (Err u) k c to m l p = p

-- ---- what was brought

pub work_ok : (r : Result Step Unmade) (next last k : Step) (op : BinOp) (x y : Code) (to below left : ℕ) (right : Operand) (slot : Option ℕ) (hand : Option Operand) → shared ≤ below → MayHaveSlot x slot → left ≡ slot_or slot below → right ≡ operand_or hand (below + 1)
    → Works last k op to left right → Brings next last y (operand_or hand (below + 1)) (below + 1) → IfOk r (λ t. Brings t next x (operands.Place (slot_or slot below)) below) → IfOk r (λ t. IsWorkPut t k op x y to below)
work_ok (Ok t) next last k op x y to below left right slot hand more at e h works second first =
    work_puts t next last k op x y to below slot hand more at (subst (λ (o : Operand). Works last k op to (slot_or slot below) o) h (subst (λ (i : ℕ). Works last k op to i right) e works)) second first
work_ok (Err u) next last k op x y to below left right slot hand more at e h works second first = first

pub fork_ok : (r : Result Step Unmade) (next last so not_so : Step) (op : BinOp) (x y : Code) (left : ℕ) (right : Operand) (slot : Option ℕ) (hand : Option Operand) → MayHaveSlot x slot → left ≡ slot_or slot 64 → right ≡ operand_or hand 65
    → Forks last so not_so op left right → Brings next last y (operand_or hand 65) 65 → IfOk r (λ t. Brings t next x (operands.Place (slot_or slot 64)) 64) → IfOk r (λ t. IsForkOf t so not_so op x y)
fork_ok (Ok t) next last so not_so op x y left right slot hand at e h forks second first =
    fork_lowers t next last so not_so op x y slot hand at (subst (λ (o : Operand). Forks last so not_so op (slot_or slot 64) o) h (subst (λ (i : ℕ). Forks last so not_so op i right) e forks)) second first
fork_ok (Err u) next last so not_so op x y left right slot hand at e h forks second first = first

pub work_is : (r : Result Step Unmade) (k : Step) (op : BinOp) (c x y : Code) (to below : ℕ) → ((f : Slots) → value c f ≡ between op x y f) → IfOk r (λ t. IsWorkPut t k op x y to below) → IfOk r (λ t. Puts t k c to below)
work_is (Ok t) k op c x y to below e h = λ f w a. subst (λ (o : Outcome Value). IsPut o t k w to below) (sym (e f)) (h f w a)
work_is (Err u) k op c x y to below e h = h

pub fork_is : (r : Result Step Unmade) (so not_so : Step) (op : BinOp) (c x y : Code) → ((f : Slots) → value c f ≡ between op x y f) → IfOk r (λ t. IsForkOf t so not_so op x y) → IfOk r (λ t. IsFork t so not_so c)
fork_is (Ok t) so not_so op c x y e h = λ s m n l r f w a. ap (λ (o : Outcome Value). and_then o (λ v. either_of v (m s f) (n s f))) (e f) ∙ h s m n l r f w a
fork_is (Err u) so not_so op c x y e h = h

pub slot_rests : (slot : Option ℕ) (k : Step) (c : Code) (i place : ℕ) → slot ≡ Some i → MayHaveSlot c slot → Brings k k c (operands.Place (slot_or slot place)) place
slot_rests (Some j) k c i place e h = slot_brings k k c j place refl h.0
slot_rests None k c i place e h = let no : ⊥ = cc in absurd no
