-- Slots that are read and written.
use Rattle.std.proofs.Common.{◌≡◌, ℕ, ℤ, subst, zero, suc, ◌+◌, ◌<◌, ◌==◌, Bool, true, false, if◌then◌else◌, List, [], ◌∷◌, length, set, get_or, refl, ap, sym, ◌∙◌, arith}
use Rattle.std.proofs.lemmas.Bool.{eq-eqb, eqb-true}
use Rattle.weld_data.specs.Value.{Value}
use Rattle.weld_built.specs.Pair.{pair}
use Rattle.weld_eval.specs.ShortView.{view_short}
use Rattle.weld_eval.specs.declared.short.Short.{Short}
use Rattle.weld_data.specs.declared.kind.Kind.{Kind}
use Rattle.weld_builders.specs.Outcome.{done}
use Rattle.weld_turns.specs.Answers.{IsNumberIn}
use Rattle.weld_turns.specs.CodeView.{slots_of, with_slot}

pub slot_is : (ss : List Short) (i : ℕ) (n : Short) → i < length ss → n ≡ get_or ss i n → slots_of ss i ≡ view_short n
slot_is [] i n h e = absurd (omega arith)
slot_is (s ∷ ss) zero n h e = ap view_short (sym e)
slot_is (s ∷ ss) (suc i) n h e = slot_is ss i n (omega arith) e

pub at_slot : (k : Kind) (x : ℤ) (ss : List Short) (i : ℕ) (n : Short) → i < length ss → n ≡ get_or ss i n → IsNumberIn k x (done (view_short n)) → IsNumberIn k x (done (slots_of ss i))
at_slot k x ss i n h e q = subst (λ (v : Value). IsNumberIn k x (done v)) (sym (slot_is ss i n h e)) q

pub set_there : (ss : List Short) (i : ℕ) (n : Short) → i < length ss → slots_of (set ss i n) i ≡ view_short n
set_there [] i n h = absurd (omega arith)
set_there (s ∷ ss) zero n h = refl
set_there (s ∷ ss) (suc i) n h = set_there ss i n (omega arith)

pub set_beside : (ss : List Short) (i j : ℕ) (n : Short) → (j ≡ i → ⊥) → slots_of (set ss i n) j ≡ slots_of ss j
set_beside [] i j n h = refl
set_beside (s ∷ ss) zero zero n h = absurd (h refl)
set_beside (s ∷ ss) zero (suc j) n h = refl
set_beside (s ∷ ss) (suc i) zero n h = refl
set_beside (s ∷ ss) (suc i) (suc j) n h = set_beside ss i j n (λ e. h (ap suc e))

-- a slot that is written is the slots with that value there
pub slot_written : (ss : List Short) (i : ℕ) (n : Short) → i < length ss → slots_of (set ss i n) ≡ with_slot (slots_of ss) i (view_short n)
slot_written ss i n h = λ d j. by j (j == i) refl d
  where
    by : (j : ℕ) (t : Bool) → (j == i) ≡ t → slots_of (set ss i n) j ≡ (if t then view_short n else slots_of ss j)
    by j true q = ap (slots_of (set ss i n)) (eqb-true j i q) ∙ set_there ss i n h
    by j false q = set_beside ss i j n (λ e. (let no : false ≡ true = sym q ∙ eq-eqb j i e in let absurdity : ⊥ = cc in absurdity))

pub put_there : (ss : List Short) (i : ℕ) (n : Short) (v : Value) → i < length ss → view_short n ≡ v → slots_of (set ss i n) ≡ with_slot (slots_of ss) i v
put_there ss i n v h e = slot_written ss i n h ∙ ap (with_slot (slots_of ss) i) e

pub one_moved : (ss : List Short) (i : ℕ) (n : Short) → i < length ss → n ≡ get_or ss i n → slots_of (set ss 0 n) 0 ≡ slots_of ss i
one_moved ss i n h e = set_there ss 0 n (omega arith) ∙ sym (slot_is ss i n h e)

pub two_moved : (ss : List Short) (i : ℕ) (x y : Short) → i + 1 < length ss → x ≡ get_or ss i x → y ≡ get_or ss (i + 1) y → pair (slots_of (set (set ss 0 x) 1 y) 0) (slots_of (set (set ss 0 x) 1 y) 1) ≡ pair (slots_of ss i) (slots_of ss (suc i))
two_moved ss i x y h e f =
    ap (λ v. pair v (slots_of (set (set ss 0 x) 1 y) 1)) (set_beside (set ss 0 x) 1 0 y (λ q. (let no : ⊥ = omega arith in no)) ∙ set_there ss 0 x (omega arith) ∙ sym (slot_is ss i x (omega arith) e))
    ∙ ap (λ v. pair (slots_of ss i) v) (set_there (set ss 0 x) 1 y (long ss x h) ∙ sym (slot_is ss (i + 1) y h f) ∙ ap (slots_of ss) (let more : i + 1 ≡ suc i = omega arith in more))
  where
    long : (rs : List Short) (z : Short) → i + 1 < length rs → 1 < length (set rs 0 z)
    long [] z g = absurd (omega arith)
    long (r ∷ rs) z g = omega arith
