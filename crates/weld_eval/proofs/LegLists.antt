-- Legs in the code, leg by leg.
use Rattle.std.proofs.Common.{◌≡◌, ℕ, zero, suc, ◌-◌, true, false, List, [], ◌∷◌, length, slice_get, Option, Some, None, Ok, Bor, refl, ap, sym, subst, ◌∙◌, arith}
use Rattle.std.proofs.lemmas.Option.{get_or_from_slice_get}
use Rattle.weld_data.specs.Order.{IsNumber}
use Rattle.weld_data.specs.View.{view_column}
use Rattle.weld_data.specs.declared.value.Column.{Column}
use Rattle.weld_data.specs.Value.{Value, struct, no_values}
use Rattle.weld_builders.specs.Outcome.{fault}
use Rattle.weld_meaning.specs.Evaluation.{rows_of}
use Rattle.weld_eval.specs.declared.short.Short.{Short}
use Rattle.weld_eval.specs.declared.legs.Legs.{Legs}
use Rattle.weld_eval.specs.declared.legs.Legs.TheFolds.{fold-roll-Legs}
use Rattle.weld_eval.specs.declared.legs.Legs.TheOpen.{Legs-F}
use Rattle.weld_eval.specs.declared.legs.Legs.TheVariants.{And, End, rolls-And, rolls-End}
use Rattle.weld_eval.specs.LegsView.{legs_step, lists_of}
use Rattle.weld_eval.specs.NumberAnswers.{NumberAnswer, ElementNumber}
use Rattle.weld_eval.specs.RowLists.{RowsAnswer, all_long, row_in, is_one}
use Rattle.weld_eval.proofs.RowLists.{even_rows, uneven_rows}

pub lists_and : (legs : Legs) (c : Bor Column) (r : Bor Legs) → legs ≡ And c r → lists_of legs ≡ view_column c.now ∷ lists_of r.now
lists_and legs c r e = ap lists_of e ∙ ap lists_of (sym (rolls-And c r)) ∙ fold-roll-Legs (List (List Value)) legs_step _

pub lists_end : (legs : Legs) → legs ≡ End → lists_of legs ≡ []
lists_end legs e = ap lists_of e ∙ ap lists_of (sym rolls-End) ∙ fold-roll-Legs (List (List Value)) legs_step Legs-F.End

-- ---- how many rows there are

pub counted : (legs : Legs) (c : Bor Column) (r : Bor Legs) (n : ℕ) → legs ≡ And c r → n ≡ length (view_column c.now) → true ≡ all_long n (lists_of r.now) → RowsAnswer (Ok n) (lists_of legs)
counted legs c r n e k a =
    subst (λ (ls : List (List Value)). RowsAnswer (Ok n) ls) (sym (lists_and legs c r e)) (even_rows n (view_column c.now) (lists_of r.now) (sym k) (sym a))

pub uncounted : (legs : Legs) (c : Bor Column) (r : Bor Legs) (n : ℕ) → legs ≡ And c r → n ≡ length (view_column c.now) → false ≡ all_long n (lists_of r.now) → rows_of (lists_of legs) ≡ fault
uncounted legs c r n e k a = ap rows_of (lists_and legs c r e) ∙ uneven_rows n (view_column c.now) (lists_of r.now) (sym k) (sym a)

-- ---- the one leg

-- where the legs are one alone, the row is its element
one_row : (ls : List (List Value)) (l : List Value) (ms : List (List Value)) (i : ℕ) (v : Value) → ls ≡ l ∷ ms → is_one ls ≡ true → slice_get l i ≡ Some v → row_in ls i ≡ v
one_row ls l ms i v e one is = ap (λ (ks : List (List Value)). row_in ks i) e ∙ by ms (sym (ap is_one e) ∙ one)
  where
    by : (ks : List (List Value)) → is_one (l ∷ ks) ≡ true → row_in (l ∷ ks) i ≡ v
    by [] o = get_or_from_slice_get l i v (struct no_values) is
    by (k ∷ ks) o = let no : ⊥ = cc in absurd no

pub element_is : (legs : Legs) (c : Bor Column) (r : Bor Legs) (i : ℕ) (v : Value) → legs ≡ And c r → is_one (lists_of legs) ≡ true → slice_get (view_column c.now) i ≡ Some v → row_in (lists_of legs) i ≡ v
element_is legs c r i v e one is = one_row (lists_of legs) (view_column c.now) (lists_of r.now) i v (lists_and legs c r e) one is

-- the row of one leg that ends there
last_row : (legs : Legs) (c : Bor Column) (r : Bor Legs) (i : ℕ) (v : Value) → legs ≡ And c r → r.now ≡ End → slice_get (view_column c.now) i ≡ Some v → row_in (lists_of legs) i ≡ v
last_row legs c r i v e end is =
    let ls : lists_of legs ≡ view_column c.now ∷ [] = lists_and legs c r e ∙ ap (λ (ms : List (List Value)). view_column c.now ∷ ms) (lists_end r.now end) in
    one_row (lists_of legs) (view_column c.now) [] i v ls (ap is_one ls) is

pub last_value : (legs : Legs) (c : Bor Column) (r : Bor Legs) (i : ℕ) (v : Value) → legs ≡ And c r → r.now ≡ End → slice_get (view_column c.now) i ≡ Some v → v ≡ row_in (lists_of legs) i
last_value legs c r i v e end is = sym (last_row legs c r i v e end is)

pub last_number : (legs : Legs) (c : Bor Column) (r : Bor Legs) (i : ℕ) (n : Option Short) → legs ≡ And c r → r.now ≡ End → ElementNumber n (slice_get (view_column c.now) i) → NumberAnswer n (row_in (lists_of legs) i)
last_number legs c r i (Some n) e end is = last_row legs c r i _ e end is
last_number legs c r i None e end is = subst (λ (v : Value). ¬ IsNumber v) (sym (last_row legs c r i is.0 e end is.1)) is.2

-- ---- the leg of a place

later : (ls : List (List Value)) (n : ℕ) (x : List Value) (l : List Value) (ms : List (List Value)) → ls ≡ l ∷ ms → (n ≡ 0 → ⊥) → slice_get ms (n - 1) ≡ Some x → slice_get ls n ≡ Some x
later ls zero x l ms e d is = absurd (d refl)
later ls (suc n) x l ms e d is =
    let one : suc n - 1 ≡ n = omega arith in
    ap (λ (ks : List (List Value)). slice_get ks (suc n)) e ∙ subst (λ (k : ℕ). slice_get ms k ≡ Some x) one is

pub later_leg : (legs : Legs) (c : Bor Column) (r : Bor Legs) (n : ℕ) (x : List Value) → legs ≡ And c r → (n ≡ 0 → ⊥) → slice_get (lists_of r.now) (n - 1) ≡ Some x → slice_get (lists_of legs) n ≡ Some x
later_leg legs c r n x e d is = later (lists_of legs) n x (view_column c.now) (lists_of r.now) (lists_and legs c r e) d is
