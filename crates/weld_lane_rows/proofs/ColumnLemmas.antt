-- The rows of legs of numbers.
use Rattle.std.proofs.Common.{Bor, ◌≡◌, ℕ, zero, suc, ◌<◌, ◌≤◌, false, true, ℤ, List, [], ◌∷◌, ◌++◌, length, map, get_or, slice_get, Option, Some, option_to_list, refl, ap, ◌∙◌, arith}
use Rattle.std.proofs.lemmas.List.{length-map}
use Rattle.weld_data.specs.declared.kind.Kind.{Kind}
use Rattle.weld_data.specs.declared.value.Column.{Column}
use Rattle.weld_data.specs.Value.{Value, number, struct, values, no_values}
use Rattle.weld_data.specs.View.{view_column}
use Rattle.weld_eval.specs.declared.legs.Legs.{Legs}
use Rattle.weld_eval.specs.declared.legs.Legs.TheVariants.{And, End}
use Rattle.weld_eval.specs.LegsView.{lists_of}
use Rattle.weld_eval.specs.RowLists.{row_in}
use Rattle.weld_eval.proofs.LegLists.{lists_and, lists_end}
use Rattle.weld_lanes.specs.Answers.{at}
use Rattle.weld_lane_form.specs.Bodies.{row_value}
use Rattle.weld_lane_rows.specs.Columns.{AreRows, AreCells}

-- what stands at a place is the number of the element there
number_at : {T : Type 0} (f : T → ℤ) (k : Kind) (cells : List T) (i : ℕ) → i < length cells → slice_get (map (λ x. number k (f x)) cells) i ≡ Some (number k (at (map f cells) i))
number_at f k [] i less = absurd (omega arith)
number_at f k (x ∷ xs) zero less = refl
number_at f k (x ∷ xs) (suc i) less = number_at f k xs i (omega arith)

number_or : {T : Type 0} (f : T → ℤ) (k : Kind) (cells : List T) (i : ℕ) (d : Value) → i < length cells → get_or (map (λ x. number k (f x)) cells) i d ≡ number k (at (map f cells) i)
number_or f k [] i d less = absurd (omega arith)
number_or f k (x ∷ xs) zero d less = refl
number_or f k (x ∷ xs) (suc i) d less = number_or f k xs i d (omega arith)

one_row : {T : Type 0} (f : T → ℤ) (k : Kind) (vs : List Value) (cells : List T) (to i : ℕ) → AreCells f k vs cells to → i < to → row_in (vs ∷ []) i ≡ row_value k false (at (map f cells) i) (at (map f cells) i)
one_row f k vs cells to i h less =
    ap (λ (us : List Value). row_in (us ∷ []) i) h.are ∙ number_or f k cells i (struct no_values) (omega (arith, h.reach))

two_row : {T : Type 0} (f : T → ℤ) (k : Kind) (vs ws : List Value) (cells others : List T) (to i : ℕ) → AreCells f k vs cells to → AreCells f k ws others to → i < to
    → row_in (vs ∷ ws ∷ []) i ≡ row_value k true (at (map f cells) i) (at (map f others) i)
two_row f k vs ws cells others to i h g less =
    ap (λ (us : List Value). row_in (us ∷ ws ∷ []) i) h.are
    ∙ ap (λ (us : List Value). row_in (map (λ x. number k (f x)) cells ∷ us ∷ []) i) g.are
    ∙ ap (λ (o : Option Value). struct (values (option_to_list o ++ (option_to_list (slice_get (map (λ x. number k (f x)) others) i) ++ [])))) (number_at f k cells i (omega (arith, h.reach)))
    ∙ ap (λ (o : Option Value). struct (values (number k (at (map f cells) i) ∷ (option_to_list o ++ [])))) (number_at f k others i (omega (arith, g.reach)))

reaches : {T : Type 0} (f : T → ℤ) (k : Kind) (vs : List Value) (cells : List T) (to : ℕ) → AreCells f k vs cells to → to ≤ length (map f cells)
reaches f k vs cells to h = omega (arith, h.reach, length-map cells f)

pub one_rows : {T : Type 0} (f : T → ℤ) (k : Kind) (legs : Legs) (c : Bor Column) (r : Bor Legs) (cells : List T) (to : ℕ) → legs ≡ And c r → r.now ≡ End → AreCells f k (view_column c.now) cells to
    → AreRows k false (lists_of legs) (map f cells) (map f cells) to
one_rows f k legs c r cells to is none h =
    let lists : lists_of legs ≡ view_column c.now ∷ [] = lists_and legs c r is ∙ ap (λ (ls : List (List Value)). view_column c.now ∷ ls) (lists_end r.now none) in
    record {
      each = λ i less. ap (λ (ls : List (List Value)). row_in ls i) lists ∙ one_row f k (view_column c.now) cells to i h less;
      first = reaches f k (view_column c.now) cells to h;
      second = reaches f k (view_column c.now) cells to h;
    }

pub two_rows : {T : Type 0} (f : T → ℤ) (k : Kind) (legs : Legs) (c d : Bor Column) (r q : Bor Legs) (cells others : List T) (to : ℕ) → legs ≡ And c r → r.now ≡ And d q → q.now ≡ End → AreCells f k (view_column c.now) cells to → AreCells f k (view_column d.now) others to
    → AreRows k true (lists_of legs) (map f cells) (map f others) to
two_rows f k legs c d r q cells others to is more none h g =
    let rest : lists_of r.now ≡ view_column d.now ∷ [] = lists_and r.now d q more ∙ ap (λ (ls : List (List Value)). view_column d.now ∷ ls) (lists_end q.now none) in
    let lists : lists_of legs ≡ view_column c.now ∷ view_column d.now ∷ [] = lists_and legs c r is ∙ ap (λ (ls : List (List Value)). view_column c.now ∷ ls) rest in
    record {
      each = λ i less. ap (λ (ls : List (List Value)). row_in ls i) lists ∙ two_row f k (view_column c.now) (view_column d.now) cells others to i h g less;
      first = reaches f k (view_column c.now) cells to h;
      second = reaches f k (view_column d.now) others to g;
    }
