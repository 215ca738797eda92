-- Structs of two numbers.
use Rattle.std.proofs.Common.{◌≡◌, ℕ, ◌<◌, ltb, Bool, true, false, ◌&&◌, List, [], ◌∷◌, ◌++◌, length, slice_get, option_to_list, Some, Bor, refl, ap, sym, ◌∙◌}
use Rattle.std.proofs.lemmas.Bool.{ltb-true}
use Rattle.weld_data.specs.View.{view_val, view_column}
use Rattle.weld_data.specs.declared.value.Val.{Val}
use Rattle.weld_data.specs.declared.value.Val.TheVariants as val
use Rattle.weld_data.specs.declared.value.Column.{Column}
use Rattle.weld_data.specs.Value.{Value, struct, values}
use Rattle.weld_built.specs.Pair.{pair}
use Rattle.weld_eval.specs.declared.legs.Legs.{Legs}
use Rattle.weld_eval.specs.declared.legs.Legs.TheVariants.{And, End}
use Rattle.weld_eval.specs.LegsView.{lists_of}
use Rattle.weld_eval.specs.RowLists.{row_in, has_row, all_reach}
use Rattle.weld_eval.proofs.LegLists.{lists_and, lists_end}

two_values : (vs : List Value) (a b : Value) → length vs ≡ 2 → slice_get vs 0 ≡ Some a → slice_get vs 1 ≡ Some b → struct (values vs) ≡ pair a b
two_values [] a b n x y = let no : ⊥ = cc in absurd no
two_values (c ∷ []) a b n x y = let no : ⊥ = cc in absurd no
two_values (c ∷ d ∷ []) a b n x y = let one : c ≡ a = cc in let two : d ≡ b = cc in ap (λ v. pair v d) one ∙ ap (λ v. pair a v) two
two_values (c ∷ d ∷ e ∷ vs) a b n x y = let no : ⊥ = cc in absurd no

-- the value is the struct of two fields that are these
pub fields_are : (v : Val) (vs : List Value) (a b : Value) → v ≡ val.Struct vs → length vs ≡ 2 → slice_get vs 0 ≡ Some a → slice_get vs 1 ≡ Some b → view_val v ≡ pair a b
fields_are v vs a b is n x y = ap view_val is ∙ two_values vs a b n x y

two_elements : (l m : List Value) (i : ℕ) (a b : Value) → slice_get l i ≡ Some a → slice_get m i ≡ Some b → row_in (l ∷ m ∷ []) i ≡ pair a b
two_elements l m i a b x y = ap (λ o. struct (values (option_to_list o ++ (option_to_list (slice_get m i) ++ [])))) x ∙ ap (λ o. struct (values (a ∷ (option_to_list o ++ [])))) y

-- the row of two legs is the struct of their elements
pub legs_are : (legs : Legs) (c d : Bor Column) (r s : Bor Legs) (i : ℕ) (a b : Value) → legs ≡ And c r → r.now ≡ And d s → s.now ≡ End → slice_get (view_column c.now) i ≡ Some a → slice_get (view_column d.now) i ≡ Some b
    → row_in (lists_of legs) i ≡ pair a b
legs_are legs c d r s i a b is then end x y =
    let ls : lists_of legs ≡ view_column c.now ∷ view_column d.now ∷ [] =
    lists_and legs c r is ∙ ap (λ (ms : List (List Value)). view_column c.now ∷ ms) (lists_and r.now d s then ∙ ap (λ (ms : List (List Value)). view_column d.now ∷ ms) (lists_end s.now end)) in
    ap (λ (ks : List (List Value)). row_in ks i) ls ∙ two_elements (view_column c.now) (view_column d.now) i a b x y

-- both legs reach to where the row is
pub second_reaches : (legs : Legs) (c d : Bor Column) (r s : Bor Legs) (i : ℕ) → legs ≡ And c r → r.now ≡ And d s → has_row i (lists_of legs) ≡ true → i < length (view_column d.now)
second_reaches legs c d r s i is then there =
    let ls : lists_of legs ≡ view_column c.now ∷ view_column d.now ∷ lists_of s.now =
    lists_and legs c r is ∙ ap (λ (ms : List (List Value)). view_column c.now ∷ ms) (lists_and r.now d s then) in
    by (length (view_column c.now)) (length (view_column d.now)) (all_reach i (lists_of s.now)) (sym (ap (has_row i) ls) ∙ there)
  where
    by : (m n : ℕ) (o : Bool) → (ltb i m && (ltb i n && o)) ≡ true → i < n
    by m n o h = ltb-true i n (second (ltb i m) (ltb i n) o h)
      where
        second : (p q o : Bool) → (p && (q && o)) ≡ true → q ≡ true
        second true true o h = refl
        second true false o h = let no : ⊥ = cc in absurd no
        second false q o h = let no : ⊥ = cc in absurd no
