-- Elements read one after another.
use Rattle.std.proofs.Common.{◌≡◌, ℕ, zero, suc, ◌+◌, add-one, ℤ, pos, int_eq, Bool, List, [], ◌∷◌, ◌++◌, map, take, slice_get, Some, IfSome, ap, sym, refl, subst, ◌∙◌}
use Rattle.std.proofs.lemmas.List.{map-append}
use Rattle.weld_data.specs.declared.kind.Kind.{Kind}
use Rattle.weld_data.specs.Order.{IsNumber}
use Rattle.weld_data.specs.Value.{Value, number, list, struct, dict, values, list_of_values, list_of_values-values}
use Rattle.weld_tree.specs.TypeTree.{scalar, vec}
use Rattle.weld_tree.specs.HasValue.{HasValue, AllAre}
use Rattle.weld_data.specs.Kind.{InRange}
use Rattle.weld_calls.specs.Lists.{number_in, numbers, truth_in}
use Rattle.weld_builders.specs.Range.{AllInRange}
use Rattle.weld_calls.proofs.Histograms.{all_in_range}
use Rattle.weld_eager.proofs.Words.{bits, bits_are}
use Rattle.weld_eager.specs.Reading.{AreNumbers}

one_more : {A : Type 0} (cs : List A) (i : ℕ) (v : A) → slice_get cs i ≡ Some v → take i cs ++ v ∷ [] ≡ take (suc i) cs
one_more [] i v e = let no : ⊥ = cc in absurd no
one_more (c ∷ cs) zero v e = let same : v ≡ c = cc in ap (λ x. x ∷ []) same
one_more (c ∷ cs) (suc i) v e = ap (λ l. c ∷ l) (one_more cs i v e)

-- what becomes of the first elements, and of one more
pub mapped_more : {A B : Type 0} (f : A → B) (cs : List A) (i : ℕ) (v : A) (y : B) (bs new : List B) → new ≡ bs ++ y ∷ [] → bs ≡ map f (take i cs) → slice_get cs i ≡ Some v → y ≡ f v → new ≡ map f (take (i + 1) cs)
mapped_more f cs i v y bs new is so at becomes =
    is ∙ (λ j. so j ++ becomes j ∷ []) ∙ sym (map-append f (take i cs) (v ∷ []))
    ∙ ap (map f) (one_more cs i v at ∙ ap (λ n. take n cs) (sym (add-one i)))

is_number : (k : Kind) (v : Value) → HasValue (scalar k) v → IsNumber v
is_number k (number m x) h = tt
is_number k (list vs) h = absurd h
is_number k (struct vs) h = absurd h
is_number k (dict es) h = absurd h

number_there : (k : Kind) (vs : List Value) (i : ℕ) → AllAre (HasValue (scalar k)) (values vs) → IfSome (slice_get vs i) IsNumber
number_there k [] i h = tt
number_there k (v ∷ vs) zero h = is_number k v h.0
number_there k (v ∷ vs) (suc i) h = number_there k vs i h.1

pub is_there : (vs : List Value) (i : ℕ) → AreNumbers vs → IfSome (slice_get vs i) IsNumber
is_there vs i h = number_there h.0 vs i h.1

pub number_more : (cs : List Value) (i : ℕ) (k : Kind) (x : ℤ) (xs new : List ℤ) → InRange k x → new ≡ xs ++ bits x ∷ [] → xs ≡ map number_in (take i cs) → slice_get cs i ≡ Some (number k x) → new ≡ map number_in (take (i + 1) cs)
number_more cs i k x xs new fits is so at =
    mapped_more number_in cs i (number k x) x xs new (is ∙ ap (λ y. xs ++ y ∷ []) (bits_are k x fits)) so at refl

pub truth_more : (cs : List Value) (i : ℕ) (k : Kind) (x : ℤ) (b : Bool) (bs new : List Bool) → b ≡ int_eq x (pos 1) → new ≡ bs ++ b ∷ [] → bs ≡ map truth_in (take i cs) → slice_get cs i ≡ Some (number k x) → new ≡ map truth_in (take (i + 1) cs)
truth_more cs i k x b bs new test is so at = mapped_more truth_in cs i (number k x) b bs new is so at test

pub listed : (vs : List Value) → list_of_values (values vs) ≡ vs
listed vs = list_of_values-values vs

pub vector_in_range : (k : Kind) (v : Value) (xs : List ℤ) → HasValue (vec (scalar k)) v → xs ≡ numbers v → AllInRange k xs
vector_in_range k v xs h e = subst (AllInRange k) (sym e) (all_in_range k v h)
