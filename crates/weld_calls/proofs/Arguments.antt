-- Arguments of a type, read as lists.
use Rattle.std.specs.Cmp.{signed_Decides}
use Rattle.std.proofs.Common.{◌≡◌, ◌≢◌, true≢false, ℤ, pos, int_eq, Bool, true, false, ◌∷◌, map, ap, sym, refl, ◌∙◌, arith}
use Rattle.std.proofs.lemmas.Int.{ints}
use Rattle.weld_data.specs.declared.kind.Kind.{Kind}
use Rattle.weld_data.specs.declared.kind.Kind.TheVariants as kinds
use Rattle.weld_data.specs.Kind.{InRange}
use Rattle.weld_data.specs.Wrapped.{wrapped}
use Rattle.weld_data.specs.Operation.{truth}
use Rattle.weld_data.specs.Value.{Value, number, list, struct, dict, Values, no_values, and_value, list_of_values}
use Rattle.weld_data.proofs.Wrapping.{wrapped-in_range}
use Rattle.weld_tree.specs.TypeTree.{TypeTree, scalar, vec}
use Rattle.weld_tree.specs.HasValue.{HasValue, AllAre}
use Rattle.weld_builders.specs.Outcome.{done}
use Rattle.weld_meaning.specs.Evaluation.{truth_value, elements_of}
use Rattle.weld_calls.specs.Lists.{items, number_in, numbers, truth_in, truths}

pub items_are : (t : TypeTree) (v : Value) → HasValue (vec t) v → elements_of v ≡ done (items v)
items_are t (number k x) h = absurd h
items_are t (list vs) h = refl
items_are t (struct vs) h = absurd h
items_are t (dict es) h = absurd h

-- ---- numbers

pub number_is : (k : Kind) (v : Value) → HasValue (scalar k) v → v ≡ number k (number_in v)
number_is k (number m x) h = ap (λ j. number j x) h.0
number_is k (list vs) h = absurd h
number_is k (struct vs) h = absurd h
number_is k (dict es) h = absurd h

pub in_range : (k : Kind) (v : Value) → HasValue (scalar k) v → InRange k (number_in v)
in_range k (number m x) h = h.1
in_range k (list vs) h = absurd h
in_range k (struct vs) h = absurd h
in_range k (dict es) h = absurd h

each_number : (k : Kind) (vs : Values) → AllAre (HasValue (scalar k)) vs → list_of_values vs ≡ map (number k) (map number_in (list_of_values vs))
each_number k no_values h = refl
each_number k (and_value v vs) h = λ i. number_is k v h.0 i ∷ each_number k vs h.1 i

pub numbers_are : (k : Kind) (v : Value) → HasValue (vec (scalar k)) v → elements_of v ≡ done (map (number k) (numbers v))
numbers_are k (number m x) h = absurd h
numbers_are k (list vs) h = ap done (each_number k vs h)
numbers_are k (struct vs) h = absurd h
numbers_are k (dict es) h = absurd h

each_wrapped : (k : Kind) (vs : Values) → AllAre (HasValue (scalar k)) vs → list_of_values vs ≡ map (λ x. number k (wrapped k x)) (map number_in (list_of_values vs))
each_wrapped k no_values h = refl
each_wrapped k (and_value v vs) h =
    λ i. (number_is k v h.0 ∙ ap (number k) (sym (wrapped-in_range k (number_in v) (in_range k v h.0)))) i ∷ each_wrapped k vs h.1 i

-- each number is in range, so that wrapping changes nothing
pub wrapped_are : (k : Kind) (v : Value) → HasValue (vec (scalar k)) v → elements_of v ≡ done (map (λ x. number k (wrapped k x)) (numbers v))
wrapped_are k (number m x) h = absurd h
wrapped_are k (list vs) h = ap done (each_wrapped k vs h)
wrapped_are k (struct vs) h = absurd h
wrapped_are k (dict es) h = absurd h

-- ---- truth values

truth_again : (x : ℤ) (b : Bool) → int_eq x (pos 1) ≡ b → InRange kinds.Bool x → x ≡ truth b
truth_again x true e r = (signed_Decides x (pos 1)).0 e
truth_again x false e r =
    let ne : x ≢ pos 1 = λ h. true≢false (sym ((signed_Decides x (pos 1)).1 h) ∙ e) in
    omega (arith, ints, ne, r.low, r.high)

truth_is : (v : Value) → HasValue (scalar kinds.Bool) v → v ≡ truth_value (truth_in v)
truth_is v h =
    number_is kinds.Bool v h ∙ ap (number kinds.Bool) (truth_again (number_in v) (truth_in v) refl (in_range kinds.Bool v h))

each_truth : (vs : Values) → AllAre (HasValue (scalar kinds.Bool)) vs → list_of_values vs ≡ map truth_value (map truth_in (list_of_values vs))
each_truth no_values h = refl
each_truth (and_value v vs) h = λ i. truth_is v h.0 i ∷ each_truth vs h.1 i

pub truths_are : (v : Value) → HasValue (vec (scalar kinds.Bool)) v → elements_of v ≡ done (map truth_value (truths v))
truths_are (number m x) h = absurd h
truths_are (list vs) h = ap done (each_truth vs h)
truths_are (struct vs) h = absurd h
truths_are (dict es) h = absurd h

pub truth_read : (b : Bool) → int_eq (truth b) (pos 1) ≡ b
truth_read true = refl
truth_read false = refl
