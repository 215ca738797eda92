-- Dictionaries whose keys are numbers.
use Rattle.std.proofs.Common.{◌≡◌, ◌∷◌, ℕ, zero, suc, ℤ, List, [], length, Bool, Option, Some, None, IfSome, is_some, refl, sym, ap, ◌∙◌, subst, arith}
use Rattle.std.specs.Prelude.{slice_get, slice_index_or}
use Rattle.weld_data.specs.declared.kind.Kind.{Kind}
use Rattle.weld_data.specs.Lookup.{value_of_key}
use Rattle.weld_data.specs.Order.{IsKeyFor, SameKeyType, Rises}
use Rattle.weld_data.specs.Value.{Value, number, list, struct, dict, no_values, and_value, entries, list_of_entries-entries}
use Rattle.weld_tree.specs.ExprTree.{ExprTree, At, two, key_exists}
use Rattle.weld_builders.specs.Outcome.{done, and_then, map_out, or_fault}
use Rattle.weld_meaning.specs.Thing.{plain}
use Rattle.weld_meaning.specs.Evaluation.{Env, eval, has_key, looked_up, truth_value, two_thing}
use Rattle.weld_eval.specs.NumberAnswers.{NumberAnswer}
use Rattle.weld_eval.specs.ShortView.{view_short}
use Rattle.weld_eval.specs.declared.short.Short.{Short}
use Rattle.weld_blocks.specs.Numbers.{number_at, MayGive, AreNumbersOf, MayBeNumbers}
use Rattle.weld_blocks.specs.Outer.{IsEverywhere}
use Rattle.weld_blocks.specs.declared.numbers.Numbers.{Numbers}

pub no_keys : (es : List (Value × Value)) (v : Value) → length es ≡ 0 → IsKeyFor es v
no_keys es v e j d less = let no : ⊥ = omega (arith, e, less) in absurd no

-- what is of one type with a number is so with each number of its kind
like_number : (k : Kind) (x y : ℤ) (v : Value) → SameKeyType (number k x) v → SameKeyType v (number k y)
like_number k x y (number m z) h = sym h
like_number k x y (list vs) h = absurd h
like_number k x y (struct no_values) h = absurd h
like_number k x y (struct (and_value w ws)) h = absurd h
like_number k x y (dict es) h = absurd h

first_is : (f : Value × Value) (es : List (Value × Value)) (e : Value × Value) (k : Kind) (x : ℤ) → slice_get (f ∷ es) 0 ≡ Some e → e.0 ≡ number k x → f.0 ≡ number k x
first_is f es e k x at is = let same : f ≡ e = cc in ap (λ (g : Value × Value). g.0) same ∙ is

pub like_first : (es : List (Value × Value)) (e : Value × Value) (k : Kind) (x y : ℤ) → Rises es → slice_get es 0 ≡ Some e → e.0 ≡ number k x → IsKeyFor es (number k y)
like_first [] e k x y r at is j d less = let no : ⊥ = cc in absurd no
like_first (f ∷ es) e k x y r at is zero d less = subst (λ v. SameKeyType v (number k y)) (sym (first_is f es e k x at is)) refl
like_first (f ∷ es) e k x y r at is (suc j) d less =
    like_number k x y (slice_index_or es j d).0 (subst (λ v. SameKeyType v (slice_index_or es j d).0) (first_is f es e k x at is) (r.rise 0 (suc j) d (omega arith) less).same_type)

found_key : (es : List (Value × Value)) (key v w : Value) → Some v ≡ value_of_key es key → v ≡ w → looked_up (dict (entries es)) key ≡ done w
found_key es key v w h same = ap (λ l. or_fault (value_of_key l key)) (list_of_entries-entries es) ∙ ap or_fault (sym h) ∙ ap done same

pub found_number : (r : Option Short) (es : List (Value × Value)) (key v : Value) → Some v ≡ value_of_key es key → NumberAnswer r v → IfSome r (λ n. looked_up (dict (entries es)) key ≡ done (view_short n))
found_number None es key v h q = tt
found_number (Some n) es key v h q = found_key es key v (view_short n) h q

pub key_told : (es : List (Value × Value)) (key w : Value) (b : Bool) → b ≡ is_some (value_of_key es key) → w ≡ truth_value b → has_key (dict (entries es)) key ≡ done w
key_told es key w b h same = ap (λ l. done (truth_value (is_some (value_of_key l key)))) (list_of_entries-entries es) ∙ ap (λ c. done (truth_value c)) (sym h) ∙ ap done (sym same)

pub keys_told : (r : Option Numbers) (a : At) (e f : ExprTree) (envs : ℕ → Env) (n : ExprTree) (u : Value) (es : List (Value × Value)) (d : Numbers) (count : ℕ) → n ≡ two a key_exists e f → IsEverywhere e envs u → u ≡ dict (entries es) → AreNumbersOf f envs d count
    → MayGive (λ j v. has_key (dict (entries es)) (number_at d j) ≡ done v) r count → MayBeNumbers n envs r count
keys_told None a e f envs n u es d count is p same q h = tt
keys_told (Some x) a e f envs n u es d count is p same q h = record {
  long = h.long;
  each = λ j less.
      ap (λ m. eval m (envs j)) is ∙ ap (λ o. and_then o (λ t. two_thing key_exists t (eval f (envs j)))) (p j ∙ ap (λ w. done (plain w)) same)
      ∙ ap (two_thing key_exists (plain (dict (entries es)))) (q.each j less) ∙ ap (map_out plain) (h.each j less);
}
