-- Merges in place.
use Rattle.std.proofs.Common.{◌≡◌, ℤ, List, [], ◌∷◌, ◌++◌, Result, Ok, Err, sym, ap, subst, ◌∙◌}
use Rattle.weld_data.specs.declared.stop.Stop.{Stop}
use Rattle.weld_data.specs.declared.stop.Stop.TheVariants.{Fault, Memory}
use Rattle.weld_data.specs.declared.kind.Kind.{Kind}
use Rattle.weld_data.specs.declared.value.Val.{Val}
use Rattle.weld_data.specs.declared.value.Val.TheVariants as val
use Rattle.weld_data.specs.Kind.{InRange}
use Rattle.weld_data.specs.Value.{Value, number, struct, values}
use Rattle.weld_data.specs.View.{view_val}
use Rattle.weld_builders.specs.Outcome.{done, map_out}
use Rattle.weld_builders.specs.Part.{Part, merge_part}
use Rattle.weld_meaning.specs.Thing.{Thing, plain, building}
use Rattle.weld_meaning.specs.Evaluation.{merged}
use Rattle.weld_built.specs.Pair.{pair}
use Rattle.weld_built.specs.State.{MergeAnswer}
use Rattle.weld_acts.specs.Act.{Acts}
use Rattle.weld_eval.specs.Word.{of_word}
use Rattle.weld_deeds.specs.Puts.{IsPut}

-- a merge into the part is one into the builder
pub put_acts : {T : Type 0} (r : Result T Stop) (p q : Part) (v : Value) → MergeAnswer r (merge_part p v) q → Acts r (merged (building p) (done (plain v))) (building q)
put_acts (Ok x) p q v h = ap (map_out building) h
put_acts (Err Fault) p q v h = ap (map_out building) h
put_acts (Err Memory) p q v h = tt

-- ---- numbers that are words

pub word_in_range : (k : Kind) (x : ℤ) → of_word k x ≡ x → InRange k (of_word k x) → InRange k x
word_in_range k x w r = subst (InRange k) w r

pub same_put : (s : Thing) (v w : Value) → v ≡ w → IsPut s v → IsPut s w
same_put s v w e h = subst (IsPut s) e h

pub same_acts : {T : Type 0} (r : Result T Stop) (s t : Thing) (v w : Value) → v ≡ w → Acts r (merged s (done (plain w))) t → Acts r (merged s (done (plain v))) t
same_acts r s t v w e h = subst (λ (u : Value). Acts r (merged s (done (plain u))) t) (sym e) h

word_number : (k : Kind) (x : ℤ) → of_word k x ≡ x → number k (of_word k x) ≡ number k x
word_number k x w = ap (number k) w

word_pair : (k m : Kind) (x y : ℤ) → of_word k x ≡ x → of_word m y ≡ y → pair (number k (of_word k x)) (number m (of_word m y)) ≡ pair (number k x) (number m y)
word_pair k m x y w u = ap (λ v. pair v (number m (of_word m y))) (word_number k x w) ∙ ap (pair (number k x)) (word_number m y u)

pub word_put : (s : Thing) (k : Kind) (x : ℤ) → of_word k x ≡ x → IsPut s (number k (of_word k x)) → IsPut s (number k x)
word_put s k x w h = same_put s _ _ (word_number k x w) h

pub word_acts : {T : Type 0} (r : Result T Stop) (s t : Thing) (k : Kind) (x : ℤ) → of_word k x ≡ x → Acts r (merged s (done (plain (number k x)))) t → Acts r (merged s (done (plain (number k (of_word k x))))) t
word_acts r s t k x w h = same_acts r s t _ _ (word_number k x w) h

pub words_put : (s : Thing) (k m : Kind) (x y : ℤ) → of_word k x ≡ x → of_word m y ≡ y → IsPut s (pair (number k (of_word k x)) (number m (of_word m y))) → IsPut s (pair (number k x) (number m y))
words_put s k m x y w u h = same_put s _ _ (word_pair k m x y w u) h

pub words_act : {T : Type 0} (r : Result T Stop) (s t : Thing) (k m : Kind) (x y : ℤ) → of_word k x ≡ x → of_word m y ≡ y → Acts r (merged s (done (plain (pair (number k x) (number m y))))) t
    → Acts r (merged s (done (plain (pair (number k (of_word k x)) (number m (of_word m y)))))) t
words_act r s t k m x y w u h = same_acts r s t _ _ (word_pair k m x y w u) h

-- two numbers that were pushed are the struct of both
pub two_numbers : (v : Val) (vs us : List Value) (a b c d : Value) → vs ≡ [] ++ c ∷ [] → us ≡ vs ++ d ∷ [] → a ≡ c → b ≡ d → v ≡ val.Struct us → pair a b ≡ view_val v
two_numbers v vs us a b c d one two p q is = ap (λ x. pair x b) p ∙ ap (pair c) q ∙ ap (λ xs. struct (values xs)) (sym (two ∙ ap (λ xs. xs ++ d ∷ []) one)) ∙ sym (ap view_val is)
