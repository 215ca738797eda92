-- Answers of numbers, seen as values.
use Rattle.std.proofs.Common.{◌≡◌, Bool, ℤ, ◌*ℤ◌, List, [], ◌∷◌, map, Result, ap, sym, refl, ◌∙◌, subst}
use Rattle.weld_data.specs.declared.kind.Kind.{Kind}
use Rattle.weld_data.specs.declared.op.BinOp.{BinOp}
use Rattle.weld_data.specs.declared.op.BinOp.TheVariants as ops
use Rattle.weld_data.specs.declared.op.MergeOp.{MergeOp}
use Rattle.weld_data.specs.declared.op.MergeOp.TheVariants as merges
use Rattle.weld_data.specs.declared.stop.Stop.{Stop}
use Rattle.weld_data.specs.declared.value.Val.{Val}
use Rattle.weld_data.specs.Operation.{operation, start_of}
use Rattle.weld_data.specs.Wrapped.{wrapped}
use Rattle.weld_data.specs.Value.{Value, number}
use Rattle.weld_data.specs.View.{view_val}
use Rattle.weld_data.proofs.Wrapping.{IsWrapped-wrapped}
use Rattle.weld_builders.specs.Outcome.{Outcome, done, fault, stuck, and_then, map_out, or_fault}
use Rattle.weld_builders.specs.Range.{AllInRange}
use Rattle.weld_eval.specs.Answers.{Answers}
use Rattle.weld_calls.specs.Lists.{number_vector, paired, each, elementwise, chosen, wrapped_sum, dot}
use Rattle.weld_calls.specs.Folds.{combined_all}
use Rattle.weld_calls.proofs.Outcomes.{map_out-map_out, map_out-same}
use Rattle.weld_calls.proofs.Eaches.{each_done}
use Rattle.weld_calls.proofs.Totals.{total_of, combined_is, sum_of_wrapped}

pub vector_or_fault : (op : BinOp) (k : Kind) (xs ys us vs zs : List ℤ) (v : Value) → xs ≡ us → ys ≡ vs → elementwise op k xs ys ≡ done zs → v ≡ number_vector k zs → map_out (number_vector k) (elementwise op k us vs) ≡ done v
vector_or_fault op k xs ys us vs zs v e f h g = (λ i. map_out (number_vector k) (elementwise op k (sym e i) (sym f i))) ∙ ap (map_out (number_vector k)) h ∙ ap done (sym g)

pub chosen_or_fault : (k : Kind) (ms ns : List Bool) (xs ys us vs zs : List ℤ) (v : Value) → ms ≡ ns → xs ≡ us → ys ≡ vs → chosen ms xs ys ≡ done zs → v ≡ number_vector k zs → map_out (number_vector k) (chosen ns us vs) ≡ done v
chosen_or_fault k ms ns xs ys us vs zs v m e f h g = (λ i. map_out (number_vector k) (chosen (sym m i) (sym e i) (sym f i))) ∙ ap (map_out (number_vector k)) h ∙ ap done (sym g)

pub all_wrapped : (k : Kind) (s : ℤ) (xs zs : List ℤ) → zs ≡ map (λ x. wrapped k (x *ℤ s)) xs → AllInRange k zs
all_wrapped k s xs zs e = subst (AllInRange k) (sym e) (by xs)
  where
    by : (ys : List ℤ) → AllInRange k (map (λ x. wrapped k (x *ℤ s)) ys)
    by [] = tt
    by (y ∷ ys) = ((IsWrapped-wrapped k (y *ℤ s)).in_range, by ys)

-- ---- dots

products : (k : Kind) (xs ys : List ℤ) → elementwise ops.Mul k xs ys ≡ map_out (map (λ (p : ℤ × ℤ). wrapped k (p.0 *ℤ p.1))) (paired xs ys)
products k xs ys = by (paired xs ys)
  where
    by : (o : Outcome (List (ℤ × ℤ))) → and_then o (each (λ (p : ℤ × ℤ). or_fault (operation ops.Mul k p.0 p.1))) ≡ map_out (map (λ (p : ℤ × ℤ). wrapped k (p.0 *ℤ p.1))) o
    by (done ps) = each_done (λ (p : ℤ × ℤ). wrapped k (p.0 *ℤ p.1)) ps
    by fault = refl
    by stuck = refl

dot_is : (k : Kind) (xs ys : List ℤ) → dot k xs ys ≡ map_out (wrapped_sum k) (elementwise ops.Mul k xs ys)
dot_is k xs ys =
    map_out-same (paired xs ys) _ _ (λ ps. sym (sum_of_wrapped k (λ (p : ℤ × ℤ). p.0 *ℤ p.1) ps))
    ∙ sym (map_out-map_out (map (λ (p : ℤ × ℤ). wrapped k (p.0 *ℤ p.1))) (wrapped_sum k) (paired xs ys))
    ∙ ap (map_out (wrapped_sum k)) (sym (products k xs ys))

pub dot_there : (k : Kind) (xs ys zs : List ℤ) (x : ℤ) → elementwise ops.Mul k xs ys ≡ done zs → x ≡ combined_all merges.Add k (start_of merges.Add k) zs → dot k xs ys ≡ done x
dot_there k xs ys zs x h e = dot_is k xs ys ∙ ap (map_out (wrapped_sum k)) h ∙ ap done (sym (e ∙ combined_is merges.Add k zs))

pub dot_fault : (k : Kind) (xs ys : List ℤ) → elementwise ops.Mul k xs ys ≡ fault → dot k xs ys ≡ fault
dot_fault k xs ys h = dot_is k xs ys ∙ ap (map_out (wrapped_sum k)) h

pub dot_or_fault : (k m : Kind) (xs ys us vs : List ℤ) (x : ℤ) → xs ≡ us → ys ≡ vs → dot k xs ys ≡ done x → m ≡ k → map_out (number k) (dot k us vs) ≡ done (number m x)
dot_or_fault k m xs ys us vs x e f h g = (λ i. map_out (number k) (dot k (sym e i) (sym f i))) ∙ ap (map_out (number k)) h ∙ (λ i. done (number (sym g i) x))

-- ---- totals

pub total_answer : (op : MergeOp) (k : Kind) (xs : List ℤ) (r : Result Val Stop) → Answers view_val r (done (number k (combined_all op k (start_of op k) xs))) → Answers view_val r (done (number k (total_of op k xs)))
total_answer op k xs r a = subst (λ x. Answers view_val r (done (number k x))) (combined_is op k xs) a
