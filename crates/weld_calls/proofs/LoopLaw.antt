-- The law of loops: what a row makes of the builder, folded over the rows.
use Rattle.std.proofs.Common.{◌≡◌, ℕ, suc, List, [], ◌∷◌, map, ap, sym, refl, ◌∙◌}
use Rattle.weld_data.specs.Value.{Value}
use Rattle.weld_tree.specs.ExprTree.{ExprTree, LegTrees}
use Rattle.weld_builders.specs.Outcome.{Outcome, done, fault, stuck, and_then, map_out}
use Rattle.weld_builders.specs.Part.{Part, result_of}
use Rattle.weld_meaning.specs.Thing.{Thing, plain, building}
use Rattle.weld_meaning.specs.Evaluation.{Env, Row, whole_number, number_from, rows_of, run, finished, eval, eval_legs}
use Rattle.weld_calls.specs.CallPrograms.{gathered}
use Rattle.weld_calls.specs.Folds.{folded, RowsAre, BodySteps, folded_result}
use Rattle.weld_calls.proofs.Outcomes.{and_then-assoc}

-- rows, one after another
pub run_is : {A : Type 0} (f : Row → Thing → Outcome Thing) (row : A → Value) (step : Part → A → Outcome Part) → ((q : Part) (i : ℕ) (y : A) → f (i, row y) (building q) ≡ map_out building (step q y)) → (n : ℕ) (p : Part) (ys : List A) → run (number_from n (map row ys)) (building p) f ≡ map_out building (folded step p ys)
run_is f row step h n p [] = refl
run_is {A} f row step h n p (y ∷ ys) =
    ap (λ o. and_then o (λ t. run (number_from (suc n) (map row ys)) t f)) (h p n y)
    ∙ by (step p y) (λ q. run_is f row step h (suc n) q ys)
  where
    by : (o : Outcome Part) → ((q : Part) → run (number_from (suc n) (map row ys)) (building q) f ≡ map_out building (folded step q ys)) → and_then (map_out building o) (λ t. run (number_from (suc n) (map row ys)) t f) ≡ map_out building (and_then o (λ q. folded step q ys))
    by (done q) k = k q
    by fault k = refl
    by stuck k = refl

finished_is : (o : Outcome Part) → and_then (map_out building o) finished ≡ map_out plain (map_out result_of o)
finished_is (done q) = refl
finished_is fault = refl
finished_is stuck = refl

pub gathered_is : {A : Type 0} (legs : LegTrees) (builder : ExprTree) (b n x : ℕ) (body : ExprTree) (env : Env) (rows : Outcome (List A)) (row : A → Value) (p : Part) (step : Part → A → Outcome Part)
    → RowsAre legs env row rows → eval builder env ≡ done (building p) → BodySteps b n x body env row step → eval (gathered legs builder b n x body) env ≡ map_out plain (folded_result step p rows)
gathered_is {A} legs builder b n x body env rows row p step over starts steps =
    ap (λ o. and_then o finished) (sym (and_then-assoc (eval_legs legs env) rows_of from) ∙ ap (λ o. and_then o from) over) ∙ by rows
  where
    each_row : Row → Thing → Outcome Thing
    each_row r t = eval body ((x, plain r.1) ∷ (n, plain (whole_number r.0)) ∷ (b, t) ∷ env)

    from : List Value → Outcome Thing
    from vs = and_then (eval builder env) (λ s. run (number_from 0 vs) s each_row)

    by : (o : Outcome (List A)) → and_then (and_then (map_out (map row) o) from) finished ≡ map_out plain (folded_result step p o)
    by (done ys) =
        ap (λ s. and_then (and_then s (λ t. run (number_from 0 (map row ys)) t each_row)) finished) starts
        ∙ ap (λ o. and_then o finished) (run_is each_row row step steps 0 p ys)
        ∙ finished_is (folded step p ys)
    by fault = refl
    by stuck = refl
