-- Loops by what a row makes of a builder.
use Rattle.std.specs.Prelude.{◌≡◌, ℕ, ℤ, List, [], ◌∷◌, map}
use Rattle.weld_data.specs.declared.kind.Kind.{Kind}
use Rattle.weld_data.specs.declared.op.MergeOp.{MergeOp}
use Rattle.weld_data.specs.Operation.{combination}
use Rattle.weld_data.specs.Value.{Value}
use Rattle.weld_tree.specs.ExprTree.{ExprTree, LegTrees}
use Rattle.weld_builders.specs.Outcome.{Outcome, done, and_then, map_out}
use Rattle.weld_builders.specs.Part.{Part, result_of}
use Rattle.weld_meaning.specs.Thing.{plain, building}
use Rattle.weld_meaning.specs.Evaluation.{Env, whole_number, rows_of, eval, eval_legs}

-- one after another, from a start; there is a fault where a step has none
abbrev pub folded : {A B : Type 0} → (B → A → Outcome B) → B → List A → Outcome B
folded step b [] = done b
folded step b (x ∷ xs) = and_then (step b x) (λ c. folded step c xs)

-- what a loop over such rows gives whose builder starts as p, by what each makes of it
abbrev pub folded_result : {A : Type 0} → (Part → A → Outcome Part) → Part → Outcome (List A) → Outcome Value
folded_result step p rows = and_then rows (λ ys. map_out result_of (folded step p ys))

-- the legs give these rows, or fault
abbrev pub RowsAre : {A : Type 0} → LegTrees → Env → (A → Value) → Outcome (List A) → Type 0
RowsAre legs env row rows = and_then (eval_legs legs env) rows_of ≡ map_out (map row) rows

-- on each row the body makes of a builder what the step does; b, n and x are the numbers of builder, row number and row
abbrev pub BodySteps : {A : Type 0} → ℕ → ℕ → ℕ → ExprTree → Env → (A → Value) → (Part → A → Outcome Part) → Type 0
BodySteps {A} b n x body env row step =
    (q : Part) (i : ℕ) (y : A) → eval body ((x, plain (row y)) ∷ (n, plain (whole_number i)) ∷ (b, building q) ∷ env) ≡ map_out building (step q y)

-- the numbers combined one after another
abbrev pub combined_all : MergeOp → Kind → ℤ → List ℤ → ℤ
combined_all op k a [] = a
combined_all op k a (x ∷ xs) = combined_all op k (combination op k a x) xs
