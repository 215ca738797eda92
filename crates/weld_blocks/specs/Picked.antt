-- Rows that are picked by their places.
use Rattle.std.specs.Prelude.{◌≡◌, ℕ, ◌<◌, List, length, get_or, Bool, Option}
use Rattle.weld_data.specs.Value.{Value}
use Rattle.weld_tree.specs.ExprTree.{ExprTree}
use Rattle.weld_builders.specs.Outcome.{done}
use Rattle.weld_meaning.specs.Thing.{plain}
use Rattle.weld_meaning.specs.Evaluation.{Env, eval, truth_of}
use Rattle.weld_blocks.specs.Numbers.{count_of, number_at, AreGiven, MayGive}
use Rattle.weld_blocks.specs.declared.numbers.Numbers.{Numbers}

-- it is the number of the place that stands at a place of the picked ones
abbrev pub IsPicked : Numbers → List ℕ → ℕ → Value → Type 0
IsPicked c places j v = (get_or places j 0 < count_of c) × (v ≡ number_at c (get_or places j 0))

-- it is the number that stands where a place was picked
abbrev pub StandsAt : Numbers → List ℕ → ℕ → Value → Type 0
StandsAt c places j v = (k : ℕ) × (k < length places) × (k < count_of c) × (get_or places k 0 ≡ j) × (v ≡ number_at c k)

-- it is so at each place at which the truth value is this one
abbrev pub Where : Numbers → Bool → (ℕ → Value → Type 0) → ℕ → Value → Type 0
Where t b P j v = truth_of (number_at t j) ≡ done b → P j v

-- they are what the expression comes to at each place at which the truth value is this one
abbrev pub AreNumbersWhere : ExprTree → (ℕ → Env) → Numbers → Bool → Numbers → ℕ → Type 0
AreNumbersWhere e envs t b c count = AreGiven (Where t b (λ j v. eval e (envs j) ≡ done (plain v))) c count

-- the same of those that were found
abbrev pub MayBeNumbersWhere : ExprTree → (ℕ → Env) → Numbers → Bool → Option Numbers → ℕ → Type 0
MayBeNumbersWhere e envs t b r count = MayGive (Where t b (λ j v. eval e (envs j) ≡ done (plain v))) r count
