-- Pairs that are merged where a truth value says so.
use Rattle.std.specs.Prelude.{◌≡◌, ℕ, ◌<◌, ℤ, pos, List, [], ◌∷◌, Bool, true, if◌then◌else◌}
use Rattle.std.specs.Ordering.{int_eq}
use Rattle.weld_builders.specs.Outcome.{Outcome, done, and_then}
use Rattle.weld_meaning.specs.Thing.{Thing}
use Rattle.weld_meaning.specs.Evaluation.{truth_of}
use Rattle.weld_eval.specs.Fits.{IsTruth}
use Rattle.weld_deeds.specs.Does.{pair_done, PairFits}
use Rattle.weld_blocks.specs.Numbers.{count_of, number_at}
use Rattle.weld_blocks.specs.declared.numbers.Numbers.{Numbers}

-- a merge of two numbers as a struct where a truth value says so
abbrev pub pair_guarded : Numbers → Numbers → Numbers → ℕ → Thing → Outcome Thing
pair_guarded c d e j s = and_then (truth_of (number_at c j)) (λ (t : Bool). if t then pair_done d e j s else done s)

abbrev pub PairGuardedFits : Numbers → Numbers → Numbers → ℕ → Thing → Type 0
PairGuardedFits c d e j s = (j < count_of c) × IsTruth (number_at c j) × (truth_of (number_at c j) ≡ done true → PairFits d e j s)

-- the words whose truth value, a word that is 1, is true
abbrev pub chosen_words : List ℤ → List ℤ → List ℤ
chosen_words [] xs = []
chosen_words (t ∷ ts) [] = []
chosen_words (t ∷ ts) (x ∷ xs) = if int_eq t (pos 1) then x ∷ chosen_words ts xs else chosen_words ts xs
