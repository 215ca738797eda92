-- Deeds whose form is known where a loop over the rows is compiled.
use Rattle.std.specs.Prelude.{◌≡◌, ℕ, ◌<◌, List, Bool, true, if◌then◌else◌}
use Rattle.weld_data.specs.declared.kind.Kind.TheVariants as kinds
use Rattle.weld_builders.specs.Outcome.{Outcome, done, and_then}
use Rattle.weld_meaning.specs.Thing.{Thing, plain}
use Rattle.weld_meaning.specs.Evaluation.{merged, truth_of}
use Rattle.weld_built.specs.Pair.{pair}
use Rattle.weld_eval.specs.Fits.{IsTruth}
use Rattle.weld_deeds.specs.Deeds.{do_of, DeedFits}
use Rattle.weld_blocks.specs.Numbers.{count_of, number_at}
use Rattle.weld_blocks.specs.Structs.{AreLonger}
use Rattle.weld_deeds.specs.Lists.{list_at, AreAlike}
use Rattle.weld_deeds.specs.Puts.{IsPut}
use Rattle.weld_deeds.specs.declared.deed.Deed.{Deed}
use Rattle.weld_blocks.specs.declared.numbers.Numbers.{Numbers}

-- a merge of a number
abbrev pub number_done : Numbers → ℕ → Thing → Outcome Thing
number_done c j s = merged s (done (plain (number_at c j)))

abbrev pub NumberFits : Numbers → ℕ → Thing → Type 0
NumberFits c j s = (j < count_of c) × IsPut s (number_at c j)

-- a merge of two numbers as a struct
abbrev pub pair_done : Numbers → Numbers → ℕ → Thing → Outcome Thing
pair_done c d j s = merged s (done (plain (pair (number_at c j) (number_at d j))))

abbrev pub PairFits : Numbers → Numbers → ℕ → Thing → Type 0
PairFits c d j s = (j < count_of c) × (j < count_of d) × IsPut s (pair (number_at c j) (number_at d j))

-- a merge of a number where a truth value says so
abbrev pub guarded_done : Numbers → Numbers → ℕ → Thing → Outcome Thing
guarded_done c d j s = and_then (truth_of (number_at c j)) (λ (t : Bool). if t then number_done d j s else done s)

abbrev pub GuardedFits : Numbers → Numbers → ℕ → Thing → Type 0
GuardedFits c d j s = (j < count_of c) × IsTruth (number_at c j) × (truth_of (number_at c j) ≡ done true → NumberFits d j s)

-- a merge of a vector of numbers
abbrev pub list_done : List Numbers → ℕ → Thing → Outcome Thing
list_done cs j s = merged s (done (plain (list_at cs j)))

-- it can be done, and the numbers are all of kind i64
abbrev pub I64ListFits : List Numbers → ℕ → Thing → Type 0
I64ListFits cs j s = AreAlike kinds.I64 cs × AreLonger cs j × IsPut s (list_at cs j)

-- it is done as the deed is, and where that can be
pub record DoesAs (does : ℕ → Thing → Outcome Thing) (fits : ℕ → Thing → Type 0) (d : Deed) : Type 0 where
  pub same : (j : ℕ) (s : Thing) → does j s ≡ do_of d j s
  pub can : (j : ℕ) (s : Thing) → DeedFits d j s → fits j s
