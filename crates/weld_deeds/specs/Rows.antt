-- Structs of numbers, one for each row of a block, as their kinds and numbers.
use Rattle.std.specs.Prelude.{◌≡◌, ℕ, zero, suc, ◌<◌, ◌≤◌, ℤ, pos, Bool, true, if◌then◌else◌, List, [], ◌∷◌, ◌++◌, map, get_or}
use Rattle.std.specs.Ordering.{int_eq}
use Rattle.weld_data.specs.declared.kind.Kind.{Kind}
use Rattle.weld_data.specs.Kind.{IsNarrow}
use Rattle.weld_data.specs.Value.{Value}
use Rattle.weld_builders.specs.Outcome.{Outcome, done, and_then}
use Rattle.weld_meaning.specs.Thing.{Thing, plain}
use Rattle.weld_meaning.specs.Evaluation.{merged, truth_of}
use Rattle.weld_eval.specs.Fits.{IsTruth}
use Rattle.weld_blocks.specs.Numbers.{count_of, number_at}
use Rattle.weld_blocks.specs.Scope.{struct_at}
use Rattle.weld_blocks.specs.Structs.{AreLonger}
use Rattle.weld_deeds.specs.Puts.{IsPut}
use Rattle.weld_blocks.specs.declared.numbers.Numbers.{Numbers}

-- the kind of each field
abbrev pub kinds_of_columns : List Numbers → List Kind
kinds_of_columns cs = map (λ (c : Numbers). c.kind) cs

-- the words at a place, one of each field
abbrev pub words_at : List Numbers → ℕ → List ℤ
words_at cs j = map (λ (c : Numbers). get_or c.items.items j (pos 0)) cs

-- the words at so many places from one on
abbrev pub words_through : List Numbers → ℕ → ℕ → List ℤ
words_through cs j zero = []
words_through cs j (suc n) = words_at cs j ++ words_through cs (suc j) n

-- the structs at so many places from one on
abbrev pub structs_through : List Numbers → ℕ → ℕ → List Value
structs_through cs j zero = []
structs_through cs j (suc n) = struct_at cs j ∷ structs_through cs (suc j) n

-- each field has so many numbers, of a kind whose numbers lie within an i64
abbrev pub AreReady : List Numbers → ℕ → Type 0
AreReady [] count = Unit {0}
AreReady (c ∷ cs) count = IsNarrow c.kind × (count ≤ count_of c) × AreReady cs count

-- a merge of a struct of numbers
abbrev pub struct_done : List Numbers → ℕ → Thing → Outcome Thing
struct_done cs j s = merged s (done (plain (struct_at cs j)))

-- ---- the rows on which a truth value, a word that is 1, is true

abbrev pub is_chosen : Numbers → ℕ → Bool
is_chosen c j = int_eq (get_or c.items.items j (pos 0)) (pos 1)

abbrev pub words_chosen : Numbers → List Numbers → ℕ → ℕ → List ℤ
words_chosen c cs j zero = []
words_chosen c cs j (suc n) = (if is_chosen c j then words_at cs j else []) ++ words_chosen c cs (suc j) n

abbrev pub count_chosen : Numbers → ℕ → ℕ → ℕ
count_chosen c j zero = 0
count_chosen c j (suc n) = if is_chosen c j then suc (count_chosen c (suc j) n) else count_chosen c (suc j) n

abbrev pub structs_chosen : Numbers → List Numbers → ℕ → ℕ → List Value
structs_chosen c cs j zero = []
structs_chosen c cs j (suc n) = if is_chosen c j then struct_at cs j ∷ structs_chosen c cs (suc j) n else structs_chosen c cs (suc j) n

-- the words and how many rows they are
pub record AreChosenRows (c : Numbers) (cs : List Numbers) (count : ℕ) (words : List ℤ) (rows : ℕ) : Type 0 where
  pub all : words ≡ words_chosen c cs 0 count
  pub many : rows ≡ count_chosen c 0 count

-- a merge of a struct of numbers where a truth value says so
abbrev pub struct_guarded : Numbers → List Numbers → ℕ → Thing → Outcome Thing
struct_guarded c cs j s = and_then (truth_of (number_at c j)) (λ (t : Bool). if t then struct_done cs j s else done s)

abbrev pub StructGuardedFits : Numbers → List Numbers → ℕ → Thing → Type 0
StructGuardedFits c cs j s = (j < count_of c) × IsTruth (number_at c j) × (truth_of (number_at c j) ≡ done true → AreLonger cs j × IsPut s (struct_at cs j))
