-- Places in vectors, as the code answers them.
use Rattle.std.specs.Prelude.{◌≡◌, ℕ, ◌+◌, ◌*◌, ◌<◌, ◌≤◌, ◌^◌, ℤ, pos, negsuc, Result, Ok, Err, Option, Some, None, List, length}
use Rattle.weld_data.specs.declared.stop.Stop.{Stop}
use Rattle.weld_data.specs.declared.stop.Stop.TheVariants.{Fault, Memory}
use Rattle.weld_data.specs.Value.{Value}
use Rattle.weld_builders.specs.Outcome.{done, fault}
use Rattle.weld_builders.specs.Part.{as_number}
use Rattle.weld_meaning.specs.Evaluation.{part_of, strided_part}

-- the number isn't negative, or it is
-- of a number
abbrev pub NumberCount : Option ℕ → ℤ → Type 0
NumberCount (Some n) x = (x ≡ pos n) × (n < 2 ^ 63)
NumberCount None x = (n : ℕ) × (x ≡ negsuc n)

abbrev pub CountAnswer : Option ℕ → Value → Type 0
CountAnswer (Some n) v = (as_number v ≡ done (pos n)) × (n < 2 ^ 63)
CountAnswer None v = (n : ℕ) × (as_number v ≡ done (negsuc n))

-- in a vector of that length
abbrev pub PartFaults : ℕ → ℤ → ℤ → Type 0
PartFaults count x y = (vs : List Value) → length vs ≡ count → part_of vs x y ≡ fault

-- the place and how many, which are there; else there is a fault
abbrev pub BoundsAnswer : Result (ℕ × ℕ) Stop → Value → Value → ℕ → Type 0
BoundsAnswer (Ok p) s n count = (as_number s ≡ done (pos p.0)) × (as_number n ≡ done (pos p.1)) × (p.0 + p.1 ≤ count)
BoundsAnswer (Err Fault) s n count = (x y : ℤ) × (as_number s ≡ done x) × (as_number n ≡ done y) × PartFaults count x y
BoundsAnswer (Err Memory) s n count = ⊥

-- in a vector of that length
abbrev pub StrideFaults : ℕ → ℤ → ℤ → ℤ → Type 0
StrideFaults count x y z = (vs : List Value) → length vs ≡ count → strided_part vs x y z ≡ fault

-- the start, the stride and how many steps lead to the end, which is within the vector; else there is a fault
abbrev pub StepsAnswer : Result (ℕ × ℕ × ℕ) Stop → ℕ → ℕ → ℕ → ℕ → Type 0
StepsAnswer (Ok p) s e d count = (s ≡ p.0) × (e ≡ p.0 + p.2 * p.1) × (d ≡ p.1) × (1 ≤ p.1) × (e ≤ count)
StepsAnswer (Err Fault) s e d count = StrideFaults count (pos s) (pos e) (pos d)
StepsAnswer (Err Memory) s e d count = ⊥

abbrev pub StrideAnswer : Result (ℕ × ℕ × ℕ) Stop → Value → Value → Value → ℕ → Type 0
StrideAnswer (Ok p) s e d count =
    (as_number s ≡ done (pos p.0)) × (as_number e ≡ done (pos (p.0 + p.2 * p.1))) × (as_number d ≡ done (pos p.1)) × (1 ≤ p.1) × (p.0 + p.2 * p.1 ≤ count)
StrideAnswer (Err Fault) s e d count =
    (x y z : ℤ) × (as_number s ≡ done x) × (as_number e ≡ done y) × (as_number d ≡ done z) × StrideFaults count x y z
StrideAnswer (Err Memory) s e d count = ⊥
