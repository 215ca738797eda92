-- Neighbouring jobs that one worker did into one part.
use Rattle.std.specs.Prelude.{◌≡◌, ℕ, zero, suc, ◌+◌, ◌-◌, ◌<◌, ◌≤◌, List, [], ◌∷◌, ◌++◌, Option, Some, None, Result, Ok, Err}
use Rattle.weld_data.specs.declared.stop.Stop.{Stop}
use Rattle.weld_data.specs.declared.stop.Stop.TheVariants.{Fault, Memory}
use Rattle.weld_board.specs.declared.workers.span.Span.{Span}

-- so many numbers from one on
abbrev pub numbers_from : ℕ → ℕ → List ℕ
numbers_from first zero = []
numbers_from first (suc n) = numbers_from first n ++ (first + n) ∷ []

module _ {P : Type 0} where
  -- the numbers of the jobs of a span, and those of some spans, in their order
  abbrev pub jobs_of : Span P → List ℕ
  jobs_of s = numbers_from s.first (s.next - s.first)

  abbrev pub jobs_in : List (Span P) → List ℕ
  jobs_in [] = []
  jobs_in (s ∷ ss) = jobs_of s ++ jobs_in ss

  -- it has a job, and its part is what its jobs have made
  abbrev pub IsMade : (ℕ → ℕ → P → Type 0) → Span P → Type 0
  IsMade made s = (s.first < s.next) × made s.first s.next s.part

  abbrev pub AreMade : (ℕ → ℕ → P → Type 0) → List (Span P) → Type 0
  AreMade made [] = Unit {0}
  AreMade made (s ∷ ss) = IsMade made s × AreMade made ss

  -- spans that follow one another from one number to another
  abbrev pub AreSpans : (ℕ → ℕ → P → Type 0) → ℕ → ℕ → List (Span P) → Type 0
  AreSpans made from to [] = from ≡ to
  AreSpans made from to (s ∷ ss) = (s.first ≡ from) × IsMade made s × AreSpans made s.next to ss

  -- behind made spans, the last one, of which this job is the next
  pub record EndsAt (made : ℕ → ℕ → P → Type 0) (job : ℕ) (spans : List (Span P)) : Type 0 where
    pub front : List (Span P)
    pub last : Span P
    pub are : spans ≡ front ++ last ∷ []
    pub before : AreMade made front
    pub begins : last.first ≤ job
    pub next : last.next ≡ job
    pub made_so_far : made last.first job last.part

-- what holds where a fault is the answer
abbrev pub OnFault : {T : Type 0} → Result T Stop → Type 0 → Type 0
OnFault (Ok x) F = Unit {0}
OnFault (Err Fault) F = F
OnFault (Err Memory) F = Unit {0}

-- and where a worker has stopped by one
abbrev pub IfFault : Option Stop → Type 0 → Type 0
IfFault None F = Unit {0}
IfFault (Some Fault) F = F
IfFault (Some Memory) F = Unit {0}
