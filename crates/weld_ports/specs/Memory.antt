-- Sources and sinks over memory, as contracts see them.
use Rattle.std.specs.Prelude.{ℕ, ◌+◌, ◌-◌, ◌^◌, ◌==◌, min, Bool, List}
use Rattle.std.specs.List.{list_any}

-- a source that never fails: the bytes still to come, and how many of them a read gives at most
pub record SureInput : Type 0 where
  pub left : List ℕ
  pub step : ℕ

-- a source that fails where it is told to: the numbers of the reads that fail, how many reads there were, and how many failed
pub record MemoryInput : Type 0 where
  pub left : List ℕ
  pub step : ℕ
  pub failing : List ℕ
  pub calls : ℕ
  pub faults : ℕ

-- a sink with room for so many bytes: what it took, how much of that the last flush found, and the same of its failures
pub record MemoryOutput : Type 0 where
  pub held : List ℕ
  pub settled : ℕ
  pub room : ℕ
  pub step : ℕ
  pub failing : List ℕ
  pub calls : ℕ
  pub faults : ℕ

-- one more, but never past the greatest number that the count can be
abbrev pub count_up : ℕ → ℕ
count_up count = min (count + 1) (2 ^ 64 - 1)

-- the call of this number fails
abbrev pub is_failing : List ℕ → ℕ → Bool
is_failing failing number = list_any (λ k. k == number) failing

-- how many bytes a call passes: the greatest number that is at most each of these
abbrev pub passed : ℕ → ℕ → ℕ → ℕ
passed step asked there = min step (min asked there)
