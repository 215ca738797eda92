-- What reading a job does to the bytes that a source has left.
use Rattle.std.specs.Prelude.{◌≡◌, ℕ, ◌≤◌, List, Option, length}
use Rattle.std.specs.Io.KnownBytes.{Consumes}
use Rattle.weld_job.specs.Job.{Job}
use Rattle.weld_job.specs.Blocks.{job_of}

-- the greatest number of bytes that a job may have
abbrev pub job_limit : ℕ
job_limit = 67108864

-- some bytes were taken from the front, and are gone
abbrev pub Takes : Option (List ℕ) → Option (List ℕ) → Type 0
Takes old new = (taken : List ℕ) × Consumes old new taken

-- just so many bytes were taken from the front, and are gone
abbrev pub TakesJust : ℕ → Option (List ℕ) → Option (List ℕ) → Type 0
TakesJust count old new = (taken : List ℕ) × Consumes old new taken × (length taken ≡ count)

-- a job is that of the bytes that were taken, and these are no more than a job may have
abbrev pub IsOfTaken : Option (List ℕ) → Option (List ℕ) → Job → Type 0
IsOfTaken old new job =
    (taken : List ℕ) × Consumes old new taken × (length taken ≤ job_limit) × (job ≡ job_of taken)
