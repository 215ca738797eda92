-- A job put together again from its parts.
use Rattle.std.specs.Prelude.{ℕ, List, [], ◌∷◌, ◌++◌, take, drop}
use Rattle.std.specs.List.{concat, before_first, position_or_len, filter}
use Rattle.weld_job.specs.Job.{Block}
use Rattle.weld_job.specs.Blocks.{lines, is_separator, is_header, data_lines, job_of}

-- the line that parts the text from the data, where there is one
abbrev pub separator_of : List ℕ → List ℕ
separator_of job = concat (take 1 (drop (position_or_len is_separator (lines job)) (lines job)))

-- what stands in the data before the first header
abbrev pub front_of : List ℕ → List ℕ
front_of job = concat (before_first is_header (data_lines job))

-- the headers of the data
abbrev pub headers_of : List ℕ → List (List ℕ)
headers_of job = filter is_header (data_lines job)

-- each header, and its block's content after it
abbrev pub headed : List (List ℕ) → List Block → List ℕ
headed (header ∷ headers) (block ∷ blocks) = header ++ block.content ++ headed headers blocks
headed headers blocks = []

-- a job's parts in order
abbrev pub joined : List ℕ → List ℕ
joined job =
    (job_of job).text ++ separator_of job ++ front_of job ++ headed (headers_of job) (job_of job).blocks
