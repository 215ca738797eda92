-- What a job is: its text, its blocks and its stray mark, by its lines.
use Rattle.std.specs.Prelude.{ℕ, ◌==◌, Bool, false, not, ◌&&◌, ◌||◌, if◌then◌else◌, List, [], ◌∷◌, length, drop, nat_eq, codes}
use Rattle.std.specs.List.{concat, before_first, after_first, onto_first, starts_with, list_all, list_any}
use Rattle.weld_job.specs.declared.block.BlockForm.{BlockForm}
use Rattle.weld_job.specs.declared.block.BlockForm.TheVariants.{Value, Table, Other}
use Rattle.weld_job.specs.Job.{Block}
use Rattle.weld_job.specs.Job.{Job}

-- a space, a tab, a CR or an LF
abbrev pub is_space : ℕ → Bool
is_space b = b == 32 || b == 9 || b == 13 || b == 10

-- a byte that may not stand before the first header
abbrev pub is_stray : ℕ → Bool
is_stray b = not (is_space b)

-- the lines of some bytes, each with the LF that ends it; the last one may have none
abbrev pub lines : List ℕ → List (List ℕ)
lines [] = []
lines (b ∷ bs) = if b == 10 then (b ∷ []) ∷ lines bs else onto_first b (lines bs)

-- a line is a word, and then blanks up to its end, the LF that ends it among them
abbrev pub reads_as : List ℕ → List ℕ → Bool
reads_as word line = starts_with nat_eq line word && list_all is_space (drop (length word) line)

-- a line that parts the text from the data
abbrev pub is_separator : List ℕ → Bool
is_separator line = reads_as (codes "%%") line

-- a line that begins a block: its first byte is `%`
abbrev pub is_header : List ℕ → Bool
is_header [] = false
is_header (b ∷ bs) = b == 37

-- what a header says of its block
abbrev pub form_of : List ℕ → BlockForm
form_of header =
    if reads_as (codes "%value") header then Value
    else if reads_as (codes "%table") header then Table
    else Other

-- the text: all before the first separator line, and the whole job where there is none
abbrev pub text_of : List ℕ → List ℕ
text_of job = concat (before_first is_separator (lines job))

-- the lines of the data: all after the first separator line
abbrev pub data_lines : List ℕ → List (List ℕ)
data_lines job = after_first is_separator (lines job)

-- each header begins a block, whose content is the lines up to the next header
abbrev pub blocks_of : List (List ℕ) → List Block
blocks_of [] = []
blocks_of (line ∷ rest) =
    if is_header line
    then record { form = form_of line; content = concat (before_first is_header rest) } ∷ blocks_of rest
    else blocks_of rest

-- a stray byte stands before the first header
abbrev pub has_stray : List (List ℕ) → Bool
has_stray rest = list_any is_stray (concat (before_first is_header rest))

-- a job's text, blocks and stray mark
abbrev pub job_of : List ℕ → Job
job_of job = record {
  text = text_of job;
  blocks = blocks_of (data_lines job);
  stray = has_stray (data_lines job);
}
