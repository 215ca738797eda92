-- A job's parts by their places among its bytes.
use Rattle.std.specs.Prelude.{ℕ, ◌-◌, ◌≤◌, Bool, List, map, length, take, drop}
use Rattle.std.specs.List.{All}
use Rattle.weld_job.specs.declared.block.Block.{Block as Found}
use Rattle.weld_job.specs.declared.block.Extent.{Extent}
use Rattle.weld_job.specs.Job.{Block, Job}

-- a block that was handed out, as plain data
abbrev pub block_of : Found → Block
block_of found = record { form = found.form; content = found.content.now }

-- the block that stands there
abbrev pub block_at : List ℕ → Extent → Block
block_at bytes e = record { form = e.form; content = take (e.to - e.from) (drop e.from bytes) }

-- the parts that stand there: so many bytes of text, and the blocks
abbrev pub job_in : List ℕ → ℕ → List Extent → Bool → Job
job_in bytes text_len extents stray = record {
  text = take text_len bytes;
  blocks = map (block_at bytes) extents;
  stray = stray;
}

-- the block ends behind its beginning, and within the bytes
abbrev pub LiesIn : List ℕ → Extent → Type 0
LiesIn bytes e = (e.from ≤ e.to) × (e.to ≤ length bytes)

-- the text and the blocks stand within the bytes
pub record AreIn (bytes : List ℕ) (text_len : ℕ) (extents : List Extent) : Type 0 where
  pub text : text_len ≤ length bytes
  pub blocks : All (LiesIn bytes) extents
