-- A job and a block of its data as plain data.
use Rattle.std.specs.Prelude.{ℕ, Bool, List}
use Rattle.weld_job.specs.declared.block.BlockForm.{BlockForm}

-- what a block's header says, and the bytes that follow the header's line
pub record Block : Type 0 where
  pub form : BlockForm
  pub content : List ℕ

-- the program's text, the blocks of its data, and whether stray bytes stand before the first block
pub record Job : Type 0 where
  pub text : List ℕ
  pub blocks : List Block
  pub stray : Bool
