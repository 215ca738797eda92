-- Which values a job's data give the declarations of a script, and else what is wrong with them first.
use Rattle.std.specs.Prelude.{◌≡◌, ◌⊎◌, ℕ, ◌+◌, Bool, true, false, List, [], ◌∷◌}
use Rattle.weld_data.specs.Value.{Value}
use Rattle.weld_tree.specs.declared.code.Code.{Code}
use Rattle.weld_tree.specs.declared.code.Code.TheVariants as codes_of
use Rattle.weld_job.specs.Job.{Job}
use Rattle.weld_job.specs.Job.{Block}
use Rattle.weld_job.specs.declared.block.BlockForm.{BlockForm}
use Rattle.weld_job.specs.declared.block.BlockForm.TheVariants as forms
use Rattle.weld_values.specs.Reading.{ReadsAs, WhyNot}
use Rattle.weld_values.specs.declared.fault.DataFault.{DataFault}
use Rattle.weld_table.specs.declared.wanted.Wanted.TheVariants.{Named}
use Rattle.weld_table.specs.declared.fault.TableFault.{TableFault}
use Rattle.weld_table.specs.Table.{TableReads, TableFails}
use Rattle.weld_inputs.specs.Arguments.{IsCode, IsTableCode}
use Rattle.weld_script.specs.declared.made.Declared.{Declared}
use Rattle.weld_script.specs.declared.made.Declared.TheVariants.{Input, Table}

-- ---- one block

-- the block gives this value of what is declared: an input's is a value block, whose content reads as the value; a table's is a
-- table, whose records give the columns of the declared names
abbrev pub Gives : BlockForm → List ℕ → Declared → Value → Type 0
Gives forms.Value content (Input t) v = ReadsAs content t v
Gives forms.Table content (Input t) v = ⊥
Gives forms.Other content (Input t) v = ⊥
Gives forms.Value content (Table names ts) v = ⊥
Gives forms.Table content (Table names ts) v = TableReads content (Named names ts) v
Gives forms.Other content (Table names ts) v = ⊥

-- the block gives no value of what is declared, for the reason of this code: it is of another form, its content doesn't read, or
-- its records give no such table
abbrev pub Fails : BlockForm → List ℕ → Declared → Code → Type 0
Fails forms.Value content (Input t) code = (fault : DataFault) × WhyNot content t fault × IsCode fault code
Fails forms.Table content (Input t) code = code ≡ codes_of.Form
Fails forms.Other content (Input t) code = code ≡ codes_of.Form
Fails forms.Value content (Table names ts) code = code ≡ codes_of.Form
Fails forms.Table content (Table names ts) code = (fault : TableFault) × TableFails content (Named names ts) fault × IsTableCode fault code
Fails forms.Other content (Table names ts) code = code ≡ codes_of.Form

-- ---- the blocks

-- each declaration has a block, in order, which gives its value, and no block is left
abbrev pub BlocksGive : List Declared → List Block → List Value → Type 0
BlocksGive [] [] [] = Unit {0}
BlocksGive [] [] (v ∷ vs) = ⊥
BlocksGive [] (block ∷ blocks) vs = ⊥
BlocksGive (d ∷ ds) [] vs = ⊥
BlocksGive (d ∷ ds) (block ∷ blocks) [] = ⊥
BlocksGive (d ∷ ds) (block ∷ blocks) (v ∷ vs) = Gives block.form block.content d v × BlocksGive ds blocks vs

-- the block at this number is the first that doesn't fit, where the first declaration here has the number `first`: it is one too
-- many, it is missing, or it gives its declaration no value
abbrev pub BlocksFail : List Declared → List Block → ℕ → ℕ → Code → Type 0
BlocksFail [] [] first number code = ⊥
BlocksFail [] (block ∷ blocks) first number code = (number ≡ first) × (code ≡ codes_of.Extra)
BlocksFail (d ∷ ds) [] first number code = (number ≡ first) × (code ≡ codes_of.Missing)
BlocksFail (d ∷ ds) (block ∷ blocks) first number code =
    ((number ≡ first) × Fails block.form block.content d code)
    ⊎ ((v : Value) × Gives block.form block.content d v × BlocksFail ds blocks (first + 1) number code)

-- ---- the whole data

abbrev pub DataGive : Bool → List Declared → List Block → List Value → Type 0
DataGive true ds blocks vs = ⊥
DataGive false ds blocks vs = BlocksGive ds blocks vs

-- the job's data give the declarations these values: no stray bytes stand before the blocks, and the blocks give them
abbrev pub Inputs : List Declared → Job → List Value → Type 0
Inputs ds job vs = DataGive job.stray ds job.blocks vs

abbrev pub DataFail : Bool → List Declared → List Block → ℕ → Code → Type 0
DataFail true ds blocks number code = (number ≡ 0) × (code ≡ codes_of.Form)
DataFail false ds blocks number code = BlocksFail ds blocks 1 number code

-- the data don't fit: stray bytes stand before the blocks, which has the number 0, or the block at the number is the first that
-- doesn't fit, where declarations are numbered from 1
abbrev pub IsUnfit : List Declared → Job → ℕ → Code → Type 0
IsUnfit ds job number code = DataFail job.stray ds job.blocks number code
