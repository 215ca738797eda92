-- Which arguments a job's data give a program, and else what is wrong with them first.
use Rattle.std.specs.Prelude.{◌≡◌, ◌⊎◌, ℕ, ◌+◌, Bool, true, false, List, [], ◌∷◌, Option, Some, None}
use Rattle.weld_data.specs.Value.{Value}
use Rattle.weld_tree.specs.TypeTree.{TypeTree}
use Rattle.weld_tree.specs.declared.binder.Binder.{Binder}
use Rattle.weld_tree.specs.declared.code.Code.{Code}
use Rattle.weld_tree.specs.declared.code.Code.TheVariants as codes_of
use Rattle.weld_job.specs.Job.{Job}
use Rattle.weld_job.specs.Job.{Block}
use Rattle.weld_job.specs.declared.block.BlockForm.{BlockForm}
use Rattle.weld_job.specs.declared.block.BlockForm.TheVariants as forms
use Rattle.weld_meaning.specs.Typing.{noted_type}
use Rattle.weld_values.specs.Reading.{ReadsAs, WhyNot}
use Rattle.weld_inputs.specs.declared.arguments.stop.DataStop.{DataStop}
use Rattle.weld_inputs.specs.declared.arguments.stop.DataStop.TheVariants.{Unfit, Memory}
use Rattle.weld_values.specs.declared.fault.DataFault.{DataFault}
use Rattle.weld_values.specs.declared.fault.DataFault.TheVariants as faults
use Rattle.weld_table.specs.declared.wanted.Wanted.TheVariants.{Fields}
use Rattle.weld_table.specs.declared.fault.TableFault.{TableFault}
use Rattle.weld_table.specs.declared.fault.TableFault.TheVariants as tables
use Rattle.weld_table.specs.Table.{TableReads, TableFails, columns_in}

-- ---- one block

-- a table of columns of these cells, by position, gives this value; where the parameter's type is no table's, none does
abbrev pub TableGives : Option (List TypeTree) → List ℕ → Value → Type 0
TableGives None content v = ⊥
TableGives (Some ts) content v = TableReads content (Fields ts) v

-- the block gives this value of the type: it is a value block, and its content reads as the value; or the type is a table's,
-- the block is a table, and its records give the value
abbrev pub Gives : BlockForm → List ℕ → TypeTree → Value → Type 0
Gives forms.Value content t v = ReadsAs content t v
Gives forms.Table content t v = TableGives (columns_in t) content v
Gives forms.Other content t v = ⊥

-- the code of why a content doesn't read; want of memory has none
abbrev pub IsCode : DataFault → Code → Type 0
IsCode faults.Syntax code = code ≡ codes_of.Syntax
IsCode faults.Range code = code ≡ codes_of.Range
IsCode faults.Repeat code = code ≡ codes_of.Repeat
IsCode faults.Memory code = ⊥

-- the code of why a table gives no value; want of memory has none
abbrev pub IsTableCode : TableFault → Code → Type 0
IsTableCode tables.Form code = code ≡ codes_of.Form
IsTableCode tables.Length code = code ≡ codes_of.Length
IsTableCode tables.Syntax code = code ≡ codes_of.Syntax
IsTableCode tables.Range code = code ≡ codes_of.Range
IsTableCode tables.Memory code = ⊥

-- a table of such columns gives no value, for the reason of this code; where the type is no table's, that is FORM
abbrev pub NoTable : Option (List TypeTree) → List ℕ → Code → Type 0
NoTable None content code = code ≡ codes_of.Form
NoTable (Some ts) content code = (fault : TableFault) × TableFails content (Fields ts) fault × IsTableCode fault code

-- the block gives no value of the type, for the reason of this code: its header is neither a value's nor a table's, its
-- content doesn't read, or its records give no table of the type
abbrev pub Fails : BlockForm → List ℕ → TypeTree → Code → Type 0
Fails forms.Value content t code = (fault : DataFault) × WhyNot content t fault × IsCode fault code
Fails forms.Table content t code = NoTable (columns_in t) content code
Fails forms.Other content t code = code ≡ codes_of.Form

-- ---- the blocks

-- each parameter has a block, in order, which gives its argument, and no block is left
abbrev pub BlocksGive : List Binder → List Block → List Value → Type 0
BlocksGive [] [] [] = Unit {0}
BlocksGive [] [] (v ∷ vs) = ⊥
BlocksGive [] (block ∷ blocks) vs = ⊥
BlocksGive (b ∷ bs) [] vs = ⊥
BlocksGive (b ∷ bs) (block ∷ blocks) [] = ⊥
BlocksGive (b ∷ bs) (block ∷ blocks) (v ∷ vs) = Gives block.form block.content (noted_type b.note) v × BlocksGive bs blocks vs

-- the block at this number is the first that doesn't fit, where the first parameter here has the number `first`: it is
-- one too many, it is missing, or it gives its parameter no argument
abbrev pub BlocksFail : List Binder → List Block → ℕ → ℕ → Code → Type 0
BlocksFail [] [] first number code = ⊥
BlocksFail [] (block ∷ blocks) first number code = (number ≡ first) × (code ≡ codes_of.Extra)
BlocksFail (b ∷ bs) [] first number code = (number ≡ first) × (code ≡ codes_of.Missing)
BlocksFail (b ∷ bs) (block ∷ blocks) first number code =
    ((number ≡ first) × Fails block.form block.content (noted_type b.note) code)
    ⊎ ((v : Value) × Gives block.form block.content (noted_type b.note) v × BlocksFail bs blocks (first + 1) number code)

-- ---- the whole data

abbrev pub DataGive : Bool → List Binder → List Block → List Value → Type 0
DataGive true params blocks vs = ⊥
DataGive false params blocks vs = BlocksGive params blocks vs

-- the job's data give the parameters these arguments: no stray bytes stand before the blocks, and the blocks give them
abbrev pub Arguments : List Binder → Job → List Value → Type 0
Arguments params job vs = DataGive job.stray params job.blocks vs

abbrev pub DataFail : Bool → List Binder → List Block → ℕ → Code → Type 0
DataFail true params blocks number code = (number ≡ 0) × (code ≡ codes_of.Form)
DataFail false params blocks number code = BlocksFail params blocks 1 number code

-- the data don't fit: stray bytes stand before the blocks, which has the number 0, or the block at the number is the
-- first that doesn't fit, where parameters are numbered from 1
abbrev pub IsUnfit : List Binder → Job → ℕ → Code → Type 0
IsUnfit params job number code = DataFail job.stray params job.blocks number code

-- what a stop tells: a number and a code that are so, and of want of memory nothing
abbrev pub Tells : (ℕ → Code → Type 0) → DataStop → Type 0
Tells P (Unfit number code) = P number code
Tells P Memory = Unit {0}
