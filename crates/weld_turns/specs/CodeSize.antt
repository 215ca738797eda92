-- How much there is of code.
use Rattle.std.specs.Prelude.{ℕ, ◌+◌}
use Rattle.weld_turns.specs.declared.code.Code.{Code}
use Rattle.weld_turns.specs.declared.code.Code as code
use Rattle.weld_turns.specs.declared.code.Filling.{Filling}
use Rattle.weld_turns.specs.declared.code.Filling as filling
use Rattle.weld_turns.specs.declared.code.Turn.{Turn}
use Rattle.weld_turns.specs.declared.code.Turn as turns

-- how many nodes code has
abbrev pub code_nodes : Code → ℕ
code_nodes (code.Slot i) = 1
code_nodes (code.Literal n) = 1
code_nodes (code.Work' op a x b y) = 1 + (code_nodes x + code_nodes y)
code_nodes (code.Opposite' a x) = 1 + code_nodes x
code_nodes (code.Contrary' a x) = 1 + code_nodes x
code_nodes (code.Cast' k a x) = 1 + code_nodes x
code_nodes (code.Choice' a c b x d y) = 1 + (code_nodes c + code_nodes x + code_nodes y)
code_nodes (code.Select' a c b x d y) = 1 + (code_nodes c + code_nodes x + code_nodes y)

-- how many nodes a filling has, without those of its numbers
abbrev pub filling_nodes : Filling → ℕ
filling_nodes (filling.Put to c) = 1
filling_nodes (filling.Then' a x b y) = 1 + (filling_nodes x + filling_nodes y)
filling_nodes (filling.Either' c a x b y) = 1 + (filling_nodes x + filling_nodes y)

-- how many nodes a turn has, without those of its numbers and of its fillings
abbrev pub turn_nodes : Turn → ℕ
turn_nodes (turns.First' x a rest) = 1 + turn_nodes rest
turn_nodes (turns.Either' c a x b y) = 1 + (turn_nodes x + turn_nodes y)
turn_nodes (turns.End first c) = 1
