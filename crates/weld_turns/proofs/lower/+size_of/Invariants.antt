use Rattle.weld_turns.specs.CodeSize.{code_nodes}
use Rattle.weld_turns.proofs.lower.+size_of.Given as goal

abbrev pub decreases-size_of : goal.decreases-size_of
decreases-size_of l = code_nodes l.code.now
