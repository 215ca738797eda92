use Rattle.weld_turns.specs.CodeSize.{turn_nodes}
use Rattle.weld_turns.proofs.run.+run_turn.Given as goal

abbrev pub decreases-run_turn : goal.decreases-run_turn
decreases-run_turn l = turn_nodes l.turn.now
