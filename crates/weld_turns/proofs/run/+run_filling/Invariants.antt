use Rattle.std.proofs.Common.{◌+◌, ◌*◌}
use Rattle.weld_turns.specs.CodeSize.{filling_nodes}
use Rattle.weld_turns.proofs.run.+run_filling.Given as goal

abbrev pub decreases-run_filling : goal.decreases-run_filling
decreases-run_filling l = 2 * filling_nodes l.filling.now

abbrev pub decreases-fill_part : goal.decreases-fill_part
decreases-fill_part l = 2 * filling_nodes l.filling.now + 1
