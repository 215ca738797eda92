use Rattle.std.proofs.Common.{◌+◌, ◌*◌}
use Rattle.weld_turns.specs.CodeSize.{code_nodes}
use Rattle.weld_turns.proofs.run.+run.Given as goal

abbrev pub decreases-compound : goal.decreases-compound
decreases-compound l = 8 * code_nodes l.code.now + 0

abbrev pub decreases-part : goal.decreases-part
decreases-part l = 8 * code_nodes l.code.now + 1

abbrev pub decreases-truth : goal.decreases-truth
decreases-truth l = 8 * code_nodes l.code.now + 2

abbrev pub decreases-worked : goal.decreases-worked
decreases-worked l = 8 * (code_nodes l.x.now + code_nodes l.y.now) + 5

abbrev pub decreases-chosen : goal.decreases-chosen
decreases-chosen l = 8 * (code_nodes l.test.now + code_nodes l.x.now + code_nodes l.y.now) + 5

abbrev pub decreases-selection : goal.decreases-selection
decreases-selection l = 8 * (code_nodes l.test.now + code_nodes l.x.now + code_nodes l.y.now) + 5

abbrev pub decreases-worked_with : goal.decreases-worked_with
decreases-worked_with l = 8 * code_nodes l.y.now + 3
