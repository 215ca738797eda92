use Rattle.std.proofs.Common.{◌+◌, ◌*◌}
use Rattle.weld_turns.specs.CodeSize.{code_nodes}
use Rattle.weld_turns.proofs.lower_code.+put.Given as goal

abbrev pub decreases-put_code : goal.decreases-put_code
decreases-put_code l = 4 * code_nodes l.code.now

abbrev pub decreases-bring : goal.decreases-bring
decreases-bring l = 4 * code_nodes l.code.now + 1

abbrev pub decreases-bring_place : goal.decreases-bring_place
decreases-bring_place l = 4 * code_nodes l.code.now + 1

abbrev pub decreases-put_work : goal.decreases-put_work
decreases-put_work l = 4 * (code_nodes l.x.now + code_nodes l.y.now) + 2

abbrev pub decreases-put_opposite : goal.decreases-put_opposite
decreases-put_opposite l = 4 * code_nodes l.x.now + 2
