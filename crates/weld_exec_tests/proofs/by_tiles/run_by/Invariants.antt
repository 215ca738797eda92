use Rattle.std.proofs.Common.{◌≡◌}
use Rattle.weld_exec.specs.Run.{env_inputs, IsReady, left_of}
use Rattle.weld_exec_tests.proofs.by_tiles.run_by.Given as goal

abbrev pub invariant-loop-value : goal.invariant-loop-value
invariant-loop-value l = IsReady l.plan l.env × (env_inputs l.env ≡ l.inputs)

abbrev pub decreases-loop-value : goal.decreases-loop-value
decreases-loop-value l = left_of l.plan l.env
