use Rattle.std.proofs.Common.{◌≡◌}
use Rattle.weld_exec.specs.Run.{env_inputs, IsReady, left_of}
use Rattle.weld_share.proofs.Counting.{HasCounted, HasRoom}
use Rattle.weld_share.proofs.mapped.run_by.Given as goal

abbrev pub invariant-loop-value : goal.invariant-loop-value
invariant-loop-value g l = IsReady l.plan l.env × (env_inputs l.env ≡ l.inputs) × HasCounted l.plan l.env l.sharing.cut l.note × HasRoom l.plan l.env l.note

abbrev pub decreases-loop-value : goal.decreases-loop-value
decreases-loop-value g l = left_of l.plan l.env
