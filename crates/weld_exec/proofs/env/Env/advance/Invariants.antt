use Rattle.std.proofs.Common.{◌≡◌, ◌-◌, ◌≤◌, length}
use Rattle.weld_exec.specs.Run.{env_inputs, rows_left, IsReady}
use Rattle.weld_exec.proofs.env.Env.advance.Given as goal

abbrev pub invariant-loop-self : goal.invariant-loop-self
invariant-loop-self l = IsReady l.plan l.self × (env_inputs l.self ≡ env_inputs l.initial.self) × (l.initial.self.at ≤ l.self.at) × (rows_left l.plan l.self ≡ rows_left l.plan l.initial.self)

abbrev pub decreases-loop-self : goal.decreases-loop-self
decreases-loop-self l = length l.plan.steps.items - l.self.at
