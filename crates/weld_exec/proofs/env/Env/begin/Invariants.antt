use Rattle.weld_exec.specs.Run.{evaluation_of}
use Rattle.weld_exec.proofs.env.Env.begin.Given as goal

abbrev pub ghost-joined_of : goal.ghost-joined_of
ghost-joined_of a = evaluation_of a._plan.now a._env.now
