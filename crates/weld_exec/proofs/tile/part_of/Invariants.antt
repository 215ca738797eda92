use Rattle.weld_exec.specs.Run.{evaluation_of}
use Rattle.weld_exec.proofs.tile.part_of.Given as goal

abbrev pub ghost-part_in : goal.ghost-part_in
ghost-part_in a = evaluation_of a._plan.now a._env.now
