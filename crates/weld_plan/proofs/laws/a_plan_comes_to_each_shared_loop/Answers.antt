use Rattle.weld_plan.proofs.Counting.{program_counts}
use Rattle.weld_plan.proofs.laws.a_plan_comes_to_each_shared_loop.Goals as goal

pub returns : goal.returns
returns c = program_counts
