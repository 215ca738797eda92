use Rattle.weld_plan.proofs.Programs.{program_leads}
use Rattle.weld_plan.proofs.laws.a_plan_means_its_program.Goals as goal

pub returns : goal.returns
returns c = program_leads
