use Rattle.std.proofs.Common.{length}
use Rattle.weld_objects.specs.Reached.{reached}
use Rattle.weld_objects.specs.Lowered.{kept_values, value_numbers}
use Rattle.weld_objects.proofs.Lowering.{lowered_program, lowered_accepted, lowered_typed}
use Rattle.weld_objects.proofs.Counts.{lets_loops}
use Rattle.weld_objects.proofs.Start.{inputs_fit}
use Rattle.weld_objects.proofs.laws.objects_make_one_program.Goals as goal

pub returns : goal.returns
returns c = record {
  program = lowered_program;
  accepted = lowered_accepted;
  typed = lowered_typed;
  arguments = λ os shown m. inputs_fit (reached os shown) 0 0 _ os m.objects;
  loops = λ os shown. lets_loops (reached os shown) shown os 0 (length (kept_values (reached os shown) 0 os)) (value_numbers (reached os shown) 0 0 os (λ id. id));
}
