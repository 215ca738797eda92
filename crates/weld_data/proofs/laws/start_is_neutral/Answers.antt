use Rattle.weld_data.proofs.Operations.{combination-start_left, combination-start_right}
use Rattle.weld_data.proofs.laws.start_is_neutral.Goals as goal

pub returns : goal.returns
returns c = record {
  left = combination-start_left c.args.op c.args.kind;
  right = combination-start_right c.args.op c.args.kind;
}
