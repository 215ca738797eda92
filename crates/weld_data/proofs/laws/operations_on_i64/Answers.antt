use Rattle.weld_data.proofs.Operations.{operation-add_i64, operation-sub_i64, operation-mul_i64, operation-div_i64, operation-rem_i64}
use Rattle.weld_data.proofs.laws.operations_on_i64.Goals as goal

pub returns : goal.returns
returns c = record {
  add = operation-add_i64 c.args.x c.args.y c.ranges.x c.ranges.y;
  sub = operation-sub_i64 c.args.x c.args.y c.ranges.x c.ranges.y;
  mul = operation-mul_i64 c.args.x c.args.y c.ranges.x c.ranges.y;
  div = operation-div_i64 c.args.x c.args.y c.ranges.x;
  rem = operation-rem_i64 c.args.x c.args.y;
}
