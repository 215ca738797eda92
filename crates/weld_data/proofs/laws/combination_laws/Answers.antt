use Rattle.weld_data.proofs.Operations.{combination_assoc, combination_comm, InRange-combination}
use Rattle.weld_data.proofs.laws.combination_laws.Goals as goal

pub returns : goal.returns
returns c = record {
  associative = combination_assoc c.args.op c.args.kind;
  commutative = combination_comm c.args.op c.args.kind;
  in_range = InRange-combination c.args.op c.args.kind;
}
