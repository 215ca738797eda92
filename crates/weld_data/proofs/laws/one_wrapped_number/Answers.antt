use Rattle.weld_data.proofs.Wrapping.{IsWrapped-wrapped, IsWrapped-only}
use Rattle.weld_data.proofs.laws.one_wrapped_number.Goals as goal

pub returns : goal.returns
returns c = record {
  found = IsWrapped-wrapped c.args.kind;
  only = λ x y w. IsWrapped-only c.args.kind x y _ w (IsWrapped-wrapped c.args.kind x);
}
