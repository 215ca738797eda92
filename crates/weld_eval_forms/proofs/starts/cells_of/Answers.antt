use Rattle.std.proofs.Common.{ap}
use Rattle.weld_data.specs.View.{view_val, view_column}
use Rattle.weld_eval_forms.proofs.Starting.{relisted}
use Rattle.weld_eval_forms.proofs.starts.cells_of.Goals as goal

pub returns-in-Ok : goal.returns-in-Ok
returns-in-Ok c = relisted c.args.op c.args.kind (view_column c.in-List.column) (view_val c.args.v.now) c.in-Ok.built (ap view_val c.in-List.is) c.in-Ok.ensures
