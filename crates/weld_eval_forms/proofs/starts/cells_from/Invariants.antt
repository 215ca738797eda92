use Rattle.std.proofs.Common.{◌≡◌}
use Rattle.weld_data.specs.View.{view_column}
use Rattle.weld_builders.specs.Part.{cells_part}
use Rattle.weld_eval_forms.specs.Starts.{numbers_in, filled}
use Rattle.weld_eval_forms.proofs.starts.cells_from.Given as goal

abbrev pub invariant-loop-place : goal.invariant-loop-place
invariant-loop-place l = l.built ≡ cells_part l.fn.op l.fn.kind (filled l.fn.op l.fn.kind (numbers_in (view_column l.column)) l.place)
