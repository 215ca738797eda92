use Rattle.std.proofs.Common.{◌≡◌, ◌++◌, ◌+◌, ◌*◌, ◌-◌}
use Rattle.weld_data.specs.View.{view_column}
use Rattle.weld_meaning.specs.Evaluation.{picked}
use Rattle.weld_eval.proofs.values.vector.picked_elements.Given as goal

abbrev pub invariant-loop : goal.invariant-loop
invariant-loop l =
    (l.part ++ picked (view_column l.column) l.place l.stride (l.count - l.counter) ≡ picked (view_column l.column) l.start l.stride l.count)
    × (l.place + (l.count - l.counter) * l.stride ≡ l.start + l.count * l.stride)
