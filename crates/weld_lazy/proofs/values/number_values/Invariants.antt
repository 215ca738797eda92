use Rattle.std.proofs.Common.{◌≡◌, ◌≤◌, ℕ, [], length, drop, map}
use Rattle.weld_objects.specs.Numbering.{number_in}
use Rattle.weld_lazy.specs.View.{view_object}
use Rattle.weld_lazy.specs.Lowering.{marks_of, numbered}
use Rattle.weld_lazy.proofs.values.number_values.Given as goal

abbrev pub invariant-loop-id : goal.invariant-loop-id
invariant-loop-id l = record {
  count : length l.values.inputs ≤ l.id;
  left : numbered (marks_of l.marks) 0 (map view_object l.objects) (λ id. id) [] [] ≡ numbered (marks_of l.marks) l.id (drop l.id (map view_object l.objects)) (number_in l.values.numbers) l.values.params l.values.inputs;
}
