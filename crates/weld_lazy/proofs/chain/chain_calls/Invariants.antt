use Rattle.std.proofs.Common.{◌≡◌, ◌+◌, ℕ, List, drop, map}
use Rattle.weld_objects.specs.Numbering.{number_in}
use Rattle.weld_objects.specs.Lowered.{lets}
use Rattle.weld_lazy.specs.View.{view_object}
use Rattle.weld_lazy.specs.Lowering.{marks_of, chained, binders_from}
use Rattle.weld_lazy.proofs.chain.chain_calls.Given as goal

abbrev pub invariant-loop-id : goal.invariant-loop-id
invariant-loop-id l = record {
  count : l.chain.next + binders_from (marks_of l.marks) l.id (drop l.id (map view_object l.objects)) ≡ l.first + binders_from (marks_of l.marks) 0 (map view_object l.objects);
  left : (shown : List ℕ) → chained l.chain.lets (lets (marks_of l.marks) l.id l.chain.next (number_in l.chain.numbers) shown (drop l.id (map view_object l.objects)))
      ≡ lets (marks_of l.marks) 0 l.first (number_in l.fn.numbers) shown (map view_object l.objects);
}
