use Rattle.std.proofs.Common.{◌≡◌, [], length}
use Rattle.weld_grammar.specs.Pending.{can_end}
use Rattle.weld_accept.specs.Machine.{items_of, Moves}
use Rattle.weld_accept.proofs.machine.finish.Given as goal

abbrev pub invariant-loop-entry : goal.invariant-loop-entry
invariant-loop-entry l = record {
  pending : can_end (items_of l.stack) ≡ can_end (items_of l.fn.stack);
  made : Moves l.fn.stack l.fn.steps [] l.stack l.steps;
}

abbrev pub decreases-loop-entry : goal.decreases-loop-entry
decreases-loop-entry l = length l.stack
