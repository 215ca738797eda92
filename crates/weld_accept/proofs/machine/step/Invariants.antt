use Rattle.std.proofs.Common.{◌≡◌, [], length}
use Rattle.weld_grammar.specs.Pending.{step}
use Rattle.weld_accept.specs.Machine.{items_of, Moves}
use Rattle.weld_accept.proofs.machine.step.Given as goal

abbrev pub invariant-loop-entry : goal.invariant-loop-entry
invariant-loop-entry l = record {
  pending : step (items_of l.stack) l.class ≡ step (items_of l.fn.stack) l.class;
  made : Moves l.fn.stack l.fn.steps [] l.stack l.steps;
}

abbrev pub decreases-loop-entry : goal.decreases-loop-entry
decreases-loop-entry l = length l.stack
