use Rattle.std.proofs.Common.{◌≡◌, drop}
use Rattle.weld_meaning.specs.Environment.{look_for}
use Rattle.weld_meaning.specs.Meaning.{with_arguments}
use Rattle.weld_turns.proofs.outer.argument.Given as goal

abbrev pub invariant-loop-i : goal.invariant-loop-i
invariant-loop-i l = look_for l.name.0 (with_arguments l.params l.values) ≡ look_for l.name.0 (with_arguments (drop l.i l.params) (drop l.i l.values))
